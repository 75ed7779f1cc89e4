use Rattle.std.specs.Prelude.{ℕ, not, ◌||◌, List, get_or, is_some}
use Rattle.cs_overlap.specs.declared.role.Role.{Role}
use Rattle.cs_overlap.specs.declared.split.Share.{Share}
use Rattle.cs_overlap.specs.declared.table.Amount.TheVariants.{OwnWeight}
use Rattle.cs_overlap.specs.Roles.{nobody}
use Rattle.cs_overlap.specs.Sums.{amount_of}

abbrev pub share_in : Role → Share
share_in r = record { weight = amount_of OwnWeight r; is_kept = not r.is_cron || is_some r.group }

abbrev pub share_at : List Share → ℕ → Share
share_at shares j = get_or shares j (share_in nobody)
