-- How the parts of an entry make it up.
use Rattle.std.specs.Prelude.{◌≡◌, ◌≢◌, ◌⊎◌, ◌≤◌, pos, unsigned_abs, int_le, true, List, [], All, AllPairs}
use Rattle.cs_plan.specs.declared.limits.TheConstants.{MAX_MINUTES}
use Rattle.cs_decl.specs.declared.entries.PartEntry.{PartEntry}
use Rattle.cs_decl.specs.declared.entries.CronEntry.{CronEntry}
use Rattle.cs_decl.specs.Faults.{minutes_of}

-- from 1 to 4,320 minutes
abbrev pub IsPossiblePart : PartEntry → Type 0
IsPossiblePart p = (1 ≤ unsigned_abs p.max) × (unsigned_abs p.max ≤ MAX_MINUTES)
    × (p.max ≡ pos (unsigned_abs p.max))

abbrev pub HaveOwnNames : List PartEntry → Type 0
HaveOwnNames parts = AllPairs (λ p q. p.name ≢ q.name) parts

-- none; or parts with different names and possible times, together within the longest time
abbrev pub AreItsParts : CronEntry → Type 0
AreItsParts e = (e.parts ≡ []) ⊎ ((int_le (pos (minutes_of e.parts)) e.max ≡ true)
    × All IsPossiblePart e.parts × HaveOwnNames e.parts)
