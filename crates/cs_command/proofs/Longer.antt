use Rattle.std.proofs.Common.{◌≡◌, ◌==◌, ◌++◌, ◌≤◌, ℕ, List, true, length, drop, ap, refl, arith}
use Rattle.std.proofs.lemmas.Bool.Decides.{Decides-eqb}
use Rattle.std.proofs.lemmas.Slice.Eq.{starts_is}
use Rattle.std.proofs.lemmas.List.{length-append}
use Rattle.std.specs.List.{starts_with}
use Rattle.cs_command.specs.Locks.{is_below}

pub is_longer : (folder path : List ℕ) → is_below folder path ≡ true → length folder ≤ length path
is_longer folder path is =
    let parts : path ≡ folder ++ drop (length folder) path = (starts_is Decides-eqb path folder (starts_with (λ a b. a == b) path folder) refl).0 is in
    omega (arith, ap length parts, length-append folder (drop (length folder) path))
