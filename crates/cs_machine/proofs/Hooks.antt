-- The variables of a hook, one after the other.
use Rattle.std.proofs.Common.{◌≡◌, ℕ, ◌+◌, ◌<◌, List, take, length, get_or, None}
use Rattle.std.proofs.lemmas.List.Sums.{fold_more}
use Rattle.cs_machine.specs.Hook.{HookVariable, hook_value, hook_value_with}

pub one_more : (vs : List HookVariable) (i : ℕ) (d : HookVariable) (k : List ℕ) → i < length vs → hook_value (take (i + 1) vs) k ≡ hook_value_with k (hook_value (take i vs) k) (get_or vs i d)
one_more vs i d k below = fold_more (hook_value_with k) None vs i d below
