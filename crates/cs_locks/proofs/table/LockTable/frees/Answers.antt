use Rattle.std.proofs.Common.{arith, sym, ◌∙◌}
use Rattle.cs_locks.proofs.Counts.{found, none_found}
use Rattle.cs_locks.proofs.table.LockTable.frees.Goals as goal

pub returns-then-frees_in : goal.returns-then-frees_in
returns-then-frees_in c hs ws counted waiting taking listed = sym (found _ _ hs ws c.loop-group.group counted waiting c.loop-group-test.true (sym c.frees_in.ensures ∙ c.if-frees_in.true))

pub returns : goal.returns
returns c hs ws counted waiting taking listed = sym (none_found _ _ hs ws counted waiting (λ g lt. c.loop-group.invariant g (omega (arith, lt, c.loop-group-test.false))) taking listed)
