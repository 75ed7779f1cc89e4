use Rattle.std.proofs.Common.{refl, [], ◌∷◌}
use Rattle.cs_history.specs.declared.mode.Mode.TheVariants.{Shared, Skip, Try, Wait}
use Rattle.cs_ruling.specs.Loads.{locked, ungrouped, unlocked}
use Rattle.cs_ruling.proofs.Midnight.{needs}
use Rattle.cs_ruling.proofs.loads.what_a_minute_needs.Goals as goal

pub returns-clause-ungrouped : goal.returns-clause-ungrouped
returns-clause-ungrouped c = needs (ungrouped 1 ∷ ungrouped 2 ∷ []) [] 3 (λ n. (refl, refl))

pub returns-clause-unlocked : goal.returns-clause-unlocked
returns-clause-unlocked c = needs (unlocked 0 1 ∷ unlocked 0 2 ∷ []) [] 3 (λ n. (refl, refl))

pub returns-clause-waiting : goal.returns-clause-waiting
returns-clause-waiting c = needs (locked Wait 0 1 ∷ locked Wait 0 2 ∷ []) [] 2 (λ n. (refl, refl))

pub returns-clause-trying : goal.returns-clause-trying
returns-clause-trying c = needs (locked Try 0 2 ∷ locked Try 0 1 ∷ []) [] 2 (λ n. (refl, refl))

pub returns-clause-skipping : goal.returns-clause-skipping
returns-clause-skipping c = needs (locked Skip 0 2 ∷ []) [] 2 (λ n. (refl, refl))

pub returns-clause-sharing : goal.returns-clause-sharing
returns-clause-sharing c = needs (locked Shared 0 1 ∷ locked Shared 0 2 ∷ []) [] 3 (λ n. (refl, refl))

pub returns-clause-more_share : goal.returns-clause-more_share
returns-clause-more_share c = needs (locked Shared 0 1 ∷ locked Wait 0 2 ∷ locked Shared 0 2 ∷ []) [] 3 (λ n. (refl, refl))

pub returns-clause-one_is_heavier : goal.returns-clause-one_is_heavier
returns-clause-one_is_heavier c = needs (locked Shared 0 1 ∷ locked Wait 0 4 ∷ locked Shared 0 2 ∷ []) [] 4 (λ n. (refl, refl))

pub returns-clause-two_locks : goal.returns-clause-two_locks
returns-clause-two_locks c = needs (locked Wait 0 1 ∷ locked Wait 1 2 ∷ []) [] 3 (λ n. (refl, refl))

pub returns-clause-catch_up : goal.returns-clause-catch_up
returns-clause-catch_up c = needs [] (ungrouped 1 ∷ ungrouped 2 ∷ []) 2 (λ n. (refl, refl))

pub returns-clause-together : goal.returns-clause-together
returns-clause-together c = needs (ungrouped 1 ∷ unlocked 0 2 ∷ locked Wait 0 4 ∷ locked Shared 0 3 ∷ locked Shared 1 5 ∷ locked Shared 1 3 ∷ locked Wait 1 7 ∷ []) (unlocked 0 16 ∷ ungrouped 9 ∷ []) 31 (λ n. (refl, refl))
