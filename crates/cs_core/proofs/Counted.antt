-- Locks are counted run by run.
use Rattle.std.proofs.Common.{ℕ, ◌+◌, ◌≤◌, ◌≡◌, true, List, [], ◌∷◌, ◌++◌, length, refl, sym, ap, ◌∙◌, arith}
use Rattle.std.specs.List.{AllByRecursion}
use Rattle.cs_history.specs.History.{same_run}
use Rattle.cs_history.specs.Lists.{number_of}
use Rattle.cs_history.specs.Plan.{Plan}
use Rattle.cs_history.specs.declared.run.Run.{Run}
use Rattle.cs_history.specs.declared.run.Going.{Going}
use Rattle.cs_history.proofs.Lists.{all-map, all_any, one, total-map}
use Rattle.cs_locks.specs.Locks.{IsWithOne, hold_of, is_listed, takes}
use Rattle.cs_locks.specs.declared.hold.Hold.{Hold}
use Rattle.cs_roster.specs.Roster.{has, others}
use Rattle.cs_core.specs.Standing.{going_holds, names, waiting_holds}
use Rattle.cs_core.proofs.Runs.{one_less}

module _ (p : Plan) where
  pub holds_push : (xs : List Going) (y : Going) → going_holds p (xs ++ y ∷ []) ≡ going_holds p xs ++ hold_of p y.run.job ∷ []
  holds_push [] y = refl
  holds_push (x ∷ xs) y = ap (λ (hs : List Hold). hold_of p x.run.job ∷ hs) (holds_push xs y)

  pub holds_counted : (xs : List Going) → length (going_holds p xs) ≡ length xs
  holds_counted [] = refl
  holds_counted (x ∷ xs) = omega (arith, holds_counted xs)

  pub holds_less : (r : Run) (xs : List Going) → number_of (λ x. same_run r x.run) xs ≤ 1 → has xs r ≡ true → IsWithOne (hold_of p r.job) (going_holds p (others xs r)) (going_holds p xs)
  holds_less r xs once there t =
      total-map (λ h. one (t h)) (λ (x : Going). hold_of p x.run.job) xs ∙ one_less (λ q. t (hold_of p q.job)) r xs once there
      ∙ ap (λ n. n + one (t (hold_of p r.job))) (sym (total-map (λ h. one (t h)) (λ (x : Going). hold_of p x.run.job) (others xs r)))

  pub names_hold : (xs : List Going) → waiting_holds p (names xs) ≡ going_holds p xs
  names_hold [] = refl
  names_hold (x ∷ xs) = ap (λ (hs : List Hold). hold_of p x.run.job ∷ hs) (names_hold xs)

  pub all_take : (ws : List Run) → AllByRecursion (λ w. takes (hold_of p w.job) ≡ true) ws → AllByRecursion (λ h. takes h ≡ true) (waiting_holds p ws)
  all_take ws a = all-map (λ h. takes h ≡ true) (λ (w : Run). hold_of p w.job) ws a

  pub all_placed_in : (ws : List Run) → ((j : ℕ) → is_listed (hold_of p j) ≡ true) → AllByRecursion (λ h. is_listed h ≡ true) (waiting_holds p ws)
  all_placed_in ws l = all-map (λ h. is_listed h ≡ true) (λ (w : Run). hold_of p w.job) ws (all_any (λ (w : Run). is_listed (hold_of p w.job) ≡ true) ws (λ w. l w.job))
