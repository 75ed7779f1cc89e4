-- What the jobs of a plan have to do with locks.
use Rattle.std.proofs.Common.{◌≡◌, ℕ, Bool, true, false, not, ◌&&◌, ◌||◌, List, [], ◌∷◌, map, Option, None, Some, refl, ap, ◌∙◌}
use Rattle.std.specs.Prelude.{◌==◌}
use Rattle.std.specs.List.{list_any}
use Rattle.cs_history.specs.History.{is_free}
use Rattle.cs_history.specs.Plan.{Plan, in_group_of, in_the_way, is_group, shares, takes_lock}
use Rattle.cs_history.specs.declared.run.Going.{Going}
use Rattle.cs_history.specs.declared.run.Run.{Run}
use Rattle.cs_locks.specs.Locks.{bars, hold_in, hold_of, takes}
use Rattle.cs_locks.specs.declared.hold.Hold.{Hold}

pub in_the_way_bars : (p : Plan) (i j : ℕ) → in_the_way p i j ≡ bars (hold_of p i) (hold_of p j)
in_the_way_bars p i j = by (p.group i)
  where
    nothing : (b c : Bool) → (b && (false && c)) ≡ false
    nothing true c = refl
    nothing false c = refl

    alone : (b : Bool) → (b && true) ≡ ((b || false) && true)
    alone true = refl
    alone false = refl

    -- i takes the lock of group g, and both take and share one or not
    of_group : (g : ℕ) (ti si tj sj : Bool) (group : Option ℕ) → ((ti && tj) && (is_group g group && not (si && sj))) ≡ bars (hold_in ti si (Some g)) (hold_in tj sj group)
    of_group g false si tj sj group = refl
    of_group g true true false sj None = refl
    of_group g true false false sj None = refl
    of_group g true true true sj None = refl
    of_group g true false true sj None = refl
    of_group g true true false sj (Some k) = refl
    of_group g true false false sj (Some k) = refl
    of_group g true true true true (Some k) = refl
    of_group g true true true false (Some k) = alone (g == k)
    of_group g true false true true (Some k) = refl
    of_group g true false true false (Some k) = alone (g == k)

    by : (group : Option ℕ) → ((takes_lock p i && takes_lock p j) && (in_group_of p group j && not (shares p i && shares p j))) ≡ bars (hold_in (takes_lock p i) (shares p i) group) (hold_of p j)
    by None = nothing (takes_lock p i && takes_lock p j) (not (shares p i && shares p j))
    by (Some g) = of_group g (takes_lock p i) (shares p i) (takes_lock p j) (shares p j) (p.group j)

any_mapped : {X : Type 0} (s : X → Bool) (t : Hold → Bool) (f : X → Hold) (xs : List X) → ((x : X) → s x ≡ t (f x)) → list_any s xs ≡ list_any t (map f xs)
any_mapped s t f [] same = refl
any_mapped s t f (x ∷ xs) same = ap (λ b. b || list_any s xs) (same x) ∙ ap (λ b. t (f x) || b) (any_mapped s t f xs same)

pub is_free_holds : (p : Plan) (rs : List Going) (j : ℕ) → is_free p rs j ≡ not (list_any (bars (hold_of p j)) (map (λ r. hold_of p r.run.job) rs))
is_free_holds p rs j = ap not (any_mapped (λ (r : Going). in_the_way p j r.run.job) (bars (hold_of p j)) (λ r. hold_of p r.run.job) rs (λ r. in_the_way_bars p j r.run.job))

pub one_is_free_holds : (p : Plan) (rs : List Going) (ws : List Run)
    → list_any (λ w. is_free p rs w.job) ws ≡ list_any (λ w. not (list_any (bars w) (map (λ r. hold_of p r.run.job) rs))) (map (λ w. hold_of p w.job) ws)
one_is_free_holds p rs ws =
    any_mapped (λ (w : Run). is_free p rs w.job) (λ h. not (list_any (bars h) (map (λ r. hold_of p r.run.job) rs))) (λ w. hold_of p w.job) ws (λ w. is_free_holds p rs w.job)

pub takes_hold : (p : Plan) (j g : ℕ) → takes_lock p j ≡ true → p.group j ≡ Some g → takes (hold_of p j) ≡ true
takes_hold p j g taking group = ap (λ o. takes (hold_in (takes_lock p j) (shares p j) o)) group ∙ ap (λ b. takes (hold_in b (shares p j) (Some g))) taking ∙ by (shares p j)
  where
    by : (b : Bool) → takes (hold_in true b (Some g)) ≡ true
    by true = refl
    by false = refl
