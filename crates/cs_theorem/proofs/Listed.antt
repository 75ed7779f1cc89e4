-- Different windows that are all in a list weigh no more than the list.
use Rattle.std.proofs.Common.{ℕ, ◌≤◌, ◌≡◌, Bool, true, false, not, ◌&&◌, ◌||◌, cond, if◌then◌else◌, List, [], ◌∷◌, filter, refl, sym, ap, ◌∙◌, subst, arith}
use Rattle.std.specs.List.{AllByRecursion, list_any}
use Rattle.std.proofs.lemmas.Bool.{both_ways}
use Rattle.cs_history.specs.declared.run.Run.{Run}
use Rattle.cs_history.specs.Lists.{total, greatest, below}
use Rattle.cs_history.specs.Plan.{Plan, is_cron, takes_lock, shares, locks}
use Rattle.cs_history.specs.History.{same_run}
use Rattle.cs_history.specs.Calm.{lock_load, load, AreDifferent}
use Rattle.cs_history.proofs.Lists.{all_zip, all_any, any_at, total_without, total_le, greatest_at}
use Rattle.cs_history.proofs.Names.{run_is}

kept_step : (w v : Run) (xs : List Run) → same_run w v ≡ false → (list_any (same_run v) xs ≡ true → list_any (same_run v) (filter (λ x. not (same_run w x)) xs) ≡ true) → (x : Run) → (a b : Bool) → same_run w x ≡ a → same_run v x ≡ b → (b || list_any (same_run v) xs) ≡ true → list_any (same_run v) (cond (not a) (x ∷ filter (λ x. not (same_run w x)) xs) (filter (λ x. not (same_run w x)) xs)) ≡ true
kept_step w v xs e ih x true true ha hb h = absurd (both_ways (same_run w v) e (subst (λ y. same_run w y ≡ true) (sym (run_is v x hb)) ha))
kept_step w v xs e ih x true false ha hb h = ih h
kept_step w v xs e ih x false true ha hb h = ap (λ (s : Bool). s || list_any (same_run v) (filter (λ x. not (same_run w x)) xs)) hb
kept_step w v xs e ih x false false ha hb h = ap (λ (s : Bool). s || list_any (same_run v) (filter (λ x. not (same_run w x)) xs)) hb ∙ ih h

still_listed : (w v : Run) → same_run w v ≡ false → (xs : List Run) → list_any (same_run v) xs ≡ true → list_any (same_run v) (filter (λ x. not (same_run w x)) xs) ≡ true
still_listed w v e [] h = h
still_listed w v e (x ∷ xs) h = kept_step w v xs e (still_listed w v e xs) x (same_run w x) (same_run v x) refl refl h

total_within : (f : Run → ℕ) (ws all : List Run) → AreDifferent ws → AllByRecursion (λ w. list_any (same_run w) all ≡ true) ws → total f ws ≤ total f all
total_within f [] all d a = omega arith
total_within f (w ∷ ws) all d a =
    let rest = total_within f ws (filter (λ x. not (same_run w x)) all) d.1
    (all_zip (λ v. same_run w v ≡ false) (λ v. list_any (same_run v) all ≡ true) (λ v. list_any (same_run v) (filter (λ x. not (same_run w x)) all) ≡ true) ws (λ v e h. still_listed w v e all h) d.0 a.1) in
    let one_out = total_without (same_run w) f (f w) all (λ x e. let h : f w ≡ f x = ap f (run_is w x e) in omega (arith, h)) a.0 in
    omega (arith, rest, one_out)

greatest_within : (f : Run → ℕ) (ws all : List Run) → AllByRecursion (λ w. list_any (same_run w) all ≡ true) ws → greatest f ws ≤ greatest f all
greatest_within f [] all a = omega arith
greatest_within f (w ∷ ws) all a =
    let found = any_at (same_run w) (λ x. f x ≤ greatest f all) all a.0 (greatest_at f all) in
    let h : f w ≡ f found.0 = ap f (run_is w found.0 found.1) in
    omega (arith, h, found.2, greatest_within f ws all a.1)

pub load_within : (p : Plan) (ws all : List Run) → AreDifferent ws → AllByRecursion (λ w. list_any (same_run w) all ≡ true) ws → load p ws ≤ load p all
load_within p ws all d a =
    let x = total_within (λ w. if is_cron p w.job && not (takes_lock p w.job) then p.weight w.job else 0) ws all d a in
    let z = greatest_within (λ w. if not (is_cron p w.job) then p.weight w.job else 0) ws all a in
    let y = total_le (lock_load p ws) (lock_load p all) (below p.groups) (all_any (λ g. lock_load p ws g ≤ lock_load p all g) (below p.groups) (λ g.
    let u = greatest_within (λ w. if locks p g w.job && not (shares p w.job) then p.weight w.job else 0) ws all a in
    let v = total_within (λ w. if locks p g w.job && shares p w.job then p.weight w.job else 0) ws all d a in
    omega (arith, u, v))) in
    omega (arith, x, y, z)
