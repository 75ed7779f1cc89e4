use Rattle.std.proofs.Common.{ℕ, ◌≡◌, Bool, true, false, not, ◌&&◌, refl, sym, ap, ◌∙◌, Option, Some, None}
use Rattle.std.proofs.lemmas.Bool.{and_parts, eqb-true, eq-eqb, and_from}
use Rattle.cs_history.specs.Plan.{Plan, takes, waits_in, takes_lock, shares, is_group, belongs, locks, in_group_of, same_group, both_share, in_the_way}
use Rattle.cs_history.specs.declared.mode.Mode.{Mode}
use Rattle.cs_history.specs.declared.mode.Mode.TheVariants.{Plain, Skip, Try, Wait, Shared}

the_group : (g : ℕ) (o : Option ℕ) → is_group g o ≡ true → o ≡ Some g
the_group g None e = absurd (cc)
the_group g (Some k) e = ap Some (sym (eqb-true g k e))

pub group_of : (p : Plan) (g j : ℕ) → locks p g j ≡ true → p.group j ≡ Some g
group_of p g j e = the_group g (p.group j) (and_parts (takes_lock p j) (belongs p g j) e).1

pub locks_takes : (p : Plan) (g j : ℕ) → locks p g j ≡ true → takes_lock p j ≡ true
locks_takes p g j e = (and_parts (takes_lock p j) (belongs p g j) e).0

pub waits_takes : (m : Mode) → waits_in m ≡ true → takes m ≡ true
waits_takes Plain e = e
waits_takes Skip e = refl
waits_takes Try e = refl
waits_takes Wait e = refl
waits_takes Shared e = refl

pub locks_of : (p : Plan) (g j : ℕ) → takes_lock p j ≡ true → p.group j ≡ Some g → locks p g j ≡ true
locks_of p g j t e = and_from (takes_lock p j) (belongs p g j) t (ap (is_group g) e ∙ eq-eqb g g refl)

same_group_is : (p : Plan) (g i j : ℕ) → locks p g i ≡ true → same_group p i j ≡ belongs p g j
same_group_is p g i j e = ap (λ o. in_group_of p o j) (group_of p g i e)

-- what is in the way of a taker of g's lock takes it
pub way_locks : (p : Plan) (g i j : ℕ) → locks p g i ≡ true → in_the_way p i j ≡ true → locks p g j ≡ true
way_locks p g i j l e =
    let h = and_parts (takes_lock p i && takes_lock p j) (same_group p i j && not (both_share p i j)) e in
    let t = and_parts (takes_lock p i) (takes_lock p j) h.0 in
    let s = and_parts (same_group p i j) (not (both_share p i j)) h.1 in
    and_from (takes_lock p j) (belongs p g j) t.1 (sym (same_group_is p g i j l) ∙ s.0)

cases_apart : (a b n w : Bool) → (a ≡ true → b ≡ true → w ≡ n) → w ≡ false → ((a && b) && n) ≡ false
cases_apart true true n w h e = sym (h refl refl) ∙ e
cases_apart true false n w h e = refl
cases_apart false b n w h e = refl

all_true : (a b s n : Bool) → a ≡ true → b ≡ true → s ≡ true → ((a && b) && (s && n)) ≡ n
all_true a b s n ha hb hs = ap (λ x. (x && b) && (s && n)) ha ∙ ap (λ x. x && (s && n)) hb ∙ ap (λ x. x && n) hs

pub held_apart : (p : Plan) (g i j : ℕ) → in_the_way p i j ≡ false → ((locks p g i && locks p g j) && not (shares p i && shares p j)) ≡ false
held_apart p g i j e = cases_apart (locks p g i) (locks p g j) (not (both_share p i j)) (in_the_way p i j)
    (λ a b. all_true (takes_lock p i) (takes_lock p j) (same_group p i j) (not (both_share p i j)) (locks_takes p g i a) (locks_takes p g j b) (same_group_is p g i j a ∙ (and_parts (takes_lock p j) (belongs p g j) b).1)) e
