-- The windows of successive kinds are those of their classes.
use Rattle.std.proofs.Common.{ℕ, zero, suc, ◌+◌, ◌<◌, ◌≤◌, ◌≡◌, ◌==◌, Bool, true, false, cond, List, [], ◌∷◌, ◌++◌, map, filter, length, refl, sym, ap, ◌∙◌, arith, if◌then◌else◌}
use Rattle.std.specs.Prelude.{flat_map}
use Rattle.std.specs.List.{range_with_len}
use Rattle.std.proofs.lemmas.List.{length-map}
use Rattle.cs_civil.specs.Calendar.{Kind, IsKind}
use Rattle.cs_history.specs.Lists.{below}
use Rattle.cs_history.specs.Plan.{Plan, is_cron}
use Rattle.cs_history.specs.Calm.{reach}
use Rattle.cs_windows.specs.Windows.{Job, starting, day_minutes, windows_from, windows_on}
use Rattle.cs_windows.specs.declared.window.Window.{Window}
use Rattle.cs_windows.specs.Window.{window, reaches}
use Rattle.cs_theorem.specs.Certificate.{Certificate}
use Rattle.cs_theorem.specs.Accepted.{begins_on, occupied, due_in, reach_in, windows_of, IsChain}

abbrev pub seen : {D : Type 0} → Plan → (ℕ → D → ℕ → Bool) → (ℕ → ℕ) → List ℕ → List (Job D)
seen p on c js = map (λ j. record { begins = begins_on p on j; lasts = reach p c j }) js

module _ {D E : Type 0} (p : Plan) (c : ℕ → ℕ) (on : ℕ → D → ℕ → Bool) (un : ℕ → E → ℕ → Bool) (x : D) (y : E)
    (same : (j m : ℕ) → m < 1440 → begins_on p on j x m ≡ begins_on p un j y m) where
  start_same : (back m first : ℕ) (js : List ℕ) → m < 1440 → starting x back m first (seen p on c js) ≡ starting y back m first (seen p un c js)
  start_same back m first [] lt = refl
  start_same back m first (j ∷ js) lt =
      ap (λ (b : Bool). cond b (window first back m (reach p c j) ∷ starting x back m (first + 1) (seen p on c js)) (starting x back m (first + 1) (seen p on c js))) (same j m lt)
      ∙ ap (λ (ws : List Window). cond (begins_on p un j y m) (window first back m (reach p c j) ∷ ws) ws) (start_same back m (first + 1) js lt)

  flat_same : (back : ℕ) (js : List ℕ) (a n : ℕ) → a + n ≤ 1440 → flat_map (λ m. starting x back m 0 (seen p on c js)) (range_with_len a n) ≡ flat_map (λ m. starting y back m 0 (seen p un c js)) (range_with_len a n)
  flat_same back js a zero le = refl
  flat_same back js a (suc n) le =
      ap (λ (ws : List Window). ws ++ flat_map (λ m. starting x back m 0 (seen p on c js)) (range_with_len (a + 1) n)) (start_same back a 0 js (omega (arith, le)))
      ∙ ap (λ (ws : List Window). starting y back a 0 (seen p un c js) ++ ws) (flat_same back js (a + 1) n (omega (arith, le)))

  pub day_same : (back : ℕ) (js : List ℕ) → windows_from (seen p on c js) x back ≡ windows_from (seen p un c js) y back
  unfolding day_minutes
  day_same back js = flat_same back js 0 1440 (omega arith)

module _ (p : Plan) (on : ℕ → Kind → ℕ → Bool) (a : Certificate) (due : (k : Kind) → IsKind k → (j m : ℕ) → is_cron p j ≡ true → m < 1440 → a.due (a.class_of k) j m ≡ on j k m) where
  same_step : (b : Bool) (x y z : Bool) → (b ≡ true → x ≡ y) → (if b then x else z) ≡ (if b then y else z)
  same_step true x y z e = e refl
  same_step false x y z e = refl

  -- what the checker computes from kinds is what the rules have for classes
  pub by_kinds : (ks : List Kind) → IsChain ks → windows_on (occupied p on (reach_in p a)) ks ≡ windows_of p a (map a.class_of ks)
  by_kinds [] chain = refl
  by_kinds (k ∷ ks) chain =
      let here = day_same p (reach_in p a) on (due_in a) k (a.class_of k) (λ j m lt. same_step (is_cron p j) (on j k m) (due_in a j (a.class_of k) m) (m == p.from) (λ cron. sym (due k chain.0 j m cron lt))) (length ks) (below p.jobs) in
      ap (λ (ws : List Window). filter reaches ws ++ windows_on (occupied p on (reach_in p a)) ks) here
      ∙ (ap (λ (l : ℕ). filter reaches (windows_from (occupied p (due_in a) (reach_in p a)) (a.class_of k) l) ++ windows_on (occupied p on (reach_in p a)) ks) (sym (length-map ks a.class_of))
      ∙ ap (λ (ws : List Window). filter reaches (windows_from (occupied p (due_in a) (reach_in p a)) (a.class_of k) (length (map a.class_of ks))) ++ ws) (by_kinds ks chain.2))
