use Rattle.std.proofs.Common.{◌≡◌, ℕ, ◌+◌, ◌<◌, ◌++◌, ◌∷◌, [], List, Bool, true, false, length, slice_index_or, refl, sym, subst, arith, inl, inr}
use Rattle.std.proofs.lemmas.Bool.{cases_lt}
use Rattle.std.proofs.lemmas.List.{get_or_push, get_or_append_left}
use Rattle.cs_theorem.specs.Faults.{has_waiter}
use Rattle.cs_claims.specs.Certificate.{bound_in}
use Rattle.cs_claims.specs.declared.class.Class.{Class}
use Rattle.cs_classes.specs.declared.group_day.GroupDay.{GroupDay}
use Rattle.cs_classes.specs.GroupDays.{AreGroupDays, IsGroupDay, Leads, no_day}
use Rattle.cs_classes.specs.Work.{IsSteady, arrivals_in}
use Rattle.cs_classes.proofs.Midnight.{steps_join, steps_split}
use Rattle.cs_history.specs.Plan.{Plan}

pub one_more : (p : Plan) (class : Class) (days : List GroupDay) (n : ℕ) (day : GroupDay) → length days ≡ n
    → ((g : ℕ) → g < n → IsGroupDay p class g (slice_index_or days g no_day)) → IsGroupDay p class n day
    → (g : ℕ) → g < n + 1 → IsGroupDay p class g (slice_index_or (days ++ day ∷ []) g no_day)
one_more p class days n day long before here g lt =
    elim (cases_lt g n) [
      | inl sooner ↦ subst (IsGroupDay p class g) (sym (get_or_append_left days (day ∷ []) no_day g (omega (arith, sooner, long)))) (before g sooner)
      | inr last ↦
          let same : g ≡ n = omega (arith, last, lt) in
          let end : length days ≡ g = omega (arith, long, same) in
          subst (IsGroupDay p class g) (sym (get_or_push days day no_day g end)) (subst (λ (k : ℕ). IsGroupDay p class k day) (sym same) here)
    ]

-- where each group's eve leads to its day, the bounds follow what arrives
pub steady_from_leads : (p : Plan) (e d : Class) (eve day : List GroupDay) → AreGroupDays p e eve → AreGroupDays p d day
    → ((g : ℕ) → g < length eve → g < length day → Leads (slice_index_or eve g no_day) (slice_index_or day g no_day)) → IsSteady p e d
steady_from_leads p e d eve day a b leads g lt waiter =
    let l = leads g (omega (arith, a.0, lt)) (omega (arith, b.0, lt)) in
    let v = (a.1 g lt).waited waiter in
    let w = (b.1 g lt).waited waiter in
    steps_join (bound_in e g) (arrivals_in p e g) (bound_in d g) (v.within.0 l.0) (omega (arith, l.1, v.last, w.start))

pub leads_from_steady : (p : Plan) (e d : Class) (eve day : List GroupDay) → AreGroupDays p e eve → AreGroupDays p d day → IsSteady p e d
    → (g : ℕ) → g < length eve → g < length day → Leads (slice_index_or eve g no_day) (slice_index_or day g no_day)
leads_from_steady p e d eve day a b steady g lt other = step (has_waiter p g) refl
  where
    within : g < p.groups
    within = omega (arith, lt, a.0)

    step : (w : Bool) → has_waiter p g ≡ w → Leads (slice_index_or eve g no_day) (slice_index_or day g no_day)
    step true q =
        let s = steps_split (bound_in e g) (arrivals_in p e g) (bound_in d g) (steady g within q) in
        let v = (a.1 g within).waited q in
        let w = (b.1 g within).waited q in
        (v.within.1 s.0, omega (arith, s.1, v.last, w.start))
    step false q =
        let f = (a.1 g within).free q in
        (f.0, omega (arith, f.1))
