use Rattle.std.proofs.Common.{◌/◌, ◌∙◌, sym, false, refl, inl, inr, arith}
use Rattle.std.proofs.lemmas.Bool.{both_ways, cases_lt}
use Rattle.cs_schedule.proofs.NearMinutes.{in_set}
use Rattle.cs_schedule.proofs.minute_set.MinuteSet.is_same.Goals as goal

pub returns-then-not-is_alike : goal.returns-then-not-is_alike
returns-then-not-is_alike c = (
  λ f. absurd (both_ways false refl f),
  λ same. absurd (both_ways c.is_alike.result c.if-not-is_alike.true (c.is_alike.ensures.1 (λ m day there. sym (in_set c.self.inside.words c.args.self.now c.self.view_is m day) ∙ same m day ∙ in_set c.other.inside.words c.args.other.now c.other.view_is m day))),
)

pub loop-place-preserved : goal.loop-place-preserved
loop-place-preserved c m day before =
    elim (cases_lt (m / 64) c.loop-place.place) [
      | inl lt ↦ c.loop-place.invariant m day lt
      | inr ge ↦ in_set c.self.inside.words c.args.self.now c.self.view_is m day ∙ c.is_alike.ensures.0 c.if-not-is_alike.false m day (omega arith) ∙ sym (in_set c.other.inside.words c.args.other.now c.other.view_is m day)
    ]
