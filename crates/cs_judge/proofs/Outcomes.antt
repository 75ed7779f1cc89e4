use Rattle.std.proofs.Common.{◌≡◌, inl, inr, ℕ, List}
use Rattle.cs_claims.specs.Content.{Content}
use Rattle.cs_check.specs.Checked.{IsHeadline, certificate_in}
use Rattle.cs_plan.specs.Plan.{Declared, as_plan}
use Rattle.cs_place.specs.declared.places.Place.{Place}
use Rattle.cs_judge.specs.Answer.{IsAnswer, IsSafeMade, IsStory, unknown_outcome}
use Rattle.cs_judge.specs.Judged.{IsJudgement}
use Rattle.cs_maker.specs.declared.reason.Reason.{Reason}
use Rattle.cs_maker.specs.declared.reason.Reason.TheVariants.{TooManyClasses, LeafTooLong, TooDeep, NoReach, NoScript, NotChecked, NoMemory}
use Rattle.cs_judge.specs.declared.answers.Outcome.{Outcome}
use Rattle.cs_judge.specs.declared.answers.Outcome.TheVariants as outcome
use Rattle.cs_judge.specs.declared.answers.Wanted.{Wanted}
use Rattle.cs_judge.specs.declared.answers.Wanted.TheVariants.{Certificate, Compact, Verdict}
use Rattle.cs_judge.specs.declared.judged.Judged.{Judged}
use Rattle.cs_judge.specs.declared.judged.Judged.TheVariants.{Safe, Unsafe, Unknown}

unknown_not_safe : {A : Type 0} (reason : Reason) (found : Outcome) → found ≡ unknown_outcome reason
    → found ≡ outcome.Safe → A
unknown_not_safe TooManyClasses found is safe = absurd (cc)
unknown_not_safe LeafTooLong found is safe = absurd (cc)
unknown_not_safe TooDeep found is safe = absurd (cc)
unknown_not_safe NoReach found is safe = absurd (cc)
unknown_not_safe NoScript found is safe = absurd (cc)
unknown_not_safe NotChecked found is safe = absurd (cc)
unknown_not_safe NoMemory found is safe = absurd (cc)

pub safe_stands : (wanted : Wanted) (plan : Declared) (places : List Place) (judged : Judged) (found : Outcome)
    (text : List ℕ) → IsJudgement plan judged → IsAnswer wanted plan places judged found text
    → found ≡ outcome.Safe → IsHeadline (as_plan plan)
safe_stands wanted plan places (Safe checked) found text known is safe = known.headline
safe_stands Verdict plan places (Unsafe script shown breach) found text known is safe =
    let found_so = is.0 in absurd (cc)
safe_stands Certificate plan places (Unsafe script shown breach) found text known is safe =
    let found_so = is.0 in absurd (cc)
safe_stands Compact plan places (Unsafe script shown breach) found text known is safe =
    let found_so = is.1.0 in absurd (cc)
safe_stands Verdict plan places (Unknown reason refusal) found text known is safe =
    unknown_not_safe reason found is.0 safe
safe_stands Certificate plan places (Unknown reason refusal) found text known is safe =
    unknown_not_safe reason found is.0 safe
safe_stands Compact plan places (Unknown reason refusal) found text known is safe =
    unknown_not_safe reason found is.1.0 safe

unknown_not_unsafe : {A : Type 0} (reason : Reason) (found : Outcome) → found ≡ unknown_outcome reason
    → found ≡ outcome.Unsafe → A
unknown_not_unsafe TooManyClasses found is unsafe = absurd (cc)
unknown_not_unsafe LeafTooLong found is unsafe = absurd (cc)
unknown_not_unsafe TooDeep found is unsafe = absurd (cc)
unknown_not_unsafe NoReach found is unsafe = absurd (cc)
unknown_not_unsafe NoScript found is unsafe = absurd (cc)
unknown_not_unsafe NotChecked found is unsafe = absurd (cc)
unknown_not_unsafe NoMemory found is unsafe = absurd (cc)

made_not_unsafe : {A : Type 0} (c : Content) (found : Outcome) (text : List ℕ)
    → IsSafeMade c found text → found ≡ outcome.Unsafe → A
made_not_unsafe c found text (inl made) unsafe = let found_so = made.0 in absurd (cc)
made_not_unsafe c found text (inr made) unsafe = let found_so = made.0 in absurd (cc)

pub unsafe_stands : (wanted : Wanted) (plan : Declared) (places : List Place) (judged : Judged) (found : Outcome)
    (text : List ℕ) → IsJudgement plan judged → IsAnswer wanted plan places judged found text
    → found ≡ outcome.Unsafe → IsStory plan places text
unsafe_stands Verdict plan places (Safe checked) found text known is unsafe =
    let found_so = is.0 in absurd (cc)
unsafe_stands Certificate plan places (Safe checked) found text known is unsafe =
    made_not_unsafe (certificate_in checked) found text is unsafe
unsafe_stands Compact plan places (Safe checked) found text known is unsafe =
    made_not_unsafe (certificate_in checked) found text is.1 unsafe
unsafe_stands Verdict plan places (Unsafe script shown breach) found text known is unsafe =
    record { script = script; shown = shown; shows = known.shown; told = is.1 }
unsafe_stands Certificate plan places (Unsafe script shown breach) found text known is unsafe =
    record { script = script; shown = shown; shows = known.shown; told = is.1 }
unsafe_stands Compact plan places (Unsafe script shown breach) found text known is unsafe =
    record { script = script; shown = shown; shows = known.shown; told = is.1.1 }
unsafe_stands Verdict plan places (Unknown reason refusal) found text known is unsafe =
    unknown_not_unsafe reason found is.0 unsafe
unsafe_stands Certificate plan places (Unknown reason refusal) found text known is unsafe =
    unknown_not_unsafe reason found is.0 unsafe
unsafe_stands Compact plan places (Unknown reason refusal) found text known is unsafe =
    unknown_not_unsafe reason found is.1.0 unsafe
