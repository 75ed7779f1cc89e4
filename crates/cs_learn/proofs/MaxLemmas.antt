-- a longest time with and without a run that ended
use Rattle.std.proofs.Common.{◌≡◌, ℕ, ◌<◌, Option, None, Some, refl, subst}
use Rattle.std.specs.Prelude.{IfSome, IsNone, IsSomeAnd}
use Rattle.cs_learn.specs.Learned.{IsMaxOf, seconds_since}
use Rattle.cs_learn.specs.Max.{IsEnough, IsMax}
use Rattle.cs_learn.specs.declared.evidence.Evidence.{Evidence}
use Rattle.cs_learn.specs.declared.evidence.Ran.{Ran}
use Rattle.cs_retrace.specs.declared.maxes.TheConstants.{LONGEST_MAX}

pub max_is : (factor unended : ℕ) (known : Evidence) (ran : Ran) (result : Option ℕ) → Some ran ≡ known.longest → unended ≡ seconds_since known.longest_open → IfSome result (IsMax ran.seconds unended factor) → (IsNone result → (minutes : ℕ) → IsEnough ran.seconds unended factor minutes → LONGEST_MAX < minutes)
    → IsMaxOf factor known result
max_is factor unended known ran (Some max) is since value none =
    subst (λ (o : Option Ran). IsSomeAnd o (λ r. IsMax r.seconds (seconds_since known.longest_open) factor max)) is (subst (λ (s : ℕ). IsMax ran.seconds s factor max) since value)
max_is factor unended known ran None is since value none =
    subst (λ (o : Option Ran). IfSome o (λ r. (minutes : ℕ) → IsEnough r.seconds (seconds_since known.longest_open) factor minutes → LONGEST_MAX < minutes)) is
    (subst (λ (s : ℕ). (minutes : ℕ) → IsEnough ran.seconds s factor minutes → LONGEST_MAX < minutes) since (none refl))

pub no_run : (factor : ℕ) (known : Evidence) → None ≡ known.longest → IsMaxOf factor known None
no_run factor known is = subst (λ (o : Option Ran). IfSome o (λ r. (minutes : ℕ) → IsEnough r.seconds (seconds_since known.longest_open) factor minutes → LONGEST_MAX < minutes)) is tt
