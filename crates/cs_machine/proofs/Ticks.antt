-- What a clock answers.
use Rattle.std.proofs.Common.{◌≡◌, ◌∙◌, ℕ, Bool, Option, true, false, if◌then◌else◌, refl, sym, ap, true≢false}
use Rattle.std.specs.Prelude.{nat_lt}
use Rattle.cs_device.specs.Count.{most_failures}
use Rattle.cs_device.specs.Telling.{Telling, said}
use Rattle.cs_device.specs.declared.clock.Tick.{Tick}
use Rattle.cs_device.specs.declared.clock.Tick.TheVariants.{At, Failed, Stop}
use Rattle.cs_machine.specs.Passing.{is_over, shown}

abbrev is_minute : Tick → Bool
is_minute (At n) = true
is_minute Stop = false
is_minute Failed = false

no_minute : (b : Bool) → is_minute (if b then Failed else Stop) ≡ false
no_minute true = refl
no_minute false = refl

pub said_minute : (t : Telling) (tick : Tick) (m : ℕ) → said t tick ≡ At m → tick ≡ At m
said_minute t (At n) m is = is
said_minute t Stop m is = is
said_minute t Failed m is = absurd (true≢false (sym (ap is_minute is) ∙ no_minute (nat_lt t.failures most_failures)))

same_by : (t : Telling) (b : Bool) (m : ℕ) → said t (if b then Stop else At m) ≡ (if b then Stop else At m)
same_by t true m = refl
same_by t false m = refl

pub said_shown : (t : Telling) (limit first : Option ℕ) (m : ℕ) → said t (shown limit first m) ≡ shown limit first m
said_shown t limit first m = same_by t (is_over limit first m) m
