-- The due minutes of a day are those of its shape.
use Rattle.std.proofs.Common.{◌≡◌, ◌≢◌, ◌<◌, ◌+◌, ◌%◌, ℕ, Bool, true, false, cond, ◌&&◌, refl, sym, ◌∙◌}
use Rattle.cs_civil.specs.Calendar.{Kind, IsKind}
use Rattle.cs_schedule.specs.Minutes.{minutes_where}
use Rattle.cs_schedule.specs.Times.{Times, is_day_due, is_due as is_listed, is_time_due}
use Rattle.cs_zone.specs.declared.shape.Shape.TheVariants.{Never, Plain, Jump}
use Rattle.cs_zone.specs.Starts.{is_due}
use Rattle.cs_zone.specs.Zone.{IsZone, Zone}
use Rattle.cs_zone.specs.Shape.{is_due_in, is_due_shifted, is_plain, is_shifted, is_turned, neighbour, shape_of, shifted_shape, turn}
use Rattle.cs_zone.proofs.Collecting.{same_where}
use Rattle.cs_zone.proofs.Comings.{plain_day, shifted_day, still}

at : (z : Zone) (s : Times) (k : Kind) (minute : ℕ) → IsZone z → IsKind k → minute < 1440 → (shape_of z s k ≡ Jump → ⊥) → is_due_in z s (shape_of z s k) minute ≡ is_due z s k minute
at z s k minute h is lt calm = by (is_plain z k) refl (is_shifted z k) refl
  where
    plain : (day : Bool) → is_day_due s k ≡ day → is_due_in z s (cond day Plain Never) minute ≡ is_listed s k minute
    plain true e = rw e (right (is_time_due s minute))
      where
        right : (b : Bool) → b ≡ (b && true)
        right true = refl
        right false = refl
    plain false e = rw e (left (is_time_due s minute))
      where
        left : (b : Bool) → false ≡ (b && false)
        left true = refl
        left false = refl

    shifted : (same other : Bool) → is_due_in z s (shifted_shape same other) minute ≡ is_due_shifted z s same other minute
    shifted true true = refl
    shifted true false = refl
    shifted false true = refl
    shifted false false = turned (is_turned z minute)
      where
        turned : (b : Bool) → false ≡ (cond b false false && is_time_due s ((minute + turn z) % 1440))
        turned true = refl
        turned false = refl

    by : (p : Bool) → is_plain z k ≡ p → (f : Bool) → is_shifted z k ≡ f → is_due_in z s (shape_of z s k) minute ≡ is_due z s k minute
    by true e _ _ = rw e (plain (is_day_due s k) refl) ∙ sym (plain_day z s k minute h is e lt)
    by false e true i = rw (e, i) (shifted (is_day_due s k) (is_day_due s (neighbour z k))) ∙ sym (shifted_day z s k minute h is i lt)
    by false e false i = absurd (calm (rw (e, i) refl))

pub in_shape : (z : Zone) (s : Times) (k : Kind) → IsZone z → IsKind k → shape_of z s k ≢ Jump → minutes_where (is_due_in z s (shape_of z s k)) ≡ minutes_where (is_due z s k)
in_shape z s k h is calm = same_where (is_due_in z s (shape_of z s k)) (is_due z s k) (λ m lt. at z s k m h is lt calm)

pub still_minutes : (z : Zone) (s : Times) (k : Kind) → IsKind k → z.saving ≡ 0 → minutes_where (is_listed s k) ≡ minutes_where (is_due z s k)
still_minutes z s k is none = same_where (is_listed s k) (is_due z s k) (λ m lt. sym (still z s k m is lt none))
