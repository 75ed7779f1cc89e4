use Rattle.std.proofs.Common.{◌≡◌, arith, ◌∙◌, ap, sym, length, ℕ, cond, filter, refl}
use Rattle.std.specs.List.{range_with_len}
use Rattle.cs_schedule.specs.Minutes.{is_in, minutes_where}
use Rattle.cs_schedule.proofs.Words.{count_more}
use Rattle.cs_schedule.proofs.minute_set.MinuteSet.len.Goals as goal
use Rattle.cs_schedule.proofs.minute_set.MinuteSet.len.Goals.{then-is_set, else-is_set}

pub loop-minute-preserved : goal.loop-minute-preserved
loop-minute-preserved c =
    let more = count_more (is_in c.self.inside.words) c.loop-minute.minute in
    elim c.if-is_set.branch [
      | then-is_set w ↦
          let one : ◌≡◌ {A = ℕ} (cond (is_in c.self.inside.words c.loop-minute.minute) 1 0) 1 = rw (sym c.is_set.ensures ∙ w.if-is_set.true) refl in
          (omega arith, omega (arith, more, one))
      | else-is_set w ↦
          let none : ◌≡◌ {A = ℕ} (cond (is_in c.self.inside.words c.loop-minute.minute) 1 0) 0 = rw (sym c.is_set.ensures ∙ w.if-is_set.false) refl in
          (omega arith, omega (arith, more, none))
    ]

pub returns-clause-value : goal.returns-clause-value
unfolding minutes_where
returns-clause-value c =
    let whole : c.loop-minute.minute ≡ 1440 = omega arith in
    c.loop-minute.invariant.1 ∙ ap (λ n. length (filter (is_in c.self.inside.words) (range_with_len 0 n))) whole ∙ ap (length {A = ℕ}) c.self.view_is
