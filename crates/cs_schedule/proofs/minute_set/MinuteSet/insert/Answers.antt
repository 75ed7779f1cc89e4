use Rattle.std.proofs.Common.{◌∙◌, ◌||◌, nat_eq, sym, ap, arith, List, ℕ}
use Rattle.cs_schedule.specs.Numbers.{has}
use Rattle.cs_schedule.specs.Minutes.{is_in, minutes_where}
use Rattle.cs_schedule.proofs.Ranges.{has-filter, filter_same}
use Rattle.cs_schedule.proofs.Words.{put_minute}
use Rattle.cs_schedule.proofs.minute_set.MinuteSet.insert.Goals as goal

pub returns : goal.returns
unfolding minutes_where
returns c =
    let old = c.self.inside.words in
    filter_same _ _ 0 1440 (λ k low high.
    c.put.ensures k (omega arith)
    ∙ put_minute (is_in old k) c.args.minute k
    ∙ ap (λ b. nat_eq k c.args.minute || b) (sym (has-filter (is_in old) 0 1440 k (omega arith) (omega arith)) ∙ ap (λ (s : List ℕ). has s k) c.self.view_is))
