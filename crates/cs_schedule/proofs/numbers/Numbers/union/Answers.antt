use Rattle.std.proofs.Common.{◌≡◌, ◌<◌, ◌∙◌, ◌||◌, ap, sym, ℕ, List}
use Rattle.cs_schedule.specs.Numbers.{has, has_bit}
use Rattle.cs_schedule.proofs.Ranges.{numbers_same, has-numbers_where}
use Rattle.cs_schedule.proofs.Words.{either_in}
use Rattle.cs_schedule.proofs.numbers.Numbers.union.Goals as goal

pub returns : goal.returns
returns c =
    let v = c.self.inside.word in
    let w = c.other.inside.word in
    let mine : (n : ℕ) → n < 64 → has_bit v n ≡ has c.args.self.now n = λ n below. sym (has-numbers_where (has_bit v) n below) ∙ ap (λ (f : List ℕ). has f n) c.self.view_is in
    let theirs : (n : ℕ) → n < 64 → has_bit w n ≡ has c.args.other.now n = λ n below. sym (has-numbers_where (has_bit w) n below) ∙ ap (λ (f : List ℕ). has f n) c.other.view_is in
    numbers_same _ _ (λ n below. either_in v w n ∙ ap (λ b. b || has_bit w n) (mine n below) ∙ ap (λ b. has c.args.self.now n || b) (theirs n below))
