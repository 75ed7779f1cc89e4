use Rattle.std.proofs.Common.{◌≡◌, ◌∙◌, ◌++◌, ℕ, List, true, false, ap, sym, take, drop, arith, [], get_or}
use Rattle.std.proofs.lemmas.List.{append-nil}
use Rattle.cs_table.specs.Text.{front, after}
use Rattle.cs_command.specs.Words.{holds}
use Rattle.cs_table.proofs.Fronts.{taken_more, after_more, front_stop, after_stop, front_end, after_end}
use Rattle.cs_command.proofs.words.split_front.Goals as goal
use Rattle.cs_command.proofs.words.split_front.Goals.{then-loop-len-test+else-holds, else-loop-len-test}

pub loop-len-preserved : goal.loop-len-preserved
loop-len-preserved c =
    let text : List ℕ = c.args.text.now in
    let i : ℕ = c.loop-len.len in
    let passes : (holds c.args.class) (get_or text i 0) ≡ true = sym c.holds.ensures ∙ c.if-holds.true in
    record {
      within = omega arith;
      front = taken_more (holds c.args.class) text i c.loop-len-test.true passes ∙ c.loop-len.invariant.front;
      after = sym (after_more (holds c.args.class) text i c.loop-len-test.true passes) ∙ c.loop-len.invariant.after;
    }

stops : (c : goal.After-split_at) → (front (holds c.args.class) (drop c.loop-len.len c.args.text.now) ≡ []) × (after (holds c.args.class) (drop c.loop-len.len c.args.text.now) ≡ drop c.loop-len.len c.args.text.now)
stops c =
    let text : List ℕ = c.args.text.now in
    let i : ℕ = c.loop-len.len in
    elim c.loop-len-test.branch [
      | then-loop-len-test+else-holds w ↦
          let fails : (holds c.args.class) (get_or text i 0) ≡ false = sym w.holds.ensures ∙ w.if-holds.false in
          (front_stop (holds c.args.class) text i w.loop-len-test.true fails, after_stop (holds c.args.class) text i w.loop-len-test.true fails)
      | else-loop-len-test w ↦ (front_end (holds c.args.class) text i w.loop-len-test.false, after_end (holds c.args.class) text i w.loop-len-test.false)
    ]

pub returns-clause-word : goal.returns-clause-word
returns-clause-word c =
    let text : List ℕ = c.args.text.now in
    let i : ℕ = c.loop-len.len in
    c.split_at.ensures.front ∙ sym (append-nil (take i text)) ∙ ap (λ (l : List ℕ). take i text ++ l) (sym (stops c).0) ∙ c.loop-len.invariant.front

pub returns-clause-rest : goal.returns-clause-rest
returns-clause-rest c = c.split_at.ensures.back ∙ sym (stops c).1 ∙ c.loop-len.invariant.after
