use Rattle.std.proofs.Common.{◌≡◌, ◌∙◌, List, ℕ, sym, ap, length, drop}
use Rattle.cs_place.specs.Places.{before_word}
use Rattle.cs_place.proofs.Words.{blank_end, nothing, shorter, solid_end}
use Rattle.cs_place.proofs.places.split_last_word.Goals as goal

pub returns-then-is_blank-clause-before : goal.returns-then-is_blank-clause-before
returns-then-is_blank-clause-before c =
    c.split_at.ensures.front ∙ sym c.loop-rest.invariant.front
    ∙ blank_end c.loop-rest.rest.now c.in-len1-up.len_at_least (sym c.is_blank.ensures ∙ c.if-is_blank.true)
    ∙ c.loop-rest.invariant.same

pub returns-then-is_blank-clause-word : goal.returns-then-is_blank-clause-word
returns-then-is_blank-clause-word c =
    let before : c.loop-rest.rest.now ≡ before_word c.args.text.now =
    blank_end c.loop-rest.rest.now c.in-len1-up.len_at_least (sym c.is_blank.ensures ∙ c.if-is_blank.true)
    ∙ c.loop-rest.invariant.same in
    c.split_at.ensures.back ∙ ap (λ (l : List ℕ). drop (length l) c.args.text.now) before

pub loop-rest-preserved : goal.loop-rest-preserved
loop-rest-preserved c =
    record {
      front = shorter c.args.text.now c.loop-rest.rest.now c.in-len1-up.len_at_least c.loop-rest.invariant.front;
      same = solid_end c.loop-rest.rest.now c.in-len1-up.len_at_least (sym c.is_blank.ensures ∙ c.if-is_blank.false) ∙ c.loop-rest.invariant.same;
    }

pub returns-clause-before : goal.returns-clause-before
returns-clause-before c =
    c.split_at-2.ensures.front ∙ sym c.loop-rest.invariant.front
    ∙ nothing c.loop-rest.rest.now c.in_default.len_below ∙ c.loop-rest.invariant.same

pub returns-clause-word : goal.returns-clause-word
returns-clause-word c =
    let before : c.loop-rest.rest.now ≡ before_word c.args.text.now =
    nothing c.loop-rest.rest.now c.in_default.len_below ∙ c.loop-rest.invariant.same in
    c.split_at-2.ensures.back ∙ ap (λ (l : List ℕ). drop (length l) c.args.text.now) before
