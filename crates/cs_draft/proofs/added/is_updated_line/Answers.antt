use Rattle.std.proofs.Common.{rules, IfOk, IfSome, Bool, Result, Ok, Err, subst}
use Rattle.cs_draft.specs.Draft.{HasGiven}
use Rattle.cs_draft.proofs.added.is_updated_line.Goals as goal

all_of : {E : Type 0} (r : Result Bool E) (A B C D : Bool → Type 0) → IfOk r A → IfOk r B → IfOk r C → ((b : Bool) → A b → B b → C b → D b) → IfOk r D
all_of (Ok b) A B C D one two three then = then b one two three
all_of (Err e) A B C D one two three then = tt

pub returns : goal.returns
returns c = all_of c.is_new_line.result _ _ _ _ c.is_new_line.ensures.added c.is_new_line.ensures.left_out c.is_new_line.ensures.locked (λ b added out locked is. record {
  has_given = subst (λ e. IfSome e (HasGiven c.args.given.now c.args.line.now)) c.entry_of.ensures (c.has_given.ensures (search rules));
  kept = c.is_kept.ensures (search rules);
  timed = c.is_kept-else-not-is_kept.ensures (search rules);
  added = λ _. (added is, out is, locked is);
})
