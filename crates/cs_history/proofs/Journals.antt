-- One step more in a journal.
use Rattle.std.proofs.Common.{◌≡◌, List, [], ◌∷◌, ◌++◌, sym, ap, ◌∙◌, subst, Ok, fold}
use Rattle.std.proofs.lemmas.List.Sums.{fold_push}
use Rattle.cs_history.specs.declared.event.Event.{Event}
use Rattle.cs_history.specs.declared.reply.Reply.{Reply}
use Rattle.cs_history.specs.Plan.{Plan}
use Rattle.cs_history.specs.History.{History, From, ◌▸◌, Start, IsLegal}
use Rattle.cs_history.specs.Step.{State, state_of, reply, Steps}
use Rattle.cs_history.specs.Journal.{told, AreReplies, IsJournal}
use Rattle.cs_history.proofs.Steps.{follows}

pub told_push : (s : Start) (es : List (Event × Reply)) (e : Event × Reply) → told s (es ++ e ∷ []) ≡ (told s es ▸ e.0)
told_push s es e = fold_push (λ h e. h ▸ e.0) (From s) es e

replies_push : (p : Plan) (h : History) (es : List (Event × Reply)) (e : Event × Reply) → AreReplies p h es → e.1 ≡ reply p (state_of p (fold (λ h e. h ▸ e.0) h es)) e.0 → AreReplies p h (es ++ e ∷ [])
replies_push p h [] e a r = (r, tt)
replies_push p h (x ∷ es) e a r = (a.0, replies_push p (h ▸ x.0) es e a.1 r)

pub journal_grows : (p : Plan) (base : Start) (es : List (Event × Reply)) (old new : State) (e : Event) (r : Reply) → IsJournal p base es old → Steps p old e (Ok r) new → IsJournal p base (es ++ (e, r) ∷ []) new
journal_grows p base es old new e r j s =
    let f = follows p (told base es) e (Ok r) old new j.leaves s in
    let next = told_push base es (e, r) in
    record {
      legal = subst (IsLegal p) (sym next) (j.legal, f.0);
      replies = replies_push p (From base) es (e, r) j.replies f.1;
      leaves = f.2 ∙ ap (state_of p) (sym next);
    }
