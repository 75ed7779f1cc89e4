-- A journal from a base.
use Rattle.std.specs.Prelude.{◌≡◌, List, [], ◌∷◌, ⊤, fold}
use Rattle.cs_history.specs.declared.event.Event.{Event}
use Rattle.cs_history.specs.declared.reply.Reply.{Reply}
use Rattle.cs_history.specs.Plan.{Plan}
use Rattle.cs_history.specs.History.{History, From, ◌▸◌, Start, IsLegal}
use Rattle.cs_history.specs.Step.{State, state_of, reply}

-- the history in a journal
abbrev pub told : Start → List (Event × Reply) → History
told s es = fold (λ h e. h ▸ e.0) (From s) es

-- each reply is the one that the history gives, from h on
abbrev pub AreReplies : Plan → History → List (Event × Reply) → Type 0
AreReplies p h [] = ⊤
AreReplies p h (e ∷ es) = (e.1 ≡ reply p (state_of p h) e.0) × AreReplies p (h ▸ e.0) es

-- the journal is a legal history with its replies, and leaves this state
pub record IsJournal (p : Plan) (base : Start) (es : List (Event × Reply))
    (state : State) : Type 0 where
  pub legal : IsLegal p (told base es)
  pub replies : AreReplies p (From base) es
  pub leaves : state ≡ state_of p (told base es)
