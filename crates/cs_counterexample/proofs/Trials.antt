-- A trial of events is a history.
use Rattle.std.proofs.Common.{◌≡◌, false, List, [], ◌∷◌, ◌++◌, sym, ap, ◌∙◌, subst, None}
use Rattle.std.specs.Option.{option_or}
use Rattle.std.proofs.lemmas.List.Sums.{fold_push}
use Rattle.cs_plan.specs.Plan.{Declared, as_plan}
use Rattle.cs_history.specs.Plan.{Plan}
use Rattle.cs_history.specs.History.{Start, History, From, history, ◌▸◌, now, running, IsLegal, IsInTime}
use Rattle.cs_history.specs.Step.{State, state_of, after, refusal}
use Rattle.cs_history.specs.declared.event.Event.{Event}
use Rattle.cs_history.proofs.Steps.{stands, legal_if}
use Rattle.cs_counterexample.specs.Break.{break_among, skip_by, break_by, first_break}
use Rattle.cs_counterexample.specs.Trial.{Tried, IsTaken, break_from, is_late}
use Rattle.cs_counterexample.proofs.Deadlines.{in_time_if}

pub record IsTrial (d : Declared) (start : Start) (es : List Event) (t : Tried) : Type 0 where
  pub plan : t.plan ≡ d
  pub state : t.state ≡ state_of (as_plan d) (history start es)
  pub legal : IsLegal (as_plan d) (history start es)
  pub in_time : IsInTime (as_plan d) (history start es)
  pub shown : t.shown ≡ first_break (as_plan d) (history start es)

history_push : (start : Start) (es : List Event) (e : Event) → history start (es ++ e ∷ []) ≡ (history start es ▸ e)
history_push start es e = fold_push (λ h e. h ▸ e) (From start) es e

break_from_history : (p : Plan) (h : History) (e : Event) → break_from p (state_of p h) e ≡ break_by p h e
break_from_history p h e = ap (λ (s : State). option_or (break_among p s.running) (skip_by p (running p h) (now h) e)) (sym (stands p h e))

pub trial_push : (d : Declared) (start : Start) (es : List Event) (e : Event) (old new : Tried) → IsTrial d start es old → IsTaken (as_plan d) e old new → IsTrial d start (es ++ e ∷ []) new
trial_push d start es e old new i k =
    let p = as_plan d in
    let h = history start es in
    let next : (h ▸ e) ≡ history start (es ++ e ∷ []) = sym (history_push start es e) in
    let legal : refusal p (state_of p h) e ≡ None = subst (λ s. refusal p s e ≡ None) i.state k.legal in
    let late = subst (λ (s : State). is_late p s.running e ≡ false) i.state k.in_time in
    record {
      plan = k.plan ∙ i.plan;
      state = k.state ∙ ap (λ s. after p s e) i.state ∙ sym (stands p h e) ∙ ap (state_of p) next;
      legal = subst (IsLegal p) next (i.legal, legal_if p h e legal);
      in_time = subst (IsInTime p) next (in_time_if p h e i.in_time late);
      shown = k.shown ∙ ap (λ o. option_or o (break_from p old.state e)) i.shown ∙ ap (λ s. option_or (first_break p h) (break_from p s e)) i.state ∙ ap (λ o. option_or (first_break p h) o) (break_from_history p h e) ∙ ap (first_break p) next;
    }
