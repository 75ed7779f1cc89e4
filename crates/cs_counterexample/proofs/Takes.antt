use Rattle.std.proofs.Common.{ℕ, ◌≡◌, ap, ◌∙◌, subst, Option, None}
use Rattle.std.specs.Option.{option_or}
use Rattle.cs_plan.specs.Plan.{Declared, as_plan}
use Rattle.cs_history.specs.Plan.{Plan}
use Rattle.cs_history.specs.Step.{State, reply}
use Rattle.cs_history.specs.declared.event.Event.{Event}
use Rattle.cs_history.specs.declared.reply.Reply.{Reply}
use Rattle.cs_history.specs.declared.run.Run.{Run}
use Rattle.cs_counterexample.specs.declared.shown.Shown.{Shown}
use Rattle.cs_counterexample.specs.Break.{break_among}
use Rattle.cs_counterexample.specs.Trial.{IsTaken, Tried, break_by_reply, break_by_start, break_from, run_by}
use Rattle.cs_counterexample.proofs.Breaks.{shown_next}

pub taken_as : (old : Tried) (d : Declared) (s : State) (shown : Option Shown) (e : Event) (new : Tried) → record { plan = d; state = s; shown = shown } ≡ old → IsTaken (as_plan d) e (record { plan = d; state = s; shown = shown }) new → IsTaken (as_plan old.plan) e old new
taken_as old d s shown e new a k = subst (λ (x : Tried). IsTaken (as_plan x.plan) e x new) a k

pub shown_as : (p : Plan) (s : State) (e : Event) (shown : Option Shown) (r : Reply) (t : ℕ) (run : Option Run) (at b new : Option Shown) → (shown ≡ None → break_among p s.running ≡ None) → r ≡ reply p s e → t ≡ s.now → run ≡ run_by e t → at ≡ break_by_start p shown s.running run → b ≡ break_by_reply p r run at → new ≡ option_or shown b → new ≡ option_or shown (break_from p s e)
shown_as p s e shown r t run at b new quiet r_is t_is run_is at_is b_is new_is =
    let started : run ≡ run_by e s.now = run_is ∙ ap (λ n. run_by e n) t_is in
    let at_start : at ≡ break_by_start p shown s.running (run_by e s.now) = at_is ∙ ap (λ o. break_by_start p shown s.running o) started in
    let broken : b ≡ break_by_reply p (reply p s e) (run_by e s.now) (break_by_start p shown s.running (run_by e s.now)) =
    b_is ∙ ap (λ x. break_by_reply p x run at) r_is ∙ ap (λ o. break_by_reply p (reply p s e) o at) started ∙ ap (λ o. break_by_reply p (reply p s e) (run_by e s.now) o) at_start in
    new_is ∙ ap (λ o. option_or shown o) broken ∙ shown_next p s e shown quiet
