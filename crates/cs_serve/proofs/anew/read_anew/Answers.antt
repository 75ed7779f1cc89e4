use Rattle.std.proofs.Common.{◌≡◌, ℕ, List, Option, inl, inr, subst, sym}
use Rattle.std.proofs.lemmas.Grind.{merely}
use Rattle.std.proofs.lemmas.Result.{IfOk-weaker, MatchResult-weaker}
use Rattle.cs_args.specs.Asked.{asked_run, AskedRun}
use Rattle.cs_io.specs.Files.{Failed}
use Rattle.cs_ruling.specs.declared.answer.Answer.{Answer}
use Rattle.cs_ruling.specs.declared.answer.Answer.TheVariants.{Applies, Reloads, Runs, Stops, Tells}
use Rattle.cs_ruling.specs.declared.answer.Order.{Order}
use Rattle.cs_serve.specs.Anew.{Hinders, IsRejection, RunAnswers}
use Rattle.cs_serve.specs.declared.anew.Rejection.{Rejection}
use Rattle.cs_serve.specs.declared.anew.Rejection.TheVariants.{Answered, NoFile, NoLog, NoMemory, NoOutput, NotRoot, StandardInput}
use Rattle.cs_serve.proofs.anew.read_anew.Goals as goal

module _ (a : AskedRun) (files : List ℕ → Option (List ℕ)) (before failed : Failed) where
  hindered : (order : Order) (r : Rejection) → RunAnswers a files before failed (Runs order) → Hinders order r → IsRejection a files before failed r
  hindered order (Answered ending) is never = absurd never
  hindered order StandardInput is never = tt
  hindered order NoFile is never = tt
  hindered order NoLog is never = tt
  hindered order NoOutput is never = tt
  hindered order NotRoot is has = (order, is, has)
  hindered order NoMemory is never = tt

  moved : (one other : Answer) → one ≡ other → RunAnswers a files before failed one → RunAnswers a files before failed other
  moved one other same is = subst (λ (answer : Answer). RunAnswers a files before failed answer) same is

  not_stop : (words : _) → RunAnswers a files before failed (Stops words) → ⊥
  not_stop words (w, inl (t, finds, never)) = never
  not_stop words (w, inr (x, finds, never)) = never

  no_stop : (answer : Answer) (words : _) → answer ≡ Stops words → RunAnswers a files before failed answer → ⊥
  no_stop answer words same is = not_stop words (moved answer (Stops words) same is)

  not_reload : (words : _) → RunAnswers a files before failed (Reloads words) → ⊥
  not_reload words (w, inl (t, finds, never)) = never
  not_reload words (w, inr (x, finds, never)) = never

  no_reload : (answer : Answer) (words : _) → answer ≡ Reloads words → RunAnswers a files before failed answer → ⊥
  no_reload answer words same is = not_reload words (moved answer (Reloads words) same is)

  not_apply : (path folder made : _) → RunAnswers a files before failed (Applies path folder made) → ⊥
  not_apply path folder made (w, inl (t, finds, never)) = never
  not_apply path folder made (w, inr (x, finds, never)) = never

  no_apply : (answer : Answer) (path folder made : _) → answer ≡ Applies path folder made → RunAnswers a files before failed answer → ⊥
  no_apply answer path folder made same is = not_apply path folder made (moved answer (Applies path folder made) same is)

  not_status : (words : _) → RunAnswers a files before failed (Tells words) → ⊥
  not_status words (w, inl (t, finds, never)) = never
  not_status words (w, inr (x, finds, never)) = never

  no_status : (answer : Answer) (words : _) → answer ≡ Tells words → RunAnswers a files before failed answer → ⊥
  no_status answer words same is = not_status words (moved answer (Tells words) same is)

pub accept-requires : goal.accept-requires
accept-requires g c =
    let a = asked_run c.args.words in
    let files = g.I.Inputs.whole c.args.inputs.now in
    let before = g.I.Inputs.failed c.args.inputs.now in
    let failed = g.I.Inputs.failed c.answer_anew.new.inputs in
    merely (a, files, before, failed, moved a files before failed _ _ c.in-Ok-Runs.field-0-is c.in-Ok-Runs.ensures)

pub returns-in-Ok-Runs-clause-order : goal.returns-in-Ok-Runs-clause-order
returns-in-Ok-Runs-clause-order g c =
    let a = asked_run c.args.words in
    let files = g.I.Inputs.whole c.args.inputs.now in
    let before = g.I.Inputs.failed c.args.inputs.now in
    let failed = g.I.Inputs.failed c.answer_anew.new.inputs in
    let is = moved a files before failed _ _ c.in-Ok-Runs.field-0-is c.in-Ok-Runs.ensures in
    IfOk-weaker c.accept.result _ _ (λ accepted same. subst (λ (order : Order). RunAnswers a files before failed (Runs order)) (sym same) is) c.accept.ensures.order

pub returns-in-Ok-Runs-clause-ending : goal.returns-in-Ok-Runs-clause-ending
returns-in-Ok-Runs-clause-ending g c =
    let a = asked_run c.args.words in
    let files = g.I.Inputs.whole c.args.inputs.now in
    let before = g.I.Inputs.failed c.args.inputs.now in
    let failed = g.I.Inputs.failed c.answer_anew.new.inputs in
    let is = moved a files before failed _ _ c.in-Ok-Runs.field-0-is c.in-Ok-Runs.ensures in
    MatchResult-weaker c.accept.result c.accept.ensures.hinders (λ accepted none. tt) (λ r hinders. hindered a files before failed c.in-Ok-Runs.order r is hinders)

pub returns-in-Ok-Ends-clause-ending : goal.returns-in-Ok-Ends-clause-ending
returns-in-Ok-Ends-clause-ending g c =
    moved (asked_run c.args.words) (g.I.Inputs.whole c.args.inputs.now) (g.I.Inputs.failed c.args.inputs.now) (g.I.Inputs.failed c.answer_anew.new.inputs) _ _ c.in-Ok-Ends.field-0-is c.in-Ok-Ends.ensures

pub unreachable-requires : goal.unreachable-requires
unreachable-requires g c =
    let a = asked_run c.args.words in
    let files = g.I.Inputs.whole c.args.inputs.now in
    let before = g.I.Inputs.failed c.args.inputs.now in
    let failed = g.I.Inputs.failed c.answer_anew.new.inputs in
    no_stop a files before failed _ _ c.in-Ok-Stops.field-0-is c.in-Ok-Stops.ensures

pub unreachable-requires-in-Ok-Reloads : goal.unreachable-requires-in-Ok-Reloads
unreachable-requires-in-Ok-Reloads g c =
    let a = asked_run c.args.words in
    let files = g.I.Inputs.whole c.args.inputs.now in
    let before = g.I.Inputs.failed c.args.inputs.now in
    let failed = g.I.Inputs.failed c.answer_anew.new.inputs in
    no_reload a files before failed _ _ c.in-Ok-Reloads.field-0-is c.in-Ok-Reloads.ensures

pub unreachable-requires-in-Ok-Applies : goal.unreachable-requires-in-Ok-Applies
unreachable-requires-in-Ok-Applies g c =
    let a = asked_run c.args.words in
    let files = g.I.Inputs.whole c.args.inputs.now in
    let before = g.I.Inputs.failed c.args.inputs.now in
    let failed = g.I.Inputs.failed c.answer_anew.new.inputs in
    no_apply a files before failed _ _ _ _ c.in-Ok-Applies.field-0-is c.in-Ok-Applies.ensures

pub unreachable-requires-in-Ok-Tells : goal.unreachable-requires-in-Ok-Tells
unreachable-requires-in-Ok-Tells g c =
    let a = asked_run c.args.words in
    let files = g.I.Inputs.whole c.args.inputs.now in
    let before = g.I.Inputs.failed c.args.inputs.now in
    let failed = g.I.Inputs.failed c.answer_anew.new.inputs in
    no_status a files before failed _ _ c.in-Ok-Tells.field-0-is c.in-Ok-Tells.ensures
