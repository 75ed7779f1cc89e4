use Rattle.std.proofs.Common.{[], inl, inr, refl, subst}
use Rattle.std.proofs.lemmas.Option.{IfSome_then}
use Rattle.std.proofs.lemmas.Result.{err_from_is_err_and}
use Rattle.cs_args.specs.Asked.{asked, asked_check, asked_judge, asked_make, asked_replay, asked_run}
use Rattle.cs_cli.specs.Judge.{AnswersJudge, AnswersMake, IsJudged, wanted_of}
use Rattle.cs_findings.proofs.FormatLemmas.{in_leads}
use Rattle.cs_judge.specs.declared.answers.Wanted.{Wanted}
use Rattle.cs_judge.specs.declared.answers.Wanted.TheVariants.{Verdict}
use Rattle.cs_files.specs.Asked.{FindsPlan}
use Rattle.cs_files.specs.Trouble.{trouble}
use Rattle.cs_files.specs.Turn.{table_paths}
use Rattle.cs_files.proofs.AskedLemmas.{stopped, tries_nothing}
use Rattle.cs_files.proofs.TurnLemmas.{none_read}
use Rattle.cs_ruling.specs.Answer.{AnswersRun}
use Rattle.cs_ruling.specs.Safe.{IsChecked}
use Rattle.cs_ruling.specs.declared.answer.Answer.TheVariants.{Ends}
use Rattle.cs_ruling.proofs.CheckLemmas.{check_answered, check_stopped, run_stopped}
use Rattle.cs_show.specs.Replayed.{AnswersReplay, FindsScript, IsReplyTo}
use Rattle.cronsafe.proofs.Replies.{as_text, ends_as, in_form}
use Rattle.cronsafe.proofs.responding.find_task.Goals as goal

pub returns-in_err-question-in-Day-clause-value : goal.returns-in_err-question-in-Day-clause-value
returns-in_err-question-in-Day-clause-value g c = λ fresh.
    let p = err_from_is_err_and c.from_residual.result c.from_residual.ensures.1 in
    let a = asked c.in-Day.words in
    let warns = inl (refl, none_read (table_paths a.table a.anacrontab) (g.I.Inputs.reads c.args.inputs.now)) in
    rw (c.in-Day.is, p.1, p.2) ([], tries_nothing _, (warns, λ ending same. inl (c.in_err-question-in-Day.field-0.0, c.in_err-question-in-Day.ensures.err, refl, refl, same)))

pub returns-in_err-question-in-Day-clause-turn : goal.returns-in_err-question-in-Day-clause-turn
returns-in_err-question-in-Day-clause-turn g c =
    let a = asked c.in-Day.words in
    rw (c.in-Day.is) (none_read (table_paths a.table a.anacrontab) (g.I.Inputs.reads c.args.inputs.now))

pub returns-in_err-tables-in-Day-clause-value : goal.returns-in_err-tables-in-Day-clause-value
returns-in_err-tables-in-Day-clause-value g c = λ fresh.
    let p = err_from_is_err_and c.from_residual-in_err-tables-in-Day.result c.from_residual-in_err-tables-in-Day.ensures.1 in
    let (w, told, (warns, came)) = c.in_err-tables-in-Day.ensures.value fresh in
    rw (c.in-Day.is, p.1, p.2) (w, told, (warns, IfSome_then (trouble c.in_err-tables-in-Day.field-0.0) came (λ t is ending same. inr (c.in_ok-question-in-Day.question, c.in_ok-question-in-Day.ensures.ok, inl (t, is, same)))))

pub returns-in_ok-tables-in-Day-clause-value : goal.returns-in_ok-tables-in-Day-clause-value
returns-in_ok-tables-in-Day-clause-value g c = λ fresh.
    let (w, told, (warns, came)) = c.in_ok-tables-in-Day.ensures.value fresh in
    rw (c.in-Day.is) (w, told, (warns, ends_as (λ e is. inr (c.in_ok-question-in-Day.question, c.in_ok-question-in-Day.ensures.ok, inr (c.in_ok-tables-in-Day.tables, came, is)))))

pub returns-in_err-found-in-Replay-clause-value : goal.returns-in_err-found-in-Replay-clause-value
returns-in_err-found-in-Replay-clause-value g c = λ fresh.
    let p = err_from_is_err_and c.from_residual-in_err-found-in-Replay.result c.from_residual-in_err-found-in-Replay.ensures.1 in
    let a = asked_replay c.in-Replay.words in
    let (w, told, (warns, came)) = c.in_err-found-in-Replay.ensures.value fresh in
    rw (c.in-Replay.is, p.1, p.2) (w, told, (warns, as_text (λ e. AnswersReplay a (g.I.Inputs.whole c.args.inputs.now) w (g.I.Inputs.failed c.args.inputs.now) (g.I.Inputs.failed c.find_script.new.inputs) e) c.in_err-found-in-Replay.field-0.0 (stopped (FindsScript (g.I.Inputs.whole c.args.inputs.now) a w) (IsReplyTo a) (g.I.Inputs.failed c.args.inputs.now) (g.I.Inputs.failed c.find_script.new.inputs) c.in_err-found-in-Replay.field-0.0 came)))

pub returns-in_ok-found-in-Replay-clause-value : goal.returns-in_ok-found-in-Replay-clause-value
returns-in_ok-found-in-Replay-clause-value g c = λ fresh.
    let (w, told, (warns, came)) = c.in_ok-found-in-Replay.ensures.value fresh in
    rw (c.in-Replay.is) (w, told, (warns, ends_as (λ e is. inr (c.in_ok-found-in-Replay.found, came, is))))

pub returns-in_err-claimed-in-Check-clause-value : goal.returns-in_err-claimed-in-Check-clause-value
returns-in_err-claimed-in-Check-clause-value g c = λ fresh.
    let p = err_from_is_err_and c.from_residual-in_err-claimed-in-Check.result c.from_residual-in_err-claimed-in-Check.ensures.1 in
    let (w, told, (warns, came)) = c.in_err-claimed-in-Check.ensures.value fresh in
    rw (c.in-Check.is, p.1, p.2) (w, told, (warns, in_form c.in-Check.words.format (λ e. IsChecked (asked_check c.in-Check.words) (g.I.Inputs.whole c.args.inputs.now) w (g.I.Inputs.failed c.args.inputs.now) (g.I.Inputs.failed c.find_claimed.new.inputs) e) c.in_err-claimed-in-Check.field-0.0 (check_stopped (asked_check c.in-Check.words) (g.I.Inputs.whole c.args.inputs.now) w (g.I.Inputs.failed c.args.inputs.now) (g.I.Inputs.failed c.find_claimed.new.inputs) c.in_err-claimed-in-Check.field-0.0 came)))

pub returns-in_ok-claimed-in-Check-clause-value : goal.returns-in_ok-claimed-in-Check-clause-value
returns-in_ok-claimed-in-Check-clause-value g c = λ fresh.
    let (w, told, (warns, came)) = c.in_ok-claimed-in-Check.ensures.value fresh in
    rw (c.in-Check.is) (w, told, (warns, ends_as (λ e. in_leads c.in-Check.words.format e (λ plain is. check_answered (asked_check c.in-Check.words) (g.I.Inputs.whole c.args.inputs.now) w (g.I.Inputs.failed c.args.inputs.now) (g.I.Inputs.failed c.find_claimed.new.inputs) c.in_ok-claimed-in-Check.claimed plain came is))))

pub returns-in_err-claimed-in-Run-clause-value : goal.returns-in_err-claimed-in-Run-clause-value
returns-in_err-claimed-in-Run-clause-value g c = λ fresh.
    let p = err_from_is_err_and c.from_residual-in_err-claimed-in-Run.result c.from_residual-in_err-claimed-in-Run.ensures.1 in
    let (w, told, (warns, came)) = c.in_err-claimed-in-Run.ensures.value fresh in
    rw (c.in-Run.is, p.1, p.2) (w, told, (warns, as_text (λ e. AnswersRun (asked_run c.in-Run.words) (g.I.Inputs.whole c.args.inputs.now) w (g.I.Inputs.failed c.args.inputs.now) (g.I.Inputs.failed c.find_claimed-in-Run.new.inputs) (Ends e)) c.in_err-claimed-in-Run.field-0.0 (run_stopped (asked_run c.in-Run.words) (g.I.Inputs.whole c.args.inputs.now) w (g.I.Inputs.failed c.args.inputs.now) (g.I.Inputs.failed c.find_claimed-in-Run.new.inputs) c.in_err-claimed-in-Run.field-0.0 came)))

pub returns-in_ok-claimed-in-Run-clause-value : goal.returns-in_ok-claimed-in-Run-clause-value
returns-in_ok-claimed-in-Run-clause-value g c = λ fresh.
    let (w, told, (warns, came)) = c.in_ok-claimed-in-Run.ensures.value fresh in
    rw (c.in-Run.is) (w, told, (warns, λ answer is. inr (c.in_ok-claimed-in-Run.claimed, came, is)))

pub returns-in_err-planned-in-Judge-clause-value : goal.returns-in_err-planned-in-Judge-clause-value
returns-in_err-planned-in-Judge-clause-value g c = λ fresh.
    let p = err_from_is_err_and c.from_residual-in_err-planned-in-Judge.result c.from_residual-in_err-planned-in-Judge.ensures.1 in
    let a = asked_judge c.in-Judge.words in
    let (w, told, (warns, came)) = c.in_err-planned-in-Judge.ensures.value fresh in
    rw (c.in-Judge.is, p.1, p.2) (w, told, (warns, in_form a.format (λ e. AnswersJudge a (g.I.Inputs.whole c.args.inputs.now) w (g.I.Inputs.failed c.args.inputs.now) (g.I.Inputs.failed c.find_plan.new.inputs) e) c.in_err-planned-in-Judge.field-0.0 (stopped (FindsPlan (g.I.Inputs.whole c.args.inputs.now) a.table a.anacrontab a.declarations w) (λ x. IsJudged Verdict x.plan x.places) (g.I.Inputs.failed c.args.inputs.now) (g.I.Inputs.failed c.find_plan.new.inputs) c.in_err-planned-in-Judge.field-0.0 came)))

pub returns-in_ok-planned-in-Judge-clause-value : goal.returns-in_ok-planned-in-Judge-clause-value
returns-in_ok-planned-in-Judge-clause-value g c = λ fresh.
    let (w, told, (warns, came)) = c.in_ok-planned-in-Judge.ensures.value fresh in
    rw (c.in-Judge.is) (w, told, (warns, ends_as (λ e. in_leads c.in-Judge.words.format e (λ plain is. inr (c.in_ok-planned-in-Judge.planned, came, is)))))

pub returns-in_err-planned-in-Make-clause-value : goal.returns-in_err-planned-in-Make-clause-value
returns-in_err-planned-in-Make-clause-value g c = λ fresh.
    let p = err_from_is_err_and c.from_residual-in_err-planned-in-Make.result c.from_residual-in_err-planned-in-Make.ensures.1 in
    let a = asked_judge c.in-Make.words.judge in
    let (w, told, (warns, came)) = c.in_err-planned-in-Make.ensures.value fresh in
    rw (c.in-Make.is, p.1, p.2) (w, told, (warns, as_text (λ e. AnswersMake (asked_make c.in-Make.words) (g.I.Inputs.whole c.args.inputs.now) w (g.I.Inputs.failed c.args.inputs.now) (g.I.Inputs.failed c.find_plan-in-Make.new.inputs) e) c.in_err-planned-in-Make.field-0.0 (stopped (FindsPlan (g.I.Inputs.whole c.args.inputs.now) a.table a.anacrontab a.declarations w) (λ x. IsJudged (wanted_of c.in-Make.words.compact) x.plan x.places) (g.I.Inputs.failed c.args.inputs.now) (g.I.Inputs.failed c.find_plan-in-Make.new.inputs) c.in_err-planned-in-Make.field-0.0 came)))

pub returns-in_ok-planned-in-Make-clause-value : goal.returns-in_ok-planned-in-Make-clause-value
returns-in_ok-planned-in-Make-clause-value g c = λ fresh.
    let (w, told, (warns, came)) = c.in_ok-planned-in-Make.ensures.value fresh in
    let planned = c.in_ok-planned-in-Make.planned in
    rw (c.in-Make.is) (w, told, (warns, ends_as (λ e is. inr (planned, came, subst (λ (v : Wanted). IsJudged v planned.plan planned.places e) c.wanted_of.ensures is))))

pub returns-in_err-planned-in-Apply-clause-value : goal.returns-in_err-planned-in-Apply-clause-value
returns-in_err-planned-in-Apply-clause-value g c = λ fresh.
    let p = err_from_is_err_and c.from_residual-in_err-planned-in-Apply.result c.from_residual-in_err-planned-in-Apply.ensures.1 in
    let (w, told, (warns, came)) = c.in_err-planned-in-Apply.ensures.value fresh in
    rw (c.in-Apply.is, p.1, p.2) (w, told, (warns, IfSome_then (trouble c.in_err-planned-in-Apply.field-0.0) came (λ t is ending same. inl (t, is, same))))

pub returns-in_ok-planned-in-Apply-clause-value : goal.returns-in_ok-planned-in-Apply-clause-value
returns-in_ok-planned-in-Apply-clause-value g c = λ fresh.
    let (w, told, (warns, came)) = c.in_ok-planned-in-Apply.ensures.value fresh in
    rw (c.in-Apply.is) (w, told, (warns, λ answer is. inr (c.in_ok-planned-in-Apply.planned, came, is)))

pub returns-in-Stop-clause-value : goal.returns-in-Stop-clause-value
returns-in-Stop-clause-value g c = λ fresh. rw (c.in-Stop.is) ([], tries_nothing _, (refl, λ answer is. (refl, (c.in-Stop.words, refl, is))))

pub returns-in-Reload-clause-value : goal.returns-in-Reload-clause-value
returns-in-Reload-clause-value g c = λ fresh. rw (c.in-Reload.is) ([], tries_nothing _, (refl, λ answer is. (refl, (c.in-Reload.words, refl, is))))

pub returns-in-Status-clause-value : goal.returns-in-Status-clause-value
returns-in-Status-clause-value g c = λ fresh. rw (c.in-Status.is) ([], tries_nothing _, (refl, λ answer is. (refl, (c.in-Status.words, refl, is))))

pub returns-in-Advise-clause-value : goal.returns-in-Advise-clause-value
returns-in-Advise-clause-value g c = λ fresh. rw (c.in-Advise.is) ([], tries_nothing _, (refl, ends_as (λ e is. (refl, is.0, is.1))))

pub returns-in-Room-clause-value : goal.returns-in-Room-clause-value
returns-in-Room-clause-value g c = λ fresh. rw (c.in-Room.is) ([], tries_nothing _, (refl, ends_as (λ e is. (refl, is.0, is.1))))

pub returns-in-Gather-clause-value : goal.returns-in-Gather-clause-value
returns-in-Gather-clause-value g c = λ fresh. rw (c.in-Gather.is) ([], tries_nothing _, (refl, ends_as (λ e is. (refl, is.0, is.1))))

pub returns-in-Draft-clause-value : goal.returns-in-Draft-clause-value
returns-in-Draft-clause-value g c = λ fresh. rw (c.in-Draft.is) ([], tries_nothing _, (refl, ends_as (λ e is. (refl, is.0, is.1))))

pub returns-in-Learn-clause-value : goal.returns-in-Learn-clause-value
returns-in-Learn-clause-value g c = λ fresh. rw (c.in-Learn.is) ([], tries_nothing _, (refl, ends_as (λ e is. (refl, is.0, is.1))))

pub returns-in-Lint-clause-value : goal.returns-in-Lint-clause-value
returns-in-Lint-clause-value g c = λ fresh. rw (c.in-Lint.is) ([], tries_nothing _, (refl, ends_as (λ e is. (refl, is.0, is.1))))

pub returns-in-Chart-clause-value : goal.returns-in-Chart-clause-value
returns-in-Chart-clause-value g c = λ fresh. rw (c.in-Chart.is) ([], tries_nothing _, (refl, ends_as (λ e is. (refl, is.0, is.1))))

pub returns-in-Explain-clause-value : goal.returns-in-Explain-clause-value
returns-in-Explain-clause-value g c = λ fresh. rw (c.in-Explain.is) ([], tries_nothing _, (refl, ends_as (λ e is. (refl, is.0, is.1))))

pub returns-in-Diff-clause-value : goal.returns-in-Diff-clause-value
returns-in-Diff-clause-value g c = λ fresh. rw (c.in-Diff.is) ([], tries_nothing _, (refl, ends_as (λ e is. (refl, is.0, is.1))))

pub returns-in-Next-clause-value : goal.returns-in-Next-clause-value
returns-in-Next-clause-value g c = λ fresh. rw (c.in-Next.is) ([], tries_nothing _, (refl, ends_as (λ e is. (refl, is.0, is.1))))

pub returns-in-JudgeAll-clause-value : goal.returns-in-JudgeAll-clause-value
returns-in-JudgeAll-clause-value g c = λ fresh. rw (c.in-JudgeAll.is) ([], tries_nothing _, (refl, ends_as (λ e is. (refl, is.0, is.1))))

pub returns-in-LintAll-clause-value : goal.returns-in-LintAll-clause-value
returns-in-LintAll-clause-value g c = λ fresh. rw (c.in-LintAll.is) ([], tries_nothing _, (refl, ends_as (λ e is. (refl, is.0, is.1))))

pub returns-in-Wall-clause-value : goal.returns-in-Wall-clause-value
returns-in-Wall-clause-value g c = λ fresh. rw (c.in-Wall.is) (c.find_wall.ensures.value fresh)

pub returns-in-Wall-clause-turn : goal.returns-in-Wall-clause-turn
returns-in-Wall-clause-turn g c = rw (c.in-Wall.is) (c.find_wall.ensures.turn)
