use Rattle.std.proofs.Common.{[], inl, inr, refl}
use Rattle.std.specs.Prelude.{⊤}
use Rattle.std.proofs.lemmas.Option.{IfSome_then}
use Rattle.std.proofs.lemmas.Result.{err_from_is_err_and}
use Rattle.cs_advise.specs.Answer.{IsAdvisedOf}
use Rattle.cs_advise.specs.declared.answers.Question.TheVariants.{Advice, Rooms}
use Rattle.cs_args.specs.Asked.{asked_chart, asked_draft, asked_judge, asked_learn, asked_next}
use Rattle.cs_draft.specs.Answer.{FindsDraftable, PrintsDraft}
use Rattle.cs_learn.specs.Answer.{FindsLearnable, PrintsLearned}
use Rattle.cs_files.specs.Asked.{FindsPlan, FindsTables}
use Rattle.cs_files.specs.Trouble.{trouble}
use Rattle.cs_files.specs.Turn.{chart_paths, table_paths}
use Rattle.cs_files.proofs.AskedLemmas.{stopped, tries_nothing}
use Rattle.cs_files.proofs.TurnLemmas.{none_read}
use Rattle.cs_findings.proofs.FormatLemmas.{in_leads}
use Rattle.cronsafe_aids.proofs.Replies.{drafted, ended}
use Rattle.cronsafe_aids.proofs.responding.find_task.Goals as goal

pub returns-in_err-planned-in-Advise-clause-value : goal.returns-in_err-planned-in-Advise-clause-value
returns-in_err-planned-in-Advise-clause-value g c = λ fresh.
    let p = err_from_is_err_and c.from_residual.result c.from_residual.ensures.1 in
    let a = asked_judge c.in-Advise.words.judge in
    let (w, told, (warns, came)) = c.in_err-planned-in-Advise.ensures.value fresh in
    rw (c.in-Advise.is, p.1, p.2) (w, told, (warns, stopped (FindsPlan (g.I.Inputs.whole c.args.inputs.now) a.table a.anacrontab a.declarations w) (IsAdvisedOf (Advice c.in-Advise.words.within c.in-Advise.words.first)) (g.I.Inputs.failed c.args.inputs.now) (g.I.Inputs.failed c.find_plan.new.inputs) c.in_err-planned-in-Advise.field-0.0 came))

pub returns-in_ok-planned-in-Advise-clause-value : goal.returns-in_ok-planned-in-Advise-clause-value
returns-in_ok-planned-in-Advise-clause-value g c = λ fresh.
    let (w, told, (warns, came)) = c.in_ok-planned-in-Advise.ensures.value fresh in
    rw (c.in-Advise.is) (w, told, (warns, λ e is. in_leads _ e (λ plain is. inr (c.in_ok-planned-in-Advise.planned, came, is)) is))

pub returns-in_err-planned-in-Room-clause-value : goal.returns-in_err-planned-in-Room-clause-value
returns-in_err-planned-in-Room-clause-value g c = λ fresh.
    let p = err_from_is_err_and c.from_residual-in_err-planned-in-Room.result c.from_residual-in_err-planned-in-Room.ensures.1 in
    let a = asked_judge c.in-Room.words in
    let (w, told, (warns, came)) = c.in_err-planned-in-Room.ensures.value fresh in
    rw (c.in-Room.is, p.1, p.2) (w, told, (warns, stopped (FindsPlan (g.I.Inputs.whole c.args.inputs.now) a.table a.anacrontab a.declarations w) (IsAdvisedOf (Rooms)) (g.I.Inputs.failed c.args.inputs.now) (g.I.Inputs.failed c.find_plan-in-Room.new.inputs) c.in_err-planned-in-Room.field-0.0 came))

pub returns-in_ok-planned-in-Room-clause-value : goal.returns-in_ok-planned-in-Room-clause-value
returns-in_ok-planned-in-Room-clause-value g c = λ fresh.
    let (w, told, (warns, came)) = c.in_ok-planned-in-Room.ensures.value fresh in
    rw (c.in-Room.is) (w, told, (warns, λ e is. in_leads _ e (λ plain is. inr (c.in_ok-planned-in-Room.planned, came, is)) is))

pub returns-in_err-found-in-Draft-clause-value : goal.returns-in_err-found-in-Draft-clause-value
returns-in_err-found-in-Draft-clause-value g c = λ fresh.
    let p = err_from_is_err_and c.from_residual-in_err-found-in-Draft.result c.from_residual-in_err-found-in-Draft.ensures.1 in
    let a = asked_draft c.in-Draft.words in
    let (w, told, (warns, came)) = c.in_err-found-in-Draft.ensures.value fresh in
    rw (c.in-Draft.is, p.1, p.2) (w, told, (warns, stopped (FindsDraftable a (g.I.Inputs.whole c.args.inputs.now) w) (PrintsDraft a.max c.args.now.offset c.args.now.zone.now) (g.I.Inputs.failed c.args.inputs.now) (g.I.Inputs.failed c.find_draftable.new.inputs) c.in_err-found-in-Draft.field-0.0 came))

pub returns-in_ok-found-in-Draft-clause-value : goal.returns-in_ok-found-in-Draft-clause-value
returns-in_ok-found-in-Draft-clause-value g c = λ fresh.
    let a = asked_draft c.in-Draft.words in
    let (w, told, (warns, came)) = c.in_ok-found-in-Draft.ensures.value fresh in
    rw (c.in-Draft.is) (w, told, (warns, λ e is. (e, drafted a c.args.now.offset c.args.now.zone.now (g.I.Inputs.whole c.args.inputs.now) w (g.I.Inputs.failed c.args.inputs.now) (g.I.Inputs.failed c.find_draftable.new.inputs) c.in_ok-found-in-Draft.found e came is, refl)))

pub returns-in_err-found-in-Learn-clause-value : goal.returns-in_err-found-in-Learn-clause-value
returns-in_err-found-in-Learn-clause-value g c = λ fresh.
    let p = err_from_is_err_and c.from_residual-in_err-found-in-Learn.result c.from_residual-in_err-found-in-Learn.ensures.1 in
    let a = asked_learn c.in-Learn.words in
    let (w, told, (warns, came)) = c.in_err-found-in-Learn.ensures.value fresh in
    rw (c.in-Learn.is, p.1, p.2) (w, told, (warns, stopped (FindsLearnable a (g.I.Inputs.whole c.args.inputs.now) w) (PrintsLearned a.factor) (g.I.Inputs.failed c.args.inputs.now) (g.I.Inputs.failed c.find_learnable.new.inputs) c.in_err-found-in-Learn.field-0.0 came))

pub returns-in_ok-found-in-Learn-clause-value : goal.returns-in_ok-found-in-Learn-clause-value
returns-in_ok-found-in-Learn-clause-value g c = λ fresh.
    let (w, told, (warns, came)) = c.in_ok-found-in-Learn.ensures.value fresh in
    rw (c.in-Learn.is) (w, told, (warns, λ e is. (e, inr (c.in_ok-found-in-Learn.found, came, is), refl)))

pub returns-in_err-question-in-Chart-clause-value : goal.returns-in_err-question-in-Chart-clause-value
returns-in_err-question-in-Chart-clause-value g c = λ fresh.
    let p = err_from_is_err_and c.from_residual-in_err-question-in-Chart.result c.from_residual-in_err-question-in-Chart.ensures.1 in
    let a = asked_chart c.in-Chart.words in
    let warns = inl (refl, none_read (table_paths a.day.table a.day.anacrontab) (g.I.Inputs.reads c.args.inputs.now)) in
    rw (c.in-Chart.is, p.1, p.2) ([], tries_nothing _, (warns, inl (c.in_err-question-in-Chart.field-0.0, c.in_err-question-in-Chart.ensures.err, refl, refl, refl)))

pub returns-in_err-question-in-Chart-clause-turn : goal.returns-in_err-question-in-Chart-clause-turn
returns-in_err-question-in-Chart-clause-turn g c = rw (c.in-Chart.is) (none_read (chart_paths (asked_chart c.in-Chart.words)) (g.I.Inputs.reads c.args.inputs.now))

pub returns-in_err-found-in-Chart-clause-value : goal.returns-in_err-found-in-Chart-clause-value
returns-in_err-found-in-Chart-clause-value g c = λ fresh.
    let p = err_from_is_err_and c.from_residual-in_err-found-in-Chart.result c.from_residual-in_err-found-in-Chart.ensures.1 in
    let (w, told, (warns, came)) = c.in_err-found-in-Chart.ensures.value fresh in
    rw (c.in-Chart.is, p.1, p.2) (w, told, (warns, IfSome_then (trouble c.in_err-found-in-Chart.field-0.0) came (λ t is. inr (c.in_ok-question-in-Chart.question, c.in_ok-question-in-Chart.ensures.ok, inl (t, is, refl)))))

pub returns-in_ok-found-in-Chart-clause-value : goal.returns-in_ok-found-in-Chart-clause-value
returns-in_ok-found-in-Chart-clause-value g c = λ fresh.
    let (w, told, (warns, came)) = c.in_ok-found-in-Chart.ensures.value fresh in
    rw (c.in-Chart.is) (w, told, (warns, λ e is. (e, inr (c.in_ok-question-in-Chart.question, c.in_ok-question-in-Chart.ensures.ok, inr (c.in_ok-found-in-Chart.found, came, is)), refl)))

pub returns-in_err-answer_gather-in-Gather-clause-value : goal.returns-in_err-answer_gather-in-Gather-clause-value
returns-in_err-answer_gather-in-Gather-clause-value g c = λ fresh.
    let p = err_from_is_err_and c.from_residual-in_err-answer_gather-in-Gather.result c.from_residual-in_err-answer_gather-in-Gather.ensures.1 in
    rw (c.in-Gather.is, p.1, p.2) ([], tries_nothing _, (refl, tt))

pub returns-in_ok-answer_gather-in-Gather-clause-value : goal.returns-in_ok-answer_gather-in-Gather-clause-value
returns-in_ok-answer_gather-in-Gather-clause-value g c = λ fresh. rw (c.in-Gather.is) ([], tries_nothing _, (refl, λ e is. (e, rw is (c.in_ok-answer_gather-in-Gather.ensures.value fresh), refl)))

pub returns-in_err-answer_lint-in-Lint-clause-value : goal.returns-in_err-answer_lint-in-Lint-clause-value
returns-in_err-answer_lint-in-Lint-clause-value g c = λ fresh.
    let p = err_from_is_err_and c.from_residual-in_err-answer_lint-in-Lint.result c.from_residual-in_err-answer_lint-in-Lint.ensures.1 in
    rw (c.in-Lint.is, p.1, p.2) ([], tries_nothing _, (refl, tt))

pub returns-in_ok-answer_lint-in-Lint-clause-value : goal.returns-in_ok-answer_lint-in-Lint-clause-value
returns-in_ok-answer_lint-in-Lint-clause-value g c = λ fresh. rw (c.in-Lint.is) ([], tries_nothing _, (refl, λ e is. (e, rw is (c.in_ok-answer_lint-in-Lint.ensures.value fresh), refl)))

pub returns-in-Explain-clause-value : goal.returns-in-Explain-clause-value
returns-in-Explain-clause-value g c = λ fresh. rw (c.in-Explain.is) ([], tries_nothing _, (refl, λ e is. (e, (refl, is), refl)))

pub returns-in-Day-clause-value : goal.returns-in-Day-clause-value
returns-in-Day-clause-value g c = λ fresh. rw (c.in-Day.is) ([], tries_nothing _, (refl, λ e is. (e, (refl, is.0, is.1), refl)))

pub returns-in-Wall-clause-value : goal.returns-in-Wall-clause-value
returns-in-Wall-clause-value g c = λ fresh. rw (c.in-Wall.is) ([], tries_nothing _, (refl, λ e is. (e, (refl, is.0, is.1), refl)))

pub returns-in-Replay-clause-value : goal.returns-in-Replay-clause-value
returns-in-Replay-clause-value g c = λ fresh. rw (c.in-Replay.is) ([], tries_nothing _, (refl, λ e is. (e, (refl, is.0, is.1), refl)))

pub returns-in-Check-clause-value : goal.returns-in-Check-clause-value
returns-in-Check-clause-value g c = λ fresh. rw (c.in-Check.is) ([], tries_nothing _, (refl, λ e is. (e, (refl, is.0, is.1), refl)))

pub returns-in-Run-clause-value : goal.returns-in-Run-clause-value
returns-in-Run-clause-value g c = λ fresh. rw (c.in-Run.is) ([], tries_nothing _, (refl, λ e is. (e, (refl, is.0, is.1), refl)))

pub returns-in-Stop-clause-value : goal.returns-in-Stop-clause-value
returns-in-Stop-clause-value g c = λ fresh. rw (c.in-Stop.is) ([], tries_nothing _, (refl, λ e is. (e, (refl, is.0, is.1), refl)))

pub returns-in-Reload-clause-value : goal.returns-in-Reload-clause-value
returns-in-Reload-clause-value g c = λ fresh. rw (c.in-Reload.is) ([], tries_nothing _, (refl, λ e is. (e, (refl, is.0, is.1), refl)))

pub returns-in-Apply-clause-value : goal.returns-in-Apply-clause-value
returns-in-Apply-clause-value g c = λ fresh. rw (c.in-Apply.is) ([], tries_nothing _, (refl, λ e is. (e, (refl, is.0, is.1), refl)))

pub returns-in-Status-clause-value : goal.returns-in-Status-clause-value
returns-in-Status-clause-value g c = λ fresh. rw (c.in-Status.is) ([], tries_nothing _, (refl, λ e is. (e, (refl, is.0, is.1), refl)))

pub returns-in-Judge-clause-value : goal.returns-in-Judge-clause-value
returns-in-Judge-clause-value g c = λ fresh. rw (c.in-Judge.is) ([], tries_nothing _, (refl, λ e is. (e, (refl, is.0, is.1), refl)))

pub returns-in-Make-clause-value : goal.returns-in-Make-clause-value
returns-in-Make-clause-value g c = λ fresh. rw (c.in-Make.is) ([], tries_nothing _, (refl, λ e is. (e, (refl, is.0, is.1), refl)))

pub returns-in_err-old-in-Diff-clause-value : goal.returns-in_err-old-in-Diff-clause-value
returns-in_err-old-in-Diff-clause-value g c = λ fresh.
    let p = err_from_is_err_and c.from_residual-in_err-old-in-Diff.result c.from_residual-in_err-old-in-Diff.ensures.1 in
    let (w, told, said) = c.in_err-old-in-Diff.ensures.told fresh in
    rw (c.in-Diff.is, p.1, p.2) (w, told, (tt, ended (trouble c.in_err-old-in-Diff.field-0.0)))

pub returns-in_ok-old-in-Diff-clause-value : goal.returns-in_ok-old-in-Diff-clause-value
returns-in_ok-old-in-Diff-clause-value g c = λ fresh.
    let (w, told, said) = c.in_ok-old-in-Diff.ensures.told fresh in
    rw (c.in-Diff.is) (w, told, (tt, λ e is. (e, inr (_, _, is), refl)))

pub returns-in_err-answer_judge_all-in-JudgeAll-clause-value : goal.returns-in_err-answer_judge_all-in-JudgeAll-clause-value
returns-in_err-answer_judge_all-in-JudgeAll-clause-value g c = λ fresh.
    let p = err_from_is_err_and c.from_residual-in_err-answer_judge_all-in-JudgeAll.result c.from_residual-in_err-answer_judge_all-in-JudgeAll.ensures.1 in
    rw (c.in-JudgeAll.is, p.1, p.2) ([], tries_nothing _, (refl, tt))

pub returns-in_ok-answer_judge_all-in-JudgeAll-clause-value : goal.returns-in_ok-answer_judge_all-in-JudgeAll-clause-value
returns-in_ok-answer_judge_all-in-JudgeAll-clause-value g c = λ fresh. rw (c.in-JudgeAll.is) ([], tries_nothing _, (refl, λ e is. (e, rw is c.in_ok-answer_judge_all-in-JudgeAll.ensures, refl)))

pub returns-in_err-answer_lint_all-in-LintAll-clause-value : goal.returns-in_err-answer_lint_all-in-LintAll-clause-value
returns-in_err-answer_lint_all-in-LintAll-clause-value g c = λ fresh.
    let p = err_from_is_err_and c.from_residual-in_err-answer_lint_all-in-LintAll.result c.from_residual-in_err-answer_lint_all-in-LintAll.ensures.1 in
    rw (c.in-LintAll.is, p.1, p.2) ([], tries_nothing _, (refl, tt))

pub returns-in_ok-answer_lint_all-in-LintAll-clause-value : goal.returns-in_ok-answer_lint_all-in-LintAll-clause-value
returns-in_ok-answer_lint_all-in-LintAll-clause-value g c = λ fresh. rw (c.in-LintAll.is) ([], tries_nothing _, (refl, λ e is. (e, rw is c.in_ok-answer_lint_all-in-LintAll.ensures, refl)))

pub returns-in_err-found-in-Next-clause-value : goal.returns-in_err-found-in-Next-clause-value
returns-in_err-found-in-Next-clause-value g c = λ fresh.
    let p = err_from_is_err_and c.from_residual-in_err-found-in-Next.result c.from_residual-in_err-found-in-Next.ensures.1 in
    let a = asked_next c.in-Next.words in
    let (w, told, (warns, came)) = c.in_err-found-in-Next.ensures.value fresh in
    rw (c.in-Next.is, p.1, p.2) (w, told, (warns, stopped (FindsTables (g.I.Inputs.whole c.args.inputs.now) a.table a.anacrontab w) (λ tables ending. ⊤) (g.I.Inputs.failed c.args.inputs.now) (g.I.Inputs.failed c.find_tables.new.inputs) c.in_err-found-in-Next.field-0.0 came))

pub returns-in_ok-found-in-Next-clause-value : goal.returns-in_ok-found-in-Next-clause-value
returns-in_ok-found-in-Next-clause-value g c = λ fresh.
    let (w, told, (warns, came)) = c.in_ok-found-in-Next.ensures.value fresh in
    rw (c.in-Next.is) (w, told, (warns, λ e is. (e, inr (c.in_ok-found-in-Next.found, came, tt), refl)))
