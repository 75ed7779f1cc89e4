use Rattle.std.proofs.Common.{◌≢◌, ◌∙◌, sym}
use Rattle.std.proofs.lemmas.Result.{IfOk-weaker}
use Rattle.cs_args.specs.Asked.{asked_run}
use Rattle.cs_judge.specs.declared.answers.Outcome.{Outcome}
use Rattle.cs_judge.specs.declared.answers.Outcome.TheVariants as outcome
use Rattle.cs_cli.specs.Judge.{outcome_status}
use Rattle.cs_ruling.proofs.CheckLemmas.{ruled_done, verdict_done}
use Rattle.cronsafe.proofs.Replies.{in_done}
use Rattle.cronsafe.proofs.responding.answer.Goals as goal

outcome_done : (found : Outcome) → outcome_status found ≢ 6
outcome_done outcome.Safe = λ six. absurd (cc)
outcome_done outcome.Unsafe = λ six. absurd (cc)
outcome_done outcome.Unknown = λ six. absurd (cc)
outcome_done outcome.NoMemory = λ six. absurd (cc)

pub returns-in_ok-check_in_format-in-Check-clause-done : goal.returns-in_ok-check_in_format-in-Check-clause-done
returns-in_ok-check_in_format-in-Check-clause-done g c = in_done c.in-Check.words.format c.in_ok-check_in_format-in-Check.field-0 (λ plain is. verdict_done c.in-Check.claimed plain is.verdict) c.in_ok-check_in_format-in-Check.ensures

pub returns-in_ok-judge_in_format-in-Judge-clause-done : goal.returns-in_ok-judge_in_format-in-Judge-clause-done
returns-in_ok-judge_in_format-in-Judge-clause-done g c = in_done c.in-Judge.words.format c.in_ok-judge_in_format-in-Judge.field-0 (λ plain is six. outcome_done is.found (sym is.status ∙ six)) c.in_ok-judge_in_format-in-Judge.ensures

pub returns-in-Run-clause-done : goal.returns-in-Run-clause-done
returns-in-Run-clause-done g c = IfOk-weaker c.answer_run.result _ _ (λ answer is. ruled_done (asked_run c.in-Run.words) c.in-Run.claimed answer is) c.answer_run.ensures
