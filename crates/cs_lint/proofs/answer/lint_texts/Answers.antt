use Rattle.std.proofs.Common.{refl}
use Rattle.std.proofs.lemmas.Result.{IfOk-weaker}
use Rattle.cs_files.specs.Response.{status_of}
use Rattle.cs_lint.proofs.AnswerLemmas.{judges_so}
use Rattle.cs_lint.proofs.answer.lint_texts.Goals as goal

pub returns-clause-value : goal.returns-clause-value
returns-clause-value c =
    IfOk-weaker c.report_on-linted.result _ _ (λ linted judges. judges_so (status_of linted.status) (status_of linted.status) _ _ _ _ _ _ refl
    c.as_slice-table.ensures.value c.some_bytes-jobs.ensures c.some_bytes-declarations.ensures judges) (c.report_on-linted.ensures.value _ _ _ c.in_ok-looked.ensures)
