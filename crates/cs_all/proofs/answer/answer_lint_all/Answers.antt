use Rattle.std.proofs.Common.{inl}
use Rattle.cs_all.proofs.answer.answer_lint_all.Goals as goal

pub returns-in-Some : goal.returns-in-Some
returns-in-Some g c =
    let is = rw c.in-Some.is at c.in_ok-response.ensures.some in
    inl (is.2, is.3)

pub returns-in-Some-2 : goal.returns-in-Some-2
returns-in-Some-2 g c =
    let is = rw c.in-Some-2.is at c.in_ok-response-2.ensures.some in
    inl (is.2, is.3)
