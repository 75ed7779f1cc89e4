use Rattle.std.proofs.Common.{inl, refl}
use Rattle.cs_args.specs.Asked.{asked_lint}
use Rattle.cs_files.specs.Turn.{lint_paths}
use Rattle.cs_files.proofs.TurnLemmas.{none_read}
use Rattle.cs_lint.proofs.AnswerLemmas.{no_name_left, no_name_right}
use Rattle.cs_lint.proofs.answer.answer_lint.Goals as goal

pub returns-in_err-response-clause-turn : goal.returns-in_err-response-clause-turn
returns-in_err-response-clause-turn g c = none_read (lint_paths (asked_lint c.args.request.now)) (g.I.Inputs.reads c.args.inputs.now)

pub returns-in_err-response-2-clause-turn : goal.returns-in_err-response-2-clause-turn
returns-in_err-response-2-clause-turn g c = none_read (lint_paths (asked_lint c.args.request.now)) (g.I.Inputs.reads c.args.inputs.now)

pub returns-in-Some-clause-value : goal.returns-in-Some-clause-value
returns-in-Some-clause-value g c = λ fresh.
    let a = asked_lint c.args.request.now in
    let found = rw c.in-Some.is at c.in_ok-response.ensures.some in
    inl (refl, no_name_left a.only a.except c.in-Some.response (rw c.as_slice.ensures.value at found))

pub returns-in-Some-clause-turn : goal.returns-in-Some-clause-turn
returns-in-Some-clause-turn g c = none_read (lint_paths (asked_lint c.args.request.now)) (g.I.Inputs.reads c.args.inputs.now)

pub returns-in-Some-2-clause-value : goal.returns-in-Some-2-clause-value
returns-in-Some-2-clause-value g c = λ fresh.
    let a = asked_lint c.args.request.now in
    let found = rw c.in-Some-2.is at c.in_ok-response-2.ensures.some in
    inl (refl, no_name_right a.only a.except c.in-Some-2.response (rw c.as_slice-2.ensures.value at found))

pub returns-in-Some-2-clause-turn : goal.returns-in-Some-2-clause-turn
returns-in-Some-2-clause-turn g c = none_read (lint_paths (asked_lint c.args.request.now)) (g.I.Inputs.reads c.args.inputs.now)
