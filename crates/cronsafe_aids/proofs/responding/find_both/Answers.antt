use Rattle.std.proofs.Common.{◌++◌}
use Rattle.cs_args.specs.Asked.{asked_diff}
use Rattle.cs_files.specs.Turn.{judge_paths}
use Rattle.cs_files.proofs.TurnLemmas.{some_read, then_read}
use Rattle.cronsafe_aids.proofs.Replies.{tries_twice}
use Rattle.cronsafe_aids.proofs.responding.find_both.Goals as goal

pub returns-in_err-before-clause-told : goal.returns-in_err-before-clause-told
returns-in_err-before-clause-told g c = λ fresh.
    let (w, tries, _) = c.in_err-before.ensures.value fresh in
    (w, tries, tt)

pub returns-in_err-before-clause-turn : goal.returns-in_err-before-clause-turn
returns-in_err-before-clause-turn g c =
    let a = asked_diff c.args.words.now in
    some_read (judge_paths a.old) (judge_paths a.new) _ _ c.in_err-before.ensures.turn

pub returns-in-Ok-clause-told : goal.returns-in-Ok-clause-told
returns-in-Ok-clause-told g c = λ fresh.
    let (v, one, _) = c.in_ok-before.ensures.value fresh in
    let (w, other, _) = c.in-Ok.ensures.value (c.in_ok-before.ensures.fresh fresh) in
    (v ++ w, tries_twice v w _ _ _ one other, tt)

pub returns-in-Ok-clause-turn : goal.returns-in-Ok-clause-turn
returns-in-Ok-clause-turn g c =
    let a = asked_diff c.args.words.now in
    then_read (judge_paths a.old) (judge_paths a.new) _ _ _ c.in_ok-before.ensures.turn c.in-Ok.ensures.turn

pub returns-in-Err-clause-told : goal.returns-in-Err-clause-told
returns-in-Err-clause-told g c = λ fresh.
    let (v, one, _) = c.in_ok-before.ensures.value fresh in
    let (w, other, _) = c.in-Err.ensures.value (c.in_ok-before.ensures.fresh fresh) in
    (v ++ w, tries_twice v w _ _ _ one other, tt)

pub returns-in-Err-clause-turn : goal.returns-in-Err-clause-turn
returns-in-Err-clause-turn g c =
    let a = asked_diff c.args.words.now in
    then_read (judge_paths a.old) (judge_paths a.new) _ _ _ c.in_ok-before.ensures.turn c.in-Err.ensures.turn
