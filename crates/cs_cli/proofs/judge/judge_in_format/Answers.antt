use Rattle.std.proofs.Common.{List, subst}
use Rattle.std.proofs.lemmas.Result.{IfOk-weaker}
use Rattle.cs_place.specs.declared.places.Place.{Place}
use Rattle.cs_judge.specs.declared.answers.Wanted.TheVariants.{Verdict}
use Rattle.cs_cli.specs.Judge.{IsJudged}
use Rattle.cs_cli.proofs.judge.judge_in_format.Goals as goal

pub returns : goal.returns
returns g c =
    let plain = subst (λ (ps : List Place). IsJudged Verdict c.args.planned.now.plan ps c.in_ok-plain.plain)
    c.as_slice-places.ensures c.in_ok-plain.ensures in
    IfOk-weaker c.in_format.result _ _ (λ e same. (c.in_ok-plain.plain, plain, same)) c.in_format.ensures
