use Rattle.std.proofs.Common.{subst}
use Rattle.cs_judge.specs.Judged.{IsJudgement}
use Rattle.cs_judge.specs.declared.judged.Judged.{Judged}
use Rattle.cs_judge.proofs.Called.{called}
use Rattle.cs_advise.proofs.answers.printed.Goals as goal

pub rooms_text-requires-after_bounds : goal.rooms_text-requires-after_bounds
rooms_text-requires-after_bounds g c κs within =
    called c.args.plan.now c.in-Safe.field-0 (subst (λ (judged : Judged). IsJudgement c.args.plan.now judged) c.in-Safe.is c.requires)
