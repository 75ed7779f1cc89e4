use Rattle.std.proofs.Common.{◌≡◌, refl}
use Rattle.cs_args.specs.Asked.{asking}
use Rattle.cs_args.specs.declared.request.CheckWords.{CheckWords}
use Rattle.cs_args.specs.declared.request.Format.TheVariants.{Text}
use Rattle.cs_args.specs.declared.request.JudgeWords.{JudgeWords}
use Rattle.cs_args.specs.declared.request.Request.{Request}
use Rattle.cs_args.specs.declared.request.Request.TheVariants as request
use Rattle.cronsafe.specs.Call.{format_of}
use Rattle.cronsafe.proofs.responding.form_of.Goals as goal

as_text : (r : Request) → ((w : JudgeWords) → r ≡ request.Judge w → ⊥) → ((w : CheckWords) → r ≡ request.Check w → ⊥) → Text ≡ format_of (asking r)
as_text (request.Judge w) no_judge no_check = absurd (no_judge w refl)
as_text (request.Check w) no_judge no_check = absurd (no_check w refl)
as_text other no_judge no_check = refl

pub returns-in_default : goal.returns-in_default
returns-in_default c = as_text c.args.request.now c.in_default.not-Judge c.in_default.not-Check
