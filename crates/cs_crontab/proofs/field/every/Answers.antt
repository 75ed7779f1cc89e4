use Rattle.std.proofs.Common.{◌∙◌, ap, sym, ℕ, List, Ok}
use Rattle.cs_crontab.specs.Reading.{step_at}
use Rattle.cs_crontab.proofs.Parts.{every_cut}
use Rattle.cs_crontab.proofs.field.every.Goals as goal

pub returns : goal.returns
returns c =
    every_cut c.args.first c.args.last (step_at c.args.text.now) c.in_ok-n.n c.in_ok-n.rest.now c.in_ok-n.ensures.gives
    ∙ ap (λ (ns : List ℕ). Ok (ns, c.in_ok-n.rest.now)) (sym c.every.ensures.value)
