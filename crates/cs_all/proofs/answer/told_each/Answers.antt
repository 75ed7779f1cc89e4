use Rattle.std.proofs.Common.{◌∙◌, ap}
use Rattle.rayon.specs.declared.iter.min_len.MinLen.{MinLen}
use Rattle.rayon.specs.declared.slice.Iter.{Iter}
use Rattle.cs_all.specs.Answer.{IsTold}
use Rattle.cs_all.specs.declared.reading.Read.{Read}
use Rattle.cs_all.proofs.Each.{of_slice}
use Rattle.cs_all.proofs.answer.told_each.Goals as goal

pub returns : goal.returns
returns g c =
    let h = c.in_ok-collect.ensures in
    let chain = h.1 in
    let slice = ap (λ (it : MinLen (Iter Read)). it.base.slice.now) c.map.ensures.base ∙ (ap (λ (it : Iter Read). it.slice.now) c.with_min_len.ensures.base ∙ c.par_iter.ensures) in
    of_slice (λ read told. IsTold read.content told.status) chain.0 c.args.read.now h.0 c.in_ok-collect.field-0 (chain.1 ∙ slice) chain.2 h.2
