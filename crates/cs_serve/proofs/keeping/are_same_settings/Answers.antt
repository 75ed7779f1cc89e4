use Rattle.std.proofs.Common.{◌≡◌, ◌<◌, arith, length, refl, subst, take}
use Rattle.cs_serve.proofs.Same.{one_more, whole}
use Rattle.cs_serve.proofs.keeping.are_same_settings.Goals as goal

pub loop-at-preserved : goal.loop-at-preserved
loop-at-preserved c =
    let within : c.loop-at.at < length c.args.other.now = omega arith in
    let same : c.index-one-at.result ≡ c.index-other-at.result = c.is_same_setting.ensures (rw c.if-not-is_same_setting.false refl) in
    one_more c.args.one.now c.args.other.now c.loop-at.at c.index-one-at.result c.index-other-at.result c.loop-at-test.true within c.index-one-at.is c.index-other-at.is same c.loop-at.invariant

pub returns : goal.returns
returns c = λ is.
    let end : c.loop-at.at ≡ length c.args.one.now = omega arith in
    whole c.args.one.now c.args.other.now c.if-one-other.false (subst (λ n. take n c.args.one.now ≡ take n c.args.other.now) end c.loop-at.invariant)
