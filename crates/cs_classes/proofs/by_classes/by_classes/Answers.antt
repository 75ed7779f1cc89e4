use Rattle.std.proofs.Common.{List, take, subst}
use Rattle.cs_classes.specs.ByClasses.{LeadTo}
use Rattle.cs_classes.specs.declared.classed.ClassedChain.{ClassedChain}
use Rattle.cs_classes.proofs.Searched.{one_more}
use Rattle.cs_classes.proofs.by_classes.by_classes.Goals as goal

pub loop-chain-preserved : goal.loop-chain-preserved
loop-chain-preserved c =
    let chains = c.args.chains.now in
    let i = c.loop-chain.chain-index in
    subst (λ (listed : List ClassedChain). LeadTo listed c.add.new.chains) (one_more chains i c.chain-item.result c.loop-chain-test.true c.chain-item.is) (c.in_ok-add.ensures (take i chains) c.loop-chain.invariant)
