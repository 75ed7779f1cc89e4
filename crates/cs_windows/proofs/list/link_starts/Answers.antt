use Rattle.std.proofs.Common.{◌≡◌, ◌+◌, ◌*◌, ◌<◌, ◌∙◌, ℕ, subst, arith, slice_index}
use Rattle.cs_windows.specs.Links.{AreLinked, with_own}
use Rattle.cs_windows.specs.Occupied.{job_of}
use Rattle.cs_windows.specs.Window.{window}
use Rattle.cs_windows.proofs.Linked.{none_before}
use Rattle.cs_windows.proofs.list.link_starts.Goals as goal

pub loop-block-init : goal.loop-block-init
loop-block-init c m lt ws h =
    let own = window c.args.job c.args.day_back 0 c.reach-reach.result in
    subst (AreLinked c.args.links.now.items (slice_index c.args.firsts.now m)) (none_before ((job_of c.args.own.now).begins c.args.day) own (32 * c.first_block-block.result) c.first_block-block.ensures m ws) h

pub loop-block-preserved : goal.loop-block-preserved
loop-block-preserved c m lt ws h =
    let begins = (job_of c.args.own.now).begins c.args.day in
    let block = c.loop-block.block in
    let own = window c.args.job c.args.day_back 0 c.reach-reach.result in
    let last : 32 * block + 32 ≡ 32 * (block + 1) = omega arith in
    let below : block < 45 = omega (arith, c.loop-block-test.true) in
    subst (λ (n : ℕ). AreLinked c.link_block.new.links.items (slice_index c.link_block.new.firsts m) (with_own begins own n m ws)) last
    (c.in_ok-link_block.ensures begins m ws (λ place low. c.bits_of_block.ensures place low ∙ c.starts_on-starts.ensures (32 * block + place) (omega (arith, low, below))) (c.loop-block.invariant m lt ws h))
