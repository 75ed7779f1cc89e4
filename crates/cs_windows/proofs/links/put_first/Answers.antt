use Rattle.std.proofs.Common.{◌∙◌, sym, arith}
use Rattle.cs_windows.proofs.Linked.{put_first}
use Rattle.cs_windows.proofs.links.put_first.Goals as goal

pub returns-in_ok-push : goal.returns-in_ok-push
returns-in_ok-push c =
    put_first c.args.links.now.items c.push.new.self.items c.args.firsts.now c.args.window c.len.result (omega (arith, c.told-firsts, c.requires)) (sym c.reaches.ensures ∙ c.if-reaches.true) c.in_ok-push.ensures.items (c.len.ensures ∙ c.push.new.self.ok.0)
