use Rattle.std.proofs.Common.{◌+◌, ◌∙◌, sym, ap, arith}
use Rattle.std.specs.Prelude.{nat_le}
use Rattle.cs_classes.proofs.Lasting.{past_fits, day_fits}
use Rattle.cs_classes.proofs.fitting.catch_up_fits.Goals as goal

pub returns-then-from-ge-MINUTES_OF_DAY : goal.returns-then-from-ge-MINUTES_OF_DAY
returns-then-from-ge-MINUTES_OF_DAY c = sym (past_fits c.args.from c.args.reach c.args.days (omega arith))

pub returns : goal.returns
returns c = sym (day_fits c.args.from c.args.reach c.args.days c.ends_by.result (omega arith) (sym (c.ends_by.ensures ∙ ap (nat_le (c.args.from + c.args.reach)) c.minutes_of.ensures)))
