use Rattle.cs_crontab.proofs.Without.{without_ordered}
use Rattle.cs_crontab.proofs.table.Crontab.without.Goals as goal

pub invariant_of-result : goal.invariant_of-result
invariant_of-result c =
    rw (c.from_vec.ensures, c.keep_others.ensures, c.into_vec.ensures)
    (without_ordered c.args.numbers.now (record { settings = c.self.inside.variables; lines = c.self.inside.commands }) c.self.invariant)
