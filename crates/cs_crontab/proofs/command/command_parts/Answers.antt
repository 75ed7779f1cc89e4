use Rattle.cs_crontab.proofs.Pieces.{read_all, read_only}
use Rattle.cs_crontab.proofs.command.command_parts.Goals as goal

pub returns-clause-parts : goal.returns-clause-parts
returns-clause-parts c = read_all c.args.command.now c.read_parts.result c.read_parts.ensures

pub returns-clause-only : goal.returns-clause-only
returns-clause-only c = λ parts are. read_only c.args.command.now c.read_parts.result parts are c.read_parts.ensures
