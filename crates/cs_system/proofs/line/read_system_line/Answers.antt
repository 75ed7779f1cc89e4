use Rattle.cs_system.proofs.Tables.{line_answers}
use Rattle.cs_system.proofs.line.read_system_line.Goals as goal

pub returns-clause-says : goal.returns-clause-says
returns-clause-says c = (line_answers c.args.line.now c.content.result c.content.ensures).0

pub returns-clause-fails : goal.returns-clause-fails
returns-clause-fails c = (line_answers c.args.line.now c.content.result c.content.ensures).1

pub returns-clause-within : goal.returns-clause-within
returns-clause-within c = (line_answers c.args.line.now c.content.result c.content.ensures).2
