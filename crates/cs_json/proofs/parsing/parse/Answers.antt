use Rattle.std.proofs.Common.{rules}
use Rattle.cs_json.proofs.Items.{json_read, json_refused}
use Rattle.cs_json.proofs.parsing.parse.Goals as goal

pub returns-in-Ok : goal.returns-in-Ok
returns-in-Ok c = json_read _ _ c.in-Ok.ensures.ok.0 c.in-Ok.ensures.ok.1

pub returns-else-is_memory : goal.returns-else-is_memory
returns-else-is_memory c = json_refused _ (c.in-Err.ensures.err (search rules))
