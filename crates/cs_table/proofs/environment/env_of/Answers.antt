use Rattle.std.proofs.Common.{◌∙◌}
use Rattle.cs_table.proofs.Variables.{env_names, env_values}
use Rattle.cs_table.proofs.environment.env_of.Goals as goal

pub returns-clause-names : goal.returns-clause-names
returns-clause-names c = env_names c.args.line c.args.settings.now c.from_vec.result (c.from_vec.ensures ∙ c.in_ok-copied.ensures ∙ c.in_ok-variables.ensures)

pub returns-clause-values : goal.returns-clause-values
returns-clause-values c = env_values c.args.line c.args.settings.now c.from_vec.result (c.from_vec.ensures ∙ c.in_ok-copied.ensures ∙ c.in_ok-variables.ensures)
