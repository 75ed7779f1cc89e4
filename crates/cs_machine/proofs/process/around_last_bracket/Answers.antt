use Rattle.std.proofs.Common.{◌∙◌, ◌+◌, ◌==◌, ap}
use Rattle.std.specs.List.{list_any}
use Rattle.std.proofs.lemmas.List.{take_rest}
use Rattle.cs_machine.proofs.StatText.{none_behind_bracket}
use Rattle.cs_machine.proofs.process.around_last_bracket.Goals as goal

pub returns-clause-last : goal.returns-clause-last
returns-clause-last c = ap (λ text. list_any (λ b. b == 41) text) (take_rest c.args.text.now (c.in_ok-at.at + 1)) ∙ none_behind_bracket c.args.text.now c.in_ok-at.at c.in_ok-at.ensures.0
