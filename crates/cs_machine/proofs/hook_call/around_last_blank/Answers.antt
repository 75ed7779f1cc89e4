use Rattle.std.proofs.Common.{rules, ◌∙◌, ◌+◌, ◌==◌, ap}
use Rattle.std.specs.List.{list_any}
use Rattle.std.proofs.lemmas.List.{take_rest}
use Rattle.cs_machine.proofs.Ends.{no_blank, none_behind}
use Rattle.cs_machine.proofs.hook_call.around_last_blank.Goals as goal

pub returns-in_err-at-clause-none : goal.returns-in_err-at-clause-none
returns-in_err-at-clause-none c = λ _. no_blank c.args.text.now (λ k low. c.in_err-at.ensures k (search rules) low)

pub returns-clause-word : goal.returns-clause-word
returns-clause-word c = ap (λ text. list_any (λ b. b == 32) text) (take_rest c.args.text.now (c.in_ok-at.at + 1)) ∙ none_behind c.args.text.now c.in_ok-at.at c.in_ok-at.ensures.0
