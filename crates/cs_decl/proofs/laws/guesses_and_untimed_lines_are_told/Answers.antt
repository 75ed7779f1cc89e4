use Rattle.cs_decl.proofs.Untimed.{guesses, told_line, no_line}
use Rattle.cs_decl.proofs.laws.guesses_and_untimed_lines_are_told.Goals as goal

pub returns-clause-guesses : goal.returns-clause-guesses
returns-clause-guesses c = guesses

pub returns-clause-untimed : goal.returns-clause-untimed
returns-clause-untimed c = λ table jobs d plan n made. told_line table jobs d plan made n

pub returns-clause-timed : goal.returns-clause-timed
returns-clause-timed c = no_line
