use Rattle.cs_gather.proofs.AnswerLemmas.{is_told}
use Rattle.cs_gather.proofs.answer.ignores.Goals as goal

pub returns-clause-shown : goal.returns-clause-shown
returns-clause-shown c = λ is. is_told _ _ _ c.in_ok-shown.ensures
