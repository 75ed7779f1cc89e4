use Rattle.std.proofs.Common.{map, take}
use Rattle.cs_lint.specs.Answer.{AreNamed}
use Rattle.cs_lint.proofs.answer.unknown_in.Given as goal

abbrev pub invariant-loop-word : goal.invariant-loop-word
invariant-loop-word l = AreNamed (map (λ word. word.now) (take l.word-index l.words))
