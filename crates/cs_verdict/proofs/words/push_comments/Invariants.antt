use Rattle.std.proofs.Common.{◌≡◌, ◌++◌, take, flat_map}
use Rattle.cs_verdict.specs.Story.{comment}
use Rattle.cs_verdict.proofs.words.push_comments.Given as goal

abbrev pub invariant-loop-words : goal.invariant-loop-words
invariant-loop-words l = l.text.items ≡ l.fn.text.items ++ flat_map comment (take l.words-index l.story)
