use Rattle.std.proofs.Common.{◌≡◌, ◌++◌, take, map}
use Rattle.std.specs.Process.{command_program, command_args, SameDir, SameEnv}
use Rattle.cs_machine.proofs.as_user.add_words.Given as goal

abbrev pub invariant-loop-word : goal.invariant-loop-word
invariant-loop-word l =
    (command_args l.started ≡ command_args l.fn.started ++ map (λ word. word.now) (take l.word-index l.words))
    × (command_program l.started ≡ command_program l.fn.started)
    × SameEnv l.fn.started l.started
    × SameDir l.fn.started l.started
