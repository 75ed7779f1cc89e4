-- What the runners of a daemon are made with.
use Rattle.std.specs.Prelude.{◌≡◌, string_bytes, IfSome, Option, map, option_map}
use Rattle.cs_machine.specs.Output.{named_job}
use Rattle.cs_machine.specs.declared.output.OutputFolder.{OutputFolder}
use Rattle.cs_machine.specs.declared.runners.RunnerSetup.{RunnerSetup}
use Rattle.cs_machine.specs.declared.runners.RunnerWords.{RunnerWords}

abbrev pub IsOutputOf : RunnerWords → Option OutputFolder → Type 0
IsOutputOf words output =
    (option_map (λ folder. string_bytes folder.path) output
    ≡ option_map (λ path. path.now) words.output)
    × IfSome output (λ folder. (folder.keep ≡ words.keep)
    × (folder.names.items ≡ map named_job words.jobs.now))

abbrev pub IsMadeWith : RunnerWords → RunnerSetup → Type 0
IsMadeWith words setup =
    (setup.has_home ≡ words.has_home) × (setup.tells_signals ≡ words.tells_signals)
    × IsOutputOf words setup.output × (setup.offset ≡ words.offset)

-- `returns` is what a call may return
abbrev pub IsMadeBy : {W : Type 0} → (RunnerSetup → W → Type 0) → RunnerWords → W → Type 0
IsMadeBy {W} returns words runner =
    (setup : RunnerSetup) × IsMadeWith words setup × returns setup runner
