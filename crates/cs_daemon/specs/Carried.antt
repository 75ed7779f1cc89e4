-- What is carried out of runs.
use Rattle.std.specs.Prelude.{◌≡◌, ◌⊎◌, List}
use Rattle.cs_owner.specs.declared.owners.Owner.{Owner}
use Rattle.cs_plan.specs.Plan.{Declared}
use Rattle.cs_history.specs.declared.run.Going.{Going}
use Rattle.cs_device.specs.Asked.{Asked}
use Rattle.cs_device.specs.declared.runner.Outcome.{Outcome}
use Rattle.cs_device.specs.declared.runner.Outcome.TheVariants.{NotStarted}
use Rattle.cs_jobs.specs.Commands.{RunsJob}
use Rattle.cs_daemon.specs.InTurn.{InTurn}

module _ {W : Type 0} (runs : W → Asked → Outcome → W → Type 0) (d : Declared)
    (owners : List Owner) where
  -- the job's command is run, or memory runs out before it is
  abbrev pub CarriesOut : Going → W → Outcome → W → Type 0
  CarriesOut going old outcome new =
      RunsJob runs d owners going old outcome new ⊎ ((outcome ≡ NotStarted) × (new ≡ old))

  -- runs with their outcomes, one after the other
  abbrev pub CarriesOutAll : List (Going × Outcome) → W → W → Type 0
  CarriesOutAll = InTurn (λ (w : W) (e : Going × Outcome) (v : W). CarriesOut e.0 w e.1 v)
