-- Runs that are carried out one after the other.
use Rattle.std.proofs.Common.{◌≤◌, ◌+◌, ◌-◌, ℕ, List, [], ◌∷◌, ◌++◌, length, length-append, arith}
use Rattle.cs_owner.specs.declared.owners.Owner.{Owner}
use Rattle.cs_plan.specs.Plan.{Declared}
use Rattle.cs_history.specs.declared.run.Going.{Going}
use Rattle.cs_device.specs.Asked.{Asked}
use Rattle.cs_device.specs.declared.runner.Outcome.{Outcome}
use Rattle.cs_daemon.proofs.Turning.{one_more}
use Rattle.cs_daemon.specs.Carried.{CarriesOut, CarriesOutAll}

module _ {W : Type 0} (runs : W → Asked → Outcome → W → Type 0) (d : Declared) (owners : List Owner) where
  -- at least as many runs are carried out as steps are made, and then one more of both
  pub carried_on : (share mid_share new_share : ℕ) (run : Going) (outcome : Outcome) (old mid new : W) → ((es : List (Going × Outcome)) × CarriesOutAll runs d owners es old mid × (mid_share ≤ share + length es))
      → CarriesOut runs d owners run mid outcome new → new_share ≤ mid_share + 1
      → (es : List (Going × Outcome)) × CarriesOutAll runs d owners es old new × (new_share ≤ share + length es)
  carried_on share mid_share new_share run outcome old mid new so one step =
      let last : List (Going × Outcome) = (run, outcome) ∷ [] in
      let longer = length-append so.0 last in
      (so.0 ++ last, one_more (λ (w : W) (e : Going × Outcome) (v : W). CarriesOut runs d owners e.0 w e.1 v) so.0 (run, outcome) old mid new so.1 one, omega (arith, so.2, step, longer))
