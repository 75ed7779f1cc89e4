use Rattle.std.specs.Prelude.{◌≡◌, ℕ, ◌<◌, true, List, map, unwrap_or}
use Rattle.cs_claims.specs.declared.class.Class.{Class}
use Rattle.cs_claims.specs.Certificate.{bound_in, is_due_in}
use Rattle.cs_history.specs.Plan.{Plan}
use Rattle.cs_wait.specs.Bounds.{ClearsBy}
use Rattle.cs_classes.specs.Claim.{class_at}

-- the bounds of the job's group on successive days; of group 0 if it has none
abbrev pub bounds_of : Plan → ℕ → List Class → List (ℕ → ℕ)
bounds_of p j days = map (λ class. bound_in class (unwrap_or (p.group j) 0)) days

-- after each due minute of the job on the first of the days, the bound is zero within the reach
abbrev pub Clears : Plan → List Class → ℕ → ℕ → Type 0
Clears p days j reach = (m : ℕ) → m < 1440 → is_due_in (class_at days 0) j m ≡ true
    → ClearsBy (bounds_of p j days) m reach
