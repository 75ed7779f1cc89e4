-- When nothing is left to do.
use Rattle.std.specs.Prelude.{◌≡◌, ◌⊎◌, ℕ, []}
use Rattle.cs_history.specs.Step.{State}
use Rattle.cs_history.specs.declared.event.Event.TheVariants.{Down}
use Rattle.cs_keep.specs.Keeping.{Keeping, IsKept, with_event}

-- nothing is pending, waits or runs; a pass may be open
pub record IsAtRest (s : State) : Type 0 where
  pub pending : s.pending ≡ []
  pub waiting : s.waiting ≡ []
  pub running : s.running ≡ []

-- it went down at rest in this minute, or was refused that
pub record Leaving (k : Keeping) (minute : ℕ) : Type 0 where
  pub before : Keeping
  pub kept : IsKept before
  pub at_rest : IsAtRest before.core.state
  pub present : before.core.state.now ≡ minute
  pub down : (k ≡ with_event before Down) ⊎ (k ≡ before)

abbrev pub IsLeftIn : Keeping → ℕ → Type 0
IsLeftIn k minute = ∥ Leaving k minute ∥₁
