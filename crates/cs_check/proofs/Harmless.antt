-- A stretch that holds by a rule has no fault by it.
use Rattle.std.proofs.Common.{◌≡◌, ℕ, ◌<◌, ◌≤◌, ◌-◌, true, false, None, option_map, ap}
use Rattle.cs_history.specs.Plan.{Plan, IsPlan}
use Rattle.cs_wait.specs.Bounds.{StepsHold}
use Rattle.cs_windows.specs.declared.window.Window.{Window}
use Rattle.cs_theorem.specs.Accepted.{AreApart, AreFree, AreWithin, ListsAll, arrivals, nth, windows_of}
use Rattle.cs_theorem.specs.Certificate.{Certificate, Stretch}
use Rattle.cs_theorem.specs.Faults.{BacklogRises, WindowMissing, Collision, OverCapacity, SkipBlocked, has_waiter, minute_of}
use Rattle.cs_theorem.proofs.Points.{says_rise, says_missing, says_collision, says_overload, says_blocked}
use Rattle.cs_check.specs.Stretches.{capacity_fault, collisions_fault, leaves_fault, skips_fault, steps_fault}

module _ (p : Plan) (plan : IsPlan p) (a : Certificate) (n : ℕ) (some : 1 ≤ n) (s : Stretch) where
  pub steps_pass : ((g : ℕ) → g < p.groups → has_waiter p g ≡ true → StepsHold (a.bound (nth s.of (n - 2)) g) (arrivals p a g (nth s.of (n - 2))) (a.bound (nth s.of (n - 1)) g)) → steps_fault p a n s ≡ None
  steps_pass steps = ap (option_map (λ (f : ℕ × ℕ). BacklogRises f.1 (minute_of a n s f.0 - 1440))) ((says_rise p plan (λ _ _ _. false) a n some s).1 (λ m lt g below waits. steps g below waits m lt))

  pub leaves_pass : ListsAll s.tree (windows_of p a s.of) → leaves_fault p a n s ≡ None
  leaves_pass covered = ap (option_map (λ (f : ℕ × Window). WindowMissing f.1 (minute_of a n s f.0))) ((says_missing p plan (λ _ _ _. false) a n some s.tree (windows_of p a s.of)).1 covered)

  pub collisions_pass : AreApart p (windows_of p a s.of) → collisions_fault p a n s ≡ None
  collisions_pass apart = ap (option_map (λ (f : ℕ × Window × Window). Collision (minute_of a n s f.0) f.1 f.2)) ((says_collision p plan (λ _ _ _. false) a n some (windows_of p a s.of)).1 apart)

  pub capacity_pass : AreWithin p n (windows_of p a s.of) → capacity_fault p a n s ≡ None
  capacity_pass within = ap (option_map (λ (f : ℕ × ℕ). OverCapacity (minute_of a n s f.0) f.1)) ((says_overload p plan (λ _ _ _. false) a n some (windows_of p a s.of)).1 within)

  pub skips_pass : AreFree p (windows_of p a s.of) → skips_fault p a n s ≡ None
  skips_pass free = ap (option_map (λ (f : ℕ × Window × Window). SkipBlocked (minute_of a n s f.0) f.1 f.2)) ((says_blocked p plan (λ _ _ _. false) a n some (windows_of p a s.of)).1 free)
