use Rattle.std.proofs.Common.{◌≡◌, ℕ, ◌+◌, ◌-◌, ◌*◌, ◌<◌, ◌≤◌, true, false, max, min, arith}
use Rattle.std.proofs.lemmas.Bool.{lt-ltb}
use Rattle.std.proofs.lemmas.Bool.Decides.{nat_tests}
use borrow.Author.Tests.{ltb-true}
use Rattle.cs_windows.specs.declared.window.Window.{Window}
use Rattle.cs_windows.specs.Window.{touches, Holds}

first_held : (lo hi from end day : ℕ) → max (lo + day) from < min (hi + day) end → (x : ℕ) × (lo ≤ x) × (x < hi) × ((from ≤ x + day) × (x + day < end))
first_held lo hi from end day lt = (max (lo + day) from - day, omega arith, omega arith, (omega arith, omega arith))

between : (lo hi from end day x : ℕ) → lo ≤ x → x < hi → from ≤ x + day → x + day < end → max (lo + day) from < min (hi + day) end
between lo hi from end day x a b c d = omega arith

pub touches_held : (w : Window) (lo hi : ℕ) → touches w lo hi ≡ true → (x : ℕ) × (lo ≤ x) × (x < hi) × Holds w x
touches_held w lo hi h = first_held lo hi w.from (w.from + w.reach) (1440 * w.day_back) (ltb-true _ _ h)

pub held_touches : (w : Window) (lo hi x : ℕ) → lo ≤ x → x < hi → Holds w x → touches w lo hi ≡ true
held_touches w lo hi x low high h = lt-ltb _ _ (between lo hi w.from (w.from + w.reach) (1440 * w.day_back) x low high h.0 h.1)

-- a window that touches no minute of a range touches none of a part of it
pub touches-part : (w : Window) (lo hi low high : ℕ) → lo ≤ low → high ≤ hi → touches w lo hi ≡ false → touches w low high ≡ false
touches-part w lo hi low high a b h = grind (arith, nat_tests)
