use Rattle.std.proofs.Common.{◌*◌, ◌<◌, ℕ, List, slice_index}
use Rattle.cs_windows.specs.declared.window.Window.{Window}
use Rattle.cs_windows.specs.Links.{AreLinked, with_own}
use Rattle.cs_windows.specs.Occupied.{job_of}
use Rattle.cs_windows.specs.Window.{window}
use Rattle.cs_windows.proofs.list.link_starts.Given as goal

abbrev pub invariant-loop-block : goal.invariant-loop-block
invariant-loop-block l = (m : ℕ) → m < 1440 → (ws : List Window) → AreLinked l.fn.links.items (slice_index l.fn.firsts m) ws
    → AreLinked l.links.items (slice_index l.firsts m) (with_own ((job_of l.own).begins l.fn.day) (window l.job l.day_back 0 l.reach) (32 * l.block) m ws)
