-- The windows that hold a minute of a stretch's last day.
use Rattle.std.specs.Prelude.{ℕ, ◌+◌, Bool, ◌&&◌, ◌==◌, List, filter}
use Rattle.cs_windows.specs.declared.window.Window.{Window}
use Rattle.cs_windows.specs.Window.{touches}

-- whether two windows are one: of one job, begun at one minute of one day
abbrev pub same_window : Window → Window → Bool
same_window v w = (v.job == w.job) && ((v.day_back == w.day_back) && (v.from == w.from))

-- those that hold a minute of the last day, in order
abbrev pub holders : ℕ → List Window → List Window
holders m ws = filter (λ w. touches w m (m + 1)) ws
