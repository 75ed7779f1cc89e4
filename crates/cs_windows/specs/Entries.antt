use Rattle.std.specs.Prelude.{Bool, ◌&&◌, ◌==◌, List}
use Rattle.std.specs.List.{list_any}
use Rattle.cs_windows.specs.declared.window.Window.{Window}
use Rattle.cs_windows.specs.declared.tree.Entry.{Entry}

abbrev pub names : Entry → Window → Bool
names e w = (e.job == w.job) && (e.day_back == w.day_back) && (e.from == w.from)

abbrev pub lists : List Entry → Window → Bool
lists entries w = list_any (λ e. names e w) entries
