-- The program's name and its version, a line.
use Rattle.std.specs.Prelude.{ℕ, List, codes}

abbrev pub version_text : List ℕ
version_text = codes "cronsafe 0.1.0\n"
