-- The text that a shell gets.
use Rattle.std.proofs.Common.{ℕ, List, Ok, refl}
use Rattle.cs_crontab.specs.Command.{AreParts, parts_from, pieces_of}
use Rattle.cs_crontab.proofs.Pieces.{read_all}

pub given : (command : List ℕ) → AreParts command (parts_from (pieces_of command))
given command = read_all {E = Unit {0}} command (Ok (parts_from (pieces_of command))) refl
