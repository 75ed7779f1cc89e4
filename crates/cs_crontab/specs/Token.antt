-- The front of a command as the code sees it, wherever it lies in memory.
use Rattle.std.specs.Prelude.{ℕ, ◌<◌, List, [], ◌∷◌, length}
use Rattle.std.specs.List.{onto_first}
use Rattle.cs_crontab.specs.declared.command.Token.{Token}
use Rattle.cs_crontab.specs.declared.command.Token.TheVariants.{End, Mark, Byte}
use Rattle.cs_crontab.specs.Command.{pieces_of}

-- the pieces of a text that begins like this
abbrev pub pieces_seen : Token → List (List ℕ)
pieces_seen End = [] ∷ []
pieces_seen (Mark rest) = [] ∷ pieces_of rest.now
pieces_seen (Byte byte rest) = onto_first byte (pieces_of rest.now)

-- what follows is shorter
abbrev pub IsShorter : Token → List ℕ → Type 0
IsShorter End text = Unit {0}
IsShorter (Mark rest) text = length rest.now < length text
IsShorter (Byte byte rest) text = length rest.now < length text
