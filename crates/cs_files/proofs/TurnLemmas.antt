-- Files that are read one after the other.
use Rattle.std.proofs.Common.{List, [], ◌∷◌, ◌++◌, Some, None, refl, subst}
use Rattle.clap.specs.Words.{Text}
use Rattle.cs_io.specs.Files.{AreReadInTurn, IsReadAlone, IsReadOn, Reads}

not_read : (path : Text) (r : Reads) → IsReadOn path 0 r r
not_read path None = refl
not_read path (Some paths) = refl

pub none_read : (paths : List Text) (r : Reads) → AreReadInTurn paths r r
none_read [] r = refl
none_read (path ∷ paths) r = (r, (0, not_read path r), none_read paths r)

pub first_read : (path : Text) (paths : List Text) (old new : Reads) → IsReadAlone path old new → AreReadInTurn (path ∷ paths) old new
first_read path paths old new alone = (new, alone, none_read paths new)

-- some, and then others
pub then_read : (ps qs : List Text) (old mid new : Reads) → AreReadInTurn ps old mid → AreReadInTurn qs mid new → AreReadInTurn (ps ++ qs) old new
then_read [] qs old mid new same turn = subst (λ (r : Reads). AreReadInTurn qs r new) same turn
then_read (p ∷ ps) qs old mid new (between, alone, rest) turn = (between, alone, then_read ps qs between mid new rest turn)

-- and no others
pub some_read : (ps qs : List Text) (old new : Reads) → AreReadInTurn ps old new → AreReadInTurn (ps ++ qs) old new
some_read ps qs old new turn = then_read ps qs old new new turn (none_read qs new)
