-- What a certificate says, and what a checker asks of it.
use Rattle.std.specs.Prelude.{ℕ, Bool, ◌&&◌, nat_eq, List, [], ◌∷◌, if◌then◌else◌}
use Rattle.std.specs.List.{list_any}
use Rattle.cs_civil.specs.Calendar.{Kind}
use Rattle.cs_daytree.specs.Tree.{class_in, has}
use Rattle.cs_wait.specs.Bounds.{at}
use Rattle.cs_wait.specs.declared.backlog.Piece.{Piece}
use Rattle.cs_claims.specs.declared.certificate.Certificate.{Certificate}
use Rattle.cs_claims.specs.declared.class.Class.{Class}
use Rattle.cs_claims.specs.declared.class.GroupBacklog.{GroupBacklog}
use Rattle.cs_claims.specs.Content.{Content, content_of}

abbrev pub content : Certificate → Content
content c = content_of c.parts

-- the number of the class of a kind of day
abbrev pub class_of : Content → Kind → ℕ
class_of c kind = class_in c.kinds kind

-- whether a job is due at a minute of a day of the class
abbrev pub is_due_in : Class → ℕ → ℕ → Bool
is_due_in class job minute = list_any (λ d. nat_eq d.job job && has d.minutes minute) class.due

-- the pieces of a group, none if it isn't listed
abbrev pub pieces_of : List GroupBacklog → ℕ → List Piece
pieces_of [] group = []
pieces_of (b ∷ rest) group = if nat_eq b.group group then b.backlog else pieces_of rest group

-- the backlog bound of a group at a minute of a day of the class, 0 if the group isn't listed
abbrev pub bound_in : Class → ℕ → ℕ → ℕ
bound_in class group minute = at (pieces_of class.backlog group) minute
