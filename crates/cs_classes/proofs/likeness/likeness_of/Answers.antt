use Rattle.std.proofs.Common.{refl}
use Rattle.cs_classes.proofs.likeness.likeness_of.Goals as goal

pub returns : goal.returns
returns c = rw (c.has_just.ensures, c.has_just-2.ensures, c.has_just-3.ensures, c.has_just-4.ensures, c.has_just-5.ensures, c.requires) refl
