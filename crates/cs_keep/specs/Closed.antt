-- What a closed keep is seen as.
use Rattle.cs_check.specs.declared.checked.Checked.{Checked}
use Rattle.cs_keep.specs.Keeping.{Keeping}
use Rattle.cs_keep.specs.declared.kept.Kept.{Kept}

abbrev pub checked_in : Kept → Checked
checked_in k = k.checked

abbrev pub keeping_in : Kept → Keeping
keeping_in k = k.journaled
