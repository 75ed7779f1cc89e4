use Rattle.std.proofs.Common.{◌≡◌, Bool, true, false, List, ◌∷◌, map, Option, Some, ap}
use Rattle.std.specs.List.{list_any}
use Rattle.cs_civil.specs.Calendar.{Kind}
use Rattle.cs_theorem.specs.Certificate.{Certificate}
use Rattle.cs_theorem.specs.Faults.{Fault, Missing, first_of, or_else, same_list, unless}

abbrev pub has : Certificate → List Kind → Bool
has a ks = list_any (λ s. same_list s.of (map a.class_of ks)) a.stretches

abbrev pub missed : Certificate → List Kind → Option Fault
missed a ks = unless (has a ks) (Missing ks)

pub here : (a : Certificate) (ks : List Kind) (kss : List (List Kind)) → has a ks ≡ false → first_of (missed a) (ks ∷ kss) ≡ Some (Missing ks)
here a ks kss e = ap (λ (b : Bool). or_else (unless b (Missing ks)) (first_of (missed a) kss)) e

pub later : (a : Certificate) (ks : List Kind) (kss : List (List Kind)) → has a ks ≡ true → first_of (missed a) (ks ∷ kss) ≡ first_of (missed a) kss
later a ks kss e = ap (λ (b : Bool). or_else (unless b (Missing ks)) (first_of (missed a) kss)) e
