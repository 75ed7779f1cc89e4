use Rattle.std.specs.Prelude.{◌≡◌, ◌==◌, ℕ, true, false, List, map, find, Option, None, Some, option_map}
use Rattle.cs_civil.specs.Calendar.{Kind}
use Rattle.cs_claims.specs.Certificate.{class_of}
use Rattle.cs_claims.specs.Content.{Content}
use Rattle.cs_claims.specs.declared.class.Class.{Class}
use Rattle.cs_theorem.specs.Certificate.{Stretch}
use Rattle.cs_classes.specs.Claim.{Claimed}
use Rattle.cs_classes.specs.StandsFor.{bare, class_lists, days_for, listed, worked_classes}
use Rattle.cs_plan.specs.Plan.{Declared}
use Rattle.cs_classes.specs.declared.working_out.ClassedKind.{ClassedKind}
use Rattle.cs_classes.specs.declared.working_out.WorkedOut.{WorkedOut}

abbrev pub classed_kind : Content → Kind → ClassedKind
classed_kind c kind = record { kind = kind; class = class_of c kind }

abbrev pub first_classed : List ClassedKind → ℕ → Option Kind
first_classed kinds class =
    option_map (λ classed. classed.kind) (find (λ classed. classed.class == class) kinds)

pub record IsWorkedOutOf (d : Declared) (c : Content) (w : WorkedOut) : Type 0 where
  pub classes : w.classes.items ≡ worked_classes d c
  pub stretches : w.stretches.items ≡ class_lists c (days_for d c)

-- version 3 is worked out, the others aren't
abbrev pub IsWorkedOut : Declared → Content → Option WorkedOut → Type 0
IsWorkedOut d c None = (c.version == 3) ≡ false
IsWorkedOut d c (Some w) = ((c.version == 3) ≡ true) × IsWorkedOutOf d c w

-- the classes that are judged: the certificate's own, or those that were worked out
abbrev pub classes_by : Content → Option WorkedOut → List Class
classes_by c None = c.classes
classes_by c (Some w) = w.classes.items

abbrev pub stretches_by : Content → Option WorkedOut → List Stretch
stretches_by c None = map listed c.stretches
stretches_by c (Some w) = map bare w.stretches.items

abbrev pub judged : Content → Option WorkedOut → Claimed
judged c w = record {
  classes = classes_by c w;
  kinds = c.kinds;
  stretches = stretches_by c w;
  reach = c.reach;
}
