-- The first fault of lists, one after the other.
use Rattle.std.proofs.Common.{◌≡◌, List, [], ◌∷◌, ◌++◌, false, Option, Some, None, refl, ◌∙◌}
use Rattle.std.specs.Option.{option_or}
use Rattle.cs_decl.specs.declared.entries.Entries.{Entries}
use Rattle.cs_decl.specs.Faults.{is_bad_offset, twice_declared, bad_numbers, bad_groups, bad_times, bad_parts, bad_zone, faults_of, first_fault}
use Rattle.cs_plan.specs.Answers.{Fault}

pub in_front : (a b : List (Option Fault)) (f : Fault) → first_fault a ≡ Some f → first_fault (a ++ b) ≡ Some f
in_front [] b f e = absurd cc
in_front (Some g ∷ a) b f e = e
in_front (None ∷ a) b f e = in_front a b f e

pub behind : (a b : List (Option Fault)) → first_fault a ≡ None → first_fault (a ++ b) ≡ first_fault b
behind [] b e = refl
behind (Some g ∷ a) b e = absurd cc
behind (None ∷ a) b e = behind a b e

pub one_or_other : (a b : List (Option Fault)) → first_fault (a ++ b) ≡ option_or (first_fault a) (first_fault b)
one_or_other [] b = refl
one_or_other (Some g ∷ a) b = refl
one_or_other (None ∷ a) b = one_or_other a b

pub alone : (o : Option Fault) → o ≡ first_fault (o ∷ [])
alone None = refl
alone (Some f) = refl

no_offset : (d : Entries) → is_bad_offset d.offset ≡ false → first_fault (faults_of d) ≡ first_fault (twice_declared d ++ (bad_numbers d ++ (bad_groups d ++ (bad_times d ++ (bad_parts d ++ bad_zone d)))))
no_offset d e = rw e refl

pub first_twice_declared : (d : Entries) (f : Fault) → is_bad_offset d.offset ≡ false → first_fault (twice_declared d) ≡ Some f → first_fault (faults_of d) ≡ Some f
first_twice_declared d f o e = no_offset d o ∙ in_front (twice_declared d) _ f e

past_twice : (d : Entries) → is_bad_offset d.offset ≡ false → first_fault (twice_declared d) ≡ None → first_fault (faults_of d) ≡ first_fault (bad_numbers d ++ (bad_groups d ++ (bad_times d ++ (bad_parts d ++ bad_zone d))))
past_twice d o t = no_offset d o ∙ behind (twice_declared d) _ t

pub first_bad_number : (d : Entries) (f : Fault) → is_bad_offset d.offset ≡ false → first_fault (twice_declared d) ≡ None → first_fault (bad_numbers d) ≡ Some f → first_fault (faults_of d) ≡ Some f
first_bad_number d f o t e = past_twice d o t ∙ in_front (bad_numbers d) _ f e

past_numbers : (d : Entries) → is_bad_offset d.offset ≡ false → first_fault (twice_declared d) ≡ None → first_fault (bad_numbers d) ≡ None → first_fault (faults_of d) ≡ first_fault (bad_groups d ++ (bad_times d ++ (bad_parts d ++ bad_zone d)))
past_numbers d o t n = past_twice d o t ∙ behind (bad_numbers d) _ n

pub first_bad_group : (d : Entries) (f : Fault) → is_bad_offset d.offset ≡ false → first_fault (twice_declared d) ≡ None → first_fault (bad_numbers d) ≡ None → first_fault (bad_groups d) ≡ Some f → first_fault (faults_of d) ≡ Some f
first_bad_group d f o t n e = past_numbers d o t n ∙ in_front (bad_groups d) _ f e

pub past_groups : (d : Entries) → is_bad_offset d.offset ≡ false → first_fault (twice_declared d) ≡ None → first_fault (bad_numbers d) ≡ None → first_fault (bad_groups d) ≡ None → first_fault (faults_of d) ≡ first_fault (bad_times d ++ (bad_parts d ++ bad_zone d))
past_groups d o t n g = past_numbers d o t n ∙ behind (bad_groups d) _ g
