-- What holds of declarations without a fault.
use Rattle.std.proofs.Common.{◌≡◌, ℕ, ◌<◌, ◌≤◌, List, [], ◌∷◌, ◌++◌, Bool, true, false, not, ◌&&◌, cond, map, length, nat_lt, Option, Some, None, refl, arith, bytes_eq, ℤ, pos, negsuc}
use Rattle.std.specs.Prelude.{position, All, IfSome, IsSome, option_map, unsigned_abs, int_le, int_lt, is_none}
use Rattle.std.specs.List.{find}
use Rattle.std.proofs.lemmas.Bool.{leb-true, ltb-true, ltb-false, and_parts}
use Rattle.cs_civil.specs.declared.minute.TheConstants.{MINUTES_OF_DAY}
use Rattle.cs_plan.specs.declared.limits.TheConstants.{MAX_MINUTES, MAX_WEIGHT, MAX_CAPACITY, MAX_GROUPS, MAX_OFFSET}
use Rattle.cs_plan.specs.declared.fault.DeclFault.{DeclFault}
use Rattle.cs_plan.specs.declared.fault.DeclFault.TheVariants as faults
use Rattle.cs_decl.specs.declared.entries.GroupEntry.{GroupEntry}
use Rattle.cs_decl.specs.declared.entries.CronEntry.{CronEntry}
use Rattle.cs_decl.specs.declared.entries.AnacronEntry.{AnacronEntry}
use Rattle.cs_decl.specs.declared.entries.DefaultEntry.{DefaultEntry}
use Rattle.cs_decl.specs.declared.entries.Entries.{Entries}
use Rattle.cs_decl.specs.Faults.{is_within, is_bad_offset, first_twice, is_bad_max, is_bad_weight, is_bad_default, needs_group, is_unlisted, are_bad_hours, is_bad_pass, one_too_many, at_anacron, where_true, twice_declared, bad_numbers, bad_groups, bad_times, bad_parts, bad_zone, has_bad_parts, first_fault}
use Rattle.cs_plan.specs.Answers.{Fault}
use Rattle.cs_decl.specs.Meaning.{IsValid}
use Rattle.cs_plan.specs.Job.{IsPossible}
use Rattle.cs_plan.specs.Plan.{IsListed}
use Rattle.cs_decl.specs.Join.{group_place, default_terms, cron_terms, anacron_terms}
use Rattle.cs_decl.proofs.Positions.{position_none, position_below, any_position, found}

-- ---- no row has a fault

pub no_row : (o : Option Fault) (os : List (Option Fault)) → first_fault (o ∷ os) ≡ None → (o ≡ None) × (first_fault os ≡ None)
no_row None os e = (refl, e)
no_row (Some f) os e = absurd cc

pub no_part : (a b : List (Option Fault)) → first_fault (a ++ b) ≡ None → (first_fault a ≡ None) × (first_fault b ≡ None)
no_part [] b e = (refl, e)
no_part (None ∷ a) b e = no_part a b e
no_part (Some f ∷ a) b e = absurd cc

pub mapped_none : {A B : Type 0} (f : A → B) (o : Option A) → option_map f o ≡ None → o ≡ None
mapped_none f None e = refl
mapped_none f (Some x) e = absurd cc

unset : (fault : DeclFault) (b : Bool) → where_true fault b ≡ None → b ≡ false
unset fault false e = refl
unset fault true e = absurd cc

pub record Facts (d : Entries) : Type 0 where
  pub offset : is_bad_offset d.offset ≡ false
  pub distinct : first_twice bytes_eq (map (λ g. g.name) d.groups) ≡ None
  pub cron_max : All (λ e. is_bad_max e.max ≡ false) d.cron
  pub anacron_max : All (λ e. is_bad_max e.max ≡ false) d.anacron
  pub default_max : is_bad_default (λ e. is_bad_max e.max) d.default ≡ false
  pub cron_weight : All (λ e. is_bad_weight e.weight ≡ false) d.cron
  pub anacron_weight : All (λ e. is_bad_weight e.weight ≡ false) d.anacron
  pub default_weight : is_bad_default (λ e. is_bad_weight e.weight) d.default ≡ false
  pub capacity : not (is_within 1 MAX_CAPACITY d.capacity) ≡ false
  pub locks : All (λ e. needs_group e ≡ false) d.cron
  pub cron_listed : All (λ e. is_unlisted d.groups e.group ≡ false) d.cron
  pub anacron_listed : All (λ e. is_unlisted d.groups e.group ≡ false) d.anacron
  pub few : one_too_many d.groups ≡ None
  pub hours : are_bad_hours d.hours ≡ false
  pub pass : is_bad_pass d.pass ≡ false
  pub parts : All (λ e. has_bad_parts e ≡ false) d.cron

pub facts : (d : Entries) → IsValid d → Facts d
unfolding twice_declared bad_numbers bad_groups bad_times
facts d v =
    let a = no_row _ _ v in
    let b = no_part (twice_declared d) _ a.1 in
    let c = no_part (bad_numbers d) _ b.1 in
    let e = no_part (bad_groups d) (bad_times d ++ (bad_parts d ++ bad_zone d)) c.1 in
    let t = no_part (bad_times d) (bad_parts d ++ bad_zone d) e.1 in
    let p = no_part (bad_parts d) (bad_zone d) t.1 in
    let t0 = no_row _ _ b.0 in
    let n0 = no_row _ _ c.0 in
    let n1 = no_row _ _ n0.1 in
    let n2 = no_row _ _ n1.1 in
    let n3 = no_row _ _ n2.1 in
    let n4 = no_row _ _ n3.1 in
    let n5 = no_row _ _ n4.1 in
    let n6 = no_row _ _ n5.1 in
    let g0 = no_row _ _ e.0 in
    let g1 = no_row _ _ g0.1 in
    let g2 = no_row _ _ g1.1 in
    let g3 = no_row _ _ g2.1 in
    let h0 = no_row _ _ t.0 in
    let h1 = no_row (at_anacron faults.ModeOnAnacron (position (λ e. e.has_mode) d.anacron)) (where_true faults.BadPassMinute (is_bad_pass d.pass) ∷ []) h0.1 in
    let h2 = no_row (where_true faults.BadPassMinute (is_bad_pass d.pass)) [] h1.1 in
    record {
      offset = unset _ _ a.0;
      distinct = mapped_none _ _ t0.0;
      cron_max = position_none _ _ (mapped_none _ _ n0.0);
      anacron_max = position_none _ _ (mapped_none _ _ n1.0);
      default_max = unset _ _ n2.0;
      cron_weight = position_none _ _ (mapped_none _ _ n3.0);
      anacron_weight = position_none _ _ (mapped_none _ _ n4.0);
      default_weight = unset _ _ n5.0;
      capacity = unset _ _ n6.0;
      locks = position_none _ _ (mapped_none _ _ g0.0);
      cron_listed = position_none _ _ (mapped_none _ _ g1.0);
      anacron_listed = position_none _ _ (mapped_none _ _ g2.0);
      few = mapped_none _ _ g3.0;
      hours = unset _ _ h0.0;
      pass = unset faults.BadPassMinute _ h2.0;
      parts = position_none _ _ (mapped_none _ _ (no_row _ _ p.0).0);
    }

-- ---- numbers in their ranges

pub yes : (b : Bool) → not b ≡ false → b ≡ true
yes true e = refl
yes false e = absurd cc

pub within_abs : (low high : ℕ) (z : ℤ) → is_within low high z ≡ true → (low ≤ unsigned_abs z) × (unsigned_abs z ≤ high)
within_abs low high (pos n) e = let p = and_parts _ _ e in (leb-true low n p.0, leb-true n high p.1)
within_abs low high (negsuc n) e = absurd cc

pub few_groups : (d : Entries) → IsValid d → length d.groups ≤ MAX_GROUPS
few_groups d v = by_test (nat_lt MAX_GROUPS (length d.groups)) refl (facts d v).few
  where
    by_test : (b : Bool) → nat_lt MAX_GROUPS (length d.groups) ≡ b → cond b (Some MAX_GROUPS) None ≡ None → length d.groups ≤ MAX_GROUPS
    by_test true long e = absurd cc
    by_test false short e = ltb-false MAX_GROUPS (length d.groups) short

-- a declared group has a place
placed : (groups : List GroupEntry) (name : Option (List ℕ)) → is_none name ≡ false → is_unlisted groups name ≡ false → IsSome (group_place groups name)
placed groups None some listed = absurd cc
placed groups (Some n) some listed = any_position (λ g. bytes_eq n g.name) groups (yes _ listed)

pub locked : (a b : Bool) → (a && b) ≡ false → a ≡ true → b ≡ false
locked true b e t = e
locked false b e t = absurd cc

pub default_possible : (d : Entries) → IsValid d → (place : ℕ) → IsPossible (default_terms place d.default)
default_possible d v place = by_default d.default (facts d v).default_max (facts d v).default_weight
  where
    by_default : (o : Option DefaultEntry) → is_bad_default (λ e. is_bad_max e.max) o ≡ false → is_bad_default (λ e. is_bad_weight e.weight) o ≡ false → IsPossible (default_terms place o)
    by_default None max weight = record { max = (omega arith, omega arith); weight = (omega arith, omega arith); lock = λ t. absurd cc }
    by_default (Some e) max weight = record { max = within_abs 1 MAX_MINUTES e.max (yes _ max); weight = within_abs 1 MAX_WEIGHT e.weight (yes _ weight); lock = λ t. absurd cc }

pub cron_possible : (d : Entries) → IsValid d → (place : ℕ) (test : CronEntry → Bool) (o : Option CronEntry) → find test d.cron ≡ o → IsPossible (cron_terms d place o)
cron_possible d v place test None is = default_possible d v place
cron_possible d v place test (Some e) is =
    let f = facts d v in
    let max = within_abs 1 MAX_MINUTES e.max (yes _ (found (λ x. is_bad_max x.max ≡ false) test d.cron e is f.cron_max)) in
    let weight = within_abs 1 MAX_WEIGHT e.weight (yes _ (found (λ x. is_bad_weight x.weight ≡ false) test d.cron e is f.cron_weight)) in
    let lock = found (λ x. needs_group x ≡ false) test d.cron e is f.locks in
    let listed = found (λ x. is_unlisted d.groups x.group ≡ false) test d.cron e is f.cron_listed in
    record { max = max; weight = weight; lock = λ t. placed d.groups e.group (locked _ _ lock t) listed }

pub anacron_possible : (d : Entries) → IsValid d → (place : ℕ) (test : AnacronEntry → Bool) (o : Option AnacronEntry) → find test d.anacron ≡ o → IsPossible (anacron_terms d place o)
anacron_possible d v place test None is = default_possible d v place
anacron_possible d v place test (Some e) is =
    let f = facts d v in
    let max = within_abs 1 MAX_MINUTES e.max (yes _ (found (λ x. is_bad_max x.max ≡ false) test d.anacron e is f.anacron_max)) in
    let weight = within_abs 1 MAX_WEIGHT e.weight (yes _ (found (λ x. is_bad_weight x.weight ≡ false) test d.anacron e is f.anacron_weight)) in
    record { max = max; weight = weight; lock = λ t. absurd cc }

listed_at : (groups : List GroupEntry) (name : Option (List ℕ)) → IfSome (group_place groups name) (λ g. g < length groups)
listed_at groups None = tt
listed_at groups (Some n) = position_below (λ g. bytes_eq n g.name) groups

default_listed : (groups : List GroupEntry) (place : ℕ) (o : Option DefaultEntry) → IsListed (length groups) (default_terms place o)
default_listed groups place None = tt
default_listed groups place (Some e) = tt

pub cron_listed : (d : Entries) (place : ℕ) (o : Option CronEntry) → IsListed (length d.groups) (cron_terms d place o)
cron_listed d place None = default_listed d.groups place d.default
cron_listed d place (Some e) = listed_at d.groups e.group

pub anacron_listed : (d : Entries) (place : ℕ) (o : Option AnacronEntry) → IsListed (length d.groups) (anacron_terms d place o)
anacron_listed d place None = default_listed d.groups place d.default
anacron_listed d place (Some e) = listed_at d.groups e.group

pub capacity_possible : (d : Entries) → IsValid d → (1 ≤ unsigned_abs d.capacity) × (unsigned_abs d.capacity ≤ MAX_CAPACITY)
capacity_possible d v = within_abs 1 MAX_CAPACITY d.capacity (yes _ (facts d v).capacity)

pub offset_possible : (d : Entries) → IsValid d → unsigned_abs d.offset ≤ MAX_OFFSET
offset_possible d v = ltb-false MAX_OFFSET (unsigned_abs d.offset) (facts d v).offset

hours_of : (a b : ℤ) → are_bad_hours (a, b) ≡ false → (unsigned_abs a < unsigned_abs b) × (unsigned_abs b ≤ MINUTES_OF_DAY)
hours_of (pos a) (pos b) e =
    let p = and_parts (int_le (pos 0) (pos a) && int_lt (pos a) (pos b)) (int_le (pos b) (pos MINUTES_OF_DAY)) (yes _ e) in
    let q = and_parts (int_le (pos 0) (pos a)) (int_lt (pos a) (pos b)) p.0 in
    (ltb-true a b q.1, leb-true b MINUTES_OF_DAY p.1)
hours_of (pos a) (negsuc b) e =
    let p = and_parts (int_le (pos 0) (pos a) && int_lt (pos a) (negsuc b)) (int_le (negsuc b) (pos MINUTES_OF_DAY)) (yes _ e) in
    let q = and_parts (int_le (pos 0) (pos a)) (int_lt (pos a) (negsuc b)) p.0 in
    absurd cc
hours_of (negsuc a) b e = absurd cc

pub hours_possible : (d : Entries) → IsValid d → (unsigned_abs d.hours.0 < unsigned_abs d.hours.1) × (unsigned_abs d.hours.1 ≤ MINUTES_OF_DAY)
hours_possible d v = hours_of d.hours.0 d.hours.1 (facts d v).hours

pass_of : (o : Option ℤ) → is_bad_pass o ≡ false → IfSome (option_map unsigned_abs o) (λ m. m < MINUTES_OF_DAY)
pass_of None e = tt
pass_of (Some (pos n)) e = ltb-true n MINUTES_OF_DAY (and_parts _ _ (yes _ e)).1
pass_of (Some (negsuc n)) e = absurd cc

pub pass_possible : (d : Entries) → IsValid d → IfSome (option_map unsigned_abs d.pass) (λ m. m < MINUTES_OF_DAY)
pass_possible d v = pass_of d.pass (facts d v).pass
