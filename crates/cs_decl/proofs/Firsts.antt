-- The first row that has a fault has the first fault.
use Rattle.std.proofs.Common.{◌≡◌, ◌⊎◌, inl, inr, List, [], ◌∷◌, ◌++◌, ℕ, zero, suc, ◌+◌, ◌<◌, ◌≤◌, Bool, true, false, not, ◌&&◌, cond, eqb, nat_lt, length, Option, Some, None, option_map, map, bytes_eq, refl, ap, sym, ◌∙◌, arith, add-zero, zero-add, ⊎_elim, true≢false}
use Rattle.std.proofs.lemmas.Bool.Decides.{eqb_tells}
use Rattle.std.proofs.lemmas.Bool.{and_parts, eqb-true}
use Rattle.std.specs.Prelude.{position, is_none, is_some}
use Rattle.std.specs.List.{list_any}
use Rattle.cs_plan.specs.declared.limits.TheConstants.{MAX_CAPACITY, MAX_GROUPS}
use Rattle.cs_plan.specs.declared.fault.DeclFault.{DeclFault}
use Rattle.cs_plan.specs.declared.fault.DeclFault.TheVariants as faults
use Rattle.cs_plan.specs.declared.fault.Place.TheVariants.{Group, Cron, Anacron}
use Rattle.cs_decl.specs.declared.entries.Entries.{Entries}
use Rattle.cs_decl.specs.Faults.{is_within, same_number, first_again, is_bad_offset, is_bad_max, is_bad_weight, is_bad_default, needs_group, is_unlisted, are_bad_hours, is_bad_pass, has_bad_parts, clock_of, are_all_hours, where_true, twice_declared, bad_numbers, bad_groups, bad_times, bad_zone, faults_of, first_fault}
use Rattle.cs_plan.specs.Answers.{Fault}
use Rattle.cs_decl.specs.Law.{passes_at, comes_again, row, index, stands_at, stands, IsNoLater, IsFirst}
use Rattle.cs_decl.proofs.Positions.{first_at, position_is}

-- ---- the least index that passes

pub record IsLeast (p : ℕ → Bool) (o : Option ℕ) : Type 0 where
  pub some : (i : ℕ) → o ≡ Some i → (p i ≡ true) × ((j : ℕ) → p j ≡ true → i ≤ j)
  pub none : o ≡ None → (j : ℕ) → p j ≡ true → ⊥

least_step : (p q : ℕ → Bool) (b : Bool) (o : Option ℕ) → q 0 ≡ b → ((j : ℕ) → q (suc j) ≡ p j) → IsLeast p o → IsLeast q (cond b (Some 0) (option_map suc o))
least_step p q true o e later l = record { some = λ i h. let z : 0 ≡ i = cc in rw (← z) (e, λ j g. omega arith); none = λ h. cc }
least_step p q false None e later l = record { some = λ i h. cc; none = λ h j g. none_at p q e later (l.none refl) j g }
  where
    none_at : (p q : ℕ → Bool) → q 0 ≡ false → ((j : ℕ) → q (suc j) ≡ p j) → ((j : ℕ) → p j ≡ true → ⊥) → (j : ℕ) → q j ≡ true → ⊥
    none_at p q e later h zero g = cc
    none_at p q e later h (suc j) g = h j (sym (later j) ∙ g)
least_step p q false (Some k) e later l = record { some = λ i h. let z : suc k ≡ i = cc in rw (← z) (later k ∙ (l.some k refl).0, λ j g. above p q k e later (l.some k refl).1 j g); none = λ h. cc }
  where
    above : (p q : ℕ → Bool) (k : ℕ) → q 0 ≡ false → ((j : ℕ) → q (suc j) ≡ p j) → ((j : ℕ) → p j ≡ true → k ≤ j) → (j : ℕ) → q j ≡ true → suc k ≤ j
    above p q k e later h zero g = absurd (true≢false (sym g ∙ e))
    above p q k e later h (suc j) g = let b = h j (sym (later j) ∙ g) in omega arith

pub least_position : {A : Type 0} (p : A → Bool) (xs : List A) → IsLeast (passes_at p xs) (position p xs)
least_position p xs = rw (position_is p xs) (least_first p xs)
  where
    least_first : {A : Type 0} (p : A → Bool) (xs : List A) → IsLeast (passes_at p xs) (first_at p xs)
    least_first p [] = record { some = λ i h. cc; none = λ h j g. cc }
    least_first p (x ∷ xs) = least_step (passes_at p xs) (passes_at p (x ∷ xs)) (p x) (first_at p xs) refl (λ j. refl) (least_first p xs)

-- ---- what comes again

abbrev again_of : {A : Type 0} → (A → A → Bool) → List A → List A → Option ℕ
again_of same before [] = None
again_of same before (x ∷ xs) = cond (list_any (same x) before) (Some 0) (option_map suc (again_of same (before ++ x ∷ []) xs))

least_again : {A : Type 0} (same : A → A → Bool) (before xs : List A) → IsLeast (comes_again same before xs) (again_of same before xs)
least_again same before [] = record { some = λ i h. cc; none = λ h j g. cc }
least_again same before (x ∷ xs) =
    least_step (comes_again same (before ++ x ∷ []) xs) (comes_again same before (x ∷ xs)) (list_any (same x) before) (again_of same (before ++ x ∷ []) xs) refl (λ j. refl)
    (least_again same (before ++ x ∷ []) xs)

shifted : (b : Bool) (n : ℕ) (r o : Option ℕ) → r ≡ option_map (λ j. (n + 1) + j) o → cond b (Some n) r ≡ option_map (λ j. n + j) (cond b (Some 0) (option_map suc o))
shifted true n r o e = rw add-zero refl
shifted false n r None e = e
shifted false n r (Some j) e = let s : (n + 1) + j ≡ n + suc j = omega arith in e ∙ ap Some s

again_is : {A : Type 0} (same : A → A → Bool) (before : List A) (n : ℕ) (xs : List A) → first_again same before n xs ≡ option_map (λ j. n + j) (again_of same before xs)
again_is same before n [] = refl
again_is same before n (x ∷ xs) = shifted (list_any (same x) before) n _ (again_of same (before ++ x ∷ []) xs) (again_is same (before ++ x ∷ []) (n + 1) xs)

unshifted : (o : Option ℕ) → option_map (λ j. 0 + j) o ≡ o
unshifted None = refl
unshifted (Some j) = rw zero-add refl

least_twice : {A : Type 0} (same : A → A → Bool) (xs : List A) → IsLeast (comes_again same [] xs) (first_again same [] 0 xs)
least_twice same xs = rw (again_is same [] 0 xs, unshifted (again_of same [] xs)) (least_again same [] xs)

-- ---- the one group too many

least_many : (b : Bool) → IsLeast (λ i. eqb i MAX_GROUPS && b) (cond b (Some MAX_GROUPS) None)
least_many true = record { some = λ i h. let z : MAX_GROUPS ≡ i = cc in rw (← z) (refl, λ j g. let e = eqb-true j MAX_GROUPS (and_parts _ _ g).0 in omega arith); none = λ h. cc }
least_many false = record { some = λ i h. cc; none = λ h j g. let p = (and_parts (eqb j MAX_GROUPS) false g).1 in cc }

-- ---- rows

record IsRow (d : Entries) (k : ℕ) (o : Option Fault) : Type 0 where
  some : (f : Fault) → o ≡ Some f → (stands d f ≡ true) × (row f ≡ k) × ((j : ℕ) → stands_at d k j ≡ true → index f ≤ j)
  none : o ≡ None → (j : ℕ) → stands_at d k j ≡ true → ⊥

place_row : (d : Entries) (k : ℕ) (fault : ℕ → Fault) (o : Option ℕ) → ((i : ℕ) → row (fault i) ≡ k) → ((i : ℕ) → index (fault i) ≡ i) → IsLeast (stands_at d k) o → IsRow d k (option_map fault o)
place_row d k fault None r n l = record { some = λ f h. cc; none = λ h. l.none refl }
place_row d k fault (Some i) r n l =
    record { some = λ f h. let same : fault i ≡ f = cc in rw (← same) (rw (r i, n i) (l.some i refl).0, r i, rw (n i) (l.some i refl).1); none = λ h. cc }

flag_row : (d : Entries) (k : ℕ) (b : Bool) (fault : DeclFault) → row (fault, None) ≡ k → ((j : ℕ) → stands_at d k j ≡ b) → IsRow d k (where_true fault b)
flag_row d k true fault r s = record { some = λ f h. let same : (fault, None) ≡ f = cc in rw (← same) (rw r (s 0), r, λ j g. omega arith); none = λ h. cc }
flag_row d k false fault r s = record { some = λ f h. cc; none = λ h j g. let e = s j in cc }

record IsBest (d : Entries) (k : ℕ) (o : Option Fault) : Type 0 where
  some : (f : Fault) → o ≡ Some f → (stands d f ≡ true) × ((g : Fault) → stands d g ≡ true → k ≤ row g → IsNoLater f g)
  none : o ≡ None → (g : Fault) → stands d g ≡ true → k ≤ row g → ⊥

abbrev or_else : Option Fault → Option Fault → Option Fault
or_else None r = r
or_else (Some f) r = Some f

at_or_above : (k n : ℕ) → k ≤ n → (n ≡ k) ⊎ (suc k ≤ n)
at_or_above k n h = ⊎_elim (λ t. inl t.1) (λ t. let other = t.1 in inr (omega arith)) (eqb_tells n k)

row_stands : (d : Entries) (k : ℕ) (g : Fault) → row g ≡ k → stands d g ≡ true → stands_at d k (index g) ≡ true
row_stands d k g e h = rw (← e) h

best_step : (d : Entries) (k : ℕ) (o r : Option Fault) → IsRow d k o → IsBest d (suc k) r → IsBest d k (or_else o r)
best_step d k None r here later =
    record {
      some = λ f h. ((later.some f h).0, λ g s above. ⊎_elim (λ e. absurd (here.none refl (index g) (row_stands d k g e s))) (λ a. (later.some f h).1 g s a) (at_or_above k (row g) above));
      none = λ h g s above. ⊎_elim (λ e. here.none refl (index g) (row_stands d k g e s)) (λ a. later.none h g s a) (at_or_above k (row g) above);
    }
best_step d k (Some f) r here later =
    let p = here.some f refl in
    record {
      some = λ f' h. let same : f ≡ f' = cc in rw (← same) (p.0, λ g s above. ⊎_elim (λ e. inr (p.1 ∙ sym e, p.2 (index g) (row_stands d k g e s))) (λ a. let e = p.1 in inl (omega arith)) (at_or_above k (row g) above));
      none = λ h. cc;
    }

pub other_row : (k n : ℕ) → n < k → eqb k n ≡ false
other_row k n h = ⊎_elim (λ t. let e = t.1 in absurd (omega arith)) (λ t. t.0) (eqb_tells k n)

nothing_past : (d : Entries) (k : ℕ) → 22 ≤ k → (i : ℕ) → stands_at d k i ≡ false
nothing_past d k past i =
    rw (other_row k 0 (omega arith), other_row k 1 (omega arith), other_row k 2 (omega arith), other_row k 3 (omega arith), other_row k 4 (omega arith), other_row k 5 (omega arith), other_row k 6 (omega arith), other_row k 7 (omega arith), other_row k 8 (omega arith), other_row k 9 (omega arith), other_row k 10 (omega arith), other_row k 11 (omega arith), other_row k 12 (omega arith), other_row k 13 (omega arith), other_row k 14 (omega arith), other_row k 15 (omega arith), other_row k 16 (omega arith), other_row k 17 (omega arith), other_row k 18 (omega arith), other_row k 19 (omega arith), other_row k 20 (omega arith), other_row k 21 (omega arith)) refl

best_end : (d : Entries) → IsBest d 22 None
best_end d = record { some = λ f h. cc; none = λ h g s above. let f = nothing_past d (row g) above (index g) in cc }

or_else-first : (o : Option Fault) (os : List (Option Fault)) → first_fault (o ∷ os) ≡ or_else o (first_fault os)
or_else-first None os = refl
or_else-first (Some f) os = refl

best : (d : Entries) → IsBest d 0 (first_fault (faults_of d))
unfolding twice_declared bad_numbers bad_groups bad_times bad_zone
best d =
    simp or_else-first
    (best_step d 0 _ _ (flag_row d 0 (is_bad_offset d.offset) faults.BadShape refl (λ j. refl))
    (best_step d 1 _ _ (place_row d 1 (λ i. (faults.TwiceDeclared, Some (Group i))) _ (λ i. refl) (λ i. refl) (least_twice bytes_eq (map (λ g. g.name) d.groups)))
    (best_step d 2 _ _ (place_row d 2 (λ i. (faults.TwiceDeclared, Some (Cron i))) _ (λ i. refl) (λ i. refl) (least_twice same_number (map (λ e. e.name.number) d.cron)))
    (best_step d 3 _ _ (place_row d 3 (λ i. (faults.TwiceDeclared, Some (Anacron i))) _ (λ i. refl) (λ i. refl) (least_twice bytes_eq (map (λ e. e.identifier) d.anacron)))
    (best_step d 4 _ _ (place_row d 4 (λ i. (faults.BadMax, Some (Cron i))) _ (λ i. refl) (λ i. refl) (least_position (λ e. is_bad_max e.max) d.cron))
    (best_step d 5 _ _ (place_row d 5 (λ i. (faults.BadMax, Some (Anacron i))) _ (λ i. refl) (λ i. refl) (least_position (λ e. is_bad_max e.max) d.anacron))
    (best_step d 6 _ _ (flag_row d 6 (is_bad_default (λ e. is_bad_max e.max) d.default) faults.BadMax refl (λ j. refl))
    (best_step d 7 _ _ (place_row d 7 (λ i. (faults.BadWeight, Some (Cron i))) _ (λ i. refl) (λ i. refl) (least_position (λ e. is_bad_weight e.weight) d.cron))
    (best_step d 8 _ _ (place_row d 8 (λ i. (faults.BadWeight, Some (Anacron i))) _ (λ i. refl) (λ i. refl) (least_position (λ e. is_bad_weight e.weight) d.anacron))
    (best_step d 9 _ _ (flag_row d 9 (is_bad_default (λ e. is_bad_weight e.weight) d.default) faults.BadWeight refl (λ j. refl))
    (best_step d 10 _ _ (flag_row d 10 (not (is_within 1 MAX_CAPACITY d.capacity)) faults.BadCapacity refl (λ j. refl))
    (best_step d 11 _ _ (place_row d 11 (λ i. (faults.ModeNeedsGroup, Some (Cron i))) _ (λ i. refl) (λ i. refl) (least_position needs_group d.cron))
    (best_step d 12 _ _ (place_row d 12 (λ i. (faults.UnknownGroup, Some (Cron i))) _ (λ i. refl) (λ i. refl) (least_position (λ e. is_unlisted d.groups e.group) d.cron))
    (best_step d 13 _ _ (place_row d 13 (λ i. (faults.UnknownGroup, Some (Anacron i))) _ (λ i. refl) (λ i. refl) (least_position (λ e. is_unlisted d.groups e.group) d.anacron))
    (best_step d 14 _ _ (place_row d 14 (λ i. (faults.TooManyGroups, Some (Group i))) _ (λ i. refl) (λ i. refl) (least_many (nat_lt MAX_GROUPS (length d.groups))))
    (best_step d 15 _ _ (flag_row d 15 (are_bad_hours d.hours) faults.BadHours refl (λ j. refl))
    (best_step d 16 _ _ (place_row d 16 (λ i. (faults.ModeOnAnacron, Some (Anacron i))) _ (λ i. refl) (λ i. refl) (least_position (λ e. e.has_mode) d.anacron))
    (best_step d 17 _ _ (flag_row d 17 (is_bad_pass d.pass) faults.BadPassMinute refl (λ j. refl))
    (best_step d 18 _ _ (place_row d 18 (λ i. (faults.BadParts, Some (Cron i))) _ (λ i. refl) (λ i. refl) (least_position has_bad_parts d.cron))
    (best_step d 19 _ _ (flag_row d 19 (is_some d.zone && is_none (clock_of d)) faults.BadZone refl (λ j. refl))
    (best_step d 20 _ _ (flag_row d 20 (is_some d.zone && not (are_all_hours d.hours)) faults.HoursInZone refl (λ j. refl))
    (best_step d 21 _ _ (flag_row d 21 (is_some d.zone && is_some d.pass) faults.PassInZone refl (λ j. refl)) (best_end d)))))))))))))))))))))))

pub first_is : (d : Entries) (f : Fault) → first_fault (faults_of d) ≡ Some f → IsFirst d f
first_is d f h = (((best d).some f h).0, λ g s. ((best d).some f h).1 g s (omega arith))

pub none_stands : (d : Entries) (g : Fault) → first_fault (faults_of d) ≡ None → stands d g ≡ true → ⊥
none_stands d g h s = (best d).none h g s (omega arith)
