-- The lines that entries of a plan name.
use Rattle.std.proofs.Common.{◌≡◌, ◌≢◌, ◌⊎◌, ◌++◌, inl, inr, ℕ, ◌<◌, ◌≤◌, List, Bool, true, false, not, ◌&&◌, map, length, get_or, Option, Some, None, Ok, pos, refl, sym, subst, ap, ◌∙◌, arith}
use Rattle.std.specs.Prelude.{All, Contains, IfSome, option_map}
use Rattle.std.specs.Ordering.{int_eq}
use Rattle.std.specs.List.{list_any, count_by}
use Rattle.std.proofs.lemmas.Bool.{ltb-false}
use Rattle.std.proofs.lemmas.Bool.Decides.{Decides-int_eq}
use Rattle.std.proofs.lemmas.List.Elements.{All-map, All-append, All-contains}
use Rattle.std.proofs.lemmas.Slice.Eq.{bytes_eq-Decides}
use Rattle.cs_crontab.specs.Crontab.{Table as Crontab, CommandLine}
use Rattle.cs_anacrontab.specs.Anacrontab.{Table as Anacrontab}
use Rattle.cs_decl.specs.declared.entries.LineName.{LineName}
use Rattle.cs_decl.specs.declared.entries.Entries.{Entries}
use Rattle.cs_plan.specs.Plan.{Declared}
use Rattle.cs_decl.specs.Faults.{first_fault, same_number}
use Rattle.cs_plan.specs.Answers.{Fault}
use Rattle.cs_plan.specs.Answers.{unless}
use Rattle.cs_decl.specs.Join.{is_named, is_unlike, has_other_schedule, has_no_line, has_other_command, is_ambiguous, number_of, cron_numbers, rest, lines_left_out, untimed, naming_faults, undeclared, mistimed, later_faults, zone_of, plan_of, joined}
use Rattle.cs_decl.specs.TwiceStarted.{twice_started}
use Rattle.cs_decl.specs.Lines.{names_of, TellsOf, is_told, IsLeftOut, HasNoEntry}
use Rattle.cs_decl.specs.When.{is_told_when}
use Rattle.cs_decl.proofs.Positions.{position_none}
use Rattle.cs_decl.proofs.Validity.{yes, locked, no_part}
use Rattle.cs_decl.proofs.Joins.{NamesAreRight, names_are_right, JobsAreDeclared, jobs_are_declared, SchedulesAreRight, schedules_are_right}
use Rattle.cs_decl.proofs.Once.{none_pass, any_map, at_least_one, found_once, passing, count_none, apart}

-- ---- a plan is made where there is no fault

pub no_fault : {A : Type 0} (x y : A) (fault : Option Fault) → unless x fault ≡ Ok y → (fault ≡ None) × (x ≡ y)
no_fault x y None h = (refl, cc)
no_fault x y (Some f) h = absurd cc

module _ (c : Crontab) (a : Anacrontab) (d : Entries) (plan : Declared) (made : joined c a d ≡ Ok plan) where
  parted : (first_fault (naming_faults c.lines a.lines d) ≡ None) × (first_fault (later_faults c a d) ≡ None)
  unfolding joined
  parted = no_part (naming_faults c.lines a.lines d) (later_faults c a d) (no_fault (plan_of (rest d c) (lines_left_out d c) (untimed d c.lines) a d) plan _ made).0

  later : (first_fault (undeclared (rest d c).lines a.lines d) ≡ None) × (first_fault (mistimed c.lines d ++ twice_started (zone_of d) (rest d c).lines) ≡ None)
  later = no_part (undeclared (rest d c).lines a.lines d) (mistimed c.lines d ++ twice_started (zone_of d) (rest d c).lines) parted.1

  timed : (first_fault (mistimed c.lines d) ≡ None) × (first_fault (twice_started (zone_of d) (rest d c).lines) ≡ None)
  timed = no_part (mistimed c.lines d) (twice_started (zone_of d) (rest d c).lines) later.1

  pub named_right : NamesAreRight c.lines a.lines d
  named_right = names_are_right c.lines a.lines d parted.0

  pub declared_right : JobsAreDeclared (rest d c).lines a.lines d
  declared_right = jobs_are_declared (rest d c).lines a.lines d later.0

  pub timed_right : SchedulesAreRight c.lines d
  timed_right = schedules_are_right c.lines d timed.0

  pub none_twice : first_fault (twice_started (zone_of d) (rest d c).lines) ≡ None
  none_twice = timed.1

  pub plan_is : plan_of (rest d c) (lines_left_out d c) (untimed d c.lines) a d ≡ plan
  unfolding joined
  plan_is = (no_fault (plan_of (rest d c) (lines_left_out d c) (untimed d c.lines) a d) plan _ made).1

-- what holds of the name of each entry of `cron` and of `left_out` holds of all names
all_names : (d : Entries) (P : LineName → Type 0) → All (λ e. P e.name) d.cron → All P d.left_out → All P (names_of d)
all_names d P crons left_out = All-append P (map (λ e. e.name) d.cron) d.left_out (All-map P (λ e. e.name) d.cron crons) left_out

-- ---- the commands that they give

own : (command : List ℕ) (told : Option (List ℕ)) → is_unlike command told ≡ false → IfSome told (λ text. text ≡ command)
own command None e = tt
own command (Some text) e = (bytes_eq-Decides text command).0 (yes _ e)

tells : (lines : List CommandLine) (name : LineName) → has_other_command lines name ≡ false → has_other_schedule lines name ≡ false → All (TellsOf name) lines
tells lines name command when = λ k l low named.
    let line = get_or lines k l in
    let unlike = none_pass (λ x. is_named name x && is_unlike x.command name.command) lines command k l low in
    let late = none_pass (λ x. is_named name x && not (is_told_when name.when x.when)) lines when k l low in
    (own line.command name.command (locked _ _ unlike named), yes _ (locked _ _ late named))

pub commands : (c : Crontab) (a : Anacrontab) (d : Entries) (plan : Declared) → joined c a d ≡ Ok plan → All (λ name. All (TellsOf name) c.lines) (names_of d)
commands c a d plan made =
    let right = named_right c a d plan made in
    let timed = timed_right c a d plan made in
    all_names d (λ name. All (TellsOf name) c.lines)
    (λ k e low. tells c.lines (get_or d.cron k e).name (position_none (λ x. has_other_command c.lines x.name) d.cron right.cron_told k e low) (position_none (λ x. has_other_schedule c.lines x.name) d.cron timed.crons k e low))
    (λ k name low. tells c.lines (get_or d.left_out k name) (position_none (has_other_command c.lines) d.left_out right.left_out_told k name low) (position_none (has_other_schedule c.lines) d.left_out timed.left_out k name low))

-- ---- each names one line

once : (lines : List CommandLine) (name : LineName) → is_ambiguous lines name ≡ false → count_by (is_named name) lines ≤ 1
unfolding is_ambiguous
once lines name e = ltb-false 1 (count_by (is_named name) lines) e

exactly : (lines : List CommandLine) (name : LineName) → has_no_line lines name ≡ false → is_ambiguous lines name ≡ false → count_by (is_named name) lines ≡ 1
exactly lines name some one = omega (arith, at_least_one (is_named name) lines (yes _ some), once lines name one)

pub one_line : (c : Crontab) (a : Anacrontab) (d : Entries) (plan : Declared) → joined c a d ≡ Ok plan → All (λ name. count_by (is_named name) c.lines ≡ 1) (names_of d)
one_line c a d plan made =
    let right = named_right c a d plan made in
    let cron_some = position_none (λ e. has_no_line c.lines e.name) d.cron right.cron_some in
    let cron_once = position_none (λ e. is_ambiguous c.lines e.name) d.cron right.cron_once in
    let left_out_some = position_none (has_no_line c.lines) d.left_out right.left_out_some in
    let left_out_once = position_none (is_ambiguous c.lines) d.left_out right.left_out_once in
    all_names d (λ name. count_by (is_named name) c.lines ≡ 1) (λ k e low. exactly c.lines (get_or d.cron k e).name (cron_some k e low) (cron_once k e low))
    (λ k name low. exactly c.lines (get_or d.left_out k name) (left_out_some k name low) (left_out_once k name low))

-- ---- entries stay with their commands

some_passes : {A : Type 0} (p : A → Bool) (xs : List A) (b : Bool) → list_any p xs ≡ b → count_by p xs ≡ 1 → list_any p xs ≡ true
some_passes p xs true is one = is
some_passes p xs false is one = absurd (omega (arith, one, count_none p xs (none_pass p xs is)))

same_one : {A : Type 0} (p : A → Bool) (xs : List A) (x y : A) → count_by p xs ≡ 1 → Contains xs x → p x ≡ true → Contains xs y → p y ≡ true → x ≡ y
same_one p xs x y one (i, low, is) px (j, high, at) py =
    let once : count_by p xs ≤ 1 = omega (arith, one) in
    let first = found_once p xs i x once low (rw is px) in
    let second = found_once p xs j y once high (rw at py) in
    let found : Some (get_or xs i x) ≡ Some (get_or xs j y) = sym first ∙ second in
    let same : get_or xs i x ≡ get_or xs j y = cc in
    sym is ∙ same ∙ at

-- a line's own command and schedule name it, if the name gives a command
told_of : (name : LineName) (line : CommandLine) (told : Option (List ℕ)) → name.command ≡ told → IfSome told (λ text. text ≡ line.command) → is_told_when name.when line.when ≡ true → (is_told name line ≡ true) ⊎ (told ≡ None)
told_of name line None is own when = inr refl
told_of name line (Some text) is own when = inl (rw (is, (bytes_eq-Decides text line.command).1 own, when) refl)

none_told : (name : LineName) (lines : List CommandLine) → name.command ≡ None → count_by (is_told name) lines ≡ 0
none_told name lines none = count_none (is_told name) lines (λ k l low. rw none refl)

module _ (d : Entries) (one other : Crontab) (jobs more : Anacrontab) (p q : Declared) (name : LineName) (a b : CommandLine) (made : joined one jobs d ≡ Ok p) (again : joined other more d ≡ Ok q) (there : Contains (names_of d) name) where
  told_here : Contains one.lines a → is_named name a ≡ true → IfSome name.command (λ text. text ≡ a.command) × (is_told_when name.when a.when ≡ true)
  told_here at named = All-contains (TellsOf name) one.lines a (All-contains (λ n. All (TellsOf n) one.lines) (names_of d) name (commands one jobs d p made) there) at named

  moved : (told : Option (List ℕ)) → name.command ≡ told → b.command ≡ a.command → b.when ≡ a.when → IfSome name.command (λ text. text ≡ a.command) × (is_told_when name.when a.when ≡ true) → (is_told name b ≡ true) ⊎ (told ≡ None)
  moved told is command when tells = told_of name b told is (rw (command, ← is) tells.0) (rw when tells.1)

  its_line : (x : CommandLine) × Contains other.lines x × (is_named name x ≡ true)
  its_line =
      let once = All-contains (λ n. count_by (is_named n) other.lines ≡ 1) (names_of d) name (one_line other more d q again) there in
      passing (is_named name) other.lines (some_passes (is_named name) other.lines (list_any (is_named name) other.lines) refl once)

  both : (told : Option (List ℕ)) → name.command ≡ told → Contains other.lines b → count_by (is_told name) other.lines ≡ 1 → (is_told name b ≡ true) ⊎ (told ≡ None) → is_named name b ≡ true
  both None is at alone passes = absurd (omega (arith, alone, none_told name other.lines is))
  both (Some text) is at alone (inr never) = absurd cc
  both (Some text) is at alone (inl told) =
      let x = its_line in
      let tells = All-contains (TellsOf name) other.lines x.0 (All-contains (λ n. All (TellsOf n) other.lines) (names_of d) name (commands other more d q again) there) x.1 x.2 in
      by_line (told_of name x.0 (Some text) is (subst (λ (o : Option (List ℕ)). IfSome o (λ t. t ≡ x.0.command)) is tells.0) tells.1)
    where
      by_line : (is_told name its_line.0 ≡ true) ⊎ (Some text ≡ None) → is_named name b ≡ true
      by_line (inr never) = absurd cc
      by_line (inl also) = rw (← same_one (is_told name) other.lines its_line.0 b alone its_line.1 also at told) its_line.2

  pub stays : Contains one.lines a → is_named name a ≡ true → Contains other.lines b → b.command ≡ a.command → b.when ≡ a.when → count_by (is_told name) other.lines ≡ 1 → is_named name b ≡ true
  stays in_one named in_other command when alone = both name.command refl in_other alone (moved name.command refl command when (told_here in_one named))

-- ---- lines that are left out have no entry

numbered : (lines : List CommandLine) (name : LineName) (k : ℕ) (d : CommandLine) → is_ambiguous lines name ≡ false → k < length lines → is_named name (get_or lines k d) ≡ true → number_of lines name ≡ Some (pos (get_or lines k d).number)
numbered lines name k d one low named = ap (option_map (λ line. pos line.number)) (found_once (is_named name) lines k d (once lines name one) low named)

same_as_itself : (n : ℕ) → int_eq (pos n) (pos n) ≡ true
same_as_itself n = (Decides-int_eq (pos n) (pos n)).1 refl

not_both : (b : Bool) → (b ≢ true) → b ≡ false
not_both true never = absurd (never refl)
not_both false never = refl

pub no_entry : (c : Crontab) (a : Anacrontab) (d : Entries) (plan : Declared) → joined c a d ≡ Ok plan → All (λ line. IsLeftOut d line → HasNoEntry d line) c.lines
no_entry c a d plan made = λ k l low (name, there, named) j e within.
    let right = named_right c a d plan made in
    let line = get_or c.lines k l in
    let entry = get_or d.cron j e in
    let left_one = All-contains (λ n. is_ambiguous c.lines n ≡ false) d.left_out name (position_none (is_ambiguous c.lines) d.left_out right.left_out_once) there in
    let cron_one = position_none (λ x. is_ambiguous c.lines x.name) d.cron right.cron_once j e within in
    let number : number_of c.lines name ≡ Some (pos line.number) = numbered c.lines name k l left_one low named in
    let alone = All-contains (λ n. list_any (same_number (number_of c.lines n)) (cron_numbers c.lines d) ≡ false) d.left_out name (apart same_number (number_of c.lines) (cron_numbers c.lines d) 0 d.left_out right.left_out_apart) there in
    let unlike : same_number (number_of c.lines name) (number_of c.lines entry.name) ≡ false = none_pass (λ x. same_number (number_of c.lines name) (number_of c.lines x.name)) d.cron (sym (any_map (λ x. number_of c.lines x.name) (same_number (number_of c.lines name)) d.cron) ∙ alone) j e within in
    not_both (is_named entry.name line) (λ also.
    let its : number_of c.lines entry.name ≡ Some (pos line.number) = numbered c.lines entry.name k l cron_one low also in
    let both : int_eq (pos line.number) (pos line.number) ≡ false = rw (number, its) at unlike in
    let same = same_as_itself line.number in
    cc)
