use Rattle.std.proofs.Common.{ℕ, ◌<◌, ◌≤◌, ◌≡◌, ◌≢◌, ◌+◌, ◌&&◌, ◌++◌, Bool, true, false, cond, List, [], ◌∷◌, Option, Some, filter, length, get_or, slice_index_or, refl, sym, ap, ◌∙◌, subst, arith, inl, inr, length-append, below_more}
use Rattle.std.proofs.lemmas.Bool.{and_parts, lt-ltb}
use Rattle.std.proofs.Math.ListN.{get_or-append}
use Rattle.std.proofs.Math.Seq.{get_or-append_seam}
use Rattle.std.specs.List.{list_all, range_with_len}
use Rattle.cs_civil.specs.Calendar.{IsKind, Kind}
use Rattle.cs_history.specs.Lists.{below}
use Rattle.cs_classes.specs.Planned.{due_on, is_due_on}
use Rattle.cs_windows.specs.Windows.{day_minutes}
use Rattle.cs_windows.proofs.Members.{Has, has_range, range_has}
use Rattle.cs_windows.proofs.Starts.{has-minutes_where}
use Rattle.cs_theorem.specs.Faults.{Fault, ClassNotDue, first_of, is_due_alike, or_else, same_bool, unless}
use Rattle.cs_theorem.proofs.Below.{below_range}
use Rattle.cs_claims.specs.Certificate.{is_due_in}
use Rattle.cs_claims.specs.declared.class.Class.{Class}
use Rattle.cs_classes.specs.Claim.{Claimed, as_certificate, class_at, class_of, no_class}
use Rattle.cs_classes.specs.DayMinutes.{AreDueSets}
use Rattle.cs_classes.specs.declared.likeness.Likeness.{Likeness}
use Rattle.cs_classes.specs.declared.likeness.Times.{Times as ShapeTimes}
use Rattle.cs_classes.specs.Likeness.{AreLikenesses, AreTimes, AreTimesOf, IsCompared, IsLikeness, IsRow, has_just, is_due_by, likeness_at, likeness_by, likeness_in, no_likeness, no_times, times_in}
use Rattle.cs_classes.proofs.DayLists.{minutes_passing}
use Rattle.cs_crontab.specs.declared.table.When.{When}
use Rattle.cs_schedule.specs.Times.{Times, is_day_due, is_time_due}
use Rattle.cs_schedule.specs.Numbers.{has as is_in}
use Rattle.cs_zone.specs.Starts.{is_due}
use Rattle.cs_zone.specs.Shape.{is_due_in as is_shape_due, shape_of}
use Rattle.cs_zone.specs.Zone.{IsZone, Zone}
use Rattle.cs_zone.specs.declared.shape.Shape.{Shape}
use Rattle.cs_zone.specs.declared.shape.Shape.TheVariants.{Never, Plain, Same, Other, Both, Jump}
use Rattle.cs_zone.proofs.Comings.{still}
use Rattle.cs_zone.proofs.Shapes.{in_shape}
use Rattle.cs_crontab.specs.Crontab.{CommandLine}
use Rattle.std.proofs.lemmas.List.{get_or_default}
use Rattle.cs_plan.specs.Plan.{Declared, as_plan, command_of, no_command}

-- whether the class of a kind has the due minutes of a cron job
abbrev pub job_alike : Declared → Claimed → Kind → ℕ → Bool
job_alike d c k j = list_all (λ m. same_bool (is_due_in (class_at c.classes (class_of c k)) j m) (due_on d j k m)) day_minutes

abbrev pub unlike : Declared → Claimed → Kind → Option Fault
unlike d c k = unless (is_due_alike (as_plan d) (due_on d) (as_certificate c) k) (ClassNotDue k)

pub all_true : {A : Type 0} (t : A → Bool) (xs : List A) → ((x : A) → Has xs x → t x ≡ true) → list_all t xs ≡ true
all_true t [] h = refl
all_true t (x ∷ xs) h = ap (λ (b : Bool). b && list_all t xs) (h x (inl refl)) ∙ all_true t xs (λ y k. h y (inr k))

pub all_false : {A : Type 0} (t : A → Bool) (xs : List A) (x : A) → Has xs x → t x ≡ false → list_all t xs ≡ false
all_false t [] x h e = absurd h
all_false t (y ∷ ys) x (inl i) e = ap (λ (b : Bool). b && list_all t ys) (ap t i ∙ e)
all_false t (y ∷ ys) x (inr h) e = ap (λ (b : Bool). t y && b) (all_false t ys x h e) ∙ and_false (t y)
  where
    and_false : (b : Bool) → (b && false) ≡ false
    and_false true = refl
    and_false false = refl

all_alike : {A : Type 0} (t u : A → Bool) (xs : List A) → ((x : A) → Has xs x → t x ≡ u x) → list_all t xs ≡ list_all u xs
all_alike t u [] h = refl
all_alike t u (x ∷ xs) h = ap (λ (b : Bool). b && list_all t xs) (h x (inl refl)) ∙ ap (λ (b : Bool). u x && b) (all_alike t u xs (λ y k. h y (inr k)))

pub minutes_true : (t : ℕ → Bool) (n : ℕ) → 1440 ≤ n → ((m : ℕ) → m < n → t m ≡ true) → list_all t day_minutes ≡ true
unfolding day_minutes
minutes_true t n l h = all_true t (range_with_len 0 1440) (λ m k. h m (let r = range_has 0 1440 m k in omega (arith, r.1, l)))

each_true : {A : Type 0} (t : A → Bool) (xs : List A) (x : A) → list_all t xs ≡ true → Has xs x → t x ≡ true
each_true t [] x e h = absurd h
each_true t (y ∷ ys) x e (inl i) = sym (ap t i) ∙ (and_parts (t y) (list_all t ys) e).0
each_true t (y ∷ ys) x e (inr h) = each_true t ys x (and_parts (t y) (list_all t ys) e).1 h

minutes_each : (t : ℕ → Bool) → list_all t day_minutes ≡ true → (m : ℕ) → m < 1440 → t m ≡ true
unfolding day_minutes
minutes_each t e m lt = each_true t (range_with_len 0 1440) m e (has_range 0 1440 m (omega arith) (omega (arith, lt)))

pub minutes_false : (t : ℕ → Bool) (m : ℕ) → m < 1440 → t m ≡ false → list_all t day_minutes ≡ false
unfolding day_minutes
minutes_false t m l e = all_false t (range_with_len 0 1440) m (has_range 0 1440 m (omega arith) (omega (arith, l))) e

pub minutes_alike : (t u : ℕ → Bool) → ((m : ℕ) → m < 1440 → t m ≡ u m) → list_all t day_minutes ≡ list_all u day_minutes
unfolding day_minutes
minutes_alike t u h = all_alike t u (range_with_len 0 1440) (λ m k. h m (let r = range_has 0 1440 m k in omega (arith, r.1)))

pub below_true : (t : ℕ → Bool) (n k : ℕ) → n ≤ k → ((j : ℕ) → j < k → t j ≡ true) → list_all t (below n) ≡ true
below_true t n k l h = all_true t (below n) (λ j has. h j (let r = range_has 0 n j (subst (λ (xs : List ℕ). Has xs j) (below_range n) has) in omega (arith, r.1, l)))

pub below_false : (t : ℕ → Bool) (n j : ℕ) → j < n → t j ≡ false → list_all t (below n) ≡ false
below_false t n j l e = all_false t (below n) j (subst (λ (xs : List ℕ). Has xs j) (sym (below_range n)) (has_range 0 n j (omega arith) (omega (arith, l)))) e

pub unlike_here : (d : Declared) (c : Claimed) (k : Kind) (ks : List Kind) → is_due_alike (as_plan d) (due_on d) (as_certificate c) k ≡ false → first_of (unlike d c) (k ∷ ks) ≡ Some (ClassNotDue k)
unlike_here d c k ks e = ap (λ (b : Bool). or_else (unless b (ClassNotDue k)) (first_of (unlike d c) ks)) e

pub unlike_later : (d : Declared) (c : Claimed) (k : Kind) (ks : List Kind) → is_due_alike (as_plan d) (due_on d) (as_certificate c) k ≡ true → first_of (unlike d c) (k ∷ ks) ≡ first_of (unlike d c) ks
unlike_later d c k ks e = ap (λ (b : Bool). or_else (unless b (ClassNotDue k)) (first_of (unlike d c) ks)) e

-- a day that isn't near a jump is compared by its shape
pub compared : (z : Zone) (shape : Shape) → 0 < z.saving → shape ≢ Jump → IsCompared z shape
compared z Never lt calm = tt
compared z Plain lt calm = tt
compared z Same lt calm = lt
compared z Other lt calm = lt
compared z Both lt calm = lt
compared z Jump lt calm = absurd (calm refl)

-- and due at the minutes of its shape
pub shape_minutes : (z : Zone) (s : Times) (k : Kind) → IsZone z → IsKind k → shape_of z s k ≢ Jump → (m : ℕ) → m < 1440 → is_shape_due z s (shape_of z s k) m ≡ is_due z s k m
shape_minutes z s k h is calm m lt =
    sym (has-minutes_where (is_shape_due z s (shape_of z s k)) m lt)
    ∙ ap (λ (ms : List ℕ). is_in ms m) (in_shape z s k h is calm)
    ∙ has-minutes_where (is_due z s k) m lt

-- without summer time it is plain
pub still_minutes : (z : Zone) (s : Times) (k : Kind) (day : Bool) → IsKind k → z.saving ≡ 0 → is_day_due s k ≡ day → (m : ℕ) → m < 1440 → is_shape_due z s (cond day Plain Never) m ≡ is_due z s k m
still_minutes z s k day is none e m lt = on_day day (is_time_due s m) refl ∙ ap (λ (b : Bool). is_time_due s m && b) (sym e) ∙ sym (still z s k m is lt none)
  where
    on_day : (b time : Bool) → is_time_due s m ≡ time → is_shape_due z s (cond b Plain Never) m ≡ (time && b)
    on_day true true e = e
    on_day true false e = e
    on_day false true e = refl
    on_day false false e = refl

-- a likeness to the minutes of each shape is one to those of the job
like_each : (z : Zone) (w : When) (f due : ℕ → Bool) (t : ShapeTimes) → ((m : ℕ) → m < 1440 → f m ≡ due m) → AreTimesOf z w t → IsLikeness z w due (likeness_by f t)
like_each z w f due t same are shape here =
    of_shape shape here
    ∙ minutes_alike (λ m. same_bool (f m) (is_in (times_in t shape) m)) (λ m. same_bool (due m) (is_due_by z w shape m))
    (λ m lt. ap (λ (b : Bool). same_bool b (is_in (times_in t shape) m)) (same m lt) ∙ ap (same_bool (due m)) (are.each shape here m lt))
  where
    shifted : (b : Bool) → 0 < z.saving → (t.shifts && b) ≡ b
    shifted b lt = ap (λ (c : Bool). c && b) (are.shifted ∙ lt-ltb 0 z.saving lt)

    of_shape : (s : Shape) → IsCompared z s → likeness_in (likeness_by f t) s ≡ has_just f (is_in (times_in t s))
    of_shape Never h = refl
    of_shape Plain h = refl
    of_shape Same h = shifted (has_just f (is_in t.same)) h
    of_shape Other h = shifted (has_just f (is_in t.other)) h
    of_shape Both h = shifted (has_just f (is_in t.both)) h
    of_shape Jump h = absurd h

-- one more likeness of a row
pub row_more : (sets : List (List ℕ)) (times : List ShapeTimes) (row next : List Likeness) (j : ℕ) (l : Likeness) → next ≡ row ++ l ∷ []
    → l ≡ likeness_by (is_in (slice_index_or sets j [])) (slice_index_or times j no_times)
    → (length row ≡ j) × ((i : ℕ) → i < j → likeness_at row i ≡ likeness_by (is_in (slice_index_or sets i [])) (slice_index_or times i no_times))
    → (length next ≡ j + 1) × ((i : ℕ) → i < j + 1 → likeness_at next i ≡ likeness_by (is_in (slice_index_or sets i [])) (slice_index_or times i no_times))
row_more sets times row next j l e is before = (
  ap length e ∙ simp length-append (omega (arith, before.0)),
  below_more (λ i. likeness_at next i ≡ likeness_by (is_in (slice_index_or sets i [])) (slice_index_or times i no_times)) j
      (λ i lt. ap (λ (r : List Likeness). likeness_at r i) e ∙ get_or-append row (l ∷ []) no_likeness i (omega (arith, lt, before.0)) ∙ before.1 i lt)
      (ap (λ (r : List Likeness). likeness_at r j) e ∙ ap (likeness_at (row ++ l ∷ [])) (sym before.0) ∙ get_or-append_seam row l [] no_likeness ∙ is),
)

-- the sets of a class, compared with the times of the jobs, make its row
pub row_is : (d : Declared) (class : Class) (sets : List (List ℕ)) (times : List ShapeTimes) (row : List Likeness) → AreDueSets class (length times) sets → AreTimes d times → length row ≡ length times
    → ((j : ℕ) → j < length times → likeness_at row j ≡ likeness_by (is_in (slice_index_or sets j [])) (slice_index_or times j no_times)) → IsRow d class row
row_is d class sets times row due are long each = record {
  long = long ∙ are.long;
  each = λ j lt. let below : j < length times = omega (arith, lt, are.long) in
      subst (λ (l : Likeness). IsLikeness d.zone (command_of d j).when (is_due_in class j) l) (sym (each j below))
      (like_each d.zone (command_of d j).when (is_in (slice_index_or sets j [])) (is_due_in class j) (slice_index_or times j no_times) (λ m k. due.each j m below k) (are.each j lt));
}

-- whether a class has the minutes of a job on a day of a kind
abbrev pub has_day : Zone → When → Kind → (ℕ → Bool) → Bool
has_day z w k due = has_just due (is_due_on z w k)

pub by_shape : (z : Zone) (w : When) (k : Kind) (due : ℕ → Bool) (l : Likeness) (shape : Shape) → IsLikeness z w due l → IsCompared z shape
    → ((m : ℕ) → m < 1440 → is_due_by z w shape m ≡ is_due_on z w k m) → likeness_in l shape ≡ has_day z w k due
by_shape z w k due l shape like here minutes =
    like shape here ∙ minutes_alike (λ m. same_bool (due m) (is_due_by z w shape m)) (λ m. same_bool (due m) (is_due_on z w k m)) (λ m lt. ap (same_bool (due m)) (minutes m lt))

pub by_minutes : (z : Zone) (w : When) (k : Kind) (due : ℕ → Bool) (ms : List ℕ) → ms ≡ filter (is_due_on z w k) day_minutes → has_just due (is_in ms) ≡ has_day z w k due
by_minutes z w k due ms e =
    minutes_alike (λ m. same_bool (due m) (is_in ms m)) (λ m. same_bool (due m) (is_due_on z w k m))
    (λ m lt. ap (same_bool (due m)) (ap (λ (xs : List ℕ). is_in xs m) (e ∙ sym (minutes_passing (is_due_on z w k))) ∙ has-minutes_where (is_due_on z w k) m lt))

-- a class's row for a job: the line of the job is that at its place
pub row_says : (d : Declared) (c : Claimed) (k : Kind) (j n : ℕ) (rows : List (List Likeness)) (row : List Likeness) (line : CommandLine) (lines : List CommandLine) (zone : Zone) (class : Class) (classes : List Class) (b : Bool)
    → AreLikenesses d c rows → row ≡ get_or rows n row → n ≡ class_of c k → n < length c.classes → lines ≡ d.crontab.lines → j < length lines → line ≡ get_or lines j line
    → zone ≡ d.zone → classes ≡ c.classes → class ≡ get_or classes n class
    → (IsLikeness zone line.when (is_due_in class j) (likeness_at row j) → b ≡ has_day zone line.when k (is_due_in class j)) → b ≡ job_alike d c k j
row_says d c k j n rows row line lines zone class classes b are own at there whole lt is in_zone all one says =
    let long = ap length whole in
    let e : line ≡ command_of d j = is ∙ (get_or_default lines j line no_command lt ∙ ap (λ (l : List CommandLine). get_or l j no_command) whole) in
    let r : row ≡ get_or rows n [] = own ∙ get_or_default rows n row [] (omega (arith, are.long, there)) in
    let o : class ≡ class_at c.classes n = one ∙ (ap (λ (xs : List Class). get_or xs n class) all ∙ get_or_default c.classes n class no_class there) in
    let here = subst (λ (l : List Likeness). IsLikeness d.zone (command_of d j).when (is_due_in (class_at c.classes n) j) (likeness_at l j)) (sym r) ((are.each n there).each j (omega (arith, long, lt))) in
    let in_d = subst (λ (z : Zone). IsLikeness z line.when (is_due_in class j) (likeness_at row j) → b ≡ has_day z line.when k (is_due_in class j)) in_zone says in
    let of_job = subst (λ (l : CommandLine). IsLikeness d.zone l.when (is_due_in class j) (likeness_at row j) → b ≡ has_day d.zone l.when k (is_due_in class j)) e in_d in
    let of_class = subst (λ (x : Class). IsLikeness d.zone (command_of d j).when (is_due_in x j) (likeness_at row j) → b ≡ has_day d.zone (command_of d j).when k (is_due_in x j)) o of_job in
    of_class here ∙ ap (λ (i : ℕ). has_day d.zone (command_of d j).when k (is_due_in (class_at c.classes i) j)) at

same_bool_is : (x y : Bool) → x ≡ y → same_bool x y ≡ true
same_bool_is true y e = sym e
same_bool_is false true e = e
same_bool_is false false e = refl

is_same_bool : (x y : Bool) → same_bool x y ≡ true → x ≡ y
is_same_bool true y e = sym e
is_same_bool false true e = e
is_same_bool false false e = refl

-- the answer whether two tests agree at each minute of a day
agree_step : (f g : ℕ → Bool) (b t : Bool) → list_all (λ m. same_bool (f m) (g m)) day_minutes ≡ t → (b ≡ true → (m : ℕ) → m < 1440 → f m ≡ g m) → (((m : ℕ) → m < 1440 → f m ≡ g m) → b ≡ true) → b ≡ list_all (λ m. same_bool (f m) (g m)) day_minutes
agree_step f g true t e to from = sym (minutes_true (λ m. same_bool (f m) (g m)) 1440 (omega arith) (λ m lt. same_bool_is (f m) (g m) (to refl m lt)))
agree_step f g false true e to from = from (λ m lt. is_same_bool (f m) (g m) (minutes_each (λ k. same_bool (f k) (g k)) e m lt)) ∙ sym e
agree_step f g false false e to from = sym e

pub agree : (f g : ℕ → Bool) (b : Bool) → (b ≡ true → (m : ℕ) → m < 1440 → f m ≡ g m) → (((m : ℕ) → m < 1440 → f m ≡ g m) → b ≡ true) → b ≡ list_all (λ m. same_bool (f m) (g m)) day_minutes
agree f g b to from = agree_step f g b (list_all (λ m. same_bool (f m) (g m)) day_minutes) refl to from
