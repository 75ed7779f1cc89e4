use Rattle.std.proofs.Common.{◌≡◌, ℕ, ◌+◌, ◌/◌, ◌%◌, ◌<◌, ◌≤◌, Bool, true, false, ◌&&◌, ◌||◌, refl, sym, ap, subst, ◌∙◌, arith, ◌==◌, inl, inr, List, if◌then◌else◌}
use Rattle.std.proofs.lemmas.Bool.{cases_lt}
use Rattle.cs_civil.specs.Calendar.{kind, longest}
use Rattle.cs_civil.proofs.Following.{kind_possible}
use Rattle.cs_schedule.specs.Minutes.{minutes_where}
use Rattle.cs_schedule.specs.Numbers.{has}
use Rattle.cs_schedule.specs.Times.{Times, is_day_due, is_time_due}
use Rattle.cs_schedule.proofs.Ranges.{has-filter}
use Rattle.cs_crontab.specs.declared.table.When.TheVariants.{At}
use Rattle.cs_advise.specs.Change.{IsLater}

longest_month : (m : ℕ) → longest m ≤ 31
longest_month m = by_case (m == 2) ((m == 4) || (m == 6) || (m == 9) || (m == 11))
  where
    by_case : (a b : Bool) → (if a then 29 else (if b then 30 else 31)) ≤ 31
    by_case true b = omega arith
    by_case false true = omega arith
    by_case false false = omega arith

abbrev pub AreSame : List ℕ → List ℕ → Type 0
AreSame one other = (n : ℕ) → n < 64 → has one n ≡ has other n

pub same_days : (one other : Times) → one.dom.star ≡ other.dom.star → AreSame one.dom.numbers other.dom.numbers
    → AreSame one.month.numbers other.month.numbers
    → one.dow.star ≡ other.dow.star → AreSame one.dow.numbers other.dow.numbers
    → (d : ℕ) → is_day_due other (kind d) ≡ is_day_due one (kind d)
same_days one other dom_star dom month dow_star dow d =
    let is = kind_possible d in
    let k = kind d in
    let e : has one.dom.numbers k.dom ≡ has other.dom.numbers k.dom = dom k.dom (omega (arith, is.dom, longest_month k.month)) in
    let f : has one.month.numbers k.month ≡ has other.month.numbers k.month = month k.month (omega (arith, is.month)) in
    let g : has one.dow.numbers k.dow ≡ has other.dow.numbers k.dow = dow k.dow (omega (arith, is.dow)) in
    rw (e, f, g, dom_star, dow_star) refl

abbrev pub HasAll : List ℕ → ℕ → ℕ → Type 0
HasAll numbers first last = (n : ℕ) → first ≤ n → n ≤ last → has numbers n ≡ true

pub each_day : (s : Times) → HasAll s.dom.numbers 1 31 → HasAll s.month.numbers 1 12 → HasAll s.dow.numbers 0 6
    → (d : ℕ) → is_day_due s (kind d) ≡ true
each_day s dom month dow d =
    let is = kind_possible d in
    let k = kind d in
    let e = dom k.dom is.dom.0 (omega (arith, is.dom, longest_month k.month)) in
    let f = month k.month is.month.0 is.month.1 in
    let g = dow k.dow (omega arith) (omega (arith, is.dow)) in
    rw (e, f, g) (either (s.dom.star || s.dow.star))
  where
    either : (b : Bool) → (true && (if b then true && true else (true || true))) ≡ true
    either true = refl
    either false = refl

found : (p : ℕ → Bool) (m : ℕ) → m < 1440 → has (minutes_where p) m ≡ p m
unfolding minutes_where
found p m below = has-filter p 0 1440 m (omega arith) (omega arith)

-- the minutes of a day, so many later
abbrev pub AreLater : List ℕ → List ℕ → ℕ → Type 0
AreLater before after n = (m : ℕ) → m < 1440 → has after ((m + n) % 1440) ≡ has before m

-- what passes midnight is due on each day
abbrev StaysOrDaily : Times → ℕ → Type 0
StaysOrDaily one n =
    (m d : ℕ) → m < 1440 → 1440 ≤ m + n → is_time_due one m ≡ true → is_day_due one (kind d) ≡ true

moved : (one other : Times) (n : ℕ) → n < 1440
    → ((d : ℕ) → is_day_due other (kind d) ≡ is_day_due one (kind d))
    → AreLater (minutes_where (is_time_due one)) (minutes_where (is_time_due other)) n
    → StaysOrDaily one n
    → IsLater n (At one) (At other)
moved one other n few days times over t =
    let m = t % 1440 in
    let below : m < 1440 = omega arith in
    let same : (t + n) % 1440 ≡ (m + n) % 1440 = omega arith in
    let minute : is_time_due other ((t + n) % 1440) ≡ is_time_due one m =
    ap (is_time_due other) same ∙ (sym (found (is_time_due other) ((m + n) % 1440) (omega arith))
    ∙ (times m below ∙ found (is_time_due one) m below)) in
    rw minute (by_case (is_time_due one m) refl)
  where
    by_case : (b : Bool) → is_time_due one (t % 1440) ≡ b
        → (b && is_day_due other (kind ((t + n) / 1440))) ≡ (b && is_day_due one (kind (t / 1440)))
    by_case false e = refl
    by_case true e =
        elim (cases_lt (t % 1440 + n) 1440) [
          | inl here ↦ let day : (t + n) / 1440 ≡ t / 1440 = omega arith in ap (λ (x : ℕ). is_day_due other (kind x)) day ∙ days (t / 1440)
          | inr after ↦
              let all = λ (d : ℕ). over (t % 1440) d (omega arith) after e in
              days ((t + n) / 1440) ∙ (all ((t + n) / 1440) ∙ sym (all (t / 1440)))
        ]

pub comes_within : (one other : Times) (before after : List ℕ) (n : ℕ) → n < 1440
    → before ≡ minutes_where (is_time_due one) → after ≡ minutes_where (is_time_due other)
    → ((d : ℕ) → is_day_due other (kind d) ≡ is_day_due one (kind d))
    → AreLater before after n
    → ((m : ℕ) → m < 1440 → 1440 ≤ m + n → has before m ≡ false)
    → IsLater n (At one) (At other)
comes_within one other before after n few is_before is_after days times stays =
    moved one other n few days
    (subst (λ (x : List ℕ). AreLater x (minutes_where (is_time_due other)) n) is_before (subst (λ (x : List ℕ). AreLater before x n) is_after times))
    (λ m d below over due. absurd (let no = subst (λ (x : List ℕ). has x m ≡ false) is_before (stays m below over) in let yes = found (is_time_due one) m below in cc))

pub comes_daily : (one other : Times) (before after : List ℕ) (n : ℕ) → n < 1440
    → before ≡ minutes_where (is_time_due one) → after ≡ minutes_where (is_time_due other)
    → ((d : ℕ) → is_day_due other (kind d) ≡ is_day_due one (kind d))
    → AreLater before after n
    → ((d : ℕ) → is_day_due one (kind d) ≡ true)
    → IsLater n (At one) (At other)
comes_daily one other before after n few is_before is_after days times daily =
    moved one other n few days
    (subst (λ (x : List ℕ). AreLater x (minutes_where (is_time_due other)) n) is_before (subst (λ (x : List ℕ). AreLater before x n) is_after times))
    (λ m d below over due. daily d)
