-- What `day` is asked, in numbers, and the faults of its words.
use Rattle.std.specs.Prelude.{◌≡◌, ◌⊎◌, ◌≤◌, ◌<◌, ℕ, List, codes}
use Rattle.cs_civil.specs.Calendar.{last_day}
use Rattle.cs_civil.specs.Text.{IsDateText, day_text}
use Rattle.cs_args.specs.Asked.{Asked}

-- the first day of a history, 1970-01-04
abbrev pub first_start_day : ℕ
first_start_day = 3

-- the longest time that a job may declare: three days, in minutes
abbrev pub longest_time : ℕ
longest_time = 4_320

pub record Question : Type 0 where
  pub day : ℕ
  pub max : ℕ
  pub from : ℕ
  pub to : ℕ

-- the text names day n, from 1970-01-04 to 9999-12-31
abbrev pub NamesDay : ℕ → List ℕ → Type 0
NamesDay n text = (first_start_day ≤ n) × (n ≤ last_day) × (text ≡ day_text n)

-- a longest time that a job may declare
abbrev pub IsTime : ℕ → Type 0
IsTime max = (1 ≤ max) × (max ≤ longest_time)

-- some minutes of a day, from one up to, and without, another
abbrev pub AreHours : ℕ → ℕ → Type 0
AreHours from to = (from < to) × (to ≤ 1440)

-- DATE isn't a date, or is out of range
abbrev pub IsBadDate : List ℕ → List ℕ → Type 0
IsBadDate text fault =
    ((¬ (IsDateText text)) × (fault ≡ codes "date: 1 NotADate"))
    ⊎ (IsDateText text × ((n : ℕ) → ¬ (NamesDay n text)) × (fault ≡ codes "date: 2 OutOfRange"))

-- MAX is out of range
abbrev pub IsBadMax : ℕ → List ℕ → Type 0
IsBadMax max fault = (¬ (IsTime max)) × (fault ≡ codes "declarations: 6 BadMax")

-- the hours are invalid
abbrev pub AreBadHours : ℕ → ℕ → List ℕ → Type 0
AreBadHours from to fault = (¬ (AreHours from to)) × (fault ≡ codes "declarations: 12 BadHours")

-- the first fault of DATE, MAX and the hours
abbrev pub IsBadWord : Asked → List ℕ → Type 0
IsBadWord a fault =
    IsBadDate a.date fault
    ⊎ ((n : ℕ) × NamesDay n a.date
    × (IsBadMax a.max fault ⊎ (IsTime a.max × AreBadHours a.from a.to fault)))

-- the words ask this
pub record IsQuestion (a : Asked) (q : Question) : Type 0 where
  pub day : NamesDay q.day a.date
  pub max : q.max ≡ a.max
  pub time : IsTime q.max
  pub from : q.from ≡ a.from
  pub to : q.to ≡ a.to
  pub hours : AreHours q.from q.to
