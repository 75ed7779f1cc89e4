use Rattle.std.proofs.Common.{◌≡◌, ◌<◌, ◌≤◌, ◌⊎◌, ◌∙◌, ◌++◌, ℕ, true, List, [], Option, Some, None, IfSome, ap, arith, inl, inr, length, option_map, refl, subst, sym}
use Rattle.std.proofs.lemmas.Bool.{cases_lt}
use Rattle.std.proofs.lemmas.List.Elements.{Contains-append_left, Contains-append_right}
use Rattle.cs_args.specs.Asked.{Text}
use Rattle.cs_table.specs.Table.{nowhere}
use Rattle.cs_crontab.specs.declared.fault.LineFault.TheVariants.{TooLong}
use Rattle.cs_table.specs.declared.limits.TheConstants.{MAX_TABLE}
use Rattle.cs_anacrontab.specs.declared.fault.JobFault.TheVariants.{TooLong as JobsTooLong}
use Rattle.cs_args.specs.Asked.{AskedLint}
use Rattle.cs_io.specs.Files.{Failed, IsFresh, IsUpTo, Reads}
use Rattle.cs_io.specs.declared.reason.Reason.{Reason}
use Rattle.cs_lint.specs.Refused.{Judges}
use Rattle.cs_files.specs.Response.{Ending}
use Rattle.cs_files.specs.Reads.{IsRead, IsUnreadAt}
use Rattle.cs_files.specs.Trouble.{IsHonestOf, IsUnread, NoTimeZone, TellsPath, Trouble, Unread, ends, trouble, trouble_status}
use Rattle.cs_files.specs.declared.fault.Fault.{Fault}
use Rattle.cs_files.proofs.TroubleLemmas.{some_is}
use Rattle.cs_lint.specs.Answer.{AreHeld, AreHeldTables, HasNoZone, IfAllKnown, IfKnown, IfShort, IsLong, IsNoNameIn, IsShort, IsNoZone, IsSomeUpTo, IsTrueOf, IsUnreadFile, IsUnreadZone, IsUnreadable, LintsFiles, TellsZone}

-- a file can't be read, or is not a time zone file
pub unread_answer : (a : AskedLint) (files : List ℕ → Option (List ℕ)) (before after : Failed) (e : Fault) (r : Ending) → IfSome (trouble e) (IsUnreadable a files before after) → option_map (ends []) (trouble e) ≡ Some r → LintsFiles a files before after r
unread_answer a files before after e r = by_trouble (trouble e)
  where
    by_trouble : (o : Option Trouble) → IfSome o (IsUnreadable a files before after) → option_map (ends []) o ≡ Some r → LintsFiles a files before after r
    by_trouble None h is = absurd (cc)
    by_trouble (Some t) told is = inr (t, told, sym (some_is (ends [] t) r is))

pub unread_file : (a : AskedLint) (files : List ℕ → Option (List ℕ)) (before after : Failed) (e : Fault) → IsUnreadFile e → IfSome (trouble e) (IsUnreadable a files before after)
unread_file a files before after e = by_trouble (trouble e)
  where
    by_trouble : (o : Option Trouble) → IfSome o (λ t. (path : Text) × TellsPath path t) → IfSome o (IsUnreadable a files before after)
    by_trouble None told = tt
    by_trouble (Some t) told = inl told

-- ---- what is known of a file

if_known : (files : List ℕ → Option (List ℕ)) (path : Option Text) (R : Option (List ℕ) → Type 0) → ((text : Option (List ℕ)) → R text) → IfKnown files path R
if_known files None R h = h None
if_known files (Some path) R h = if_some (files path)
  where
    if_some : (o : Option (List ℕ)) → IfSome o (λ text. R (Some text))
    if_some None = tt
    if_some (Some text) = h (Some text)

known_so : (files : List ℕ → Option (List ℕ)) (path : Option Text) (Q R : Option (List ℕ) → Type 0) → ((text : Option (List ℕ)) → Q text → R text) → IfKnown files path Q → IfKnown files path R
known_so files None Q R h is = h None is
known_so files (Some path) Q R h is = if_some (files path) is
  where
    if_some : (o : Option (List ℕ)) → IfSome o (λ text. Q (Some text)) → IfSome o (λ text. R (Some text))
    if_some None is = tt
    if_some (Some text) is = h (Some text) is

-- ---- what is judged

-- equal texts and an equal status are judged alike
pub judges_so : (s r : ℕ) (t u : List ℕ) (j k d e : Option (List ℕ)) → r ≡ s → t ≡ u → j ≡ k → d ≡ e → Judges s t j d → Judges r u k e
judges_so s r t u j k d e status table jobs declarations is =
    subst (λ (n : ℕ). Judges n u k e) (sym status) (subst (λ (x : Option (List ℕ)). Judges s u k x) declarations (subst (λ (x : Option (List ℕ)). Judges s u x d) jobs (subst (λ (x : List ℕ). Judges s x j d) table is)))

-- ---- tables that are too long

-- two crontabs that are too long are judged alike, whatever the other files are
long_table : (s : ℕ) (held text : List ℕ) (j k d e : Option (List ℕ)) → MAX_TABLE < length held → MAX_TABLE < length text → Judges s held j d → Judges s text k e
long_table s held text j k d e l m (inl (three, is)) = inl (three, inl (nowhere TooLong, inl (m, refl)))
long_table s held text j k d e l m (inr (few, (table, jobs, means, other, plan))) = absurd (let short = means.short in omega (arith, short, l))

long_jobs : (s : ℕ) (t : List ℕ) (held text d e : Option (List ℕ)) → IsLong held → IsLong text → Judges s t held d → Judges s t text e
long_jobs s t None text d e l m is = absurd l
long_jobs s t (Some held) None d e l m is = absurd m
long_jobs s t (Some held) (Some text) d e l m (inl (three, is)) = inl (three, inr (inl (nowhere JobsTooLong, inl (m, refl))))
long_jobs s t (Some held) (Some text) d e l m (inr (few, (table, jobs, means, others, plan))) = absurd (let short = others.short in omega (arith, short, l))

short_or_long : (o : Option (List ℕ)) → IsShort o ⊎ IsLong o
short_or_long None = inl tt
short_or_long (Some text) = elim (cases_lt MAX_TABLE (length text)) [
  | inl long ↦ inr long
  | inr short ↦ inl short
]

-- what holds of the bytes that were read holds of the files
pub judged : (a : AskedLint) (files : List ℕ → Option (List ℕ)) (v : ℕ) (table : List ℕ) (jobs declarations : Option (List ℕ))
    → AreHeld a files table jobs declarations → Judges v table jobs declarations → IfAllKnown files a (Judges v)
judged a files v table jobs declarations (tables, more) is = by_table (files a.table) tables.0
  where
    beside : (j : Option (List ℕ)) → length table ≤ MAX_TABLE → IsSomeUpTo jobs j → IfKnown files a.declarations (Judges v table j)
    beside j short (inr (l, m)) = if_known files a.declarations (Judges v table j) (λ d. long_jobs v table jobs j declarations d l m is)
    beside j short (inl same) = elim (short_or_long jobs) [
      | inl few ↦ known_so files a.declarations (λ d. declarations ≡ d) (Judges v table j) (λ d e. subst (λ (k : Option (List ℕ)). Judges v table k d) same (subst (λ (x : Option (List ℕ)). Judges v table jobs x) e is)) (more short few)
      | inr long ↦ if_known files a.declarations (Judges v table j) (λ d. long_jobs v table jobs j declarations d long (subst IsLong same long) is)
    ]

    all_long : (t : List ℕ) → MAX_TABLE < length table → MAX_TABLE < length t → IfKnown files a.anacrontab (λ j. IfKnown files a.declarations (Judges v t j))
    all_long t l m = if_known files a.anacrontab (λ j. IfKnown files a.declarations (Judges v t j)) (λ j. if_known files a.declarations (Judges v t j) (λ d. long_table v table t jobs j declarations d l m is))

    by_table : (o : Option (List ℕ)) → IfSome o (λ t. IsUpTo MAX_TABLE t table) → IfSome o (λ t. IfKnown files a.anacrontab (λ j. IfKnown files a.declarations (Judges v t j)))
    by_table None read = tt
    by_table (Some t) (inr (l, m)) = all_long t l m
    by_table (Some t) (inl same) = elim (cases_lt MAX_TABLE (length table)) [
      | inl long ↦ all_long t long (subst (λ (b : List ℕ). MAX_TABLE < length b) same long)
      | inr short ↦ subst (λ (b : List ℕ). IfKnown files a.anacrontab (λ j. IfKnown files a.declarations (Judges v b j))) same
          (known_so files a.anacrontab (IsSomeUpTo jobs) (λ j. IfKnown files a.declarations (Judges v table j)) (λ j up. beside j short up) (tables.1 short))
    ]

-- ---- the file of a time zone

long_no_short : (o : Option (List ℕ)) → IsLong o → IsShort o → ⊥
long_no_short None l s = l
long_no_short (Some text) l s = omega (arith, l, s)

-- what holds if the tables that were read aren't too long holds if the files aren't
pub short_so : (a : AskedLint) (files : List ℕ → Option (List ℕ)) (table : List ℕ) (jobs : Option (List ℕ)) (R : Type 0)
    → AreHeldTables a files table jobs → (length table ≤ MAX_TABLE → IsShort jobs → R) → IfShort files a R
short_so a files table jobs R (read, beside) h = by_table (files a.table) read
  where
    held_short : (j : Option (List ℕ)) → IsSomeUpTo jobs j → IsShort j → IsShort jobs
    held_short j (inl same) few = subst IsShort (sym same) few
    held_short j (inr (l, m)) few = absurd (long_no_short j m few)

    of_held : length table ≤ MAX_TABLE → IfKnown files a.anacrontab (λ j. IsShort j → R)
    of_held short = known_so files a.anacrontab (IsSomeUpTo jobs) (λ j. IsShort j → R) (λ j up few. h short (held_short j up few)) (beside short)

    by_table : (o : Option (List ℕ)) → IfSome o (λ t. IsUpTo MAX_TABLE t table) → IfSome o (λ t. length t ≤ MAX_TABLE → IfKnown files a.anacrontab (λ j. IsShort j → R))
    by_table None up = tt
    by_table (Some t) (inl same) = subst (λ (b : List ℕ). length b ≤ MAX_TABLE → IfKnown files a.anacrontab (λ j. IsShort j → R)) same of_held
    by_table (Some t) (inr (l, m)) = λ short. absurd (omega (arith, short, m))

-- the file of the zone can't be read, or is not a time zone file
pub unread_zone : (a : AskedLint) (files held : List ℕ → Option (List ℕ)) (before middle after : Failed) (table : List ℕ) (jobs : Option (List ℕ)) (e : Fault)
    → AreHeldTables a files table jobs → held ≡ files → middle ≡ before → IsUnreadZone a.zone middle after e
    → (length table ≤ MAX_TABLE → IsShort jobs → IsTrueOf held a.zone e) → IfSome (trouble e) (IsUnreadable a files before after)
unread_zone a files held before middle after table jobs e tables same kept = by_trouble (trouble e)
  where
    by_trouble : (o : Option Trouble) → IfSome o (λ t. ((unread : Text) × TellsPath unread t) ⊎ ((after ≡ middle) × TellsZone a.zone t))
        → (length table ≤ MAX_TABLE → IsShort jobs → IfSome o (λ t. TellsZone a.zone t → HasNoZone held a.zone)) → IfSome o (IsUnreadable a files before after)
    by_trouble None told is = tt
    by_trouble (Some t) (inl path) is = inl path
    by_trouble (Some t) (inr (as_before, zone)) is = inr (
      as_before ∙ kept,
      zone,
      short_so a files table jobs (HasNoZone files a.zone) tables (λ short few. subst (λ (f : List ℕ → Option (List ℕ)). HasNoZone f a.zone) same (is short few zone)),
    )

-- a file that can't be read isn't said to be no time zone file
pub unread_is_other : (files : List ℕ → Option (List ℕ)) (path : Text) (before after : Failed) (e : Fault) → IsUnreadAt path after e → IsUnreadZone (Some path) before after e × IsTrueOf files (Some path) e
unread_is_other files path before after e = by_trouble (trouble e)
  where
    other : (t : Trouble) (reason : Reason) (zone : Text) → t ≡ Unread path reason → t ≡ NoTimeZone zone → ⊥
    other t reason zone one two = absurd (cc)

    by_trouble : (o : Option Trouble) → IfSome o (λ t. (after path ≡ true) × TellsPath path t)
        → IfSome o (λ t. ((unread : Text) × TellsPath unread t) ⊎ ((after ≡ before) × TellsZone (Some path) t)) × IfSome o (λ t. TellsZone (Some path) t → HasNoZone files (Some path))
    by_trouble None is = (tt, tt)
    by_trouble (Some t) (failed, (reason, is)) = (inl (path, (reason, is)), λ zone. absurd (other t reason zone.0 is zone.2))

-- but a file of another format is
pub none_is_told : (path : Text) (bytes : List ℕ) (before after : Failed) (e : Fault) → after ≡ before
    → IfSome (trouble e) (λ t. (t ≡ NoTimeZone path) × IsNoZone bytes) → IsUnreadZone (Some path) before after e
none_is_told path bytes before after e same = by_trouble (trouble e)
  where
    by_trouble : (o : Option Trouble) → IfSome o (λ t. (t ≡ NoTimeZone path) × IsNoZone bytes) → IfSome o (λ t. ((unread : Text) × TellsPath unread t) ⊎ ((after ≡ before) × TellsZone (Some path) t))
    by_trouble None is = tt
    by_trouble (Some t) (is, none) = inr (same, (path, refl, is))

no_zone_read : (text bytes : List ℕ) → IsUpTo MAX_TABLE text bytes → IsNoZone bytes → IsNoZone text
no_zone_read text bytes (inl same) none = subst IsNoZone same none
no_zone_read text bytes (inr (l, m)) none = inl m

pub none_is_true : (files left : List ℕ → Option (List ℕ)) (path : Text) (bytes : List ℕ) (e : Fault) → IsFresh files left → IsRead MAX_TABLE path left bytes
    → IfSome (trouble e) (λ t. (t ≡ NoTimeZone path) × IsNoZone bytes) → IsTrueOf files (Some path) e
none_is_true files left path bytes e fresh read = by_trouble (trouble e)
  where
    by_file : (whole rest : Option (List ℕ)) → IfSome whole (λ text. rest ≡ Some text) → IfSome rest (λ text. IsUpTo MAX_TABLE text bytes) → IsNoZone bytes → IfSome whole (λ text. IsNoZone text)
    by_file None rest same up none = tt
    by_file (Some text) rest same up none = no_zone_read text bytes (subst (λ (o : Option (List ℕ)). IfSome o (λ t. IsUpTo MAX_TABLE t bytes)) same up) none

    by_trouble : (o : Option Trouble) → IfSome o (λ t. (t ≡ NoTimeZone path) × IsNoZone bytes) → IfSome o (λ t. TellsZone (Some path) t → HasNoZone files (Some path))
    by_trouble None is = tt
    by_trouble (Some t) (is, none) = λ zone. by_file (files path) (left path) (fresh path) read none

-- this is no status of a failed device
pub zone_is_honest : (failed : Failed) (reads : Reads) (path : Text) (bytes : List ℕ) (e : Fault) → IfSome (trouble e) (λ t. (t ≡ NoTimeZone path) × IsNoZone bytes) → IsHonestOf failed reads e
zone_is_honest failed reads path bytes e = by_trouble (trouble e)
  where
    by_trouble : (o : Option Trouble) → IfSome o (λ t. (t ≡ NoTimeZone path) × IsNoZone bytes)
        → IfSome o (λ t. trouble_status t ≡ 6 → (unread : Text) × IsUnread unread failed reads × TellsPath unread t)
    by_trouble None is = tt
    by_trouble (Some t) (is, none) = λ six. absurd (let s : trouble_status t ≡ 3 = ap trouble_status is in omega (arith, s, six))

-- a name in some words is in more of them
pub no_name_left : (xs ys : List Text) (r : Ending) → IsNoNameIn xs r → IsNoNameIn (xs ++ ys) r
no_name_left xs ys r (name, (word, has, is), status, out) = (name, (word, Contains-append_left xs ys word has, is), status, out)

pub no_name_right : (xs ys : List Text) (r : Ending) → IsNoNameIn ys r → IsNoNameIn (xs ++ ys) r
no_name_right xs ys r (name, (word, has, is), status, out) = (name, (word, Contains-append_right xs ys word has, is), status, out)
