use Rattle.std.proofs.Common.{◌≡◌, ◌⊎◌, ◌<◌, ◌≤◌, ◌∙◌, if◌then◌else◌, ℕ, Bool, true, false, IsSome, List, [], ◌∷◌, ◌++◌, Option, Some, None, IfSome, IfErr, IfOk, Ok, Err, Result, ap, arith, inl, inr, length, map, option_map, refl, string_bytes, subst, true≢false, sym, append_assoc}
use Rattle.std.specs.List.{AllZip}
use Rattle.std.specs.Result.{IsErrAnd}
use Rattle.std.proofs.lemmas.List.{map-append}
use Rattle.cs_args.specs.Asked.{Text}
use Rattle.cs_table.specs.Table as tables
use Rattle.cs_table.specs.Table.{Kind}
use Rattle.cs_table.specs.declared.fault.TableFault.{TableFault}
use Rattle.cs_table.specs.declared.fault.TableFault.TheVariants.{At, OutOfMemory}
use Rattle.cs_table.specs.declared.limits.TheConstants.{MAX_TABLE}
use Rattle.cs_crontab.specs.Faults.{crontab}
use Rattle.cs_system.specs.declared.fault.SystemFault.{SystemFault}
use Rattle.cs_system.specs.Faults.{system}
use Rattle.cs_io.specs.Files.{AreReadInTurn, Failed, IsFresh, IsUpTo, Reads}
use Rattle.cs_io.specs.declared.reason.Reason.{Reason}
use Rattle.cs_args.specs.Asked.{AskedGather}
use Rattle.cs_files.specs.Reads.{IsRead, IsUnreadAt}
use Rattle.cs_files.specs.Response.{Ending}
use Rattle.cs_files.specs.Trouble.{IsHonest, IsUnread, TellsPath, Trouble, Unread, ends, gathered_trouble, trouble, trouble_status}
use Rattle.cs_files.specs.Turn.{AreReadToGather, gather_paths}
use Rattle.cs_files.specs.declared.fault.Fault.{Fault}
use Rattle.cs_files.proofs.TroubleLemmas.{some_is}
use Rattle.cs_files.proofs.TurnLemmas.{some_read, then_read}
use Rattle.cs_gather.specs.Tables.{AreNamed, Given, IsUserFile, system_table}
use Rattle.cs_gather.specs.Gather.{Denotes, HasFault}
use Rattle.cs_gather.specs.Gathered.{commands_of}
use Rattle.cs_gather.specs.Answer.{Adds, AddsText, EndsFor, FaultsText, IsIgnored, ShowsGathered, Stops, Sum}
use Rattle.cs_gather.specs.Listing.{AreSomeRead, IsUnlisted, unlisted_trouble}
use Rattle.cs_gather.specs.declared.below.Unlisted.{Unlisted}
use Rattle.cs_gather.specs.declared.below.Unlisted.TheVariants.{CannotRead, OutOfMemory as NoMemory}
use Rattle.cs_gather.specs.declared.table.Table.{Table}
use Rattle.cs_gather.specs.declared.table.Table.TheVariants.{System, User}

-- ---- of the bytes that were read

pub is_short : (user : Option Text) (bytes : List ℕ) (table : Table) → Denotes user bytes table → length bytes ≤ MAX_TABLE
is_short None bytes (System table) is = is.short
is_short None bytes (User table) is = absurd is
is_short (Some user) bytes (System table) is = absurd is
is_short (Some user) bytes (User table) is = is.short

-- what holds of each text that the bytes may be the start of holds of the file
by_file : (P : List ℕ → Type 0) (whole rest : Option (List ℕ)) (bytes : List ℕ) → ((text : List ℕ) → IsUpTo MAX_TABLE text bytes → P text)
    → IfSome whole (λ text. rest ≡ Some text) → IfSome rest (λ text. IsUpTo MAX_TABLE text bytes) → IfSome whole P
by_file P None rest bytes so is up = tt
by_file P (Some text) rest bytes so is up = so text (subst (λ (o : Option (List ℕ)). IfSome o (λ t. IsUpTo MAX_TABLE t bytes)) is up)

-- what the bytes add the file adds
pub adds_read : (files left : List ℕ → Option (List ℕ)) (given : Given) (bytes : List ℕ) (table : Table) (old more : Sum)
    → IsFresh files left → IsRead MAX_TABLE given.path left bytes → Denotes given.user bytes table → more.commands ≡ old.commands ++ commands_of given table → more.is_whole ≡ old.is_whole → Adds files given old more
adds_read files left given bytes table old more fresh read is adds stays = by_file (λ text. AddsText given old more text ⊎ IsIgnored given old more text) (files given.path) (left given.path) bytes same (fresh given.path) read
  where
    same : (text : List ℕ) → IsUpTo MAX_TABLE text bytes → AddsText given old more text ⊎ IsIgnored given old more text
    same text (inl e) = inl (table, subst (λ (b : List ℕ). Denotes given.user b table) e is, adds, stays)
    same text (inr (long, other)) = absurd (let short = is_short given.user bytes table is in omega (arith, short, long))

-- a table with a fault that was read to its end is ignored
pub ignored_read : (files left : List ℕ → Option (List ℕ)) (given : Given) (bytes : List ℕ) (old more : Sum) (fault : TableFault SystemFault)
    → IsFresh files left → IsRead MAX_TABLE given.path left bytes → IsSome given.below → length bytes ≤ MAX_TABLE → HasFault given.user bytes fault → (lines : List ℕ) → IsSome (gathered_trouble given.path fault lines)
    → more.commands ≡ old.commands → more.is_whole ≡ false → Adds files given old more
ignored_read files left given bytes old more OutOfMemory fresh read found short has lines some same gap = absurd (true≢false (sym some))
ignored_read files left given bytes old more (At line column size fault) fresh read found short has lines some same gap =
    by_file (λ text. AddsText given old more text ⊎ IsIgnored given old more text) (files given.path) (left given.path) bytes so (fresh given.path) read
  where
    so : (text : List ℕ) → IsUpTo MAX_TABLE text bytes → AddsText given old more text ⊎ IsIgnored given old more text
    so text (inl e) = inr (subst (IsIgnored given old more) e (found, short, (record { line = line; column = column; size = size; fault = fault }, has), same, gap))
    so text (inr (long, other)) = absurd (omega (arith, short, long))

-- a fault of bytes that are too long is one of each text that is too long
same_fault : {Y F : Type 0} (kind : Kind Y F) (bytes text : List ℕ) (fault : TableFault F) → MAX_TABLE < length bytes → MAX_TABLE < length text → tables.IsFaultOf kind bytes fault → tables.IsFaultOf kind text fault
same_fault kind bytes text OutOfMemory long other is = tt
same_fault kind bytes text (At line column size fault) long other (inl (past, is)) = inl (other, is)
same_fault kind bytes text (At line column size fault) long other (inr first) = absurd (let short = first.short in omega (arith, short, long))

long_fault : (user : Option Text) (bytes text : List ℕ) (fault : TableFault SystemFault) → MAX_TABLE < length bytes → MAX_TABLE < length text → HasFault user bytes fault → HasFault user text fault
long_fault None bytes text fault long other is = same_fault system bytes text fault long other is
long_fault (Some user) bytes text fault long other (inner, is, same) = (inner, same_fault crontab bytes text inner long other is, same)

-- a table with a fault stops the call
pub stops_read : (files left : List ℕ → Option (List ℕ)) (failed : Failed) (given : Given) (bytes : List ℕ) (old : Sum) (fault : TableFault SystemFault)
    → IsFresh files left → IsRead MAX_TABLE given.path left bytes → FaultsText given old fault bytes → (lines : List ℕ) → IfSome (gathered_trouble given.path fault lines) (Stops files failed given old)
stops_read files left failed given bytes old OutOfMemory fresh read faults lines = tt
stops_read files left failed given bytes old (At line column size fault) fresh read faults lines =
    inr (record { line = line; column = column; size = size; fault = fault }, lines, refl, by_file (FaultsText given old at) (files given.path) (left given.path) bytes (same faults) (fresh given.path) read)
  where
    at : TableFault SystemFault
    at = At line column size fault

    same : FaultsText given old at bytes → (text : List ℕ) → IsUpTo MAX_TABLE text bytes → FaultsText given old at text
    same so text (inl e) = subst (FaultsText given old at) e so
    same (inl (is, far)) text (inr (long, other)) = inl (long_fault given.user bytes text at long other is, λ found. other)
    same (inr (table, is, over)) text (inr (long, other)) = absurd (let short = is_short given.user bytes table is in omega (arith, short, long))

pub stops_unread : (files : List ℕ → Option (List ℕ)) (failed : Failed) (given : Given) (old : Sum) (e : Fault) → IsUnreadAt given.path failed e → IfSome (trouble e) (Stops files failed given old)
stops_unread files failed given old e = by_trouble (trouble e)
  where
    by_trouble : (o : Option Trouble) → IfSome o (λ t. (failed given.path ≡ true) × TellsPath given.path t) → IfSome o (Stops files failed given old)
    by_trouble None h = h
    by_trouble (Some t) h = inl h

-- a fault of a table is no failure of a device
pub honest_gathered : (failed : Failed) (reads : Reads) (path : Text) (fault : TableFault SystemFault) (lines : List ℕ) → IfSome (gathered_trouble path fault lines) (λ t. trouble_status t ≡ 6 → (p : Text) × IsUnread p failed reads × TellsPath p t)
honest_gathered failed reads path OutOfMemory lines = tt
honest_gathered failed reads path (At line column size fault) lines = λ six. absurd (cc)

-- what holds of a fault of a table holds of it with the lines that show it
pub of_shown : (P : Trouble → Type 0) (o : Option Trouble) (path text : Text) (fault : TableFault SystemFault) (lines : List ℕ) → o ≡ gathered_trouble path fault lines → path ≡ text
    → IfSome (gathered_trouble text fault lines) P → IfSome o P
of_shown P o path text fault lines is at h = subst (λ (x : Option Trouble). IfSome x P) (sym (is ∙ ap (λ (p : Text). gathered_trouble p fault lines) at)) h

pub is_told : (notes : List ℕ) (o : Option Trouble) (r : Ending) → option_map (ends notes) o ≡ Some r → IsSome o
is_told notes None r is = absurd (cc)
is_told notes (Some t) r is = refl

-- ---- of tables in turn

pub some_so : {X : Type 0} (P Q : X → Type 0) (o : Option X) → ((x : X) → P x → Q x) → IfSome o P → IfSome o Q
some_so P Q None so h = h
some_so P Q (Some x) so h = so x h

-- ---- the answer

pub ends_for : (P : Trouble → Type 0) (notes : List ℕ) (o : Option Trouble) (r : Ending) → IfSome o P → option_map (ends notes) o ≡ Some r → (t : Trouble) × P t × EndsFor t r
ends_for P notes None r h is = absurd (cc)
ends_for P notes (Some t) r h is = (t, h, (notes, sym (some_is (ends notes t) r is)))

-- neither answer is a failure of a device
not_six : (b : Bool) (status : ℕ) → status ≡ (if b then 0 else 1) → status ≡ 6 → ⊥
not_six true status is six = absurd (cc)
not_six false status is six = absurd (cc)

pub honest_shown : (failed : Failed) (reads : Reads) (sum : Sum) (r : Ending) → ShowsGathered sum r → IsHonest failed reads r
honest_shown failed reads sum r (inl (done, gathers)) = λ six. absurd (not_six sum.is_whole r.status done six)
honest_shown failed reads sum r (inr (notes, is)) = λ six. absurd (let e = sym (ap (λ (x : Ending). x.status) is) ∙ six in cc)

pub err_so : {T E : Type 0} (P Q : E → Type 0) (r : Result T E) → ((e : E) → P e → Q e) → IsErrAnd r P → IfErr r Q
err_so P Q (Ok x) so h = absurd h
err_so P Q (Err e) so h = so e h

pub if_ok : {T E : Type 0} (P Q : T → Type 0) (r : Result T E) → ((x : T) → P x → Q x) → IfOk r P → IfOk r Q
if_ok P Q (Ok x) so h = so x h
if_ok P Q (Err e) so h = h

pub told_unread : {E : Type 0} (path text notes : List ℕ) (reason : Reason) (r : Result Ending E) → path ≡ text → IfOk r (λ x. Some (ends notes (Unread path reason)) ≡ Some x) → IfOk r (λ x. Some (ends notes (Unread text reason)) ≡ Some x)
told_unread path text notes reason r same is = subst (λ (p : List ℕ). IfOk r (λ x. Some (ends notes (Unread p reason)) ≡ Some x)) same is

pub tells_unlisted : (u : Unlisted) (notes : List ℕ) (r : Ending) → option_map (ends notes) (unlisted_trouble u) ≡ Some r → (path : Text) × (t : Trouble) × TellsPath path t × EndsFor t r
tells_unlisted (CannotRead path reason) notes r is =
    let t : Trouble = Unread (string_bytes path) reason in (string_bytes path, t, (reason, refl), (notes, sym (some_is (ends notes t) r is)))
tells_unlisted NoMemory notes r is = absurd (cc)

pub honest_unlisted : (failed : Failed) (reads : Reads) (u : Unlisted) (notes : List ℕ) (r : Ending) → IsUnlisted failed reads u → option_map (ends notes) (unlisted_trouble u) ≡ Some r → IsHonest failed reads r
honest_unlisted failed reads (CannotRead path reason) notes r unread is = λ six.
    record { path = string_bytes path; unread = unread; warnings = notes; reason = reason; told = sym (some_is (ends notes (Unread (string_bytes path) reason)) r is) }
honest_unlisted failed reads NoMemory notes r unread is = absurd (cc)

-- ---- which files are read

system_paths : (paths : List Text) → map (λ given. given.path) (map system_table paths) ≡ paths
system_paths [] = refl
system_paths (path ∷ paths) = ap (λ (ps : List Text). path ∷ ps) (system_paths paths)

user_paths : (paths : List Text) (users : List Given) → AllZip IsUserFile paths users → map (λ given. given.path) users ≡ paths
user_paths [] [] are = refl
user_paths [] (user ∷ users) are = absurd are
user_paths (path ∷ paths) [] are = absurd are
user_paths (path ∷ paths) (user ∷ users) ((name, part, is), are) =
    ap (λ (p : Text). p ∷ map (λ given. given.path) users) (ap (λ (given : Given). given.path) is) ∙ ap (λ (ps : List Text). path ∷ ps) (user_paths paths users are)

named_paths : (a : AskedGather) (named : List Given) → AreNamed a named → map (λ given. given.path) named ≡ gather_paths a
named_paths a named (users, are, is) =
    let path_of = λ (given : Given). given.path in
    ap (map path_of) is ∙ map-append path_of (map system_table a.system) users ∙ ap (λ (ps : List Text). ps ++ map path_of users) (system_paths a.system) ∙ ap (λ (ps : List Text). a.system ++ ps) (user_paths a.user users are)

pub all_paths : (a : AskedGather) (found named tables : List Given) → tables ≡ found ++ named → AreNamed a named → map (λ given. given.path) tables ≡ map (λ given. given.path) found ++ gather_paths a
all_paths a found named tables is are =
    let path_of = λ (given : Given). given.path in
    ap (map path_of) is ∙ map-append path_of found named ∙ ap (λ (ps : List Text). map path_of found ++ ps) (named_paths a named are)

some_none : (x : Text) → ◌≡◌ {A = Option Text} (Some x) None → ⊥
some_none x is = absurd (cc)

-- what was read at a root, alone or before the tables
pub root_read : (a : AskedGather) (root : Text) (old new : Reads) → a.root ≡ Some root → AreSomeRead old new → AreReadToGather a old new
root_read a root old new is (paths, turn) = (paths, λ no. absurd (some_none root (sym is ∙ no)), some_read paths (gather_paths a) old new turn)

pub all_read : (a : AskedGather) (root : Text) (found : List Text) (old mid new : Reads) → a.root ≡ Some root → AreSomeRead old mid → AreReadInTurn (found ++ gather_paths a) mid new → AreReadToGather a old new
all_read a root found old mid new is (paths, turn) next =
    (paths ++ found, λ no. absurd (some_none root (sym is ∙ no)), subst (λ (ps : List Text). AreReadInTurn ps old new) (sym (append_assoc paths found (gather_paths a))) (then_read paths (found ++ gather_paths a) old mid new turn next))
