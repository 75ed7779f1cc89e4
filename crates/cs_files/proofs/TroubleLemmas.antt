-- The answer to a fault.
use Rattle.std.proofs.Common.{◌≡◌, ◌≤◌, ◌⊎◌, ◌∙◌, ℕ, Bool, true, false, List, [], ◌++◌, Option, Some, None, IfSome, Result, Ok, Err, length, nat_lt, option_map, inl, inr, refl, sym, ap, subst, arith}
use Rattle.std.proofs.lemmas.Bool.{lt-ltb}
use Rattle.clap.specs.Words.{Text}
use Rattle.cs_table.specs.declared.limits.TheConstants.{MAX_TABLE}
use Rattle.cs_crontab.specs.Crontab.{Table}
use Rattle.cs_crontab.specs.Faults.{IsCrontab}
use Rattle.cs_crontab.specs.declared.fault.LineFault.{LineFault}
use Rattle.cs_table.specs.Table.{Found as FoundIn}
use Rattle.cs_place.specs.Places.{places_of}
use Rattle.cs_place.specs.declared.places.Place.{Place}
use Rattle.cs_anacrontab.specs.Anacrontab.{Table as JobTable}
use Rattle.cs_anacrontab.specs.declared.fault.JobFault.{JobFault}
use Rattle.cs_plan.specs.Answers.{Fails, Fault as DeclaredFault}
use Rattle.cs_plan.specs.declared.fault.DeclError.{DeclError}
use Rattle.cs_plan.specs.declared.fault.DeclError.TheVariants.{At, OutOfMemory}
use Rattle.cs_decl.specs.Meaning.{declared_by}
use Rattle.cs_plan.specs.Plan.{Declared}
use Rattle.cs_decl.specs.declared.entries.Entries.{Entries}
use Rattle.cs_report.specs.Faults.{Means as MeansScript}
use Rattle.cs_report.specs.Grammar.{Numbered}
use Rattle.cs_report.specs.Script.{Fault as ScriptFault}
use Rattle.cs_report.specs.declared.script.TheConstants.{MAX_SCRIPT}
use Rattle.cs_claims.specs.Content.{Content}
use Rattle.cs_cert.specs.Denoted.{certificate_by}
use Rattle.cs_claims.specs.declared.fault.CertFault.{CertFault}
use Rattle.cs_claims.specs.declared.limits.TheConstants.{MAX_CERTIFICATE}
use Rattle.cs_io.specs.Files.{Failed, IsFresh, IsReadOut, IsTooLong, IsUpTo, Reads}
use Rattle.cs_io.specs.declared.inputs.TheConstants.{MOST_READS}
use Rattle.cs_files.specs.Reads.{TextIn, AndThen, IsRead, IsUnreadWhole, MeansEntries, MeansIt, MeansJobTable, MeansTable, PlacesIn, ReadsAs, ReadsPlan}
use Rattle.cs_files.specs.Response.{Ending, complaint}
use Rattle.cs_files.specs.Trouble.{CameTo, InDeclarations, IsFaultOf, IsHonest, IsHonestOf, IsUnread, TellsPath, Trouble, declared_trouble, ends, trouble, trouble_status, trouble_text}
use Rattle.cs_files.specs.declared.fault.Fault.{Fault}

pub some_is : {X : Type 0} (x y : X) → Some x ≡ Some y → x ≡ y
some_is x y e = cc

pub ok_is : {X E : Type 0} (r : Result X E) (x y : X) → r ≡ Ok x → r ≡ Ok y → x ≡ y
ok_is r x y one other = cc

pub ok_no_err : {X E A : Type 0} (r : Result X E) (x : X) (e : E) → r ≡ Ok x → r ≡ Err e → A
ok_no_err r x e one other = absurd (cc)

-- its text and its status make the ending
pub is_ending : (w t : List ℕ) (s : ℕ) (o : Option Trouble) → option_map trouble_text o ≡ Some t → IfSome o (λ x. s ≡ trouble_status x)
    → option_map (ends w) o ≡ Some (record { status = s; out = []; err = w ++ complaint t })
is_ending w t s None e is = absurd (cc)
is_ending w t s (Some x) e is =
    let text : trouble_text x ≡ t = some_is (trouble_text x) t e in
    rw (is, ← text) refl

-- what was read means what the file means
meant : {M F : Type 0} (limit : ℕ) (means : List ℕ → Result M F → Type 0) (m : Result M F) (bytes : List ℕ) → ((text : List ℕ) → IsUpTo limit text bytes → means bytes m → means text m)
    → (whole left : Option (List ℕ)) → IfSome whole (λ text. left ≡ Some text) → IfSome left (λ text. IsUpTo limit text bytes) → means bytes m → IfSome whole (λ text. means text m)
meant limit means m bytes same None left fresh read is = fresh
meant limit means m bytes same (Some text) left fresh read is = same text (subst (λ o. IfSome o (λ t. IsUpTo limit t bytes)) fresh read) is

-- where all of it was read
meant_whole : {M F : Type 0} (means : List ℕ → Result M F → Type 0) (m : Result M F) (bytes : List ℕ) (whole left : Option (List ℕ)) → IfSome whole (λ text. left ≡ Some text) → IfSome left (λ text. bytes ≡ text) → means bytes m → IfSome whole (λ text. means text m)
meant_whole means m bytes None left fresh read is = fresh
meant_whole means m bytes (Some text) left fresh read is =
    let e : bytes ≡ text = subst (λ o. IfSome o (λ t. bytes ≡ t)) fresh read in
    subst (λ b. means b m) e is

-- the text of a table that was read is that of the file
pub texted : (files left : List ℕ → Option (List ℕ)) (path : Text) (text : List ℕ) (table : Table) → IsFresh files left → IsRead MAX_TABLE path left text → IsCrontab text table → TextIn files path table text
texted files left path text table fresh read is = (is, by_file (files path) (left path) (fresh path) read)
  where
    same : (bytes : List ℕ) → IsUpTo MAX_TABLE bytes text → text ≡ bytes
    same bytes (inl e) = e
    same bytes (inr long) = absurd (let l = long.0 in omega (arith, is.short, l))

    by_file : (whole rest : Option (List ℕ)) → IfSome whole (λ bytes. rest ≡ Some bytes) → IfSome rest (λ bytes. IsUpTo MAX_TABLE bytes text) → IfSome whole (λ bytes. text ≡ bytes)
    by_file None rest same_rest up = same_rest
    by_file (Some bytes) rest same_rest up = same bytes (subst (λ (o : Option (List ℕ)). IfSome o (λ t. IsUpTo MAX_TABLE t text)) same_rest up)

-- and so its places are those in the file
pub placed : (files : List ℕ → Option (List ℕ)) (path : Text) (table : Table) (text : List ℕ) (places : List Place) → TextIn files path table text → places ≡ places_of text table → PlacesIn files path table places
placed files path table text places (is, same) listed = by_file (files path) same
  where
    by_file : (whole : Option (List ℕ)) → IfSome whole (λ bytes. text ≡ bytes) → IfSome whole (λ bytes. places ≡ places_of bytes table)
    by_file None none = none
    by_file (Some bytes) e = subst (λ (b : List ℕ). places ≡ places_of b table) e listed

-- declarations that make no plan
pub plan_unmade : (made : Entries → Result Declared DeclaredFault) (files left : List ℕ → Option (List ℕ)) (path : Text) (bytes : List ℕ) (d : Entries) (error : DeclError) (fault : Fault) (before after : Failed)
    → after ≡ before → IsFresh files left → IfSome (left path) (λ text. bytes ≡ text) → declared_by bytes ≡ Ok d → Fails error (made d) → IsFaultOf error fault
    → IfSome (trouble fault) (λ t. ReadsPlan made files path before after (Err t))
plan_unmade made files left path bytes d error fault before after works fresh read denotes = by_error error (trouble fault)
  where
    by_error : (e : DeclError) (o : Option Trouble) → Fails e (made d) → IfSome o (λ t. (lines : List ℕ) × (declared_trouble e lines ≡ Some t)) → IfSome o (λ t. ReadsPlan made files path before after (Err t))
    by_error e None fails h = h
    by_error OutOfMemory (Some t) fails (lines, is) = absurd (cc)
    by_error (At f place) (Some t) fails (lines, is) =
        let told : t ≡ InDeclarations ((f, place), lines) = sym (some_is (InDeclarations ((f, place), lines)) t is) in
        inr (d, inl (refl, meant_whole MeansEntries (Ok d) bytes (files path) (left path) (fresh path) read denotes), rw (fails, told) (works, (lines, refl)))

-- declarations that could not be read, or not to their end
pub plan_unread : (made : Entries → Result Declared DeclaredFault) (files left : List ℕ → Option (List ℕ)) (path : Text) (before after : Failed) (old new : Reads) (e : Fault)
    → IsFresh files left → IsUnreadWhole path left before after old new e → IfSome (trouble e) (λ t. ReadsPlan made files path before after (Err t))
plan_unread made files left path before after old new e fresh = by_trouble (trouble e)
  where
    too_long : (whole rest : Option (List ℕ)) → IfSome whole (λ text. rest ≡ Some text) → IfSome rest (λ text. MOST_READS ≤ length text) → IfSome whole (λ text. MOST_READS ≤ length text)
    too_long None rest same long = same
    too_long (Some text) rest same long = subst (λ o. IfSome o (λ t. MOST_READS ≤ length t)) same long

    by_trouble : (o : Option Trouble) → IfSome o (λ t. TellsPath path t × ((after path ≡ true) ⊎ ((after ≡ before) × IsReadOut path old new × IsTooLong path left)))
        → IfSome o (λ t. ReadsPlan made files path before after (Err t))
    by_trouble None h = h
    by_trouble (Some t) (is, inl failed) = inl (t, inl (inl (failed, is)), refl)
    by_trouble (Some t) (is, inr (same, out, long)) = inl (t, inr (same, too_long (files path) (left path) (fresh path) long, (t, is, refl)), refl)

-- a file of which the bytes that were read mean this, or have that fault
pub came_read : {M F : Type 0} (limit : ℕ) (means : List ℕ → Result M F → Type 0) (told : F → Trouble) (files left : List ℕ → Option (List ℕ)) (path : Text) (bytes : List ℕ) (before after : Failed) (result : Result M Fault)
    → ((m : Result M F) (text : List ℕ) → IsUpTo limit text bytes → means bytes m → means text m)
    → after ≡ before → IsFresh files left → IsRead limit path left bytes → MeansIt means told bytes result → CameTo (ReadsAs files path means told before after) result
came_read limit means told files left path bytes before after (Ok m) same works fresh read tells =
    (works, meant limit means (Ok m) bytes (same (Ok m)) (files path) (left path) (fresh path) read tells)
came_read limit means told files left path bytes before after (Err e) same works fresh read tells = by_trouble (trouble e) tells
  where
    by_trouble : (o : Option Trouble) → IfSome o (λ t. (fault : _) × (t ≡ told fault) × means bytes (Err fault)) → IfSome o (λ t. ReadsAs files path means told before after (Err t))
    by_trouble None h = h
    by_trouble (Some t) (fault, is, stands) = inr (works, (fault, is, meant limit means (Err fault) bytes (same (Err fault)) (files path) (left path) (fresh path) read stands))

-- crontabs that are too long have one fault, and are no anacrontabs
pub same_table : (bytes : List ℕ) (m : Result Table ((FoundIn LineFault × Bool) × List ℕ)) (text : List ℕ) → IsUpTo MAX_TABLE text bytes → MeansTable bytes m → MeansTable text m
same_table bytes m text (inl e) means = subst (λ (b : List ℕ). MeansTable b m) e means
same_table bytes (Ok table) text (inr long) means = absurd (let l = long.0 in omega (arith, means.short, l))
same_table bytes (Err ((fault, true), lines)) text (inr long) (first, (jobs, means, some)) = absurd (let l = long.0 in omega (arith, means.short, l))
same_table bytes (Err ((fault, false), lines)) text (inr long) (inl (past, is), none) = (inl (long.1, is), λ jobs means. absurd (let l = long.1 in omega (arith, means.short, l)))
same_table bytes (Err ((fault, false), lines)) text (inr long) (inr first, none) = absurd (let l = long.0 in omega (arith, first.short, l))

-- and so have anacrontabs
pub same_jobs : (bytes : List ℕ) (m : Result JobTable (FoundIn JobFault × List ℕ)) (text : List ℕ) → IsUpTo MAX_TABLE text bytes → MeansJobTable bytes m → MeansJobTable text m
same_jobs bytes m text (inl e) means = subst (λ (b : List ℕ). MeansJobTable b m) e means
same_jobs bytes (Ok jobs) text (inr long) means = absurd (let l = long.0 in omega (arith, means.short, l))
same_jobs bytes (Err (fault, lines)) text (inr long) (inl (past, is)) = inl (long.1, is)
same_jobs bytes (Err (fault, lines)) text (inr long) (inr first) = absurd (let l = long.0 in omega (arith, first.short, l))

-- scripts that are too long have one fault
pub same_script : (d : Declared) (bytes : List ℕ) (m : Result Numbered ScriptFault) (text : List ℕ) → IsUpTo MAX_SCRIPT text bytes → MeansScript d bytes m → MeansScript d text m
same_script d bytes m text (inl e) means = subst (λ (b : List ℕ). MeansScript d b m) e means
same_script d bytes (Ok script) text (inr long) means = absurd (let l = long.0 in omega (arith, means.short, l))
same_script d bytes (Err fault) text (inr long) (inl (past, none, is)) = inl (long.1, none, is)
same_script d bytes (Err fault) text (inr long) (inr (inl (empty, none, is))) = absurd (let l = long.0 in omega (arith, empty.short, l))
same_script d bytes (Err fault) text (inr long) (inr (inr first)) = absurd (let l = long.0 in omega (arith, first.short, l))

-- and so have certificates
pub same_certificate : (bytes : List ℕ) (m : Result Content CertFault) (text : List ℕ) → IsUpTo MAX_CERTIFICATE text bytes → certificate_by bytes ≡ m → certificate_by text ≡ m
unfolding certificate_by
same_certificate bytes m text (inl e) is = ap certificate_by (sym e) ∙ is
same_certificate bytes m text (inr long) is =
    let a : nat_lt MAX_CERTIFICATE (length bytes) ≡ true = lt-ltb MAX_CERTIFICATE (length bytes) long.0 in
    let b : nat_lt MAX_CERTIFICATE (length text) ≡ true = lt-ltb MAX_CERTIFICATE (length text) long.1 in
    rw b (rw a at is)

-- ---- one step after the other

pub goes_on : {X Y : Type 0} (first : Failed → Failed → Result X Trouble → Type 0) (next : X → Failed → Failed → Result Y Trouble → Type 0) (before after : Failed) (x : X) (result : Result Y Fault)
    → first before before (Ok x) → CameTo (next x before after) result → CameTo (AndThen first next before after) result
goes_on first next before after x (Ok y) one other = inr (x, one, other)
goes_on first next before after x (Err e) one other = by_trouble (trouble e) other
  where
    by_trouble : (o : Option Trouble) → IfSome o (λ t. next x before after (Err t)) → IfSome o (λ t. AndThen first next before after (Err t))
    by_trouble None h = h
    by_trouble (Some t) h = inr (x, one, h)

pub stops : {X Y : Type 0} (first : Failed → Failed → Result X Trouble → Type 0) (next : X → Failed → Failed → Result Y Trouble → Type 0) (before after : Failed) (e : Fault)
    → IfSome (trouble e) (λ t. first before after (Err t)) → IfSome (trouble e) (λ t. AndThen first next before after (Err t))
stops first next before after e = by_trouble (trouble e)
  where
    by_trouble : (o : Option Trouble) → IfSome o (λ t. first before after (Err t)) → IfSome o (λ t. AndThen first next before after (Err t))
    by_trouble None h = h
    by_trouble (Some t) h = inl (t, h, refl)

-- where whole and failed are as they were
pub moved : (P : (List ℕ → Option (List ℕ)) → Failed → Type 0) (w v : List ℕ → Option (List ℕ)) (f g : Failed) → w ≡ v → f ≡ g → P w f → P v g
moved P w v f g same kept h = subst (λ (b : Failed). P v b) kept (subst (λ (o : List ℕ → Option (List ℕ)). P o f) same h)

-- ---- after warnings

pub honest_fault : (failed : Failed) (reads : Reads) (w : List ℕ) (e : Fault) (r : Ending) → IsHonestOf failed reads e → option_map (ends w) (trouble e) ≡ Some r → IsHonest failed reads r
honest_fault failed reads w e r = by_trouble (trouble e)
  where
    by_trouble : (o : Option Trouble) → IfSome o (λ t. trouble_status t ≡ 6 → (path : Text) × IsUnread path failed reads × TellsPath path t) → option_map (ends w) o ≡ Some r → IsHonest failed reads r
    by_trouble None h is = absurd (cc)
    by_trouble (Some t) h is = λ six.
        let same : ends w t ≡ r = some_is (ends w t) r is in
        let (path, unread, (reason, told)) = h (ap (λ (x : Ending). x.status) same ∙ six) in
        record { path = path; unread = unread; warnings = w; reason = reason; told = sym same ∙ ap (ends w) told }
