-- Why a call ends before all of it was done, and the answer to that.
use Rattle.std.specs.Prelude.{◌≡◌, ◌≢◌, ◌⊎◌, ℕ, Bool, true, false, List, [], ◌++◌, Option, Some, None, IfSome}
use Rattle.std.specs.Prelude.{Result, Ok, Err, codes, decimal, option_map}
use Rattle.clap.specs.Words.{Text}
use Rattle.cs_table.specs.Table.{Found}
use Rattle.cs_crontab.specs.Printed.{fault_text as crontab_fault_text}
use Rattle.cs_anacrontab.specs.Printed.{fault_text as anacrontab_fault_text}
use Rattle.cs_crontab.specs.declared.fault.LineFault.{LineFault}
use Rattle.cs_table.specs.declared.fault.TableFault.{TableFault}
use Rattle.cs_table.specs.declared.fault.TableFault.TheVariants as table_fault
use Rattle.cs_anacrontab.specs.declared.fault.JobFault.{JobFault}
use Rattle.cs_system.specs.Printed.{fault_text as system_fault_text}
use Rattle.cs_system.specs.declared.fault.SystemFault.{SystemFault}
use Rattle.cs_plan.specs.Answers.{Fault as DeclaredFault}
use Rattle.cs_plan.specs.Printed.{error_text}
use Rattle.cs_plan.specs.declared.fault.DeclError.{DeclError}
use Rattle.cs_plan.specs.declared.fault.DeclError.TheVariants as decl_error
use Rattle.cs_report.specs.Printed.{fault_text as script_fault_text}
use Rattle.cs_report.specs.Script.{Fault as ScriptFault}
use Rattle.cs_report.specs.declared.script_fault.ScriptError.{ScriptError}
use Rattle.cs_report.specs.declared.script_fault.ScriptError.TheVariants as script_error
use Rattle.cs_claims.specs.Printed.{fault_text as certificate_fault_text}
use Rattle.cs_claims.specs.declared.fault.CertFault.{CertFault}
use Rattle.cs_claims.specs.declared.fault.CertError.{CertError}
use Rattle.cs_claims.specs.declared.fault.CertError.TheVariants as cert_error
use Rattle.cs_args.specs.Words.{word_fault}
use Rattle.cs_args.specs.declared.question.WordFault.{WordFault}
use Rattle.cs_args.specs.declared.question.WordFault.TheVariants.{BadHours, BadMax, Date}
use Rattle.cs_io.specs.Files.{Failed, IsReadOut, Reads}
use Rattle.cs_io.specs.Reasons.{reason_text}
use Rattle.cs_io.specs.declared.reason.Reason.{Reason}
use Rattle.cs_files.specs.Response.{Ending, complaint}
use Rattle.cs_files.specs.declared.fault.Fault.{Fault}
use Rattle.cs_files.specs.declared.fault.Fault.TheVariants.{Anacrontab, CannotRead, Certificate}
use Rattle.cs_files.specs.declared.fault.Fault.TheVariants.{Crontab, Declarations, OutOfMemory}
use Rattle.cs_files.specs.declared.fault.Fault.TheVariants.{Gathered, NoZone, Script, Words}

-- why a call ends: its words hold a fault, this path can't be read, what was read holds a fault, or
-- what is at this path isn't a time zone. A crontab's fault says too whether it reads as an
-- anacrontab. Tables and declarations have lines that show the place and what is wrong there;
-- `lint` prints them too.
pub data Trouble : Type 0 where
  InWords : WordFault → Trouble
  Unread : Text → Reason → Trouble
  InCrontab : (Found LineFault × Bool) × List ℕ → Trouble
  InAnacrontab : Found JobFault × List ℕ → Trouble
  InGathered : Text → Found SystemFault × List ℕ → Trouble
  InDeclarations : DeclaredFault × List ℕ → Trouble
  InScript : ScriptFault → Trouble
  InCertificate : CertFault → Trouble
  NoTimeZone : Text → Trouble

-- `crontab line 2: 5 BadNumber`; line 0 is all of the crontab
abbrev pub crontab_line : Found LineFault → List ℕ
crontab_line fault =
    codes "crontab line " ++ (decimal fault.line ++ (codes ": " ++ crontab_fault_text fault.fault))

-- after it, where the table reads as an anacrontab
abbrev pub jobs_hint : Bool → List ℕ
jobs_hint true = codes "\ncronsafe: the table reads as an anacrontab: give it with --anacrontab"
jobs_hint false = []

abbrev pub anacrontab_line : Found JobFault → List ℕ
anacrontab_line fault =
    codes "anacrontab line " ++ (decimal fault.line ++ (codes ": " ++ anacrontab_fault_text fault.fault))

-- `PATH line 3: 13 BadUser`: of the table at a path, one of those that are gathered
abbrev pub gathered_line : Text → Found SystemFault → List ℕ
gathered_line path fault = (path ++ codes " line ")
    ++ (decimal fault.line ++ (codes ": " ++ system_fault_text fault.fault))

-- `certificate: 5 TooDeep`
abbrev pub certificate_line : CertFault → List ℕ
certificate_line fault = codes "certificate: " ++ certificate_fault_text fault

abbrev pub no_zone_line : Text → List ℕ
no_zone_line path = path ++ codes ": no time zone file"

-- `declarations: 6 BadMax at cron 2`
abbrev pub declared_line : DeclaredFault → List ℕ
declared_line fault = codes "declarations: " ++ error_text (decl_error.At fault.0 fault.1)

-- `script line 3: 2 BadLine`
abbrev pub script_line : ScriptFault → List ℕ
script_line fault =
    codes "script line " ++ (decimal fault.0 ++ (codes ": " ++ script_fault_text fault.1))

-- after a fault of the words: what they may be
abbrev pub word_hint : WordFault → List ℕ
word_hint (Date fault) =
    codes "\ncronsafe: a date is YYYY-MM-DD, from 1970-01-04 to 9999-12-31, as $(date +%F) prints it"
word_hint BadMax = codes "\ncronsafe: the longest time is from 1 to 4320 minutes"
word_hint BadHours =
    codes "\ncronsafe: --from is from 0 on and below --to, which is at most 1440"

abbrev pub trouble_text : Trouble → List ℕ
trouble_text (InWords fault) = word_fault fault ++ word_hint fault
trouble_text (Unread path reason) = codes "can't read " ++ (path ++ reason_text reason)
trouble_text (InCrontab ((fault, are_jobs), lines)) = crontab_line fault ++ (jobs_hint are_jobs ++ lines)
trouble_text (InAnacrontab (fault, lines)) = anacrontab_line fault ++ lines
trouble_text (InGathered path (fault, lines)) = gathered_line path fault ++ lines
trouble_text (InDeclarations (fault, lines)) = declared_line fault ++ lines
trouble_text (InScript fault) = script_line fault
trouble_text (InCertificate fault) = certificate_line fault
trouble_text (NoTimeZone path) = no_zone_line path

-- 6 where a path can't be read, and 3 for each fault
abbrev pub trouble_status : Trouble → ℕ
trouble_status (InWords fault) = 3
trouble_status (Unread path reason) = 6
trouble_status (InCrontab fault) = 3
trouble_status (InAnacrontab fault) = 3
trouble_status (InGathered path fault) = 3
trouble_status (InDeclarations fault) = 3
trouble_status (InScript fault) = 3
trouble_status (InCertificate fault) = 3
trouble_status (NoTimeZone path) = 3

-- the answer to it, after these warnings
abbrev pub ends : List ℕ → Trouble → Ending
ends warnings t =
    record { status = trouble_status t; out = []; err = warnings ++ complaint (trouble_text t) }

abbrev pub lines_in : Option (List ℕ) → List ℕ
lines_in None = []
lines_in (Some lines) = lines

-- what a fault says with such lines; nothing if it is out of memory
abbrev pub table_trouble : TableFault LineFault → Bool → List ℕ → Option Trouble
table_trouble (table_fault.At line column size fault) are_jobs lines = Some (InCrontab
    ((record { line = line; column = column; size = size; fault = fault }, are_jobs), lines))
table_trouble table_fault.OutOfMemory are_jobs lines = None

abbrev pub jobs_trouble : TableFault JobFault → List ℕ → Option Trouble
jobs_trouble (table_fault.At line column size fault) lines = Some
    (InAnacrontab (record { line = line; column = column; size = size; fault = fault }, lines))
jobs_trouble table_fault.OutOfMemory lines = None

abbrev pub gathered_trouble : Text → TableFault SystemFault → List ℕ → Option Trouble
gathered_trouble path (table_fault.At line column size fault) lines = Some (InGathered path
    (record { line = line; column = column; size = size; fault = fault }, lines))
gathered_trouble path table_fault.OutOfMemory lines = None

abbrev pub declared_trouble : DeclError → List ℕ → Option Trouble
declared_trouble (decl_error.At fault place) lines = Some (InDeclarations ((fault, place), lines))
declared_trouble decl_error.OutOfMemory lines = None

abbrev pub script_trouble : ScriptError → Option Trouble
script_trouble (script_error.At line fault) = Some (InScript (line, fault))
script_trouble script_error.OutOfMemory = None

abbrev pub certificate_trouble : CertError → Option Trouble
certificate_trouble (cert_error.Fault fault) = Some (InCertificate fault)
certificate_trouble cert_error.OutOfMemory = None

abbrev pub trouble : Fault → Option Trouble
trouble (Words fault) = Some (InWords fault)
trouble (CannotRead path reason) = Some (Unread path.now reason)
trouble (Crontab fault are_jobs lines) = table_trouble fault are_jobs (lines_in lines)
trouble (Anacrontab fault lines) = jobs_trouble fault (lines_in lines)
trouble (Gathered path fault lines) = gathered_trouble path.now fault (lines_in lines)
trouble (Declarations fault lines) = declared_trouble fault (lines_in lines)
trouble (Script fault) = script_trouble fault
trouble (Certificate fault) = certificate_trouble fault
trouble (NoZone path) = Some (NoTimeZone path.now)
trouble OutOfMemory = None

-- a fault of declarations is that one, whatever the lines show of it
abbrev pub IsFaultOf : DeclError → Fault → Type 0
IsFaultOf error fault = IfSome (trouble fault)
    (λ t. (lines : List ℕ) × (declared_trouble error lines ≡ Some t))

-- this is the text of what a fault says
abbrev pub Says : Option Trouble → List ℕ → Type 0
Says said text = option_map trouble_text said ≡ Some text

-- a read of this path has failed, or the last reads were all of it, as many as it may take
abbrev pub IsUnread : Text → Failed → Reads → Type 0
IsUnread path failed reads = (failed path ≡ true) ⊎ ((before : Reads) × IsReadOut path before reads)

-- it is said that this path can't be read, and perhaps why
abbrev pub TellsPath : Text → Trouble → Type 0
TellsPath path t = (reason : Reason) × (t ≡ Unread path reason)

-- a call that ends so says which path was unread
pub record TellsUnread (failed : Failed) (reads : Reads) (ending : Ending) : Type 0 where
  pub path : Text
  pub unread : IsUnread path failed reads
  pub warnings : List ℕ
  pub reason : Reason
  pub told : ending ≡ ends warnings (Unread path reason)

-- the status of a failed device is answered only where a path was unread, which is reported
abbrev pub IsHonest : Failed → Reads → Ending → Type 0
IsHonest failed reads ending = ending.status ≡ 6 → TellsUnread failed reads ending

-- and so of a fault: it is such a path, or has another status
abbrev pub IsHonestOf : Failed → Reads → Fault → Type 0
IsHonestOf failed reads fault = IfSome (trouble fault)
    (λ t. trouble_status t ≡ 6 → (path : Text) × IsUnread path failed reads × TellsPath path t)

-- a fault of what was read, and not of reading
abbrev pub IsOfContent : Fault → Type 0
IsOfContent fault = IfSome (trouble fault) (λ t. trouble_status t ≢ 6)

-- what a function answered, where memory did not run out, is such a value or such a fault
abbrev pub CameTo : {X : Type 0} → (Result X Trouble → Type 0) → Result X Fault → Type 0
CameTo R (Ok x) = R (Ok x)
CameTo R (Err fault) = IfSome (trouble fault) (λ t. R (Err t))
