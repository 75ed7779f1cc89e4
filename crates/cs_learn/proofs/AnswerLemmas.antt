use Rattle.std.proofs.Common.{◌≡◌, ◌⊎◌, ℕ, true, List, Option, IfSome, refl, subst, sym}
use Rattle.std.specs.Prelude.{Contains}
use Rattle.clap.specs.Words.{Text}
use Rattle.cs_io.specs.Files.{Failed, IsTooLong, Reads}
use Rattle.cs_io.specs.Reasons.{IsCannotRead}
use Rattle.cs_io.specs.declared.inputs.ReadFault.{ReadFault}
use Rattle.cs_io.specs.declared.inputs.ReadFault.TheVariants.{CannotRead, OutOfMemory}
use Rattle.cs_files.specs.Trouble.{IsHonestOf, IsUnread, TellsPath, Trouble, trouble, trouble_status}
use Rattle.cs_files.specs.declared.fault.Fault.{Fault}
use Rattle.cs_learn.specs.Answer.{IsUnreadLog, trouble_of}

pub log_unread : (files : List ℕ → Option (List ℕ)) (logs : List Text) (path : Text) (fault : ReadFault) (before after : Failed) (e : Fault)
    → trouble e ≡ trouble_of path fault → Contains logs path → (IsCannotRead fault → (after path ≡ true) ⊎ ((after ≡ before) × IsTooLong path files)) → IfSome (trouble e) (λ t. IsUnreadLog files logs before after t)
log_unread files logs path (CannotRead reason) before after e is named long =
    subst (λ (o : Option Trouble). IfSome o (λ t. IsUnreadLog files logs before after t)) (sym is) (path, named, (reason, refl), long tt)
log_unread files logs path OutOfMemory before after e is named long =
    subst (λ (o : Option Trouble). IfSome o (λ t. IsUnreadLog files logs before after t)) (sym is) tt

pub log_honest : (path : Text) (fault : ReadFault) (failed : Failed) (reads : Reads) (e : Fault)
    → trouble e ≡ trouble_of path fault → (IsCannotRead fault → IsUnread path failed reads) → IsHonestOf failed reads e
log_honest path (CannotRead reason) failed reads e is unread =
    subst (λ (o : Option Trouble). IfSome o (λ t. trouble_status t ≡ 6 → (p : Text) × IsUnread p failed reads × TellsPath p t)) (sym is) (λ six. (path, unread tt, (reason, refl)))
log_honest path OutOfMemory failed reads e is unread =
    subst (λ (o : Option Trouble). IfSome o (λ t. trouble_status t ≡ 6 → (p : Text) × IsUnread p failed reads × TellsPath p t)) (sym is) tt
