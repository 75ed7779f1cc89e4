use Rattle.std.proofs.Common.{◌≡◌, ◌⊎◌, ◌≤◌, ℕ, true, List, Option, Some, None, IfSome, Ok, Err, inl, inr, length, refl, subst}
use Rattle.cs_decl.specs.Meaning.{declared_by}
use Rattle.cs_decl.specs.declared.entries.Entries.{Entries}
use Rattle.clap.specs.Words.{Text}
use Rattle.cs_io.specs.Files.{Failed, IsFresh, IsReadOut, IsTooLong, Reads}
use Rattle.cs_io.specs.declared.inputs.TheConstants.{MOST_READS}
use Rattle.cs_files.specs.Reads.{IsUnreadWhole}
use Rattle.cs_files.specs.Trouble.{TellsPath, Trouble, trouble}
use Rattle.cs_files.specs.declared.fault.Fault.{Fault}
use Rattle.cs_draft.specs.Answer.{ReadsOld, ReadsText}

declared : (d : Entries) (bytes : List ℕ) (whole left : Option (List ℕ)) → IfSome whole (λ text. left ≡ Some text) → IfSome left (λ text. bytes ≡ text) → declared_by bytes ≡ Ok d → IfSome whole (λ text. declared_by text ≡ Ok d)
declared d bytes None left fresh read is = fresh
declared d bytes (Some text) left fresh read is =
    let e : bytes ≡ text = subst (λ o. IfSome o (λ t. bytes ≡ t)) fresh read in
    subst (λ b. declared_by b ≡ Ok d) e is

pub old_read : (files left : List ℕ → Option (List ℕ)) (path : Text) (bytes : List ℕ) (old : Entries) (before after : Failed)
    → after ≡ before → IsFresh files left → IfSome (left path) (λ text. bytes ≡ text) → declared_by bytes ≡ Ok old → ReadsOld files (Some path) before after (Ok (Some old))
old_read files left path bytes old before after works fresh read is =
    inr (old, inl (refl, declared old bytes (files path) (left path) (fresh path) read is), (works, refl))

too_long : (whole rest : Option (List ℕ)) → IfSome whole (λ text. rest ≡ Some text) → IfSome rest (λ text. MOST_READS ≤ length text) → IfSome whole (λ text. MOST_READS ≤ length text)
too_long None rest same long = same
too_long (Some text) rest same long = subst (λ o. IfSome o (λ t. MOST_READS ≤ length t)) same long

pub old_unread : (files left : List ℕ → Option (List ℕ)) (path : Text) (before after : Failed) (old new : Reads) (e : Fault)
    → IsFresh files left → IsUnreadWhole path left before after old new e → IfSome (trouble e) (λ t. ReadsOld files (Some path) before after (Err t))
old_unread files left path before after old new e fresh = by_trouble (trouble e)
  where
    by_trouble : (o : Option Trouble) → IfSome o (λ t. TellsPath path t × ((after path ≡ true) ⊎ ((after ≡ before) × IsReadOut path old new × IsTooLong path left)))
        → IfSome o (λ t. ReadsOld files (Some path) before after (Err t))
    by_trouble None h = h
    by_trouble (Some t) (is, inl failed) = inl (t, inl (inl (failed, is)), refl)
    by_trouble (Some t) (is, inr (same, out, long)) = inl (t, inr (same, too_long (files path) (left path) (fresh path) long, (t, is, refl)), refl)

same_text : (bytes : List ℕ) (whole left : Option (List ℕ)) → IfSome whole (λ text. left ≡ Some text) → IfSome left (λ text. bytes ≡ text) → IfSome whole (λ text. bytes ≡ text)
same_text bytes None left fresh read = fresh
same_text bytes (Some text) left fresh read = subst (λ o. IfSome o (λ t. bytes ≡ t)) fresh read

pub text_read : (files left : List ℕ → Option (List ℕ)) (path : Text) (bytes : List ℕ) (before after : Failed)
    → after ≡ before → IsFresh files left → IfSome (left path) (λ text. bytes ≡ text) → ReadsText files (Some path) before after (Ok bytes)
text_read files left path bytes before after works fresh read = (works, same_text bytes (files path) (left path) (fresh path) read)

pub text_unread : (files left : List ℕ → Option (List ℕ)) (path : Text) (before after : Failed) (old new : Reads) (e : Fault)
    → IsFresh files left → IsUnreadWhole path left before after old new e → IfSome (trouble e) (λ t. ReadsText files (Some path) before after (Err t))
text_unread files left path before after old new e fresh = by_trouble (trouble e)
  where
    by_trouble : (o : Option Trouble) → IfSome o (λ t. TellsPath path t × ((after path ≡ true) ⊎ ((after ≡ before) × IsReadOut path old new × IsTooLong path left)))
        → IfSome o (λ t. ReadsText files (Some path) before after (Err t))
    by_trouble None h = h
    by_trouble (Some t) (is, inl failed) = (is, inl failed)
    by_trouble (Some t) (is, inr (same, out, long)) = (is, inr (same, too_long (files path) (left path) (fresh path) long))
