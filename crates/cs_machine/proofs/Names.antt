-- Two files of a folder.
use Rattle.std.proofs.Common.{◌≡◌, ◌≢◌, ◌∙◌, ℕ, true, List, ◌++◌, get_or, sym, ap, append_assoc, reverse, refl, true≢false, arith}
use Rattle.std.specs.Prelude.{codes}
use Rattle.std.specs.List.{list_any}
use Rattle.std.proofs.Math.Bool.{or-true}
use Rattle.std.proofs.lemmas.List.{append_cancel_left, reverse-append}
use Rattle.std.proofs.lemmas.List.Folds.{list_any-append}
use Rattle.cs_machine.specs.Files.{IsFileName, is_kept_out, drain_file_of, file_of, lock_file_of, new_file_of, reload_file_of, stop_file_of}

pub own_file : (folder a b : List ℕ) → file_of folder a ≡ file_of folder b → a ≡ b
own_file folder a b same = append_cancel_left (folder ++ codes "/") a b same

-- a text with a blank after it has a byte that names don't have
pub new_file_apart : (folder a b : List ℕ) → IsFileName b → new_file_of folder a ≢ file_of folder b
new_file_apart folder a b name same =
    let named : a ++ codes " new" ≡ b = own_file folder (a ++ codes " new") b (sym (append_assoc (folder ++ codes "/") a (codes " new")) ∙ same) in
    let bad : list_any is_kept_out b ≡ true = sym (ap (list_any is_kept_out) named) ∙ list_any-append is_kept_out a (codes " new") ∙ or-true (list_any is_kept_out a) in
    absurd (true≢false (sym bad ∙ name.clean))

-- a name with a byte that names don't have
kept_out_apart : (folder name a : List ℕ) → list_any is_kept_out name ≡ true → IsFileName a → file_of folder name ≢ file_of folder a
kept_out_apart folder name a bad clean same =
    let named : name ≡ a = own_file folder name a same in
    absurd (true≢false (sym bad ∙ ap (list_any is_kept_out) named ∙ clean.clean))

pub stop_file_apart : (folder a : List ℕ) → IsFileName a → stop_file_of folder ≢ file_of folder a
stop_file_apart folder a name same = kept_out_apart folder (codes "cronsafe stop") a refl name same

pub reload_file_apart : (folder a : List ℕ) → IsFileName a → reload_file_of folder ≢ file_of folder a
reload_file_apart folder a name same = kept_out_apart folder (codes "cronsafe reload") a refl name same

pub drain_file_apart : (folder a : List ℕ) → IsFileName a → drain_file_of folder ≢ file_of folder a
drain_file_apart folder a name same = kept_out_apart folder (codes "cronsafe drain") a refl name same

pub lock_file_apart : (folder a : List ℕ) → IsFileName a → lock_file_of folder ≢ file_of folder a
lock_file_apart folder a name same = kept_out_apart folder (codes "cronsafe lock") a refl name same

-- a text that ends like " new" ends with 119
last_of_new : (folder name a : List ℕ) → file_of folder name ≡ new_file_of folder a → get_or (reverse name) 0 0 ≡ 119
last_of_new folder name a same =
    let named : name ≡ a ++ codes " new" = own_file folder name (a ++ codes " new") (same ∙ append_assoc (folder ++ codes "/") a (codes " new")) in
    ap (λ xs. get_or (reverse xs) 0 0) named ∙ ap (λ xs. get_or xs 0 0) (reverse-append a (codes " new"))

pub stop_file_not_new : (folder a : List ℕ) → stop_file_of folder ≢ new_file_of folder a
stop_file_not_new folder a same =
    let last : 112 ≡ 119 = last_of_new folder (codes "cronsafe stop") a same in
    absurd (omega (arith, last))

pub reload_file_not_new : (folder a : List ℕ) → reload_file_of folder ≢ new_file_of folder a
reload_file_not_new folder a same =
    let last : 100 ≡ 119 = last_of_new folder (codes "cronsafe reload") a same in
    absurd (omega (arith, last))

pub drain_file_not_new : (folder a : List ℕ) → drain_file_of folder ≢ new_file_of folder a
drain_file_not_new folder a same =
    let last : 110 ≡ 119 = last_of_new folder (codes "cronsafe drain") a same in
    absurd (omega (arith, last))

pub lock_file_not_new : (folder a : List ℕ) → lock_file_of folder ≢ new_file_of folder a
lock_file_not_new folder a same =
    let last : 107 ≡ 119 = last_of_new folder (codes "cronsafe lock") a same in
    absurd (omega (arith, last))
