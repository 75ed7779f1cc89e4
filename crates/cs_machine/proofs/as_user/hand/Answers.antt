use Rattle.std.proofs.Common.{◌≡◌, ◌∙◌, ◌∷◌, ◌++◌, Bool, true, false, List, ℕ, Some, None, bytes_eq, codes, if◌then◌else◌, option_map, Result, Ok, Err, IfOk, refl, sym, ap, subst, unwrap_or}
use Rattle.std.specs.Result.{result_ok}
use Rattle.std.proofs.lemmas.Option.{none-some}
use Rattle.cs_machine.specs.Shell.{usual_settings}
use Rattle.cs_machine.specs.User.{settings_text, usual_path}
use Rattle.cs_machine.proofs.as_user.hand.Goals as goal

-- the last of three variables that has the name counts
pick : (third second first : Bool) (x y z w v : List ℕ) → y ≡ w → z ≡ v → (if third then Some (Some x) else (if second then Some (Some y) else (if first then Some (Some z) else None))) ≡ option_map Some (if third then Some x else (if second then Some w else (if first then Some v else None)))
pick true second first x y z w v same path = refl
pick false true first x y z w v same path = ap (λ (l : List ℕ). Some (Some l)) same
pick false false true x y z w v same path = ap (λ (l : List ℕ). Some (Some l)) path
pick false false false x y z w v same path = refl

found : {T E : Type 0} (P : T → Type 0) (r : Result T E) (x : T) → Some x ≡ result_ok r → IfOk r P → P x
found P (Ok y) x same holds = subst P (sym (ap (λ o. unwrap_or o x) same)) holds
found P (Err e) x same holds = absurd (none-some x (sym same))

pub returns-clause-variables : goal.returns-clause-variables
returns-clause-variables c = λ yes k.
    let text = settings_text (usual_path ∷ (usual_settings (Some c.args.home.now) ++ c.args.env.now)) in
    let same : c.as_slice.result.now ≡ text = c.as_slice.ensures.value ∙ found (λ t. t.items ≡ text) c.settings_of.result c.in_ok-settings.settings c.in_ok-settings.ensures.value c.settings_of.ensures in
    rw (c.set-3.ensures.variables yes k, c.in_ok-set-2.ensures.variables refl k, c.in_ok-set.ensures.variables refl k, c.requires k) (pick (bytes_eq (codes "CRONSAFE_FOLDER") k) (bytes_eq (codes "CRONSAFE_SETTINGS") k) (bytes_eq (codes "PATH") k) c.args.folder.now c.as_slice.result.now c.as_bytes.result.now text (codes "/usr/bin:/bin") same c.as_bytes.ensures.value)
