use Rattle.std.proofs.Common.{◌≡◌, ◌⊎◌, ◌∙◌, ◌++◌, ◌∷◌, All, Contains, List, [], Option, Some, None, IfSome, ap, codes, inl, inr, subst, sym}
use Rattle.std.proofs.lemmas.List.Elements.{All-push, Contains-append_left, Contains-push}
use Rattle.cs_args.specs.Asked.{Text}
use Rattle.cs_io.specs.Folders.{Tree}
use Rattle.cs_io.specs.declared.folders.FileKind.{FileKind}
use Rattle.cs_files.proofs.TroubleLemmas.{some_is}
use Rattle.cs_gather.specs.Tables.{Given, IsBelow, IsFile, IsFileAt, IsIn, IsReadByCron, found_table}
use Rattle.cs_gather.specs.Listing.{FindsAllOn, HasName, given_in, place_of}
use Rattle.cs_gather.specs.declared.below.Shelf.{Shelf}
use Rattle.cs_gather.specs.declared.below.Shelf.TheVariants.{CronD, Crontabs}

pub maybe_more : {X : Type 0} (P : X → Type 0) (old new : List X) (x : X) → P x → (new ≡ old) ⊎ (new ≡ old ++ x ∷ []) → All P old → All P new
maybe_more P old new x is (inl same) all = subst (All P) (sym same) all
maybe_more P old new x is (inr more) all = subst (All P) (sym more) (All-push P old x all is)

pub kept : {X : Type 0} (old new : List X) (x : X) → (new ≡ old) ⊎ (new ≡ old ++ x ∷ []) → (y : X) → Contains old y → Contains new y
kept old new x (inl same) y is = subst (λ xs. Contains xs y) (sym same) is
kept old new x (inr more) y is = subst (λ xs. Contains xs y) (sym more) (Contains-append_left old (x ∷ []) y is)

pub last_of : {X : Type 0} (old new : List X) (x : X) → new ≡ old ++ x ∷ [] → Contains new x
last_of old new x more = subst (λ xs. Contains xs x) (sym more) (Contains-push old x)

pub is_file : (tree : Tree) (path : Text) (kind : Option FileKind) → IsFileAt tree path → IfSome (tree.kind path) (λ known. kind ≡ known) → IsFile kind
is_file tree path kind (known, is, file) same = subst IsFile (sym (subst (λ (o : Option (Option FileKind)). IfSome o (λ k. kind ≡ k)) is same)) file

pub is_below : (shelf : Shelf) (front folder name path : Text) (given : Given) → HasName shelf name → folder ≡ front ++ place_of shelf → path ≡ folder ++ name → given ≡ given_in shelf path name → IsBelow front given
is_below CronD front folder name path given signs at whole is =
    inr (inl (name, signs, tt, is ∙ ap (λ (p : Text). found_table p (place_of CronD ++ name) None) (whole ∙ ap (λ (f : Text). f ++ name) at)))
is_below Crontabs front folder name path given signs at whole is =
    inr (inr (name, signs, tt, is ∙ ap (λ (p : Text). found_table p (place_of Crontabs ++ name) (Some name)) (whole ∙ ap (λ (f : Text). f ++ name) at)))

-- a name that is known to be in a folder was listed
pub is_listed : (tree : Tree) (folder name : Text) (names : List Text) → IfSome (tree.names folder) (λ known. Some names ≡ known) → IsIn tree folder name → Contains names name
is_listed tree folder name names same (known, is, at) =
    subst (λ (ns : List Text). Contains ns name) (sym (some_is names known (subst (λ (o : Option (Option (List Text))). IfSome o (λ k. Some names ≡ k)) is same))) at

pub none_listed : (tree : Tree) (folder name : Text) → IfSome (tree.names folder) (λ known. None ≡ known) → IsIn tree folder name → ⊥
none_listed tree folder name same (known, is, at) =
    let none = subst (λ (o : Option (Option (List Text))). IfSome o (λ k. None ≡ k)) is same in cc

-- nothing is no file
pub no_file : (kind : Option FileKind) → kind ≡ None → IsFile kind → ⊥
no_file kind none (inl is) = cc
no_file kind none (inr is) = cc

-- what is found in each folder, and the table of the machine, is all that cron(8) reads
pub all_found : (tree : Tree) (front : Text) (found : List Given)
    → (IsFileAt tree (front ++ codes "/etc/crontab") → Contains found (found_table (front ++ codes "/etc/crontab") (codes "/etc/crontab") None))
    → FindsAllOn tree front CronD found → FindsAllOn tree front Crontabs found
    → (given : Given) → IsReadByCron tree front given → Contains found given
all_found tree front found crontab system users given (file, inl is) =
    subst (Contains found) (sym is) (crontab (subst (λ (g : Given). IsFileAt tree g.path) is file))
all_found tree front found crontab system users given (file, inr (inl (name, signs, at, is))) =
    subst (Contains found) (sym is) (system name at signs (subst (λ (g : Given). IsFileAt tree g.path) is file))
all_found tree front found crontab system users given (file, inr (inr (name, signs, at, is))) =
    subst (Contains found) (sym is) (users name at signs (subst (λ (g : Given). IsFileAt tree g.path) is file))
