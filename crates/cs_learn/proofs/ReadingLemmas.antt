use Rattle.std.proofs.Common.{◌≡◌, [], ◌∷◌, ℕ, List, Bor, Result, Ok, Err, map, subst, sym}
use Rattle.std.specs.Prelude.{Contains, IfErr}
use Rattle.std.proofs.lemmas.List.Elements.{Contains-append_right}
use Rattle.cs_io.specs.Files.{AreReadInTurn, IsReadAlone, Reads}
use Rattle.cs_files.proofs.TurnLemmas.{none_read}
use Rattle.cs_learn.specs.declared.reading.Unread.{Unread}

abbrev texts : List (Bor (List ℕ)) → List (List ℕ)
texts paths = map (λ (path : Bor (List ℕ)). path.now) paths

pub first_turn : (paths rest : List (Bor (List ℕ))) (p : Bor (List ℕ)) (old new : Reads) → paths ≡ p ∷ rest → IsReadAlone p.now old new → AreReadInTurn (texts paths) old new
first_turn paths rest p old new is alone = subst (λ (ps : List (Bor (List ℕ))). AreReadInTurn (texts ps) old new) (sym is) (new, alone, none_read (texts rest) new)

pub named_later : {X : Type 0} (r : Result X Unread) (paths rest : List (Bor (List ℕ))) (p : Bor (List ℕ)) → paths ≡ p ∷ rest → IfErr r (λ e. Contains (texts rest) e.path.now) → IfErr r (λ e. Contains (texts paths) e.path.now)
named_later (Ok x) paths rest p is named = tt
named_later (Err e) paths rest p is named = subst (λ (ps : List (Bor (List ℕ))). Contains (texts ps) e.path.now) (sym is) (Contains-append_right (p.now ∷ []) (texts rest) e.path.now named)
