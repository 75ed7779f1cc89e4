-- Parts that aren't bad make up what they are parts of.
use Rattle.std.proofs.Common.{◌≡◌, ◌⊎◌, inl, inr, ℕ, zero, suc, ◌<◌, List, [], ◌∷◌, Bool, true, false, not, ◌||◌, ◌&&◌, ◌==◌, length, get_or, map, Some, None, Option, is_some, refl, sym, ◌∙◌, subst, arith, ℤ, pos, negsuc, unsigned_abs, bytes_eq}
use Rattle.std.specs.Prelude.{All, int_le}
use Rattle.std.specs.List.{list_any}
use Rattle.std.proofs.lemmas.List.{length-map}
use Rattle.std.proofs.lemmas.List.Elements.{All-weaker}
use Rattle.cs_decl.specs.declared.entries.PartEntry.{PartEntry}
use Rattle.cs_decl.specs.declared.entries.Entries.{Entries}
use Rattle.cs_plan.specs.declared.limits.TheConstants.{MAX_MINUTES}
use Rattle.cs_decl.specs.Faults.{are_bad, first_twice, has_bad_parts, is_bad_max, is_within, minutes_of}
use Rattle.cs_decl.specs.Meaning.{IsValid}
use Rattle.cs_decl.specs.Parts.{AreItsParts, HaveOwnNames, IsPossiblePart}
use Rattle.cs_decl.proofs.Firsts.{other_row}
use Rattle.cs_decl.proofs.Minutes.{none_of}
use Rattle.cs_decl.proofs.Validity.{facts, within_abs, yes}
use Rattle.cs_decl.proofs.Wholes.{none_again}

or_false : (a b : Bool) → (a || b) ≡ false → (a ≡ false) × (b ≡ false)
or_false true b e = absurd cc
or_false false b e = (refl, e)

no_more : {A : Type 0} (o : Option A) → is_some o ≡ false → o ≡ None
no_more None e = refl
no_more (Some x) e = absurd cc

in_range : (max : ℤ) → is_within 1 MAX_MINUTES max ≡ true → max ≡ pos (unsigned_abs max)
in_range (pos n) e = refl
in_range (negsuc n) e = absurd cc

named_at : (parts : List PartEntry) (i : ℕ) (d : PartEntry) → (get_or parts i d).name ≡ get_or (map (λ p. p.name) parts) i d.name
named_at [] i d = refl
named_at (p ∷ parts) zero d = refl
named_at (p ∷ parts) (suc i) d = named_at parts i d

own_names : (parts : List PartEntry) → first_twice bytes_eq (map (λ p. p.name) parts) ≡ None → HaveOwnNames parts
own_names parts e = λ i j d low high same.
    (none_again [] 0 (map (λ p. p.name) parts) e).1 i j d.name low (subst (λ n. j < n) (sym (length-map parts (λ p. p.name))) high)
    (sym (named_at parts i d) ∙ same ∙ named_at parts j d)

possible : (parts : List PartEntry) → list_any (λ p. is_bad_max p.max) parts ≡ false → All IsPossiblePart parts
possible parts none = λ i d within.
    let ok = yes (is_within 1 MAX_MINUTES (get_or parts i d).max) (none_of (λ p. is_bad_max p.max) parts i d within none) in
    let abs = within_abs 1 MAX_MINUTES (get_or parts i d).max ok in
    (abs.0, abs.1, in_range (get_or parts i d).max ok)

made_up : (max : ℤ) (parts : List PartEntry) → are_bad max parts ≡ false → (int_le (pos (minutes_of parts)) max ≡ true) × All IsPossiblePart parts × HaveOwnNames parts
made_up max parts bad =
    let a = or_false (is_some (first_twice bytes_eq (map (λ p. p.name) parts)) || list_any (λ p. is_bad_max p.max) parts) _ bad in
    let b = or_false (is_some (first_twice bytes_eq (map (λ p. p.name) parts))) _ a.0 in
    (yes _ a.1, possible parts b.1, own_names parts (no_more _ b.0))

its_parts : (max : ℤ) (parts : List PartEntry) → (not (length parts == 0) && are_bad max parts) ≡ false → (parts ≡ []) ⊎ ((int_le (pos (minutes_of parts)) max ≡ true) × All IsPossiblePart parts × HaveOwnNames parts)
its_parts max [] bad = inl refl
its_parts max (p ∷ parts) bad = inr (made_up max (p ∷ parts) (rw (other_row (suc (length parts)) 0 (omega arith)) at bad))

pub made_up_of_parts : (d : Entries) → IsValid d → All AreItsParts d.cron
made_up_of_parts d v = All-weaker (λ e. has_bad_parts e ≡ false) AreItsParts (λ e h. its_parts e.max e.parts h) d.cron (facts d v).parts
