use Rattle.std.proofs.Common.{ℕ, ◌<◌, ◌≤◌, ◌≡◌, ◌||◌, Bool, true, List, [], ◌∷◌, map, length, get_or, All, refl, sym, ap, ◌∙◌, subst}
use Rattle.std.specs.List.{list_any}
use Rattle.std.proofs.lemmas.List.Elements.{All-contains, All-head, All-map, All-tail}
use Rattle.cs_civil.specs.Calendar.{Kind}
use Rattle.cs_windows.proofs.Members.{Has, contains_has}
use Rattle.cs_theorem.specs.Accepted.{IsChain}
use Rattle.cs_theorem.specs.Faults.{chains, is_used, same_list}
use Rattle.cs_theorem.proofs.Chains.{listed_chain, tells_used}
use Rattle.cs_theorem.proofs.Elements.{has_map}
use Rattle.cs_classes.specs.Claim.{Claimed, HasClassOfEach, as_certificate, class_of}
use Rattle.cs_classes.specs.declared.classed.ClassedChain.{ClassedChain}
use Rattle.cs_classes.specs.Used.{AreClassed, HaveClasses, IsOneOf, kinds_in, classes_in, has_classes}
use Rattle.cs_classes.proofs.Searched.{any_map}

any_alike : {A : Type 0} (t u : A → Bool) (xs : List A) → All (λ x. t x ≡ u x) xs → list_any t xs ≡ list_any u xs
any_alike t u [] h = refl
any_alike t u (x ∷ xs) h = ap (λ (b : Bool). b || list_any t xs) (All-head (λ y. t y ≡ u y) x xs h) ∙ ap (λ (b : Bool). u x || b) (any_alike t u xs (All-tail (λ y. t y ≡ u y) x xs h))

alike : (c : Claimed) (s : List ℕ) (cs : List ClassedChain) → All (λ chain. classes_in chain ≡ map (class_of c) (kinds_in chain)) cs → All (λ chain. has_classes s chain ≡ same_list (map (class_of c) (kinds_in chain)) s) cs
alike c s cs h k d l = ap (λ (xs : List ℕ). same_list xs s) (h k d l)

-- whether one of the chains has these classes
pub used_is : (c : Claimed) (n : ℕ) (s : List ℕ) (cs : List ClassedChain) → AreClassed c.kinds n cs → list_any (has_classes s) cs ≡ is_used (as_certificate c) n s
used_is c n s cs h =
    any_alike (has_classes s) (λ chain. same_list (map (class_of c) (kinds_in chain)) s) cs (alike c s cs h.classes)
    ∙ (sym (any_map (λ ks. same_list (map (class_of c) ks) s) kinds_in cs) ∙ ap (list_any (λ ks. same_list (map (class_of c) ks) s)) h.all)

pub have_classes : (c : Claimed) (n : ℕ) (s : List ℕ) (cs : List ClassedChain) (kinds : List Kind) → 1 ≤ n → AreClassed c.kinds n cs → IsOneOf cs s kinds → HaveClasses c n s kinds
have_classes c n s cs kinds l h one =
    let is : Has (chains n) (kinds_in one.0) = subst (λ (kss : List (List Kind)). Has kss (kinds_in one.0)) h.all (has_map kinds_in cs one.0 (contains_has cs one.0 one.1)) in
    let r = listed_chain n (kinds_in one.0) l is in
    record {
      chain = subst IsChain one.3 r.0;
      long = sym (ap length one.3) ∙ r.1;
      classes = sym (ap (map (class_of c)) one.3) ∙ (sym (All-contains (λ chain. classes_in chain ≡ map (class_of c) (kinds_in chain)) cs one.0 h.classes one.1) ∙ one.2);
    }

pub is_in_use : (c : Claimed) (n : ℕ) (s : List ℕ) (kinds : List Kind) → 1 ≤ n → HaveClasses c n s kinds → is_used (as_certificate c) n s ≡ true
is_in_use c n s kinds l h = (tells_used (as_certificate c) n s l).1 (record { kinds = kinds; chain = h.chain; long = h.long; classes = h.classes })

pub classes_there : (c : Claimed) (n : ℕ) (s : List ℕ) (kinds : List Kind) → HasClassOfEach c → HaveClasses c n s kinds → All (λ class. class < length c.classes) s
classes_there c n s kinds there h = subst (All (λ (class : ℕ). class < length c.classes)) h.classes (All-map (λ (class : ℕ). class < length c.classes) (class_of c) kinds (λ i d lt. there (get_or kinds i d)))
