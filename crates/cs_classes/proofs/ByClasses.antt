use Rattle.std.proofs.Common.{◌≡◌, ℕ, ◌+◌, ◌<◌, ◌++◌, ◌∷◌, [], ◌||◌, Bool, true, false, cond, List, Option, None, Some, Bor, Contains, take, length, get_or, refl, sym, ap, subst, ◌∙◌}
use Rattle.std.specs.Prelude.{nat_eq}
use Rattle.std.specs.List.{list_any}
use Rattle.std.specs.Option.{IfSome, IfNone, is_some}
use Rattle.std.specs.Cmp.Lexicographic.{pointwise}
use Rattle.std.proofs.lemmas.Bool.{both_ways}
use Rattle.std.proofs.lemmas.List.Folds.{list_any_at}
use Rattle.std.proofs.lemmas.List.Elements.{Contains-append_left, Contains-push}
use Rattle.indexmap.specs.IndexSet.{insert_key}
use Rattle.cs_theorem.specs.Faults.{same_list}
use Rattle.cs_theorem.proofs.Chains.{same_list_is, is_same_list}
use Rattle.cs_classes.specs.ByClasses.{IsFoundBy, same_classes, is_among}
use Rattle.cs_classes.specs.Used.{classes_in, has_classes}
use Rattle.cs_classes.specs.declared.classed.ClassedChain.{ClassedChain}
use Rattle.cs_classes.proofs.Searched.{one_more, slices_same}

-- lists that are the same are so either way round
pub same_either_way : (xs ys : List ℕ) → same_list xs ys ≡ same_list ys xs
same_either_way xs ys = by (same_list xs ys) (same_list ys xs) refl refl
  where
    by : (a b : Bool) → same_list xs ys ≡ a → same_list ys xs ≡ b → same_list xs ys ≡ same_list ys xs
    by true b e f = e ∙ sym (is_same_list ys xs (sym (same_list_is xs ys e)))
    by false true e f = is_same_list xs ys (sym (same_list_is ys xs f)) ∙ sym f
    by false false e f = e ∙ sym f

any_push : {X : Type 0} (p : X → Bool) (xs : List X) (y : X) → list_any p (xs ++ y ∷ []) ≡ (list_any p xs || p y)
any_push p [] y = or_false (p y)
  where
    or_false : (b : Bool) → (b || false) ≡ b
    or_false true = refl
    or_false false = refl
any_push p (x ∷ xs) y = ap (λ (b : Bool). p x || b) (any_push p xs y) ∙ or_assoc (p x) (list_any p xs) (p y)
  where
    or_assoc : (a b c : Bool) → (a || (b || c)) ≡ ((a || b) || c)
    or_assoc true b c = refl
    or_assoc false b c = refl

none_more : {X : Type 0} (p : X → Bool) (xs : List X) (y : X) → list_any p xs ≡ false → p y ≡ false → list_any p (xs ++ y ∷ []) ≡ false
none_more p xs y e f = any_push p xs y ∙ ap (λ (b : Bool). b || p y) e ∙ f

passes : {X : Type 0} (p : X → Bool) (xs : List X) (x : X) → Contains xs x → p x ≡ true → list_any p xs ≡ true
passes p xs x there e = list_any_at p xs there.0 x there.1 (ap p there.2 ∙ e)

-- a chain more that hasn't the classes
pub found_still : (listed : List ClassedChain) (x : ClassedChain) (classes : List ℕ) (found : Option (Bor ClassedChain)) → has_classes classes x ≡ false → IsFoundBy listed classes found → IsFoundBy (listed ++ x ∷ []) classes found
found_still listed x classes None other f = none_more (has_classes classes) listed x f other
found_still listed x classes (Some chain) other f = (Contains-append_left listed (x ∷ []) chain.now f.0, f.1)

-- a chain more whose classes another has
pub found_before : (listed : List ClassedChain) (x : ClassedChain) (classes : List ℕ) (found : Option (Bor ClassedChain)) (first : ClassedChain) → Contains listed first → classes_in first ≡ classes_in x
    → IsFoundBy listed classes found → IsFoundBy (listed ++ x ∷ []) classes found
found_before listed x classes found first there same f = by (has_classes classes x) found refl f
  where
    by : (b : Bool) (o : Option (Bor ClassedChain)) → has_classes classes x ≡ b → IsFoundBy listed classes o → IsFoundBy (listed ++ x ∷ []) classes o
    by b (Some chain) e g = (Contains-append_left listed (x ∷ []) chain.now g.0, g.1)
    by false None e g = none_more (has_classes classes) listed x g e
    by true None e g = absurd (both_ways (list_any (has_classes classes) listed) g (passes (has_classes classes) listed first there (ap (λ (cs : List ℕ). same_list cs classes) same ∙ e)))

-- a chain more, which its classes lead to from now on
pub found_now : (listed : List ClassedChain) (x : Bor ClassedChain) (key classes : Bor (List ℕ)) (before now : Option (Bor ClassedChain)) → key.now ≡ classes_in x.now → now ≡ cond (same_classes key classes) (Some x) before
    → IsFoundBy listed classes.now before → IsFoundBy (listed ++ x.now ∷ []) classes.now now
found_now listed x key classes before now named is f = by (same_classes key classes) refl
  where
    by : (b : Bool) → same_classes key classes ≡ b → IsFoundBy (listed ++ x.now ∷ []) classes.now now
    by true e = subst (IsFoundBy (listed ++ x.now ∷ []) classes.now) (sym (is ∙ ap (λ (b : Bool). cond b (Some x) before) e))
        (Contains-push listed x.now, sym named ∙ same_list_is key.now classes.now (sym (slices_same key.now classes.now) ∙ e))
    by false e = subst (IsFoundBy (listed ++ x.now ∷ []) classes.now) (sym (is ∙ ap (λ (b : Bool). cond b (Some x) before) e))
        (found_still listed x.now classes.now before (ap (λ (cs : List ℕ). same_list cs classes.now) (sym named) ∙ sym (slices_same key.now classes.now) ∙ e) f)

among_insert : (classes : List ℕ) (lists : List (Bor (List ℕ))) (list : Bor (List ℕ)) → is_among (insert_key same_classes lists list) classes ≡ (is_among lists classes || pointwise nat_eq classes list.now)
among_insert classes lists list = by (list_any (same_classes list) lists) refl
  where
    or_false : (b : Bool) → b ≡ (b || false)
    or_false true = refl
    or_false false = refl

    here : (b : Bool) → pointwise nat_eq classes list.now ≡ b → list_any (same_classes list) lists ≡ true → is_among lists classes ≡ (is_among lists classes || b)
    here false other found = or_false (is_among lists classes)
    here true same found =
        let is : is_among lists classes ≡ true = ap (is_among lists) (same_list_is classes list.now (sym (slices_same classes list.now) ∙ same)) ∙ found in
        is ∙ sym (ap (λ (b : Bool). b || true) is)

    by : (b : Bool) → list_any (same_classes list) lists ≡ b → is_among (cond b lists (lists ++ list ∷ [])) classes ≡ (is_among lists classes || pointwise nat_eq classes list.now)
    by true found = here (pointwise nat_eq classes list.now) refl found
    by false missing = any_push (λ l. pointwise nat_eq classes l.now) lists list

-- the classes are among the lists where a list has them, with one list more
pub among_more : {X : Type 0} (of : X → List ℕ) (classes : List ℕ) (lists : List (Bor (List ℕ))) (list : Bor (List ℕ)) (xs : List X) (i : ℕ) (x : X) → i < length xs → x ≡ get_or xs i x → list.now ≡ of x
    → is_among lists classes ≡ list_any (λ y. same_list (of y) classes) (take i xs)
    → is_among (insert_key same_classes lists list) classes ≡ list_any (λ y. same_list (of y) classes) (take (i + 1) xs)
among_more of classes lists list xs i x within is named h =
    among_insert classes lists list ∙ ap (λ (b : Bool). b || pointwise nat_eq classes list.now) h
    ∙ ap (λ (b : Bool). list_any (λ y. same_list (of y) classes) (take i xs) || b) (slices_same classes list.now ∙ same_either_way classes list.now ∙ ap (λ (cs : List ℕ). same_list cs classes) named)
    ∙ sym (any_push (λ y. same_list (of y) classes) (take i xs) x) ∙ ap (list_any (λ y. same_list (of y) classes)) (one_more xs i x within is)

pub found_some : (listed : List ClassedChain) (classes : List ℕ) (found : Option (Bor ClassedChain)) → IsFoundBy listed classes found → IfSome found (λ chain. Contains listed chain.now × (classes_in chain.now ≡ classes))
found_some listed classes None f = tt
found_some listed classes (Some chain) f = f

pub found_none : (listed : List ClassedChain) (classes : List ℕ) (found : Option (Bor ClassedChain)) → IsFoundBy listed classes found → IfNone found (list_any (has_classes classes) listed ≡ false)
found_none listed classes None f = f
found_none listed classes (Some chain) f = tt

-- a chain more whose classes lead to one already
pub found_as_before : (listed : List ClassedChain) (x : ClassedChain) (key classes : List ℕ) (first found : Option (Bor ClassedChain)) → IfSome first (λ chain. Contains listed chain.now × (classes_in chain.now ≡ key)) → key ≡ classes_in x → is_some first ≡ true
    → IsFoundBy listed classes found → IsFoundBy (listed ++ x ∷ []) classes found
found_as_before listed x key classes None found has named there f = absurd (both_ways false refl there)
found_as_before listed x key classes (Some chain) found has named there f = found_before listed x classes found chain.now has.0 (has.1 ∙ named) f
