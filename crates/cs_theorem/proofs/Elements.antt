use Rattle.std.proofs.Common.{◌≡◌, Bool, true, false, ◌||◌, List, [], ◌∷◌, map, refl, sym, ap, ◌∙◌, subst, inl, inr, ◌⊎◌}
use Rattle.std.specs.List.{AllByRecursion, list_any}
use Rattle.cs_history.specs.Lists.{EachPair}
use Rattle.cs_windows.proofs.Members.{Has}

pub has_map : {X Y : Type 0} (f : X → Y) (xs : List X) (x : X) → Has xs x → Has (map f xs) (f x)
has_map f [] x h = h
has_map f (y ∷ ys) x (inl e) = inl (ap f e)
has_map f (y ∷ ys) x (inr h) = inr (has_map f ys x h)

pub map_has : {X Y : Type 0} (f : X → Y) (xs : List X) (z : Y) → Has (map f xs) z → (x : X) × Has xs x × (f x ≡ z)
map_has f [] z h = absurd h
map_has f (y ∷ ys) z (inl e) = (y, inl refl, e)
map_has f (y ∷ ys) z (inr h) = let k = map_has f ys z h in (k.0, inr k.1, k.2)

pub all_has : {X : Type 0} (P : X → Type 0) (xs : List X) (x : X) → AllByRecursion P xs → Has xs x → P x
all_has P [] x a h = absurd h
all_has P (y ∷ ys) x a (inl e) = subst P e a.0
all_has P (y ∷ ys) x a (inr h) = all_has P ys x a.1 h

pub pair_has : {X : Type 0} (R : X → X → Type 0) (xs : List X) (x y : X) → EachPair R xs → Has xs x → Has xs y → (x ≡ y → ⊥) → R x y ⊎ R y x
pair_has R [] x y a h k n = absurd h
pair_has R (z ∷ zs) x y a (inl e) (inl f) n = absurd (n (sym e ∙ f))
pair_has R (z ∷ zs) x y a (inl e) (inr k) n = inl (subst (λ (w : _). R w y) e (all_has (R z) zs y a.0 k))
pair_has R (z ∷ zs) x y a (inr h) (inl f) n = inr (subst (λ (w : _). R w x) f (all_has (R z) zs x a.0 h))
pair_has R (z ∷ zs) x y a (inr h) (inr k) n = pair_has R zs x y a.1 h k n

any_step : (a b : Bool) → (a ≡ true) ⊎ (b ≡ true) → (a || b) ≡ true
any_step true b h = refl
any_step false b (inl e) = cc
any_step false b (inr e) = e

pub any_has : {X : Type 0} (t : X → Bool) (xs : List X) (x : X) → Has xs x → t x ≡ true → list_any t xs ≡ true
any_has t [] x h e = absurd h
any_has t (y ∷ ys) x (inl i) e = any_step (t y) (list_any t ys) (inl (ap t i ∙ e))
any_has t (y ∷ ys) x (inr h) e = any_step (t y) (list_any t ys) (inr (any_has t ys x h e))
