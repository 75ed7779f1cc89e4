-- Readings one after the other: where they go on, and where they fail.
use Rattle.std.proofs.Common.{◌≡◌, ◌≢◌, ℕ, ◌⊎◌, Bool, true, false, cond, List, [], Result, Ok, Err, refl, ap, ◌∙◌, inl, inr}
use Rattle.std.proofs.lemmas.Bool.{eqb-true}
use Rattle.std.proofs.lemmas.List.{nil_from_length}
use Rattle.cs_table.specs.declared.fault.Wrong.{Wrong}
use Rattle.cs_table.specs.Text.{is_nothing}
use Rattle.cs_table.specs.Wrong.{◌>>=◌, farther, marked, moved}

-- a sequence that doesn't fail has two steps that don't; one that fails has one that does
pub bind_ok : {A B F : Type 0} (r : Result A F) (f : A → Result B F) (y : B) → (r >>= f) ≡ Ok y → (x : A) × (r ≡ Ok x) × (f x ≡ Ok y)
bind_ok (Ok x) f y e = (x, refl, e)
bind_ok (Err d) f y e = absurd cc

pub bind_err : {A B F : Type 0} (r : Result A F) (f : A → Result B F) (d : F) → (r >>= f) ≡ Err d → (r ≡ Err d) ⊎ ((x : A) × (r ≡ Ok x) × (f x ≡ Err d))
bind_err (Ok x) f d e = inr (x, refl, e)
bind_err (Err g) f d e = inl cc

pub guard_ok : {A F : Type 0} (b : Bool) (d : F) (r : Result A F) (y : A) → cond b (Err d) r ≡ Ok y → (b ≡ false) × (r ≡ Ok y)
guard_ok true d r y e = absurd cc
guard_ok false d r y e = (refl, e)

pub guard_err : {A F : Type 0} (t : Bool) (g : F) (r : Result A F) (d : F) → cond t (Err g) r ≡ Err d → ((t ≡ true) × (g ≡ d)) ⊎ ((t ≡ false) × (r ≡ Err d))
guard_err true g r d e = inl (refl, cc)
guard_err false g r d e = inr (refl, e)

pub ok_is : {A F : Type 0} (x y : A) → ◌≡◌ {A = Result A F} (Ok x) (Ok y) → x ≡ y
ok_is x y e = cc

pub err_is : {A F : Type 0} (g d : F) → ◌≡◌ {A = Result A F} (Err g) (Err d) → g ≡ d
err_is g d e = cc

pub ok_no_err : {A F : Type 0} (x : A) (d : F) → ◌≡◌ {A = Result A F} (Ok x) (Err d) → ⊥
ok_no_err x d e = cc

-- the same for a fault that was given its place
module _ {A F : Type 0} where
  pub marked_ok : (left size : ℕ) (r : Result A F) (x : A) → marked left size r ≡ Ok x → r ≡ Ok x
  marked_ok left size (Ok y) x e = cc
  marked_ok left size (Err f) x e = absurd cc

  pub marked_err : (left size : ℕ) (r : Result A F) (wrong : Wrong F) → marked left size r ≡ Err wrong → (r ≡ Err wrong.fault) × (wrong.left ≡ left) × (wrong.length ≡ size)
  marked_err left size (Ok y) wrong e = absurd cc
  marked_err left size (Err f) wrong e = let same : (record { fault = f; left = left; length = size }) ≡ wrong = err_is {A = A} (record { fault = f; left = left; length = size }) wrong e in rw (← same) (refl, refl, refl)

  pub moved_ok : (more : ℕ) (r : Result A (Wrong F)) (x : A) → moved more r ≡ Ok x → r ≡ Ok x
  moved_ok more (Ok y) x e = cc
  moved_ok more (Err f) x e = absurd cc

  pub moved_err : (more : ℕ) (r : Result A (Wrong F)) (wrong : Wrong F) → moved more r ≡ Err wrong → (inner : Wrong F) × (r ≡ Err inner) × (wrong ≡ farther more inner)
  moved_err more (Ok y) wrong e = absurd cc
  moved_err more (Err inner) wrong e = (inner, refl, let same : farther more inner ≡ wrong = err_is {A = A} (farther more inner) wrong e in rw (← same) refl)

pub empty_is : (text : List ℕ) → is_nothing text ≡ true → text ≡ []
empty_is text e = nil_from_length text (eqb-true _ 0 e)

pub same_wrong : {F : Type 0} (a b : Wrong F) → a.fault ≡ b.fault → a.left ≡ b.left → a.length ≡ b.length → a ≡ b
same_wrong a b fault left size =
    ap (λ (f : _). record { fault = f; left = a.left; length = a.length }) fault
    ∙ ap (λ (k : ℕ). record { fault = b.fault; left = k; length = a.length }) left ∙ ap (λ (k : ℕ). record { fault = b.fault; left = b.left; length = k }) size
