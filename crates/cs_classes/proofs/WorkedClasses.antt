use Rattle.std.proofs.Common.{◌≡◌, ◌==◌, ℕ, zero, suc, Bool, true, false, List, [], ◌∷◌, Ok, Err, Option, None, Some, Result, Vec, Global, length, map, refl, sym, ap, arith, subst, ◌∙◌}
use Rattle.std.specs.Prelude.{find, Contains, IfOk, MatchResult}
use Rattle.std.specs.List.{AllZip, range_with_len}
use Rattle.std.specs.declared.alloc.AllocError.{AllocError}
use Rattle.std.proofs.lemmas.List.{length-append, length-map}
use Rattle.std.proofs.lemmas.Slice.Zip.{AllZip-map}
use Rattle.cs_theorem.proofs.Below.{below_range}
use Rattle.cs_civil.specs.Calendar.{Kind}
use Rattle.cs_civil.specs.Order.{all_kinds}
use Rattle.cs_claims.specs.Certificate.{class_of}
use Rattle.cs_claims.specs.Content.{Content}
use Rattle.cs_plan.specs.Plan.{Declared}
use Rattle.cs_classes.specs.StandsFor.{bare, claimed, first_kind, worked_of}
use Rattle.cs_history.specs.Lists.{below}
use Rattle.cs_classes.specs.WorkedOut.{IsWorkedOut, classed_kind, classes_by, first_classed, judged}
use Rattle.cs_classes.specs.declared.working_out.WorkedOut.{WorkedOut}
use Rattle.cs_classes.proofs.Collected.{of_answers}

-- the first of these kinds that has the class, by their classes
first_of_these : (c : Content) (class : ℕ) (kinds : List Kind) → first_classed (map (classed_kind c) kinds) class ≡ find (λ kind. class_of c kind == class) kinds
first_of_these c class [] = refl
first_of_these c class (kind ∷ kinds) = by (class_of c kind == class) refl (first_of_these c class kinds)
  where
    by : (b : Bool) → (class_of c kind == class) ≡ b → first_classed (map (classed_kind c) kinds) class ≡ find (λ k. class_of c k == class) kinds
        → first_classed (map (classed_kind c) (kind ∷ kinds)) class ≡ find (λ k. class_of c k == class) (kind ∷ kinds)
    by true e rest = rw e refl
    by false e rest = rw e rest

pub first_of_all : (c : Content) (class : ℕ) → first_classed (map (classed_kind c) all_kinds) class ≡ first_kind c class
first_of_all c class = first_of_these c class all_kinds

pub all_worked : {X : Type 0} (f : ℕ → X) (n : ℕ) (numbers : List ℕ) (answers : List (Result X AllocError)) (r : Result (Vec X Global) AllocError) → numbers ≡ range_with_len 0 n
    → AllZip (λ number (answer : Result X AllocError). IfOk answer (λ x. x ≡ f number)) numbers answers
    → MatchResult r (λ v. (ys : List X) × (answers ≡ map Ok ys) × (v.items ≡ ys)) (λ e. Contains answers (Err e))
    → IfOk r (λ worked. worked.items ≡ map f (below n))
all_worked f n numbers answers (Err e) all zip h = tt
all_worked {X} f n numbers answers (Ok v) all zip h =
    let P : ℕ → X → Type 0 = λ number x. x ≡ f number in
    let Q : List ℕ → List (Result X AllocError) → Type 0 = λ ns rs. AllZip (λ number (answer : Result X AllocError). IfOk answer (P number)) ns rs in
    let ys = h.0 in
    let zip = of_answers P (range_with_len 0 n) ys (subst (Q (range_with_len 0 n)) h.1 (subst (λ (ns : List ℕ). Q ns answers) all zip)) in
    h.2 ∙ AllZip-map f (range_with_len 0 n) ys zip ∙ ap (map f) (sym (below_range n))

-- what is judged has as many classes as the certificate
pub as_many : (d : Declared) (c : Content) (w : Option WorkedOut) → IsWorkedOut d c w → length (classes_by c w) ≡ length c.classes
as_many d c None h = refl
as_many d c (Some w) h = ap length h.1.classes ∙ (length-map (below (length c.classes)) (worked_of d c) ∙ below_long (length c.classes))
  where
    below_long : (n : ℕ) → length (below n) ≡ n
    below_long zero = refl
    below_long (suc n) = length-append (below n) (n ∷ []) ∙ (let e = below_long n in omega (arith, e))

-- and is what the certificate stands for
pub judged_is : (d : Declared) (c : Content) (w : Option WorkedOut) → IsWorkedOut d c w → judged c w ≡ claimed d c
judged_is d c None h = rw h refl
judged_is d c (Some w) h = rw h.0 (λ i. record { classes = h.1.classes i; kinds = c.kinds; stretches = map bare (h.1.stretches i); reach = c.reach })
