-- Reading a path piece by piece.
use Rattle.std.proofs.Common.{◌≡◌, ◌≢◌, ◌≤◌, ◌<◌, ◌+◌, ℕ, List, [], Option, Some, None, IfSome, take, ◌++◌, ◌∙◌, sym, ap, subst, append_assoc, length, arith, refl, inl, inr, option_map, replicate}
use Rattle.std.proofs.lemmas.List.{length-append, length-take-le, replicate-append-replicate}
use Rattle.std.proofs.lemmas.Slice.Eq.{bytes_eq-Decides}
use Rattle.std.proofs.lemmas.Bool.{cases_Bool}
use Rattle.std.specs.Str.{bytes_eq}
use Rattle.cs_io.specs.Files.{IsFresh, IsNextOf, IsReadAlone, IsReadOn, Reads}

-- what was read so far and what is left make up what there was, after one more read of n bytes
pub goes_on : (whole left0 left1 left2 : List ℕ → Option (List ℕ)) (path : List ℕ) (n : ℕ) (buf done : List ℕ) →
    IfSome (left0 path) (λ xs. (ys : List ℕ) × (xs ≡ done ++ ys) × (left1 path ≡ Some ys)) →
    IsNextOf path whole left1 left2 n buf → n ≢ 0 →
    IfSome (left0 path) (λ xs. (ys : List ℕ) × (xs ≡ (done ++ take n buf) ++ ys) × (left2 path ≡ Some ys))
goes_on whole left0 left1 left2 path n buf done inv next nz =
    elim (left0 path) as (λ o. IfSome o (λ xs. (ys : List ℕ) × (xs ≡ done ++ ys) × (left1 path ≡ Some ys))
    → IfSome o (λ xs. (ys : List ℕ) × (xs ≡ (done ++ take n buf) ++ ys) × (left2 path ≡ Some ys))) [
      | None ↦ λ h. h
      | Some xs ↦ λ (ys, e, l). let b = subst (λ o. IfSome o (λ zs. (vs : List ℕ) × (zs ≡ take n buf ++ vs) × (n ≢ 0 → left2 path ≡ Some vs))) l next.bytes in
          (b.0, e ∙ ap (λ t. done ++ t) b.1 ∙ sym (append_assoc done (take n buf) b.0), b.2 nz)
    ] inv

-- each read gives a byte at least
pub one_more : (reads n : ℕ) (buf done : List ℕ) → reads ≤ length done → n ≤ length buf → n ≢ 0 → reads + 1 ≤ length (done ++ take n buf)
one_more reads n buf done h b nz =
    let l = length-append done (take n buf) in
    let t = length-take-le n buf b in
    omega (arith, l, t)

-- at the end of a path it is to be read from its front again
at_end : (whole left0 left1 left2 : List ℕ → Option (List ℕ)) (path : List ℕ) (buf done : List ℕ) →
    IfSome (left0 path) (λ xs. (ys : List ℕ) × (xs ≡ done ++ ys) × (left1 path ≡ Some ys)) →
    IsNextOf path whole left1 left2 0 buf → 0 < length buf → (w : List ℕ) → left0 path ≡ Some w → left2 path ≡ whole path
at_end whole left0 left1 left2 path buf done inv next some w e =
    let a = subst (λ o. IfSome o (λ xs. (ys : List ℕ) × (xs ≡ done ++ ys) × (left1 path ≡ Some ys))) e inv in
    let b = subst (λ o. IfSome o (λ xs. (xs ≡ []) × (left2 path ≡ whole path))) a.2 (next.end refl some) in
    b.1

-- what is known of a path stays, where nothing is read of it, and where it was read to its end
kept : (w l m : Option (List ℕ)) → m ≡ l → IfSome w (λ text. l ≡ Some text) → IfSome w (λ text. m ≡ Some text)
kept None l m e h = h
kept (Some text) l m e h = e ∙ h

again : (w l m : Option (List ℕ)) → ((text : List ℕ) → l ≡ Some text → m ≡ w) → IfSome w (λ text. l ≡ Some text) → IfSome w (λ text. m ≡ Some text)
again None l m e h = h
again (Some text) l m e h = e text h

-- after a read at the end of a path, all are at their fronts that were before
pub still_fresh : (whole left0 left1 left2 : List ℕ → Option (List ℕ)) (path : List ℕ) (buf done : List ℕ) →
    ((q : List ℕ) → q ≢ path → left1 q ≡ left0 q) →
    IfSome (left0 path) (λ xs. (ys : List ℕ) × (xs ≡ done ++ ys) × (left1 path ≡ Some ys)) →
    IsNextOf path whole left1 left2 0 buf → 0 < length buf → IsFresh whole left0 → IsFresh whole left2
still_fresh whole left0 left1 left2 path buf done others inv next some fresh q =
    let same = bytes_eq-Decides q path in
    elim (cases_Bool (bytes_eq q path)) [
      | inl is ↦ let e : q ≡ path = same.0 is in
          rw e (again (whole path) (left0 path) (left2 path) (at_end whole left0 left1 left2 path buf done inv next some) (fresh path))
      | inr other ↦ let e : q ≢ path = λ h. absurd (let yes' = same.1 h in cc) in
          kept (whole q) (left0 q) (left2 q) (next.others q e ∙ others q e) (fresh q)
    ]

-- one read more of the same path
pub read_again : (path : List ℕ) (n : ℕ) (r0 r1 r2 : Reads) → IsReadOn path n r0 r1 → IsReadOn path 1 r1 r2 → IsReadOn path (n + 1) r0 r2
read_again path n r0 r1 r2 before last = last ∙ ap (option_map (λ ps. replicate 1 path ++ ps)) before ∙ joined r0
  where
    sum : replicate 1 path ++ replicate n path ≡ replicate (n + 1) path
    sum = let e : 1 + n ≡ n + 1 = omega arith in replicate-append-replicate 1 n path ∙ ap (λ m. replicate m path) e

    joined : (r : Reads) → option_map (λ ps. replicate 1 path ++ ps) (option_map (λ ps. replicate n path ++ ps) r) ≡ option_map (λ ps. replicate (n + 1) path ++ ps) r
    joined None = refl
    joined (Some xs) = ap Some (sym (append_assoc (replicate 1 path) (replicate n path) xs) ∙ ap (λ t. t ++ xs) sum)

pub read_alone : (path : List ℕ) (n : ℕ) (r0 r1 r2 : Reads) → IsReadOn path n r0 r1 → IsReadOn path 1 r1 r2 → IsReadAlone path r0 r2
read_alone path n r0 r1 r2 before last = (n + 1, read_again path n r0 r1 r2 before last)

-- before the first read
pub not_read : (path : List ℕ) (r : Reads) → IsReadOn path 0 r r
not_read path None = refl
not_read path (Some xs) = refl

-- as many bytes as reads were there at least
pub is_long : (most reads : ℕ) (done : List ℕ) (o m : Option (List ℕ)) → most ≤ reads → reads ≤ length done → IfSome o (λ xs. (ys : List ℕ) × (xs ≡ done ++ ys) × (m ≡ Some ys)) → IfSome o (λ text. most ≤ length text)
is_long most reads done None m all count parts = parts
is_long most reads done (Some xs) m all count (ys, e, l) =
    let long = length-append done ys in
    rw e (omega (arith, long, all, count))
