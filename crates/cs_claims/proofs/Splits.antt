-- Whether splits are inside their range, as a test and as a fact.
use Rattle.std.proofs.Common.{◌≡◌, ℕ, Bool, true, ◌&&◌, nat_lt, refl, ◌↔◌}
use Rattle.std.proofs.lemmas.Bool.{lt-ltb, ltb-true}
use Rattle.std.specs.Prelude.{IsTrue}
use Rattle.cs_windows.specs.Tree.{Tree, leaf, split, SplitsInside}
use Rattle.cs_claims.specs.Rules.{splits_inside}
use Rattle.cs_claims.proofs.Both.{and_both, both_and, by_both}

pub inside_so : (t : Tree) (lo hi : ℕ) → splits_inside t lo hi ≡ true → SplitsInside t lo hi
inside_so (leaf entries) lo hi h = tt
inside_so (split at before after) lo hi h =
    let p = and_both (nat_lt lo at && nat_lt at hi && splits_inside before lo at) (splits_inside after at hi) h in
    let q = and_both (nat_lt lo at && nat_lt at hi) (splits_inside before lo at) p.0 in
    let r = and_both (nat_lt lo at) (nat_lt at hi) q.0 in
    (ltb-true lo at r.0, ltb-true at hi r.1, inside_so before lo at q.1, inside_so after at hi p.1)

so_inside : (t : Tree) (lo hi : ℕ) → SplitsInside t lo hi → splits_inside t lo hi ≡ true
so_inside (leaf entries) lo hi h = refl
so_inside (split at before after) lo hi h =
    both_and _ _ (both_and _ _ (both_and _ _ (lt-ltb lo at h.0) (lt-ltb at hi h.1)) (so_inside before lo at h.2)) (so_inside after at hi h.3)

pub same_answer : (r : Bool) (t : Tree) (lo hi : ℕ) → (IsTrue r ↔ SplitsInside t lo hi) → r ≡ splits_inside t lo hi
same_answer r t lo hi h = by_both r (splits_inside t lo hi) (λ e. so_inside t lo hi (h.0 e)) (λ e. h.1 (inside_so t lo hi e))
