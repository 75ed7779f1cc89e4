use Rattle.std.proofs.Common.{◌≡◌, ◌≤◌, ◌<◌, ◌+◌, ◌∷◌, ◌++◌, [], ◌∙◌, ℕ, List, ap, arith, get_or, inl, inr, length, map, refl, subst, sym, take}
use Rattle.std.specs.Prelude.{◌⊎◌, All, Contains}
use Rattle.std.proofs.lemmas.List.{map_push, take_more}
use Rattle.std.proofs.lemmas.List.Elements.{All-nil, All-push, Contains-append_left, Contains-push}
use Rattle.cs_files.specs.declared.response.Status.{Status}
use Rattle.cs_files.specs.declared.response.Status.TheVariants.{Done}
use Rattle.cs_all.specs.Answer.{IsMostSevere, severity}
use Rattle.cs_all.specs.declared.told.Told.{Told}

pub none_yet : IsMostSevere [] Done
none_yet = record { one = inl refl; none_above = All-nil (λ s. severity s ≤ severity Done) }

raised : (m n : ℕ) (xs : List Status) → m ≤ n → All (λ s. severity s ≤ m) xs → All (λ s. severity s ≤ n) xs
raised m n xs le all = λ k d lt. let one = all k d lt in omega (arith, le, one)

-- one more status, which is more severe than all before it
pub risen : (xs : List Status) (m s : Status) → IsMostSevere xs m → severity m < severity s
    → IsMostSevere (xs ++ s ∷ []) s
risen xs m s is lt = record {
  one = inr (Contains-push xs s);
  none_above = All-push (λ t. severity t ≤ severity s) xs s (raised (severity m) (severity s) xs (omega (arith, lt)) is.none_above) (omega arith);
}

kept_one : (xs : List Status) (m s : Status) → (m ≡ Done) ⊎ Contains xs m → (m ≡ Done) ⊎ Contains (xs ++ s ∷ []) m
kept_one xs m s (inl is) = inl is
kept_one xs m s (inr is) = inr (Contains-append_left xs (s ∷ []) m is)

-- or one that isn't
pub kept : (xs : List Status) (m s : Status) → IsMostSevere xs m → severity s ≤ severity m
    → IsMostSevere (xs ++ s ∷ []) m
kept xs m s is le = record {
  one = kept_one xs m s is.one;
  none_above = All-push (λ t. severity t ≤ severity m) xs s is.none_above le;
}

-- the statuses of one path more
pub one_more : (all : List Told) (i : ℕ) (told : Told) → i < length all → told ≡ get_or all i told
    → map (λ (t : Told). t.status) (take (i + 1) all) ≡ map (λ (t : Told). t.status) (take i all) ++ told.status ∷ []
one_more all i told lt is =
    let f : Told → Status = λ t. t.status in
    ap (λ (ts : List Told). map f ts) (take_more all i told lt) ∙ (map_push f (take i all) (get_or all i told) ∙ ap (λ (t : Told). map f (take i all) ++ f t ∷ []) (sym is))
