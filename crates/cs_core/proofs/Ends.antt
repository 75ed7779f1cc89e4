-- Whether a run that ends is in time.
use Rattle.std.proofs.lemmas.Bool.{cases_lt, le-ltb, lt-ltb}
use Rattle.std.proofs.Common.{ℕ, ◌+◌, ◌-◌, ◌<◌, ◌≤◌, arith, ⊎_elim, ◌≡◌, Bool, true, false, cond, List, [], ◌∷◌, Option, None, Some, nat_lt, refl, sym, ap, ◌∙◌}
use Rattle.std.specs.Prelude.{find}
use Rattle.std.specs.Option.{option_map}
use Rattle.cs_history.specs.History.{same_run}
use Rattle.cs_history.specs.Plan.{Plan}
use Rattle.cs_history.specs.Step.{is_in_time}
use Rattle.cs_history.specs.declared.run.Run.{Run}
use Rattle.cs_history.specs.declared.run.Going.{Going}

-- whether a run that came in this minute, if it came, is in time
abbrev is_short : Plan → ℕ → Run → Option ℕ → Bool
is_short p t r None = true
is_short p t r (Some since) = nat_lt t (since + p.limit r.job)

abbrev since_in : Run → List Going → Option ℕ
since_in r xs = option_map (λ x. x.since) (find (λ x. same_run r x.run) xs)

by_since : (p : Plan) (t : ℕ) (r : Run) (xs : List Going) → is_in_time p t r xs ≡ is_short p t r (since_in r xs)
by_since p t r [] = refl
by_since p t r (x ∷ xs) = by (same_run r x.run) (by_since p t r xs)
  where
    by : (b : Bool) → is_in_time p t r xs ≡ is_short p t r (since_in r xs) → cond b (nat_lt t (x.since + p.limit r.job)) (is_in_time p t r xs) ≡ is_short p t r (option_map (λ (x : Going). x.since) (cond b (Some x) (find (λ x. same_run r x.run) xs)))
    by true rest = refl
    by false rest = rest

pub in_time_some : (p : Plan) (t : ℕ) (r : Run) (xs : List Going) (since : ℕ) → Some since ≡ since_in r xs → is_in_time p t r xs ≡ nat_lt t (since + p.limit r.job)
in_time_some p t r xs since found = by_since p t r xs ∙ ap (is_short p t r) (sym found)

pub in_time_none : (p : Plan) (t : ℕ) (r : Run) (xs : List Going) → None ≡ since_in r xs → is_in_time p t r xs ≡ true
in_time_none p t r xs found = by_since p t r xs ∙ ap (is_short p t r) (sym found)

pub less_either : (t since limit : ℕ) → t < since → nat_lt t (since + limit) ≡ true
less_either t since limit early = lt-ltb t (since + limit) (omega (arith, early))

pub less_over : (t since limit : ℕ) → since ≤ t → nat_lt (t - since) limit ≡ nat_lt t (since + limit)
less_over t since limit late =
    ⊎_elim (λ (h : t - since < limit). lt-ltb (t - since) limit h ∙ sym (lt-ltb t (since + limit) (omega (arith, h, late))))
    (λ (h : limit ≤ t - since). le-ltb (t - since) limit h ∙ sym (le-ltb t (since + limit) (omega (arith, h, late)))) (cases_lt (t - since) limit)
