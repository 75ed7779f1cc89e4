use Rattle.std.proofs.Common.{◌≡◌, ℕ, ◌≤◌, ◌+◌, ◌-◌, Bool, true, false, ◌&&◌, List, [], ◌∷◌, Some, if◌then◌else◌, cond, nat_eq, nat_lt, nat_le, arith}
use Rattle.std.specs.Prelude.{unwrap_or}
use Rattle.std.specs.List.{list_all}
use Rattle.std.proofs.lemmas.Bool.{and_parts, leb-true}
use Rattle.cs_daytree.specs.Rising.{each_next}
use Rattle.cs_plan.specs.Plan.{Declared, as_plan}
use Rattle.cs_claims.specs.Content.{Content}
use Rattle.cs_claims.specs.Kept.{Keeps}
use Rattle.cs_claims.specs.Rules.{most_reach}
use Rattle.cs_windows.specs.Reach.{reach_of}
use Rattle.cs_windows.specs.declared.reach.JobReach.{JobReach}
use Rattle.cs_history.specs.Plan.{IsPlan, is_cron, waits}
use Rattle.cs_check.specs.Case.{IsFit, reach_for}

abbrev is_reach : ℕ → JobReach → Bool
is_reach most r = nat_lt r.job 320 && nat_lt 0 r.reach && nat_le r.reach most

within_most : (most : ℕ) (rs : List JobReach) (j l : ℕ) → most ≤ 4320 → l ≤ 4320 → list_all (is_reach most) rs ≡ true → unwrap_or (reach_of rs j) l ≤ 4320
within_most most [] j l le short e = short
within_most most (r ∷ rs) j l le short e =
    let h = and_parts (is_reach most r) (list_all (is_reach most) rs) e in
    let k = leb-true r.reach most (and_parts (nat_lt r.job 320 && nat_lt 0 r.reach) (nat_le r.reach most) h.0).1 in
    step (nat_eq r.job j) (omega (arith, k, le)) (within_most most rs j l le short h.1)
  where
    step : (b : Bool) → r.reach ≤ 4320 → unwrap_or (reach_of rs j) l ≤ 4320 → unwrap_or (cond b (Some r.reach) (reach_of rs j)) l ≤ 4320
    step true x y = x
    step false x y = y

most_is : (v : ℕ) → most_reach v ≤ 4320
most_is v = step (nat_eq v 1)
  where
    step : (b : Bool) → (if b then 1440 else 4320) ≤ 4320
    step true = omega arith
    step false = omega arith

reach_step : (b c : Bool) (x y z : ℕ) → b ≡ true → x ≤ 4320 → y ≤ 4320 → (if b then (if c then x else y) else z) ≤ 4320
reach_step true true x y z e s t = s
reach_step true false x y z e s t = t
reach_step false c x y z e s t = absurd (cc)

pub fits : (d : Declared) (c : Content) → IsPlan (as_plan d) → ((j : ℕ) → (as_plan d).limit j ≤ 4320) → Keeps c → IsFit d c.reach
fits d c plan limits keeps = record {
  plan = plan;
  modest = record {
    cron = λ j cron. reach_step (is_cron (as_plan d) j) (waits (as_plan d) j) (reach_for d c j) ((as_plan d).limit j) (((as_plan d).to - 1 + (as_plan d).limit j) - (as_plan d).from) cron (listed j) (limits j);
    catch = λ j _. limits j;
  };
}
  where
    listed : (j : ℕ) → reach_for d c j ≤ 4320
    listed j = within_most (most_reach c.version) c.reach j ((as_plan d).limit j) (most_is c.version) (limits j) (and_parts (each_next (λ a b. nat_lt a.job b.job) c.reach) (list_all (is_reach (most_reach c.version)) c.reach) keeps.reach).1
