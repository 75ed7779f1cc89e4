-- Certificates of version 1, for plans without a run of more than a day.
use Rattle.std.proofs.Common.{ℕ, zero, suc, ◌+◌, ◌-◌, ◌*◌, ◌<◌, ◌≤◌, ◌≡◌, ◌≢◌, ◌↔◌, ◌==◌, ◌&&◌, Bool, true, false, cond, if◌then◌else◌, nat_lt, nat_le, nat_eq, List, [], ◌∷◌, length, get_or, Option, Some, None, Result, Ok, Err, refl, sym, ap, subst, arith}
use Rattle.std.specs.Prelude.{All, unwrap_or}
use Rattle.std.specs.List.{list_all}
use Rattle.std.proofs.lemmas.Bool.{and_parts, eqb-true, leb-true, ne_eqb}
use Rattle.std.proofs.lemmas.List.Elements.{All-head, All-tail}
use Rattle.serde_json.specs.Data.{Data}
use Rattle.cs_civil.specs.Calendar.{Kind}
use Rattle.cs_history.specs.Plan.{IsPlan, Plan, is_cron, waits}
use Rattle.cs_history.specs.Calm.{reach}
use Rattle.cs_plan.specs.Job.{DeclaredJob}
use Rattle.cs_plan.specs.Plan.{Declared, IsWhole, as_plan, no_job}
use Rattle.cs_plan.proofs.Plans.{resolved}
use Rattle.cs_windows.specs.Reach.{reach_of}
use Rattle.cs_windows.specs.declared.reach.JobReach.{JobReach}
use Rattle.cs_claims.specs.Content.{Content}
use Rattle.cs_cert.specs.Denoted.{certificate_by, content_in, json_in, ◌then◌}
use Rattle.cs_claims.specs.Rules.{judged, or_fault, most_reach, fault_of as certificate_fault, reach_fits}
use Rattle.cs_claims.specs.declared.fault.CertFault.{CertFault}
use Rattle.cs_claims.specs.declared.fault.CertFault.TheVariants.{TooLong}
use Rattle.cs_claims.proofs.Keeping.{keeps}
use Rattle.cs_theorem.specs.Accepted.{EndWithin, IsAccepted, IsLength, IsModest}
use Rattle.cs_theorem.specs.Faults.{first_fault, stretch_length}
use Rattle.cs_theorem.proofs.Lengths.{length_is}
use Rattle.cs_theorem.proofs.Points.{says_all}
use Rattle.cs_classes.specs.Claim.{Claimed, as_certificate}
use Rattle.cs_classes.specs.Planned.{due_on}
use Rattle.cs_classes.specs.StandsFor.{as_listed, claimed}
use Rattle.cs_check.specs.Case.{claim_fault, fault_of, length_for, reach_for}
use Rattle.cs_check.specs.Checked.{IsLengthFor}

-- ---- stretches of two days

short_cron : (b w : Bool) (x y z : ℕ) → b ≡ true → x ≤ 1440 → y ≤ 1440 → (if b then (if w then x else y) else z) ≤ 1440
short_cron true true x y z e s t = s
short_cron true false x y z e s t = t
short_cron false w x y z e s t = absurd (cc)

module _ (p : Plan) (plan : IsPlan p) (on : ℕ → Kind → ℕ → Bool) (c : ℕ → ℕ) (limits : (j : ℕ) → p.limit j ≤ 1440) (reaches : (j : ℕ) → c j ≤ 1440) where
  of_cron : (j : ℕ) → is_cron p j ≡ true → reach p c j ≤ 1440
  of_cron j e = short_cron (is_cron p j) (waits p j) (c j) (p.limit j) ((p.to - 1 + p.limit j) - p.from) e (reaches j) (limits j)

  modest : IsModest p c
  modest = record {
    cron = λ j e. let l = of_cron j e in omega (arith, l);
    catch = λ j e. let l = limits j in omega (arith, l);
  }

  ends_step : (j m : ℕ) (k : Kind) → m < 1440 → (b : Bool) → is_cron p j ≡ b → (if b then on j k m else (m == p.from)) ≡ true → (b ≡ true → reach p c j ≤ 1440) → (b ≡ false → reach p c j ≡ (p.to - 1 + p.limit j) - p.from) → m + reach p c j ≤ 1440 * 2
  ends_step j m k lt true e h short long = omega (arith, short refl, lt)
  ends_step j m k lt false e h short long =
      let f : m ≡ p.from = eqb-true m p.from h in
      let l = limits j in
      omega (arith, f, l, long refl, plan.hours.0, plan.hours.1)

  catch_reach : (j : ℕ) (b : Bool) (x : ℕ) → b ≡ false → (if b then x else ((p.to - 1 + p.limit j) - p.from)) ≡ (p.to - 1 + p.limit j) - p.from
  catch_reach j true x e = absurd (cc)
  catch_reach j false x e = refl

  ends : EndWithin p on c 2
  ends j m k known lt is b = ends_step j m k lt (is_cron p j) refl b (of_cron j) (catch_reach j (is_cron p j) (if waits p j then c j else p.limit j))

  two_days : stretch_length p on c ≡ 2
  two_days = let is = length_is p plan on c modest in let l = is.least 2 (omega arith) ends in omega (arith, l, is.range.0)

  two_long : IsLength p on c 2
  two_long = subst (IsLength p on c) two_days (length_is p plan on c modest)

-- ---- what a text of version 1 says

abbrev is_reach : ℕ → JobReach → Bool
is_reach most r = nat_lt r.job 320 && nat_lt 0 r.reach && nat_le r.reach most

within_most : (most : ℕ) (rs : List JobReach) (j l : ℕ) → l ≤ most → list_all (is_reach most) rs ≡ true → unwrap_or (reach_of rs j) l ≤ most
within_most most [] j l short e = short
within_most most (r ∷ rs) j l short e =
    let h = and_parts (is_reach most r) (list_all (is_reach most) rs) e in
    step (nat_eq r.job j) (leb-true r.reach most (and_parts (nat_lt r.job 320 && nat_lt 0 r.reach) (nat_le r.reach most) h.0).1) (within_most most rs j l short h.1)
  where
    step : (b : Bool) → r.reach ≤ most → unwrap_or (reach_of rs j) l ≤ most → unwrap_or (cond b (Some r.reach) (reach_of rs j)) l ≤ most
    step true x y = x
    step false x y = y

max_within : (most : ℕ) (jobs : List DeclaredJob) (j : ℕ) → 1 ≤ most → All (λ job. job.max ≤ most) jobs → (get_or jobs j no_job).max ≤ most
max_within most [] j one each = one
max_within most (job ∷ jobs) zero one each = All-head (λ (x : DeclaredJob). x.max ≤ most) job jobs each
max_within most (job ∷ jobs) (suc j) one each = max_within most jobs j one (All-tail (λ (x : DeclaredJob). x.max ≤ most) job jobs each)

same_content : (x c : Content) → (◌≡◌ {A = Result Content CertFault} (Ok x) (Ok c)) → x ≡ c
same_content x c e = cc

kept_by : (x c : Content) (o : Option CertFault) → certificate_fault x ≡ o → or_fault x o ≡ Ok c → certificate_fault c ≡ None
kept_by x c None e is = subst (λ (y : Content). certificate_fault y ≡ None) (same_content x c is) e
kept_by x c (Some fault) e is = absurd (cc)

content_kept : (r : Result Content CertFault) (c : Content) → (r then judged) ≡ Ok c → certificate_fault c ≡ None
content_kept (Ok x) c is = kept_by x c (certificate_fault x) refl is
content_kept (Err fault) c is = absurd (cc)

json_kept : (r : Result Data CertFault) (c : Content) → (r then (λ d. (content_in d) then judged)) ≡ Ok c → certificate_fault c ≡ None
json_kept (Ok d) c is = content_kept (content_in d) c is
json_kept (Err fault) c is = absurd (cc)

text_kept : (long : Bool) (r : Result Data CertFault) (c : Content) → (if long then Err TooLong else r then (λ d. (content_in d) then judged)) ≡ Ok c → certificate_fault c ≡ None
text_kept true r c is = absurd (cc)
text_kept false r c is = json_kept r c is

certificate_kept : (bytes : List ℕ) (c : Content) → certificate_by bytes ≡ Ok c → certificate_fault c ≡ None
unfolding certificate_by
certificate_kept bytes c is = text_kept (nat_lt 16_777_216 (length bytes)) (json_in bytes) c is

-- ---- how it is judged

pub listed_itself : (d : Declared) (c : Content) → c.version ≢ 3 → claimed d c ≡ as_listed c
listed_itself d c other = rw (ne_eqb c.version 3 other) refl

module _ (d : Declared) (bytes : List ℕ) (c : Content) (whole : IsWhole d) (short : All (λ job. job.max ≤ 1440) d.jobs) (is : certificate_by bytes ≡ Ok c) (first : c.version ≡ 1) where
  plan : IsPlan (as_plan d)
  plan = resolved d whole

  limits : (j : ℕ) → (as_plan d).limit j ≤ 1440
  limits j = max_within 1440 d.jobs j (omega arith) short

  reaches : (j : ℕ) → reach_for d c j ≤ 1440
  reaches j =
      let most : most_reach c.version ≡ 1440 = ap most_reach first in
      let fits : reach_fits 1440 c.reach ≡ true = subst (λ (m : ℕ). reach_fits m c.reach ≡ true) most (keeps c (certificate_kept bytes c is)).reach in
      within_most 1440 c.reach j ((as_plan d).limit j) (limits j) (and_parts _ (list_all (is_reach 1440) c.reach) fits).1

  pub in_pairs : IsLengthFor d c 2
  in_pairs = two_long (as_plan d) plan (due_on d) (reach_for d c) limits reaches

  days : length_for d c ≡ 2
  days = two_days (as_plan d) plan (due_on d) (reach_for d c) limits reaches

  claim_accepted : (claim_fault d (as_listed c) ≡ None) ↔ IsAccepted (as_plan d) (due_on d) (as_certificate (as_listed c)) 2
  unfolding claim_fault
  claim_accepted = subst (λ (n : ℕ). (first_fault (as_plan d) (due_on d) (as_certificate (as_listed c)) n ≡ None) ↔ IsAccepted (as_plan d) (due_on d) (as_certificate (as_listed c)) 2) (sym days) (says_all (as_plan d) plan (due_on d) (as_certificate (as_listed c)) 2 (omega arith))

  pub accepted_in_pairs : (fault_of d c ≡ None) ↔ IsAccepted (as_plan d) (due_on d) (as_certificate (as_listed c)) 2
  unfolding fault_of
  accepted_in_pairs = subst (λ (x : Claimed). (claim_fault d x ≡ None) ↔ IsAccepted (as_plan d) (due_on d) (as_certificate (as_listed c)) 2) (sym (listed_itself d c (λ h. omega (arith, h, first)))) claim_accepted
