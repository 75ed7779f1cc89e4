-- The job of a line, where its number is cut at 2^32.
use Rattle.std.proofs.Common.{◌≡◌, ℕ, ◌<◌, ◌≤◌, ◌==◌, Option, None, min, position, refl, ap, ◌∙◌, arith}
use Rattle.std.proofs.lemmas.Bool.{lt-ltb, le-ltb}
use Rattle.cs_plan.specs.Plan.{Declared}
use Rattle.cs_report.specs.Names.{job_on}

pub job_there : (d : Declared) (n v : ℕ) (o : Option ℕ) → v ≡ min 4_294_967_296 n → v < 4_294_967_296 → o ≡ position (λ line. line.number == v) d.crontab.lines → o ≡ job_on d n
unfolding job_on
job_there d n v o is below found =
    let same : v ≡ n = omega (arith, is, below) in
    let low : n < 4_294_967_296 = omega (arith, is, below) in
    found ∙ ap (λ (k : ℕ). position (λ line. line.number == k) d.crontab.lines) same ∙ rw (lt-ltb n 4_294_967_296 low) refl

pub no_job_there : (d : Declared) (n v : ℕ) → v ≡ min 4_294_967_296 n → 4_294_967_296 ≤ v → None ≡ job_on d n
unfolding job_on
no_job_there d n v is past =
    let high : 4_294_967_296 ≤ n = omega (arith, is, past) in
    rw (le-ltb n 4_294_967_296 high) refl
