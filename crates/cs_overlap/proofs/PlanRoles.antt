use Rattle.std.proofs.Common.{ℕ, ◌<◌, ◌≤◌, ◌≡◌, Bool, false, List, length, sym, ap, ◌∙◌, arith, ⊎_elim}
use Rattle.std.specs.Prelude.{slice_index_or, nat_lt}
use Rattle.std.proofs.lemmas.Bool.{le-ltb, cases_lt}
use Rattle.std.proofs.lemmas.List.{get_or_past}
use Rattle.cs_history.specs.Plan.{exclusive_group}
use Rattle.cs_plan.specs.Plan.{Declared, as_plan, no_job, crons}
use Rattle.cs_plan.specs.Job.{DeclaredJob}
use Rattle.cs_overlap.specs.declared.role.Role.{Role}
use Rattle.cs_overlap.specs.Roles.{role_at, role_of, nobody, AreRoles}

past : (d : Declared) (j : ℕ) → length d.jobs ≤ j → crons d ≤ length d.jobs → role_of (as_plan d) j ≡ nobody
past d j le few =
    let job : slice_index_or d.jobs j no_job ≡ no_job = get_or_past d.jobs j no_job le in
    let cron : nat_lt j (crons d) ≡ false = le-ltb j (crons d) (omega (arith, le, few)) in
    ap (λ (b : Bool). record { is_cron = b; mode = (slice_index_or d.jobs j no_job).mode; weight = (slice_index_or d.jobs j no_job).weight; group = (slice_index_or d.jobs j no_job).group; is_exclusive = exclusive_group (as_plan d) (slice_index_or d.jobs j no_job).group }) cron
    ∙ ap (λ (job : DeclaredJob). record { is_cron = false; mode = job.mode; weight = job.weight; group = job.group; is_exclusive = exclusive_group (as_plan d) job.group }) job

pub are_roles : (d : Declared) (roles : List Role) → crons d ≤ length d.jobs → length roles ≡ length d.jobs → ((j : ℕ) → j < length d.jobs → role_at roles j ≡ role_of (as_plan d) j) → AreRoles (as_plan d) roles
are_roles d roles few long each j = ⊎_elim (λ (l : j < length d.jobs). each j l)
    (λ (l : length d.jobs ≤ j). get_or_past roles j nobody (omega (arith, long, l)) ∙ sym (past d j l few)) (cases_lt j (length d.jobs))
