-- The jobs whose last run failed, each with the second of the last failure that was called.
use Rattle.std.specs.Prelude.{ℕ, ◌-◌, ◌&&◌, nat_le, nat_lt, not, Bool, false, bytes_eq, if◌then◌else◌, List, [], ◌∷◌, ◌++◌, Option, None, Some, option_map}
use Rattle.std.specs.List.{filter, find}
use Rattle.cs_machine.specs.declared.hook_call.HookEvent.{HookEvent}
use Rattle.cs_machine.specs.declared.hook_call.HookEvent.TheVariants.{Failure, Limit, Overrun, Success}

abbrev pub Memory : Type 0
Memory = List (List ℕ × ℕ)

abbrev pub called_at : Memory → List ℕ → Option ℕ
called_at failing job = option_map (λ f. f.1) (find (λ f. bytes_eq f.0 job) failing)

-- a failure is called if none of the job was within the hour; a clock that was put back calls again
abbrev pub is_quiet : Option ℕ → ℕ → Bool
is_quiet None now = false
is_quiet (Some called) now = nat_le called now && nat_lt (now - called) 3_600

abbrev pub without : Memory → List ℕ → Memory
without failing job = filter (λ f. not (bytes_eq f.0 job)) failing

-- a failure that is called is remembered until a run of the job ends with status 0
abbrev pub remembered : Memory → List ℕ → HookEvent → Bool → ℕ → Memory
remembered failing job (Failure status seconds) is_quiet now =
    if is_quiet then failing else without failing job ++ (job, now) ∷ []
remembered failing job (Success seconds) is_quiet now = without failing job
remembered failing job (Overrun peers) is_quiet now = failing
remembered failing job (Limit peers) is_quiet now = failing
