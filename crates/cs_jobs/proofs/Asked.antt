-- Commands that are asked for.
use Rattle.std.proofs.Common.{◌≡◌, ◌≤◌, ◌-◌, ℕ, List, length, map, All, Bor, None, Option, Some, option_map, Result, Ok, Err, inl, inr, refl, sym, ◌∙◌, subst, slice_get}
use Rattle.std.specs.Prelude.{IfOk}
use Rattle.std.specs.Option.{option_copied}
use Rattle.std.specs.Slice.{IsItemAt}
use Rattle.std.proofs.lemmas.Option.{slice_get_past, slice_get_read}
use Rattle.cs_table.specs.Environment.{Variable, IsLast, above, first_places, names_of}
use Rattle.cs_table.specs.Setting.{SettingLine}
use Rattle.cs_crontab.specs.Command.{AreParts}
use Rattle.cs_crontab.specs.Crontab.{CommandLine, Table as Crontab}
use Rattle.cs_anacrontab.specs.Anacrontab.{JobLine, Table as Anacrontab}
use Rattle.cs_owner.specs.declared.owners.Owner.{Owner}
use Rattle.cs_plan.specs.Plan.{Declared, crons}
use Rattle.cs_history.specs.declared.run.Going.{Going}
use Rattle.cs_device.specs.Asked.{Asked, asked}
use Rattle.cs_device.specs.declared.runner.Outcome.{Outcome}
use Rattle.cs_jobs.specs.Commands.{AreSet, IsForJob, IsOfCommand, IsOfJob, RunsJob, settings_for, until_of}
use Rattle.cs_jobs.specs.Names.{run_name}

-- a borrowed item stands at its index
pub found : {X : Type 0} (xs : List X) (i : ℕ) (x : Bor X) → IsItemAt xs i (Some x) → slice_get xs i ≡ Some x.now
found xs i x at = slice_get_read xs (length xs) i x.now refl at.3.0 at.1

pub looked_up : {X : Type 0} (xs : List X) (i : ℕ) (x : Option (Bor X)) → IsItemAt xs i x → option_copied x ≡ slice_get xs i
looked_up xs i None at = sym (slice_get_past xs i at.3)
looked_up xs i (Some x) at = sym (found xs i x at)

pub of_command : (table : Crontab) (owner : Option Owner) (line : CommandLine) (name : List ℕ) (user : Option (Bor (List ℕ))) (settings : List SettingLine) (number : ℕ) (text command lent_command : List ℕ) (input : Option (List ℕ)) (lent : Option (Bor (List ℕ))) (env lent_env : List Variable) (until : Option ℕ)
    → option_map (λ (t : Bor (List ℕ)). t.now) user ≡ option_map (λ (o : Owner). o.user) owner → settings ≡ settings_for table owner
    → number ≡ line.number → text ≡ line.command → AreParts text (command, input)
    → map (λ (v : Variable). v.0) env ≡ first_places (names_of (above number settings)) → All (IsLast (above number settings)) env
    → lent_command ≡ command → option_map (λ (t : Bor (List ℕ)). t.now) lent ≡ input → lent_env ≡ env
    → IsOfCommand table owner line (asked name user lent_command lent lent_env until)
of_command table owner line name user settings number text command lent_command input lent env lent_env until named of n t parts names values c i e =
    record {
      user = named;
      parts = subst (λ (x : List ℕ). AreParts x (lent_command, option_map (λ u. u.now) lent)) t (subst (λ (x : List ℕ). AreParts text (x, option_map (λ u. u.now) lent)) (sym c) (subst (λ (x : Option (List ℕ)). AreParts text (command, x)) (sym i) parts));
      variables =
          subst (λ (x : List Variable). AreSet (above line.number (settings_for table owner)) x) (sym e)
          (subst (λ (s : List SettingLine). AreSet (above line.number s) env) of
          (subst (λ (m : ℕ). AreSet (above m settings) env) n (record { names = names; values = values })));
    }

pub of_job : (table : Anacrontab) (line : JobLine) (name : List ℕ) (number : ℕ) (text : List ℕ) (env lent_env : List Variable) (until : Option ℕ)
    → number ≡ line.number → text ≡ line.command
    → map (λ (v : Variable). v.0) env ≡ first_places (names_of (above number table.settings)) → All (IsLast (above number table.settings)) env
    → lent_env ≡ env
    → IsOfJob table line (asked name None text None lent_env until)
of_job table line name number text env lent_env until n t names values e =
    record {
      user = refl;
      command = t;
      input = refl;
      variables =
          subst (λ (x : List Variable). AreSet (above line.number table.settings) x) (sym e)
          (subst (λ (m : ℕ). AreSet (above m table.settings) env) n (record { names = names; values = values }));
    }

module _ {W E : Type 0} (runs : W → Asked → Outcome → W → Type 0) (d : Declared) (owners : List Owner) where
  pub cron_runs : (going : Going) (name : List ℕ) (until : Option ℕ) (job : ℕ) (table : Crontab) (lines : List CommandLine) (owner : Option Owner) (line : Bor CommandLine) (old new : W) (r : Result Outcome E)
      → name ≡ run_name d going.run → until ≡ until_of d going → job ≡ going.run.job → table ≡ d.crontab → lines ≡ table.lines → owner ≡ slice_get owners job → IsItemAt lines job (Some line)
      → IfOk r (λ outcome. (asked : Asked) × (asked.name ≡ name) × (asked.until ≡ until) × IsOfCommand table owner line.now asked × runs old asked outcome new)
      → IfOk r (λ outcome. RunsJob runs d owners going old outcome new)
  cron_runs going name until job table lines owner line old new (Ok outcome) called timed its is of owned at (a, named, ends, for, ran) =
      let here : slice_get d.crontab.lines job ≡ Some line.now = subst (λ (t : Crontab). slice_get t.lines job ≡ Some line.now) is (subst (λ (ls : List CommandLine). slice_get ls job ≡ Some line.now) of (found lines job line at)) in
      inl (a, (named ∙ called, ends ∙ timed, subst (λ (j : ℕ). IsForJob d owners j a) its (inl (line.now, here, subst (λ (o : Option Owner). IsOfCommand d.crontab o line.now a) owned (subst (λ (t : Crontab). IsOfCommand t owner line.now a) is for)))), ran)
  cron_runs going name until job table lines owner line old new (Err e) called timed its is of owned at ran = tt

  pub anacron_runs : (going : Going) (name : List ℕ) (until : Option ℕ) (job above : ℕ) (table : Anacrontab) (lines : List JobLine) (line : Bor JobLine) (old new : W) (r : Result Outcome E)
      → name ≡ run_name d going.run → until ≡ until_of d going → job ≡ going.run.job → table ≡ d.anacrontab → lines ≡ table.lines → above ≡ crons d → crons d ≤ job → IsItemAt lines (job - above) (Some line)
      → IfOk r (λ outcome. (asked : Asked) × (asked.name ≡ name) × (asked.until ≡ until) × IsOfJob table line.now asked × runs old asked outcome new)
      → IfOk r (λ outcome. RunsJob runs d owners going old outcome new)
  anacron_runs going name until job above table lines line old new (Ok outcome) called timed its is of many past at (a, named, ends, for, ran) =
      let there : slice_get lines (job - crons d) ≡ Some line.now = subst (λ (n : ℕ). slice_get lines (job - n) ≡ Some line.now) many (found lines (job - above) line at) in
      let here : slice_get d.anacrontab.lines (job - crons d) ≡ Some line.now = subst (λ (t : Anacrontab). slice_get t.lines (job - crons d) ≡ Some line.now) is (subst (λ (ls : List JobLine). slice_get ls (job - crons d) ≡ Some line.now) of there) in
      inl (a, (named ∙ called, ends ∙ timed, subst (λ (j : ℕ). IsForJob d owners j a) its (inr (line.now, past, here, subst (λ (t : Anacrontab). IsOfJob t line.now a) is for))), ran)
  anacron_runs going name until job above table lines line old new (Err e) called timed its is of many past at ran = tt
