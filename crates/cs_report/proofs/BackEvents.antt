-- The line of an event that can be named is read as that event.
use Rattle.std.proofs.Common.{◌≡◌, ◌≢◌, ℕ, ◌+◌, ◌-◌, ◌≤◌, Bool, true, false, not, nat_le, nat_lt, cond, List, [], ◌∷◌, ◌++◌, length, Some, refl, ap, ◌∙◌, arith}
use Rattle.std.specs.Prelude.{AllPairs, codes}
use Rattle.std.specs.Fmt.{decimal as numeral}
use Rattle.std.proofs.lemmas.Bool.{leb-true}
use Rattle.cs_civil.specs.Calendar.{first_minute, last_minute}
use Rattle.cs_civil.specs.Text.{minute_text}
use Rattle.cs_table.specs.Text.{decimal}
use Rattle.cs_history.specs.History.{run_of}
use Rattle.cs_history.specs.Step.{is_civil}
use Rattle.cs_history.specs.declared.event.Event.{Event}
use Rattle.cs_history.specs.declared.event.Event.TheVariants.{Minute, Begin, Got, Catch, End, Down, Up}
use Rattle.cs_plan.specs.Plan.{Declared, crons, command_of}
use Rattle.cs_plan.specs.JobNames.{command_name, identifier_of}
use Rattle.cs_report.specs.Names.{job_on, job_named}
use Rattle.cs_report.specs.Grammar.{IsWord, IsNumber, IsMinute, Happens, Says}
use Rattle.cs_report.specs.Grammar as forms
use Rattle.cs_report.specs.Reading.{is_nothing, is_word}
use Rattle.cs_report.specs.ScriptText.{job_name, at_minute, event_text, is_name, is_cron_name, is_anacron_name, is_job_name, is_nameable_event}
use Rattle.cs_report.specs.ReadBack.{tells_command, tells_job, tells_event}
use Rattle.cs_report.proofs.NamedJobs.{and_left, and_right, anacron_behind, anacron_there, anacron_else}
use Rattle.cs_report.proofs.BackNames.{numeral_is, told_back, told_small, place_back}
use Rattle.cs_report.proofs.BackMoments.{moment_is}
use Rattle.cs_report.proofs.Forms.{is_word_takes}

civil_is : (t : ℕ) → is_civil t ≡ true → IsMinute (minute_text t) t
civil_is t h = (refl, leb-true first_minute t (and_left (nat_le first_minute t) (nat_le t last_minute) h), leb-true t last_minute (and_right (nat_le first_minute t) (nat_le t last_minute) h))

some_digits : (ds : List ℕ) → not (is_nothing ds) ≡ true → ds ≢ []
some_digits [] h = absurd cc
some_digits (b ∷ bs) h = λ e. cc

module _ (d : Declared) (distinct : AllPairs (λ x y. x.identifier ≢ y.identifier) d.anacrontab.lines) where
  -- ---- names

  number_is : (j : ℕ) → tells_command d j ≡ true → IsNumber (numeral (command_of d j).number)
  number_is j h =
      let is = numeral_is (command_of d j).number (omega (arith, told_small d j h)) in
      (is.digits, some_digits (numeral (command_of d j).number) is.some)

  cron_back : (j : ℕ) → tells_command d j ≡ true → job_on d (decimal (numeral (command_of d j).number)) ≡ Some j
  cron_back j h =
      let is = numeral_is (command_of d j).number (omega (arith, told_small d j h)) in
      ap (job_on d) is.value ∙ told_back d j h

  identifier_word : (j : ℕ) → is_anacron_name d j ≡ true → IsWord (identifier_of d j)
  unfolding is_anacron_name is_name
  identifier_word j h = is_word_takes (identifier_of d j) (and_left (is_word (identifier_of d j)) _ (and_right (nat_lt (j - crons d) (length d.anacrontab.lines)) _ (and_right (nat_le (crons d) j) _ h)))

  anacron_back : (j : ℕ) → is_anacron_name d j ≡ true → job_named d (identifier_of d j) ≡ Some j
  unfolding job_named
  anacron_back j h =
      let behind : crons d ≤ j = anacron_behind d j h in
      let same : crons d + (j - crons d) ≡ j = omega (arith, behind) in
      rw (place_back d (j - crons d) distinct (anacron_there d j h)) (ap (λ (n : ℕ). Some n) same)

  -- ---- events

  says_begin : (j : ℕ) → tells_command d j ≡ true → Says d (codes "begin " ++ command_name d j) (Happens (Begin j))
  unfolding command_name
  says_begin j h = (forms.Begin (numeral (command_of d j).number), (refl, number_is j h), (0, j, tt, cron_back j h, refl))

  says_got : (j t : ℕ) → tells_command d j ≡ true → is_civil t ≡ true → Says d (codes "got " ++ (command_name d j ++ at_minute t)) (Happens (Got j t))
  unfolding command_name
  says_got j t h k = (forms.Got (numeral (command_of d j).number) (minute_text t), (refl, (number_is j h, moment_is t)), (t, j, civil_is t k, cron_back j h, refl))

  says_end_of_command : (j t : ℕ) → tells_command d j ≡ true → is_civil t ≡ true → Says d (codes "end " ++ (command_name d j ++ at_minute t)) (Happens (End (run_of j t)))
  unfolding command_name
  says_end_of_command j t h k = (forms.EndLine (numeral (command_of d j).number) (minute_text t), (refl, (number_is j h, moment_is t)), (t, j, civil_is t k, cron_back j h, refl))

  says_end_of_job : (j t : ℕ) → is_anacron_name d j ≡ true → is_civil t ≡ true → Says d (codes "end " ++ ((codes "job " ++ identifier_of d j) ++ at_minute t)) (Happens (End (run_of j t)))
  says_end_of_job j t h k = (forms.EndJob (identifier_of d j) (minute_text t), (refl, (identifier_word j h, moment_is t)), (t, j, civil_is t k, anacron_back j h, refl))

  says_end : (j t : ℕ) → is_job_name d j ≡ true → tells_job d j ≡ true → is_civil t ≡ true → Says d (codes "end " ++ (job_name d j ++ at_minute t)) (Happens (End (run_of j t)))
  unfolding job_name
  says_end j t h told k = by_kind (nat_lt j (crons d)) refl told
    where
      by_kind : (b : Bool) → nat_lt j (crons d) ≡ b → cond b (tells_command d j) true ≡ true → Says d (codes "end " ++ (cond b (command_name d j) (codes "job " ++ identifier_of d j) ++ at_minute t)) (Happens (End (run_of j t)))
      by_kind true e told = says_end_of_command j t told k
      by_kind false e told = says_end_of_job j t (anacron_else d j h e) k

  pub says : (e : Event) → is_nameable_event d e ≡ true → tells_event d e ≡ true → Says d (event_text d e) (Happens e)
  says (Minute t) h told = (forms.Minute (minute_text t), (refl, moment_is t), (t, 0, civil_is t h, tt, refl))
  says (Begin j) h told = says_begin j told
  says (Got j t) h told = says_got j t told (and_right (is_cron_name d j) (is_civil t) h)
  says (Catch j) h told = (forms.Catch (identifier_of d j), (refl, identifier_word j h), (0, j, tt, anacron_back j h, refl))
  says (End r) h told = says_end r.job r.at (and_left (is_job_name d r.job) (is_civil r.at) h) told (and_right (is_job_name d r.job) (is_civil r.at) h)
  says Down h told = (forms.Down, (refl, tt), (0, 0, tt, tt, refl))
  says (Up t) h told = (forms.Up (minute_text t), (refl, moment_is t), (t, 0, civil_is t h, tt, refl))
