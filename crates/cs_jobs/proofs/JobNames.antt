-- The name of a job, by the table that it is of.
use Rattle.std.proofs.Common.{◌≡◌, ◌<◌, ◌≤◌, ◌-◌, ℕ, List, [], ◌++◌, codes, get_or, length, map, sym, ap, ◌∙◌, subst, append_assoc, append-nil}
use Rattle.std.proofs.lemmas.List.{get_or-append_right, get_or-map, get_or_append_left, get_or_past, length-map}
use Rattle.cs_plan.specs.JobNames.{command_name, identifier_of}
use Rattle.cs_plan.specs.Plan.{Declared, crons, no_command, no_line}
use Rattle.cs_jobs.specs.Names.{at_front, due_front, identifier_name, job_front, job_name, line_name}

-- what two lists give, one after the other
module _ {X Y A : Type 0} (f : X → A) (g : Y → A) (xs : List X) (ys : List Y) (i : ℕ) (a : A) where
  in_first : (x : X) → i < length xs → get_or (map f xs ++ map g ys) i a ≡ f (get_or xs i x)
  in_first x lt =
      get_or_append_left (map f xs) (map g ys) a i (subst (λ (n : ℕ). i < n) (sym (length-map xs f)) lt) ∙ get_or-map f xs i x a lt

  behind : length xs ≤ i → get_or (map f xs ++ map g ys) i a ≡ get_or (map g ys) (i - length xs) a
  behind le = get_or-append_right (map f xs) (map g ys) (length xs) i a (length-map xs f) le

  in_second : (y : Y) → length xs ≤ i → i - length xs < length ys → get_or (map f xs ++ map g ys) i a ≡ g (get_or ys (i - length xs) y)
  in_second y le lt = behind le ∙ get_or-map g ys (i - length xs) y a lt

  in_none : length xs ≤ i → length ys ≤ i - length xs → get_or (map f xs ++ map g ys) i a ≡ a
  in_none le past =
      behind le ∙ get_or_past (map g ys) (i - length xs) a (subst (λ (n : ℕ). n ≤ i - length xs) (sym (length-map ys g)) past)

-- what is added to a text, part by part
module _ (d : Declared) (job : ℕ) (text : List ℕ) where
  pub of_cron : job < crons d → text ++ job_name d job ≡ text ++ command_name d job
  unfolding job_name command_name
  of_cron lt = ap (λ (name : List ℕ). text ++ name) (in_first line_name identifier_name d.crontab.lines d.anacrontab.lines job [] no_command lt)

  pub of_anacron : crons d ≤ job → job - crons d < length d.anacrontab.lines → text ++ job_name d job ≡ (text ++ codes "job ") ++ identifier_of d job
  unfolding job_name
  of_anacron le lt =
      ap (λ (name : List ℕ). text ++ name) (in_second line_name identifier_name d.crontab.lines d.anacrontab.lines job [] no_line le lt)
      ∙ sym (append_assoc text (codes "job ") (identifier_of d job))

  pub of_none : crons d ≤ job → length d.anacrontab.lines ≤ job - crons d → text ++ job_name d job ≡ text
  unfolding job_name
  of_none le past =
      ap (λ (name : List ℕ). text ++ name) (in_none line_name identifier_name d.crontab.lines d.anacrontab.lines job [] le past) ∙ append-nil text

  pub due : job < crons d → text ++ job_front d job ≡ (text ++ job_name d job) ++ codes " due "
  unfolding job_front job_name
  due lt =
      ap (λ (name : List ℕ). text ++ name) (
      in_first due_front at_front d.crontab.lines d.anacrontab.lines job [] no_command lt
      ∙ ap (λ (name : List ℕ). name ++ codes " due ") (sym (in_first line_name identifier_name d.crontab.lines d.anacrontab.lines job [] no_command lt))
      )
      ∙ sym (append_assoc text (job_name d job) (codes " due "))

  pub at : crons d ≤ job → job - crons d < length d.anacrontab.lines → text ++ job_front d job ≡ (text ++ job_name d job) ++ codes " at "
  unfolding job_front job_name
  at le lt =
      ap (λ (name : List ℕ). text ++ name) (
      in_second due_front at_front d.crontab.lines d.anacrontab.lines job [] no_line le lt
      ∙ ap (λ (name : List ℕ). name ++ codes " at ") (sym (in_second line_name identifier_name d.crontab.lines d.anacrontab.lines job [] no_line le lt))
      )
      ∙ sym (append_assoc text (job_name d job) (codes " at "))

  pub of_no_run : crons d ≤ job → length d.anacrontab.lines ≤ job - crons d → text ++ job_front d job ≡ text ++ job_name d job
  unfolding job_front job_name
  of_no_run le past =
      ap (λ (name : List ℕ). text ++ name) (
      in_none due_front at_front d.crontab.lines d.anacrontab.lines job [] le past
      ∙ sym (in_none line_name identifier_name d.crontab.lines d.anacrontab.lines job [] le past)
      )
