-- Where tables and declarations have no fault.
use Rattle.std.proofs.Common.{◌≡◌, List, [], ◌∷◌, Option, Some, None, Err, refl, ap}
use Rattle.std.specs.Prelude.{position}
use Rattle.std.specs.List.{find}
use Rattle.std.specs.Option.{option_or}
use Rattle.cs_crontab.specs.Crontab.{Table as Crontab, CommandLine}
use Rattle.cs_anacrontab.specs.Anacrontab.{Table as Anacrontab, JobLine}
use Rattle.cs_plan.specs.declared.fault.DeclFault.TheVariants as faults
use Rattle.cs_plan.specs.declared.fault.Place.TheVariants.{LeftOut, Line}
use Rattle.cs_decl.specs.declared.entries.Entries.{Entries}
use Rattle.cs_decl.specs.Faults.{first_again, first_twice, same_number, first_fault, at_anacron, at_left_out}
use Rattle.cs_plan.specs.Answers.{Fault}
use Rattle.cs_decl.specs.Join.{has_no_line, has_no_job, has_other_command, is_ambiguous, cron_numbers, left_out_numbers, is_undeclared, is_undeclared_job, lineless, misquoted, ambiguous, named_twice, naming_faults, undeclared, has_other_schedule, mistimed, later_faults, rest, lines_left_out, untimed, plan_of, joined}
use Rattle.cs_plan.specs.Reboot.{is_reboot, reboot_fault}
use Rattle.cs_plan.specs.Answers.{unless}
use Rattle.cs_decl.proofs.Validity.{no_row, no_part, mapped_none}
use Rattle.cs_decl.proofs.Order.{in_front, behind}

pub record NamesAreRight (lines : List CommandLine) (jobs : List JobLine) (d : Entries) : Type 0 where
  pub cron_some : position (λ e. has_no_line lines e.name) d.cron ≡ None
  pub left_out_some : position (has_no_line lines) d.left_out ≡ None
  pub cron_told : position (λ e. has_other_command lines e.name) d.cron ≡ None
  pub left_out_told : position (has_other_command lines) d.left_out ≡ None
  pub cron_once : position (λ e. is_ambiguous lines e.name) d.cron ≡ None
  pub left_out_once : position (is_ambiguous lines) d.left_out ≡ None
  pub cron_apart : first_twice same_number (cron_numbers lines d) ≡ None
  pub left_out_apart : first_again same_number (cron_numbers lines d) 0 (left_out_numbers lines d) ≡ None

pub names_are_right : (lines : List CommandLine) (jobs : List JobLine) (d : Entries) → first_fault (naming_faults lines jobs d) ≡ None → NamesAreRight lines jobs d
unfolding lineless misquoted ambiguous named_twice
names_are_right lines jobs d e =
    let a = no_part (lineless lines jobs d) _ e in
    let b = no_part (misquoted lines d) _ a.1 in
    let f = no_part (ambiguous lines d) (named_twice lines d) b.1 in
    let l0 = no_row _ _ a.0 in
    let l1 = no_row (at_anacron faults.NoSuchLine (position (has_no_job jobs) d.anacron)) (at_left_out faults.NoSuchLine (position (has_no_line lines) d.left_out) ∷ []) l0.1 in
    let l2 = no_row (at_left_out faults.NoSuchLine (position (has_no_line lines) d.left_out)) [] l1.1 in
    let m0 = no_row _ _ b.0 in
    let m1 = no_row _ _ m0.1 in
    let m2 = no_row _ _ f.0 in
    let m3 = no_row _ _ m2.1 in
    let t0 = no_row _ _ f.1 in
    let t1 = no_row _ _ t0.1 in
    record {
      cron_some = mapped_none _ _ l0.0;
      left_out_some = mapped_none (λ i. (faults.NoSuchLine, Some (LeftOut i))) (position (has_no_line lines) d.left_out) l2.0;
      cron_told = mapped_none _ _ m0.0;
      left_out_told = mapped_none _ _ m1.0;
      cron_once = mapped_none _ _ m2.0;
      left_out_once = mapped_none _ _ m3.0;
      cron_apart = mapped_none _ _ t0.0;
      left_out_apart = mapped_none _ _ t1.0;
    }

pub record JobsAreDeclared (lines : List CommandLine) (jobs : List JobLine) (d : Entries) : Type 0 where
  pub crons : find (is_undeclared d) lines ≡ None
  pub anacrons : find (is_undeclared_job d) jobs ≡ None
  pub timed : find (λ line. is_reboot line.when) lines ≡ None

pub jobs_are_declared : (lines : List CommandLine) (jobs : List JobLine) (d : Entries) → first_fault (undeclared lines jobs d) ≡ None → JobsAreDeclared lines jobs d
unfolding undeclared
jobs_are_declared lines jobs d e =
    let r0 = no_row _ _ e in
    let r1 = no_row _ _ r0.1 in
    let r2 = no_row (reboot_fault lines) [] r1.1 in
    record {
      crons = mapped_none _ _ r0.0;
      anacrons = mapped_none _ _ r1.0;
      timed = mapped_none (λ (l : CommandLine). (faults.RebootLine, Some (Line l.number))) (find (λ line. is_reboot line.when) lines) r2.0;
    }

pub record SchedulesAreRight (lines : List CommandLine) (d : Entries) : Type 0 where
  pub crons : position (λ e. has_other_schedule lines e.name) d.cron ≡ None
  pub left_out : position (has_other_schedule lines) d.left_out ≡ None

pub schedules_are_right : (lines : List CommandLine) (d : Entries) → first_fault (mistimed lines d) ≡ None → SchedulesAreRight lines d
unfolding mistimed
schedules_are_right lines d e =
    let r0 = no_row _ _ e in
    let r1 = no_row (at_left_out faults.OtherSchedule (position (has_other_schedule lines) d.left_out)) [] r0.1 in
    record {
      crons = mapped_none _ _ r0.0;
      left_out = mapped_none (λ i. (faults.OtherSchedule, Some (LeftOut i))) (position (has_other_schedule lines) d.left_out) r1.0;
    }

pub first_none : (a b : Option Fault) → option_or a b ≡ None → a ≡ None
first_none None b e = refl
first_none (Some f) b e = absurd cc

pub past_names : (c : Crontab) (a : Anacrontab) (d : Entries) → first_fault (naming_faults c.lines a.lines d) ≡ None → joined c a d ≡ unless (plan_of (rest d c) (lines_left_out d c) (untimed d c.lines) a d) (first_fault (later_faults c a d))
unfolding joined
past_names c a d e = ap (unless (plan_of (rest d c) (lines_left_out d c) (untimed d c.lines) a d)) (behind (naming_faults c.lines a.lines d) (later_faults c a d) e)

pub wrong_name : (c : Crontab) (a : Anacrontab) (d : Entries) (f : Fault) → first_fault (naming_faults c.lines a.lines d) ≡ Some f → joined c a d ≡ Err f
unfolding joined
wrong_name c a d f e = ap (unless (plan_of (rest d c) (lines_left_out d c) (untimed d c.lines) a d)) (in_front (naming_faults c.lines a.lines d) (later_faults c a d) f e)
