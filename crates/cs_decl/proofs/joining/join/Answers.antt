use Rattle.std.proofs.Common.{rules, ◌≡◌, None, Some, subst}
use Rattle.cs_decl.specs.declared.entries.Entries.{Entries}
use Rattle.cs_decl.specs.Faults.{first_fault}
use Rattle.cs_decl.specs.Join.{later_faults, lines_left_out, naming_faults, plan_of, rest, untimed}
use Rattle.cs_plan.specs.Answers.{Answers, unless}
use Rattle.cs_decl.proofs.Joins.{past_names, wrong_name}
use Rattle.cs_decl.proofs.joining.join.Goals as goal

pub returns-in-None : goal.returns-in-None
returns-in-None c =
    let none : first_fault (naming_faults c.args.crontab.lines c.args.anacrontab.lines c.args.declarations) ≡ None = search rules in
    let rested = subst (λ (d : Entries). Answers (λ plan. plan) (unless (plan_of (rest d c.args.crontab) (lines_left_out d c.args.crontab) (untimed d c.args.crontab.lines) c.args.anacrontab d) (first_fault (later_faults c.args.crontab c.args.anacrontab d))) c.joined_rest.result) c.entries-entries.ensures.value c.joined_rest.ensures in
    rw (past_names c.args.crontab c.args.anacrontab c.args.declarations none) rested

pub returns-in-Some : goal.returns-in-Some
returns-in-Some c =
    let some : first_fault (naming_faults c.args.crontab.lines c.args.anacrontab.lines c.args.declarations) ≡ Some (c.in-Some.fault, c.in-Some.place) = search rules in
    wrong_name c.args.crontab c.args.anacrontab c.args.declarations (c.in-Some.fault, c.in-Some.place) some
