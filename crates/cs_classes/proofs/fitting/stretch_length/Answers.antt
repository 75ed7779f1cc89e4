use Rattle.std.proofs.Common.{◌∙◌, true, false, map, refl, sym}
use Rattle.std.specs.List.{list_all}
use Rattle.cs_windows.specs.Occupied.{job_of}
use Rattle.cs_classes.specs.Fitting.{job_fits}
use Rattle.cs_classes.proofs.Lasting.{length_by}
use Rattle.cs_classes.proofs.fitting.stretch_length.Goals as goal

pub returns-then-all_fit-clause-value : goal.returns-then-all_fit-clause-value
returns-then-all_fit-clause-value c p on r e =
    sym (length_by p on r (map job_of c.args.jobs.now) true (list_all (job_fits 3) (map job_of c.args.jobs.now)) e (sym c.all_fit.ensures ∙ c.if-all_fit.true) refl)

pub returns-then-all_fit-2-clause-value : goal.returns-then-all_fit-2-clause-value
returns-then-all_fit-2-clause-value c p on r e =
    sym (length_by p on r (map job_of c.args.jobs.now) false true e (sym c.all_fit.ensures ∙ c.if-all_fit.false) (sym c.all_fit-2.ensures ∙ c.if-all_fit-2.true))

pub returns-else-all_fit-2-clause-value : goal.returns-else-all_fit-2-clause-value
returns-else-all_fit-2-clause-value c p on r e =
    sym (length_by p on r (map job_of c.args.jobs.now) false false e (sym c.all_fit.ensures ∙ c.if-all_fit.false) (sym c.all_fit-2.ensures ∙ c.if-all_fit-2.false))
