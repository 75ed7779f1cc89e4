use Rattle.std.proofs.Common.{ap, sym, ◌∙◌}
use Rattle.cs_overlap.specs.declared.role.Role.{Role}
use Rattle.cs_overlap.proofs.FilterLemmas.{not_true}
use Rattle.cs_overlap.proofs.FoundLemmas.{rival_free, rival_none}
use Rattle.cs_overlap.proofs.found.rival_of.Goals as goal

pub returns-then-not-is_of : goal.returns-then-not-is_of
returns-then-not-is_of c = sym (rival_none c.args.roles.now c.args.group c.args.one.now c.args.others.now (sym c.is_of.ensures ∙ c.if-not-is_of.true))

pub returns-then-not-role_of : goal.returns-then-not-role_of
returns-then-not-role_of c = sym (rival_free c.args.roles.now c.args.group c.args.one.now c.args.others.now (ap (λ (r : Role). r.is_exclusive) (sym c.role_of.ensures) ∙ not_true c.role_of.result.is_exclusive c.if-not-role_of.true))
