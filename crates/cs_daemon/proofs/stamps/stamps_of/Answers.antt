use Rattle.std.proofs.Common.{◌≡◌, ◌≤◌, ◌∙◌, ℕ, List, Option, length, sym, ap, subst}
use Rattle.cs_core.specs.Standing.{Standing}
use Rattle.cs_plan.specs.Plan.{IsWhole}
use Rattle.cs_keep.proofs.Cutting.{few_stamps}
use Rattle.cs_daemon.proofs.stamps.stamps_of.Goals as goal

pub returns-clause-stamps : goal.returns-clause-stamps
returns-clause-stamps g c =
    let k = c.args.keep.now in
    let whole : IsWhole k.core.plan = subst IsWhole (c.plan.ensures ∙ ap (λ (x : Standing). x.plan) c.core-core.ensures.value) c.jobs-jobs.ensures.whole in
    let few : length k.core.state.stamps ≤ 64 = few_stamps k.core.plan k.base k.journal k.core.state whole c.core-core.ensures.kept in
    let same : c.stamps.result.now ≡ k.core.state.stamps = c.stamps.ensures ∙ ap (λ (x : Standing). x.state.stamps) c.core-core.ensures.value in
    c.copy_stamps.ensures.few (subst (λ (l : List (Option ℕ)). length l ≤ 64) (sym same) few) ∙ same
