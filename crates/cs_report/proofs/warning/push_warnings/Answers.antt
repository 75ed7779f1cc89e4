use Rattle.std.proofs.Common.{◌∙◌, ◌+◌, ◌++◌, ℕ, List, Vec, Global, ap, sym, drop}
use Rattle.cs_report.specs.Warning.{warnings_of}
use Rattle.cs_report.proofs.Unheeded.{heeded, unheeded, of_nothing}
use Rattle.cs_report.proofs.warning.push_warnings.Goals as goal
use Rattle.cs_report.proofs.warning.push_warnings.Goals.{then-is_unheeded+in_ok-push_warning, else-is_unheeded}

pub loop-setting-preserved : goal.loop-setting-preserved
loop-setting-preserved c =
    let i : ℕ = c.loop-setting.setting-index in
    let rest : List ℕ = warnings_of c.args.table.now (drop (i + 1) c.args.settings.now) in
    elim c.if-is_unheeded.branch [
      | then-is_unheeded+in_ok-push_warning w ↦
          ap (λ (v : Vec ℕ Global). v.items ++ rest) w.text-is ∙ ap (λ (l : List ℕ). l ++ rest) w.in_ok-push_warning.ensures
          ∙ unheeded c.args.table.now c.args.settings.now i c.setting-item.result c.loop-setting-test.true c.setting-item.is c.loop-setting.text.items (sym c.is_unheeded.ensures ∙ w.if-is_unheeded.true)
          ∙ c.loop-setting.invariant
      | else-is_unheeded w ↦
          ap (λ (v : Vec ℕ Global). v.items ++ rest) w.text-is
          ∙ heeded c.args.table.now c.args.settings.now i c.setting-item.result c.loop-setting-test.true c.setting-item.is c.loop-setting.text.items (sym c.is_unheeded.ensures ∙ w.if-is_unheeded.false)
          ∙ c.loop-setting.invariant
    ]

pub returns : goal.returns
returns c = sym (of_nothing c.args.table.now c.args.settings.now c.loop-setting.setting-index c.loop-setting.text.items c.loop-setting-test.false) ∙ c.loop-setting.invariant
