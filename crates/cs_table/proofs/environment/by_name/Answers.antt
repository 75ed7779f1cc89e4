use Rattle.std.proofs.Common.{◌≡◌, ◌∙◌, ◌+◌, sym, ap, drop, map, arith, List, ℕ}
use Rattle.cs_table.specs.Setting.{SettingLine}
use Rattle.cs_table.specs.Environment.{Variable, put, put_all, shown}
use Rattle.cs_table.proofs.Variables.{loop_puts, loop_passes, loop_ends, put_shown}
use Rattle.cs_table.proofs.environment.by_name.Goals as goal
use Rattle.cs_table.proofs.environment.by_name.Goals.{then-number-line+in_ok-insert, else-number-line}

pub loop-setting-preserved : goal.loop-setting-preserved
loop-setting-preserved c =
    let settings : List SettingLine = c.args.settings.now in
    let i : ℕ = c.loop-setting.setting-index in
    let s : SettingLine = c.setting-item.result in
    let before : List Variable = map shown c.loop-setting.variables.entries in
    elim c.if-number-line.branch [
      | then-number-line+in_ok-insert w ↦
          let made : map shown c.if-number-line.variables.entries ≡ put s.name s.value before =
          ap (λ v. map shown v.entries) w.variables-is ∙ ap (map shown) w.in_ok-insert.ensures.entries ∙ put_shown c.loop-setting.variables.entries w.name.result w.value.result
          ∙ ap (λ (n : List ℕ). put n w.value.result.now before) w.name.ensures ∙ ap (λ (x : List ℕ). put s.name x before) w.value.ensures
          in
          ap (λ (vs : List Variable). put_all c.args.line vs (drop (i + 1) settings)) made
          ∙ loop_puts c.args.line before settings i s c.loop-setting-test.true c.setting-item.is (omega (arith, w.if-number-line.true, c.number.ensures)) ∙ c.loop-setting.invariant
      | else-number-line w ↦
          ap (λ (vs : List Variable). put_all c.args.line vs (drop (i + 1) settings)) (ap (λ v. map shown v.entries) w.variables-is)
          ∙ loop_passes c.args.line before settings i s c.loop-setting-test.true c.setting-item.is (omega (arith, w.if-number-line.false, c.number.ensures)) ∙ c.loop-setting.invariant
    ]

pub returns : goal.returns
returns c = sym (loop_ends c.args.line (map shown c.loop-setting.variables.entries) c.args.settings.now c.loop-setting.setting-index c.loop-setting-test.false) ∙ c.loop-setting.invariant
