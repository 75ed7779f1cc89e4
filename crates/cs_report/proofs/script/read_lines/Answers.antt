use Rattle.std.proofs.Common.{◌≡◌, ◌+◌, ◌∙◌, ap, sym, arith, length, List, ℕ, []}
use Rattle.std.proofs.lemmas.Bool.{eqb-true}
use Rattle.std.proofs.lemmas.List.{nil_from_length}
use Rattle.std.proofs.lemmas.Result.{err_from_is_err_and}
use Rattle.cs_table.specs.Text.{lines_of}
use Rattle.cs_table.proofs.Lines.{lines_of_nothing}
use Rattle.cs_report.specs.Script.{lines_from}
use Rattle.cs_report.proofs.Loop.{goes_on, ends, is_done}
use Rattle.cs_report.proofs.script.read_lines.Goals as goal

pub returns-in_err-take : goal.returns-in_err-take
returns-in_err-take c =
    let n : ℕ = c.loop-rest.number + 1 in
    let p = err_from_is_err_and c.from_residual.result c.from_residual.ensures.1 in
    rw (p.1, p.2, ← c.loop-rest.invariant.so_far, c.first_line.ensures.line)
    (ends c.in_err-take.field-0.0 c.args.plan.now n c.loop-rest.draft c.first_line.result.0.now (lines_of c.first_line.result.1.now) c.in_err-take.ensures)

pub loop-rest-preserved : goal.loop-rest-preserved
loop-rest-preserved c =
    let n : ℕ = c.loop-rest.number + 1 in
    let shorter = c.first_line.ensures.shorter in
    record {
      within = omega arith;
      so_far =
          goes_on c.args.plan.now n c.loop-rest.draft c.take.new.self c.first_line.result.0.now (lines_of c.first_line.result.1.now) c.in_ok-take.ensures
          ∙ ap (λ (ls : List (List ℕ)). lines_from c.args.plan.now n c.loop-rest.draft ls) (sym c.first_line.ensures.line) ∙ c.loop-rest.invariant.so_far;
    }

pub returns : goal.returns
returns c =
    let n : ℕ = c.loop-rest.number + 1 in
    let nothing : c.loop-rest.rest.now ≡ [] = nil_from_length c.loop-rest.rest.now (eqb-true (length c.loop-rest.rest.now) 0 (sym c.is_empty.ensures ∙ c.loop-rest-test.false)) in
    sym c.loop-rest.invariant.so_far ∙ ap (λ (ls : List (List ℕ)). lines_from c.args.plan.now n c.loop-rest.draft ls) (ap lines_of nothing ∙ lines_of_nothing) ∙ is_done c.args.plan.now n c.loop-rest.draft
