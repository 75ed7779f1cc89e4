use Rattle.std.proofs.Common.{◌+◌, ◌<◌, ◌≤◌, ◌++◌, [], ◌∷◌, refl, arith}
use Rattle.std.specs.Prelude.{Some}
use Rattle.std.proofs.lemmas.List.Elements.{All-pop, All-push, All-same}
use Rattle.cs_chart.specs.declared.bar.Bar.{Bar}
use Rattle.cs_chart.specs.Bars.{IsBarOf}
use Rattle.cs_chart.proofs.Joined.{joined}
use Rattle.cs_chart.proofs.marks.Drawn.push.Goals as goal

pub returns-then-bar-saturating_add-clause-each : goal.returns-then-bar-saturating_add-clause-each
returns-then-bar-saturating_add-clause-each c = λ held all own.
    let near : c.args.bar.from < c.in-Some.last.to + c.args.gap = omega arith in
    let order : c.in-Some.last.from ≤ c.args.bar.from = omega arith in
    let both : Bar = record { from = c.in-Some.last.from; to = c.max.result } in
    let p = All-pop (IsBarOf held c.args.gap) c.args.self.now.bars.items c.pop.new.self.items (Some c.in-Some.last) c.in-Some.ensures.items all in
    All-same (IsBarOf held c.args.gap) c.push-then-bar-saturating_add.new.self.items (c.pop.new.self.items ++ (both ∷ [])) c.in_ok-push-2.ensures.items
    (All-push (IsBarOf held c.args.gap) c.pop.new.self.items both p.0
    (joined held c.args.gap c.in-Some.last c.args.bar both p.1 own order near refl c.max.ensures))

pub returns-clause-each : goal.returns-clause-each
returns-clause-each c = λ held all own.
    let p = All-pop (IsBarOf held c.args.gap) c.args.self.now.bars.items c.pop.new.self.items (Some c.in-Some.last) c.in-Some.ensures.items all in
    All-same (IsBarOf held c.args.gap) c.push-3.new.self.items (c.push-2.new.self.items ++ (c.args.bar ∷ [])) c.in_ok-push-4.ensures.items
    (All-push (IsBarOf held c.args.gap) c.push-2.new.self.items c.args.bar
    (All-same (IsBarOf held c.args.gap) c.push-2.new.self.items (c.pop.new.self.items ++ (c.in-Some.last ∷ [])) c.in_ok-push-3.ensures.items
    (All-push (IsBarOf held c.args.gap) c.pop.new.self.items c.in-Some.last p.0 p.1)) own)
