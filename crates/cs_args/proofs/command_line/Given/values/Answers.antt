use Rattle.std.proofs.Common.{◌≡◌, ◌∙◌, IfOk, [], ap, map, option_map, rules, subst, sym, unwrap_or}
use Rattle.clap.specs.Words.{found_of}
use Rattle.clap.proofs.WalkLemmas.{raw_values-rows}
use Rattle.cs_args.proofs.command_line.Given.values.Goals as goal

pub returns-in-Some : goal.returns-in-Some
returns-in-Some c =
    let rows = c.get_strs.ensures ∙ raw_values-rows (found_of c.args.self.matches.now) c.args.id.now in
    let given = ap (option_map (λ s. map (λ text. text.now) s.now)) (sym c.in-Some.is) ∙ rows in
    let values = ap (λ found. unwrap_or found []) given in
    subst (λ texts. IfOk c.from_slice.result (λ values. map (λ text. text.now) values.items ≡ texts)) values (search rules)

pub returns-in-None : goal.returns-in-None
returns-in-None c =
    let rows = c.get_strs.ensures ∙ raw_values-rows (found_of c.args.self.matches.now) c.args.id.now in
    let given = ap (option_map (λ s. map (λ text. text.now) s.now)) (sym c.in-None.is) ∙ rows in
    let values = ap (λ found. unwrap_or found []) given in
    ap (map (λ text. text.now)) c.new.ensures.items ∙ values
