use Rattle.std.proofs.Common.{◌∙◌, [], ap, map, option_map, sym, unwrap_or}
use Rattle.std.specs.List.{slice_get}
use Rattle.clap.specs.Words.{found_of}
use Rattle.clap.proofs.WalkLemmas.{raw_values-rows}
use Rattle.cs_args.proofs.command_line.Given.second.Goals as goal

pub returns-in-Some : goal.returns-in-Some
returns-in-Some c =
    let rows = c.get_strs.ensures ∙ raw_values-rows (found_of c.args.self.matches.now) c.args.id.now in
    let given = ap (option_map (λ s. map (λ text. text.now) s.now)) (sym c.in-Some.is) ∙ rows in
    c.second.ensures ∙ ap (λ found. slice_get (unwrap_or found []) 1) given

pub returns-in-None : goal.returns-in-None
returns-in-None c =
    let rows = c.get_strs.ensures ∙ raw_values-rows (found_of c.args.self.matches.now) c.args.id.now in
    let given = ap (option_map (λ s. map (λ text. text.now) s.now)) (sym c.in-None.is) ∙ rows in
    ap (λ found. slice_get (unwrap_or found []) 1) given
