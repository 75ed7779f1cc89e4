use Rattle.std.proofs.Common.{◌≡◌, [], inr, map, option_map, sym, subst, ap, ◌∙◌}
use Rattle.clap.specs.Words.{HasKind, fault_of, found_of, is_simple, is_simple_and_free, rows_of, subcommand_of, subcommand_rows_of}
use Rattle.clap.specs.declared.parser.matches.ArgMatches.TheViews.{out-ArgMatches}
use Rattle.cs_args.specs.CommandLine.{asked_by, cronsafe_app}
use Rattle.cs_args.proofs.CommandLineLemmas.{asked_named, asked_none, fault_parses, is_known, is_told, name_met, request_parses}
use Rattle.cs_args.proofs.command_line.parse_words.Goals as goal

pub returns-in-Err : goal.returns-in-Err
returns-in-Err g c =
    let words = map g.S.AsStr.text c.args.words.now in
    let app = c.in_ok-command.ensures in
    let kinds = c.in-Err.ensures.kinds (ap is_simple_and_free app ∙ is_known) in
    fault_parses words c.in-Err.error c.fault_of.result (subst (λ a. HasKind (fault_of a words) c.in-Err.error) app kinds) c.fault_of.ensures

pub returns-in-Some : goal.returns-in-Some
returns-in-Some g c =
    let words = map g.S.AsStr.text c.args.words.now in
    let app = c.in_ok-command.ensures in
    let none : fault_of cronsafe_app words ≡ [] = subst (λ a. fault_of a words ≡ []) app (c.in-Ok.ensures.kinds (ap is_simple_and_free app ∙ is_known)) in
    let walk : subcommand_rows_of c.in-Ok.matches ≡ subcommand_of cronsafe_app words = (c.in-Ok.ensures.matches (ap is_simple app ∙ is_told)).1 ∙ ap (λ a. subcommand_of a words) app in
    let subcommand = subcommand_of cronsafe_app words in
    let named = ap (option_map (λ p. p.0)) (sym walk) ∙ sym (name_met (out-ArgMatches c.in-Ok.matches).subcommand) ∙ sym c.in-Some.ensures.name in
    let listed = ap (option_map (λ p. p.1)) (sym walk) ∙ sym c.in-Some.ensures.rows in
    let asks = asked_named subcommand c.in-Some.name.now (rows_of (found_of c.in-Some.given.now)) named listed in
    request_parses words (asked_by c.in-Some.name.now (rows_of (found_of c.in-Some.given.now))) none asks c.asked_by.result c.asked_by.ensures

pub returns : goal.returns
returns g c =
    let words = map g.S.AsStr.text c.args.words.now in
    let app = c.in_ok-command.ensures in
    let none : fault_of cronsafe_app words ≡ [] = subst (λ a. fault_of a words ≡ []) app (c.in-Ok.ensures.kinds (ap is_simple_and_free app ∙ is_known)) in
    let walk : subcommand_rows_of c.in-Ok.matches ≡ subcommand_of cronsafe_app words = (c.in-Ok.ensures.matches (ap is_simple app ∙ is_told)).1 ∙ ap (λ a. subcommand_of a words) app in
    inr (none, asked_none (subcommand_of cronsafe_app words) (ap (option_map (λ p. p.1)) (sym walk) ∙ sym c.in-None.ensures.rows))
