use Rattle.std.proofs.Common.{◌-◌, ◌<◌, subst}
use Rattle.std.specs.Prelude.{count_by}
use Rattle.cs_args.specs.CommandLine.{is_dash, values_in}
use Rattle.cs_args.specs.Table.{words_given}
use Rattle.cs_args.proofs.CommandLineLemmas.{more_than_one}
use Rattle.cs_args.proofs.command_line.Given.is_twice_standard.Goals as goal

pub returns-then-more-dashes : goal.returns-then-more-dashes
returns-then-more-dashes c =
    let at = c.loop-id in
    let more = subst (λ n. 1 - at.dashes < n) c.dashes-more.ensures c.if-more-dashes.true in
    more_than_one (λ id. count_by is_dash (values_in id (words_given c.args.self))) (λ id. id.now) c.args.ids.now at.id-index at.dashes _ _ c.loop-id-test.true more at.invariant.all
