use Rattle.cs_report.proofs.warning.push_number_warning.Goals as goal

pub returns : goal.returns
returns c =
    let e = c.push_named.ensures in
    rw (c.word.ensures.word, c.command.ensures, c.from.ensures, c.number.ensures) at e
