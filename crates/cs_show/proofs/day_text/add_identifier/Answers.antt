use Rattle.std.proofs.Common.{rules, ◌≡◌, ◌++◌, codes}
use Rattle.cs_show.specs.DayText.{identifier_line}
use Rattle.cs_show.proofs.TextLemmas.{three_parts}
use Rattle.cs_show.proofs.day_text.add_identifier.Goals as goal

pub returns : goal.returns
unfolding identifier_line
returns c =
    let job : c.extend_from_slice.new.self.items ≡ c.args.text.now.items ++ codes "job " = search rules in
    let name : c.extend_from_slice-2.new.self.items ≡ c.extend_from_slice.new.self.items ++ c.args.identifier.now = search rules in
    let rest = c.in_ok-extend_from_slice-3.ensures.items in
    three_parts _ _ _ _ _ _ _ job name (rw c.as_slice-2.ensures at rest)
