use Rattle.std.proofs.Common.{rules, ◌≡◌, Some, option_map, sym, ap, ◌∙◌}
use Rattle.json.specs.Value.{value_view}
use Rattle.cs_decl.specs.Doubled.{doubled}
use Rattle.cs_decl.proofs.Repeats.{no_text, in_text}
use Rattle.cs_decl.proofs.doubled.doubled_member.Goals as goal

pub returns-in-Err-Invalid : goal.returns-in-Err-Invalid
returns-in-Err-Invalid c = no_text c.args.text.now (c.in-Err-Invalid.ensures.invalid (search rules))

pub returns-in-Some : goal.returns-in-Some
returns-in-Some c =
    let read = c.in-Ok.ensures.ok in
    let found = c.in_ok-name.ensures in
    let copied = c.in_ok-from_slice-in-Some.ensures in
    let name : c.in_ok-from_slice-in-Some.field-0 ≡ c.in-Some.name.now = copied ∙ c.as_bytes.ensures.value in
    let told : Some c.in-Some.name.now ≡ doubled (value_view c.in-Ok.value) =
    ap (option_map (λ (n : _). n.now)) (sym c.in-Some.is) ∙ found in
    ap Some name ∙ (told ∙ sym (in_text c.args.text.now (value_view c.in-Ok.value) read.0 read.1))
