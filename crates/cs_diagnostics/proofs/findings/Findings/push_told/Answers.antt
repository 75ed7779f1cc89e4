use Rattle.std.proofs.Common.{◌≡◌, ◌∙◌, ◌++◌, ◌∷◌, [], ap, map, refl}
use Rattle.std.proofs.lemmas.List.{map-append}
use Rattle.cs_diagnostics.specs.Printed.{printed_oddities, words_in, words_told}
use Rattle.cs_diagnostics.proofs.findings.Findings.push_told.Goals as goal

pub returns : goal.returns
returns c =
    let found = (map words_told c.args.told.now.items ++ map words_in c.args.self.now.faults.items)
    ++ map words_in (printed_oddities c.args.self.now) in
    let before : map words_told c.push_told-2.new.told.items ≡ found =
    c.in_ok-push_told-2.ensures
    ∙ rw (c.in_ok-push_told.ensures, c.as_slice.ensures.value, c.printed_oddities.ensures) refl in (
      c.in_ok-last.last ∷ [],
      ap (map words_told) c.in_ok-push.ensures.items
          ∙ (map-append words_told _ (c.in_ok-last.last ∷ [])
          ∙ ap (λ l. l ++ map words_told (c.in_ok-last.last ∷ [])) before),
    )
