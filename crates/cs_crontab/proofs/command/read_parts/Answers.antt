use Rattle.std.proofs.Common.{◌≡◌, ◌∙◌, ◌∷◌, ap, sym, List, ℕ, Option, Some, []}
use Rattle.std.specs.Option.{option_map}
use Rattle.cs_crontab.specs.Command.{pieces_of, pieces_behind, parts_from}
use Rattle.cs_crontab.proofs.Pieces.{input_some}
use Rattle.cs_crontab.proofs.command.read_parts.Goals as goal
use Rattle.cs_crontab.proofs.command.read_parts.Goals.{in-None, in-Some+in_ok-lines-in-Some}

pub returns : goal.returns
returns c =
    let first : List ℕ = c.in_ok-first.first.items in
    let input : Option (List ℕ) = c.match-behind.input in
    elim c.match-behind.branch [
      | in-None w ↦
          let read : pieces_of c.args.command.now ≡ first ∷ [] = c.in_ok-first.ensures.pieces ∙ ap (λ o. first ∷ pieces_behind (option_map (λ r. r.now) o)) w.in-None.is in
          ap (λ (l : List ℕ). (l, input)) c.from_vec-2.ensures ∙ ap (λ (o : Option (List ℕ)). (first, o)) w.input-is ∙ sym (ap parts_from read)
      | in-Some+in_ok-lines-in-Some w ↦
          let rest : List ℕ = w.in-Some.rest.now in
          let read : pieces_of c.args.command.now ≡ first ∷ pieces_of rest = c.in_ok-first.ensures.pieces ∙ ap (λ o. first ∷ pieces_behind (option_map (λ r. r.now) o)) w.in-Some.is in
          ap (λ (l : List ℕ). (l, input)) c.from_vec-2.ensures ∙ ap (λ (o : Option (List ℕ)). (first, o)) w.input-is
          ∙ ap (λ (l : List ℕ). (first, Some l)) (w.from_vec.ensures ∙ w.in_ok-lines-in-Some.ensures) ∙ ap (λ (o : Option (List ℕ)). (first, o)) (sym (input_some rest)) ∙ sym (ap parts_from read)
    ]
