use Rattle.std.proofs.Common.{◌≡◌, ◌∙◌, ◌∷◌, ◌++◌, [], ap, sym, List, ℕ, Option, append_assoc}
use Rattle.std.specs.List.{join_with_byte}
use Rattle.std.specs.Option.{option_map}
use Rattle.cs_crontab.specs.Command.{pieces_of}
use Rattle.cs_crontab.proofs.Pieces.{lines_behind, join_behind}
use Rattle.cs_crontab.proofs.command.lines.Goals as goal

pub loop-behind-init : goal.loop-behind-init
loop-behind-init c =
    let rest : Option (List ℕ) = option_map (λ r. r.now) c.in_ok-lines.behind in
    sym (ap (join_with_byte 10) c.in_ok-lines.ensures.pieces ∙ join_behind c.in_ok-lines.lines.items rest)

pub loop-behind-preserved : goal.loop-behind-preserved
loop-behind-preserved c =
    let lines : List ℕ = c.loop-behind.lines.items in
    let line : List ℕ = c.in_ok-line.line.items in
    let rest : List ℕ = c.in-Some.rest.now in
    let more : Option (List ℕ) = option_map (λ r. r.now) c.in_ok-line.more in
    let grown : c.extend_from_slice.new.self.items ≡ (lines ++ (10 ∷ [])) ++ line =
    c.in_ok-extend_from_slice.ensures.items ∙ ap (λ (l : List ℕ). l ++ c.as_slice.result.now) c.in_ok-push.ensures.items ∙ ap (λ (l : List ℕ). (lines ++ (10 ∷ [])) ++ l) c.as_slice.ensures.value
    in
    let read : line ++ lines_behind more ≡ join_with_byte 10 (pieces_of rest) = sym (ap (join_with_byte 10) c.in_ok-line.ensures.pieces ∙ join_behind line more) in
    ap (λ (l : List ℕ). l ++ lines_behind more) grown ∙ append_assoc (lines ++ (10 ∷ [])) line (lines_behind more)
    ∙ append_assoc lines (10 ∷ []) (line ++ lines_behind more) ∙ ap (λ (l : List ℕ). lines ++ (10 ∷ l)) read
    ∙ ap (λ o. lines ++ lines_behind (option_map (λ r. r.now) o)) (sym c.in-Some.is) ∙ c.loop-behind.invariant
