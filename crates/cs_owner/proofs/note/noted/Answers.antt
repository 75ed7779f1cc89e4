use Rattle.std.proofs.Common.{rules, ◌≡◌, ◌≢◌, ◌++◌, ◌∙◌, ℕ, List, None, Some, append_assoc, ap, codes, sym}
use Rattle.std.proofs.lemmas.Bool.Decides.{Decides-eqb}
use Rattle.std.proofs.lemmas.List.{append_cancel_left}
use Rattle.std.proofs.lemmas.Slice.Eq.{strip_prefix_is}
use Rattle.cs_owner.specs.Owners.{note_front, noted}
use Rattle.cs_owner.proofs.Notes.{is_noted, not_noted}
use Rattle.cs_owner.proofs.note.noted.Goals as goal

behind_sign : (table line behind rest : List ℕ) → line ≡ codes "# " ++ behind → line ≡ note_front table ++ rest → behind ≡ table ++ (codes ":" ++ rest)
behind_sign table line behind rest cut is = append_cancel_left (codes "# ") behind (table ++ (codes ":" ++ rest)) (sym cut ∙ is ∙ ap (λ (l : List ℕ). codes "# " ++ l) (append_assoc table (codes ":") rest))

pub returns-in_err-strip_prefix-2 : goal.returns-in_err-strip_prefix-2
returns-in_err-strip_prefix-2 c =
    let cut : c.args.line.now ≡ codes "# " ++ c.in_ok-strip_prefix.field-0.now = strip_prefix_is Decides-eqb c.args.line.now (codes "# ") (Some c.in_ok-strip_prefix.field-0) c.in_ok-strip_prefix.ensures.cases in
    let none : (rest : List ℕ) → c.in_ok-strip_prefix.field-0.now ≢ c.args.table.now ++ rest = strip_prefix_is Decides-eqb c.in_ok-strip_prefix.field-0.now c.args.table.now None c.in_err-strip_prefix-2.ensures.cases in
    let off : None ≡ noted c.args.table.now c.args.line.now = not_noted c.args.table.now c.args.line.now (λ rest is. none (codes ":" ++ rest) (behind_sign c.args.table.now c.args.line.now c.in_ok-strip_prefix.field-0.now rest cut is)) in
    search rules

pub returns-in_err-behind : goal.returns-in_err-behind
returns-in_err-behind c =
    let cut : c.args.line.now ≡ codes "# " ++ c.in_ok-strip_prefix.field-0.now = strip_prefix_is Decides-eqb c.args.line.now (codes "# ") (Some c.in_ok-strip_prefix.field-0) c.in_ok-strip_prefix.ensures.cases in
    let named : c.in_ok-strip_prefix.field-0.now ≡ c.args.table.now ++ c.in_ok-strip_prefix-2.field-0.now = strip_prefix_is Decides-eqb c.in_ok-strip_prefix.field-0.now c.args.table.now (Some c.in_ok-strip_prefix-2.field-0) c.in_ok-strip_prefix-2.ensures.cases in
    let none : (rest : List ℕ) → c.in_ok-strip_prefix-2.field-0.now ≢ codes ":" ++ rest = strip_prefix_is Decides-eqb c.in_ok-strip_prefix-2.field-0.now (codes ":") None c.in_err-behind.ensures.cases in
    let off : None ≡ noted c.args.table.now c.args.line.now =
    not_noted c.args.table.now c.args.line.now (λ rest is.
    none rest (append_cancel_left c.args.table.now c.in_ok-strip_prefix-2.field-0.now (codes ":" ++ rest) (sym named ∙ behind_sign c.args.table.now c.args.line.now c.in_ok-strip_prefix.field-0.now rest cut is))) in
    search rules

pub returns : goal.returns
returns c =
    let cut : c.args.line.now ≡ codes "# " ++ c.in_ok-strip_prefix.field-0.now = strip_prefix_is Decides-eqb c.args.line.now (codes "# ") (Some c.in_ok-strip_prefix.field-0) c.in_ok-strip_prefix.ensures.cases in
    let named : c.in_ok-strip_prefix.field-0.now ≡ c.args.table.now ++ c.in_ok-strip_prefix-2.field-0.now = strip_prefix_is Decides-eqb c.in_ok-strip_prefix.field-0.now c.args.table.now (Some c.in_ok-strip_prefix-2.field-0) c.in_ok-strip_prefix-2.ensures.cases in
    let ends : c.in_ok-strip_prefix-2.field-0.now ≡ codes ":" ++ c.in_ok-behind.behind.now = strip_prefix_is Decides-eqb c.in_ok-strip_prefix-2.field-0.now (codes ":") (Some c.in_ok-behind.behind) c.in_ok-behind.ensures.cases in
    ap (λ (l : List ℕ). Some l) c.digits.ensures.rest
    ∙ is_noted c.args.table.now c.args.line.now c.in_ok-behind.behind.now (cut ∙ ap (λ (l : List ℕ). codes "# " ++ l) (named ∙ ap (λ (l : List ℕ). c.args.table.now ++ l) ends ∙ sym (append_assoc c.args.table.now (codes ":") c.in_ok-behind.behind.now)))
