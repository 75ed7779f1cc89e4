use Rattle.std.proofs.Common.{◌≡◌, ◌%◌, ◌&&◌, ◌||◌, ℕ, Bool, List, true, false, cond, nat_eq, refl, sym, ap, ◌∙◌, arith}
use Rattle.std.proofs.lemmas.Bool.{eqb-false, or_parts}
use Rattle.cs_schedule.specs.Numbers.{has}
use Rattle.cs_schedule.specs.Times.{is_time_due}
use Rattle.cs_zone.specs.Starts.{is_due}
use Rattle.cs_zone.specs.Shape.{is_due_shifted, is_turned}
use Rattle.cs_zone.proofs.Collecting.{has_where, is_found, never, of_both}
use Rattle.cs_zone.proofs.Comings.{unlisted}
use Rattle.cs_zone.proofs.shape.searched.Goals as goal

either_day : (t listed : Bool) → (cond t true true && listed) ≡ listed
either_day true listed = refl
either_day false listed = refl

pub returns : goal.returns
returns c =
    let z = c.args.zone in
    let s = c.args.schedule.now in
    let due = is_due z s c.args.kind in
    let times = c.times.result in
    let shown = c.insert.new.self in
    let jump = c.jumps_on-forward.result.0 % 1440 in
    let first = c.search.ensures (λ (_ : ℕ). false) (c.new-minutes.ensures ∙ sym never) in
    c.search-2.ensures (is_found (λ (_ : ℕ). false) due times) first
    ∙ of_both times shown due (λ m lt out past.
    let here : is_time_due s m ≡ false = sym (has_where (is_time_due s) m lt) ∙ ap (λ (xs : List ℕ). has xs m) (sym c.times.ensures) ∙ out in
    let parts = or_parts (nat_eq m jump) (has c.shifted-shown.result m) (sym (has_where (λ k. nat_eq k jump || has c.shifted-shown.result k) m lt) ∙ ap (λ (xs : List ℕ). has xs m) (sym c.insert.ensures) ∙ past) in
    let turned = sym (either_day (is_turned z m) _) ∙ sym (has_where (is_due_shifted z s true true) m lt) ∙ ap (λ (xs : List ℕ). has xs m) (sym c.shifted-shown.ensures.value) ∙ parts.1 in
    unlisted z s c.args.kind m c.shifted-shown.ensures.zone lt here turned (λ e. eqb-false m jump parts.0 (omega (arith, e, c.jumps_on-forward.ensures.forward))))
