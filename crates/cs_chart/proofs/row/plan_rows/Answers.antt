use Rattle.std.proofs.Common.{◌≡◌, ◌+◌, ◌++◌, suc, List, [], ◌∷◌, append_assoc, arith}
use Rattle.std.specs.Prelude.{map}
use Rattle.std.proofs.lemmas.List.{map-append}
use Rattle.cs_chart.specs.Chart.{shown_of}
use Rattle.cs_chart.proofs.row.plan_rows.Goals as goal

rows_next : {X Y : Type 0} (f : X → Y) (old new : List X) (x : X) (a b : List Y) (y : Y) → new ≡ old ++ (x ∷ []) → map f old ≡ a ++ b → f x ≡ y
    → map f new ≡ a ++ (b ++ (y ∷ []))
rows_next f old new x a b y is so at = rw (is, map-append, so, at) (append_assoc a b (y ∷ []))

pub loop-place-2-preserved : goal.loop-place-2-preserved
loop-place-2-preserved c =
    let e : c.loop-place-2.place + 1 ≡ suc c.loop-place-2.place = omega arith in
    rw (e, map-append) (rows_next shown_of c.loop-place-2.rows.items c.push-in-loop-place-2.new.self.items c.plan_row.result _ _ _
    c.in_ok-push-2.ensures.items c.loop-place-2.invariant (rw c.crons-crons.ensures.value at c.plan_row.ensures))
