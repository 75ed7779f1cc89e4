use Rattle.std.proofs.Common.{◌≡◌, ◌<◌, ◌∙◌, ◌++◌, ◌+◌, ◌∷◌, [], ℕ, List, ap, append_assoc, get_or, length, sym, take}
use Rattle.std.proofs.lemmas.List.{take_more}
use Rattle.std.specs.List.{AllZip, concat}
use Rattle.cs_advise.specs.Room.{IsRoomLine}
use Rattle.cs_advise.proofs.Advised.{joined, zipped}
use Rattle.cs_advise.proofs.rooms.rooms_text.Goals as goal

one_more : {A B : Type 0} (R : A → B → Type 0) (xs : List A) (i : ℕ) (x : A) (ys : List B) (y : B) → i < length xs → AllZip R (take i xs) ys → R (get_or xs i x) y → AllZip R (take (i + 1) xs) (ys ++ y ∷ [])
one_more R xs i x ys y lt all r = rw (take_more xs i x lt) (zipped R (take i xs) ys (get_or xs i x) y all r)

pub loop-room-preserved : goal.loop-room-preserved
loop-room-preserved g c =
    let (lines, told, out) = c.loop-room.invariant in
    let line = c.in_ok-line.line.items in
    let longer : c.extend_from_slice.new.self.items ≡ c.loop-room.text.items ++ line = c.in_ok-extend_from_slice.ensures.items ∙ ap (λ (l : List ℕ). c.loop-room.text.items ++ l) c.as_slice.ensures.value in (
      lines ++ line ∷ [],
      one_more (IsRoomLine c.args.plan.now) c.as_slice-each.result.now c.loop-room.room-index _ lines line c.loop-room-test.true told c.in_ok-line.ensures,
      longer ∙ (rw (out, joined lines line) (append_assoc c.args.head.now (concat lines) line)),
    )
