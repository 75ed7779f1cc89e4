use Rattle.std.proofs.Common.{◌≡◌, ◌++◌, ◌∙◌, List, ℕ, append_assoc, codes, string_bytes}
use Rattle.std.specs.Fmt.{decimal}
use Rattle.cs_advise.specs.Names.{job_label}
use Rattle.cs_advise.proofs.rooms.room_line.Goals as goal

chained : (job front max middle most more : List ℕ) → (((((job ++ front) ++ max) ++ middle) ++ most) ++ more) ≡ job ++ (front ++ (max ++ (middle ++ (most ++ more))))
chained job front max middle most more =
    append_assoc ((((job ++ front) ++ max) ++ middle)) most more
    ∙ append_assoc ((job ++ front) ++ max) middle (most ++ more)
    ∙ append_assoc (job ++ front) max (middle ++ (most ++ more))
    ∙ append_assoc job front (max ++ (middle ++ (most ++ more)))

pub returns : goal.returns
returns c = (
  string_bytes c.in_ok-end.end,
  rw (
    c.in_ok-extend_from_slice-3.ensures.items,
    c.as_bytes.ensures.value,
    c.in_ok-push_number-2.ensures,
    c.from-2.ensures,
    c.in_ok-extend_from_slice-2.ensures.items,
    c.in_ok-push_number.ensures,
    c.from.ensures,
    c.in_ok-extend_from_slice.ensures.items,
    c.in_ok-push_label.ensures,
    c.new-line.ensures.items,
  ) (chained (job_label c.args.plan.now c.args.room.job) (codes ": max ") (decimal c.args.room.max) (codes ", safe up to ") (decimal c.args.room.most) (string_bytes c.in_ok-end.end)),
)
