use Rattle.std.proofs.Common.{rules, ◌≡◌, ◌∙◌, ◌++◌, take, ℤ, Option, Some, None, true, false, get_or, int_eq, sym}
use Rattle.std.specs.List.{list_any}
use Rattle.indexmap.specs.IndexSet.{insert_key}
use Rattle.cs_decl.proofs.Numbers.{found_at, goes_on, passes_none, with_number, with_none, one_more}
use Rattle.cs_decl.proofs.Texts.{not_true, not_false}
use Rattle.cs_decl.proofs.twice.twice_number.Goals.{in-Some+in_ok-insert+else-not-branch, in_default}
use Rattle.cs_decl.proofs.twice.twice_number.Goals as goal

pub returns-then-not-branch : goal.returns-then-not-branch
returns-then-not-branch c =
    let x : Option ℤ = Some c.in-Some.number in
    let is : x ≡ get_or c.args.numbers.now c.loop-i.i x = search rules in
    let there = not_false _ _ c.in_ok-insert.ensures.added c.if-not-branch.true in
    let found : list_any (int_eq c.in-Some.number) c.loop-i.seen.keys ≡ true = search rules in
    found_at c.args.before.now c.args.numbers.now c.loop-i.i x _ c.loop-i-test.true is (sym (c.loop-i.invariant.seen c.in-Some.number) ∙ found) c.loop-i.invariant.rest

pub loop-i-preserved : goal.loop-i-preserved
loop-i-preserved c = elim c.match-number.branch [
  | in-Some+in_ok-insert+else-not-branch w ↦
      let x : Option ℤ = Some w.in-Some.number in
      let is : x ≡ get_or c.args.numbers.now c.loop-i.i x = search rules in
      let absent = not_true _ _ w.in_ok-insert.ensures.added w.if-not-branch.false in
      let new : list_any (int_eq w.in-Some.number) c.loop-i.seen.keys ≡ false = search rules in
      let keys : c.match-number.seen.keys ≡ insert_key int_eq c.loop-i.seen.keys w.in-Some.number = search rules in
      record {
        seen = rw (keys, ← one_more c.args.before.now c.args.numbers.now c.loop-i.i x c.loop-i-test.true is) (with_number c.loop-i.seen.keys (c.args.before.now ++ take c.loop-i.i c.args.numbers.now) w.in-Some.number c.loop-i.invariant.seen);
        rest = goes_on c.args.before.now c.args.numbers.now c.loop-i.i x _ c.loop-i-test.true is (sym (c.loop-i.invariant.seen w.in-Some.number) ∙ new) c.loop-i.invariant.rest;
      }
  | in_default w ↦
      let is : None ≡ get_or c.args.numbers.now c.loop-i.i None = search rules in
      record {
        seen = rw (w.seen-is, ← one_more c.args.before.now c.args.numbers.now c.loop-i.i None c.loop-i-test.true is) (with_none c.loop-i.seen.keys (c.args.before.now ++ take c.loop-i.i c.args.numbers.now) c.loop-i.invariant.seen);
        rest = passes_none c.args.before.now c.args.numbers.now c.loop-i.i _ c.loop-i-test.true is c.loop-i.invariant.rest;
      }
]
