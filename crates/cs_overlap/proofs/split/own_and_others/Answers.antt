use Rattle.std.proofs.Common.{arith, refl, List, ℕ, ◌+◌, ◌*◌, ◌≡◌, ap, ◌∙◌, get_or, subst}
use Rattle.cs_windows.specs.declared.window.Window.{Window}
use Rattle.cs_overlap.specs.declared.role.Role.{Role}
use Rattle.cs_overlap.specs.declared.split.Share.{Share}
use Rattle.cs_overlap.specs.declared.table.Amount.TheVariants.{OwnWeight}
use Rattle.cs_overlap.specs.Roles.{role_at}
use Rattle.cs_overlap.specs.Split.{share_in}
use Rattle.cs_overlap.specs.Sums.{AreAtMost, amount_in, has_group_or_catches}
use Rattle.cs_overlap.proofs.SplitLemmas.{share_is, kept_more}
use Rattle.cs_overlap.proofs.TallyLemmas.{tally_step, none_at, none_up_to}
use Rattle.cs_overlap.proofs.split.own_and_others.Goals as goal

pub loop-window-init : goal.loop-window-init
loop-window-init c = record {
  begun_long = refl;
  ended_long = refl;
  begun_small = λ k. omega (arith, none_at 1441 k);
  ended_small = λ k. omega (arith, none_at 1441 k);
  tally = λ m lt. omega (arith, none_up_to 1441 (m + 1));
  kept = c.new-others.ensures.items;
}

pub loop-window-preserved : goal.loop-window-preserved
loop-window-preserved c =
    let i = c.loop-window.window-index in
    let roles : List Role = c.args.roles.now in
    let ws : List Window = c.args.windows.now in
    let d : Window = record { job = 0; day_back = 0; from = 0; reach = 0 } in
    let w : Window = get_or ws i d in
    let f = amount_in roles OwnWeight in
    let first = c.minutes_held-first.result.0 in
    let end = c.minutes_held-first.result.1 in
    let share : Share = c.share_at-share.result in
    let is : share ≡ share_in (role_at roles w.job) = c.share_at-share.ensures ∙ share_is roles c.as_slice.result.now w.job (c.as_slice.ensures.value ∙ c.in_ok-shares.ensures) in
    let weighs : share.weight ≡ f w = ap (λ (s : Share). s.weight) is in
    let keeps : share.is_kept ≡ has_group_or_catches roles w = ap (λ (s : Share). s.is_kept) is in
    let begins = c.raise_at.ensures.raised in
    let ends = c.raise_at-in-loop-window.ensures.raised in
    let next : 255 * i + 255 ≡ 255 * (i + 1) = omega arith in
    record {
      begun_long = begins.long ∙ c.loop-window.invariant.begun_long;
      ended_long = ends.long ∙ c.loop-window.invariant.ended_long;
      begun_small = subst (λ (most : ℕ). AreAtMost most c.raise_at.new.table) next (c.raise_at.ensures.bound (255 * i) c.loop-window.invariant.begun_small);
      ended_small = subst (λ (most : ℕ). AreAtMost most c.raise_at-in-loop-window.new.table) next (c.raise_at-in-loop-window.ensures.bound (255 * i) c.loop-window.invariant.ended_small);
      tally = tally_step f ws i d c.loop-window-test.true first end share.weight c.minutes_held-first.ensures.range.0 c.minutes_held-first.ensures.held weighs
          c.loop-window.begun c.loop-window.ended c.raise_at.new.table c.raise_at-in-loop-window.new.table begins ends c.loop-window.invariant.tally;
      kept = kept_more roles ws i d c.loop-window-test.true share.is_kept keeps c.loop-window.others.items c.keep.new.others.items c.loop-window.invariant.kept c.in_ok-keep.ensures;
    }
