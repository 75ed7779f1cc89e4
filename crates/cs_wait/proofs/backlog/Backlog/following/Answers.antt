use Rattle.std.proofs.Common.{◌≡◌, ℕ, ◌+◌, ◌-◌, ◌≤◌, ◌++◌, List, Vec, Global, drop, length, get_or, min, slice_index, sym, ap, ◌∙◌, subst, arith}
use Rattle.std.proofs.lemmas.List.{append-nil, drop_all}
use Rattle.cs_wait.specs.declared.backlog.Piece.{Piece}
use Rattle.cs_wait.specs.declared.backlog.TheConstants.{MAX_BACKLOG}
use Rattle.cs_wait.specs.Bounds.{IsBacklog, at, following, following_from}
use Rattle.cs_wait.proofs.Followed.{after, following_begins, following_follows, following_is_backlog, shows, turns}
use Rattle.cs_wait.proofs.backlog.Backlog.following.Goals.{then-bound-shown+in_ok-push, else-bound-shown}
use Rattle.cs_wait.proofs.backlog.Backlog.following.Goals as goal

all_written : (items whole : List Piece) (minute bound shown : ℕ) (sums : List ℕ) → length sums ≡ 1440 → 1440 ≤ minute → items ++ following_from minute bound shown (drop minute sums) ≡ whole → items ≡ whole
all_written items whole minute bound shown sums long past e =
    sym (append-nil items) ∙ (ap (λ (left : List ℕ). items ++ following_from minute bound shown left) (sym (drop_all minute sums (omega (arith, long, past)))) ∙ e)

pub loop-minute-init : goal.loop-minute-init
unfolding following
loop-minute-init c = (c.requires, omega arith, ap (λ ps. ps ++ following_from 0 c.args.first 0 c.by_minute-sums.result.now) c.new-list.ensures.items)

shown : (c : goal.After-bound_after-bound) → c.if-bound-shown.list.items ++ following_from c.loop-minute.minute c.loop-minute.bound c.loop-minute.bound (drop c.loop-minute.minute c.by_minute-sums.result.now) ≡ following c.args.first c.by_minute-sums.result.now
shown c =
    let sums = c.by_minute-sums.result.now in
    let minute = c.loop-minute.minute in
    let bound = c.loop-minute.bound in
    let here = following_from minute bound bound (drop minute sums) in
    elim c.if-bound-shown.branch [
      | then-bound-shown+in_ok-push w ↦
          ap (λ (ps : List Piece). ps ++ here) (ap (λ (v : Vec Piece Global). v.items) w.list-is ∙ w.in_ok-push.ensures.items)
          ∙ (sym (shows minute bound c.loop-minute.shown sums c.loop-minute.list.items (omega (arith, c.by_minute-sums.ensures.long, c.loop-minute-test.true)) w.if-bound-shown.true) ∙ c.loop-minute.invariant.2)
      | else-bound-shown w ↦
          ap (λ (v : Vec Piece Global). v.items ++ here) w.list-is
          ∙ (ap (λ (s : ℕ). c.loop-minute.list.items ++ following_from minute bound s (drop minute sums)) w.if-bound-shown.false ∙ c.loop-minute.invariant.2)
    ]

pub loop-minute-preserved : goal.loop-minute-preserved
loop-minute-preserved c =
    let sums = c.by_minute-sums.result.now in
    let minute = c.loop-minute.minute in
    let step = c.next_arrival-step.result in
    let items = c.if-bound-shown.list.items in
    let rest = drop (step + 1) sums in
    let bound = c.loop-minute.bound - (step - minute) in
    let fallen : c.saturating_sub-bound.result ≡ bound = c.saturating_sub-bound.ensures ∙ ap (λ (k : ℕ). c.loop-minute.bound - k) c.from.ensures in
    let next : c.bound_after-bound.result ≡ after bound (get_or sums step 0)
    = c.bound_after-bound.ensures ∙ (ap (λ (b : ℕ). after b (get_or sums c.from-in-loop-minute.result 0)) fallen ∙ ap (λ (k : ℕ). after bound (get_or sums k 0)) c.from-in-loop-minute.ensures) in
    let less : c.saturating_sub-shown.result ≡ bound - 1 = c.saturating_sub-shown.ensures ∙ ap (λ (b : ℕ). b - 1) fallen in
    let within = c.next_arrival-step.ensures.within in (
      omega (arith, next),
      omega (arith, within.1),
      ap (λ (b : ℕ). items ++ following_from (step + 1) b c.saturating_sub-shown.result rest) next
          ∙ (ap (λ (b : ℕ). items ++ following_from (step + 1) (after bound (get_or sums step 0)) b rest) less
          ∙ (ap (λ (ps : List Piece). items ++ ps) (sym (turns minute step c.loop-minute.bound sums within.0 (omega (arith, within.1, c.by_minute-sums.ensures.long)) c.loop-minute.invariant.0 c.next_arrival-step.ensures.quiet)) ∙ shown c)),
    )

pub of_pieces-requires : goal.of_pieces-requires
of_pieces-requires c =
    let written = all_written c.loop-minute.list.items (following c.args.first c.by_minute-sums.result.now) _ _ _ _ c.by_minute-sums.ensures.long c.loop-minute-test.false c.loop-minute.invariant.2 in
    subst IsBacklog (sym written) (following_is_backlog c.args.first c.by_minute-sums.result.now (omega (arith, c.by_minute-sums.ensures.long)) c.requires)

written : (c : goal.After-of_pieces) → c.of_pieces.result ≡ following c.args.first c.by_minute-sums.result.now
written c = c.of_pieces.ensures ∙ all_written _ _ _ _ _ _ c.by_minute-sums.ensures.long c.loop-minute-test.false c.loop-minute.invariant.2

pub returns-clause-begins : goal.returns-clause-begins
returns-clause-begins c = ap (λ (ps : List Piece). at ps 0) (written c) ∙ following_begins c.args.first c.by_minute-sums.result.now c.by_minute-sums.ensures.long c.requires

pub returns-clause-follows : goal.returns-clause-follows
returns-clause-follows c = λ t lt.
    subst (λ (ps : List Piece). at ps (t + 1) ≡ min MAX_BACKLOG (at ps t + slice_index c.args.arrivals.now t - 1)) (sym (written c))
    (subst (λ (sums : List ℕ). at (following c.args.first c.by_minute-sums.result.now) (t + 1) ≡ min MAX_BACKLOG (at (following c.args.first c.by_minute-sums.result.now) t + slice_index sums t - 1)) c.by_minute-sums.ensures.value
    (following_follows c.args.first c.by_minute-sums.result.now t c.by_minute-sums.ensures.long c.requires lt))
