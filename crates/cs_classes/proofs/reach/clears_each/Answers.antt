use Rattle.std.proofs.Common.{◌≡◌, ℕ, ◌↔◌, All, List, ◌∷◌, false, IsTrue, map, Bor, refl, sym, ◌∙◌, subst}
use Rattle.std.proofs.lemmas.Bool.{both_ways}
use Rattle.std.proofs.lemmas.List.Elements.{All-cons, All-head, All-tail}
use Rattle.cs_wait.specs.Bounds.{ClearsBy, at}
use Rattle.cs_wait.specs.declared.backlog.Backlog.{Backlog}
use Rattle.cs_classes.proofs.reach.clears_each.Goals as goal

-- one that holds may be left out
one_less : (P : ℕ → Type 0) (all left rest : List ℕ) (m : ℕ) → left ≡ m ∷ rest → (All P all ↔ All P left) → P m → (All P all ↔ All P rest)
one_less P all left rest m e k here = (
  λ h. All-tail P m rest (subst (λ (ms : List ℕ). All P ms) e (k.0 h)),
  λ h. k.1 (subst (λ (ms : List ℕ). All P ms) (sym e) (All-cons P m rest here h)),
)

first_holds : (P : ℕ → Type 0) (all left rest : List ℕ) (m : ℕ) → left ≡ m ∷ rest → (All P all ↔ All P left) → All P all → P m
first_holds P all left rest m e k h = All-head P m rest (subst (λ (ms : List ℕ). All P ms) e (k.0 h))

pub loop-minute-init : goal.loop-minute-init
loop-minute-init c =
    let P = λ (m : ℕ). ClearsBy (map (λ (b : Bor Backlog). at b.now) c.args.bounds.now) m c.args.reach in
    let same : c.into_iter-minute-iterator.result ≡ c.args.minutes.now = c.into_iter-minute-iterator.ensures.into_iter_gives ∙ c.iter-minute-items.ensures in (
      λ h. subst (λ (ms : List ℕ). All P ms) (sym same) h,
      λ h. subst (λ (ms : List ℕ). All P ms) same h,
    )

pub returns-then-not-clears_by : goal.returns-then-not-clears_by
returns-then-not-clears_by c =
    let P = λ (m : ℕ). ClearsBy (map (λ (b : Bor Backlog). at b.now) c.args.bounds.now) m c.args.reach in (
      λ (t : IsTrue false). absurd (both_ways false refl t),
      λ h. absurd (both_ways c.clears_by.result c.if-not-clears_by.true (c.clears_by.ensures.1 (first_holds P c.args.minutes.now c.loop-minute.minute-iterator c.next.new.self c.in-Some.minute c.in-Some.ensures.steps c.loop-minute.invariant h))),
    )

pub loop-minute-preserved : goal.loop-minute-preserved
loop-minute-preserved c =
    let P = λ (m : ℕ). ClearsBy (map (λ (b : Bor Backlog). at b.now) c.args.bounds.now) m c.args.reach in
    one_less P c.args.minutes.now c.loop-minute.minute-iterator c.next.new.self c.in-Some.minute c.in-Some.ensures.steps c.loop-minute.invariant (c.clears_by.ensures.0 c.if-not-clears_by.false)
