use Rattle.std.proofs.Common.{◌≡◌, true, ℕ, List, filter, arith, ap, ◌∙◌, subst, below_more, nat_lt, ◌<◌, ◌≤◌, ⊎_elim}
use Rattle.std.proofs.lemmas.Bool.{cases_lt, lt-ltb}
use Rattle.cs_windows.specs.declared.window.Window.{Window}
use Rattle.cs_overlap.specs.Sums.{AreApartBy, AreFreeBy, IsAdded, IsLoad, is_of}
use Rattle.cs_overlap.proofs.SumLemmas.{apart_groups, apart_others, free_groups, free_others, load_from, load_on, of_grouped}
use Rattle.cs_overlap.proofs.sums.kept_until.Goals as goal

pub loop-group-init : goal.loop-group-init
loop-group-init c = record {
  long = c.add_catch_up.ensures.day;
  load = λ t. load_from c.args.roles.now c.args.windows.now c.sums-load.result c.add_catch_up.new.table c.sums-load.ensures.each c.add_catch_up.ensures.each;
  apart_range = omega arith;
  apart = λ g lt. absurd (omega (arith, lt));
  free_range = omega arith;
  free = λ g lt. absurd (omega (arith, lt));
}

pub loop-group-preserved : goal.loop-group-preserved
loop-group-preserved c =
    let roles = c.args.roles.now in
    let ws = c.args.windows.now in
    let g = c.loop-group.group in
    let old : List ℕ = c.loop-group.load in
    let new : List ℕ = c.add_group.new.load in
    let found : c.in_ok-found.found.items ≡ filter (is_of roles g) ws =
    c.in_ok-found.ensures ∙ (ap (λ (xs : List Window). filter (is_of roles g) xs) (c.as_slice-others.ensures.value ∙ c.in_ok-most.ensures.others) ∙ of_grouped roles g ws) in
    let same = c.as_slice-found.ensures.value ∙ found in
    let added : nat_lt c.quick_until-quick.result.within 1440 ≡ true → IsAdded roles (filter (is_of roles g) ws) old new = λ t. subst (λ (xs : List Window). IsAdded roles xs old new) same (c.add_group.ensures.each t) in
    let apart : ℕ = c.min-apart.result in
    let free : ℕ = c.min-free.result in
    record {
      long = c.add_group.ensures.day;
      load = λ t. load_on roles g ws old new (c.loop-group.invariant.load t) (added t);
      apart_range = omega (arith, c.min-apart.ensures, c.loop-group.invariant.apart_range);
      apart = below_more (λ g. AreApartBy apart roles (filter (is_of roles g) ws)) g
          (λ h lt m below. c.loop-group.invariant.apart h lt m (omega (arith, below, c.min-apart.ensures)))
          (subst (λ (xs : List Window). AreApartBy apart roles xs) same (λ m below. c.apart_until.ensures.apart m (omega (arith, below, c.min-apart.ensures))));
      free_range = omega (arith, c.min-free.ensures, c.loop-group.invariant.free_range);
      free = below_more (λ g. AreFreeBy free roles (filter (is_of roles g) ws)) g
          (λ h lt m below. c.loop-group.invariant.free h lt m (omega (arith, below, c.min-free.ensures)))
          (subst (λ (xs : List Window). AreFreeBy free roles xs) same (λ m below. c.free_until.ensures.free m (omega (arith, below, c.min-free.ensures))));
    }

pub returns-then-min-eq-MINUTES_OF_DAY-clause-apart : goal.returns-then-min-eq-MINUTES_OF_DAY-clause-apart
returns-then-min-eq-MINUTES_OF_DAY-clause-apart c =
    let roles = c.args.roles.now in
    let quick = c.quick_until-quick in
    apart_others roles quick.result.apart c.args.groups c.args.windows.now c.requires.grouped
    (subst (λ (xs : List Window). AreApartBy quick.result.apart roles xs) (c.as_slice-others.ensures.value ∙ c.in_ok-most.ensures.others) quick.ensures.apart)

pub returns-then-min-eq-MINUTES_OF_DAY-clause-free : goal.returns-then-min-eq-MINUTES_OF_DAY-clause-free
returns-then-min-eq-MINUTES_OF_DAY-clause-free c =
    let roles = c.args.roles.now in
    let quick = c.quick_until-quick in
    free_others roles quick.result.free c.args.groups c.args.windows.now c.requires.grouped
    (subst (λ (xs : List Window). AreFreeBy quick.result.free roles xs) (c.as_slice-others.ensures.value ∙ c.in_ok-most.ensures.others) quick.ensures.free)

pub returns-clause-apart : goal.returns-clause-apart
returns-clause-apart c = apart_groups c.args.roles.now c.loop-group.apart c.args.groups c.args.windows.now c.requires.grouped (λ g lt. c.loop-group.invariant.apart g (omega (arith, lt)))

pub returns-clause-free : goal.returns-clause-free
returns-clause-free c = free_groups c.args.roles.now c.loop-group.free c.args.groups c.args.windows.now c.requires.grouped (λ g lt. c.loop-group.invariant.free g (omega (arith, lt)))

pub returns-clause-within : goal.returns-clause-within
returns-clause-within c =
    let roles = c.args.roles.now in
    let quick = c.quick_until-quick in
    let end : ℕ = quick.result.within in
    λ m lt. ⊎_elim (λ (h : m < end). quick.ensures.within c.args.groups m h)
    (λ (h : end ≤ m).
    let below : m < c.first_over.result = omega (arith, lt, h, c.max.ensures) in
    let day : m < 1440 = omega (arith, below, c.first_over.ensures.range) in
    let all : c.loop-group.group ≡ c.args.groups = omega arith in
    let load = subst (λ (n : ℕ). IsLoad roles c.args.windows.now n c.loop-group.load) all (c.loop-group.invariant.load (lt-ltb end 1440 (omega (arith, h, day)))) in
    omega (arith, c.first_over.ensures.within m below, load m day))
    (cases_lt m end)
