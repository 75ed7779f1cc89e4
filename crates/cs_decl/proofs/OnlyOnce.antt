-- Cron starts each line of a plan at most once in a minute.
use Rattle.std.proofs.Common.{◌≡◌, ℕ, Bool, false, nat_lt, Ok, Some, None, get_or, subst, ◌∙◌, arith}
use Rattle.std.specs.Prelude.{All}
use Rattle.std.specs.List.{find, list_any, range_with_len}
use Rattle.std.proofs.lemmas.Bool.{ltb-false}
use Rattle.std.proofs.lemmas.List.Elements.{All-weaker}
use Rattle.std.proofs.lemmas.List.FromFn.{length-range_with_len, get_or-range_with_len}
use Rattle.cs_civil.specs.Calendar.{Kind}
use Rattle.cs_civil.specs.Order.{all_kinds, place}
use Rattle.cs_civil.proofs.Places.{at_place, count_kinds, place-lt}
use Rattle.cs_crontab.specs.Crontab.{Table as Crontab, CommandLine}
use Rattle.cs_crontab.specs.declared.table.When.{When}
use Rattle.cs_crontab.specs.declared.table.When.TheVariants.{At, Reboot}
use Rattle.cs_anacrontab.specs.Anacrontab.{Table as Anacrontab}
use Rattle.cs_plan.specs.Plan.{Declared}
use Rattle.cs_plan.specs.declared.fault.DeclFault.TheVariants as faults
use Rattle.cs_plan.specs.declared.fault.Place.TheVariants.{Line}
use Rattle.cs_plan.proofs.Plains.{find_none}
use Rattle.cs_zone.specs.Starts.{starts_on}
use Rattle.cs_zone.specs.Zone.{Zone}
use Rattle.cs_decl.specs.declared.entries.Entries.{Entries}
use Rattle.cs_decl.specs.Join.{joined, plan_of, rest, zone_of}
use Rattle.cs_decl.specs.TwiceStarted.{StartsOnce, is_twice, is_twice_on, starts_twice, twice_started}
use Rattle.cs_decl.proofs.Commands.{none_twice, plan_is}
use Rattle.cs_decl.proofs.Once.{none_pass}
use Rattle.cs_decl.proofs.Order.{alone}
use Rattle.cs_decl.proofs.Validity.{mapped_none}

each_once : (z : Zone) (when : When) → starts_twice z when ≡ false → StartsOnce z when
unfolding is_twice is_twice_on
each_once z Reboot none = tt
each_once z (At s) none = λ k m is lt.
    let on : Kind → Bool = λ day. list_any (λ minute. nat_lt 1 (starts_on z s day minute)) (range_with_len 0 1440) in
    let day = none_pass on all_kinds none (place k) k (omega (arith, place-lt k is, count_kinds)) in
    let this : on k ≡ false = subst (λ (x : Kind). on x ≡ false) (at_place k k is) day in
    let then = none_pass (λ minute. nat_lt 1 (starts_on z s k minute)) (range_with_len 0 1440) this m 0 (omega (arith, lt, length-range_with_len 0 1440)) in
    let at : get_or (range_with_len 0 1440) m 0 ≡ m = omega (arith, get_or-range_with_len 0 1440 m 0 lt) in
    let there : nat_lt 1 (starts_on z s k m) ≡ false = subst (λ (x : ℕ). nat_lt 1 (starts_on z s k x) ≡ false) at then in
    ltb-false 1 (starts_on z s k m) there

module _ (c : Crontab) (a : Anacrontab) (d : Entries) (plan : Declared) (made : joined c a d ≡ Ok plan) where
  none_found : find (λ line. starts_twice (zone_of d) line.when) (rest d c).lines ≡ None
  unfolding twice_started
  none_found = mapped_none (λ (l : CommandLine). (faults.StartsTwice, Some (Line l.number))) _ (alone _ ∙ none_twice c a d plan made)

  pub once : All (λ line. StartsOnce plan.zone line.when) plan.crontab.lines
  unfolding plan_of
  once =
      subst (λ (p : Declared). All (λ line. StartsOnce p.zone line.when) p.crontab.lines) (plan_is c a d plan made)
      (All-weaker (λ line. starts_twice (zone_of d) line.when ≡ false) (λ line. StartsOnce (zone_of d) line.when) (λ line none. each_once (zone_of d) line.when none) (rest d c).lines (find_none (λ line. starts_twice (zone_of d) line.when) (rest d c).lines none_found))
