use Rattle.std.proofs.Common.{◌<◌, ◌++◌, ◌∙◌, ℕ, List, sym, ap, subst, arith, filter, map, slice_index}
use Rattle.std.specs.Prelude.{flat_map}
use Rattle.std.proofs.lemmas.List.{get_or-replicate}
use Rattle.cs_windows.specs.declared.links.Link.{Link}
use Rattle.cs_windows.specs.Links.{AreLinked}
use Rattle.cs_windows.specs.Occupied.{job_of}
use Rattle.cs_windows.specs.Window.{reaches}
use Rattle.cs_windows.specs.Windows.{starting}
use Rattle.cs_windows.proofs.Linked.{minute_step}
use Rattle.cs_windows.proofs.Minutes.{minutes_all}
use Rattle.cs_windows.proofs.list.add_day.Goals as goal

pub link_jobs-requires-clause-none : goal.link_jobs-requires-clause-none
link_jobs-requires-clause-none c = λ minute lt. get_or-replicate 1440 minute 0 0 lt

pub add_linked-requires : goal.add_linked-requires
add_linked-requires c =
    let minute = c.loop-first.first-index in
    let begun = filter reaches (starting c.args.day c.args.day_back minute 0 (map job_of c.args.occupied.now)) in
    let lt : minute < 1440 = omega arith in
    (begun, subst (λ (links : List Link). AreLinked links (slice_index c.link_jobs.new.firsts minute) begun) (sym c.deref.ensures.value) (c.in_ok-link_jobs.ensures minute lt))

pub loop-first-preserved : goal.loop-first-preserved
loop-first-preserved c =
    let minute = c.loop-first.first-index in
    let f = λ (m : ℕ). starting c.args.day c.args.day_back m 0 (map job_of c.args.occupied.now) in
    let lt : minute < 1440 = omega arith in
    minute_step reaches f minute c.args.windows.now.items c.loop-first.windows.items c.add_linked.new.windows.items c.loop-first.invariant
    (c.in_ok-add_linked.ensures (filter reaches (f minute)) (subst (λ (links : List Link). AreLinked links (slice_index c.link_jobs.new.firsts minute) (filter reaches (f minute))) (sym c.deref.ensures.value) (c.in_ok-link_jobs.ensures minute lt)))

pub returns : goal.returns
returns c =
    let f = λ (m : ℕ). starting c.args.day c.args.day_back m 0 (map job_of c.args.occupied.now) in
    c.loop-first.invariant ∙ ap (λ (xs : List ℕ). c.args.windows.now.items ++ filter reaches (flat_map f xs)) (minutes_all c.loop-first.first-index (omega arith))
