use Rattle.std.proofs.Common.{◌≡◌, ◌∙◌, List, ap, sym, arith, refl, rules, tests}
use Rattle.std.specs.List.{list_all}
use Rattle.std.proofs.lemmas.Iterator.Consumers.{YieldsList-from_first}
use Rattle.std.proofs.lemmas.Iterator.Search.{all_from_yields_List}
use Rattle.cs_civil.specs.Calendar.{Kind}
use Rattle.cs_zone.specs.Starts.{is_due}
use Rattle.cs_windows.specs.Windows.{Job}
use Rattle.cs_classes.specs.Fitting.{ends_on}
use Rattle.cs_classes.proofs.Lasting.{short_fits}
use Rattle.cs_classes.proofs.fitting.cron_fits.Goals as goal

pub returns-then-from-minutes_of : goal.returns-then-from-minutes_of
returns-then-from-minutes_of c =
    let job : Job Kind = record { begins = is_due c.args.zone c.args.schedule.now; lasts = c.args.reach } in
    sym (short_fits job c.args.days c.requires (omega (arith, c.from.ensures, c.minutes_of.ensures, c.if-from-minutes_of.true)))

pub returns : goal.returns
returns c =
    let job : Job Kind = record { begins = is_due c.args.zone c.args.schedule.now; lasts = c.args.reach } in
    let ran : c.all.result ≡ list_all (ends_on (record { begins = is_due c.args.zone c.args.schedule.now; lasts = c.args.reach }) c.args.days) c.all_kinds.result = all_from_yields_List (ends_on job c.args.days) _ _ _ c.all.ensures.ran (YieldsList-from_first (λ (x : Kind). x) (λ (l : List Kind). l) c.all_kinds.result refl) (λ x b q k. search (rules, tests)) in
    ran ∙ ap (list_all (ends_on job c.args.days)) c.all_kinds.ensures.value
