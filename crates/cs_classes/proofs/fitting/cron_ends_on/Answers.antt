use Rattle.std.proofs.Common.{◌≡◌, ℕ, ◌+◌, ◌*◌, ◌∙◌, List, ap, refl, rules, tests}
use Rattle.std.specs.Prelude.{nat_le}
use Rattle.std.specs.List.{list_all}
use Rattle.std.proofs.lemmas.Iterator.Consumers.{YieldsList-from_first}
use Rattle.std.proofs.lemmas.Iterator.Search.{all_from_yields_List}
use Rattle.cs_schedule.specs.Minutes.{minutes_where}
use Rattle.cs_zone.specs.Starts.{is_due}
use Rattle.cs_classes.proofs.Lasting.{of_minutes}
use Rattle.cs_classes.proofs.fitting.cron_ends_on.Goals as goal

pub returns : goal.returns
returns c =
    let in_time = λ (m : ℕ). nat_le (m + c.args.reach) c.minutes_of-end.result in
    let due = is_due c.args.zone c.args.schedule.now c.args.kind in
    let ran : c.all.result ≡ list_all (λ m. nat_le (m + c.args.reach) c.minutes_of-end.result) c.iter.result = all_from_yields_List in_time _ _ _ c.all.ensures.ran (YieldsList-from_first (λ (x : ℕ). x) (λ (l : List ℕ). l) c.iter.result refl) (λ x b q k. search (rules, tests)) in
    ran ∙ ap (list_all in_time) (c.iter.ensures ∙ c.minutes_of.ensures)
    ∙ ap (λ (end : ℕ). list_all (λ m. nat_le (m + c.args.reach) end) (minutes_where due)) c.minutes_of-end.ensures
    ∙ of_minutes (λ m. nat_le (m + c.args.reach) (1440 * c.args.days)) due
