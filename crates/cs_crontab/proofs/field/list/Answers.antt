use Rattle.std.proofs.Common.{◌∙◌, ◌||◌, ap, sym, ℕ, List, length, refl}
use Rattle.std.specs.Option.{option_map}
use Rattle.std.proofs.lemmas.Result.{err_from_is_err_and}
use Rattle.cs_schedule.specs.Numbers.{has, numbers_where}
use Rattle.cs_crontab.specs.Reading.{item_of, items_of, list_of, items_behind}
use Rattle.cs_table.proofs.Results.{marked_ok}
use Rattle.cs_crontab.proofs.Lists.{with_numbers, goes_on, ends, is_done}
use Rattle.cs_crontab.proofs.field.list.Goals as goal

pub loop-item-init : goal.loop-item-init
unfolding list_of
loop-item-init c = rw c.none-numbers.ensures refl

pub returns-in_err-item : goal.returns-in_err-item
returns-in_err-item c =
    let p = err_from_is_err_and c.from_residual.result c.from_residual.ensures.1 in
    rw (p.1, p.2)
    (sym (ends c.args.part c.loop-item.numbers c.loop-item.rest.now c.first_item.result.0.now (items_behind (option_map (λ x. x.now) c.first_item.result.1)) c.in_err-item.field-0.0 (list_of c.args.part c.args.word.now)
    c.first_item.ensures.items
    (sym c.in_err-item.ensures)
    c.loop-item.invariant))

pub returns-in-None : goal.returns-in-None
returns-in-None c =
    let numbers : List ℕ = c.loop-item.numbers in
    let more =
    goes_on c.args.part numbers c.in_ok-item.item c.first_item.result.0.now (items_behind (option_map (λ x. x.now) c.first_item.result.1)) (list_of c.args.part c.args.word.now)
    (marked_ok (length c.loop-item.rest.now) (length c.first_item.result.0.now) (item_of c.args.part c.first_item.result.0.now) c.in_ok-item.item (sym c.in_ok-item.ensures))
    (ap (λ (ts : List (List ℕ)). with_numbers numbers (items_of c.args.part ts)) (sym c.first_item.ensures.items) ∙ c.loop-item.invariant)
    in
    rw c.union-numbers.ensures
    (sym (is_done c.args.part (λ n. has numbers n || has c.in_ok-item.item n) (list_of c.args.part c.args.word.now)
    (ap (λ o. with_numbers (numbers_where (λ n. has numbers n || has c.in_ok-item.item n)) (items_of c.args.part (items_behind (option_map (λ x. x.now) o)))) (sym c.in-None.is) ∙ more)))

pub loop-item-preserved : goal.loop-item-preserved
loop-item-preserved c =
    let numbers : List ℕ = c.loop-item.numbers in
    let more =
    goes_on c.args.part numbers c.in_ok-item.item c.first_item.result.0.now (items_behind (option_map (λ x. x.now) c.first_item.result.1)) (list_of c.args.part c.args.word.now)
    (marked_ok (length c.loop-item.rest.now) (length c.first_item.result.0.now) (item_of c.args.part c.first_item.result.0.now) c.in_ok-item.item (sym c.in_ok-item.ensures))
    (ap (λ (ts : List (List ℕ)). with_numbers numbers (items_of c.args.part ts)) (sym c.first_item.ensures.items) ∙ c.loop-item.invariant)
    in
    rw c.union-numbers.ensures
    (ap (λ o. with_numbers (numbers_where (λ n. has numbers n || has c.in_ok-item.item n)) (items_of c.args.part (items_behind (option_map (λ x. x.now) o)))) (sym c.in-Some.is) ∙ more)
