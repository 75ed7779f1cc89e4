use Rattle.std.proofs.Common.{◌≡◌, ℕ, ◌+◌, ◌<◌, ◌++◌, ◌||◌, Bool, true, false, List, [], ◌∷◌, Bor, length, get_or, map, take, refl, sym, ap, ◌∙◌, if◌then◌else◌}
use Rattle.std.specs.List.{list_any}
use Rattle.std.proofs.lemmas.List.{map-append}
use Rattle.std.proofs.lemmas.List.Sums.{fold-append}
use Rattle.indexmap.specs.IndexSet.{insert_key}
use Rattle.cs_theorem.specs.Faults.{same_list}
use Rattle.cs_classes.specs.StandsFor.{distinct, with_list}
use Rattle.cs_classes.specs.ByClasses.{same_classes}
use Rattle.cs_classes.specs.Used.{classes_in}
use Rattle.cs_classes.specs.declared.classed.ClassedChain.{ClassedChain}
use Rattle.cs_classes.proofs.ByClasses.{same_either_way}
use Rattle.cs_classes.proofs.Searched.{one_more, slices_same}
use Rattle.cs_classes.proofs.working_out.distinct_lists.Goals as goal

abbrev now_of : Bor (List ℕ) → List ℕ
now_of list = list.now

-- a list is among lent ones where it is among what they lend
any_same : (key : Bor (List ℕ)) (lists : List (Bor (List ℕ))) → list_any (λ list. same_list list key.now) (map now_of lists) ≡ list_any (same_classes key) lists
any_same key [] = refl
any_same key (list ∷ lists) =
    ap (λ (b : Bool). b || list_any (λ list. same_list list key.now) (map now_of lists)) (same_either_way list.now key.now ∙ sym (slices_same key.now list.now))
    ∙ ap (λ (b : Bool). same_classes key list || b) (any_same key lists)

inserted : (key : Bor (List ℕ)) (lists : List (Bor (List ℕ))) → map now_of (insert_key same_classes lists key) ≡ with_list (map now_of lists) key.now
inserted key lists = by (list_any (same_classes key) lists) (any_same key lists)
  where
    by : (b : Bool) → list_any (λ list. same_list list key.now) (map now_of lists) ≡ b → map now_of (if b then lists else lists ++ key ∷ []) ≡ with_list (map now_of lists) key.now
    by true e = rw e refl
    by false e = rw e (map-append now_of lists (key ∷ []))

one_chain_more : (chains : List ClassedChain) (i : ℕ) (x : ClassedChain) → i < length chains → x ≡ get_or chains i x → distinct (map classes_in (take (i + 1) chains)) ≡ with_list (distinct (map classes_in (take i chains))) (classes_in x)
one_chain_more chains i x lt is =
    ap (λ (l : List ClassedChain). distinct (map classes_in l)) (sym (one_more chains i x lt is)) ∙ ap distinct (map-append classes_in (take i chains) (x ∷ []))
    ∙ fold-append with_list [] (map classes_in (take i chains)) (classes_in x ∷ [])

pub loop-chain-preserved : goal.loop-chain-preserved
loop-chain-preserved c =
    let chains = c.args.chains.now in
    let i = c.loop-chain.chain-index in
    let x = c.chain-item.result in
    ap (map now_of) c.in_ok-insert.ensures.keys ∙ inserted c.as_slice.result c.loop-chain.lists.keys
    ∙ ap (λ (lists : List (List ℕ)). with_list lists c.as_slice.result.now) c.loop-chain.invariant
    ∙ ap (with_list (distinct (map classes_in (take i chains)))) c.as_slice.ensures.value
    ∙ sym (one_chain_more chains i x c.loop-chain-test.true c.chain-item.is)
