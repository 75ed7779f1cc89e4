use Rattle.std.proofs.Common.{◌≡◌, ◌≢◌, ◌++◌, ◌∙◌, ◌==◌, ℕ, true≢false, List, [], Bor, Option, Some, IsSome, ap, eqb-true, inl, inr, length, map, option_map, refl, rules, subst, sym}
use Rattle.std.proofs.lemmas.List.{nil_from_length}
use Rattle.cs_args.specs.Asked.{Text}
use Rattle.cs_args.specs.Asked.{asked_gather}
use Rattle.cs_files.specs.Response.{Ending}
use Rattle.cs_files.specs.Trouble.{IsHonest, ends}
use Rattle.cs_gather.specs.Listing.{unlisted_trouble}
use Rattle.cs_gather.specs.Answer.{AnswersGather, GathersAll, IsBare}
use Rattle.cs_gather.specs.Tables.{AreFound, AreNamed, Given}
use Rattle.cs_gather.proofs.AnswerLemmas.{all_read, honest_unlisted, if_ok, root_read, tells_unlisted}
use Rattle.cs_gather.proofs.answer.answer_gather.Goals as goal

abbrev now_of : Option (Bor Text) → Option Text
now_of root = option_map (λ r. r.now) root

pub returns-then-is_empty-clause-value : goal.returns-then-is_empty-clause-value
returns-then-is_empty-clause-value g c = λ fresh.
    let root = ap now_of c.in-Some.is in
    let found = c.in-Ok.found.items in
    let are = subst (λ (r : Option Text). AreFound g.I.Folders.tree r found) (sym root) c.in-Ok.ensures.found in
    let some = subst (λ (r : Option Text). IsSome r) (sym root) refl in
    let none : found ≡ [] = sym c.as_slice-tables.ensures.value ∙ nil_from_length c.as_slice-tables.result.now (eqb-true (length c.as_slice-tables.result.now) 0 (sym c.is_empty.ensures ∙ c.if-is_empty.true)) in
    let out : c.refused.result.out ≡ [] = search rules in
    inl (found, are, inl ((some, none), ap (λ (x : Ending). x.status) c.refused.ensures, out))

pub returns-then-is_empty-clause-turn : goal.returns-then-is_empty-clause-turn
returns-then-is_empty-clause-turn g c =
    root_read (asked_gather c.args.request.now) c.in-Some.root.now _ _ (ap now_of c.in-Some.is) c.in-Ok.ensures.turn

pub returns-else-is_empty-clause-value : goal.returns-else-is_empty-clause-value
returns-else-is_empty-clause-value g c = λ fresh.
    let a = asked_gather c.args.request.now in
    let root = ap now_of c.in-Some.is in
    let tree = g.I.Folders.tree in
    let files = g.I.Inputs.whole c.args.inputs.now in
    let whole = g.I.Inputs.whole c.tables_below.new.inputs in
    let failed = g.I.Inputs.failed c.gather-in-Ok.new.inputs in
    let found = c.in-Ok.found.items in
    let are = subst (λ (r : Option Text). AreFound tree r found) (sym root) c.in-Ok.ensures.found in
    let filled : ¬ (IsBare a.root found) = λ bare. true≢false (ap (λ (xs : List Given). length xs == 0) (sym (c.as_slice-tables.ensures.value ∙ bare.1)) ∙ (sym c.is_empty.ensures ∙ c.if-is_empty.false)) in
    let gathers = λ (r : Ending). (n : List Given) × AreNamed a n × GathersAll whole failed (found ++ n) r in
    if_ok gathers (AnswersGather a tree files failed) c.gather-in-Ok.result
    (λ r all. inl (found, are, inr (filled, (all.0, all.1, subst (λ (w : List ℕ → Option (List ℕ)). GathersAll w failed (found ++ all.0) r) c.in-Ok.ensures.whole all.2))))
    (c.gather-in-Ok.ensures.value (c.in-Ok.ensures.fresh fresh))

pub returns-else-is_empty-clause-turn : goal.returns-else-is_empty-clause-turn
returns-else-is_empty-clause-turn g c =
    all_read (asked_gather c.args.request.now) c.in-Some.root.now (map (λ given. given.path) c.in-Ok.found.items) _ _ _ (ap now_of c.in-Some.is) c.in-Ok.ensures.turn c.gather-in-Ok.ensures.turn

pub returns-in-Err-clause-value : goal.returns-in-Err-clause-value
returns-in-Err-clause-value g c = λ fresh.
    let some = subst (λ (r : Option Text). IsSome r) (sym (ap now_of c.in-Some.is)) refl in
    let told = λ (r : Ending). option_map (ends c.as_slice.result.now) (unlisted_trouble c.in-Err.unlisted) ≡ Some r in
    if_ok told (AnswersGather (asked_gather c.args.request.now) g.I.Folders.tree (g.I.Inputs.whole c.args.inputs.now) (g.I.Inputs.failed c.tables_below.new.inputs)) c.response.result
    (λ r is. inr (some, tells_unlisted c.in-Err.unlisted c.as_slice.result.now r is)) c.response.ensures

pub returns-in-Err-clause-status : goal.returns-in-Err-clause-status
returns-in-Err-clause-status g c =
    let failed = g.I.Inputs.failed c.tables_below.new.inputs in
    let reads = g.I.Inputs.reads c.tables_below.new.inputs in
    let told = λ (r : Ending). option_map (ends c.as_slice.result.now) (unlisted_trouble c.in-Err.unlisted) ≡ Some r in
    if_ok told (IsHonest failed reads) c.response.result (λ r is. honest_unlisted failed reads c.in-Err.unlisted c.as_slice.result.now r c.in-Err.ensures.fails is) c.response.ensures

pub returns-in-Err-clause-turn : goal.returns-in-Err-clause-turn
returns-in-Err-clause-turn g c =
    root_read (asked_gather c.args.request.now) c.in-Some.root.now _ _ (ap now_of c.in-Some.is) c.in-Err.ensures.turn
