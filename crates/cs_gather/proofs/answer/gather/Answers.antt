use Rattle.std.proofs.Common.{◌≡◌, ◌++◌, ◌∙◌, [], List, IfSome, Some, inl, inr, map, option_map, subst, true}
use Rattle.cs_args.specs.Asked.{Text}
use Rattle.cs_args.specs.Asked.{asked_gather}
use Rattle.cs_io.specs.Files.{AreReadInTurn}
use Rattle.cs_files.specs.Response.{Ending}
use Rattle.cs_files.specs.Trouble.{IsHonest, ends, trouble}
use Rattle.cs_files.specs.Turn.{gather_paths}
use Rattle.cs_files.proofs.TroubleLemmas.{honest_fault}
use Rattle.cs_files.proofs.TurnLemmas.{none_read}
use Rattle.cs_gather.specs.Tables.{AreNamed, Given}
use Rattle.cs_gather.specs.Answer.{AllAdded, FirstStops, GathersAll, ShowsGathered, nothing, sum_of}
use Rattle.cs_gather.specs.declared.line.Gathered.{Gathered}
use Rattle.cs_gather.proofs.AnswerLemmas.{all_paths, ends_for, honest_shown, if_ok}
use Rattle.cs_gather.proofs.answer.gather.Goals as goal

pub returns-in_err-push_named-clause-turn : goal.returns-in_err-push_named-clause-turn
returns-in_err-push_named-clause-turn g c = none_read (map (λ given. given.path) c.args.found.items ++ gather_paths (asked_gather c.args.request.now)) (g.I.Inputs.reads c.args.inputs.now)

pub returns-in_err-from_slice-clause-turn : goal.returns-in_err-from_slice-clause-turn
returns-in_err-from_slice-clause-turn g c = none_read (map (λ given. given.path) c.args.found.items ++ gather_paths (asked_gather c.args.request.now)) (g.I.Inputs.reads c.args.inputs.now)

pub returns-in-Ok-clause-status : goal.returns-in-Ok-clause-status
returns-in-Ok-clause-status g c =
    let failed = g.I.Inputs.failed c.add_tables.new.inputs in
    let reads = g.I.Inputs.reads c.add_tables.new.inputs in
    let sum = sum_of c.add_tables.new.gathering in
    if_ok (ShowsGathered sum) (IsHonest failed reads) c.show.result (λ r shown. honest_shown failed reads sum r shown) c.show.ensures

pub returns-in-Ok-clause-value : goal.returns-in-Ok-clause-value
returns-in-Ok-clause-value g c = λ fresh.
    let files = g.I.Inputs.whole c.args.inputs.now in
    let failed = g.I.Inputs.failed c.add_tables.new.inputs in
    let (named, is, are) = c.in_ok-push_named.ensures in
    let sum = sum_of c.add_tables.new.gathering in
    let some = subst (λ (old : List Gathered). AllAdded files c.as_slice-all.result.now (record { commands = old; is_whole = true }) sum) c.new.ensures.items (c.in-Ok.ensures.adds fresh) in
    let added = subst (λ (ts : List Given). AllAdded files ts nothing sum) (c.as_slice-all.ensures.value ∙ is) some in
    if_ok (ShowsGathered sum) (λ (r : Ending). (n : List Given) × AreNamed (asked_gather c.args.request.now) n × GathersAll files failed (c.args.found.items ++ n) r) c.show.result (λ r shown. (named, are, inl (sum, added, shown))) c.show.ensures

pub returns-in-Ok-clause-turn : goal.returns-in-Ok-clause-turn
returns-in-Ok-clause-turn g c =
    let (named, is, are) = c.in_ok-push_named.ensures in
    let paths = all_paths (asked_gather c.args.request.now) c.args.found.items named c.as_slice-all.result.now (c.as_slice-all.ensures.value ∙ is) are in
    subst (λ (ps : List Text). AreReadInTurn ps (g.I.Inputs.reads c.args.inputs.now) (g.I.Inputs.reads c.add_tables.new.inputs)) paths c.add_tables.ensures.turn

pub returns-in-Err-clause-turn : goal.returns-in-Err-clause-turn
returns-in-Err-clause-turn g c =
    let (named, is, are) = c.in_ok-push_named.ensures in
    let paths = all_paths (asked_gather c.args.request.now) c.args.found.items named c.as_slice-all.result.now (c.as_slice-all.ensures.value ∙ is) are in
    subst (λ (ps : List Text). AreReadInTurn ps (g.I.Inputs.reads c.args.inputs.now) (g.I.Inputs.reads c.add_tables.new.inputs)) paths c.add_tables.ensures.turn

pub returns-in-Err-clause-value : goal.returns-in-Err-clause-value
returns-in-Err-clause-value g c = λ fresh.
    let files = g.I.Inputs.whole c.args.inputs.now in
    let failed = g.I.Inputs.failed c.add_tables.new.inputs in
    let (named, is, are) = c.in_ok-push_named.ensures in
    let tables = c.args.found.items ++ named in
    let fault = c.in-Err.fault in
    let notes = c.as_slice.result.now in
    let told = λ (r : Ending). option_map (ends notes) (trouble fault) ≡ Some r in
    let some = subst (λ (old : List Gathered). IfSome (trouble fault) (FirstStops files failed c.as_slice-all.result.now (record { commands = old; is_whole = true }))) c.new.ensures.items (c.in-Err.ensures.stops fresh) in
    let first = subst (λ (ts : List Given). IfSome (trouble fault) (FirstStops files failed ts nothing)) (c.as_slice-all.ensures.value ∙ is) some in
    if_ok told (λ (r : Ending). (n : List Given) × AreNamed (asked_gather c.args.request.now) n × GathersAll files failed (c.args.found.items ++ n) r) c.response.result (λ r tells. (named, are, inr (ends_for (FirstStops files failed tables nothing) notes (trouble fault) r first tells))) c.response.ensures

pub returns-in-Err-clause-status : goal.returns-in-Err-clause-status
returns-in-Err-clause-status g c =
    let failed = g.I.Inputs.failed c.add_tables.new.inputs in
    let reads = g.I.Inputs.reads c.add_tables.new.inputs in
    let told = λ (r : Ending). option_map (ends c.as_slice.result.now) (trouble c.in-Err.fault) ≡ Some r in
    if_ok told (IsHonest failed reads) c.response.result (λ r is. honest_fault failed reads c.as_slice.result.now c.in-Err.fault r c.in-Err.ensures.status is) c.response.ensures
