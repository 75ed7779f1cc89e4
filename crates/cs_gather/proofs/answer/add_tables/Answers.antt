use Rattle.std.proofs.Common.{◌≡◌, ◌∙◌, IfSome, inl, ◌-◌, List, drop, inr, length, map, subst, sym, take, ℕ, Option}
use Rattle.cs_io.specs.Files.{AreReadInTurn, IsFresh}
use Rattle.cs_files.proofs.TurnLemmas.{first_read}
use Rattle.cs_gather.specs.Tables.{Given}
use Rattle.cs_gather.specs.Answer.{Adds, AllAdded, FirstStops, Stops, sum_of}
use Rattle.cs_files.specs.Trouble.{Trouble, trouble}
use Rattle.cs_files.specs.declared.fault.Fault.{Fault}
use Rattle.cs_gather.proofs.AnswerLemmas.{err_so, some_so}
use Rattle.cs_gather.proofs.PathLemmas.{cut_first}
use Rattle.cs_gather.proofs.answer.add_tables.Goals as goal

pub returns-in_err-add_table-clause-turn : goal.returns-in_err-add_table-clause-turn
returns-in_err-add_table-clause-turn g c =
    let rest = c.loop-rest.rest.now in
    let given = c.given-item.result in
    let whole = cut_first rest given c.in-len1-up.len_at_least c.given-item.is in
    let later = map (λ (x : Given). x.path) (take (length rest - 1) (drop 1 rest)) in
    let old = g.I.Inputs.reads c.loop-rest.inputs in
    let new = g.I.Inputs.reads c.add_table.new.inputs in
    c.loop-rest.invariant.turn new (subst (λ (gs : List Given). AreReadInTurn (map (λ x. x.path) gs) old new) (sym whole) (first_read given.path later old new c.add_table.ensures.alone))

pub loop-rest-preserved : goal.loop-rest-preserved
loop-rest-preserved g c =
    let files = g.I.Inputs.whole c.args.inputs.now in
    let rest = c.loop-rest.rest.now in
    let given = c.given-item.result in
    let whole = cut_first rest given c.in-len1-up.len_at_least c.given-item.is in
    let old = sum_of c.loop-rest.gathering in
    let mid = sum_of c.add_table.new.gathering in
    let so_far = c.loop-rest.invariant in
    let one = λ (fresh : IsFresh files (g.I.Inputs.left c.args.inputs.now)). subst (λ (w : List ℕ → Option (List ℕ)). Adds w given old mid) so_far.whole (c.in_ok-add_table.ensures.adds (so_far.fresh fresh)) in
    record {
      whole = c.add_table.ensures.whole ∙ so_far.whole;
      fresh = λ fresh. c.in_ok-add_table.ensures.fresh (so_far.fresh fresh);
      adds = λ fresh more h. so_far.adds fresh more (subst (λ (gs : List Given). AllAdded files gs old more) (sym whole) (mid, one fresh, h));
      stops = λ fresh failed t h. so_far.stops fresh failed t (subst (λ (gs : List Given). FirstStops files failed gs old t) (sym whole) (inr (mid, one fresh, h)));
      turn = λ new h. so_far.turn new (subst (λ (gs : List Given). AreReadInTurn (map (λ x. x.path) gs) (g.I.Inputs.reads c.loop-rest.inputs) new) (sym whole) (g.I.Inputs.reads c.add_table.new.inputs, c.add_table.ensures.alone, h));
    }

pub returns-in_err-add_table-clause-stops : goal.returns-in_err-add_table-clause-stops
returns-in_err-add_table-clause-stops g c = λ fresh.
    let files = g.I.Inputs.whole c.args.inputs.now in
    let failed = g.I.Inputs.failed c.add_table.new.inputs in
    let old = sum_of c.loop-rest.gathering in
    let rest = c.loop-rest.rest.now in
    let given = c.given-item.result in
    let so_far = c.loop-rest.invariant in
    let fault = c.in_err-add_table.field-0.0 in
    let here = Stops (g.I.Inputs.whole c.loop-rest.inputs) failed given old in
    let whole = cut_first rest given c.in-len1-up.len_at_least c.given-item.is in
    let stops_all = FirstStops files failed c.args.tables.now (sum_of c.args.gathering.now) in
    let same = λ (t : Trouble) (stops : here t). subst (λ (w : List ℕ → Option (List ℕ)). Stops w failed given old t) so_far.whole stops in
    let first = some_so here stops_all (trouble fault) (λ t stops. so_far.stops fresh failed t (subst (λ (gs : List Given). FirstStops files failed gs old t) (sym whole) (inl (same t stops)))) (c.in_err-add_table.ensures.stops (so_far.fresh fresh)) in
    err_so (λ (e : Fault). e ≡ fault) (λ (e : Fault). IfSome (trouble e) stops_all) c.from_residual.result (λ e same. subst (λ (f : Fault). IfSome (trouble f) stops_all) (sym same) first) c.from_residual.ensures.1
