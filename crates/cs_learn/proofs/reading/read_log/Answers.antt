use Rattle.std.proofs.Common.{rules, ◌≡◌, ◌≢◌, ◌≤◌, ◌<◌, ℕ, List, Option, None, Some, IfSome, take, [], ◌++◌, ◌∙◌, inr, length, subst, sym, refl}
use Rattle.cs_io.specs.Files.{IsFresh, IsNextOf}
use Rattle.cs_io.specs.declared.inputs.TheConstants.{MOST_READS}
use Rattle.cs_io.proofs.ReadLemmas.{goes_on, is_long, not_read, one_more, read_again, read_alone, still_fresh}
use Rattle.cs_learn.proofs.reading.read_log.Goals as goal

at_start : (o : Option (List ℕ)) → IfSome o (λ xs. (ys : List ℕ) × (xs ≡ [] ++ ys) × (o ≡ Some ys))
at_start None = tt
at_start (Some xs) = (xs, refl, refl)

pub loop-reads-init : goal.loop-reads-init
loop-reads-init g c =
    record {
      done = [];
      room = search rules;
      count = search rules;
      works = refl;
      parts = at_start (g.I.Inputs.left c.args.inputs.now c.args.path.now);
      whole = refl;
      alone = not_read c.args.path.now (g.I.Inputs.reads c.args.inputs.now);
      others = λ q other. refl;
    }

pub loop-reads-preserved : goal.loop-reads-preserved
loop-reads-preserved g c =
    let some_read : c.in_ok-n.n ≢ 0 = search rules in
    let bound : c.in_ok-n.n ≤ length c.read.new.buf = search rules in
    let done = c.loop-reads.invariant.done in
    record {
      done = done ++ take c.in_ok-n.n c.read.new.buf;
      room = search rules;
      count = one_more c.loop-reads._reads c.in_ok-n.n c.read.new.buf done c.loop-reads.invariant.count bound some_read;
      works = search rules;
      parts = goes_on (g.I.Inputs.whole c.loop-reads.inputs) (g.I.Inputs.left c.args.inputs.now) (g.I.Inputs.left c.loop-reads.inputs) (g.I.Inputs.left c.read.new.self) c.args.path.now c.in_ok-n.n c.read.new.buf done c.loop-reads.invariant.parts c.in_ok-n.ensures.bytes some_read;
      whole = c.read.ensures.whole ∙ c.loop-reads.invariant.whole;
      alone = read_again c.args.path.now c.loop-reads._reads _ _ _ c.loop-reads.invariant.alone c.read.ensures.noted;
      others = λ q other. c.in_ok-n.ensures.bytes.others q other ∙ c.loop-reads.invariant.others q other;
    }

pub returns-in-0-clause-fresh : goal.returns-in-0-clause-fresh
returns-in-0-clause-fresh g c = λ fresh.
    let room : 0 < length c.read.new.buf = search rules in
    let end : IsNextOf c.args.path.now (g.I.Inputs.whole c.loop-reads.inputs) (g.I.Inputs.left c.loop-reads.inputs) (g.I.Inputs.left c.read.new.self) 0 c.read.new.buf
    = subst (λ n. IsNextOf c.args.path.now (g.I.Inputs.whole c.loop-reads.inputs) (g.I.Inputs.left c.loop-reads.inputs) (g.I.Inputs.left c.read.new.self) n c.read.new.buf) c.in-0.is c.in_ok-n.ensures.bytes in
    let next = subst (λ w. IsNextOf c.args.path.now w (g.I.Inputs.left c.loop-reads.inputs) (g.I.Inputs.left c.read.new.self) 0 c.read.new.buf) c.loop-reads.invariant.whole end in
    let done : IsFresh (g.I.Inputs.whole c.args.inputs.now) (g.I.Inputs.left c.read.new.self)
    = still_fresh (g.I.Inputs.whole c.args.inputs.now) (g.I.Inputs.left c.args.inputs.now) (g.I.Inputs.left c.loop-reads.inputs) (g.I.Inputs.left c.read.new.self) c.args.path.now c.read.new.buf c.loop-reads.invariant.done
    c.loop-reads.invariant.others c.loop-reads.invariant.parts next room fresh in
    subst (λ w. IsFresh w (g.I.Inputs.left c.read.new.self)) (sym (c.read.ensures.whole ∙ c.loop-reads.invariant.whole)) done

pub returns-clause-fails : goal.returns-clause-fails
returns-clause-fails g c = λ e.
    let all : MOST_READS ≤ c.loop-reads._reads = search rules in
    let long = is_long MOST_READS c.loop-reads._reads c.loop-reads.invariant.done (g.I.Inputs.left c.args.inputs.now c.args.path.now) (g.I.Inputs.left c.loop-reads.inputs c.args.path.now) all c.loop-reads.invariant.count c.loop-reads.invariant.parts in
    inr (c.loop-reads.invariant.works, record { count = c.loop-reads._reads; most = all; reads = c.loop-reads.invariant.alone }, long)

pub returns-in_err-n-clause-alone : goal.returns-in_err-n-clause-alone
returns-in_err-n-clause-alone g c = read_alone c.args.path.now c.loop-reads._reads _ _ _ c.loop-reads.invariant.alone c.read.ensures.noted

pub returns-in_err-end-in-0-clause-alone : goal.returns-in_err-end-in-0-clause-alone
returns-in_err-end-in-0-clause-alone g c = read_alone c.args.path.now c.loop-reads._reads _ _ _ c.loop-reads.invariant.alone c.read.ensures.noted

pub returns-in-0-clause-alone : goal.returns-in-0-clause-alone
returns-in-0-clause-alone g c = read_alone c.args.path.now c.loop-reads._reads _ _ _ c.loop-reads.invariant.alone c.read.ensures.noted

pub returns-in_err-bytes-in_default-clause-alone : goal.returns-in_err-bytes-in_default-clause-alone
returns-in_err-bytes-in_default-clause-alone g c = read_alone c.args.path.now c.loop-reads._reads _ _ _ c.loop-reads.invariant.alone c.read.ensures.noted
