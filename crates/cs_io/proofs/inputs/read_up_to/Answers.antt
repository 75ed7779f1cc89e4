use Rattle.std.proofs.Common.{rules, ◌≡◌, ◌≢◌, ◌≤◌, ◌<◌, take, ◌++◌, ◌∙◌, length, subst, sym}
use Rattle.cs_io.specs.Files.{IsNextOf, IsFresh}
use Rattle.cs_io.proofs.ReadLemmas.{goes_on, one_more, read_again, read_alone, still_fresh}
use Rattle.cs_io.proofs.inputs.read_up_to.Goals as goal

pub loop-reads-preserved : goal.loop-reads-preserved
loop-reads-preserved g c =
    let more : c.extend_from_slice.new.self.items ≡ c.loop-reads.bytes.items ++ take c.in-Ok.n c.read.new.buf = search rules in
    let some_read : c.in-Ok.n ≢ 0 = search rules in
    let bound : c.in-Ok.n ≤ length c.read.new.buf = search rules in
    record {
      room = search rules;
      count = rw more (one_more c.loop-reads._reads c.in-Ok.n c.read.new.buf c.loop-reads.bytes.items c.loop-reads.invariant.count bound some_read);
      works = search rules;
      parts = rw more (goes_on (g.I.Inputs.whole c.loop-reads.inputs) (g.I.Inputs.left c.args.inputs.now) (g.I.Inputs.left c.loop-reads.inputs) (g.I.Inputs.left c.read.new.self) c.args.path.now c.in-Ok.n c.read.new.buf c.loop-reads.bytes.items c.loop-reads.invariant.parts c.in-Ok.ensures.bytes some_read);
      whole = c.read.ensures.whole ∙ c.loop-reads.invariant.whole;
      alone = read_again c.args.path.now c.loop-reads._reads _ _ _ c.loop-reads.invariant.alone c.read.ensures.noted;
      others = λ q other. c.in-Ok.ensures.bytes.others q other ∙ c.loop-reads.invariant.others q other;
    }

pub returns-in-Ok-eq0-clause-fresh : goal.returns-in-Ok-eq0-clause-fresh
returns-in-Ok-eq0-clause-fresh g c = λ short fresh.
    let room : 0 < length c.read.new.buf = search rules in
    let end : IsNextOf c.args.path.now (g.I.Inputs.whole c.loop-reads.inputs) (g.I.Inputs.left c.loop-reads.inputs) (g.I.Inputs.left c.read.new.self) 0 c.read.new.buf
    = subst (λ n. IsNextOf c.args.path.now (g.I.Inputs.whole c.loop-reads.inputs) (g.I.Inputs.left c.loop-reads.inputs) (g.I.Inputs.left c.read.new.self) n c.read.new.buf) c.in-Ok-eq0.field-0-test c.in-Ok-eq0.ensures.bytes in
    let next = subst (λ w. IsNextOf c.args.path.now w (g.I.Inputs.left c.loop-reads.inputs) (g.I.Inputs.left c.read.new.self) 0 c.read.new.buf) c.loop-reads.invariant.whole end in
    let done : IsFresh (g.I.Inputs.whole c.args.inputs.now) (g.I.Inputs.left c.read.new.self)
    = still_fresh (g.I.Inputs.whole c.args.inputs.now) (g.I.Inputs.left c.args.inputs.now) (g.I.Inputs.left c.loop-reads.inputs) (g.I.Inputs.left c.read.new.self) c.args.path.now c.read.new.buf c.loop-reads.bytes.items
    c.loop-reads.invariant.others c.loop-reads.invariant.parts next room fresh in
    subst (λ w. IsFresh w (g.I.Inputs.left c.read.new.self)) (sym (c.read.ensures.whole ∙ c.loop-reads.invariant.whole)) done

pub returns-in-Err-clause-alone : goal.returns-in-Err-clause-alone
returns-in-Err-clause-alone g c = read_alone c.args.path.now c.loop-reads._reads _ _ _ c.loop-reads.invariant.alone c.read.ensures.noted

pub returns-in-Ok-eq0-clause-alone : goal.returns-in-Ok-eq0-clause-alone
returns-in-Ok-eq0-clause-alone g c = read_alone c.args.path.now c.loop-reads._reads _ _ _ c.loop-reads.invariant.alone c.read.ensures.noted

pub returns-in_err-extend_from_slice-in-Ok-clause-alone : goal.returns-in_err-extend_from_slice-in-Ok-clause-alone
returns-in_err-extend_from_slice-in-Ok-clause-alone g c = read_alone c.args.path.now c.loop-reads._reads _ _ _ c.loop-reads.invariant.alone c.read.ensures.noted

pub returns-then-len-limit-clause-alone : goal.returns-then-len-limit-clause-alone
returns-then-len-limit-clause-alone g c = read_alone c.args.path.now c.loop-reads._reads _ _ _ c.loop-reads.invariant.alone c.read.ensures.noted

pub returns-clause-alone : goal.returns-clause-alone
returns-clause-alone g c = (c.loop-reads._reads, c.loop-reads.invariant.alone)
