use Rattle.std.proofs.Common.{◌≡◌, ◌<◌, ◌≤◌, ◌∙◌, ℕ, IsSome, List, Option, ap, inl, inr, length, subst}
use Rattle.cs_args.specs.Asked.{Text}
use Rattle.cs_table.specs.declared.limits.TheConstants.{MAX_TABLE}
use Rattle.cs_files.specs.Reads.{IsRead}
use Rattle.cs_files.specs.Trouble.{IsUnread, TellsPath, Trouble, gathered_trouble, trouble_status}
use Rattle.cs_gather.specs.Answer.{Stops, sum_of}
use Rattle.cs_gather.specs.Gather.{Denotes, HasFault, IsOverflow, room_behind}
use Rattle.cs_gather.specs.declared.line.Gathered.{Gathered}
use Rattle.cs_gather.proofs.AnswerLemmas.{honest_gathered, ignored_read, of_shown, stops_read}
use Rattle.cs_gather.proofs.answer.add_table.Goals as goal

pub returns-then-is_ignored-clause-adds : goal.returns-then-is_ignored-clause-adds
returns-then-is_ignored-clause-adds g c = λ fresh.
    let given = c.args.given.now in
    let fault = c.in-Err.fault in
    let bytes = c.in_ok-bytes.bytes.items in
    let left = g.I.Inputs.left c.args.inputs.now in
    let same = c.as_slice-text.ensures.value in
    let read = subst (λ (p : List ℕ). IsRead MAX_TABLE p left bytes) c.path-path.ensures c.in_ok-bytes.ensures.bytes in
    let has = subst (λ (b : List ℕ). HasFault given.user b fault) same c.in-Err.ensures.fault in
    let (some, short) = c.in_ok-is_ignored-in-Err.ensures.found c.if-is_ignored.true in
    let near = subst (λ (b : List ℕ). length b ≤ MAX_TABLE) same short in
    let (lines, is) = c.in_ok-shown-in-Err.ensures in
    let shown = subst (λ (o : Option Trouble). IsSome o) (is ∙ ap (λ (p : Text). gathered_trouble p fault lines) c.path-path.ensures) (c.in_ok-is_ignored-in-Err.ensures.shown c.if-is_ignored.true) in
    let (commands, gap) = c.in_ok-is_ignored-in-Err.ensures.ignored c.if-is_ignored.true in
    ignored_read (g.I.Inputs.whole c.args.inputs.now) left given bytes (sum_of c.args.gathering.now) (sum_of c.ignores.new.gathering) fault fresh read some near has lines shown commands gap

pub returns-in-Err-clause-stops : goal.returns-in-Err-clause-stops
returns-in-Err-clause-stops g c = λ fresh.
    let given = c.args.given.now in
    let fault = c.in-Err.fault in
    let bytes = c.in_ok-bytes.bytes.items in
    let left = g.I.Inputs.left c.args.inputs.now in
    let files = g.I.Inputs.whole c.args.inputs.now in
    let failed = g.I.Inputs.failed c.bytes_at.new.inputs in
    let old = sum_of c.args.gathering.now in
    let same = c.as_slice-text.ensures.value in
    let read = subst (λ (p : List ℕ). IsRead MAX_TABLE p left bytes) c.path-path.ensures c.in_ok-bytes.ensures.bytes in
    let has = subst (λ (b : List ℕ). HasFault given.user b fault) same c.in-Err.ensures.fault in
    let far = λ (some : IsSome given.below). subst (λ (b : List ℕ). MAX_TABLE < length b) same (c.in_ok-is_ignored-in-Err.ensures.stops c.if-is_ignored.false some) in
    let (lines, is) = c.in_ok-shown-in-Err.ensures in
    of_shown (Stops files failed given old) _ c.path-path.result.now given.path fault lines is c.path-path.ensures (stops_read files left failed given bytes old fault fresh read (inl (has, far)) lines)

pub returns-in-Err-clause-status : goal.returns-in-Err-clause-status
returns-in-Err-clause-status g c =
    let failed = g.I.Inputs.failed c.bytes_at.new.inputs in
    let reads = g.I.Inputs.reads c.bytes_at.new.inputs in
    let fault = c.in-Err.fault in
    let path = c.args.given.now.path in
    let (lines, is) = c.in_ok-shown-in-Err.ensures in
    of_shown (λ t. trouble_status t ≡ 6 → (p : Text) × IsUnread p failed reads × TellsPath p t) _ c.path-path.result.now path fault lines is c.path-path.ensures (honest_gathered failed reads path fault lines)

pub returns-clause-stops : goal.returns-clause-stops
returns-clause-stops g c = λ fresh.
    let given = c.args.given.now in
    let fault = c.in-Err-add.fault in
    let bytes = c.in_ok-bytes.bytes.items in
    let left = g.I.Inputs.left c.args.inputs.now in
    let files = g.I.Inputs.whole c.args.inputs.now in
    let failed = g.I.Inputs.failed c.parts_asked.new.inputs in
    let old = sum_of c.args.gathering.now in
    let same = c.as_slice-text.ensures.value in
    let read = subst (λ (p : List ℕ). IsRead MAX_TABLE p left bytes) c.path-path.ensures c.in_ok-bytes.ensures.bytes in
    let is = subst (λ (b : List ℕ). Denotes given.user b c.in-Ok.table) same c.in-Ok.ensures.table in
    let over = subst (λ (b : List ℕ). IsOverflow b (room_behind old.commands) c.in_ok-commands.commands.items fault) same c.in-Err-add.ensures.err in
    let much = subst (λ (commands : List Gathered). IsOverflow bytes (room_behind old.commands) commands fault) c.in_ok-commands.ensures over in
    let (lines, shown) = c.in_ok-shown-in-Err-add.ensures in
    of_shown (Stops files failed given old) _ c.path-path.result.now given.path fault lines shown c.path-path.ensures (stops_read files left failed given bytes old fault fresh read (inr (c.in-Ok.table, is, much)) lines)

pub returns-clause-status : goal.returns-clause-status
returns-clause-status g c =
    let failed = g.I.Inputs.failed c.parts_asked.new.inputs in
    let reads = g.I.Inputs.reads c.parts_asked.new.inputs in
    let fault = c.in-Err-add.fault in
    let path = c.args.given.now.path in
    let (lines, is) = c.in_ok-shown-in-Err-add.ensures in
    of_shown (λ t. trouble_status t ≡ 6 → (p : Text) × IsUnread p failed reads × TellsPath p t) _ c.path-path.result.now path fault lines is c.path-path.ensures (honest_gathered failed reads path fault lines)
