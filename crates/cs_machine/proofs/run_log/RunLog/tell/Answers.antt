use Rattle.std.proofs.Common.{◌≡◌, ◌++◌, ◌∙◌, List, ℕ, ap, subst}
use Rattle.std.proofs.lemmas.Result.{on_ok_weaker}
use Rattle.std.specs.Io.KnownBytes.{Appends}
use Rattle.cs_machine.specs.RunLog.{Follows, line_text}
use Rattle.cs_machine.proofs.run_log.RunLog.tell.Goals as goal

pub returns-clause-line : goal.returns-clause-line
returns-clause-line g c =
    let at = c.unix_seconds-at.result in
    let span = c.take-span.result in
    let meeting = c.in_ok-push_meeting.ensures in
    let out = c.take-span.ensures.left.0 in
    let follows = subst (λ s. Follows at c.args.words.now s.jobs.now meeting.0) c.take-span.ensures.left.1 meeting.1 in
    let line : c.as_slice.result.now ≡ line_text at c.args.words.now span ++ meeting.0 =
    c.as_slice.ensures.value ∙ meeting.2 ∙ ap (λ (t : List ℕ). t ++ meeting.0) (c.in_ok-push_line.ensures ∙ ap (λ (t : List ℕ). t ++ line_text at c.args.words.now span) c.clear.ensures.items) in
    on_ok_weaker c.write_all.result (λ appends. (at, span, meeting.0, follows, subst (λ t. Appends (g.W.Write.contents c.args.self.now.out) (g.W.Write.contents c.write_all.new.self) t) line (subst (λ o. Appends (g.W.Write.contents o) (g.W.Write.contents c.write_all.new.self) c.as_slice.result.now) out appends))) c.write_all.ensures.bytes
