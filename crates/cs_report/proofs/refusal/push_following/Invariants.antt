use Rattle.std.proofs.Common.{◌≡◌, ◌++◌, drop}
use Rattle.std.specs.Prelude.{flat_map}
use Rattle.cs_report.specs.Refused.{then_text}
use Rattle.cs_report.proofs.refusal.push_following.Given as goal

abbrev pub invariant-loop-kind : goal.invariant-loop-kind
invariant-loop-kind l = l.initial.text.items ++ flat_map then_text l.kinds ≡ l.text.items ++ flat_map then_text (drop l.kind-index l.kinds)
