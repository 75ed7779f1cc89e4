use Rattle.std.proofs.Common.{◌∙◌}
use Rattle.std.proofs.Common.{rules}
use Rattle.std.specs.Option.{is_some}
use Rattle.std.proofs.lemmas.Map.Made.{filter_same_pairs}
use Rattle.cs_roster.proofs.Marks.{kept_swept, view_swept}
use Rattle.cs_roster.proofs.roster.Roster.sweep.Goals as goal

pub invariant_of-self : goal.invariant_of-self
invariant_of-self c = kept_swept c.self.inside.entries.entries c.retain.new.self.entries (filter_same_pairs _ (λ e. is_some e.1) _ (λ k v b w f' t. search rules) _ _ c.retain.ensures.filtered) c.retain.ensures.unique

pub returns-then-self-len : goal.returns-then-self-len
returns-then-self-len c = view_swept c.self.inside.entries.entries c.retain.new.self.entries (filter_same_pairs _ (λ e. is_some e.1) _ (λ k v b w f' t. search rules) _ _ c.retain.ensures.filtered) ∙ c.self.view_is
