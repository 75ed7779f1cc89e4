-- Choices made one after another, by a loop.
use Rattle.std.proofs.Common.{◌≡◌, List, [], ◌∷◌, ◌++◌, Some, sym, ap, ◌∙◌, subst, append_assoc}
use Rattle.cs_history.specs.Step.{after}
use Rattle.cs_history.specs.declared.event.Event.{Event}
use Rattle.cs_keep.specs.Keeping.{Keeping, plan_of}
use Rattle.cs_keep.specs.Seat.{Place}
use Rattle.cs_keep.specs.Tick.{next_of, choosing, stepped, stepped_by, IsCutShort}
use Rattle.cs_keep.specs.declared.tick.Kind.{Kind}
use Rattle.cs_keep.specs.declared.tick.TickFault.{TickFault}
use Rattle.cs_keep.proofs.Choosing.{chosen_some}
use Rattle.cs_keep.proofs.Making.{by_append, short_longer, short_behind}

abbrev pub ahead : Kind → Keeping × Place → List Event
ahead k t = choosing k (plan_of t.0) t.0.core.state

-- of those ahead of t these were made, and the others are ahead of u
pub record IsUnderway (k : Kind) (t u : Keeping × Place) : Type 0 where
  pub made : List Event
  pub whole : ahead k t ≡ made ++ ahead k u
  pub left : u ≡ stepped_by t made

module _ (k : Kind) (t u : Keeping × Place) (s : IsUnderway k t u) where
  pub one_more_made : (e : Event) (w : Keeping × Place) → next_of k (plan_of u.0) u.0.core.state ≡ Some e → w ≡ stepped_by u (e ∷ []) → IsUnderway k t w
  one_more_made e w next is = record {
    made = s.made ++ e ∷ [];
    whole =
        s.whole ∙ ap (λ (x : List Event). s.made ++ x) (chosen_some k (plan_of u.0) u.0.core.state e next) ∙ sym (append_assoc s.made (e ∷ []) (ahead k (stepped u e)))
        ∙ ap (λ (x : Keeping × Place). (s.made ++ e ∷ []) ++ ahead k x) (sym is);
    left = is ∙ ap (λ (x : Keeping × Place). stepped x e) s.left ∙ sym (by_append t s.made (e ∷ []));
  }

  pub stopped_at : (e : Event) (f : TickFault) (w : Keeping × Place) → next_of k (plan_of u.0) u.0.core.state ≡ Some e → IsCutShort u (e ∷ []) f w → IsCutShort t (ahead k t) f w
  stopped_at e f w next short =
      let here : IsCutShort u (ahead k u) f w = subst (λ es. IsCutShort u es f w) (sym (chosen_some k (plan_of u.0) u.0.core.state e next)) (short_longer u w (e ∷ []) (choosing k (plan_of u.0) (after (plan_of u.0) u.0.core.state e)) f short) in
      let there : IsCutShort (stepped_by t s.made) (ahead k u) f w = subst (λ (x : Keeping × Place). IsCutShort x (ahead k u) f w) s.left here in
      subst (λ es. IsCutShort t es f w) (sym s.whole) (short_behind t w s.made (ahead k u) f there)
