-- Keeps in which nothing is left to do.
use Rattle.std.proofs.Common.{◌≡◌, ◌⊎◌, ◌∙◌, ℕ, inl, inr, List, [], ◌∷◌, if◌then◌else◌, Option, None, Some, Result, Ok, Err, refl, ap, sym, subst, ⊎_elim}
use Rattle.std.proofs.lemmas.Bool.{cases_eq}
use Rattle.std.proofs.lemmas.Grind.{not_there}
use Rattle.std.specs.Prelude.{IfSome, OnErr, OnOk}
use Rattle.std.specs.List.{list_any}
use Rattle.cs_history.specs.History.{same_run}
use Rattle.cs_history.specs.declared.run.Run.{Run}
use Rattle.cs_history.specs.declared.run.Going.{Going}
use Rattle.cs_history.specs.declared.event.Event.TheVariants.{Down, End}
use Rattle.cs_history.specs.declared.reply.Reply.{Reply}
use Rattle.cs_history.specs.declared.refusal.Refusal.{Refusal}
use Rattle.cs_keep.specs.Keeping.{IsKept, Keeping, with_event}
use Rattle.cs_daemon.specs.Rest.{IsAtRest, IsLeftIn, Leaving}
use Rattle.cs_daemon.specs.Starts.{with_end}

runs_none : (k : Keeping) (m : ℕ) → Leaving k m → k.core.state.running ≡ []
runs_none k m left = go left.down
  where
    go : (k ≡ with_event left.before Down) ⊎ (k ≡ left.before) → k.core.state.running ≡ []
    go (inl down) = ap (λ (x : Keeping). x.core.state.running) down ∙ left.at_rest.running
    go (inr same) = ap (λ (x : Keeping). x.core.state.running) same ∙ left.at_rest.running

is_then : (k : Keeping) (m : ℕ) → Leaving k m → k.core.state.now ≡ m
is_then k m left = go left.down
  where
    go : (k ≡ with_event left.before Down) ⊎ (k ≡ left.before) → k.core.state.now ≡ m
    go (inl down) = ap (λ (x : Keeping). x.core.state.now) down ∙ left.present
    go (inr same) = ap (λ (x : Keeping). x.core.state.now) same ∙ left.present

differ : (r : Going) (rs : List Going) → ¬ (r ∷ rs ≡ [])
differ r rs is = cc

pub nothing_runs : (k : Keeping) (m : ℕ) → IsLeftIn k m → k.core.state.running ≡ []
nothing_runs k m left = go k.core.state.running refl
  where
    go : (rs : List Going) → k.core.state.running ≡ rs → rs ≡ []
    go [] is = refl
    go (r ∷ rs) is = absurd (not_there left (λ l. differ r rs (sym is ∙ runs_none k m l)))

pub left_now : (k : Keeping) (m : ℕ) → IsLeftIn k m → k.core.state.now ≡ m
left_now k m left =
    ⊎_elim (λ (same : k.core.state.now ≡ m). same) (λ (other : ¬ (k.core.state.now ≡ m)). absurd (not_there left (λ l. other (is_then k m l)))) (cases_eq k.core.state.now m)

no_end : (k : Keeping) (run : Run) → k.core.state.running ≡ [] → with_end k run ≡ k
no_end k run none = ap (λ (rs : List Going). if list_any (λ x. same_run run x.run) rs then with_event k (End run) else k) none

pub same_left : (rest : Option ℕ) (k new : Keeping) → IfSome rest (IsLeftIn k) → new ≡ k → IfSome rest (IsLeftIn new)
same_left None k new left same = tt
same_left (Some m) k new left same = subst (λ (x : Keeping). IsLeftIn x m) (sym same) left

pub still_left : (rest : Option ℕ) (k new : Keeping) (run : Run) → IfSome rest (IsLeftIn k) → new ≡ with_end k run → IfSome rest (IsLeftIn new)
still_left None k new run left ended = tt
still_left (Some m) k new run left ended = subst (λ (x : Keeping). IsLeftIn x m) (sym (ended ∙ no_end k run (nothing_runs k m left))) left

pub left_down : (A : Type 0) (rest : Option ℕ) (k new : Keeping) (r : Result Reply Refusal) → IsKept k → IfSome rest (λ m. IsAtRest k.core.state × (k.core.state.now ≡ m))
    → OnOk r (new ≡ with_event k Down) → OnErr r ((new ≡ k) × A) → IfSome rest (IsLeftIn new)
left_down A None k new r kept at down same = tt
left_down A (Some m) k new (Ok reply) kept at down same = ∣ record { before = k; kept = kept; at_rest = at.0; present = at.1; down = inl down } ∣₁
left_down A (Some m) k new (Err f) kept at down same = ∣ record { before = k; kept = kept; at_rest = at.0; present = at.1; down = inr same.0 } ∣₁
