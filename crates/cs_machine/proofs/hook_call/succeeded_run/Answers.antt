use Rattle.std.proofs.Common.{◌≡◌, ◌≢◌, ◌++◌, ◌∙◌, Bor, ℕ, List, Option, None, Some, ap, append_assoc, codes, sym}
use Rattle.std.specs.Prelude.{IfSome, MatchOption}
use Rattle.std.proofs.lemmas.Bool.Decides.{Decides-eqb}
use Rattle.std.proofs.lemmas.Slice.Eq.{strip_prefix_is, strip_suffix_is}
use Rattle.cs_machine.specs.HookCall.{TellsSuccess}
use Rattle.cs_machine.proofs.hook_call.succeeded_run.Goals as goal

succeeded : (words rest : List ℕ) (run : Option (Bor (List ℕ))) → words ≡ codes "ended " ++ rest → MatchOption run ((front : List ℕ) → rest ≢ front ++ codes " status 0") (λ r. rest ≡ r.now ++ codes " status 0") → IfSome run (λ r. TellsSuccess words r.now)
succeeded words rest (Some run) is cut = is ∙ ap (λ (t : List ℕ). codes "ended " ++ t) cut ∙ sym (append_assoc (codes "ended ") run.now (codes " status 0"))
succeeded words rest None is cut = tt

pub returns-clause-some : goal.returns-clause-some
returns-clause-some c =
    let rest = c.in_ok-strip_prefix.field-0 in
    let is : c.args.words.now ≡ codes "ended " ++ rest.now = strip_prefix_is Decides-eqb c.args.words.now (codes "ended ") (Some rest) c.in_ok-strip_prefix.ensures.cases in
    succeeded c.args.words.now rest.now c.strip_suffix.result is (strip_suffix_is Decides-eqb rest.now (codes " status 0") c.strip_suffix.result c.strip_suffix.ensures.cases)
