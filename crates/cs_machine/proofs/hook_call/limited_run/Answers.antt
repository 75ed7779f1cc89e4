use Rattle.std.proofs.Common.{◌≡◌, ◌≢◌, Bor, ℕ, List, Option, None, Some, codes}
use Rattle.std.specs.Prelude.{IfSome, MatchOption}
use Rattle.std.proofs.lemmas.Bool.Decides.{Decides-eqb}
use Rattle.std.proofs.lemmas.Slice.Eq.{strip_suffix_is}
use Rattle.cs_machine.specs.Limit.{limit_line}
use Rattle.cs_machine.proofs.hook_call.limited_run.Goals as goal

limited : (words : List ℕ) (run : Option (Bor (List ℕ))) → MatchOption run ((front : List ℕ) → words ≢ limit_line front) (λ r. words ≡ limit_line r.now) → IfSome run (λ r. words ≡ limit_line r.now)
limited words (Some run) cut = cut
limited words None cut = tt

pub returns-clause-some : goal.returns-clause-some
returns-clause-some c =
    limited c.args.words.now c.strip_suffix.result (strip_suffix_is Decides-eqb c.args.words.now (codes " was ended at its limit") c.strip_suffix.result c.strip_suffix.ensures.cases)
