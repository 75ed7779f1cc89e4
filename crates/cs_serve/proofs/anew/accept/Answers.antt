use Rattle.std.proofs.Common.{◌≡◌, true}
use Rattle.cs_serve.proofs.anew.accept.Goals as goal

pub returns-then-not-is_root-clause-hinders : goal.returns-then-not-is_root-clause-hinders
returns-then-not-is_root-clause-hinders g c = λ none.
    let empty : c.is_empty.result ≡ true = c.is_empty.ensures.1 none in
    absurd (cc)
