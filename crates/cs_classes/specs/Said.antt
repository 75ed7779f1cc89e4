use Rattle.cs_claims.specs.Certificate.{content}
use Rattle.cs_classes.specs.Claim.{Claimed}
use Rattle.cs_classes.specs.WorkedOut.{judged}
use Rattle.cs_classes.specs.declared.claim.Claim.{Claim}

-- what is claimed where a certificate is judged
abbrev pub said : Claim → Claimed
said c = judged (content c.certificate.now) c.worked.now
