use Rattle.std.proofs.Common.{◌≡◌, ℕ, List, IfOk, subst}
use Rattle.cs_claims.specs.Content.{Content}
use Rattle.cs_cert.specs.Denoted.{certificate_by}
use Rattle.cs_claims.specs.declared.limits.TheConstants.{MAX_CERTIFICATE}
use Rattle.cs_ruling.specs.Check.{said}
use Rattle.cs_files.specs.Reads.{MeansIt, without_rest}
use Rattle.cs_files.specs.Trouble.{InCertificate}
use Rattle.cs_files.proofs.TroubleLemmas.{came_read, same_certificate}
use Rattle.sha2.specs.Sha256.{sha256}
use Rattle.cs_ruling.proofs.CheckLemmas.{digest_read}
use Rattle.cs_ruling.proofs.check.certificate_from.Goals as goal

pub returns-clause-digest : goal.returns-clause-digest
returns-clause-digest g c = λ fresh.
    let tells = subst (λ (b : List ℕ). MeansIt {M = Content} (λ bytes c. certificate_by bytes ≡ c) InCertificate b (said (without_rest c.certificate_in.result))) c.as_slice.ensures.value c.certificate_in.ensures.value in
    let hashed = subst (λ (b : List ℕ). IfOk c.certificate_in.result (λ found. found.1 ≡ sha256 b)) c.as_slice.ensures.value c.certificate_in.ensures.digest in
    digest_read (g.I.Inputs.whole c.args.inputs.now) (g.I.Inputs.left c.args.inputs.now) c.args.path.now c.in_ok-bytes.bytes.items c.certificate_in.result fresh c.in_ok-bytes.ensures.bytes tells hashed

pub returns-clause-step : goal.returns-clause-step
returns-clause-step g c = λ fresh.
    let tells = subst (λ (b : List ℕ). MeansIt {M = Content} (λ bytes c. certificate_by bytes ≡ c) InCertificate b (said (without_rest c.certificate_in.result))) c.as_slice.ensures.value c.certificate_in.ensures.value in
    came_read MAX_CERTIFICATE (λ bytes c. certificate_by bytes ≡ c) InCertificate (g.I.Inputs.whole c.args.inputs.now) (g.I.Inputs.left c.args.inputs.now) c.args.path.now c.in_ok-bytes.bytes.items (g.I.Inputs.failed c.args.inputs.now) (g.I.Inputs.failed c.bytes_at.new.inputs)
    (said (without_rest c.certificate_in.result)) (λ m text up is. same_certificate c.in_ok-bytes.bytes.items m text up is) c.in_ok-bytes.ensures.works fresh c.in_ok-bytes.ensures.bytes tells
