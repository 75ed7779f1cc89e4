use Rattle.std.proofs.lemmas.Result.{IfOk-weaker}
use Rattle.cs_claims.specs.Certificate.{content}
use Rattle.cs_cert.proofs.Depths.{certificate_no_float}
use Rattle.cs_cert.proofs.RoundTrip.{written_back}
use Rattle.cs_cert.proofs.file.write_certificate.Goals as goal

pub returns-clause-text : goal.returns-clause-text
returns-clause-text c =
    let text = rw c.in_ok-to_value.ensures at c.to_vec.ensures.text in
    IfOk-weaker c.to_vec.result _ _ (λ b h. h (certificate_no_float (content c.args.certificate.now))) text

pub returns-clause-reads_back : goal.returns-clause-reads_back
returns-clause-reads_back c =
    let back = rw c.in_ok-to_value.ensures at c.to_vec.ensures.reads_back in
    written_back c.to_vec.result (content c.args.certificate.now) c.args.certificate.now.kept c.to_vec.ensures.utf8 back
