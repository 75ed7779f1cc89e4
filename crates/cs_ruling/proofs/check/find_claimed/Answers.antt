use Rattle.std.proofs.Common.{◌≡◌, ◌∙◌, ap, ℕ, List, Option, [], ◌∷◌, IfSome, Ok, Err, inl, inr, subst, sym}
use Rattle.std.proofs.lemmas.Option.{IfSome_then}
use Rattle.std.proofs.lemmas.Result.{err_from_is_err_and}
use Rattle.cs_args.specs.Asked.{asked_check}
use Rattle.cs_claims.specs.Certificate.{content}
use Rattle.cs_io.specs.Files.{Failed}
use Rattle.cs_files.specs.Asked.{both_of}
use Rattle.cs_files.specs.Trouble.{trouble}
use Rattle.cs_files.specs.Turn.{plan_paths}
use Rattle.cs_files.proofs.TroubleLemmas.{moved}
use Rattle.cs_files.proofs.TurnLemmas.{first_read, some_read, then_read}
use Rattle.cs_ruling.specs.Check.{AreDigestsOf, IsDigestOf, ReadsCertificate}
use Rattle.cs_ruling.specs.declared.check.Digests.{Digests}
use Rattle.cs_ruling.proofs.CheckLemmas.{digest_at}
use Rattle.sha2.specs.Sha256.{sha256}
use Rattle.cs_ruling.proofs.check.find_claimed.Goals as goal

pub returns-in_err-planned-clause-turn : goal.returns-in_err-planned-clause-turn
returns-in_err-planned-clause-turn g c =
    let a = asked_check c.args.words.now in
    some_read (plan_paths a.table a.anacrontab a.declarations) (a.certificate ∷ []) (g.I.Inputs.reads c.args.inputs.now) (g.I.Inputs.reads c.find_plan.new.inputs) c.find_plan.ensures.turn

pub returns-in_err-certificate-clause-turn : goal.returns-in_err-certificate-clause-turn
returns-in_err-certificate-clause-turn g c =
    let a = asked_check c.args.words.now in
    then_read (plan_paths a.table a.anacrontab a.declarations) (a.certificate ∷ []) (g.I.Inputs.reads c.args.inputs.now) (g.I.Inputs.reads c.find_plan.new.inputs) (g.I.Inputs.reads c.certificate_from.new.inputs)
    c.find_plan.ensures.turn (first_read a.certificate [] _ _ c.certificate_from.ensures.alone)

pub returns-clause-turn : goal.returns-clause-turn
returns-clause-turn g c =
    let a = asked_check c.args.words.now in
    then_read (plan_paths a.table a.anacrontab a.declarations) (a.certificate ∷ []) (g.I.Inputs.reads c.args.inputs.now) (g.I.Inputs.reads c.find_plan.new.inputs) (g.I.Inputs.reads c.certificate_from.new.inputs)
    c.find_plan.ensures.turn (first_read a.certificate [] _ _ c.certificate_from.ensures.alone)

pub returns-in_err-planned-clause-value : goal.returns-in_err-planned-clause-value
returns-in_err-planned-clause-value g c = λ fresh.
    let p = err_from_is_err_and c.from_residual.result c.from_residual.ensures.1 in
    let (w, told, (warns, came)) = c.in_err-planned.ensures.value fresh in
    rw (p.1, p.2) (w, told, (warns, IfSome_then (trouble c.in_err-planned.field-0.0) came (λ t is. inl is)))

pub returns-in_err-certificate-clause-value : goal.returns-in_err-certificate-clause-value
returns-in_err-certificate-clause-value g c = λ fresh.
    let p = err_from_is_err_and c.from_residual-in_err-certificate.result c.from_residual-in_err-certificate.ensures.1 in
    let (w, told, (warns, (works, is))) = c.in_ok-planned.ensures.value fresh in
    let a = asked_check c.args.words.now in
    let files = g.I.Inputs.whole c.args.inputs.now in
    let before = g.I.Inputs.failed c.args.inputs.now in
    let after = g.I.Inputs.failed c.certificate_from.new.inputs in
    let fault = c.in_err-certificate.field-0.0 in
    let other = moved (λ v f. IfSome (trouble fault) (λ t. ReadsCertificate v a.certificate f after (Err t))) (g.I.Inputs.whole c.find_plan.new.inputs) files (g.I.Inputs.failed c.find_plan.new.inputs) before c.find_plan.ensures.whole c.in_ok-planned.ensures.works (c.in_err-certificate.ensures.step (c.in_ok-planned.ensures.fresh fresh)) in
    rw (p.1, p.2) (w, told, (inr (both_of is.tables, is.read.read, is.read.warned), IfSome_then (trouble fault) other (λ t read. inr (c.in_ok-planned.planned, is, read))))

pub returns-clause-value : goal.returns-clause-value
returns-clause-value g c = λ fresh.
    let (w, told, (warns, (works, is))) = c.in_ok-planned.ensures.value fresh in
    let a = asked_check c.args.words.now in
    let files = g.I.Inputs.whole c.args.inputs.now in
    let before = g.I.Inputs.failed c.args.inputs.now in
    let after = g.I.Inputs.failed c.certificate_from.new.inputs in
    let planned = c.in_ok-planned.planned in
    let x = content c.in_ok-certificate.certificate in
    let on = c.in_ok-planned.ensures.fresh fresh in
    let same = c.in_ok-certificate.ensures.works ∙ c.in_ok-planned.ensures.works in
    let step = moved (λ v f. ReadsCertificate v a.certificate f after (Ok x)) (g.I.Inputs.whole c.find_plan.new.inputs) files (g.I.Inputs.failed c.find_plan.new.inputs) before c.find_plan.ensures.whole c.in_ok-planned.ensures.works (c.in_ok-certificate.ensures.step on) in
    let certified = subst (λ (v : List ℕ → Option (List ℕ)). IsDigestOf v a.certificate x c.in_ok-certificate.digest) c.find_plan.ensures.whole (c.in_ok-certificate.ensures.digest on) in
    let made : Digests = record { table = c.digest.result; declarations = c.digest-2.result; certificate = c.in_ok-certificate.digest } in
    let are : AreDigestsOf files a x made = record {
      table = digest_at files a.table planned.table made.table (subst (λ (t : List ℕ). IfSome (files a.table) (λ b. t ≡ b)) (sym is.same_table) is.read.text.1) (c.digest.ensures ∙ ap sha256 c.as_slice.ensures);
      declarations = digest_at files a.declarations planned.declarations made.declarations is.text.1 (c.digest-2.ensures ∙ ap sha256 c.as_slice-2.ensures);
      certificate = certified;
    } in (
      w,
      told,
      (
        inr (both_of is.tables, is.read.read, is.read.warned),
        (
          same,
          record {
            planned = is;
            certificate = subst (λ (f : Failed). ReadsCertificate files a.certificate before f (Ok x)) same step;
            digests = are;
          },
        ),
      ),
    )
