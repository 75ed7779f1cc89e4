use Rattle.std.proofs.Common.{◌≡◌, ℕ, Bool, true, List, None, cond, filter, refl, sym, ap, ◌∙◌, map}
use Rattle.std.specs.Prelude.{option_map}
use Rattle.std.specs.List.{list_any}
use Rattle.std.proofs.lemmas.Bool.{eq-eqb}
use Rattle.cs_theorem.specs.Accepted.{windows_of}
use Rattle.cs_theorem.specs.Certificate.{Stretch}
use Rattle.cs_theorem.specs.Faults.{Missing, WindowMissing, chains, first_of, is_used, minute_of, missing_in, same_list, unless}
use Rattle.cs_claims.specs.Certificate.{class_of}
use Rattle.cs_claims.specs.Content.{Content}
use Rattle.cs_plan.specs.Plan.{Declared, as_plan}
use Rattle.cs_classes.specs.Claim.{as_certificate}
use Rattle.cs_classes.specs.StandsFor.{bare, claimed, class_lists, days_for, listed}
use Rattle.cs_classes.proofs.Distinct.{all_pass, each_among, each_itself, each_made, each_more, none_of_each, none_of_kept, only_given}
use Rattle.cs_classes.proofs.Searched.{any_map}
use Rattle.cs_classes.proofs.laws.stretches_of_version_3.Goals as goal

worked_out : (d : Declared) (c : Content) → c.version ≡ 3 → (as_certificate (claimed d c)).stretches ≡ map bare (class_lists c (days_for d c))
worked_out d c is = ap (λ (b : Bool). cond b (map bare (class_lists c (days_for d c))) (map listed c.stretches)) (eq-eqb c.version 3 is)

pub returns-clause-complete : goal.returns-clause-complete
returns-clause-complete c d k is =
    let n = days_for d k in
    let g = map (class_of k) in
    let missing : List Stretch → List _ → _ = λ ss ks. unless (list_any (λ s. same_list s.of (g ks)) ss) (Missing ks) in
    ap (λ (ss : List Stretch). first_of (missing ss) (chains n)) (worked_out d k is)
    ∙ none_of_each (missing (map bare (class_lists k n))) (chains n)
    (each_more (λ ks. list_any (λ list. same_list list (g ks)) (class_lists k n) ≡ true) _ (chains n)
    (λ ks there. ap (λ (b : Bool). unless b (Missing ks)) (any_map (λ (s : Stretch). same_list s.of (g ks)) bare (class_lists k n) ∙ there)) (each_among g (chains n)))

pub returns-clause-used : goal.returns-clause-used
returns-clause-used c d k is =
    let n = days_for d k in
    let g = map (class_of k) in
    let used : List ℕ → Bool = λ s. list_any (λ ks. same_list (g ks) s) (chains n) in
    ap (λ (ss : List Stretch). filter (λ (s : Stretch). used s.of) ss) (worked_out d k is)
    ∙ all_pass used (class_lists k n) (only_given (λ s. used s ≡ true) g (chains n) (each_itself g (chains n)))
    ∙ sym (worked_out d k is)

pub returns-clause-listed : goal.returns-clause-listed
returns-clause-listed c d k is =
    let n = days_for d k in
    let a = as_certificate (claimed d k) in
    let p = as_plan d in
    let unlisted : Stretch → _ = λ s. option_map (λ f. WindowMissing f.1 (minute_of a n s f.0)) (missing_in s.tree (windows_of p a s.of)) in
    let used : Stretch → Bool = λ s. is_used a n s.of in
    ap (λ (ss : List Stretch). first_of unlisted (filter used ss)) (worked_out d k is)
    ∙ none_of_kept unlisted used (map bare (class_lists k n))
    (each_made (λ s. unlisted s ≡ None) bare (class_lists k n) (λ list. refl))
