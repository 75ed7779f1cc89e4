use Rattle.std.proofs.Common.{◌≡◌, ℕ, List, [], ◌∷◌, map, refl, ap, ◌∙◌, subst, arith}
use Rattle.std.specs.Prelude.{IfOk, All}
use Rattle.std.proofs.lemmas.List.Elements.{All-head, All-tail}
use Rattle.cs_theorem.specs.Faults.{chains}
use Rattle.cs_claims.specs.Certificate.{class_of, content}
use Rattle.cs_claims.specs.Content.{Content}
use Rattle.cs_daytree.specs.Tree.{Tree}
use Rattle.cs_classes.specs.Planned.{due_on, planned, reach_by}
use Rattle.cs_classes.specs.StandsFor.{class_lists, days_for, distinct}
use Rattle.cs_plan.specs.Plan.{as_plan}
use Rattle.cs_windows.specs.Occupied.{job_of}
use Rattle.cs_windows.specs.declared.reach.JobReach.{JobReach}
use Rattle.cs_classes.specs.Used.{AreClassed, classes_in, kinds_in}
use Rattle.cs_classes.specs.declared.classed.ClassedChain.{ClassedChain}
use Rattle.cs_classes.proofs.working_out.stretches_of_kinds.Goals as goal

classes_all : (c : Content) (listed : List ClassedChain) → All (λ chain. classes_in chain ≡ map (class_of c) (kinds_in chain)) listed → map classes_in listed ≡ map (map (class_of c)) (map kinds_in listed)
classes_all c [] h = refl
classes_all c (x ∷ xs) h =
    ap (λ (l : List ℕ). l ∷ map classes_in xs) (All-head (λ chain. classes_in chain ≡ map (class_of c) (kinds_in chain)) x xs h)
    ∙ ap (λ (ls : List (List ℕ)). map (class_of c) (kinds_in x) ∷ ls) (classes_all c xs (All-tail (λ chain. classes_in chain ≡ map (class_of c) (kinds_in chain)) x xs h))

lists_are : (c : Content) (n m : ℕ) (listed lent : List ClassedChain) → lent ≡ listed → AreClassed c.kinds n listed → n ≡ m → distinct (map classes_in lent) ≡ class_lists c m
lists_are c n m listed lent same known e =
    ap (λ (l : List ClassedChain). distinct (map classes_in l)) same
    ∙ ap distinct (classes_all c listed known.classes ∙ ap (map (map (class_of c))) (known.all ∙ ap chains e))

pub classed_chains-requires : goal.classed_chains-requires
classed_chains-requires c = let r = c.stretch_length-days.ensures.range in (omega (arith, r.0), r.1)

pub returns : goal.returns
returns c =
    let d = c.args.plan.now in
    let k = content c.args.certificate.now in
    let jobs : map job_of c.as_slice.result.now ≡ planned d k.reach = ap (map job_of) c.as_slice.ensures.value ∙ c.in_ok-occupied.ensures.jobs ∙ ap (λ (rs : List JobReach). planned d rs) c.reach.ensures.value in
    let days : c.stretch_length-days.result ≡ days_for d k = c.stretch_length-days.ensures.value (as_plan d) (due_on d) (reach_by d k.reach) jobs in
    let lists = c.in_ok-lists.ensures ∙ lists_are k c.stretch_length-days.result (days_for d k) c.in_ok-chains.chains.items c.as_slice-2.result.now c.as_slice-2.ensures.value (subst (λ (tree : Tree). AreClassed tree c.stretch_length-days.result c.in_ok-chains.chains.items) c.kinds.ensures.value c.in_ok-chains.ensures) days in
    subst (λ (ls : List (List ℕ)). IfOk c.copies_of.result (λ copies. copies.items ≡ ls)) lists c.copies_of.ensures
