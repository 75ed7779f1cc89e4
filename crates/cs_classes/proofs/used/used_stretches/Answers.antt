use Rattle.std.proofs.Common.{◌≡◌, ◌<◌, true, false, List, [], ◌∷◌, ◌++◌, filter, length, map, take, All, Vec, Global, sym, ap, ◌∙◌, subst, append-nil, arith}
use Rattle.std.proofs.lemmas.List.{map-append, take_all}
use Rattle.std.proofs.lemmas.List.Elements.{All-push, All-same}
use Rattle.cs_daytree.specs.Tree.{Tree}
use Rattle.cs_theorem.specs.Certificate.{Stretch}
use Rattle.cs_theorem.specs.Faults.{is_used}
use Rattle.cs_classes.specs.Claim.{as_certificate}
use Rattle.cs_classes.specs.Said.{said}
use Rattle.cs_classes.specs.declared.used.UsedStretch.{UsedStretch}
use Rattle.cs_classes.specs.Used.{AreClassed, AreInside, HaveClasses, IsInUse, seen, shown}
use Rattle.cs_classes.proofs.Searched.{filter_more}
use Rattle.cs_classes.proofs.InUse.{classes_there, used_is, have_classes, is_in_use}
use Rattle.cs_classes.proofs.used.used_stretches.Goals as goal
use Rattle.cs_classes.proofs.used.used_stretches.Goals.{in-Some+in_ok-push, in_default}

pub loop-number-preserved : goal.loop-number-preserved
loop-number-preserved c =
    let a = said c.args.claim.now in
    let n = c.args.days in
    let i = c.loop-number.number in
    let s = shown c.stretch.result in
    let us = c.loop-number.used.items in
    let test = λ (t : Stretch). is_used (as_certificate a) n t.of in
    let so_far = filter test (take i a.stretches) in
    let known = subst (AreClassed a.kinds n) (sym c.as_slice.ensures.value) (subst (λ (tree : Tree). AreClassed tree n c.in_ok-listed.listed.items) c.kinds.ensures.value c.in_ok-listed.ensures) in
    let lead = c.in_ok-chains.ensures in
    elim c.match-used_by.branch [
      | in-Some+in_ok-push w ↦
          let u = w.in-Some.found in
          let named = w.in-Some.ensures.used c.as_slice.result.now lead in
          let grown : c.match-used_by.used.items ≡ us ++ u ∷ [] = ap (λ (v : Vec UsedStretch Global). v.items) w.used-is ∙ w.in_ok-push.ensures.items in
          let have : HaveClasses a n s.of u.kinds.items = have_classes a n s.of c.as_slice.result.now u.kinds.items c.requires.0 known named.1 in
          let here : IsInUse a n u = record {
            kinds = subst (λ (t : Stretch). HaveClasses a n t.of u.kinds.items) (sym named.0) have;
            there = subst (λ (t : Stretch). All (λ class. class < length a.classes) t.of) (sym named.0) (classes_there a n s.of u.kinds.items c.kinds.ensures.there have);
            splits = subst (λ (t : Stretch). AreInside t.tree) (sym named.0) c.stretch.ensures.splits;
          } in
          record {
            listed = ap (map seen) grown ∙ map-append seen us (u ∷ []) ∙ ap (λ (l : List Stretch). l ++ seen u ∷ []) c.loop-number.invariant.listed ∙ ap (λ (t : Stretch). so_far ++ t ∷ []) named.0
                ∙ sym (filter_more test a.stretches i s true c.stretch.ensures.value (is_in_use a n s.of u.kinds.items c.requires.0 have));
            in_use = All-same (IsInUse a n) c.match-used_by.used.items (us ++ u ∷ []) grown (All-push (IsInUse a n) us u c.loop-number.invariant.in_use here);
          }
      | in_default w ↦
          let same : c.match-used_by.used.items ≡ us = ap (λ (v : Vec UsedStretch Global). v.items) w.used-is in
          let unused : test s ≡ false = sym (used_is a n s.of c.as_slice.result.now known) ∙ w.in_default.ensures.unused c.as_slice.result.now lead in
          record {
            listed = ap (map seen) same ∙ c.loop-number.invariant.listed ∙ sym (append-nil so_far) ∙ sym (filter_more test a.stretches i s false c.stretch.ensures.value unused);
            in_use = All-same (IsInUse a n) c.match-used_by.used.items us same c.loop-number.invariant.in_use;
          }
    ]

pub returns-clause-listed : goal.returns-clause-listed
returns-clause-listed c =
    let a = said c.args.claim.now in
    c.loop-number.invariant.listed ∙ ap (filter (λ (t : Stretch). is_used (as_certificate a) c.args.days t.of)) (take_all c.loop-number.number a.stretches (omega (arith, c.count-number-end.ensures)))
