use Rattle.std.proofs.Common.{◌<◌, List, length, slice_index_or, refl, sym, ap, ◌∙◌, arith}
use Rattle.std.specs.Prelude.{slice_get}
use Rattle.std.proofs.lemmas.Option.{slice_get_read}
use Rattle.cs_classes.specs.Said.{said}
use Rattle.cs_check.specs.declared.class_day.ClassDay.{ClassDay}
use Rattle.cs_check.proofs.Using.{number_there}
use Rattle.cs_check.proofs.case.Case.day_on.Goals as goal

pub bounds-as_slice-number : goal.bounds-as_slice-number
bounds-as_slice-number c =
    let lt = number_there (said c.args.self.now.claim.now) c.args.self.now.days c.args.used.now c.requires.in_use c.args.place c.requires.within in
    let count = ap (λ (xs : List ClassDay). length xs) c.as_slice.ensures.value in
    omega (arith, lt, count, c.requires.case.class_days.long)

pub returns : goal.returns
returns c =
    let k = said c.args.self.now.claim.now in
    let days = c.as_slice.result.now in
    let number = slice_index_or c.args.used.now.of.now c.args.place 0 in
    let day = c.index-as_slice-number.result in
    let lt = number_there k c.args.self.now.days c.args.used.now c.requires.in_use c.args.place c.requires.within in
    let count = ap (λ (xs : List ClassDay). length xs) c.as_slice.ensures.value in
    let there : number < length days = omega (arith, lt, count, c.requires.case.class_days.long) in
    let got = ap (λ (xs : List ClassDay). slice_get xs number) (sym c.as_slice.ensures.value) ∙ slice_get_read days (length days) number day refl there c.index-as_slice-number.is in
    c.requires.case.class_days.each number day got
