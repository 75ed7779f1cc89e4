use Rattle.std.proofs.Common.{◌≡◌, ◌∙◌, ◌++◌, ◌/◌, ◌≤◌, if◌then◌else◌, Bool, true, List, [], ℕ, Option, Some, ap, rules, sym}
use Rattle.std.specs.Prelude.{codes, nat_le}
use Rattle.std.proofs.lemmas.Bool.{le-leb}
use Rattle.cs_civil.specs.Calendar.{last_day}
use Rattle.cs_machine.specs.Awaited.{until_text}
use Rattle.cs_machine.specs.RunLog.{moment_text}
use Rattle.cs_machine.proofs.Pushes.{longer, on_ok_by}
use Rattle.cs_machine.proofs.awaited.push_until.Goals as goal

until_is : (end : Option ℕ) (s : ℕ) → end ≡ Some s → nat_le (s / 86_400) last_day ≡ true → codes ", which may run until " ++ moment_text s ≡ until_text end
until_is end s is dated = sym (ap (λ (b : Bool). if b then codes ", which may run until " ++ moment_text s else []) dated) ∙ sym (ap until_text is)

pub returns : goal.returns
returns c =
    let t0 = c.args.text.now.items in
    let s = c.in-Some.seconds in
    let front = codes ", which may run until " in
    let dated : s / 86_400 ≤ last_day = search rules in
    let moment = c.in-Some-moment_text.moment in
    on_ok_by c.extend_from_slice-2.result c.extend_from_slice.new.self.items c.extend_from_slice-2.new.self.items moment (t0 ++ until_text c.args.end) c.extend_from_slice-2.ensures.items (λ one. longer t0 c.extend_from_slice.new.self.items c.extend_from_slice-2.new.self.items front moment (moment_text s) c.in_ok-extend_from_slice.ensures.items one c.in-Some-moment_text.ensures.text ∙ ap (λ (t : List ℕ). t0 ++ t) (until_is c.args.end s c.in-Some.is (le-leb (s / 86_400) last_day dated)))
