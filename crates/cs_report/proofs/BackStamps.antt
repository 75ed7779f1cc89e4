-- The line of a stamp is read back as that stamp.
use Rattle.std.proofs.Common.{◌≡◌, ℕ, ◌≤◌, Bool, List, [], ◌∷◌, ◌++◌, length, get_or, set, Option, Some, None, Ok, refl, ap, ◌∙◌}
use Rattle.std.specs.Prelude.{codes}
use Rattle.cs_civil.specs.Calendar.{last_day}
use Rattle.cs_civil.specs.Text.{day_text}
use Rattle.cs_plan.specs.Plan.{Declared}
use Rattle.cs_report.specs.Grammar.{IsWord, Stamp, Stamps, Says}
use Rattle.cs_report.specs.Names.{place_of}
use Rattle.cs_report.specs.Script.{PartialScript, taken}
use Rattle.cs_report.specs.ScriptText.{on_day}
use Rattle.cs_report.proofs.BackMoments.{day_is}
use Rattle.cs_report.proofs.Taking.{behind, behind_again}
use Rattle.cs_report.proofs.Told.{stamp_placed}

-- the draft after a start and some stamps
abbrev pub reading : ℕ × Bool → List (Option ℕ) → PartialScript
reading o stamps = behind o stamps []

abbrev pub stamp_text : List ℕ → ℕ → List ℕ
stamp_text identifier day = codes "stamp " ++ (identifier ++ on_day day)

says_stamp : (d : Declared) (identifier : List ℕ) (place day : ℕ) → IsWord identifier → place_of d identifier ≡ Some place → 1 ≤ day → day ≤ last_day → Says d (stamp_text identifier day) (Stamps place day)
says_stamp d identifier place day word named ge le = (Stamp identifier (day_text day), (refl, (word, day_is day)), (day, place, (refl, ge, le), named, refl))

next_is : (done more : List (Option ℕ)) (x : Option ℕ) → get_or (done ++ x ∷ more) (length done) None ≡ x
next_is [] more x = refl
next_is (s ∷ done) more x = next_is done more x

next_set : (done more : List (Option ℕ)) (x y : Option ℕ) → set (done ++ x ∷ more) (length done) y ≡ done ++ y ∷ more
next_set [] more x y = refl
next_set (s ∷ done) more x y = ap (λ (ss : List (Option ℕ)). s ∷ ss) (next_set done more x y)

-- a stamp of the next job
pub taken_stamp : (d : Declared) (n : ℕ) (o : ℕ × Bool) (done more : List (Option ℕ)) (identifier : List ℕ) (day : ℕ)
    → IsWord identifier → place_of d identifier ≡ Some (length done) → 1 ≤ day → day ≤ last_day
    → taken d n (reading o (done ++ None ∷ more)) (stamp_text identifier day) ≡ Ok (reading o (done ++ Some day ∷ more))
taken_stamp d n o done more identifier day word place ge le =
    let days : List (Option ℕ) = done ++ None ∷ more in
    let s = says_stamp d identifier (length done) day word place ge le in
    behind_again d o days [] n (stamp_text identifier day) s.0 (Stamps (length done) day) s.1 s.2 (stamp_placed d o days [] s.0 (length done) day s.2 refl (next_is done more None))
    ∙ ap (λ (ss : List (Option ℕ)). Ok (reading o ss)) (next_set done more None (Some day))
