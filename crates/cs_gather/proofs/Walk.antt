-- A walk through the lines of a text, and the place of a line.
use Rattle.std.proofs.Common.{◌≡◌, ℕ, ◌+◌, ◌-◌, ◌<◌, List, [], ◌∷◌, ◌++◌, length, get_or, refl, sym, ap, ◌∙◌, arith, append_assoc, inl, inr}
use Rattle.std.proofs.lemmas.List.{length-append}
use Rattle.cs_table.specs.Text.{lines_of, front, after, is_blank}
use Rattle.cs_table.specs.Table.{found_at, as_error}
use Rattle.cs_table.specs.Wrong.{whole}
use Rattle.cs_table.proofs.Spans.{parts_joined, front_passes, after_stops}
use Rattle.cs_crontab.specs.declared.fault.LineFault.TheVariants.{TooLong, TooManyJobs}
use Rattle.cs_system.specs.declared.fault.SystemFault.TheVariants.{Line}
use Rattle.cs_gather.specs.declared.line.Gathered.{Gathered}
use Rattle.cs_gather.specs.Gather.{IsLineAt, IsOverflow}
use Rattle.cs_gather.proofs.Between.{parts_at}

-- so many lines of the text are passed, and the rest is left
pub record IsWalked (text rest : List ℕ) (number : ℕ) : Type 0 where
  pub before : List (List ℕ)
  pub parts : lines_of text ≡ before ++ lines_of rest
  pub count : number ≡ length before

pub begin : (text : List ℕ) → IsWalked text text 0
begin text = record { before = []; parts = refl; count = refl }

module _ (text rest line behind : List ℕ) (number : ℕ) (walked : IsWalked text rest number) (first : lines_of rest ≡ line ∷ lines_of behind) where
  pub go_on : IsWalked text behind (number + 1)
  go_on =
      record {
        before = walked.before ++ line ∷ [];
        parts = walked.parts ∙ ap (λ (l : List (List ℕ)). walked.before ++ l) first ∙ sym (append_assoc walked.before (line ∷ []) (lines_of behind));
        count = omega (arith, walked.count, length-append walked.before (line ∷ []));
      }

  place : IsLineAt text (number + 1) (length line - length (after is_blank line) + 1) (length (after is_blank line))
  place =
      let joined = parts_joined is_blank line in
      record {
        before = walked.before;
        found = line;
        later = lines_of behind;
        parts = walked.parts ∙ ap (λ (l : List (List ℕ)). walked.before ++ l) first;
        number = omega (arith, walked.count);
        indent = front is_blank line;
        content = after is_blank line;
        line_parts = sym joined;
        blank = front_passes is_blank line;
        stops = after_stops is_blank line;
        column_is = omega (arith, ap (length {A = ℕ}) joined, length-append (front is_blank line) (after is_blank line));
        size_is = refl;
      }

  pub too_long : (room : ℕ) (commands : List Gathered) → IsOverflow text room commands (as_error (found_at (number + 1) line (whole (Line TooLong) (after is_blank line))))
  too_long room commands = (place, inl refl)

  pub too_many : (room : ℕ) (commands : List Gathered) (command : Gathered) → room < length commands → command ≡ get_or commands room command → command.number ≡ number + 1
      → IsOverflow text room commands (as_error (found_at (number + 1) line (whole (Line TooManyJobs) (after is_blank line))))
  too_many room commands command below is same =
      let p = parts_at commands room command below is in
      (place, inr (refl, (p.0, command, p.1, p.2, p.3, sym same)))
