-- Lines that are left out, and those that a plan keeps.
use Rattle.std.proofs.Common.{◌≡◌, inl, inr, ℕ, List, [], ◌∷◌, Bool, true, false, not, cond, map, refl}
use Rattle.std.specs.List.{filter}
use Rattle.cs_crontab.specs.Crontab.{CommandLine}
use Rattle.cs_decl.specs.declared.entries.Entries.{Entries}
use Rattle.cs_decl.specs.Join.{is_named, is_left_out}
use Rattle.cs_decl.specs.Lines.{AreParted}
use Rattle.cs_decl.proofs.Once.{passing, none_pass}

abbrev kept : Entries → List CommandLine → List CommandLine
kept d lines = filter (λ line. not (is_left_out d line)) lines

abbrev others : Entries → List CommandLine → List ℕ
others d lines = map (λ line. line.number) (filter (is_left_out d) lines)

one_more : (d : Entries) (line : CommandLine) (lines : List CommandLine) (b : Bool) → is_left_out d line ≡ b → AreParted d lines (kept d lines) (others d lines) → AreParted d (line ∷ lines) (cond (not b) (line ∷ kept d lines) (kept d lines)) (map (λ l. l.number) (cond b (line ∷ filter (is_left_out d) lines) (filter (is_left_out d) lines)))
one_more d line lines true is more = inl (passing (λ name. is_named name line) d.left_out is, others d lines, refl, more)
one_more d line lines false is more = inr (none_pass (λ name. is_named name line) d.left_out is, kept d lines, refl, more)

pub parted : (d : Entries) (lines : List CommandLine) → AreParted d lines (filter (λ line. not (is_left_out d line)) lines) (map (λ line. line.number) (filter (is_left_out d) lines))
parted d [] = (refl, refl)
parted d (line ∷ lines) = one_more d line lines (is_left_out d line) refl (parted d lines)
