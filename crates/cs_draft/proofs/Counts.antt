use Rattle.std.proofs.Common.{◌≡◌, ◌∙◌, ℕ, ◌+◌, Bool, List, [], ◌∷◌, ◌++◌, cond, map, refl, ap}
use Rattle.std.specs.List.{count_by, fold}
use Rattle.std.proofs.lemmas.List.Sums.{sum_by-append}
use Rattle.cs_crontab.specs.Crontab.{CommandLine}
use Rattle.cs_decl.specs.declared.entries.LineName.{LineName}
use Rattle.cs_decl.specs.declared.entries.CronEntry.{CronEntry}
use Rattle.cs_decl.specs.declared.entries.Entries.{Entries}
use Rattle.cs_decl.specs.Lines.{names_of}
use Rattle.cs_draft.specs.Draft.{is_gone, tells}

counted_map : (p : LineName → Bool) (n : ℕ) (es : List CronEntry) → fold (λ a x. a + cond (p x) 1 0) n (map (λ e. e.name) es) ≡ fold (λ a e. a + cond (p e.name) 1 0) n es
counted_map p n [] = refl
counted_map p n (e ∷ es) = counted_map p (n + cond (p e.name) 1 0) es

both : (p : LineName → Bool) (es : List CronEntry) (names : List LineName) → count_by p (map (λ e. e.name) es ++ names) ≡ count_by (λ e. p e.name) es + count_by p names
both p es names = sum_by-append (λ x. cond (p x) 1 0) (map (λ e. e.name) es) names ∙ ap (λ n. n + count_by p names) (counted_map p 0 es)

pub counted : (timed : Bool) (d : Entries) (line : CommandLine) → count_by (tells timed line) (names_of d) ≡ count_by (λ e. tells timed line e.name) d.cron + count_by (tells timed line) d.left_out
counted timed d line = both (tells timed line) d.cron d.left_out

pub counted_gone : (lines : List CommandLine) (d : Entries) → count_by (is_gone lines) (names_of d) ≡ count_by (λ e. is_gone lines e.name) d.cron + count_by (is_gone lines) d.left_out
counted_gone lines d = both (is_gone lines) d.cron d.left_out
