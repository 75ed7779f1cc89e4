-- What becomes of the starts of a journal.
use Rattle.std.proofs.Common.{◌≡◌, ◌≤◌, ◌<◌, ◌+◌, ℕ, List, [], ◌∷◌, ◌++◌, length, drop, get_or, ap, ◌∙◌}
use Rattle.std.proofs.lemmas.List.{at_drop_more, drop-append-le}
use Rattle.std.proofs.lemmas.List.Concat.{flat_map-append}
use Rattle.cs_history.specs.declared.event.Event.{Event}
use Rattle.cs_history.specs.declared.reply.Reply.{Reply}
use Rattle.cs_history.specs.declared.reply.Reply.TheVariants.{Started}
use Rattle.cs_history.specs.declared.run.Run.{Run}
use Rattle.cs_daemon.specs.Starts.{Desk, start_in, starts_in, untaken, with_entries}

-- the starts of new entries come after those that are there
pub untaken_more : (d : Desk) (more : List (Event × Reply)) → d.next ≤ length d.journal → untaken (with_entries more d) ≡ untaken d ++ starts_in more
untaken_more d more place =
    ap starts_in (drop-append-le d.next d.journal more place) ∙ flat_map-append (λ e. start_in e.1) (drop d.next d.journal) more

-- the starts from a place on are those of its entry, and then those after it
at_place : (j : List (Event × Reply)) (i : ℕ) (d : Event × Reply) (r : Reply) → i < length j → (get_or j i d).1 ≡ r → starts_in (drop i j) ≡ start_in r ++ starts_in (drop (i + 1) j)
at_place j i d r l e = at_drop_more starts_in j i d l ∙ ap (λ (x : Reply). start_in x ++ starts_in (drop (i + 1) j)) e

pub start_at : (j : List (Event × Reply)) (i : ℕ) (d : Event × Reply) (run : Run) → i < length j → (get_or j i d).1 ≡ Started run → starts_in (drop i j) ≡ run ∷ starts_in (drop (i + 1) j)
start_at j i d run l e = at_place j i d (Started run) l e

pub no_start_at : (j : List (Event × Reply)) (i : ℕ) (d : Event × Reply) (r : Reply) → i < length j → (get_or j i d).1 ≡ r → start_in r ≡ [] → starts_in (drop i j) ≡ starts_in (drop (i + 1) j)
no_start_at j i d r l e none = at_place j i d r l e ∙ ap (λ (x : List Run). x ++ starts_in (drop (i + 1) j)) none
