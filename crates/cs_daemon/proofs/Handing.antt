-- What is handed out, over the life of a daemon.
use Rattle.std.proofs.Common.{◌≡◌, ◌≤◌, List, [], ◌∷◌, ◌++◌, length, length-append, Some, None, sym, ap, ◌∙◌, subst, append_assoc, append-nil, arith, inl, inr}
use Rattle.cs_history.specs.declared.run.Run.{Run}
use Rattle.cs_daemon.specs.Starts.{Desk, IsCut, IsTaken, empty, starts_in, untaken, with_entries}
use Rattle.cs_daemon.specs.Deeds.{AreHandedOut, Deed, Does, Enters, Asks, Cuts, got, started}
use Rattle.cs_daemon.specs.InTurn.{InTurn}
use Rattle.cs_daemon.proofs.Taking.{untaken_more}

abbrev pub IsIn : Desk → Type 0
IsIn d = d.next ≤ length d.journal

entered : (d n : Desk) (more : List _) → n ≡ with_entries more d → IsIn d → IsIn n
entered d n more e place = subst IsIn (sym e) (let l = length-append d.journal more in omega (arith, l, place))

from : (deeds : List Deed) (d last : Desk) → IsIn d → InTurn Does deeds d last → untaken d ++ started deeds ≡ got deeds ++ untaken last
from [] d last place done = append-nil (untaken d) ∙ ap untaken (sym done)
from (Enters more ∷ deeds) d last place done =
    let n = done.0 in
    let e : n ≡ with_entries more d = done.1 in
    let rest : untaken n ++ started deeds ≡ got deeds ++ untaken last = from deeds n last (entered d n more e place) done.2 in
    let now : untaken n ≡ untaken d ++ starts_in more = ap untaken e ∙ untaken_more d more place in
    sym (append_assoc (untaken d) (starts_in more) (started deeds)) ∙ ap (λ (u : List Run). u ++ started deeds) (sym now) ∙ rest
from (Asks None ∷ deeds) d last place done =
    let n = done.0 in
    let t : IsTaken d None n = done.1 in
    ap (λ (u : List Run). u ++ started deeds) (t.first.0 ∙ sym t.first.1) ∙ from deeds n last t.place done.2
from (Asks (Some run) ∷ deeds) d last place done =
    let n = done.0 in
    let t : IsTaken d (Some run) n = done.1 in
    ap (λ (u : List Run). u ++ started deeds) t.first ∙ ap (λ (l : List Run). run ∷ l) (from deeds n last t.place done.2)
from (Cuts ∷ deeds) d last place done = go done.0 done.1 (λ p. from deeds done.0 last p done.2)
  where
    go : (n : Desk) → IsCut d n → (IsIn n → untaken n ++ started deeds ≡ got deeds ++ untaken last) → untaken d ++ started deeds ≡ got deeds ++ untaken last
    go n (inl anew) rest = ap (λ (u : List Run). u ++ started deeds) (anew.0 ∙ ap untaken (sym anew.1)) ∙ rest (subst IsIn (sym anew.1) (omega arith))
    go n (inr same) rest = ap (λ (x : Desk). untaken x ++ started deeds) (sym same) ∙ rest (subst IsIn (sym same) place)

pub handed_out : AreHandedOut
handed_out deeds last done = sym (from deeds empty last (omega arith) done)
