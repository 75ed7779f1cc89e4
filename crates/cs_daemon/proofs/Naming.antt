-- The starts of a journal are those of its history.
use Rattle.std.proofs.Common.{◌≡◌, false, List, [], ◌∷◌, ◌++◌, map, fold, refl, sym, ap, ◌∙◌, subst, append_assoc, append-nil}
use Rattle.std.proofs.lemmas.List.{map-append}
use Rattle.std.specs.List.{AllByRecursion}
use Rattle.cs_history.specs.Lists.{EachPair}
use Rattle.cs_history.specs.Plan.{Plan}
use Rattle.cs_history.specs.History.{History, From, ◌▸◌, Start, Answer, Starts, Waits, Skips, answer, going, now, running, same_run, with_started}
use Rattle.cs_history.specs.Journal.{AreReplies, IsJournal, told}
use Rattle.cs_history.specs.Names.{started}
use Rattle.cs_history.specs.Step.{State, reply, said, state_of}
use Rattle.cs_history.specs.declared.run.Run.{Run}
use Rattle.cs_history.specs.declared.run.Going.{Going}
use Rattle.cs_history.specs.declared.event.Event.{Event}
use Rattle.cs_history.specs.declared.event.Event.TheVariants.{Minute, Begin, Got, Catch, End, Down, Up}
use Rattle.cs_history.specs.declared.reply.Reply.{Reply}
use Rattle.cs_daemon.specs.Starts.{start_in, starts_in}

abbrev names : List Going → List Run
names rs = map (λ g. g.run) rs

-- a run that starts comes after those that have
begun : (a : Answer) (rs : List Going) (g : Going) → names (with_started a rs g) ≡ names rs ++ start_in (said a g.run)
begun Starts rs g = map-append (λ (x : Going). x.run) rs (g ∷ [])
begun Waits rs g = sym (append-nil (names rs))
begun Skips rs g = sym (append-nil (names rs))

abbrev after : History → List (Event × Reply) → History
after h [] = h
after h (e ∷ es) = after (h ▸ e.0) es

module _ (p : Plan) where
  one : (h : History) (e : Event) → names (started p (h ▸ e)) ≡ names (started p h) ++ start_in (reply p (state_of p h) e)
  one h (Minute t) = sym (append-nil (names (started p h)))
  one h (Begin j) = begun (answer p (running p h) j) (started p h) (going j (now h) (now h))
  one h (Got j d) = map-append (λ (x : Going). x.run) (started p h) (going j d (now h) ∷ [])
  one h (Catch j) = map-append (λ (x : Going). x.run) (started p h) (going j (now h) (now h) ∷ [])
  one h (End r) = sym (append-nil (names (started p h)))
  one h Down = sym (append-nil (names (started p h)))
  one h (Up t) = sym (append-nil (names (started p h)))

  all : (h : History) (es : List (Event × Reply)) → AreReplies p h es → names (started p (after h es)) ≡ names (started p h) ++ starts_in es
  all h [] replies = sym (append-nil (names (started p h)))
  all h (e ∷ es) replies =
      let first : names (started p (h ▸ e.0)) ≡ names (started p h) ++ start_in e.1 =
      subst (λ (r : Reply). names (started p (h ▸ e.0)) ≡ names (started p h) ++ start_in r) (sym replies.0) (one h e.0) in
      all (h ▸ e.0) es replies.1 ∙ ap (λ (l : List Run). l ++ starts_in es) first ∙ append_assoc (names (started p h)) (start_in e.1) (starts_in es)

after_told : (h : History) (es : List (Event × Reply)) → after h es ≡ fold (λ h e. h ▸ e.0) h es
after_told h [] = refl
after_told h (e ∷ es) = after_told (h ▸ e.0) es

named : (gs : List Going) (g : Going) → AllByRecursion (λ (q : Going). same_run g.run q.run ≡ false) gs → AllByRecursion (λ (q : Run). same_run g.run q ≡ false) (names gs)
named [] g a = tt
named (q ∷ gs) g a = (a.0, named gs g a.1)

pairs : (gs : List Going) → EachPair (λ (r q : Going). same_run r.run q.run ≡ false) gs → EachPair (λ (r q : Run). same_run r q ≡ false) (names gs)
pairs [] a = tt
pairs (g ∷ gs) a = (named gs g a.0, pairs gs a.1)

pub apart : (p : Plan) (base : Start) (es : List (Event × Reply)) (s : State) → EachPair (λ (r q : Going). same_run r.run q.run ≡ false) (started p (told base es)) → IsJournal p base es s → EachPair (λ (r q : Run). same_run r q ≡ false) (starts_in es)
apart p base es s each journal =
    let whole : names (started p (told base es)) ≡ starts_in es =
    ap (λ (h : History). names (started p h)) (sym (after_told (From base) es)) ∙ all p (From base) es journal.replies in
    subst (EachPair (λ (r q : Run). same_run r q ≡ false)) whole (pairs (started p (told base es)) each)
