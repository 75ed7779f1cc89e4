-- What a store that does what it is asked holds in the end.
use Rattle.std.proofs.Common.{◌≡◌, ◌≢◌, ◌⊎◌, ◌<◌, ◌≤◌, ℕ, zero, suc, ◌==◌, Bool, true, false, if◌then◌else◌, List, [], ◌∷◌, ◌++◌, length, map, set, fold, Option, Some, None, refl, sym, ap, ◌∙◌, subst, inl, inr, arith}
use Rattle.std.proofs.lemmas.Bool.{eqb-false, eqb-true}
use Rattle.std.proofs.lemmas.Grind.{get_or-set_at}
use Rattle.std.proofs.lemmas.List.{get_or-map, get_or-set_other, length-set, length-map}
use Rattle.std.proofs.lemmas.Simd.{map-map}
use Rattle.std.specs.List.{AllByRecursion}
use Rattle.cs_daemon.proofs.Storing.{lacking_next}
use Rattle.cs_anacrontab.specs.Anacrontab.{JobLine}
use Rattle.cs_plan.specs.Plan.{Declared, no_line}
use Rattle.cs_history.specs.Lists.{below}
use Rattle.cs_device.specs.declared.store.Stamp.{Stamp}
use Rattle.cs_daemon.specs.InTurn.{InTurn}
use Rattle.cs_daemon.specs.Shelf.{HaveNames, Holds, Reads, Shelf, Writes}
use Rattle.cs_daemon.specs.Stamps.{AreKept, AreRead, AreWritten, IsOnlyRead, WritesNext, WritesOne, Written, day_in, identifier_at, lacked, lacking, lacks, stamp_at, with_written}

-- ---- what is written for stamps

is_lacked : (known stamp : Option ℕ) (day : ℕ) → lacked known stamp ≡ Some day → stamp ≡ Some day
is_lacked known None day e = e
is_lacked None (Some d) day e = e
is_lacked (Some b) (Some d) day e = go (b == d) e
  where
    go : (same : Bool) → (if same then None else Some d) ≡ Some day → Some d ≡ Some day
    go true f = absurd (cc)
    go false f = f

is_known : (known stamp : Option ℕ) (day : ℕ) → stamp ≡ Some day → (lacked known stamp ≡ Some day) ⊎ (known ≡ Some day)
is_known known None day e = absurd (cc)
is_known None (Some d) day e = inl e
is_known (Some b) (Some d) day e = go (b == d) refl
  where
    go : (same : Bool) → (b == d) ≡ same → ((if same then None else Some d) ≡ Some day) ⊎ (Some b ≡ Some day)
    go true f = inr (ap Some (eqb-true b d f) ∙ e)
    go false f = inl e

-- a job below n, with its stamp among these
record Fits (stamps : List (Option ℕ)) (n : ℕ) (p : ℕ × ℕ) : Type 0 where
  pub few : p.0 < n
  pub same : stamp_at stamps p.0 ≡ Some p.1

abbrev AllFit : List (Option ℕ) → ℕ → List (ℕ × ℕ) → Type 0
AllFit stamps n ps = AllByRecursion (Fits stamps n) ps

abbrev IsIn : {X : Type 0} → X → List X → Type 0
IsIn x [] = ⊥
IsIn x (y ∷ ys) = (x ≡ y) ⊎ IsIn x ys

in_front : {X : Type 0} (x : X) (xs ys : List X) → IsIn x xs → IsIn x (xs ++ ys)
in_front x (z ∷ xs) ys (inl e) = inl e
in_front x (z ∷ xs) ys (inr i) = inr (in_front x xs ys i)
in_front x [] ys i = absurd i

in_back : {X : Type 0} (x : X) (xs ys : List X) → IsIn x ys → IsIn x (xs ++ ys)
in_back x [] ys i = i
in_back x (z ∷ xs) ys i = inr (in_back x xs ys i)

fit_both : (stamps : List (Option ℕ)) (n : ℕ) (xs ys : List (ℕ × ℕ)) → AllFit stamps n xs → AllFit stamps n ys → AllFit stamps n (xs ++ ys)
fit_both stamps n [] ys a b = b
fit_both stamps n (x ∷ xs) ys a b = (a.0, fit_both stamps n xs ys a.1 b)

module _ (known stamps : List (Option ℕ)) where
  abbrev lacked_at : ℕ → Option ℕ
  lacked_at job = lacked (stamp_at known job) (stamp_at stamps job)

  next_fit : (n job : ℕ) → job < n → (o : Option ℕ) → lacked_at job ≡ o → AllFit stamps n (lacks job o)
  next_fit n job few None e = tt
  next_fit n job few (Some day) e = (record { few = few; same = is_lacked (stamp_at known job) (stamp_at stamps job) day e }, tt)

  lacking_fit : (n k : ℕ) → k ≤ n → AllFit stamps n (lacking (below k) known stamps)
  lacking_fit n zero few = tt
  lacking_fit n (suc k) few =
      subst (AllFit stamps n) (sym (lacking_next k known stamps))
      (fit_both stamps n (lacking (below k) known stamps) (lacks k (lacked_at k)) (lacking_fit n k (omega (arith, few))) (next_fit n k (omega (arith, few)) (lacked_at k) refl))

  -- what a job lacks is among all that is lacking
  is_in : (k job day : ℕ) → job < k → lacked_at job ≡ Some day → IsIn (job, day) (lacking (below k) known stamps)
  is_in zero job day few e = absurd (omega (arith, few))
  is_in (suc k) job day few e = subst (IsIn (job, day)) (sym (lacking_next k known stamps)) (go (is_in k job day) (job == k) refl)
    where
      go : (job < k → lacked_at job ≡ Some day → IsIn (job, day) (lacking (below k) known stamps)) → (same : Bool) → (job == k) ≡ same → IsIn (job, day) (lacking (below k) known stamps ++ lacks k (lacked_at k))
      go before true f =
          let at : job ≡ k = eqb-true job k f in
          in_back (job, day) (lacking (below k) known stamps) (lacks k (lacked_at k))
          (subst (λ (n : ℕ). IsIn (job, day) (lacks n (lacked_at n))) at (subst (λ (o : Option ℕ). IsIn (job, day) (lacks job o)) (sym e) (inl refl)))
      go before false f =
          let other : job ≢ k = eqb-false job k f in
          in_front (job, day) (lacking (below k) known stamps) (lacks k (lacked_at k)) (before (omega (arith, few, other)) e)

-- ---- what a store holds

module _ (lines : List JobLine) (apart : HaveNames lines) where
  -- what is known of the store is what it holds
  record IsKnown (known : List (Option ℕ)) (s : Shelf) : Type 0 where
    pub long : length known ≡ length lines
    pub each : (job : ℕ) → job < length lines → stamp_at known job ≡ s (identifier_at lines job)

  abbrev pair : Written → ℕ × ℕ
  pair w = (w.job, w.day)

  one_known : (known : List (Option ℕ)) (w : Written) (s t : Shelf) → w.job < length lines → IsKnown known s → WritesOne Writes lines s w t → IsKnown (with_written known w) t
  one_known known w s t few so wrote = subst (λ (b : Bool). IsKnown (if b then set known w.job (Some w.day) else known) t) (sym wrote.0) (record {
    long = length-set known w.job (Some w.day) ∙ so.long;
    each = λ job less. at job less (job == w.job) refl;
  })
    where
      at : (job : ℕ) → job < length lines → (same : Bool) → (job == w.job) ≡ same → stamp_at (set known w.job (Some w.day)) job ≡ t (identifier_at lines job)
      at job less true f =
          let is : job ≡ w.job = eqb-true job w.job f in
          let here : stamp_at (set known w.job (Some w.day)) job ≡ Some w.day = get_or-set_at known w.job job (Some w.day) None is (omega (arith, few, so.long)) in
          here ∙ sym wrote.1 ∙ ap (λ (n : ℕ). t (identifier_at lines n)) (sym is)
      at job less false f =
          let other : job ≢ w.job = eqb-false job w.job f in
          get_or-set_other known w.job job (Some w.day) None other ∙ so.each job less
          ∙ sym (wrote.2 (identifier_at lines job) (λ same. other (apart job w.job less few same)))

  all_known : (stamps known : List (Option ℕ)) (ws : List Written) (s t : Shelf) → AllFit stamps (length lines) (map pair ws) → IsKnown known s → InTurn (WritesOne Writes lines) ws s t
      → IsKnown (fold with_written known ws) t
  all_known stamps known [] s t fit so done = subst (IsKnown known) (sym done) so
  all_known stamps known (w ∷ ws) s t fit so done =
      all_known stamps (with_written known w) ws done.0 t fit.1 (one_known known w s done.0 fit.0.few so done.1) done.2

  written_known : (stamps known known_then : List (Option ℕ)) (s t : Shelf) → IsKnown known s → AreWritten Writes lines stamps known s known_then t → IsKnown known_then t
  written_known stamps known known_then s t so written =
      let fit = subst (AllFit stamps (length lines)) (sym written.which) (lacking_fit known stamps (length lines) (length lines) (omega arith)) in
      subst (λ (k : List (Option ℕ)). IsKnown k t) (sym written.noted) (all_known stamps known written.log s t fit so written.written)

  stays : (stamps known : List (Option ℕ)) (ws : List Written) (s t : Shelf) (job : ℕ) → length known ≡ length lines → AllFit stamps (length lines) (map pair ws) → InTurn (WritesOne Writes lines) ws s t
      → stamp_at known job ≡ stamp_at stamps job → stamp_at (fold with_written known ws) job ≡ stamp_at stamps job
  stays stamps known [] s t job long fit done is = is
  stays stamps known (w ∷ ws) s t job long fit done is =
      let known_then = with_written known w in
      let set_then : known_then ≡ set known w.job (Some w.day) = ap (λ (b : Bool). if b then set known w.job (Some w.day) else known) done.1.0 in
      let long_then : length known_then ≡ length lines = ap length set_then ∙ length-set known w.job (Some w.day) ∙ long in
      stays stamps known_then ws done.0 t job long_then fit.1 done.2 (ap (λ (k : List (Option ℕ)). stamp_at k job) set_then ∙ at (job == w.job) refl)
    where
      at : (same : Bool) → (job == w.job) ≡ same → stamp_at (set known w.job (Some w.day)) job ≡ stamp_at stamps job
      at true f =
          let here : job ≡ w.job = eqb-true job w.job f in
          let few : w.job < length lines = fit.0.few in
          get_or-set_at known w.job job (Some w.day) None here (omega (arith, few, long)) ∙ sym fit.0.same ∙ ap (stamp_at stamps) (sym here)
      at false f = get_or-set_other known w.job job (Some w.day) None (eqb-false job w.job f) ∙ is

  comes : (stamps known : List (Option ℕ)) (ws : List Written) (s t : Shelf) (job day : ℕ) → length known ≡ length lines → AllFit stamps (length lines) (map pair ws) → InTurn (WritesOne Writes lines) ws s t
      → IsIn (job, day) (map pair ws) → stamp_at (fold with_written known ws) job ≡ stamp_at stamps job
  comes stamps known [] s t job day long fit done here = absurd here
  comes stamps known (w ∷ ws) s t job day long fit done here =
      let known_then = with_written known w in
      let set_then : known_then ≡ set known w.job (Some w.day) = ap (λ (b : Bool). if b then set known w.job (Some w.day) else known) done.1.0 in
      let long_then : length known_then ≡ length lines = ap length set_then ∙ length-set known w.job (Some w.day) ∙ long in
      go known_then set_then long_then (comes stamps known_then ws done.0 t job day long_then fit.1 done.2) here
    where
      go : (known_then : List (Option ℕ)) → known_then ≡ set known w.job (Some w.day) → length known_then ≡ length lines
          → (IsIn (job, day) (map pair ws) → stamp_at (fold with_written known_then ws) job ≡ stamp_at stamps job) → ((job, day) ≡ pair w) ⊎ IsIn (job, day) (map pair ws)
          → stamp_at (fold with_written known_then ws) job ≡ stamp_at stamps job
      go known_then set_then long_then later (inl e) =
          let here : job ≡ w.job = ap (λ (p : ℕ × ℕ). p.0) e in
          let few : w.job < length lines = fit.0.few in
          let now : stamp_at known_then job ≡ stamp_at stamps job =
          ap (λ (k : List (Option ℕ)). stamp_at k job) set_then
          ∙ get_or-set_at known w.job job (Some w.day) None here (omega (arith, few, long)) ∙ sym fit.0.same ∙ ap (stamp_at stamps) (sym here) in
          stays stamps known_then ws done.0 t job long_then fit.1 done.2 now
      go known_then set_then long_then later (inr i) = later i

  written_held : (stamps known known_then : List (Option ℕ)) (s t : Shelf) → IsKnown known s → AreWritten Writes lines stamps known s known_then t → Holds lines stamps t
  written_held stamps known known_then s t so written job day less stamp =
      let fit = subst (AllFit stamps (length lines)) (sym written.which) (lacking_fit known stamps (length lines) (length lines) (omega arith)) in
      let known_of = written_known stamps known known_then s t so written in
      let same : stamp_at (fold with_written known written.log) job ≡ stamp_at stamps job =
      (elim (is_known (stamp_at known job) (stamp_at stamps job) day stamp) [
        | inl e ↦ comes stamps known written.log s t job day so.long fit written.written (subst (IsIn (job, day)) (sym written.which) (is_in known stamps (length lines) job day less e))
        | inr e ↦ stays stamps known written.log s t job so.long fit written.written (e ∙ sym stamp)
      ]) in
      sym (known_of.each job less) ∙ ap (λ (k : List (Option ℕ)). stamp_at k job) written.noted ∙ same ∙ stamp

  turns_known : (d : Declared) (lists : List (List (Option ℕ))) (a b : List (Option ℕ) × Shelf) → d.anacrontab.lines ≡ lines → IsKnown a.0 a.1 → InTurn (WritesNext Writes d) lists a b → IsKnown b.0 b.1
  turns_known d [] a b is so done = subst (λ (x : List (Option ℕ) × Shelf). IsKnown x.0 x.1) (sym done) so
  turns_known d (stamps ∷ lists) a b is so done =
      turns_known d lists done.0 b is
      (written_known stamps a.0 done.0.0 a.1 done.0.1 so (subst (λ (ls : List JobLine). AreWritten Writes ls stamps a.0 a.1 done.0.0 done.0.1) is done.1.1)) done.2

-- ---- reading

reads_held : (answers : List (List ℕ × Stamp)) (old new : Shelf) → InTurn (λ (s : Shelf) (r : List ℕ × Stamp) (t : Shelf). Reads s r.0 r.1 t) answers old new
    → (new ≡ old) × (map (λ r. day_in r.1) answers ≡ map (λ r. old r.0) answers)
reads_held [] old new done = (done, refl)
reads_held (r ∷ rs) old new done =
    let rest = reads_held rs done.0 new done.2 in
    let same : done.0 ≡ old = done.1.0 in
    let tail : map (λ (r : List ℕ × Stamp). day_in r.1) rs ≡ map (λ (r : List ℕ × Stamp). old r.0) rs = subst (λ (s : Shelf). map (λ (r : List ℕ × Stamp). day_in r.1) rs ≡ map (λ (r : List ℕ × Stamp). s r.0) rs) same rest.1 in
    (rest.0 ∙ same, ap (λ (l : List (Option ℕ)). day_in r.1 ∷ l) tail ∙ ap (λ (o : Option ℕ). o ∷ map (λ (r : List ℕ × Stamp). old r.0) rs) done.1.1)

read_known : (lines : List JobLine) (apart : HaveNames lines) (old new : Shelf) (known : List (Option ℕ)) → AreRead Reads lines old known new → IsKnown lines apart known new
read_known lines apart old new known read =
    let both = reads_held read.answers old new read.read in
    let held : known ≡ map (λ (line : JobLine). old line.identifier) lines =
    read.said ∙ both.1 ∙ sym (map-map old (λ (r : List ℕ × Stamp). r.0) read.answers) ∙ ap (map old) read.identifiers ∙ map-map old (λ (line : JobLine). line.identifier) lines in
    record {
      long = ap length held ∙ length-map lines (λ (line : JobLine). old line.identifier);
      each = λ job less.
          ap (λ (k : List (Option ℕ)). stamp_at k job) held ∙ get_or-map (λ (line : JobLine). old line.identifier) lines job no_line None less
          ∙ ap (λ (s : Shelf). s (identifier_at lines job)) (sym both.0);
    }

-- ---- over the life of a daemon

pub kept_held : (d : Declared) (stamps : List (Option ℕ)) (old new : Shelf) → HaveNames d.anacrontab.lines → AreKept Reads Writes d stamps old new → Holds d.anacrontab.lines stamps new
kept_held d stamps old new apart kept =
    let lines = d.anacrontab.lines in
    let first = read_known lines apart old kept.begun kept.read kept.first in
    let between = turns_known lines apart d kept.between.lists (kept.read, kept.begun) (kept.known, kept.late) refl first kept.between.written in
    written_held lines apart stamps kept.known kept.known_then kept.late new between kept.last

pub only_read : (lines : List JobLine) (old new : Shelf) → IsOnlyRead Reads lines old new → new ≡ old
only_read lines old new (inl same) = same
only_read lines old new (inr (known, read)) = (reads_held read.answers old new read.read).0
