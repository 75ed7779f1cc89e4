-- Stamps that are read and written one after the other.
use Rattle.std.proofs.Common.{◌≡◌, ◌≢◌, ◌<◌, ◌≤◌, ℕ, suc, ◌+◌, Bool, List, [], ◌∷◌, ◌++◌, length, map, take, get_or, fold, Option, Some, None, refl, sym, ap, ◌∙◌, subst, append-nil, arith}
use Rattle.std.proofs.lemmas.List.{get_or_default, map-append, take_all, take_more}
use Rattle.std.proofs.lemmas.List.Concat.{flat_map-append}
use Rattle.cs_anacrontab.specs.Anacrontab.{JobLine}
use Rattle.std.proofs.lemmas.List.Sums.{fold_push}
use Rattle.std.specs.Prelude.{IfSome, MatchOption}
use Rattle.cs_core.specs.Standing.{Standing}
use Rattle.cs_plan.specs.Plan.{Declared, no_line}
use Rattle.cs_history.specs.Journal.{told}
use Rattle.cs_history.specs.Lists.{below}
use Rattle.cs_history.specs.Step.{State}
use Rattle.cs_device.specs.declared.store.Stamp.{Stamp}
use Rattle.cs_keep.specs.Closed.{keeping_in}
use Rattle.cs_keep.specs.Keeping.{IsKept, Keeping}
use Rattle.cs_keep.specs.declared.kept.Kept.{Kept}
use Rattle.cs_daemon.specs.InTurn.{InTurn}
use Rattle.cs_daemon.proofs.Turning.{one_more}
use Rattle.cs_daemon.specs.Stamps.{AreKept, AreLeft, AreRead, AreWritten, HaveBeenWritten, IsOnlyRead, WritesNext, WritesOne, Written, day_in, identifier_at, lacked, lacking, lacks, stamp_at, with_written}

-- ---- reading

pub read_none : {S : Type 0} (reads : S → List ℕ → Stamp → S → Type 0) (lines : List JobLine) (s : S) → AreRead reads (take 0 lines) s [] s
read_none reads lines s = record { answers = []; identifiers = refl; read = refl; said = refl }

pub read_one : {S : Type 0} (reads : S → List ℕ → Stamp → S → Type 0) (lines : List JobLine) (job : ℕ) (d : JobLine) (old mid new : S) (known : List (Option ℕ)) (answer : Stamp)
    → job < length lines → AreRead reads (take job lines) old known mid → reads mid (get_or lines job d).identifier answer new
    → AreRead reads (take (job + 1) lines) old (known ++ day_in answer ∷ []) new
read_one {S = S} reads lines job d old mid new known answer less so one =
    let id : List ℕ = (get_or lines job d).identifier in
    record {
      answers = so.answers ++ (id, answer) ∷ [];
      identifiers =
          map-append (λ (r : List ℕ × Stamp). r.0) so.answers ((id, answer) ∷ [])
          ∙ ap (λ (ids : List (List ℕ)). ids ++ id ∷ []) so.identifiers
          ∙ sym (map-append (λ (l : JobLine). l.identifier) (take job lines) (get_or lines job d ∷ []))
          ∙ ap (λ (ls : List JobLine). map (λ l. l.identifier) ls) (sym (take_more lines job d less));
      read = one_more (λ (s : S) (r : List ℕ × Stamp) (t : S). reads s r.0 r.1 t) so.answers (id, answer) old mid new so.read one;
      said =
          ap (λ (k : List (Option ℕ)). k ++ day_in answer ∷ []) so.said
          ∙ sym (map-append (λ (r : List ℕ × Stamp). day_in r.1) so.answers ((id, answer) ∷ []));
    }

pub read_all : {S : Type 0} (reads : S → List ℕ → Stamp → S → Type 0) (lines : List JobLine) (job : ℕ) (old new : S) (known : List (Option ℕ))
    → length lines ≤ job → AreRead reads (take job lines) old known new → AreRead reads lines old known new
read_all reads lines job old new known whole so = subst (λ (ls : List JobLine). AreRead reads ls old known new) (take_all job lines whole) so

-- ---- writing

-- what was written for the jobs below one
pub record AreWrittenBelow {S : Type 0} (writes : S → List ℕ → ℕ → Bool → S → Type 0) (lines : List JobLine) (stamps known : List (Option ℕ)) (job : ℕ) (old : S) (then : List (Option ℕ)) (new : S) : Type 0 where
  pub log : List Written
  pub which : map (λ w. (w.job, w.day)) log ≡ lacking (below job) known stamps
  pub written : InTurn (WritesOne writes lines) log old new
  pub noted : then ≡ fold with_written known log

pub write_none : {S : Type 0} (writes : S → List ℕ → ℕ → Bool → S → Type 0) (lines : List JobLine) (stamps known : List (Option ℕ)) (s : S) → AreWrittenBelow writes lines stamps known 0 s known s
write_none writes lines stamps known s = record { log = []; which = refl; written = refl; noted = refl }

pub lacking_next : (job : ℕ) (known stamps : List (Option ℕ)) → lacking (below (suc job)) known stamps ≡ lacking (below job) known stamps ++ lacks job (lacked (stamp_at known job) (stamp_at stamps job))
lacking_next job known stamps =
    let f : ℕ → List (ℕ × ℕ) = λ j. lacks j (lacked (stamp_at known j) (stamp_at stamps j)) in
    flat_map-append f (below job) (job ∷ []) ∙ ap (λ (l : List (ℕ × ℕ)). lacking (below job) known stamps ++ l) (append-nil (f job))

lacking_more : (job : ℕ) (known stamps : List (Option ℕ)) → lacking (below (job + 1)) known stamps ≡ lacking (below job) known stamps ++ lacks job (lacked (stamp_at known job) (stamp_at stamps job))
lacking_more job known stamps =
    let e : job + 1 ≡ suc job = omega arith in
    ap (λ (n : ℕ). lacking (below n) known stamps) e ∙ lacking_next job known stamps

pub write_not : {S : Type 0} (writes : S → List ℕ → ℕ → Bool → S → Type 0) (lines : List JobLine) (stamps known then : List (Option ℕ)) (job : ℕ) (old new : S)
    → AreWrittenBelow writes lines stamps known job old then new → lacked (stamp_at known job) (stamp_at stamps job) ≡ None
    → AreWrittenBelow writes lines stamps known (job + 1) old then new
write_not writes lines stamps known then job old new so none =
    record {
      log = so.log;
      which = so.which ∙ sym (lacking_more job known stamps ∙ ap (λ (o : Option ℕ). lacking (below job) known stamps ++ lacks job o) none ∙ append-nil (lacking (below job) known stamps));
      written = so.written;
      noted = so.noted;
    }

pub write_one : {S : Type 0} (writes : S → List ℕ → ℕ → Bool → S → Type 0) (lines : List JobLine) (stamps known then : List (Option ℕ)) (job day : ℕ) (done : Bool) (old mid new : S)
    → AreWrittenBelow writes lines stamps known job old then mid → lacked (stamp_at known job) (stamp_at stamps job) ≡ Some day → writes mid (identifier_at lines job) day done new
    → AreWrittenBelow writes lines stamps known (job + 1) old (with_written then (record { job = job; day = day; done = done })) new
write_one writes lines stamps known then job day done old mid new so some one =
    let w : Written = record { job = job; day = day; done = done } in
    record {
      log = so.log ++ w ∷ [];
      which =
          map-append (λ (w : Written). (w.job, w.day)) so.log (w ∷ [])
          ∙ ap (λ (l : List (ℕ × ℕ)). l ++ (job, day) ∷ []) so.which
          ∙ sym (lacking_more job known stamps ∙ ap (λ (o : Option ℕ). lacking (below job) known stamps ++ lacks job o) some);
      written = one_more (WritesOne writes lines) so.log w old mid new so.written one;
      noted = ap (λ (k : List (Option ℕ)). with_written k w) so.noted ∙ sym (fold_push with_written known so.log w);
    }

pub write_all : {S : Type 0} (writes : S → List ℕ → ℕ → Bool → S → Type 0) (lines : List JobLine) (stamps known then : List (Option ℕ)) (job : ℕ) (old new : S)
    → job ≡ length lines → AreWrittenBelow writes lines stamps known job old then new → AreWritten writes lines stamps known old then new
write_all writes lines stamps known then job old new whole so =
    record { log = so.log; which = subst (λ (n : ℕ). map (λ w. (w.job, w.day)) so.log ≡ lacking (below n) known stamps) whole so.which; written = so.written; noted = so.noted }

-- ---- the loops' steps, as their goals read

pub read_next : {S : Type 0} (reads : S → List ℕ → Stamp → S → Type 0) (lines : List JobLine) (job : ℕ) (line : JobLine) (id : List ℕ) (old mid new : S) (known more : List (Option ℕ)) (answer : Stamp) (stamp : Option ℕ)
    → job < length lines → AreRead reads (take job lines) old known mid → line ≡ get_or lines job line → id ≡ line.identifier → reads mid id answer new → stamp ≡ day_in answer → more ≡ known ++ stamp ∷ []
    → AreRead reads (take (job + 1) lines) old more new
read_next reads lines job line id old mid new known more answer stamp less so is named one said pushed =
    let one' : reads mid (get_or lines job line).identifier answer new = subst (λ (i : List ℕ). reads mid i answer new) (named ∙ ap (λ (l : JobLine). l.identifier) is) one in
    let whole : more ≡ known ++ day_in answer ∷ [] = pushed ∙ ap (λ (o : Option ℕ). known ++ o ∷ []) said in
    subst (λ (k : List (Option ℕ)). AreRead reads (take (job + 1) lines) old k new) (sym whole) (read_one reads lines job line old mid new known answer less so one')

pub write_next : {S : Type 0} (writes : S → List ℕ → ℕ → Bool → S → Type 0) (lines : List JobLine) (stamps known then more : List (Option ℕ)) (job day : ℕ) (done : Bool) (line : JobLine) (id : List ℕ) (old mid new : S)
    → job < length lines → AreWrittenBelow writes lines stamps known job old then mid → lacked (stamp_at known job) (stamp_at stamps job) ≡ Some day
    → line ≡ get_or lines job line → id ≡ line.identifier → writes mid id day done new → more ≡ with_written then (record { job = job; day = day; done = done })
    → AreWrittenBelow writes lines stamps known (job + 1) old more new
write_next writes lines stamps known then more job day done line id old mid new less so some is named one noted =
    let at : id ≡ identifier_at lines job = named ∙ ap (λ (l : JobLine). l.identifier) (is ∙ get_or_default lines job line no_line less) in
    let one' : writes mid (identifier_at lines job) day done new = subst (λ (i : List ℕ). writes mid i day done new) at one in
    subst (λ (k : List (Option ℕ)). AreWrittenBelow writes lines stamps known (job + 1) old k new) (sym noted) (write_one writes lines stamps known then job day done old mid new so some one')

-- ---- over several writes

-- a kept journal of the plan leaves its stamps
pub left_by : (k : Keeping) (d : Declared) (stamps : List (Option ℕ)) → IsKept k → k.core.plan ≡ d → stamps ≡ k.core.state.stamps → AreLeft d stamps
left_by k d stamps kept plan is =
    subst (λ (d : Declared). AreLeft d stamps) plan (record { by = told k.base k.journal; legal = kept.legal; same = is ∙ ap (λ (s : State). s.stamps) kept.leaves })

pub none_written : {S : Type 0} (writes : S → List ℕ → ℕ → Bool → S → Type 0) (d : Declared) (known : List (Option ℕ)) (s : S) → HaveBeenWritten writes d known s known s
none_written writes d known s = record { lists = []; written = refl }

pub then_written : {S : Type 0} (writes : S → List ℕ → ℕ → Bool → S → Type 0) (d : Declared) (known mid_known new_known stamps : List (Option ℕ)) (old mid new : S)
    → HaveBeenWritten writes d known old mid_known mid → AreLeft d stamps → AreWritten writes d.anacrontab.lines stamps mid_known mid new_known new
    → HaveBeenWritten writes d known old new_known new
then_written writes d known mid_known new_known stamps old mid new so left one =
    record {
      lists = so.lists ++ stamps ∷ [];
      written = one_more (WritesNext writes d) so.lists stamps (known, old) (mid_known, mid) (new_known, new) so.written (left, one);
    }

-- ---- over the life of a daemon

-- stamps that are read, then written, and written at the end are all that is done for a keep
pub all_kept : {S : Type 0} (reads : S → List ℕ → Stamp → S → Type 0) (writes : S → List ℕ → ℕ → Bool → S → Type 0) (d at_first at_work at_last : Declared) (core : Standing) (read known : List (Option ℕ)) (old begun late new : S) (keep : Option Kept)
    → at_first ≡ d → at_work ≡ d → at_last ≡ d → keep ≢ None → IfSome keep (λ k. (keeping_in k).core ≡ core)
    → AreRead reads at_first.anacrontab.lines old read begun → HaveBeenWritten writes at_work read begun known late
    → (known_then : List (Option ℕ)) × AreWritten writes at_last.anacrontab.lines core.state.stamps known late known_then new
    → MatchOption keep (IsOnlyRead reads d.anacrontab.lines old new) (λ k. AreKept reads writes d (keeping_in k).core.state.stamps old new)
all_kept reads writes d at_first at_work at_last core read known old begun late new None f w l some is first between last = absurd (some refl)
all_kept reads writes d at_first at_work at_last core read known old begun late new (Some k) f w l some is first between last =
    record {
      read = read;
      known = known;
      known_then = last.0;
      begun = begun;
      late = late;
      first = subst (λ (x : Declared). AreRead reads x.anacrontab.lines old read begun) f first;
      between = subst (λ (x : Declared). HaveBeenWritten writes x read begun known late) w between;
      last =
          subst (λ (c : Standing). AreWritten writes d.anacrontab.lines c.state.stamps known late last.0 new) (sym is)
          (subst (λ (x : Declared). AreWritten writes x.anacrontab.lines core.state.stamps known late last.0 new) l last.1);
    }
