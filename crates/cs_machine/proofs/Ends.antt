-- The last word of a text.
use Rattle.std.proofs.Common.{◌≡◌, ◌≢◌, ◌∙◌, ℕ, suc, ◌+◌, ◌<◌, Bool, true, false, inl, inr, ◌||◌, List, [], ◌∷◌, ◌++◌, ◌==◌, length, get_or, drop, reverse, refl, sym, ap, subst, codes, true≢false, arith, append_assoc, length-append, length-drop}
use Rattle.std.specs.List.{list_any}
use Rattle.std.proofs.Math.Bool.{or-true}
use Rattle.std.proofs.Math.Seq.{drop-append_seam}
use Rattle.std.proofs.lemmas.Bool.{false_from_ne_true}
use Rattle.std.proofs.lemmas.List.{get_or-drop, reverse-append}
use Rattle.memchr.specs.Find.{NoneAfter, Passes, is_byte}
use Rattle.cs_machine.specs.HookCall.{EndsBy, TellsEnd, TellsFailure, TellsSignal}

abbrev has_blank : List ℕ → Bool
has_blank text = list_any (λ b. b == 32) text

blank_in : (front back : List ℕ) → has_blank (front ++ 32 ∷ back) ≡ true
blank_in [] back = refl
blank_in (x ∷ front) back = ap (λ t. x == 32 || t) (blank_in front back) ∙ or-true (x == 32)

abbrev rest : List ℕ → List ℕ
rest [] = []
rest (x ∷ xs) = xs

abbrev first : List ℕ → ℕ
first [] = 0
first (x ∷ xs) = x

-- the last word, and what stands in front of it
pub last_word : (a b s t : List ℕ) → a ++ 32 ∷ s ≡ b ++ 32 ∷ t → has_blank s ≡ false → has_blank t ≡ false → (a ≡ b) × (s ≡ t)
last_word [] [] s t same no_s no_t = (refl, ap rest same)
last_word [] (y ∷ b) s t same no_s no_t = absurd (true≢false (sym (blank_in b t) ∙ ap has_blank (sym (ap rest same)) ∙ no_s))
last_word (x ∷ a) [] s t same no_s no_t = absurd (true≢false (sym (blank_in a s) ∙ ap has_blank (ap rest same) ∙ no_t))
last_word (x ∷ a) (y ∷ b) s t same no_s no_t =
    let both = last_word a b s t (ap rest same) no_s no_t in
    (ap (λ z. z ∷ a) (ap first same) ∙ ap (λ l. y ∷ l) both.0, both.1)

pub end_cut : (words run what word : List ℕ) → EndsBy words run what word → words ≡ (codes "ended " ++ run ++ what) ++ 32 ∷ word
end_cut words run what word ends = ends.0 ∙ append_assoc (codes "ended " ++ run ++ what) (codes " ") word

pub end_parts : (words run what word front back : List ℕ) → EndsBy words run what word → words ≡ front ++ codes " " ++ back → has_blank back ≡ false → (codes "ended " ++ run ++ what ≡ front) × (word ≡ back)
end_parts words run what word front back ends cut no_back =
    last_word (codes "ended " ++ run ++ what) front word back (sym (end_cut words run what word ends) ∙ cut ∙ append_assoc front (codes " ") back) ends.1 no_back

pub no_blank : (xs : List ℕ) → ((k : ℕ) → k < length xs → ¬ ((get_or xs k 0 == 32) ≡ true)) → has_blank xs ≡ false
no_blank [] none = refl
no_blank (x ∷ xs) none =
    let head : (x == 32) ≡ false = false_from_ne_true (x == 32) (none 0 (omega arith)) in
    ap (λ t. t || has_blank xs) head ∙ no_blank xs (λ k low. none (suc k) (omega (arith, low)))

pub none_behind : (xs : List ℕ) (i : ℕ) → NoneAfter (Passes (is_byte 32) xs) 0 (length xs) i → has_blank (drop (i + 1) xs) ≡ false
none_behind xs i last = no_blank (drop (i + 1) xs) (λ k low is. last.after (i + 1 + k) (omega arith) (omega (arith, subst (λ n. k < n) (length-drop (i + 1) xs) low)) (sym (ap (λ b. b == 32) (get_or-drop (i + 1) xs k 0)) ∙ is))

pub behind_name : (words run number : List ℕ) → EndsBy words run (codes " signal") number → drop (6 + length run + 1) words ≡ codes "signal " ++ number
behind_name words run number ends =
    let front : List ℕ = codes "ended " ++ run ++ codes " " in
    let told : List ℕ = codes "signal " ++ number in
    let cut : words ≡ front ++ told = ends.0 ∙ ap (λ t. t ++ number) (append_assoc (codes "ended " ++ run) (codes " signal") (codes " ")) ∙ append_assoc (codes "ended " ++ run) (codes " signal ") number ∙ sym (append_assoc (codes "ended " ++ run) (codes " ") told) in
    let long : length front ≡ 6 + length run + 1 = length-append (codes "ended " ++ run) (codes " ") ∙ ap (λ n. n + 1) (length-append (codes "ended ") run) in
    sym (ap (λ n. drop n words) long) ∙ ap (λ t. drop (length front) t) cut ∙ drop-append_seam front told

abbrev last_byte : List ℕ → ℕ
last_byte text = first (reverse text)

status_apart : (run other : List ℕ) → codes "ended " ++ run ++ codes " status" ≢ codes "ended " ++ other ++ codes " signal"
status_apart run other same =
    let last : 115 ≡ 108 = sym (ap first (reverse-append (codes "ended " ++ run) (codes " status"))) ∙ ap last_byte same ∙ ap first (reverse-append (codes "ended " ++ other) (codes " signal")) in
    absurd (omega (arith, last))

other_status : (words run other failed : List ℕ) → EndsBy words run (codes " status") (codes "0") → TellsEnd words other failed → failed ≡ codes "0"
other_status words run other failed ends (inl by) =
    (end_parts words other (codes " status") failed (codes "ended " ++ run ++ codes " status") (codes "0") by ends.0 ends.1).1
other_status words run other failed ends (inr by) =
    absurd (status_apart run other (sym (end_parts words other (codes " signal") by.0 (codes "ended " ++ run ++ codes " status") (codes "0") by.1 ends.0 ends.1).0))

-- a run that ended with status 0 hasn't failed
pub no_failure : (words run status : List ℕ) → ((name : List ℕ) → words ≢ codes "not started " ++ name) → TellsEnd words run status → status ≡ codes "0" → (other failed : List ℕ) → ¬ (TellsFailure words other failed)
no_failure words run status started tells zero other failed (inl told) = started other told.0
no_failure words run status started (inl by) zero other failed (inr told) =
    told.1 (other_status words run other failed (subst (λ s. EndsBy words run (codes " status") s) zero by) told.0)
no_failure words run status started (inr by) zero other failed (inr told) =
    let head : 115 ≡ 48 = ap first (sym by.2 ∙ zero) in
    absurd (omega (arith, head))

pub no_end : (words : List ℕ) → ((run word : List ℕ) → ¬ (EndsBy words run (codes " status") word)) → ((run status : List ℕ) → ¬ (TellsSignal words run status)) → (run status : List ℕ) → ¬ (TellsEnd words run status)
no_end words by_status by_signal run status (inl by) = by_status run status by
no_end words by_status by_signal run status (inr by) = by_signal run status by

pub no_fail : (words : List ℕ) → ((name : List ℕ) → words ≢ codes "not started " ++ name) → ((run status : List ℕ) → ¬ (TellsEnd words run status)) → (run status : List ℕ) → ¬ (TellsFailure words run status)
no_fail words started ended run status (inl told) = started run told.0
no_fail words started ended run status (inr told) = ended run status told.0
