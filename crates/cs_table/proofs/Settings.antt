-- Settings: what is read is written so, and what is written so is read.
use Rattle.std.proofs.Common.{◌≡◌, ◌≢◌, ℕ, Bool, true, false, cond, not, ◌&&◌, nat_eq, List, [], ◌∷◌, ◌++◌, length, Option, Some, None, refl, sym, ap, subst, ◌∙◌, append_assoc, inl, inr}
use Rattle.std.specs.List.{list_all}
use Rattle.std.proofs.lemmas.Bool.{eqb-true, eq-eqb, not-false}
use Rattle.cs_table.specs.Text.{front, after, is_blank, Are, StopsAt}
use Rattle.cs_table.specs.Setting.{is_quote, is_name_byte, IsName, EndsSolid, IsValue, IsSetting}
use Rattle.cs_table.specs.SettingReading.{◌>>=◌, trimmed, is_other, behind_quote, quoted_at, filled, name_at, alone, value_of, behind_equals, setting_of}
use Rattle.cs_table.proofs.Spans.{front_again, after_again, parts_joined, front_passes, after_stops, and_left, some_from, some_to}

bind_some : {A B : Type 0} (o : Option A) (f : A → Option B) (y : B) → (o >>= f) ≡ Some y → (x : A) × (o ≡ Some x) × (f x ≡ Some y)
bind_some (Some x) f y e = (x, refl, e)
bind_some None f y e = absurd cc

abbrev pair : List ℕ → List ℕ → Option (List ℕ × List ℕ)
pair x y = Some (x, y)

first_is : (x y a b : List ℕ) → pair x y ≡ pair a b → x ≡ a
first_is x y a b e = let same : (x, y) ≡ (a, b) = cc in ap (λ (p : List ℕ × List ℕ). p.0) same

second_is : (x y a b : List ℕ) → pair x y ≡ pair a b → y ≡ b
second_is x y a b e = let same : (x, y) ≡ (a, b) = cc in ap (λ (p : List ℕ × List ℕ). p.1) same

-- ---- a text in front of a quote

quoted_takes : (q : ℕ) (text t r : List ℕ) → quoted_at q text ≡ Some (t, r) → (text ≡ t ++ (q ∷ r)) × (list_all (is_other q) t ≡ true)
unfolding quoted_at
quoted_takes q text t r e = by_behind (after (is_other q) text) refl (after_stops (is_other q) text) e
  where
    by_behind : (behind : List ℕ) → after (is_other q) text ≡ behind → StopsAt (is_other q) behind → behind_quote (front (is_other q) text) behind ≡ Some (t, r) → (text ≡ t ++ (q ∷ r)) × (list_all (is_other q) t ≡ true)
    by_behind [] is stop e = absurd cc
    by_behind (c ∷ cs) is stop e =
        let t-is : front (is_other q) text ≡ t = first_is (front (is_other q) text) cs t r e in
        let r-is : cs ≡ r = second_is (front (is_other q) text) cs t r e in
        let c-is : c ≡ q = eqb-true c q (not-false (nat_eq c q) stop) in (
          sym (parts_joined (is_other q) text) ∙ ap (λ (l : List ℕ). front (is_other q) text ++ l) (is ∙ ap (λ (b : ℕ). b ∷ cs) c-is ∙ ap (λ (l : List ℕ). q ∷ l) r-is) ∙ ap (λ (l : List ℕ). l ++ (q ∷ r)) t-is,
          ap (list_all (is_other q)) (sym t-is) ∙ front_passes (is_other q) text,
        )

quoted_again : (q : ℕ) (t r : List ℕ) → list_all (is_other q) t ≡ true → quoted_at q (t ++ (q ∷ r)) ≡ Some (t, r)
unfolding quoted_at
quoted_again q t r all =
    let stop : StopsAt (is_other q) (q ∷ r) = ap not (eq-eqb q q refl) in
    rw (front_again (is_other q) t (q ∷ r) all stop, after_again (is_other q) t (q ∷ r) all stop) refl

-- ---- names

filled_is : (x n rest : List ℕ) (y : List ℕ) → filled (x, y) ≡ Some (n, rest) → (x ≡ n) × (y ≡ rest) × (n ≢ [])
filled_is x n rest y e = by_length (nat_eq (length x) 0) refl e
  where
    by_length : (t : Bool) → nat_eq (length x) 0 ≡ t → cond t None (pair x y) ≡ pair n rest → (x ≡ n) × (y ≡ rest) × (n ≢ [])
    by_length true is e = absurd cc
    by_length false is e = let n-is = first_is x y n rest e in (n-is, second_is x y n rest e, λ empty. some_from x is (n-is ∙ empty))

front_stops : (b : ℕ) (bs : List ℕ) → is_quote b ≡ false → StopsAt is_quote (front is_name_byte (b ∷ bs))
unfolding front
front_stops b bs plain = by_byte (is_name_byte b)
  where
    by_byte : (t : Bool) → StopsAt is_quote (cond t (b ∷ front is_name_byte bs) [])
    by_byte true = plain
    by_byte false = tt

name_takes : (text n rest : List ℕ) → name_at text ≡ Some (n, rest) → (before : List ℕ) × (text ≡ before ++ rest) × IsName before n
unfolding name_at
name_takes [] n rest e = absurd cc
name_takes (b ∷ bs) n rest e = by_quote (is_quote b) refl e
  where
    by_quote : (t : Bool) → is_quote b ≡ t → cond t (quoted_at b bs >>= filled) (filled (front is_name_byte (b ∷ bs), after is_name_byte (b ∷ bs))) ≡ Some (n, rest) → (before : List ℕ) × (b ∷ bs ≡ before ++ rest) × IsName before n
    by_quote true is e =
        let one = bind_some (quoted_at b bs) filled (n, rest) e in
        let f = filled_is one.0.0 n rest one.0.1 one.2 in
        let q = quoted_takes b bs n rest (one.1 ∙ ap (λ (x : List ℕ). pair x one.0.1) f.0 ∙ ap (pair n) f.1) in
        (b ∷ (n ++ (b ∷ [])), ap (λ (l : List ℕ). b ∷ l) (q.0 ∙ sym (append_assoc n (b ∷ []) rest)), inr (b, is, refl, (q.1, f.2)))
    by_quote false is e =
        let f = filled_is (front is_name_byte (b ∷ bs)) n rest (after is_name_byte (b ∷ bs)) e in
        let P : List ℕ → Type 0 = StopsAt is_quote in (
          n,
          sym (parts_joined is_name_byte (b ∷ bs)) ∙ ap (λ (l : List ℕ). l ++ after is_name_byte (b ∷ bs)) f.0 ∙ ap (λ (l : List ℕ). n ++ l) f.1,
          inl (refl, (ap (list_all is_name_byte) (sym f.0) ∙ front_passes is_name_byte (b ∷ bs), f.2), subst P f.0 (front_stops b bs is)),
        )

name_again : (before n rest : List ℕ) → IsName before n → StopsAt is_name_byte rest → name_at (before ++ rest) ≡ Some (n, rest)
unfolding name_at
name_again before n rest (inl (is, are, plain)) stop = ap (λ (l : List ℕ). name_at (l ++ rest)) is ∙ by_name n are plain
  where
    by_name : (m : List ℕ) → Are is_name_byte m → StopsAt is_quote m → name_at (m ++ rest) ≡ Some (m, rest)
    by_name [] are plain = absurd (are.1 refl)
    by_name (b ∷ bs) are plain =
        rw (plain, front_again is_name_byte (b ∷ bs) rest are.0 stop, after_again is_name_byte (b ∷ bs) rest are.0 stop, some_to (b ∷ bs) are.1) refl
name_again before n rest (inr (q, quote, is, are)) stop =
    ap (λ (l : List ℕ). name_at (l ++ rest)) is ∙ ap (λ (l : List ℕ). name_at (q ∷ l)) (append_assoc n (q ∷ []) rest)
    ∙ rw (quote, quoted_again q n rest are.0, some_to n are.1) refl

-- ---- the blanks after a value

all_blank_trimmed : (gap : List ℕ) → list_all is_blank gap ≡ true → trimmed gap ≡ []
unfolding trimmed
all_blank_trimmed [] blank = refl
all_blank_trimmed (b ∷ bs) blank = rw blank refl

not_all_blank : (front gap : List ℕ) (last : ℕ) → is_blank last ≡ false → list_all is_blank (front ++ (last ∷ gap)) ≡ false
not_all_blank [] gap last solid = rw solid refl
not_all_blank (b ∷ bs) gap last solid = rw (not_all_blank bs gap last solid) (second_false (is_blank b))
  where
    second_false : (t : Bool) → (t && false) ≡ false
    second_false true = refl
    second_false false = refl

trimmed_again : (front gap : List ℕ) (last : ℕ) → is_blank last ≡ false → list_all is_blank gap ≡ true → trimmed (front ++ (last ∷ gap)) ≡ front ++ (last ∷ [])
unfolding trimmed
trimmed_again [] gap last solid blank = rw solid (ap (λ (l : List ℕ). last ∷ l) (all_blank_trimmed gap blank))
trimmed_again (b ∷ bs) gap last solid blank = rw (not_all_blank (b ∷ bs) gap last solid) (ap (λ (l : List ℕ). b ∷ l) (trimmed_again bs gap last solid blank))

trimmed_takes : (text : List ℕ) → (gap : List ℕ) × (text ≡ trimmed text ++ gap) × (list_all is_blank gap ≡ true) × EndsSolid (trimmed text)
unfolding trimmed
trimmed_takes [] = ([], refl, refl, inl refl)
trimmed_takes (b ∷ bs) = by_blank (list_all is_blank (b ∷ bs)) refl (trimmed_takes bs)
  where
    by_blank : (t : Bool) → list_all is_blank (b ∷ bs) ≡ t → (gap : List ℕ) × (bs ≡ trimmed bs ++ gap) × (list_all is_blank gap ≡ true) × EndsSolid (trimmed bs)
        → (gap : List ℕ) × (b ∷ bs ≡ cond t [] (b ∷ trimmed bs) ++ gap) × (list_all is_blank gap ≡ true) × EndsSolid (cond t [] (b ∷ trimmed bs))
    by_blank true is more = (b ∷ bs, refl, is, inl refl)
    by_blank false is (gap, parts, blank, inl empty) =
        let rest_blank : list_all is_blank bs ≡ true = ap (list_all is_blank) (parts ∙ ap (λ (l : List ℕ). l ++ gap) empty) ∙ blank in
        let solid : is_blank b ≡ false = first_false (is_blank b) (list_all is_blank bs) is rest_blank in
        (gap, ap (λ (l : List ℕ). b ∷ l) parts, blank, inr ([], b, ap (λ (l : List ℕ). b ∷ l) empty, solid))
      where
        first_false : (s t : Bool) → (s && t) ≡ false → t ≡ true → s ≡ false
        first_false true true e f = e
        first_false true false e f = absurd cc
        first_false false t e f = refl
    by_blank false is (gap, parts, blank, inr (front, last, ends, solid)) = (gap, ap (λ (l : List ℕ). b ∷ l) parts, blank, inr (b ∷ front, last, ap (λ (l : List ℕ). b ∷ l) ends, solid))

-- ---- values

alone_is : (x : List ℕ × List ℕ) (v : List ℕ) → alone x ≡ Some v → (list_all is_blank x.1 ≡ true) × (x.0 ≡ v)
alone_is x v e = by_blank (list_all is_blank x.1) refl e
  where
    by_blank : (t : Bool) → list_all is_blank x.1 ≡ t → cond t (Some x.0) None ≡ Some v → (list_all is_blank x.1 ≡ true) × (x.0 ≡ v)
    by_blank true is e = (is, cc)
    by_blank false is e = absurd cc

trimmed_stops : (b : ℕ) (bs : List ℕ) → is_quote b ≡ false → StopsAt is_quote (trimmed (b ∷ bs))
unfolding trimmed
trimmed_stops b bs plain = by_blank (list_all is_blank (b ∷ bs))
  where
    by_blank : (t : Bool) → StopsAt is_quote (cond t [] (b ∷ trimmed bs))
    by_blank true = tt
    by_blank false = plain

value_takes : (text v : List ℕ) → value_of text ≡ Some v → IsValue text v
unfolding value_of
value_takes [] v e =
    let empty : [] ≡ v = cc in
    let P : List ℕ → Type 0 = IsValue [] in
    subst P empty (inl ([], refl, refl, tt, inl refl))
value_takes (b ∷ bs) v e = by_quote (is_quote b) refl e
  where
    by_quote : (t : Bool) → is_quote b ≡ t → cond t (quoted_at b bs >>= alone) (Some (trimmed (b ∷ bs))) ≡ Some v → IsValue (b ∷ bs) v
    by_quote true is e =
        let one = bind_some (quoted_at b bs) alone v e in
        let a = alone_is one.0 v one.2 in
        let q = quoted_takes b bs v one.0.1 (one.1 ∙ ap (λ (x : List ℕ). pair x one.0.1) a.1) in
        inr (b, one.0.1, is, ap (λ (l : List ℕ). b ∷ l) q.0, q.1, a.0)
    by_quote false is e =
        let same : trimmed (b ∷ bs) ≡ v = cc in
        let t = trimmed_takes (b ∷ bs) in
        let P : List ℕ → Type 0 = IsValue (b ∷ bs) in
        subst P same (inl (t.0, t.1, t.2, trimmed_stops b bs is, t.3))

blank_stops : (text : List ℕ) → StopsAt is_blank text → list_all is_blank text ≡ true → text ≡ []
blank_stops [] stop blank = refl
blank_stops (b ∷ bs) stop blank = absurd (contrary (is_blank b) (list_all is_blank bs) stop blank)
  where
    contrary : (s t : Bool) → s ≡ false → (s && t) ≡ true → ⊥
    contrary true t e f = absurd cc
    contrary false t e f = absurd cc

plain_value : (text v : List ℕ) → StopsAt is_quote v → v ≢ [] → (gap : List ℕ) → text ≡ v ++ gap → value_of text ≡ Some (trimmed text)
unfolding value_of
plain_value text [] plain some gap is = absurd (some refl)
plain_value text (b ∷ bs) plain some gap is = ap value_of is ∙ rw plain (ap (λ (l : List ℕ). Some (trimmed l)) (sym is))

value_again : (text v : List ℕ) → StopsAt is_blank text → IsValue text v → value_of text ≡ Some v
unfolding value_of
value_again text v stop (inl (gap, is, blank, plain, inl empty)) =
    let nothing : text ≡ [] = blank_stops text stop (ap (list_all is_blank) (is ∙ ap (λ (l : List ℕ). l ++ gap) empty) ∙ blank) in
    ap value_of nothing ∙ ap (λ (l : List ℕ). Some l) (sym empty)
value_again text v stop (inl (gap, is, blank, plain, inr (front, last, ends, solid))) =
    let some : v ≢ [] = λ empty. joined_some front last (sym ends ∙ empty) in
    let whole : text ≡ front ++ (last ∷ gap) = is ∙ ap (λ (l : List ℕ). l ++ gap) ends ∙ append_assoc front (last ∷ []) gap in
    plain_value text v plain some gap is ∙ ap (λ (l : List ℕ). Some (trimmed l)) whole ∙ ap (λ (l : List ℕ). Some l) (trimmed_again front gap last solid blank ∙ sym ends)
  where
    joined_some : (xs : List ℕ) (x : ℕ) → xs ++ (x ∷ []) ≡ [] → ⊥
    joined_some [] x e = cc
    joined_some (y ∷ ys) x e = cc
value_again text v stop (inr (q, gap, quote, is, all, blank)) = ap value_of is ∙ rw (quote, quoted_again q v gap all, blank) refl

-- ---- settings

equals_takes : (text behind : List ℕ) → behind_equals text ≡ Some behind → text ≡ 61 ∷ behind
equals_takes [] behind e = absurd cc
equals_takes (b ∷ bs) behind e = by_test (nat_eq b 61) refl e
  where
    by_test : (t : Bool) → nat_eq b 61 ≡ t → cond t (Some bs) None ≡ Some behind → b ∷ bs ≡ 61 ∷ behind
    by_test true is e = let same : bs ≡ behind = cc in ap (λ (c : ℕ). c ∷ bs) (eqb-true b 61 is) ∙ ap (λ (l : List ℕ). 61 ∷ l) same
    by_test false is e = absurd cc

pub setting_takes : (text n v : List ℕ) → setting_of text ≡ Some (n, v) → IsSetting text n v
unfolding setting_of
setting_takes text n v e =
    let one = bind_some (name_at text) (λ name. behind_equals (after is_blank name.1) >>= λ behind. value_of (after is_blank behind) >>= λ value. Some (name.0, value)) (n, v) e in
    let rest : List ℕ = one.0.1 in
    let two = bind_some (behind_equals (after is_blank rest)) (λ behind. value_of (after is_blank behind) >>= λ value. Some (one.0.0, value)) (n, v) one.2 in
    let behind : List ℕ = two.0 in
    let three = bind_some (value_of (after is_blank behind)) (λ value. Some (one.0.0, value)) (n, v) two.2 in
    let n-is : one.0.0 ≡ n = first_is one.0.0 three.0 n v three.2 in
    let v-is : three.0 ≡ v = second_is one.0.0 three.0 n v three.2 in
    let name = name_takes text n rest (one.1 ∙ ap (λ (x : List ℕ). pair x rest) n-is) in
    let equals = equals_takes (after is_blank rest) behind two.1 in
    record {
      before = name.0;
      gap = front is_blank rest;
      later_gap = front is_blank behind;
      behind = after is_blank behind;
      parts =
          name.1 ∙ ap (λ (l : List ℕ). name.0 ++ l)
          (sym (parts_joined is_blank rest) ∙ ap (λ (l : List ℕ). front is_blank rest ++ l) (equals ∙ ap (λ (l : List ℕ). 61 ∷ l) (sym (parts_joined is_blank behind))));
      blank = front_passes is_blank rest;
      later_blank = front_passes is_blank behind;
      stops = after_stops is_blank behind;
      named = name.2;
      valued = value_takes (after is_blank behind) v (three.1 ∙ ap (λ (l : List ℕ). Some l) v-is);
    }

gap_stops : (gap rest : List ℕ) → list_all is_blank gap ≡ true → StopsAt is_name_byte (gap ++ (61 ∷ rest))
gap_stops [] rest blank = refl
gap_stops (b ∷ bs) rest blank = rw (and_left (is_blank b) (list_all is_blank bs) blank) refl

pub setting_again : (text n v : List ℕ) → IsSetting text n v → setting_of text ≡ Some (n, v)
unfolding setting_of
setting_again text n v is =
    let rest : List ℕ = is.gap ++ (61 ∷ (is.later_gap ++ is.behind)) in
    let named : name_at text ≡ Some (n, rest) = ap name_at is.parts ∙ name_again is.before n rest is.named (gap_stops is.gap (is.later_gap ++ is.behind) is.blank) in
    let equals : after is_blank rest ≡ 61 ∷ (is.later_gap ++ is.behind) = after_again is_blank is.gap (61 ∷ (is.later_gap ++ is.behind)) is.blank refl in
    let behind : after is_blank (is.later_gap ++ is.behind) ≡ is.behind = after_again is_blank is.later_gap is.behind is.later_blank is.stops in
    rw (named, equals, behind, value_again is.behind v is.stops is.valued) refl
