-- The environment: each name once with its last value.
use Rattle.std.proofs.Common.{◌≡◌, ◌≢◌, ℕ, suc, ◌+◌, ◌<◌, ◌≤◌, Bool, true, false, cond, not, ◌&&◌, ◌||◌, nat_lt, List, [], ◌∷◌, ◌++◌, length, get_or, drop, map, filter, All, refl, sym, ap, subst, ◌∙◌, append_assoc, arith, Bor}
use Rattle.std.specs.List.{list_any}
use Rattle.std.specs.Str.{bytes_eq}
use Rattle.std.proofs.Math.Seq.{drop-cons}
use Rattle.std.proofs.Math.ListN.{drop_of_length-le}
use Rattle.std.proofs.lemmas.Bool.{lt-ltb, le-ltb}
use Rattle.std.proofs.lemmas.List.{append-nil}
use Rattle.std.proofs.lemmas.List.Elements.{All-nil, All-cons, All-head, All-tail, All-push, filter_agree}
use Rattle.std.proofs.lemmas.Slice.Eq.{bytes_eq-Decides}
use Rattle.cs_table.specs.Setting.{SettingLine}
use Rattle.cs_table.specs.Environment.{Variable, above, names_of, first_places, IsLast, put, put_all, shown}
use Rattle.indexmap.specs.IndexMap.{insert_entry}

-- ---- a value that is put in

even_so : (a b : List ℕ) → bytes_eq a b ≡ bytes_eq b a
even_so a b = by (bytes_eq a b) (bytes_eq b a) refl refl
  where
    by : (t u : Bool) → bytes_eq a b ≡ t → bytes_eq b a ≡ u → t ≡ u
    by true true e f = refl
    by false false e f = refl
    by true false e f = sym ((bytes_eq-Decides b a).1 (sym ((bytes_eq-Decides a b).0 e))) ∙ f
    by false true e f = sym e ∙ (bytes_eq-Decides a b).1 (sym ((bytes_eq-Decides b a).0 f))

pub put_shown : (es : List (Bor (List ℕ) × Bor (List ℕ))) (name value : Bor (List ℕ)) → map shown (insert_entry (λ k l. bytes_eq k.now l.now) es name value) ≡ put name.now value.now (map shown es)
unfolding put
put_shown [] name value = refl
put_shown (e ∷ es) name value = by (bytes_eq name.now e.0.now) (even_so name.now e.0.now) (put_shown es name value)
  where
    by : (t : Bool) → t ≡ bytes_eq e.0.now name.now → map shown (insert_entry (λ k l. bytes_eq k.now l.now) es name value) ≡ put name.now value.now (map shown es)
        → map shown (cond t ((e.0, value) ∷ es) (e ∷ insert_entry (λ k l. bytes_eq k.now l.now) es name value))
        ≡ cond (bytes_eq e.0.now name.now) ((e.0.now, value.now) ∷ map shown es) (shown e ∷ put name.now value.now (map shown es))
    by true is rest = ap (λ t. cond t ((e.0.now, value.now) ∷ map shown es) (shown e ∷ put name.now value.now (map shown es))) is
    by false is rest = ap (λ vs. shown e ∷ vs) rest ∙ ap (λ t. cond t ((e.0.now, value.now) ∷ map shown es) (shown e ∷ put name.now value.now (map shown es))) is

-- ---- the loop

put_next : (line : ℕ) (variables : List Variable) (s : SettingLine) (ss : List SettingLine) → nat_lt s.number line ≡ true → put_all line variables (s ∷ ss) ≡ put_all line (put s.name s.value variables) ss
unfolding put_all
put_next line variables s ss up = rw up refl

put_none : (line : ℕ) (variables : List Variable) (s : SettingLine) (ss : List SettingLine) → nat_lt s.number line ≡ false → put_all line variables (s ∷ ss) ≡ put_all line variables ss
unfolding put_all
put_none line variables s ss down = rw down refl

put_done : (line : ℕ) (variables : List Variable) → put_all line variables [] ≡ variables
unfolding put_all
put_done line variables = refl

-- settings, all of them above the line, are put in one after the other
puts : List Variable → List SettingLine → List Variable
puts variables [] = variables
puts variables (s ∷ ss) = puts (put s.name s.value variables) ss

put_all-above : (line : ℕ) (variables : List Variable) (settings : List SettingLine) → put_all line variables settings ≡ puts variables (above line settings)
unfolding put_all puts
put_all-above line variables [] = refl
put_all-above line variables (s ∷ ss) = by_test (nat_lt s.number line) (put_all-above line (put s.name s.value variables) ss) (put_all-above line variables ss)
  where
    by_test : (t : Bool) → put_all line (put s.name s.value variables) ss ≡ puts (put s.name s.value variables) (above line ss) → put_all line variables ss ≡ puts variables (above line ss)
        → put_all line (cond t (put s.name s.value variables) variables) ss ≡ puts variables (cond t (s ∷ above line ss) (above line ss))
    by_test true up down = up
    by_test false up down = down

-- ---- names

abbrev keys : List Variable → List (List ℕ)
keys vs = map (λ v. v.0) vs

abbrev is_in : List (List ℕ) → List ℕ → Bool
is_in names x = list_any (λ name. bytes_eq name x) names

abbrev is_new : List (List ℕ) → List ℕ → Bool
is_new names x = not (is_in names x)

keys_put : (name value : List ℕ) (vs : List Variable) → keys (put name value vs) ≡ cond (is_in (keys vs) name) (keys vs) (keys vs ++ name ∷ [])
unfolding put
keys_put name value [] = refl
keys_put name value (v ∷ vs) = by_test (bytes_eq v.0 name) (is_in (keys vs) name) (keys_put name value vs)
  where
    by_test : (t u : Bool) → keys (put name value vs) ≡ cond u (keys vs) (keys vs ++ name ∷ [])
        → keys (cond t ((v.0, value) ∷ vs) (v ∷ put name value vs)) ≡ cond (t || u) (v.0 ∷ keys vs) (v.0 ∷ (keys vs ++ name ∷ []))
    by_test true u e = refl
    by_test false true e = ap (λ (ns : List (List ℕ)). v.0 ∷ ns) e
    by_test false false e = ap (λ (ns : List (List ℕ)). v.0 ∷ ns) e

filter_twice : (p q : List ℕ → Bool) (xs : List (List ℕ)) → filter p (filter q xs) ≡ filter (λ x. q x && p x) xs
filter_twice p q [] = refl
filter_twice p q (x ∷ xs) = by_test (q x) (p x) (filter_twice p q xs)
  where
    by_test : (s t : Bool) → filter p (filter q xs) ≡ filter (λ x. q x && p x) xs → filter p (cond s (x ∷ filter q xs) (filter q xs)) ≡ cond (s && p x) (x ∷ filter (λ x. q x && p x) xs) (filter (λ x. q x && p x) xs)
    by_test true t e = ap (λ (r : List (List ℕ)). cond (p x) (x ∷ r) r) e
    by_test false t e = e

same_in : (names : List (List ℕ)) (x y : List ℕ) → bytes_eq x y ≡ true → is_in names x ≡ is_in names y
same_in names x y same = ap (is_in names) ((bytes_eq-Decides x y).0 same)

pushed_in : (names : List (List ℕ)) (x y : List ℕ) → is_new (names ++ x ∷ []) y ≡ (not (bytes_eq x y) && is_new names y)
pushed_in [] x y = by_test (bytes_eq x y)
  where
    by_test : (t : Bool) → not (t || false) ≡ (not t && true)
    by_test true = refl
    by_test false = refl
pushed_in (n ∷ ns) x y = by_test (bytes_eq n y) (is_in (ns ++ x ∷ []) y) (bytes_eq x y) (is_in ns y) (pushed_in ns x y)
  where
    by_test : (t u v w : Bool) → not u ≡ (not v && not w) → not (t || u) ≡ (not v && not (t || w))
    by_test true u true w e = refl
    by_test true u false w e = refl
    by_test false u v w e = e

-- a name that is there already is not new, and neither are those like it
seen_drops : (names : List (List ℕ)) (x : List ℕ) → is_in names x ≡ true → (y : List ℕ) → (not (bytes_eq x y) && is_new names y) ≡ is_new names y
seen_drops names x seen y = by_test (bytes_eq x y) refl
  where
    by_test : (t : Bool) → bytes_eq x y ≡ t → (not t && is_new names y) ≡ is_new names y
    by_test true same = rw (sym (same_in names x y same) ∙ seen) refl
    by_test false other = refl

puts_keys : (ss : List SettingLine) (vs : List Variable) → keys (puts vs ss) ≡ keys vs ++ filter (is_new (keys vs)) (first_places (names_of ss))
unfolding puts first_places
puts_keys [] vs = sym (append-nil (keys vs))
puts_keys (s ∷ ss) vs = by_seen (is_in (keys vs) s.name) refl (puts_keys ss (put s.name s.value vs))
  where
    rest : List (List ℕ)
    rest = first_places (names_of ss)

    with_keys : List (List ℕ) → List (List ℕ)
    with_keys names = names ++ filter (is_new names) (first_places (names_of ss))

    by_seen : (t : Bool) → is_in (keys vs) s.name ≡ t → keys (puts (put s.name s.value vs) ss) ≡ with_keys (keys (put s.name s.value vs))
        → keys (puts (put s.name s.value vs) ss) ≡ keys vs ++ cond (is_new (keys vs) s.name) (s.name ∷ filter (is_new (keys vs)) (filter (λ other. not (bytes_eq s.name other)) rest)) (filter (is_new (keys vs)) (filter (λ other. not (bytes_eq s.name other)) rest))
    by_seen true is more =
        let same : keys (put s.name s.value vs) ≡ keys vs = keys_put s.name s.value vs ∙ rw is refl in
        let drops : filter (is_new (keys vs)) (filter (λ other. not (bytes_eq s.name other)) rest) ≡ filter (is_new (keys vs)) rest =
        filter_twice (is_new (keys vs)) (λ other. not (bytes_eq s.name other)) rest ∙ filter_agree (λ y. not (bytes_eq s.name y) && is_new (keys vs) y) (is_new (keys vs)) (seen_drops (keys vs) s.name is) rest
        in
        rw is (more ∙ ap with_keys same ∙ ap (λ (ns : List (List ℕ)). keys vs ++ ns) (sym drops))
    by_seen false is more =
        let grown : keys (put s.name s.value vs) ≡ keys vs ++ s.name ∷ [] = keys_put s.name s.value vs ∙ rw is refl in
        let keeps : filter (is_new (keys vs ++ s.name ∷ [])) rest ≡ filter (is_new (keys vs)) (filter (λ other. not (bytes_eq s.name other)) rest) =
        filter_agree (is_new (keys vs ++ s.name ∷ [])) (λ y. not (bytes_eq s.name y) && is_new (keys vs) y) (pushed_in (keys vs) s.name) rest ∙ sym (filter_twice (is_new (keys vs)) (λ other. not (bytes_eq s.name other)) rest)
        in
        rw is (more ∙ ap with_keys grown ∙ append_assoc (keys vs) (s.name ∷ []) (filter (is_new (keys vs ++ s.name ∷ [])) rest) ∙ ap (λ (ns : List (List ℕ)). keys vs ++ (s.name ∷ ns)) keeps)

nothing_seen : (xs : List (List ℕ)) → filter (is_new []) xs ≡ xs
nothing_seen [] = refl
nothing_seen (x ∷ xs) = ap (λ (r : List (List ℕ)). x ∷ r) (nothing_seen xs)

pub env_names : (line : ℕ) (settings : List SettingLine) (env : List Variable) → env ≡ put_all line [] settings → map (λ v. v.0) env ≡ first_places (names_of (above line settings))
env_names line settings env is = ap keys (is ∙ put_all-above line [] settings) ∙ puts_keys (above line settings) [] ∙ nothing_seen (first_places (names_of (above line settings)))

-- ---- values

Fresh : List ℕ → List Variable → Type 0
Fresh name vs = All (λ v. v.0 ≢ name) vs

Apart : List Variable → Type 0
Apart [] = Unit {0}
Apart (v ∷ vs) = Fresh v.0 vs × Apart vs

put_fresh : (name value x : List ℕ) (vs : List Variable) → name ≢ x → Fresh x vs → Fresh x (put name value vs)
unfolding put Fresh
put_fresh name value x [] other fresh = All-cons (λ v. v.0 ≢ x) (name, value) [] other (All-nil (λ v. v.0 ≢ x))
put_fresh name value x (v ∷ vs) other fresh = by_test (bytes_eq v.0 name) (put_fresh name value x vs other (All-tail (λ v. v.0 ≢ x) v vs fresh))
  where
    by_test : (t : Bool) → Fresh x (put name value vs) → Fresh x (cond t ((v.0, value) ∷ vs) (v ∷ put name value vs))
    by_test true more = All-cons (λ v. v.0 ≢ x) (v.0, value) vs (All-head (λ v. v.0 ≢ x) v vs fresh) (All-tail (λ v. v.0 ≢ x) v vs fresh)
    by_test false more = All-cons (λ v. v.0 ≢ x) v (put name value vs) (All-head (λ v. v.0 ≢ x) v vs fresh) more

differs : (x y : List ℕ) → bytes_eq x y ≡ false → x ≢ y
differs x y test same = contrary (bytes_eq x y) test ((bytes_eq-Decides x y).1 same)
  where
    contrary : (t : Bool) → t ≡ false → t ≡ true → ⊥
    contrary true e f = absurd cc
    contrary false e f = absurd cc

put_apart : (name value : List ℕ) (vs : List Variable) → Apart vs → Apart (put name value vs)
unfolding put Apart Fresh
put_apart name value [] apart = (All-nil (λ v. v.0 ≢ name), tt)
put_apart name value (v ∷ vs) apart = by_test (bytes_eq v.0 name) refl (put_apart name value vs apart.1)
  where
    by_test : (t : Bool) → bytes_eq v.0 name ≡ t → Apart (put name value vs) → Apart (cond t ((v.0, value) ∷ vs) (v ∷ put name value vs))
    by_test true is more = apart
    by_test false is more = (put_fresh name value v.0 vs (λ same. differs v.0 name is (sym same)) apart.0, more)

longer : (seen : List SettingLine) (s : SettingLine) (v : Variable) → v.0 ≢ s.name → IsLast seen v → IsLast (seen ++ s ∷ []) v
longer seen s v other (before, setting, behind, parts, named, valued, last) =
    (before, setting, behind ++ s ∷ [], ap (λ (l : List SettingLine). l ++ s ∷ []) parts ∙ append_assoc before (setting ∷ behind) (s ∷ []), named, valued, All-push (λ t. t.name ≢ v.0) behind s last (λ same. other (sym same)))

all_longer : (seen : List SettingLine) (s : SettingLine) (vs : List Variable) → Fresh s.name vs → All (IsLast seen) vs → All (IsLast (seen ++ s ∷ [])) vs
unfolding Fresh
all_longer seen s [] fresh all = All-nil (IsLast (seen ++ s ∷ []))
all_longer seen s (v ∷ vs) fresh all =
    All-cons (IsLast (seen ++ s ∷ [])) v vs (longer seen s v (All-head (λ u. u.0 ≢ s.name) v vs fresh) (All-head (IsLast seen) v vs all))
    (all_longer seen s vs (All-tail (λ u. u.0 ≢ s.name) v vs fresh) (All-tail (IsLast seen) v vs all))

put_last : (seen : List SettingLine) (s : SettingLine) (vs : List Variable) → Apart vs → All (IsLast seen) vs → All (IsLast (seen ++ s ∷ [])) (put s.name s.value vs)
unfolding put Apart
put_last seen s [] apart all = All-cons (IsLast (seen ++ s ∷ [])) (s.name, s.value) [] (seen, s, [], refl, refl, refl, All-nil (λ t. t.name ≢ s.name)) (All-nil (IsLast (seen ++ s ∷ [])))
put_last seen s (v ∷ vs) apart all = by_test (bytes_eq v.0 s.name) refl (put_last seen s vs apart.1 (All-tail (IsLast seen) v vs all))
  where
    by_test : (t : Bool) → bytes_eq v.0 s.name ≡ t → All (IsLast (seen ++ s ∷ [])) (put s.name s.value vs) → All (IsLast (seen ++ s ∷ [])) (cond t ((v.0, s.value) ∷ vs) (v ∷ put s.name s.value vs))
    by_test true is more =
        let same : v.0 ≡ s.name = (bytes_eq-Decides v.0 s.name).0 is in
        All-cons (IsLast (seen ++ s ∷ [])) (v.0, s.value) vs (seen, s, [], refl, sym same, refl, All-nil (λ t. t.name ≢ v.0))
        (all_longer seen s vs (subst (λ (n : List ℕ). Fresh n vs) same apart.0) (All-tail (IsLast seen) v vs all))
    by_test false is more = All-cons (IsLast (seen ++ s ∷ [])) v (put s.name s.value vs) (longer seen s v (differs v.0 s.name is) (All-head (IsLast seen) v vs all)) more

puts_last : (ss seen : List SettingLine) (vs : List Variable) → Apart vs → All (IsLast seen) vs → All (IsLast (seen ++ ss)) (puts vs ss)
unfolding puts
puts_last [] seen vs apart all = subst (λ (l : List SettingLine). All (IsLast l) vs) (sym (append-nil seen)) all
puts_last (s ∷ ss) seen vs apart all =
    subst (λ (l : List SettingLine). All (IsLast l) (puts (put s.name s.value vs) ss)) (append_assoc seen (s ∷ []) ss)
    (puts_last ss (seen ++ s ∷ []) (put s.name s.value vs) (put_apart s.name s.value vs apart) (put_last seen s vs apart all))

pub env_values : (line : ℕ) (settings : List SettingLine) (env : List Variable) → env ≡ put_all line [] settings → All (IsLast (above line settings)) env
unfolding Apart
env_values line settings env is =
    subst (All (IsLast (above line settings))) (sym (is ∙ put_all-above line [] settings)) (puts_last (above line settings) [] [] tt (All-nil (IsLast [])))

-- ---- the places of the loop

here : (settings : List SettingLine) (i : ℕ) (s : SettingLine) → i < length settings → s ≡ get_or settings i s → drop i settings ≡ s ∷ drop (i + 1) settings
here settings i s below is = let next : suc i ≡ i + 1 = omega arith in drop-cons settings i s below ∙ ap (λ (t : SettingLine). t ∷ drop (suc i) settings) (sym is) ∙ ap (λ n. s ∷ drop n settings) next

pub loop_puts : (line : ℕ) (variables : List Variable) (settings : List SettingLine) (i : ℕ) (s : SettingLine) → i < length settings → s ≡ get_or settings i s → s.number < line
    → put_all line (put s.name s.value variables) (drop (i + 1) settings) ≡ put_all line variables (drop i settings)
loop_puts line variables settings i s below is up = sym (put_next line variables s (drop (i + 1) settings) (lt-ltb s.number line up)) ∙ ap (put_all line variables) (sym (here settings i s below is))

pub loop_passes : (line : ℕ) (variables : List Variable) (settings : List SettingLine) (i : ℕ) (s : SettingLine) → i < length settings → s ≡ get_or settings i s → line ≤ s.number
    → put_all line variables (drop (i + 1) settings) ≡ put_all line variables (drop i settings)
loop_passes line variables settings i s below is down = sym (put_none line variables s (drop (i + 1) settings) (le-ltb s.number line down)) ∙ ap (put_all line variables) (sym (here settings i s below is))

pub loop_ends : (line : ℕ) (variables : List Variable) (settings : List SettingLine) (i : ℕ) → length settings ≤ i → put_all line variables (drop i settings) ≡ variables
loop_ends line variables settings i past = ap (put_all line variables) (drop_of_length-le settings past) ∙ put_done line variables
