-- The entry and the account of a user.
use Rattle.std.proofs.Common.{◌≡◌, ◌∙◌, ◌<◌, ◌==◌, ℕ, Bool, true, false, cond, List, [], ◌∷◌, drop, length, find, Option, Some, None, IfSome, refl, sym, ap, subst, arith}
use Rattle.std.specs.Str.{IsAscii}
use Rattle.std.specs.Str.Parse.{AllDigits, IsNumeral, without_leading_plus}
use borrow.Author.Tests.{eqb-true}
use Rattle.std.proofs.lemmas.Bool.{and_parts}
use Rattle.std.proofs.lemmas.Fmt.{IsAscii-from_digits}
use Rattle.std.proofs.lemmas.Slice.Eq.{bytes_eq-Decides}
use Rattle.std.proofs.lemmas.Str.Ascii.{IsAscii-nil, IsAscii-cons}
use Rattle.cs_machine.specs.Home.{field, fields_of, home_by, home_on, is_entry, is_same, lines_of}
use Rattle.cs_machine.specs.declared.home.Home.{Home}

passes_by : {A : Type 0} (p : A → Bool) (y : A) (b : Bool) (rest : Option A) (x : A) → p y ≡ b → cond b (Some y) rest ≡ Some x → (rest ≡ Some x → p x ≡ true) → p x ≡ true
passes_by p y true rest x is found later = let same : y ≡ x = cc in subst (λ z. p z ≡ true) same is
passes_by p y false rest x is found later = later found

passes : {A : Type 0} (p : A → Bool) (xs : List A) (x : A) → find p xs ≡ Some x → p x ≡ true
passes p [] x found = absurd cc
passes p (y ∷ ys) x found = passes_by p y (p y) (find p ys) x refl found (passes p ys x)

abbrev user_of : Option Home → List ℕ
user_of None = []
user_of (Some home) = home.user

by_fields : (name : List ℕ) (user folder : Option (List ℕ)) (home : Home) → is_same name user ≡ true → home_by user folder ≡ Some home → home.user ≡ name
by_fields name (Some user) (Some folder) home same is = sym (ap user_of is) ∙ (bytes_eq-Decides user name).0 same
by_fields name (Some user) None home same is = absurd cc
by_fields name None folder home same is = absurd cc

-- the first entry by a name has that name
pub is_named : (name text line : List ℕ) (home : Option Home) → Some line ≡ find (is_entry 7 0 name) (lines_of text) → home ≡ home_on line → IfSome home (λ home. home.user ≡ name)
is_named name text line None found is = tt
is_named name text line (Some home) found is =
    let entry : is_entry 7 0 name line ≡ true = passes (is_entry 7 0 name) (lines_of text) line (sym found) in
    by_fields name (field line 0) (field line 5) home (and_parts (length (fields_of line) == 7) (is_same name (field line 0)) entry).1 (sym is)

by_first : (is_plus : Bool) (c : ℕ) (cs : List ℕ) → (is_plus ≡ true → c < 128) → AllDigits 10 (drop (cond is_plus 1 0) (c ∷ cs)) → IsAscii (c ∷ cs)
by_first true c cs low digits = IsAscii-cons c cs (low refl) (IsAscii-from_digits cs digits)
by_first false c cs low digits = IsAscii-from_digits (c ∷ cs) digits

pub number_ascii : (text : List ℕ) → IsNumeral 10 (without_leading_plus text) → IsAscii text
number_ascii [] number = IsAscii-nil
number_ascii (c ∷ cs) number = by_first (c == 43) c cs (λ plus. omega (arith, eqb-true c 43 plus)) number.1
