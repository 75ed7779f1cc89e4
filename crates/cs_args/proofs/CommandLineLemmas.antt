-- The words of a call.
use Rattle.std.proofs.Common.{◌≡◌, ◌<◌, ◌≤◌, ◌+◌, ◌-◌, ◌^◌, ℕ, zero, suc, arith, drop, fold, map, slice_index_or, Bool, true, false, List, [], ◌∷◌, ◌&&◌, ◌∙◌, Option, option_map, option_and_then, Some, None, Result, Ok, Err, refl, ap, subst, sym, length, nat_lt, inl, inr}
use Rattle.std.specs.List.{list_all, slice_get}
use Rattle.std.proofs.lemmas.Option.{slice_get-map}
use Rattle.std.specs.Char.{is_ascii_digit}
use Rattle.std.specs.Str.{all_ascii_digits}
use Rattle.std.specs.Str.Parse.{ParsesUnsigned, digits_value}
use Rattle.std.proofs.lemmas.Str.Parse.{parse_digits, numerals_by_value, tells_all_ascii_digits}
use Rattle.std.proofs.lemmas.Bool.{lt-ltb, ltb-true}
use Rattle.std.specs.Result.{OkIff}
use Rattle.std.specs.Prelude.{Box, is_some}
use Rattle.std.specs.Box.{box_value}
use Rattle.clap.specs.Simple.{subcommand_rows}
use Rattle.clap.specs.declared.parser.matches.ArgMatches.TheViews.{out-SubCommand}
use Rattle.clap.specs.declared.parser.matches.SubCommand.{SubCommand}
use Rattle.clap.specs.Words.{HasKind, IsAmong, Row, Text, fault_of, is_simple, is_simple_and_free, kind_of, App, Shape, with_subcommand}
use Rattle.clap.specs.declared.error.Error.{Error}
use Rattle.cs_args.specs.Asked.{Asking}
use Rattle.cs_args.specs.CommandLine.{Answers, FaultOf, Parses, all_subcommands, app_of_subcommand, asked_by, asked_of, asked_in, cronsafe_app, is_wrong, number_of, subcommand_named, top_app, with_all}
use Rattle.cs_args.specs.declared.table.Subcommand.{Subcommand}
use Rattle.cs_args.specs.declared.request.Request.{Request}
use Rattle.cs_args.specs.declared.request.UsageFault.{UsageFault}
use Rattle.cs_args.specs.declared.request.UsageFault.TheVariants.{Help, NoCall, OutOfMemory, Version}

list_all_digits : (bs : List ℕ) → list_all is_ascii_digit bs ≡ all_ascii_digits bs
list_all_digits [] = refl
list_all_digits (b ∷ bs) = ap (λ t. is_ascii_digit b && t) (list_all_digits bs)

holds : (bs : List ℕ) → 0 < length bs → digits_value 10 bs < 2 ^ 64 → (nat_lt 0 (length bs) && nat_lt (digits_value 10 bs) (2 ^ 64)) ≡ true
holds bs some fits = simp (lt-ltb 0 (length bs) some, lt-ltb (digits_value 10 bs) (2 ^ 64) fits) refl

fails : (x y : Bool) → ((x ≡ true) × (y ≡ true) → ⊥) → (x && y) ≡ false
fails true true h = absurd (h (refl, refl))
fails true false h = refl
fails false y h = refl

pub number_read : {E : Type 0} (bs : List ℕ) (r : Result ℕ E) (n : ℕ) → ParsesUnsigned 64 10 bs r → r ≡ Ok n → list_all is_ascii_digit bs ≡ true → number_of bs ≡ Some n
number_read bs r n h e d =
    let k = parse_digits (numerals_by_value _ tells_all_ascii_digits) 64 bs r h (sym (list_all_digits bs) ∙ d) in
    let kk = subst (λ x. OkIff x ((0 < length bs) × (digits_value 10 bs < 2 ^ 64)) (digits_value 10 bs)) e k in
    let t = holds bs kk.0.0 kk.0.1 in
    rw (d, t) (ap Some (sym kk.1))

pub number_refused : {E : Type 0} (bs : List ℕ) (r : Result ℕ E) (e : E) → ParsesUnsigned 64 10 bs r → r ≡ Err e → list_all is_ascii_digit bs ≡ true → number_of bs ≡ None
number_refused bs r x h e d =
    let k = parse_digits (numerals_by_value _ tells_all_ascii_digits) 64 bs r h (sym (list_all_digits bs) ∙ d) in
    let kk = subst (λ y. OkIff y ((0 < length bs) × (digits_value 10 bs < 2 ^ 64)) (digits_value 10 bs)) e k in
    let t = fails (nat_lt 0 (length bs)) (nat_lt (digits_value 10 bs) (2 ^ 64)) (λ q. kk (ltb-true 0 (length bs) q.0, ltb-true (digits_value 10 bs) (2 ^ 64) q.1)) in
    rw (d, t) refl

-- where a message is found nothing is asked, and else what the words say
pub refused : {A : Type 0} (name : Text) (rows : List Row) (s : Subcommand) (message : Option A) (text : A) → subcommand_named name ≡ Some s → is_some message ≡ is_wrong s rows → message ≡ Some text
    → asked_by name rows ≡ None
refused name rows s message text is same some =
    let wrong : is_wrong s rows ≡ true = sym same ∙ ap is_some some in
    rw (is, wrong) refl

pub answered : {A : Type 0} (name : Text) (rows : List Row) (s : Subcommand) (message : Option A) (r : Result Request UsageFault) → subcommand_named name ≡ Some s → is_some message ≡ is_wrong s rows
    → message ≡ None → Answers (Some (asked_in s rows)) r → Answers (asked_by name rows) r
answered name rows s message r is same none h =
    let right : is_wrong s rows ≡ false = sym same ∙ ap is_some none in
    let asks : asked_by name rows ≡ Some (asked_in s rows) = rw (is, right) refl in
    subst (λ wanted. Answers wanted r) (sym asks) h

-- what words ask is what the entries of their subcommand ask
pub asked_named : (o : Option (Text × List Row)) (name : Text) (rows : List Row) → option_map (λ p. p.0) o ≡ Some name → option_map (λ p. p.1) o ≡ Some rows
    → option_and_then (λ p. asked_by p.0 p.1) o ≡ asked_by name rows
asked_named None name rows n e = absurd (cc)
asked_named (Some p) name rows n e =
    let name_is : p.0 ≡ name = cc in
    let rows_are : p.1 ≡ rows = cc in
    rw (name_is, rows_are) refl

pub asked_none : (o : Option (Text × List Row)) → option_map (λ p. p.1) o ≡ None → option_and_then (λ p. asked_by p.0 p.1) o ≡ None
asked_none None e = refl
asked_none (Some p) e = absurd (cc)

pub name_met : {Z : Type 0} (o : Option (Box SubCommand Z)) → option_map (λ b. (out-SubCommand (box_value b)).name.now) o ≡ option_map (λ p. p.0) (subcommand_rows o)
name_met None = refl
name_met (Some b) = refl

-- what the entries ask is what the words ask
pub request_parses : (words : List Text) (wanted : Option Asking) → fault_of cronsafe_app words ≡ [] → asked_of words ≡ wanted → (r : Result Request UsageFault) → Answers wanted r → Parses words r
request_parses words wanted none same (Ok d) h = (none, same ∙ h)
request_parses words wanted none same (Err (Help text)) h = inr (none, same ∙ h)
request_parses words wanted none same (Err Version) h = absurd h
request_parses words wanted none same (Err (NoCall text)) h = inr (none, same ∙ h)
request_parses words wanted none same (Err OutOfMemory) h = h

-- a fault of `clap` is one of its kinds
pub fault_parses : (words : List Text) (e : Error) (u : UsageFault) → HasKind (fault_of cronsafe_app words) e → FaultOf e u → Parses words (Err u)
fault_parses words e (Help text) (inl m) h = let bad = sym m ∙ h in absurd (cc)
fault_parses words e (Help text) (inr k) h = inl (subst (λ x. IsAmong x (fault_of cronsafe_app words)) h k)
fault_parses words e Version (inl m) h = let bad = sym m ∙ h in absurd (cc)
fault_parses words e Version (inr k) h = subst (λ x. IsAmong x (fault_of cronsafe_app words)) h k
fault_parses words e (NoCall text) (inl m) h = absurd (h.2 m)
fault_parses words e (NoCall text) (inr k) h = inl (kind_of e, k, h.0, h.1)
fault_parses words e OutOfMemory k h = h

-- a subcommand more is one less that is left
after_one : (xs : List Subcommand) (i : ℕ) (d : Subcommand) (old new : App) → i < length xs → new ≡ with_subcommand old (app_of_subcommand (slice_index_or xs i d)).top
    → with_all old (drop i xs) ≡ with_all new (drop (suc i) xs)
after_one [] i d old new some added = absurd (omega arith)
after_one (x ∷ xs) zero d old new some added = ap (λ app. with_all app xs) (sym added)
after_one (x ∷ xs) (suc i) d old new some added =
    let rest : i < length xs = omega arith in
    after_one xs i d old new rest added

pub with_next : (xs : List Subcommand) (i : ℕ) (d : Subcommand) (below : Shape) (old new : App) → i < length xs → below ≡ (app_of_subcommand (slice_index_or xs i d)).top
    → new ≡ with_subcommand old below → with_all old (drop i xs) ≡ with_all new (drop (i + 1) xs)
with_next xs i d below old new some is added =
    let one : suc i ≡ i + 1 = omega arith in
    subst (λ j. with_all old (drop i xs) ≡ with_all new (drop j xs)) one (after_one xs i d old new some (added ∙ ap (with_subcommand old) is))

grows : {X : Type 0} (f : X → ℕ) (xs : List X) (n : ℕ) → n ≤ fold (λ a x. a + f x) n xs
grows f [] n = omega arith
grows f (x ∷ xs) n = let rest : n + f x ≤ fold (λ a y. a + f y) (n + f x) xs = grows f xs (n + f x) in omega arith

pub more_than_one : {X Y : Type 0} (f : X → ℕ) (g : Y → X) (ys : List Y) (i n : ℕ) (d : Y) (all : ℕ) → i < length ys → 1 - n < f (g (slice_index_or ys i d))
    → fold (λ a x. a + f x) n (map g (drop i ys)) ≡ all → true ≡ nat_lt 1 all
more_than_one f g [] i n d all some more is = absurd (omega arith)
more_than_one f g (y ∷ ys) zero n d all some more is =
    let rest : n + f (g y) ≤ fold (λ a x. a + f x) (n + f (g y)) (map g ys) = grows f (map g ys) (n + f (g y)) in
    let whole : n + f (g y) ≤ all = subst (λ m. n + f (g y) ≤ m) is rest in
    let two : 1 < all = omega arith in
    sym (lt-ltb 1 all two)
more_than_one f g (y ∷ ys) (suc i) n d all some more is =
    let rest : i < length ys = omega arith in
    more_than_one f g ys i n d all rest more is

pub is_known : is_simple_and_free cronsafe_app ≡ true
unfolding all_subcommands cronsafe_app top_app
is_known = refl

pub is_told : is_simple cronsafe_app ≡ true
unfolding all_subcommands cronsafe_app top_app
is_told = refl

pub second_mapped : {A : Type 0} → {B : Type 0} (v : A → B) (xs : List A) → slice_get (map v xs) 1 ≡ option_map v (slice_get xs 1)
second_mapped v xs = slice_get-map v xs 1
