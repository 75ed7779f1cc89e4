use Rattle.std.proofs.Common.{◌≡◌, ℕ, ◌+◌, ◌-◌, ◌≤◌, min, List, [], ◌∷◌, map, length, Bool, true, ◌&&◌, nat_eq, nat_lt, nat_le, Result, Ok, refl, sym, ap, subst, arith}
use Rattle.std.proofs.lemmas.Bool.{eqb-true, ltb-true, leb-true}
use Rattle.std.specs.List.{list_all}
use Rattle.serde_json.specs.Data.{Data}
use Rattle.serde_json.specs.View.{items_of}
use Rattle.cs_json.specs.Bytes.{list_of}
use Rattle.cs_json.specs.Shape.{all_as, list_as}
use Rattle.cs_json.specs.declared.fault.JsonFault.{JsonFault}
use Rattle.cs_wait.specs.declared.backlog.Piece.{Piece}
use Rattle.cs_windows.specs.declared.tree.Entry.{Entry}
use Rattle.cs_claims.specs.declared.class.Class.{Class}
use Rattle.cs_claims.specs.declared.class.DueList.{DueList}
use Rattle.cs_claims.specs.declared.class.GroupBacklog.{GroupBacklog}
use Rattle.cs_windows.specs.declared.reach.JobReach.{JobReach}
use Rattle.cs_claims.specs.Rules.{backlog_fits, class_fits, due_fits, due_list_fits, entry_fits, group_backlog_fits, has_carries, has_carry, is_at_midnight, is_backlog_from, is_carries}
use Rattle.cs_cert.specs.Said.{carry_class_said, carry_said, class_said, due_list_said, entry_said, group_backlog_said, held, piece_said, reach_said}
use Rattle.cs_cert.specs.Written.{carry_class_data, carry_data, class_data, due_list_data, entry_data, group_backlog_data, list_data, number_data, piece_data, reach_data}
use Rattle.cs_claims.proofs.Backlogs.{so_backlog}
use Rattle.cs_claims.proofs.Both.{and_both, both_and}

pub held_back : (top n : ℕ) → n ≤ top → min n top ≡ n
held_back top n h = omega (arith, h)

pub below_back : (top bound n : ℕ) → bound ≤ top → nat_lt n bound ≡ true → min n top ≡ n
below_back top bound n b h = let below = ltb-true n bound h in held_back top n (omega (arith, b, below))

all_back : {A : Type 0} (said : Data → Result A JsonFault) (spelled : A → Data) (test : A → Bool) → ((x : A) → test x ≡ true → said (spelled x) ≡ Ok x)
    → (xs : List A) → list_all test xs ≡ true → all_as said (list_of (items_of (map spelled xs))) ≡ Ok xs
all_back said spelled test back [] h = refl
all_back said spelled test back (x ∷ xs) h =
    let p = and_both (test x) (list_all test xs) h in
    rw (back x p.0, all_back said spelled test back xs p.1) refl

pub list_back : {A : Type 0} (said : Data → Result A JsonFault) (spelled : A → Data) (test : A → Bool) → ((x : A) → test x ≡ true → said (spelled x) ≡ Ok x)
    → (xs : List A) → list_all test xs ≡ true → list_as said (list_data spelled xs) ≡ Ok xs
list_back said spelled test back xs h = all_back said spelled test back xs h

pub numbers_back : (top bound : ℕ) → bound ≤ top → (ns : List ℕ) → list_all (λ n. nat_lt n bound) ns ≡ true → list_as (held top) (list_data number_data ns) ≡ Ok ns
numbers_back top bound b ns h = list_back (held top) number_data (λ n. nat_lt n bound) (λ n k. let e = below_back top bound n b k in rw e refl) ns h

pub due_list_back : (d : DueList) → due_list_fits d ≡ true → due_list_said (due_list_data d) ≡ Ok d
due_list_back d h =
    let p = and_both _ _ h in
    let q = and_both _ _ p.0 in
    let r = and_both _ _ q.0 in
    rw (below_back 65535 320 d.job (omega arith) r.0, numbers_back 65535 1440 (omega arith) d.minutes p.1) refl

piece_held : (least minute value : ℕ) (rest : Bool) → (nat_le least minute && nat_lt minute 1440 && nat_le 1 value && nat_le value 1000000 && rest) ≡ true
    → (min minute 65535 ≡ minute) × (min value 4294967295 ≡ value) × (rest ≡ true)
piece_held least minute value rest h =
    let a = and_both (nat_le least minute && nat_lt minute 1440 && nat_le 1 value && nat_le value 1000000) rest h in
    let b = and_both (nat_le least minute && nat_lt minute 1440 && nat_le 1 value) (nat_le value 1000000) a.0 in
    let c = and_both (nat_le least minute && nat_lt minute 1440) (nat_le 1 value) b.0 in
    let d = and_both (nat_le least minute) (nat_lt minute 1440) c.0 in
    let small = leb-true value 1000000 b.1 in
    let early = ltb-true minute 1440 d.1 in
    (omega (arith, early), omega (arith, small), a.1)

pieces_back : (least : ℕ) (ps : List Piece) → is_backlog_from least ps ≡ true → all_as piece_said (list_of (items_of (map piece_data ps))) ≡ Ok ps
pieces_back least [] h = refl
pieces_back least (p ∷ ps) h =
    let k = piece_held least p.minute p.value (is_backlog_from (p.minute + 1) ps) h in
    rw (k.0, k.1, pieces_back (p.minute + 1) ps k.2) refl

pub group_backlog_back : (b : GroupBacklog) → group_backlog_fits b ≡ true → group_backlog_said (group_backlog_data b) ≡ Ok b
group_backlog_back b h =
    let p = and_both _ _ h in
    rw (below_back 255 64 b.group (omega arith) p.0, pieces_back 0 b.backlog p.1, p.1) refl

pub class_back : (c : Class) → class_fits c ≡ true → class_said (class_data c) ≡ Ok c
class_back c h =
    let p = and_both (due_fits c.due) (backlog_fits c.backlog) h in
    let due = and_both _ (list_all due_list_fits c.due) p.0 in
    let backlog = and_both _ (list_all group_backlog_fits c.backlog) p.1 in
    rw (list_back due_list_said due_list_data due_list_fits due_list_back c.due due.1, list_back group_backlog_said group_backlog_data group_backlog_fits group_backlog_back c.backlog backlog.1) refl

one_carry_back : (g v : ℕ) → nat_lt g 64 ≡ true → is_backlog_from 0 (record { minute = 0; value = v } ∷ []) ≡ true
    → carry_said (carry_data (record { group = g; backlog = record { minute = 0; value = v } ∷ [] })) ≡ Ok (record { group = g; backlog = record { minute = 0; value = v } ∷ [] })
one_carry_back g v small good =
    let k = piece_held 0 0 v true good in
    let same : v - (0 - 0) ≡ v = omega arith in
    rw (below_back 255 64 g (omega arith) small, same, k.1, good) refl

carry_of_back : (g : ℕ) (ps : List Piece) → nat_lt g 64 ≡ true → is_backlog_from 0 ps ≡ true → list_all (λ p. nat_eq p.minute 0) ps ≡ true → nat_lt 0 (length ps) ≡ true
    → carry_said (carry_data (record { group = g; backlog = ps })) ≡ Ok (record { group = g; backlog = ps })
carry_of_back g [] small good start some = absurd (cc)
carry_of_back g (p ∷ []) small good start some =
    let e : p.minute ≡ 0 = eqb-true p.minute 0 (and_both (nat_eq p.minute 0) true start).0 in
    subst (λ (n : ℕ). is_backlog_from 0 (record { minute = n; value = p.value } ∷ []) ≡ true → carry_said (carry_data (record { group = g; backlog = record { minute = n; value = p.value } ∷ [] })) ≡ Ok (record { group = g; backlog = record { minute = n; value = p.value } ∷ [] }))
    (sym e) (one_carry_back g p.value small) good
carry_of_back g (p ∷ q ∷ ps) small good start some =
    let later = (so_backlog 0 (p ∷ q ∷ ps) good).4.0 in
    let rest = (and_both (nat_eq p.minute 0) (list_all (λ p. nat_eq p.minute 0) (q ∷ ps)) start).1 in
    let first : q.minute ≡ 0 = eqb-true q.minute 0 (and_both (nat_eq q.minute 0) (list_all (λ p. nat_eq p.minute 0) ps) rest).0 in
    absurd (omega (arith, later, first))

abbrev pub carry_fits : GroupBacklog → Bool
carry_fits b = group_backlog_fits b && is_at_midnight b && has_carry b

carry_back : (b : GroupBacklog) → carry_fits b ≡ true → carry_said (carry_data b) ≡ Ok b
carry_back b h =
    let p = and_both (group_backlog_fits b && is_at_midnight b) (has_carry b) h in
    let q = and_both (group_backlog_fits b) (is_at_midnight b) p.0 in
    let fits = and_both _ _ q.0 in
    carry_of_back b.group b.backlog fits.0 fits.1 q.1 p.1

all_carries : (bs : List GroupBacklog) → list_all group_backlog_fits bs ≡ true → list_all is_at_midnight bs ≡ true → list_all has_carry bs ≡ true → list_all carry_fits bs ≡ true
all_carries [] h k l = refl
all_carries (b ∷ bs) h k l =
    let p = and_both (group_backlog_fits b) (list_all group_backlog_fits bs) h in
    let q = and_both (is_at_midnight b) (list_all is_at_midnight bs) k in
    let r = and_both (has_carry b) (list_all has_carry bs) l in
    both_and _ _ (both_and _ _ (both_and _ _ p.0 q.0) r.0) (all_carries bs p.1 q.1 r.1)

none_listed : (due : List DueList) → nat_eq (length due) 0 ≡ true → due ≡ []
none_listed [] h = refl
none_listed (d ∷ due) h = let none : length (d ∷ due) ≡ 0 = eqb-true (length (d ∷ due)) 0 h in absurd (omega (arith, none))

abbrev with_due : List GroupBacklog → List DueList → Result Class JsonFault
with_due backlog due = Ok (record { due = due; backlog = backlog })

abbrev pub carry_class_fits : Class → Bool
carry_class_fits c = class_fits c && is_carries c && has_carries c

pub carry_class_back : (c : Class) → carry_class_fits c ≡ true → carry_class_said (carry_class_data c) ≡ Ok c
carry_class_back c h =
    let p = and_both (class_fits c && is_carries c) (has_carries c) h in
    let q = and_both (class_fits c) (is_carries c) p.0 in
    let fits = and_both (due_fits c.due) (backlog_fits c.backlog) q.0 in
    let backlog = and_both _ (list_all group_backlog_fits c.backlog) fits.1 in
    let carries = and_both (nat_eq (length c.due) 0) (list_all is_at_midnight c.backlog) q.1 in
    rw (list_back carry_said carry_data carry_fits carry_back c.backlog (all_carries c.backlog backlog.1 carries.1 p.1))
    (ap (with_due c.backlog) (sym (none_listed c.due carries.0)))

pub reach_back : (most : ℕ) → most ≤ 65535 → (r : JobReach) → (nat_lt r.job 320 && nat_lt 0 r.reach && nat_le r.reach most) ≡ true → reach_said (reach_data r) ≡ Ok r
reach_back most m r h =
    let p = and_both _ _ h in
    let q = and_both _ _ p.0 in
    let reach = leb-true _ _ p.1 in
    rw (below_back 65535 320 r.job (omega arith) q.0, held_back 65535 r.reach (omega (arith, m, reach))) refl

pub entry_back : (days : ℕ) → days ≤ 255 → (e : Entry) → entry_fits days e ≡ true → entry_said (entry_data e) ≡ Ok e
entry_back days d e h =
    let p = and_both _ _ h in
    let q = and_both _ _ p.0 in
    rw (below_back 65535 320 e.job (omega arith) q.0, below_back 255 days e.day_back d q.1, below_back 65535 1440 e.from (omega arith) p.1) refl
