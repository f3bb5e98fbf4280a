-- A whole value that may be written, given by calls where there is room: each call is accepted, and the open record has
-- the value.
use Prim.Native.Nat.{ℕ, suc, ◌+◌, ◌-◌, ◌≤◌, ◌<◌}
use native.Mathlib.Omega.{arith}
use Rattle.std.specs.Prelude.{◌≡◌, refl, length, set}
use Rattle.std.proofs.Common.{sym, subst, ◌∙◌, length-append, length-set, get_or-set_same, add-one}
use Rattle.std.proofs.Math.Path.{ap}
use Rattle.std.proofs.Math.Option.{none, some}
use mathlib.Core.List.{List, [], ◌∷◌, ◌++◌, append_assoc, append-nil}
use Rattle.std.proofs.Math.ListN.{get_or}
use Rattle.std.proofs.lemmas.List.{set-get_or}
use Rattle.answers.specs.Numbers.{most_octets}
use Rattle.value.specs.Types.{Form}
use Rattle.table.specs.Table.{Column}
use Rattle.table.specs.Columns.{tags_of}
use Rattle.entry.specs.Present.{Row}
use Rattle.giving.specs.Give.{Given, octets_for, left_of, element_form}
use Rattle.drafting.specs.Open.{Blank, open_record}
use Rattle.drafting.specs.Spell.{Elements, joined, Spelling}
use Rattle.drafting.specs.Start.{open_columns}
use Rattle.drafting.specs.Draft.{Part, closed_octets, open_slots, form_in}
use Rattle.drafting.specs.Gives.{giving, set_twice, given-long, added-long}
use Rattle.drafting.specs.Run.{Give, Add}
use Rattle.drafting.specs.Written.{Stand, lent, after}
use Rattle.drafting.specs.Goes.{Goes, InRecord, give-goes, add_goes, part-is, adds, filled, entry_calls}
use Rattle.drafting.proofs.Anew.{inside-anew}

pub adds-go : (m : ℕ) → m ≤ most_octets → (vs : List Given) (s : Stand) (hs cs : List Column) (rows : List Row)
    (p : Part) → InRecord hs cs rows p s
    → (c : ℕ) (u : List ℕ) → p.next ≡ suc c → c < length p.row → get_or p.row c none ≡ some u → p.due ≡ length vs
    → let f : Form = element_form (form_in (open_slots hs cs (length rows + 1)) c) in
    Elements f vs → length (closed_octets hs cs rows ++ open_record p.row) + length (joined f vs) ≤ m
    → Goes m (adds vs) (InRecord hs cs rows (filled p c (u ++ joined f vs))) s
adds-go m most [] s hs cs rows p o c u n l g z h r =
    let q : p.row ≡ set p.row c (some (u ++ [])) = sym (set-get_or p.row c none) ∙ ap (set p.row c) (g ∙ ap some (sym (append-nil u))) in
    subst (λ (x : Part). InRecord hs cs rows x s) (part-is p (filled p c (u ++ [])) q refl z) o
adds-go m most (v ∷ vs) s hs cs rows p o c u n l g z h r = λ d a e.
    let i = inside-anew s.state s.octets o.first d a hs cs rows p o.inside in
    let s' : Stand = lent d s in
    let f : Form = element_form (form_in (open_slots hs cs (length rows + 1)) c) in
    let w : List ℕ = octets_for f v in
    let x : List ℕ = closed_octets hs cs rows in
    let k = length-append w (joined f vs) in
    let bl : Blank (suc c) p.row = rw n at i.blank in
    let long = added-long x p.row c u w l bl g in
    let y =
    add_goes s' d hs cs rows p i c u v n g (omega arith) h.0 h.1
    (record { limit = omega arith; buffer = omega arith }) in
    let p' : Part = record { row = set p.row c (some (u ++ w)); next = p.next; due = p.due - 1 } in
    let b =
    adds-go m most vs (after (Add v) s') hs cs rows p' (record { first = d; inside = y.1 }) c (u ++ w) n
    (rw (length-set p.row c (some (u ++ w))) l) (get_or-set_same p.row c (some (u ++ w)) none l)
    (omega arith) h.2 (omega arith) in
    let q : set (set p.row c (some (u ++ w))) c (some ((u ++ w) ++ joined f vs)) ≡ set p.row c (some (u ++ (w ++ joined f vs))) =
    set_twice p.row c (some (u ++ w)) (some ((u ++ w) ++ joined f vs))
    ∙ ap (λ (y : List ℕ). set p.row c (some y)) (append_assoc u w (joined f vs)) in
    let z = part-is (filled p' c ((u ++ w) ++ joined f vs)) (filled p c (u ++ (w ++ joined f vs))) q refl refl in
    (y.0, subst (λ (y : Part). Goes m (adds vs) (InRecord hs cs rows y) (after (Add v) s')) z b)

pub entry-goes : (m : ℕ) → m ≤ most_octets → (s : Stand) (hs cs : List Column) (rows : List Row) (p : Part)
    → InRecord hs cs rows p s
    → (c : ℕ) (v : List ℕ) → p.due ≡ 0 → p.next ≤ c → c < length p.row
    → (sp : Spelling (form_in (open_slots hs cs (length rows + 1)) c) v)
    → length (closed_octets hs cs rows ++ open_record p.row) + length v ≤ m
    → Goes m (entry_calls (form_in (open_slots hs cs (length rows + 1)) c) v
    (get_or (tags_of (open_columns hs cs (length rows + 1))) c 0) sp)
    (InRecord hs cs rows (record { row = set p.row c (some v); next = c + 1; due = 0 })) s
entry-goes m most s hs cs rows p o c v z n l sp r = λ d a e.
    let i = inside-anew s.state s.octets o.first d a hs cs rows p o.inside in
    let s' : Stand = lent d s in
    let f : Form = form_in (open_slots hs cs (length rows + 1)) c in
    let tag : ℕ = get_or (tags_of (open_columns hs cs (length rows + 1))) c 0 in
    let u : List ℕ = octets_for f sp.first in
    let w : List ℕ = joined (element_form f) sp.rest in
    let x : List ℕ = closed_octets hs cs rows in
    let k : length v ≡ length u + length w = ap length sp.reads ∙ length-append u w in
    let long = given-long x p.row p.next c u l i.blank n in
    let y =
    give-goes s' d hs cs rows p i c sp.first z n (rw i.wide at l) sp.handed sp.formed
    (record { limit = omega arith; buffer = omega arith }) in
    let p' : Part = giving p c u (left_of sp.first) in
    let b =
    adds-go m most sp.rest (after (Give tag sp.first) s') hs cs rows p'
    (record { first = d; inside = y.1 }) c u (add-one c) (rw (length-set p.row c (some u)) l)
    (get_or-set_same p.row c (some u) none l) sp.due sp.elements (omega arith) in
    let q : set (set p.row c (some u)) c (some (u ++ w)) ≡ set p.row c (some v) =
    set_twice p.row c (some u) (some (u ++ w)) ∙ ap (λ (y : List ℕ). set p.row c (some y)) (sym sp.reads) in
    let end : Part = record { row = set p.row c (some v); next = c + 1; due = 0 } in
    let z = part-is (filled p' c (u ++ w)) end q refl refl in
    (y.0, subst (λ (y : Part). Goes m (adds sp.rest) (InRecord hs cs rows y) (after (Give tag sp.first) s')) z b)
