-- How many octets each call brings that hands over a value is known by the value's octets alone, whatever the calls
-- that spell it.
use Rattle.std.specs.Prelude.{ℕ, ◌≡◌, refl, true, false, List, [], ◌∷◌, ◌++◌, eqb, length, drop}
use Rattle.std.proofs.Common.{arith, sym, ap, ◌∙◌, append-nil}
use Rattle.std.proofs.Math.Seq.{drop-append_seam}
use Rattle.octets.specs.Cases.{same-either}
use Rattle.answers.specs.Walk.{Ends}
use Rattle.whole.specs.Number.{Some}
use Rattle.whole.specs.Number.{number_of, encode_number}
use Rattle.whole.specs.Laws.{number-back}
use Rattle.value.specs.Types.{Kind, Form, one, many, unknown}
use Rattle.value.specs.Value.{element_of, value_of}
use Rattle.value.specs.Form.{IsValue, value-back}
use Rattle.entry.specs.Record.{unlike}
use Rattle.giving.specs.Give.{Given, Number, Truth, Octets, Count, formed, octets_for, left_of, element_form}
use Rattle.drafting.specs.Spell.{Handed, Owed, Elements, joined, Spelling, given-owed}
use Rattle.importing.specs.Given.{elements_of, count_then, pieces_of}

-- the octets of values of a form
abbrev pub sizes : Form → List Given → List ℕ
sizes f [] = []
sizes f (v ∷ vs) = length (octets_for f v) ∷ sizes f vs

-- of the calls that hand over a value
abbrev pub pieces_by : (f : Form) (v : List ℕ) → Spelling f v → List ℕ
pieces_by f v sp = length (octets_for f sp.first) ∷ sizes (element_form f) sp.rest

-- ---- a list

element-width : (k : Kind) (v : Given) (rest : List ℕ) → Handed v → formed (one k) v ≡ true
    → element_of k (octets_for (one k) v ++ rest) ≡ Ends (length (octets_for (one k) v))
unfolding Owed IsValue value_of
element-width k v rest h e = value-back (one k) (octets_for (one k) v) (given-owed (one k) v h e).1 rest

elements-are : (k : Kind) (vs : List Given) → Elements (one k) vs
    → elements_of k (length vs) (joined (one k) vs) ≡ sizes (one k) vs
unfolding elements_of
elements-are k [] h = refl
elements-are k (v ∷ vs) h =
    let x : List ℕ = octets_for (one k) v in
    rw (element-width k v (joined (one k) vs) h.0 h.1, drop-append_seam x (joined (one k) vs))
    (ap (λ (l : List ℕ). length x ∷ l) (elements-are k vs h.2))

list-pieces : (k : Kind) (v : List ℕ) (first : Given) (rest : List Given) → Handed first → formed (many k) first ≡ true
    → left_of first ≡ length rest → Elements (one k) rest → v ≡ octets_for (many k) first ++ joined (one k) rest
    → length (octets_for (many k) first) ∷ sizes (one k) rest
    ≡ count_then (number_of v) (λ n w. elements_of k n (drop w v))
list-pieces k v (Number x) rest h e d g r = unlike e
list-pieces k v (Truth b) rest h e d g r = unlike e
list-pieces k v (Octets s) rest h e d g r = unlike e
list-pieces k v (Count n) rest h e d g r =
    let q : number_of (encode_number n ++ joined (one k) rest) ≡ Some (n, length (encode_number n)) =
    number-back n h (joined (one k) rest) in
    rw (r, q, drop-append_seam (encode_number n) (joined (one k) rest), d)
    (ap (λ (l : List ℕ). length (encode_number (length rest)) ∷ l) (sym (elements-are k rest g)))

-- ---- any value

single-left : (k : Kind) (v : Given) → Handed v → formed (one k) v ≡ true → left_of v ≡ 0
unfolding Owed
single-left k v h e = (given-owed (one k) v h e).0

single-pieces : (k : Kind) (v : List ℕ) (first : Given) (rest : List Given) → left_of first ≡ 0
    → left_of first ≡ length rest → v ≡ octets_for (one k) first ++ joined (element_form (one k)) rest
    → length (octets_for (one k) first) ∷ sizes (element_form (one k)) rest ≡ length v ∷ []
single-pieces k v first [] z d r =
    ap (λ (n : ℕ). n ∷ []) (sym (ap length (r ∙ append-nil (octets_for (one k) first))))
single-pieces k v first (x ∷ rest) z d r = absurd (omega arith)

none-formed : {X : Type 0} (g : Given) → formed unknown g ≡ true → X
none-formed (Number x) e = unlike e
none-formed (Truth b) e = unlike e
none-formed (Octets s) e = unlike e
none-formed (Count n) e = unlike (sym (same-either (eqb n 0) false) ∙ e)

pub pieces_are : (f : Form) (v : List ℕ) (sp : Spelling f v) → pieces_by f v sp ≡ pieces_of f v
unfolding pieces_of
pieces_are (one k) v sp =
    single-pieces k v sp.first sp.rest (single-left k sp.first sp.handed sp.formed) sp.due sp.reads
pieces_are (many k) v sp =
    list-pieces k v sp.first sp.rest sp.handed sp.formed sp.due sp.elements sp.reads
pieces_are unknown v sp = none-formed sp.first sp.formed
