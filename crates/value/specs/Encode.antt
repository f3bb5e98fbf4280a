-- How values and lists of values are written (2.9.6), and the two laws that tie that to the walks: read-back and sound.
use Rattle.std.specs.Prelude.{ℕ, zero, suc, ◌+◌, ◌-◌, ◌^◌, ◌≤◌, ◌<◌, ◌≡◌, refl, List, [], ◌∷◌, ◌++◌, length, take, drop, ltb, leb}
use Rattle.std.proofs.Common.{arith, add-zero, sym, ap, ◌∙◌, append_assoc, length-append, length-drop, take-append-drop, drop_at, length-take-le, lt-ltb, le-ltb, le-leb, leb-true, ltb-true, ltb-false}
use Rattle.std.proofs.Math.Seq.{drop-append_seam}
use Rattle.octets.specs.Cases.{taken}
use Rattle.octets.specs.Octets.{octet_at, Octets, octets-drop, front}
use Rattle.answers.specs.Walk.{Ends}
use Rattle.answers.specs.Walk.{no_end, from-walk}
use Rattle.whole.specs.Number.{Some}
use Rattle.whole.specs.Number.{number_of, encode_number}
use Rattle.whole.specs.Laws.{number-back, number-sound, number_small, number-wide}
use Rattle.text.specs.Narrow.{encode_narrow, NoZero, narrow_back, narrow-sound}
use Rattle.text.specs.Text.{encode_text, Chars, text-back, text-sound}
use Rattle.value.specs.Types.{Kind, number, truth, narrow, text, binary}
use Rattle.value.specs.Value.{numeric_of, truth_of, binary_of, element_of, list_from, list_of}
use Rattle.value.specs.Within.{from-number}

-- one value
pub data Item : Type 0 where
  a_number a_truth : ℕ → Item
  a_narrow a_text a_binary : List ℕ → Item

abbrev pub kind_of : Item → Kind
kind_of (a_number n) = number
kind_of (a_truth b) = truth
kind_of (a_narrow t) = narrow
kind_of (a_text t) = text
kind_of (a_binary t) = binary

-- the values that can be written: a number below 2 ^ 32, 0 or 1, octets that are not 0, characters, 1 to 2 ^ 32 - 1 octets
abbrev pub Valid : Item → Type 0
Valid (a_number n) = n < 2 ^ 32
Valid (a_truth b) = b < 2
Valid (a_narrow t) = NoZero t × (1 ≤ length t)
Valid (a_text t) = Chars t × (1 ≤ length t)
Valid (a_binary t) = (1 ≤ length t) × (length t < 2 ^ 32)

-- 2.9.6.1 to 2.9.6.5
abbrev pub encode_item : Item → List ℕ
encode_item (a_number n) = encode_number n
encode_item (a_truth b) = b ∷ []
encode_item (a_narrow t) = encode_narrow t
encode_item (a_text t) = encode_text t
encode_item (a_binary t) = encode_number (length t) ++ t

-- ---- what was written is read back

number-front : (n : ℕ) → n < 2 ^ 32 → (more rest : List ℕ) → number_of ((encode_number n ++ more) ++ rest) ≡ Some (n, length (encode_number n))
number-front n h more rest = rw append_assoc (number-back n h (more ++ rest))

truth-back : (b : ℕ) → b < 2 → (rest : List ℕ) → truth_of (b ∷ rest) ≡ Ends 1
unfolding truth_of
truth-back b h rest = simp (le-ltb (length (b ∷ rest)) 1 (omega arith), lt-ltb b 2 h)

binary-back : (t rest : List ℕ) → 1 ≤ length t → length t < 2 ^ 32 → binary_of ((encode_number (length t) ++ t) ++ rest) ≡ Ends (length (encode_number (length t) ++ t))
unfolding binary_of
binary-back t rest h i =
    let c = encode_number (length t) in
    let l : length t ≤ length ((c ++ t) ++ rest) - length c = simp length-append (omega arith) in
    simp (number-front (length t) i t rest, le-ltb (length t) 1 h, le-leb (length t) (length ((c ++ t) ++ rest) - length c) l)
    (ap Ends (simp length-append))

pub item_back : (v : Item) → Valid v → (rest : List ℕ) → element_of (kind_of v) (encode_item v ++ rest) ≡ Ends (length (encode_item v))
unfolding element_of numeric_of
item_back (a_number n) h rest = rw (number-back n h rest)
item_back (a_truth b) h rest = truth-back b h rest
item_back (a_narrow t) h rest = narrow_back t rest h.0 h.1
item_back (a_text t) h rest = text-back t rest h.0 h.1
item_back (a_binary t) h rest = binary-back t rest h.0 h.1

abbrev pub count : List Item → ℕ
count [] = 0
count (v ∷ vs) = suc (count vs)

abbrev pub encode_items : List Item → List ℕ
encode_items [] = []
encode_items (v ∷ vs) = encode_item v ++ encode_items vs

-- the number of the items, and the items
abbrev pub encode_list : List Item → List ℕ
encode_list vs = encode_number (count vs) ++ encode_items vs

-- each is of the kind k and can be written
abbrev pub Valids : Kind → List Item → Type 0
Valids k [] = Unit {0}
Valids k (v ∷ vs) = (kind_of v ≡ k) × Valid v × Valids k vs

-- the walk goes over the elements that were written and on to n more
items_back : (k : Kind) (vs : List Item) → Valids k vs → (n i : ℕ) (rest : List ℕ)
    → list_from k (count vs + n) i (encode_items vs ++ rest) ≡ list_from k n (i + length (encode_items vs)) rest
unfolding list_from
items_back k [] h n i rest = let z : count [] + n ≡ n = omega arith in simp (z, add-zero)
items_back k (v ∷ vs) h n i rest =
    let c = encode_item v in
    let first : element_of k (c ++ (encode_items vs ++ rest)) ≡ Ends (length c) =
    rw h.0 at (item_back v h.1 (encode_items vs ++ rest)) in
    let ends : i + length c + length (encode_items vs) ≡ i + length (c ++ encode_items vs) =
    simp length-append (omega arith) in
    let more : count (v ∷ vs) + n ≡ suc (count vs + n) = omega arith in
    let past = ap (list_from k (count vs + n) (i + length c)) (drop-append_seam c (encode_items vs ++ rest)) in
    simp (more, append_assoc, first)
    (past ∙ items_back k vs h.2 n (i + length c) rest ∙ ap (λ (j : ℕ). list_from k n j rest) ends)

-- the walk goes over the count and the elements that were written, and on to n more
pub list-front : (k : Kind) (vs : List Item) → Valids k vs → (m n : ℕ) → m ≡ count vs + n → 1 ≤ m → m < 2 ^ 32
    → (rest : List ℕ)
    → list_of k ((encode_number m ++ encode_items vs) ++ rest)
    ≡ list_from k n (length (encode_number m ++ encode_items vs)) rest
unfolding list_of
list-front k vs h m n e p q rest =
    let c = encode_number m in
    let tail : drop (length c) ((c ++ encode_items vs) ++ rest) ≡ encode_items vs ++ rest =
    rw append_assoc (drop-append_seam c (encode_items vs ++ rest)) in
    let more = ap (λ (j : ℕ). list_from k j (length c) (encode_items vs ++ rest)) e in
    simp (number-front m q (encode_items vs) rest, le-ltb m 1 p, tail)
    (more ∙ items_back k vs h n (length c) rest
    ∙ ap (λ (j : ℕ). list_from k n j rest) (sym (length-append c (encode_items vs))))

pub list_back : (k : Kind) (vs : List Item) → Valids k vs → 1 ≤ count vs → count vs < 2 ^ 32 → (rest : List ℕ)
    → list_of k (encode_list vs ++ rest) ≡ Ends (length (encode_list vs))
unfolding list_from
list_back k vs h p q rest = list-front k vs h (count vs) 0 (omega arith) p q rest

-- ---- what is read was written so

-- an item of the kind k is written at the front of xs, and ends at w
pub record Written (k : Kind) (xs : List ℕ) (w : ℕ) : Type 0 where
  pub item : Item
  pub kind : kind_of item ≡ k
  pub valid : Valid item
  pub rest : List ℕ
  pub reads : xs ≡ encode_item item ++ rest
  pub wide : w ≡ length (encode_item item)

binary-written : (xs : List ℕ) → Octets xs → (n v w : ℕ) → number_of xs ≡ Some (n, v) → 1 ≤ n → n ≤ length xs - v → v + n ≡ w → Written binary xs w
binary-written xs o n v w p h i z =
    let t = take n (drop v xs) in
    let long : length t ≡ n = length-take-le n (drop v xs) (simp length-drop i) in
    let c : xs ≡ encode_number n ++ (t ++ drop n (drop v xs)) = number-sound xs o n v p ∙ ap (λ (l : List ℕ). encode_number n ++ l) (sym (take-append-drop n (drop v xs))) in
    let wd = number-wide xs o n v p in
    record {
      item = a_binary t;
      kind = refl;
      valid = (omega arith, omega (arith, number_small xs o n v p));
      rest = drop n (drop v xs);
      reads = rw (long, append_assoc) c;
      wide = simp (length-append, long) (omega arith);
    }

pub item-sound : (k : Kind) (xs : List ℕ) → Octets xs → (w : ℕ) → element_of k xs ≡ Ends w → Written k xs w
unfolding element_of numeric_of truth_of binary_of
item-sound number xs o w e =
    from-number (number_of xs) _ w e
    (λ n v p q. let z : v ≡ w = cc in record {
      item = a_number n;
      kind = refl;
      valid = number_small xs o n v p;
      rest = drop v xs;
      reads = number-sound xs o n v p;
      wide = sym z ∙ sym (number-wide xs o n v p);
    })
item-sound truth xs o w e =
    taken (ltb (length xs) 1) _ _ _ e (λ t q. no_end q)
    (λ t q. taken (ltb (octet_at xs 0) 2) _ _ _ q
    (λ u q. let z : 1 ≡ w = cc in record {
      item = a_truth (octet_at xs 0);
      kind = refl;
      valid = ltb-true (octet_at xs 0) 2 u;
      rest = drop 1 xs;
      reads = front 1 xs (ltb-false (length xs) 1 t);
      wide = sym z;
    })
    (λ u q. no_end q))
item-sound narrow xs o w e =
    let t = narrow-sound xs w e in
    record { item = a_narrow t.octets; kind = refl; valid = (t.no_zero, omega (arith, t.some)); rest = t.rest; reads = t.reads; wide = simp length-append (omega (arith, t.ends)) }
item-sound text xs o w e =
    let t = text-sound xs w e in
    record { item = a_text t.codes; kind = refl; valid = (t.chars, omega (arith, t.some)); rest = t.rest; reads = t.reads; wide = omega (arith, t.ends) }
item-sound binary xs o w e =
    from-number (number_of xs) _ w e
    (λ n v p q. taken (ltb n 1) _ _ _ q (λ t q. no_end q)
    (λ t q. taken (leb n (length xs - v)) _ _ _ q
    (λ u q. let z : v + n ≡ w = cc in binary-written xs o n v w p (ltb-false n 1 t) (leb-true n (length xs - v) u) z)
    (λ u q. no_end q)))

-- n items of the kind k are written at the front of xs, where i octets have gone before, and end at w
pub record WrittenAll (k : Kind) (n i : ℕ) (xs : List ℕ) (w : ℕ) : Type 0 where
  pub items : List Item
  pub valid : Valids k items
  pub many : count items ≡ n
  pub rest : List ℕ
  pub reads : xs ≡ encode_items items ++ rest
  pub ends : w ≡ i + length (encode_items items)

-- an item, and the items after it
unfoldable pub joined : (k : Kind) (n i v w : ℕ) (xs : List ℕ) → Written k xs v → WrittenAll k n (i + v) (drop v xs) w → WrittenAll k (suc n) i xs w
joined k n i v w xs a r =
    let c = encode_item a.item in
    let tail : drop v xs ≡ a.rest = ap (λ (l : List ℕ). drop v l) a.reads ∙ drop_at c a.rest v (sym a.wide) in
    record {
      items = a.item ∷ r.items;
      valid = (a.kind, a.valid, r.valid);
      many = ap suc r.many;
      rest = r.rest;
      reads = a.reads ∙ ap (λ (l : List ℕ). c ++ l) (sym tail ∙ r.reads) ∙ simp append_assoc;
      ends = simp length-append (omega (arith, r.ends, a.wide));
    }

items-sound : (k : Kind) (n i : ℕ) (xs : List ℕ) → Octets xs → (w : ℕ) → list_from k n i xs ≡ Ends w → WrittenAll k n i xs w
unfolding list_from
items-sound k zero i xs o w e =
    let z : i ≡ w = cc in
    record { items = []; valid = tt; many = refl; rest = xs; reads = refl; ends = omega arith }
items-sound k (suc n) i xs o w e =
    from-walk (element_of k xs) _ _ w e
    (λ v p q. joined k n i v w xs (item-sound k xs o v p) (items-sound k n (i + v) (drop v xs) (octets-drop v xs o) w q))

-- a list that is read was written so
pub record List-at (k : Kind) (xs : List ℕ) (w : ℕ) : Type 0 where
  pub items : List Item
  pub valid : Valids k items
  pub some : 1 ≤ count items
  pub few : count items < 2 ^ 32
  pub rest : List ℕ
  pub reads : xs ≡ encode_list items ++ rest
  pub ends : w ≡ length (encode_list items)

pub list-sound : (k : Kind) (xs : List ℕ) → Octets xs → (w : ℕ) → list_of k xs ≡ Ends w → List-at k xs w
unfolding list_of
list-sound k xs o w e =
    from-number (number_of xs) _ w e
    (λ n v p q. taken (ltb n 1) _ _ _ q (λ t q. no_end q)
    (λ t q. at-list n v p (ltb-false n 1 t) (items-sound k n v (drop v xs) (octets-drop v xs o) w q)))
  where
    at-list : (n v : ℕ) → number_of xs ≡ Some (n, v) → 1 ≤ n → WrittenAll k n v (drop v xs) w → List-at k xs w
    at-list n v p h r =
        let wd = number-wide xs o n v p in
        record {
          items = r.items;
          valid = r.valid;
          some = omega (arith, r.many);
          few = omega (arith, r.many, number_small xs o n v p);
          rest = r.rest;
          reads = rw (r.many, append_assoc) (number-sound xs o n v p ∙ ap (λ (l : List ℕ). encode_number n ++ l) r.reads);
          ends = rw r.many (simp length-append (omega (arith, r.ends)));
        }
