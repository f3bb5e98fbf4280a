-- The ways of the code: a law for each way out of a function, on plain values.
use Rattle.std.specs.Prelude.{Ok, Err, Some, None, ℕ, ◌≡◌, List, [], ◌∷◌}
use Rattle.std.proofs.Common.{eq-eqb, ne_eqb}
use Rattle.answers.specs.declared.Refusal.{Refusal}
use Rattle.answers.specs.Verdict.{Answer}
use Rattle.answers.specs.Made.{Made}
use Rattle.table.specs.declared.Columns.{Columns}
use Rattle.book.specs.Judged.{judged_of}
use Rattle.book.specs.declared.Judgement.{Judgement}
use Rattle.lookup.specs.declared.Which.TheVariants.{Header, Number}
use Rattle.lookup.specs.Looked.{Span, Looked}
use Rattle.face_reading.specs.Lent.{place_alone, made_numbers}
use Rattle.face_reading.specs.Judging.{judged_number, judged_numbers, table_of, columns_numbers}
use Rattle.face_reading.specs.Judging.{columns_left}
use Rattle.face_reading.specs.Looking.{which_of, looked_numbers}

-- ---- of calls that make something

pub made-done : (m : Made) (n : ℕ) → m ≡ Ok n → ◌≡◌ {A = List ℕ} (0 ∷ n ∷ []) (made_numbers m)
made-done m n q = rw q

pub made-refused : (m : Made) (r : Refusal) → m ≡ Err r → place_alone 1 r ≡ made_numbers m
made-refused m r q = rw q

-- ---- judging

module _ (a : Answer Judgement) where
  pub judged-good : (j : Judgement) → a ≡ Ok j
      → ◌≡◌ {A = List ℕ} (0 ∷ j.length ∷ j.count ∷ j.head ∷ j.first ∷ j.header.count ∷ j.address.count ∷ [])
      (judged_numbers a)
  unfolding judged_numbers
  judged-good j q = rw q

  pub judged-refused : (r : Refusal) → a ≡ Err r → place_alone 6 r ≡ judged_numbers a
  unfolding judged_numbers
  judged-refused r q = rw q

module _ (xs : List ℕ) (a : Answer Judgement) (q : a ≡ judged_of xs) where
  pub judge-number : (r : ℕ) → r ≡ judged_number a → r ≡ judged_number (judged_of xs)
  judge-number r e = rw (← q) e

  pub judge-numbers : (d : List ℕ) → d ≡ judged_numbers a → d ≡ judged_numbers (judged_of xs)
  judge-numbers d e = rw (← q) e

-- ---- the columns of a table

pub table-header : (j : Judgement) (address : ℕ) → address ≡ 0 → j.header ≡ table_of j address
unfolding table_of
table-header j address e = rw (eq-eqb address 0 e)

pub table-address : (j : Judgement) (address : ℕ) → (address ≡ 0 → ⊥) → j.address ≡ table_of j address
unfolding table_of
table-address j address e = rw (ne_eqb address 0 e)

module _ (xs : List ℕ) (a : Answer Judgement) (q : a ≡ judged_of xs) where
  module _ (j : Judgement) (g : a ≡ Ok j) where
    pub columns-done : 0 ≡ judged_number (judged_of xs)
    columns-done = rw (← q, g)

    module _ (k : ℕ) (t : Columns) (u : t ≡ table_of j k) where
      pub tags-done : (lent : List ℕ) → t.tags ≡ columns_left (judged_of xs) (λ j. (table_of j k).tags) lent
      tags-done lent = rw (← q, g, u)

      pub flags-done : (lent : List ℕ) → t.flags ≡ columns_left (judged_of xs) (λ j. (table_of j k).flags) lent
      flags-done lent = rw (← q, g, u)

      pub count-done : ◌≡◌ {A = List ℕ} (0 ∷ t.count ∷ []) (columns_numbers (judged_of xs) k)
      unfolding columns_numbers
      count-done = rw (← q, g, u)

  module _ (r : Refusal) (g : a ≡ Err r) where
    pub columns-refused : r.number ≡ judged_number (judged_of xs)
    columns-refused = rw (← q, g)

    pub columns-kept : (columns : Judgement → List ℕ) (lent : List ℕ) → lent ≡ columns_left (judged_of xs) columns lent
    columns-kept columns lent = rw (← q, g)

    pub count-refused : (k : ℕ) → place_alone 1 r ≡ columns_numbers (judged_of xs) k
    unfolding columns_numbers
    count-refused k = rw (← q, g)

-- ---- looking up

pub which-header : (k : ℕ) → k ≡ 18446744073709551615 → Header ≡ which_of k
unfolding which_of
which-header k e = rw (eq-eqb k 18446744073709551615 e)

pub which-number : (k : ℕ) → (k ≡ 18446744073709551615 → ⊥) → Number k ≡ which_of k
unfolding which_of
which-number k e = rw (ne_eqb k 18446744073709551615 e)

module _ (l : Looked) where
  module _ (v : Span) (p : l ≡ Ok v) where
    pub looked-at : (s e : ℕ) → v ≡ Some (s, e) → ◌≡◌ {A = List ℕ} (0 ∷ 1 ∷ s ∷ e ∷ []) (looked_numbers l)
    looked-at s e q = rw (p, q)

    pub looked-absent : v ≡ None → ◌≡◌ {A = List ℕ} (0 ∷ 0 ∷ 0 ∷ 0 ∷ []) (looked_numbers l)
    looked-absent q = rw (p, q)

  pub looked-refused : (r : Refusal) → l ≡ Err r → place_alone 3 r ≡ looked_numbers l
  looked-refused r q = rw q
