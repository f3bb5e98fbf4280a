-- The octets that something takes which is handed over, 0 where it breaks its form: so one number says what a call has to judge. The ways of the code that
-- computes it, by the number of a form, and of the code that stores the octets.
use Rattle.std.specs.Prelude.{ℕ, zero, suc, ◌+◌, ◌-◌, ◌≤◌, ◌<◌, ◌≡◌, Bool, not, List, [], ◌∷◌, ◌++◌, ltb, eqb}
use Rattle.std.proofs.Common.{arith, ap, ◌∙◌}
use Rattle.std.proofs.Math.Path.{refl}
use Rattle.std.proofs.Math.Bool.{true, false, cond}
use Rattle.std.proofs.Math.ListN.{length, length-append}
use borrow.Author.Tests.{lt-ltb, le-ltb, eq-eqb, ne_eqb}
use Rattle.octets.specs.Cases.{split}
use Rattle.octets.specs.Splice.{stored, stored-join}
use Rattle.octets.specs.Word.{le_of}
use Rattle.answers.specs.Numbers.{out_of_turn, breaks_form}
use Rattle.answers.specs.Verdict.{Verdict}
use Rattle.answers.specs.Verdict.{◌then◌, need}
use Rattle.answers.specs.Walk.{ends_at}
use Rattle.whole.specs.Number.{encode_number}
use Rattle.text.specs.Narrow.{narrow_of}
use Rattle.text.specs.Utf8.{text_of}
use Rattle.value.specs.Types.{Kind, number, truth, narrow, text, binary, Form, kind_number, kind_at}
use Rattle.value.specs.Types.{form_at, list_form, forms_end, unknown_form}
use Rattle.writing.specs.declared.Writing.{Writing}
use Rattle.writing.specs.State.{within_of, room_at}
use Rattle.writing.specs.Column.{column_for}
use Rattle.table.specs.Found.{is_found}
use Rattle.giving.specs.Give.{Given, Number, Truth, Octets, Count, is_one, octets_of, octets_formed, formed}
use Rattle.giving.specs.Give.{octets_for, element_form}

abbrev pub size_of : Form → Given → ℕ
size_of f v = cond (formed f v) (length (octets_for f v)) 0

-- octets with their length before them
abbrev pub binary_size : ℕ → ℕ
binary_size n = cond (eqb n 0) 0 (cond (ltb n 4294967296) (length (encode_number n) + n) 0)

-- k octets behind w in a buffer of n: the form, then the room
unfoldable pub sized_at : ℕ → ℕ → ℕ → Verdict
sized_at w n k = need (not (eqb k 0)) breaks_form 0 then room_at w n k

-- as a value, and as an element
unfoldable pub placed_at : Writing → List ℕ → ℕ → ℕ → Verdict
placed_at st d tag k = need (is_found (column_for st d tag)) out_of_turn 0 then sized_at st.written (length d) k

unfoldable pub added_at : Writing → ℕ → ℕ → Verdict
added_at st n k =
    need (within_of st n) out_of_turn 0
    then need (not (eqb st.left 0)) out_of_turn 0
    then sized_at st.written n k

-- ---- something always takes an octet

some-either : (t : Bool) (a b : List ℕ) → 1 ≤ length a → 1 ≤ length b → 1 ≤ length (cond t a b)
some-either true a b p q = p
some-either false a b p q = q

number-some : (x : ℕ) → 1 ≤ length (encode_number x)
unfolding encode_number
number-some x = some-either (ltb x 128) _ _ (omega arith) (omega arith)

-- octets more than their own number
pub octets-long : (f : Form) (s : List ℕ) → length s + 1 ≤ length (octets_for f (Octets s))
octets-long f s = go (is_one binary f)
  where
    go : (b : Bool) → length s + 1 ≤ length (cond b (encode_number (length s) ++ s) (s ++ (0 ∷ [])))
    go true = rw (length-append (encode_number (length s)) s) (omega (arith, number-some (length s)))
    go false = rw (length-append s (0 ∷ [])) (omega arith)

given-some : (f : Form) (v : Given) → 1 ≤ length (octets_for f v)
given-some f (Number x) = number-some x
given-some f (Truth b) = omega arith
given-some f (Octets s) = omega (arith, octets-long f s)
given-some f (Count n) = number-some n

-- so the size tells the form
pub sized : (f : Form) (v : Given) (w n : ℕ) → sized_at w n (size_of f v) ≡ (need (formed f v) breaks_form 0 then room_at w n (length (octets_for f v)))
unfolding sized_at
sized f v w n = go (formed f v)
  where
    go : (b : Bool) → (need (not (eqb (cond b (length (octets_for f v)) 0) 0)) breaks_form 0 then room_at w n (cond b (length (octets_for f v)) 0)) ≡ (need b breaks_form 0 then room_at w n (length (octets_for f v)))
    go true = rw (ne_eqb (length (octets_for f v)) 0 (λ e. omega (arith, given-some f v)))
    go false = refl

-- ---- forms by their numbers

kind-number : (n : ℕ) → n < list_form → kind_number (kind_at n) ≡ n
kind-number zero h = refl
kind-number (suc zero) h = refl
kind-number (suc (suc zero)) h = refl
kind-number (suc (suc (suc zero))) h = refl
kind-number (suc (suc (suc (suc zero)))) h = refl
kind-number (suc (suc (suc (suc (suc n))))) h = absurd (omega arith)

kind-few : (k : Kind) → kind_number k < list_form
kind-few number = omega arith
kind-few truth = omega arith
kind-few narrow = omega arith
kind-few text = omega arith
kind-few binary = omega arith

one_at : (k : Kind) (n : ℕ) → is_one k (form_at n) ≡ eqb n (kind_number k)
unfolding form_at
one_at k n =
    let m = kind-few k in
    split n list_form (λ i. rw (lt-ltb n list_form i, kind-number n i))
    (λ i. split n forms_end
    (λ j. rw (le-ltb n list_form i, lt-ltb n forms_end j, ne_eqb n (kind_number k) (λ e. omega arith)))
    (λ j. rw (le-ltb n list_form i, le-ltb n forms_end j, ne_eqb n (kind_number k) (λ e. omega arith))))

octets-other : (n : ℕ) (s : List ℕ) → (n ≡ kind_number narrow → ⊥) → (n ≡ kind_number text → ⊥)
    → (n ≡ kind_number binary → ⊥) → octets_formed (form_at n) s ≡ false
unfolding form_at
octets-other n s h₃ h₄ h₅ =
    split n list_form (λ i. rw (lt-ltb n list_form i) (go n i h₃ h₄ h₅))
    (λ i. split n forms_end (λ j. rw (le-ltb n list_form i, lt-ltb n forms_end j))
    (λ j. rw (le-ltb n list_form i, le-ltb n forms_end j)))
  where
    go : (n : ℕ) → n < list_form → (n ≡ kind_number narrow → ⊥) → (n ≡ kind_number text → ⊥)
        → (n ≡ kind_number binary → ⊥) → octets_of (kind_at n) s ≡ false
    go zero l h₃ h₄ h₅ = refl
    go (suc zero) l h₃ h₄ h₅ = refl
    go (suc (suc zero)) l h₃ h₄ h₅ = absurd (h₃ refl)
    go (suc (suc (suc zero))) l h₃ h₄ h₅ = absurd (h₄ refl)
    go (suc (suc (suc (suc zero)))) l h₃ h₄ h₅ = absurd (h₅ refl)
    go (suc (suc (suc (suc (suc n))))) l h₃ h₄ h₅ = absurd (omega arith)

-- ---- the ways of the sizes

module _ (f : ℕ) where
  pub element-single : f < list_form → form_at unknown_form ≡ element_form (form_at f)
  unfolding form_at
  element-single h = rw (lt-ltb f list_form h)

  pub element-list : list_form ≤ f → f < forms_end → form_at (f - list_form) ≡ element_form (form_at f)
  unfolding form_at
  element-list h i = rw (le-ltb f list_form h, lt-ltb f forms_end i, lt-ltb (f - list_form) list_form (omega arith))

  pub element-none : list_form ≤ f → forms_end ≤ f → form_at unknown_form ≡ element_form (form_at f)
  unfolding form_at
  element-none h i = rw (le-ltb f list_form h, le-ltb f forms_end i)

  pub size_number : (k x : ℕ) → f ≡ kind_number number → k ≡ length (encode_number x) → k ≡ size_of (form_at f) (Number x)
  size_number k x e q = rw (one_at number f, eq-eqb f (kind_number number) e) q

  pub size-no-number : (x : ℕ) → (f ≡ kind_number number → ⊥) → 0 ≡ size_of (form_at f) (Number x)
  size-no-number x e = rw (one_at number f, ne_eqb f (kind_number number) e)

  pub size-truth : f ≡ kind_number truth → 1 ≡ size_of (form_at f) (Truth true)
  size-truth e = rw (one_at truth f, eq-eqb f (kind_number truth) e)

  pub size-no-truth : (f ≡ kind_number truth → ⊥) → 0 ≡ size_of (form_at f) (Truth true)
  size-no-truth e = rw (one_at truth f, ne_eqb f (kind_number truth) e)

  module _ (n : ℕ) where
    pub size-count-none : n ≡ 0 → 0 ≡ size_of (form_at f) (Count n)
    size-count-none e = rw (eq-eqb n 0 e)

    module _ (h : n ≡ 0 → ⊥) where
      pub size-count-one : f < list_form → 0 ≡ size_of (form_at f) (Count n)
      unfolding form_at
      size-count-one i = rw (ne_eqb n 0 h, lt-ltb f list_form i)

      pub size-count : (k : ℕ) → list_form ≤ f → f < forms_end → k ≡ length (encode_number n)
          → k ≡ size_of (form_at f) (Count n)
      unfolding form_at
      size-count k i j q = rw (ne_eqb n 0 h, le-ltb f list_form i, lt-ltb f forms_end j) q

      pub size-count-unknown : list_form ≤ f → forms_end ≤ f → 0 ≡ size_of (form_at f) (Count n)
      unfolding form_at
      size-count-unknown i j = rw (ne_eqb n 0 h, le-ltb f list_form i, le-ltb f forms_end j)

  module _ (s : List ℕ) (k : ℕ) where
    pub size-narrow : (b : Bool) → f ≡ kind_number narrow → b ≡ ends_at (narrow_of (s ++ (0 ∷ []))) (length s + 1)
        → k ≡ cond b (length s + 1) 0 → k ≡ size_of (form_at f) (Octets s)
    unfolding form_at
    size-narrow b e p q = rw (e, ← p, length-append s (0 ∷ [])) q

    pub size-text : (b : Bool) → f ≡ kind_number text → b ≡ ends_at (text_of (s ++ (0 ∷ []))) (length s + 1)
        → k ≡ cond b (length s + 1) 0 → k ≡ size_of (form_at f) (Octets s)
    unfolding form_at
    size-text b e p q = rw (e, ← p, length-append s (0 ∷ [])) q

    pub size-binary : f ≡ kind_number binary → k ≡ binary_size (length s) → k ≡ size_of (form_at f) (Octets s)
    unfolding form_at
    size-binary e q = q ∙ rw (e, length-append (encode_number (length s)) s) (go (eqb (length s) 0) (ltb (length s) 4294967296))
      where
        go : (a b : Bool) → cond a 0 (cond b (length (encode_number (length s)) + length s) 0) ≡ cond (cond a false b) (length (encode_number (length s)) + length s) 0
        go true b = refl
        go false true = refl
        go false false = refl

  pub size-other : (s : List ℕ) → (f ≡ kind_number narrow → ⊥) → (f ≡ kind_number text → ⊥) → (f ≡ kind_number binary → ⊥)
      → 0 ≡ size_of (form_at f) (Octets s)
  size-other s h₃ h₄ h₅ = rw (octets-other f s h₃ h₄ h₅)

pub ruleset elements = (element-single, element-list, element-none)

pub ruleset sizes = (size_number, size-no-number, size-truth, size-no-truth, size-count-none, size-count-one, size-count, size-count-unknown)

pub ruleset octet_sizes = (size-narrow, size-text, size-binary, size-other)

pub string-some : (n : ℕ) (b : Bool) → b ≡ true → n + 1 ≡ cond b (n + 1) 0
string-some n b e = rw e

pub binary-none : (n : ℕ) → n ≡ 0 → 0 ≡ binary_size n
binary-none n e = rw (eq-eqb n 0 e)

module _ (n : ℕ) (h : n ≡ 0 → ⊥) where
  pub binary-some : (k : ℕ) → n < 4294967296 → k ≡ length (encode_number n) → k + n ≡ binary_size n
  binary-some k i q = rw (ne_eqb n 0 h, lt-ltb n 4294967296 i, q)

  pub binary-over : 4294967296 ≤ n → 0 ≡ binary_size n
  binary-over i = rw (ne_eqb n 0 h, le-ltb n 4294967296 i)

pub ruleset binaries = (binary-none, binary-some, binary-over)

-- ---- the ways of the stores

module _ (d : List ℕ) (i : ℕ) (b : Bool) (l : List ℕ) where
  pub put-yes : b ≡ true → l ≡ stored d i (le_of 1 1) → l ≡ stored d i (cond b 1 0 ∷ [])
  put-yes e q = rw e q

  pub put-no : b ≡ false → l ≡ stored d i (le_of 1 0) → l ≡ stored d i (cond b 1 0 ∷ [])
  put-no e q = rw e q

pub ruleset truths = (put-yes, put-no)

module _ (f : ℕ) (s : List ℕ) where
  pub binary-octets : f ≡ kind_number binary → octets_for (form_at f) (Octets s) ≡ encode_number (length s) ++ s
  binary-octets e = rw (one_at binary f, eq-eqb f (kind_number binary) e)

  pub string-octets : (f ≡ kind_number binary → ⊥) → octets_for (form_at f) (Octets s) ≡ s ++ (0 ∷ [])
  string-octets e = rw (one_at binary f, ne_eqb f (kind_number binary) e)

  pub binary-length : f ≡ kind_number binary
      → length (octets_for (form_at f) (Octets s)) ≡ length (encode_number (length s)) + length s
  binary-length e = ap length (binary-octets e) ∙ length-append (encode_number (length s)) s

  pub string-length : (f ≡ kind_number binary → ⊥) → length (octets_for (form_at f) (Octets s)) ≡ length s + 1
  string-length e = ap length (string-octets e) ∙ length-append s (0 ∷ [])

  module _ (d m l : List ℕ) (i : ℕ) (h : i + length (octets_for (form_at f) (Octets s)) ≤ length d) where
    pub put-binary : (k : ℕ) → f ≡ kind_number binary → m ≡ stored d i (encode_number (length s))
        → k ≡ length (encode_number (length s)) → l ≡ stored m (i + k) s
        → l ≡ stored d i (octets_for (form_at f) (Octets s))
    put-binary k e p w q =
        let n = binary-length e in
        rw (q, p, w, binary-octets e) (stored-join d (encode_number (length s)) s i (i + length (encode_number (length s))) refl (omega arith))

    pub put-string : (f ≡ kind_number binary → ⊥) → m ≡ stored d i s → l ≡ stored m (i + length s) (le_of 1 0)
        → l ≡ stored d i (octets_for (form_at f) (Octets s))
    put-string e p q =
        let n = string-length e in
        rw (q, p, string-octets e) (stored-join d s (0 ∷ []) i (i + length s) refl (omega arith))

pub ruleset strings = (put-binary, put-string)
