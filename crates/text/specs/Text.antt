-- How a string is written, the two laws that tie that to `text_of`, and that it holds no 0 in front of its end.
use Rattle.std.specs.Prelude.{ℕ, zero, suc, ◌+◌, ◌-◌, ◌≤◌, ◌≡◌, refl, List, [], ◌∷◌, ◌++◌, length, drop, eqb}
use Rattle.std.proofs.Common.{add-zero, arith, sym, ap, ◌∙◌, append_assoc, length-append, length-drop, lt-ltb, le-ltb, ne_eqb, eqb-true}
use Rattle.std.proofs.Math.Seq.{drop-append_seam}
use Rattle.std.proofs.lemmas.Bool.{eqb-false}
use Rattle.octets.specs.Cases.{split, taken}
use Rattle.octets.specs.Octets.{octet_at}
use Rattle.answers.specs.Walk.{Ends}
use Rattle.answers.specs.Walk.{no_end, break_of, break-either}
use Rattle.text.specs.Narrow.{NoZero}
use Rattle.text.specs.Utf8.{char_width, text_from, text_of}
use Rattle.text.specs.Char.{Scalar, encode_char, char-back, Char, char-sound, first_some}

abbrev pub encode_chars : List ℕ → List ℕ
encode_chars [] = []
encode_chars (n ∷ ns) = encode_char n ++ encode_chars ns

-- the characters, and a 0
abbrev pub encode_text : List ℕ → List ℕ
encode_text ns = encode_chars ns ++ 0 ∷ []

-- each is a character other than 0
abbrev pub Chars : List ℕ → Type 0
Chars [] = Unit {0}
Chars (n ∷ ns) = (1 ≤ n) × Scalar n × Chars ns

-- to pass k octets is to drop them
pub skip : (k i : ℕ) (xs : List ℕ) → text_from k i xs ≡ text_from 0 (i + k) (drop k xs)
unfolding text_from
skip zero i xs = simp add-zero
skip (suc k) i [] = refl
skip (suc k) i (x ∷ xs) =
    let e : i + 1 + k ≡ i + suc k = omega arith in
    rw (← e) (skip k (i + 1) xs)

-- to pass a character
pub step : (i : ℕ) (xs : List ℕ) (k : ℕ) → 1 ≤ octet_at xs 0 → char_width xs 0 ≡ k → (k ≡ 0 → ⊥) → text_from 0 i xs ≡ text_from 0 (i + k) (drop k xs)
unfolding text_from
step i [] k h w z = absurd (omega arith)
step i (x ∷ xs) zero h w z = absurd (z refl)
step i (x ∷ xs) (suc k) h w z =
    let e : suc k - 1 ≡ k = omega arith in
    let e₂ : i + 1 + k ≡ i + suc k = omega arith in
    simp (ne_eqb x 0 (omega arith), w, ne_eqb (suc k) 0 z, e, ← e₂) (skip k (i + 1) xs)

back_from : (i : ℕ) (ns rest : List ℕ) → Chars ns → 1 ≤ i + length ns → text_from 0 i (encode_text ns ++ rest) ≡ Ends (i + length (encode_text ns))
unfolding text_from
back_from i [] rest v h = simp (ne_eqb i 0 (omega arith))
back_from i (n ∷ ns) rest v h =
    let c = encode_char n in
    let more = encode_text ns ++ rest in
    let f = first_some n v.0 more in
    let assoc : encode_text (n ∷ ns) ++ rest ≡ c ++ more = simp append_assoc in
    let pass = step i (c ++ more) (length c) f.0 (char-back n v.1 more) (omega arith) in
    let l : i + length c + length (encode_text ns) ≡ i + length (encode_text (n ∷ ns)) = simp length-append (omega arith) in
    ap (text_from 0 i) assoc ∙ rw drop-append_seam at pass ∙ back_from (i + length c) ns rest v.2 (omega arith) ∙ ap Ends l

pub text-back : (ns rest : List ℕ) → Chars ns → 1 ≤ length ns → text_of (encode_text ns ++ rest) ≡ Ends (length (encode_text ns))
text-back ns rest v h =
    let e : 0 + length (encode_text ns) ≡ length (encode_text ns) = omega arith in
    back_from 0 ns rest v (omega arith) ∙ ap Ends e

-- what a string is that ends at w, where i octets have gone before
pub record Text (i : ℕ) (xs : List ℕ) (w : ℕ) : Type 0 where
  pub codes : List ℕ
  pub chars : Chars codes
  pub some : 1 ≤ i + length codes
  pub rest : List ℕ
  pub reads : xs ≡ encode_text codes ++ rest
  pub ends : w ≡ i + length (encode_text codes)

-- a character, and a string after it
joined : (i : ℕ) (xs : List ℕ) (k w : ℕ) → Char xs k → Text (i + k) (drop k xs) w → Text i xs w
joined i xs k w c r =
    record {
      codes = c.code ∷ r.codes;
      chars = (c.some, c.scalar, r.chars);
      some = omega arith;
      rest = r.rest;
      reads = c.reads ∙ ap (λ (l : List ℕ). encode_char c.code ++ l) r.reads ∙ simp append_assoc;
      ends = simp length-append (omega (arith, simp length-append at r.ends, c.wide));
    }

Sound : ℕ → Type 0
Sound n = (i : ℕ) (xs : List ℕ) → length xs ≤ n → (w : ℕ) → text_from 0 i xs ≡ Ends w → Text i xs w

none : Sound 0
unfolding Sound text_from
none i [] h w e = no_end e
none i (x ∷ xs) h w e = absurd (omega arith)

turn : (n : ℕ) → Sound n → Sound (suc n)
unfolding Sound text_from
turn n ih i [] h w e = no_end e
turn n ih i (x ∷ xs) h w e =
    let k = char_width (x ∷ xs) 0 in
    taken (eqb x 0) _ _ _ e
    (λ t q. taken (eqb i 0) _ _ _ q (λ u q. no_end q)
    (λ u q. let z : i + 1 ≡ w = cc in
    let nz = eqb-false i 0 u in
    record { codes = []; chars = tt; some = omega arith; rest = xs; reads = rw (eqb-true x 0 t); ends = omega arith }))
    (λ t q. let nx = eqb-false x 0 t in taken (eqb k 0) _ _ _ q (λ u q. no_end q)
    (λ u q. let nk = eqb-false k 0 u in
    joined i (x ∷ xs) k w (char-sound (x ∷ xs) k (omega arith) refl nk)
    (ih (i + k) (drop k (x ∷ xs)) (simp length-drop (omega arith)) w (sym (step i (x ∷ xs) k (omega arith) refl nk) ∙ e))))

sound-from : (n : ℕ) → Sound n
sound-from zero = none
sound-from (suc n) = turn n (sound-from n)

pub text-sound : (xs : List ℕ) (w : ℕ) → text_of xs ≡ Ends w → Text 0 xs w
unfolding Sound
text-sound xs w e = sound-from (length xs) 0 xs (omega arith) w e

-- a string that is read stands in the list
pub text-within : (xs : List ℕ) (w : ℕ) → text_of xs ≡ Ends w → w ≤ length xs
text-within xs w e =
    let t = text-sound xs w e in
    let l = length-append (encode_text t.codes) t.rest in
    omega (arith, ap length t.reads, l, t.ends)

-- a string that breaks its form is at fault at its start
breaks-from : (k i : ℕ) (xs : List ℕ) → break_of (text_from k i xs) ≡ 0
unfolding text_from
breaks-from zero i [] = refl
breaks-from (suc k) i [] = refl
breaks-from (suc k) i (x ∷ xs) = breaks-from k (i + 1) xs
breaks-from zero i (x ∷ xs) =
    break-either (eqb x 0) _ _ (break-either (eqb i 0) _ _ refl refl)
    (break-either (eqb (char_width (x ∷ xs) 0) 0) _ _ refl (breaks-from (char_width (x ∷ xs) 0 - 1) (i + 1) xs))

pub text-breaks : (xs : List ℕ) → break_of (text_of xs) ≡ 0
text-breaks xs = breaks-from 0 0 xs

-- ---- characters other than 0 have octets, and none of them is 0

char-no_zero : (n : ℕ) → 1 ≤ n → NoZero (encode_char n)
unfolding encode_char
char-no_zero n h =
    split n 128 (λ i. simp (lt-ltb n 128 i) ((λ z. omega arith), tt))
    (λ i. split n 2048 (λ j. simp (le-ltb n 128 i, lt-ltb n 2048 j) ((λ z. omega arith), ((λ z. omega arith), tt)))
    (λ j. split n 65536
    (λ k. simp (le-ltb n 128 i, le-ltb n 2048 j, lt-ltb n 65536 k)
    ((λ z. omega arith), ((λ z. omega arith), ((λ z. omega arith), tt))))
    (λ k. simp (le-ltb n 128 i, le-ltb n 2048 j, le-ltb n 65536 k)
    ((λ z. omega arith), ((λ z. omega arith), ((λ z. omega arith), ((λ z. omega arith), tt)))))))

no_zero-append : (s t : List ℕ) → NoZero s → NoZero t → NoZero (s ++ t)
no_zero-append [] t h k = k
no_zero-append (x ∷ s) t h k = (h.0, no_zero-append s t h.1 k)

pub chars-no_zero : (ns : List ℕ) → Chars ns → NoZero (encode_chars ns)
chars-no_zero [] h = tt
chars-no_zero (n ∷ ns) h =
    no_zero-append (encode_char n) (encode_chars ns) (char-no_zero n h.0) (chars-no_zero ns h.2)

pub chars-some : (ns : List ℕ) → Chars ns → 1 ≤ length ns → 1 ≤ length (encode_chars ns)
chars-some [] c h = absurd (omega arith)
chars-some (n ∷ ns) c h =
    let l = (first_some n c.0 []).1 in
    rw (length-append (encode_char n) (encode_chars ns)) (omega arith)
