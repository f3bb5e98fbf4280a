-- Which first lines are taken (request 106): exactly those of 1 to 16 tags, each of eight upper-case digits of base 16,
-- in quotes or not; and the tags are what the digits say. Assumes nothing.
use Rattle.std.specs.Prelude.{ℕ, zero, suc, ◌+◌, ◌-◌, ◌*◌, ◌/◌, ◌%◌, ◌^◌, ◌≤◌, ◌<◌, ◌≡◌, Bool, true, length}
use Rattle.std.proofs.Common.{add-zero, zero-add, pow-suc, add-one, arith, sym, ap₂, ◌∙◌, length-append, lt-ltb, le-ltb, le-leb}
use Rattle.std.proofs.Math.Path.{refl, ap}
use Rattle.std.proofs.Math.Bool.{false}
use mathlib.Core.List.{List, [], ◌∷◌, ◌++◌, append_assoc, append-nil}
use Rattle.std.proofs.Math.Seq.{append_snoc}
use Rattle.std.proofs.lemmas.Bool.{lt-leb}
use Rattle.octets.specs.Cases.{split, taken}
use Rattle.entry.specs.Record.{unlike}
use Rattle.sheet.specs.Digits.{digit_of, digits_of, digits_long}
use Rattle.sheet.specs.Field.{quote, comma, cr, lf, is_mark, marked, doubled, quoted, line_of}
use Rattle.sheet.specs.Field.{tag_field, tag_fields}
use Rattle.sheet.specs.Marks.{mark-quote, digits-plain, doubled-other}
use Rattle.sheet.specs.Back.{Spells, plainly, in_quotes, AllSpelt}
use Rattle.scanning.specs.declared.Stand.TheVariants.{InTag, Behind}
use Rattle.scanning.specs.First.{most_tags, Words, IsFirst, digit_in, next_end, next_quote, next_tag, next_of}
use Rattle.scanning.specs.First.{tags_to, head_from, head_in}
use Rattle.scanning.specs.FirstKept.{room}

-- ---- digits

digit-out : (d : ℕ) → d < 16 → digit_in (digit_of d) ≡ d
unfolding digit_in digit_of
digit-out d h =
    split d 10
    (λ l. let e : 48 + d - 48 ≡ d = omega arith in
    rw (lt-ltb d 10 l, le-ltb (48 + d) 48 (omega arith), le-leb (48 + d) 57 (omega arith)) e)
    (λ l. let e : 55 + d - 55 ≡ d = omega arith in
    rw (
      le-ltb d 10 l,
      le-ltb (55 + d) 48 (omega arith),
      lt-leb (55 + d) 57 (omega arith),
      le-ltb (55 + d) 65 (omega arith),
      le-leb (55 + d) 70 (omega arith),
    ) e)

digit-back : (x : ℕ) → digit_in x < 16 → digit_of (digit_in x) ≡ x
unfolding digit_in digit_of
digit-back x h =
    split x 48 (λ l. absurd (let z = rw (lt-ltb x 48 l) at h in omega arith))
    (λ l. split 57 x
    (λ m. split x 65 (λ n. absurd (let z = rw (le-ltb x 48 l, lt-leb x 57 m, lt-ltb x 65 n) at h in omega arith))
    (λ n. split 70 x
    (λ o. absurd (let z = rw (le-ltb x 48 l, lt-leb x 57 m, le-ltb x 65 n, lt-leb x 70 o) at h in omega arith))
    (λ o. rw (le-ltb x 48 l, lt-leb x 57 m, le-ltb x 65 n, le-leb x 70 o, le-ltb (x - 55) 10 (omega arith))
    (omega arith))))
    (λ m. rw (le-ltb x 48 l, le-leb x 57 m, lt-ltb (x - 48) 10 (omega arith)) (omega arith)))

-- what digits say, behind others that say a
abbrev pub hex_from : ℕ → List ℕ → ℕ
hex_from a [] = a
hex_from a (x ∷ xs) = hex_from (a * 16 + digit_in x) xs

abbrev pub AllHex : List ℕ → Type 0
AllHex [] = Unit {0}
AllHex (x ∷ xs) = (digit_in x < 16) × AllHex xs

pub hex-small : (k a : ℕ) (ds : List ℕ) → AllHex ds → a < 16 ^ k → hex_from a ds < 16 ^ (k + length ds)
hex-small k a [] h l = rw (add-zero k) l
hex-small k a (x ∷ ds) h l =
    let p = pow-suc 16 k in
    let z = h.0 in
    let e : suc k + length ds ≡ k + suc (length ds) = omega arith in
    rw (← e) (hex-small (suc k) (a * 16 + digit_in x) ds h.1 (omega arith))

last-digit : (k a x : ℕ) → digit_in x < 16 → digits_of 16 (suc k) (a * 16 + digit_in x) ≡ digits_of 16 k a ++ (x ∷ [])
unfolding digits_of
last-digit k a x h =
    let p : (a * 16 + digit_in x) / 16 ≡ a = omega arith in
    let q : (a * 16 + digit_in x) % 16 ≡ digit_in x = omega arith in
    rw (p, q, digit-back x h)

-- digits are those of what they say
pub hex-digits : (k a : ℕ) (ds : List ℕ) → AllHex ds
    → digits_of 16 (k + length ds) (hex_from a ds) ≡ digits_of 16 k a ++ ds
hex-digits k a [] h = rw (add-zero k) (sym (append-nil (digits_of 16 k a)))
hex-digits k a (x ∷ ds) h =
    let e : suc k + length ds ≡ k + suc (length ds) = omega arith in
    rw (← e) (hex-digits (suc k) (a * 16 + digit_in x) ds h.1
    ∙ ap (λ (l : List ℕ). l ++ ds) (last-digit k a x h.0) ∙ append_snoc (digits_of 16 k a) x ds)

-- ---- what is spelt so is taken

plain-doubled : (t : List ℕ) → marked t ≡ false → doubled t ≡ t
unfolding marked doubled
plain-doubled [] m = refl
plain-doubled (x ∷ t) m =
    taken (is_mark x) _ _ _ m (λ p q. unlike (sym q))
    (λ p q. doubled-other x t (λ z. unlike (sym p ∙ ap is_mark z ∙ mark-quote))
    ∙ ap (λ (l : List ℕ). x ∷ l) (plain-doubled t q))

pub tag-plain : (t : ℕ) → marked (tag_field t) ≡ false
tag-plain t = digits-plain 16 8 t (omega arith) (omega arith)

digit-read : (q : Bool) (d a : ℕ) (ts : List ℕ) (i n : ℕ) (xs : List ℕ) → d < 8 → n < 16 → a < 16 ^ d
    → head_from (InTag q d) a ts i (digit_of n ∷ xs) ≡ head_from (InTag q (d + 1)) (a * 16 + n) ts (i + 1) xs
unfolding head_from next_of next_tag
digit-read q d a ts i n xs h l k = rw (lt-ltb d 8 h, digit-out n l, lt-ltb n 16 l, room d a h k)

digits-read : (k : ℕ) (q : Bool) (ts : List ℕ) (i n : ℕ) (xs : List ℕ) → k ≤ 8 → n < 16 ^ k
    → head_from (InTag q 0) 0 ts i (digits_of 16 k n ++ xs) ≡ head_from (InTag q k) n ts (i + k) xs
unfolding digits_of
digits-read zero q ts i n xs h l = let z : n ≡ 0 = omega arith in rw (z, add-zero i)
digits-read (suc k) q ts i n xs h l =
    let p = pow-suc 16 k in
    let w : i + k + 1 ≡ i + suc k = omega arith in
    let v : n / 16 * 16 + n % 16 ≡ n = omega arith in
    ap (head_from (InTag q 0) 0 ts i) (append_assoc (digits_of 16 k (n / 16)) (digit_of (n % 16) ∷ []) xs)
    ∙ digits-read k q ts i (n / 16) (digit_of (n % 16) ∷ xs) (omega arith) (omega arith)
    ∙ digit-read q k (n / 16) ts (i + k) (n % 16) xs (omega arith) (omega arith) (omega arith)
    ∙ rw (add-one k, w, v)

module _ (t : ℕ) (ts : List ℕ) (i : ℕ) (xs : List ℕ) where
  open-read : head_from (InTag false 0) 0 ts i (quote ∷ xs) ≡ head_from (InTag true 0) 0 ts (i + 1) xs
  unfolding head_from next_of next_tag next_quote digit_in
  open-read = refl

  close-read : head_from (InTag true 8) t ts i (quote ∷ xs) ≡ head_from Behind t ts (i + 1) xs
  unfolding head_from next_of next_tag
  close-read = refl

  -- behind eight digits without quotes it stands as behind the quote
  same_read : head_from (InTag false 8) t ts i xs ≡ head_from Behind t ts i xs
  unfolding head_from next_of next_tag
  same_read = go xs
    where
      go : (ys : List ℕ) → head_from (InTag false 8) t ts i ys ≡ head_from Behind t ts i ys
      go [] = refl
      go (y ∷ ys) = refl

  end_read : head_from Behind t ts i (cr ∷ lf ∷ xs) ≡ tags_to (ts ++ (t ∷ [])) (i + 2)
  unfolding head_from next_of next_end
  end_read = ap (tags_to (ts ++ (t ∷ []))) (omega arith)

  comma-read : length ts + 1 < most_tags
      → head_from Behind t ts i (comma ∷ xs) ≡ head_from (InTag false 0) 0 (ts ++ (t ∷ [])) (i + 1) xs
  unfolding head_from next_of next_end
  comma-read h = rw (lt-ltb (length ts + 1) most_tags h)

pub quoted-tag : (t : ℕ) (xs : List ℕ) → quoted (tag_field t) ++ xs ≡ quote ∷ (tag_field t ++ (quote ∷ xs))
unfolding quoted
quoted-tag t xs =
    rw (plain-doubled (tag_field t) (tag-plain t))
    (ap (λ (l : List ℕ). quote ∷ l) (append_snoc (tag_field t) quote xs))

quoted-wide : (t : ℕ) → length (quoted (tag_field t)) ≡ 10
unfolding quoted
quoted-wide t =
    let l = digits_long 16 8 t in
    let m = length-append (tag_field t) (quote ∷ []) in
    rw (plain-doubled (tag_field t) (tag-plain t)) (omega arith)

tag_read : (t : ℕ) (f ts : List ℕ) (i : ℕ) (xs : List ℕ) → t < 2 ^ 32 → Spells (tag_field t) f
    → head_from (InTag false 0) 0 ts i (f ++ xs) ≡ head_from Behind t ts (i + length f) xs
tag_read t f ts i xs h (plainly e m) =
    rw (e, digits_long 16 8 t) (digits-read 8 false ts i t xs (omega arith) (omega arith) ∙ same_read t ts (i + 8) xs)
tag_read t f ts i xs h (in_quotes e) =
    let n : i + 1 + 8 + 1 ≡ i + 10 = omega arith in
    rw (e, quoted-wide t)
    (ap (head_from (InTag false 0) 0 ts i) (quoted-tag t xs)
    ∙ open-read t ts i (tag_field t ++ (quote ∷ xs))
    ∙ digits-read 8 true ts (i + 1) t (quote ∷ xs) (omega arith) (omega arith)
    ∙ close-read t ts (i + 1 + 8) xs ∙ ap (λ (k : ℕ). head_from Behind t ts k xs) n)

line_read : (t : ℕ) (us ts : List ℕ) (fs : List (List ℕ)) (i : ℕ) (more : List ℕ) → AllSpelt (tag_fields (t ∷ us)) fs
    → Words (t ∷ us) → length ts + length (t ∷ us) ≤ most_tags
    → head_from (InTag false 0) 0 ts i (line_of fs ++ more) ≡ tags_to (ts ++ (t ∷ us)) (i + length (line_of fs))
unfolding line_of
line_read t us ts [] i more s w l = absurd s
line_read t [] ts (f ∷ []) i more s w l =
    let m : i + length f + 2 ≡ i + length (f ++ (cr ∷ lf ∷ [])) =
    rw (length-append f (cr ∷ lf ∷ [])) (omega arith) in
    ap (head_from (InTag false 0) 0 ts i) (append_assoc f (cr ∷ lf ∷ []) more)
    ∙ tag_read t f ts i (cr ∷ lf ∷ more) w.0 s.0 ∙ end_read t ts (i + length f) more
    ∙ ap (tags_to (ts ++ (t ∷ []))) m
line_read t [] ts (f ∷ g ∷ fs) i more s w l = absurd s.1
line_read t (u ∷ us) ts (f ∷ []) i more s w l = absurd s.1
line_read t (u ∷ us) ts (f ∷ g ∷ fs) i more s w l =
    let n = length-append ts (t ∷ []) in
    let m : i + length f + 1 + length (line_of (g ∷ fs)) ≡ i + length (f ++ (comma ∷ line_of (g ∷ fs))) =
    rw (length-append f (comma ∷ line_of (g ∷ fs))) (omega arith) in
    ap (head_from (InTag false 0) 0 ts i) (append_assoc f (comma ∷ line_of (g ∷ fs)) more)
    ∙ tag_read t f ts i (comma ∷ (line_of (g ∷ fs) ++ more)) w.0 s.0
    ∙ comma-read t ts (i + length f) (line_of (g ∷ fs) ++ more) (omega arith)
    ∙ line_read u us (ts ++ (t ∷ [])) (g ∷ fs) (i + length f + 1) more s.1 w.1 (omega arith)
    ∙ ap₂ tags_to (append_snoc ts t (u ∷ us)) m

pub first_taken : (us line rest : List ℕ) → IsFirst us line → head_in (line ++ rest) ≡ tags_to us (length line)
first_taken [] line rest h = absurd (omega (arith, h.some))
first_taken (u ∷ us) line rest h =
    rw h.reads
    (line_read u us [] h.fields 0 rest h.spelt h.words (omega (arith, h.few))
    ∙ ap (tags_to (u ∷ us)) (zero-add (length (line_of h.fields))))

-- the first line of an exported sheet gives its tags
pub head-back : (tags rest : List ℕ) → Words tags → 1 ≤ length tags → length tags ≤ most_tags
    → head_in (line_of (tag_fields tags) ++ rest) ≡ tags_to tags (length (line_of (tag_fields tags)))
head-back tags rest w h k =
    first_taken tags (line_of (tag_fields tags)) rest
    (record { some = h; few = k; words = w; fields = tag_fields tags; spelt = all tags; reads = refl })
  where
    all : (us : List ℕ) → AllSpelt (tag_fields us) (tag_fields us)
    all [] = tt
    all (u ∷ us) = (plainly refl (tag-plain u), all us)
