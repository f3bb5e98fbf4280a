-- What a field in quotes holds can be judged where it stands: quotes written twice make no number larger, since a
-- number has none, and no UTF-8 wrong.
use Rattle.std.specs.Prelude.{ℕ, ◌+◌, ◌-◌, ◌≤◌, ◌≡◌, refl, Bool, true, false, cond, List, [], ◌∷◌, ◌++◌, eqb, length, take, drop}
use Rattle.std.proofs.Common.{arith, sym, ap, ap₂, ◌∙◌, append_assoc, append-nil, length-append, take_at, lt-ltb, le-ltb, eq-eqb, ne_eqb, eqb-true}
use Rattle.std.proofs.Math.Decide.{ℕ_discrete}
use Rattle.std.proofs.lemmas.Bool.{eqb-false}
use Rattle.octets.specs.Cases.{split, taken}
use Rattle.octets.specs.Octets.{octet_at, same-front, no-octets}
use Rattle.answers.specs.Walk.{Walk}
use Rattle.answers.specs.Walk.{Ends as WalkEnds, Broken as WalkBroken}
use Rattle.answers.specs.Walk.{ends_at}
use Rattle.text.specs.Char.{Scalar, encode_char, first_some}
use Rattle.text.specs.Utf8.{text_of}
use Rattle.text.specs.Text.{encode_chars, encode_text, Chars, text-back, text-sound}
use Rattle.entry.specs.Record.{unlike}
use Rattle.sheet.specs.Field.{quote, numbers, texts, is_mark, marked, doubled, quoted}
use Rattle.sheet.specs.Marks.{doubled-quote, doubled-other}
use Rattle.sheet.specs.Back.{Spells, plainly, in_quotes}
use Rattle.scanning.specs.declared.Fill.{Fill}
use Rattle.scanning.specs.declared.Fill.TheVariants.{Nothing}
use Rattle.scanning.specs.Steps.{spells, is_all, filled, takes, holds}
use Rattle.scanning.specs.Scan.{fits}

-- what stands between a field's quotes, where it has them
unfoldable pub inner_of : List ℕ → List ℕ
inner_of f = cond (eqb (octet_at f 0) quote) (take (length f - 2) (drop 1 f)) f

-- ---- octets without a quote

NoQuote : List ℕ → Type 0
NoQuote [] = Unit {0}
NoQuote (x ∷ xs) = (x ≡ quote → ⊥) × NoQuote xs

doubled-none : doubled [] ≡ []
unfolding doubled
doubled-none = refl

doubled-same : (t : List ℕ) → NoQuote t → doubled t ≡ t
unfolding NoQuote
doubled-same [] h = doubled-none
doubled-same (x ∷ t) h = doubled-other x t h.0 ∙ ap (λ (l : List ℕ). x ∷ l) (doubled-same t h.1)

doubled-append : (s t : List ℕ) → doubled (s ++ t) ≡ doubled s ++ doubled t
unfolding doubled
doubled-append [] t = refl
doubled-append (x ∷ s) t =
    ap (λ (l : List ℕ). cond (eqb x quote) (quote ∷ quote ∷ []) (x ∷ []) ++ l) (doubled-append s t)
    ∙ sym (append_assoc (cond (eqb x quote) (quote ∷ quote ∷ []) (x ∷ [])) (doubled s) (doubled t))

-- ---- characters

char-quote : encode_char quote ≡ quote ∷ []
unfolding encode_char
char-quote = refl

char-other : (n : ℕ) → (n ≡ quote → ⊥) → NoQuote (encode_char n)
unfolding encode_char NoQuote
char-other n h =
    split n 128 (λ i. simp (lt-ltb n 128 i) (h, tt))
    (λ i. split n 2048 (λ j. simp (le-ltb n 128 i, lt-ltb n 2048 j) ((λ z. omega arith), ((λ z. omega arith), tt)))
    (λ j. split n 65536
    (λ k. simp (le-ltb n 128 i, le-ltb n 2048 j, lt-ltb n 65536 k)
    ((λ z. omega arith), ((λ z. omega arith), ((λ z. omega arith), tt))))
    (λ k. simp (le-ltb n 128 i, le-ltb n 2048 j, le-ltb n 65536 k)
    ((λ z. omega arith), ((λ z. omega arith), ((λ z. omega arith), ((λ z. omega arith), tt)))))))

-- each quote twice
twice_of : List ℕ → List ℕ
twice_of [] = []
twice_of (n ∷ ns) = cond (eqb n quote) (quote ∷ quote ∷ twice_of ns) (n ∷ twice_of ns)

chars-twice : (ns : List ℕ) → doubled (encode_chars ns) ≡ encode_chars (twice_of ns)
unfolding twice_of
chars-twice [] = doubled-none
chars-twice (n ∷ ns) = doubled-append (encode_char n) (encode_chars ns) ∙ go (eqb n quote) refl (chars-twice ns)
  where
    go : (b : Bool) → eqb n quote ≡ b → doubled (encode_chars ns) ≡ encode_chars (twice_of ns)
        → doubled (encode_char n) ++ doubled (encode_chars ns)
        ≡ encode_chars (cond b (quote ∷ quote ∷ twice_of ns) (n ∷ twice_of ns))
    go true e ih =
        let z : n ≡ quote = eqb-true n quote e in
        rw (z, char-quote, doubled-quote quote [] refl, doubled-none, ih)
    go false e ih = rw (doubled-same (encode_char n) (char-other n (eqb-false n quote e)), ih)

chars-still : (ns : List ℕ) → Chars ns → Chars (twice_of ns)
unfolding twice_of
chars-still [] h = tt
chars-still (n ∷ ns) h = go (eqb n quote) (chars-still ns h.2)
  where
    plain : Scalar quote
    plain = record { small = omega arith; plain = λ i j. omega arith }

    go : (b : Bool) → Chars (twice_of ns) → Chars (cond b (quote ∷ quote ∷ twice_of ns) (n ∷ twice_of ns))
    go true ih = (omega arith, plain, (omega arith, plain, ih))
    go false ih = (h.0, h.1, ih)

twice-some : (ns : List ℕ) → 1 ≤ length ns → 1 ≤ length (twice_of ns)
unfolding twice_of
twice-some [] h = absurd (omega arith)
twice-some (n ∷ ns) h = go (eqb n quote)
  where
    go : (b : Bool) → 1 ≤ length (cond b (quote ∷ quote ∷ twice_of ns) (n ∷ twice_of ns))
    go true = omega arith
    go false = omega arith

-- ---- and back

pub record Peeled (us t rest : List ℕ) : Type 0 where
  pub tail : List ℕ
  pub reads : t ≡ us ++ tail
  pub left : doubled tail ≡ rest

peel : (us t rest : List ℕ) → NoQuote us → doubled t ≡ us ++ rest → Peeled us t rest
unfolding NoQuote
peel [] t rest n e = record { tail = t; reads = refl; left = e }
peel (u ∷ us) [] rest n e =
    absurd (let y : ◌≡◌ {A = List ℕ} [] (u ∷ (us ++ rest)) = sym doubled-none
    ∙ e in let z : ◌≡◌ {A = ℕ} 0 1 = cc in omega arith)
peel (u ∷ us) (x ∷ t) rest n e =
    elim (ℕ_discrete x quote) [
      | yes q ↦
          (let y : ◌≡◌ {A = List ℕ} (quote ∷ quote ∷ doubled t) (u ∷ (us ++ rest)) = sym (doubled-quote x t q) ∙ e in
          let z : quote ≡ u = cc in
          absurd (n.0 (sym z)))
      | no q ↦
          (let y : ◌≡◌ {A = List ℕ} (x ∷ doubled t) (u ∷ (us ++ rest)) = sym (doubled-other x t q) ∙ e in
          let z : x ≡ u = cc in
          let w : doubled t ≡ us ++ rest = cc in
          let r = peel us t rest n.1 w in
          record { tail = r.tail; reads = ap₂ (λ (a : ℕ) (l : List ℕ). a ∷ l) z r.reads; left = r.left })
    ]

-- a quote at the front of what is doubled is two
quote-front : {X : Type 0} (t rest : List ℕ) → doubled t ≡ quote ∷ rest
    → ((s : List ℕ) → t ≡ quote ∷ s → quote ∷ doubled s ≡ rest → X) → X
quote-front [] rest e f =
    absurd (let y : ◌≡◌ {A = List ℕ} [] (quote ∷ rest) = sym doubled-none
    ∙ e in let z : ◌≡◌ {A = ℕ} 0 1 = cc in omega arith)
quote-front {X} (x ∷ t) rest e f =
    elim (ℕ_discrete x quote) [
      | yes q ↦ (let y : ◌≡◌ {A = List ℕ} (quote ∷ quote ∷ doubled t) (quote ∷ rest) = sym (doubled-quote x t q)
          ∙ e in let z : quote ∷ doubled t ≡ rest = cc in f t (ap (λ (a : ℕ). a ∷ t) q) z)
      | no q ↦ absurd (let y : ◌≡◌ {A = List ℕ} (x ∷ doubled t) (quote ∷ rest) = sym (doubled-other x t q)
          ∙ e in let z : x ≡ quote = cc in q z)
    ]

pub record OfChars (t : List ℕ) : Type 0 where
  pub codes : List ℕ
  pub chars : Chars codes
  pub reads : t ≡ encode_chars codes

with-char : (m : ℕ) (t s : List ℕ) → 1 ≤ m → Scalar m → t ≡ encode_char m ++ s → OfChars s → OfChars t
with-char m t s h k e r = record {
  codes = m ∷ r.codes;
  chars = (h, k, r.chars);
  reads = e ∙ ap (λ (l : List ℕ). encode_char m ++ l) r.reads;
}

-- the first character is no quote
other-first : (m : ℕ) (ms t : List ℕ) → 1 ≤ m → Scalar m → (m ≡ quote → ⊥) → doubled t ≡ encode_char m ++ encode_chars ms
    → ((s : List ℕ) → doubled s ≡ encode_chars ms → OfChars s) → OfChars t
other-first m ms t h k n e ih =
    let p = peel (encode_char m) t (encode_chars ms) (char-other m n) e in
    with-char m t p.tail h k p.reads (ih p.tail p.left)

no-quote : (us vs rest : List ℕ) → NoQuote us → 1 ≤ length us → quote ∷ rest ≡ us ++ vs → ⊥
unfolding NoQuote
no-quote [] vs rest n s e = omega arith
no-quote (u ∷ us) vs rest n s e = let z : quote ≡ u = cc in n.0 (sym z)

-- what begins with a quote has it for its first character
first-quote : {X : Type 0} (m : ℕ) (ms rest : List ℕ) → 1 ≤ m → quote ∷ rest ≡ encode_char m ++ encode_chars ms
    → (m ≡ quote → rest ≡ encode_chars ms → X) → X
first-quote {X} m ms rest h e f =
    elim (ℕ_discrete m quote) [
      | yes q ↦ (let y : ◌≡◌ {A = List ℕ} (quote ∷ rest) (quote ∷ encode_chars ms) = e
          ∙ rw (q, char-quote) in let z : rest ≡ encode_chars ms = cc in f q z)
      | no q ↦ absurd (no-quote (encode_char m) (encode_chars ms) rest (char-other m q) (first_some m h []).1 e)
    ]

undo : (ms : List ℕ) (t : List ℕ) → Chars ms → doubled t ≡ encode_chars ms → OfChars t
undo [] [] h e = record { codes = []; chars = tt; reads = refl }
undo [] (x ∷ t) h e =
    elim (ℕ_discrete x quote) [
      | yes q ↦ absurd (let y : ◌≡◌ {A = List ℕ} (quote ∷ quote ∷ doubled t) [] = sym (doubled-quote x t q)
          ∙ e in let z : ◌≡◌ {A = ℕ} 0 1 = cc in omega arith)
      | no q ↦ absurd (let y : ◌≡◌ {A = List ℕ} (x ∷ doubled t) [] = sym (doubled-other x t q)
          ∙ e in let z : ◌≡◌ {A = ℕ} 0 1 = cc in omega arith)
    ]
undo (m ∷ []) t h e =
    elim (ℕ_discrete m quote) [
      | yes q ↦ quote-front t [] (e
          ∙ rw (q, char-quote)) (λ s a b. absurd (let z : ◌≡◌ {A = ℕ} 0 1 = cc in omega arith))
      | no q ↦ other-first m [] t h.0 h.1 q e (λ s z. undo [] s tt z)
    ]
undo (m ∷ k ∷ ms) t h e =
    elim (ℕ_discrete m quote) [
      | yes q ↦
          quote-front t (encode_chars (k ∷ ms)) (e ∙ rw (q, char-quote))
          (λ s a b. first-quote k ms (doubled s) h.2.0 b
          (λ c d. with-char m t s h.0 h.1 (a ∙ rw (q, char-quote)) (undo ms s h.2.2 d)))
      | no q ↦ other-first m (k ∷ ms) t h.0 h.1 q e (λ s z. undo (k ∷ ms) s h.2 z)
    ]

-- ---- UTF-8 before and behind

pub ends_is : (r : Walk) (n : ℕ) → ends_at r n ≡ true → r ≡ WalkEnds n
ends_is (WalkEnds w) n e = ap WalkEnds (eqb-true w n e)
ends_is (WalkBroken p) n e = unlike e

is-ends : (r : Walk) (n : ℕ) → r ≡ WalkEnds n → ends_at r n ≡ true
is-ends r n e = rw e (eq-eqb n n refl)

all-chars : (t : List ℕ) → text_of (t ++ (0 ∷ [])) ≡ WalkEnds (length t + 1) → OfChars t
all-chars t e =
    let s = text-sound (t ++ (0 ∷ [])) (length t + 1) e in
    let l : length (t ++ (0 ∷ [])) ≡ length t + 1 = length-append t (0 ∷ []) in
    let m : length (t ++ (0 ∷ [])) ≡ length (encode_text s.codes) + length s.rest =
    ap length s.reads ∙ length-append (encode_text s.codes) s.rest in
    let n : length (encode_text s.codes) ≡ length (encode_chars s.codes) + 1 =
    length-append (encode_chars s.codes) (0 ∷ []) in
    let r : s.rest ≡ [] = no-octets s.rest (omega (arith, s.ends)) in
    let a : t ++ (0 ∷ []) ≡ encode_chars s.codes ++ (0 ∷ []) =
    s.reads ∙ rw (r, append-nil (encode_text s.codes)) in
    record {
      codes = s.codes;
      chars = s.chars;
      reads = (same-front t (encode_chars s.codes) (0 ∷ []) (0 ∷ []) (omega (arith, s.ends)) a).0;
    }

some-code : (t : List ℕ) (o : OfChars t) → 1 ≤ length t → 1 ≤ length o.codes
some-code t o h = go o.codes (ap length o.reads)
  where
    go : (ns : List ℕ) → length t ≡ length (encode_chars ns) → 1 ≤ length ns
    go [] e = absurd (omega arith)
    go (n ∷ ns) e = omega arith

chars-text : (t : List ℕ) (ns : List ℕ) → t ≡ encode_chars ns → Chars ns → 1 ≤ length ns
    → text_of (t ++ (0 ∷ [])) ≡ WalkEnds (length t + 1)
chars-text t ns e c h =
    let a : t ++ (0 ∷ []) ≡ encode_text ns ++ [] =
    ap (λ (l : List ℕ). l ++ (0 ∷ [])) e ∙ sym (append-nil (encode_text ns)) in
    let b : length (encode_text ns) ≡ length t + 1 =
    length-append (encode_chars ns) (0 ∷ []) ∙ ap (λ (l : List ℕ). length l + 1) (sym e) in
    ap text_of a ∙ text-back ns [] c h ∙ ap WalkEnds b

doubled-some : (t : List ℕ) → 1 ≤ length t → 1 ≤ length (doubled t)
doubled-some [] h = absurd (omega arith)
doubled-some (x ∷ t) h =
    elim (ℕ_discrete x quote) [
      | yes q ↦ rw (doubled-quote x t q) (omega arith)
      | no q ↦ rw (doubled-other x t q) (omega arith)
    ]

-- whether octets that a zero follows are UTF-8
abbrev whole : List ℕ → Bool
whole t = ends_at (text_of (t ++ (0 ∷ []))) (length t + 1)

texts-same : (t : List ℕ) → 1 ≤ length t → whole (doubled t) ≡ whole t
texts-same t h = go (whole (doubled t)) refl (whole t) refl
  where
    up : whole t ≡ true → whole (doubled t) ≡ true
    up e =
        let o = all-chars t (ends_is (text_of (t ++ (0 ∷ []))) (length t + 1) e) in
        is-ends (text_of (doubled t ++ (0 ∷ []))) (length (doubled t) + 1)
        (chars-text (doubled t) (twice_of o.codes) (ap doubled o.reads ∙ chars-twice o.codes)
        (chars-still o.codes o.chars) (twice-some o.codes (some-code t o h)))

    down : whole (doubled t) ≡ true → whole t ≡ true
    down e =
        let d = all-chars (doubled t) (ends_is (text_of (doubled t ++ (0 ∷ []))) (length (doubled t) + 1) e) in
        let o = undo d.codes t d.chars d.reads in
        is-ends (text_of (t ++ (0 ∷ []))) (length t + 1)
        (chars-text t o.codes o.reads o.chars (some-code t o h))

    go : (a : Bool) → whole (doubled t) ≡ a → (b : Bool) → whole t ≡ b → whole (doubled t) ≡ whole t
    go true p true q = p ∙ sym q
    go true p false q = unlike (sym q ∙ down p)
    go false p true q = unlike (sym p ∙ up q)
    go false p false q = p ∙ sym q

-- ---- a field as it stands

digits-alone : (code : ℕ) (fill : Fill) (t : List ℕ) → spells code quote ≡ false → holds code fill t ≡ true → NoQuote t
unfolding NoQuote holds takes
digits-alone code fill [] h e = tt
digits-alone code fill (x ∷ t) h e =
    taken (cond (is_all fill) false (spells code x)) _ _ _ e
    (λ a b. taken (is_all fill) _ _ _ a (λ c d. unlike d)
    (λ c d. ((λ z. unlike (sym (ap (spells code) z ∙ h) ∙ d)), digits-alone code (filled code fill x) t h b)))
    (λ a b. unlike b)

inner-quoted : (t : List ℕ) → inner_of (quoted t) ≡ doubled t
unfolding inner_of quoted
inner-quoted t =
    let l : length (quote ∷ (doubled t ++ (quote ∷ []))) - 2 ≡ length (doubled t) =
    rw (length-append (doubled t) (quote ∷ [])) (omega arith) in
    rw l (take_at (doubled t) (quote ∷ []) (length (doubled t)) refl)

inner-plain : (t : List ℕ) → marked t ≡ false → inner_of t ≡ t
unfolding inner_of marked is_mark
inner-plain [] m = refl
inner-plain (x ∷ t) m = go (eqb x quote) refl
  where
    go : (b : Bool) → eqb x quote ≡ b → cond b (take (length (x ∷ t) - 2) t) (x ∷ t) ≡ x ∷ t
    go true p = let z : x ≡ quote = eqb-true x quote p in let y = rw z at m in unlike (sym y)
    go false p = refl

fits-other : (code : ℕ) (t : List ℕ) → (code ≡ numbers → ⊥) → (code ≡ texts → ⊥) → fits code t ≡ true
unfolding fits
fits-other code [] n m = refl
fits-other code (x ∷ t) n m = rw (ne_eqb code numbers n, ne_eqb code texts m)

fits-text : (t : List ℕ) → 1 ≤ length t → fits texts t ≡ ends_at (text_of (t ++ (0 ∷ []))) (length t + 1)
unfolding fits
fits-text [] h = absurd (omega arith)
fits-text (x ∷ t) h = refl

digits-only : spells numbers quote ≡ false
unfolding spells
digits-only = refl

fits-doubled : (t : List ℕ) → fits texts (doubled t) ≡ fits texts t
fits-doubled t =
    split (length t) 1 (λ h. rw (no-octets t (omega arith), doubled-none))
    (λ h. fits-text (doubled t) (doubled-some t h) ∙ texts-same t h ∙ sym (fits-text t h))

-- what the field holds fits exactly where what stands between its quotes does
pub fits-inner : (code : ℕ) (t f : List ℕ) → Spells t f → holds code Nothing t ≡ true
    → fits code (inner_of f) ≡ fits code t
fits-inner code t f (plainly e m) h = ap (fits code) (ap inner_of e ∙ inner-plain t m)
fits-inner code t f (in_quotes e) h =
    ap (fits code) (ap inner_of e ∙ inner-quoted t)
    ∙ elim (ℕ_discrete code numbers) [
      | yes q ↦ ap (fits code) (doubled-same t (digits-alone code Nothing t (rw q digits-only) h))
      | no q ↦ elim (ℕ_discrete code texts) [
        | yes p ↦ rw p (fits-doubled t)
        | no p ↦ fits-other code (doubled t) q p
            ∙ sym (fits-other code t q p)
      ]
    ]
