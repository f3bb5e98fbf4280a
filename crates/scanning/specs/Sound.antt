-- What a field holds, where it may stand there and fits, is a sound value of its type: the writer will take it.
use Rattle.std.specs.Prelude.{ℕ, zero, suc, ◌+◌, ◌-◌, ◌^◌, ◌≤◌, ◌<◌, ◌≡◌, refl, true, false, cond, List, [], ◌∷◌, ◌++◌, leb, length}
use Rattle.std.proofs.Common.{arith, sym, ap, ◌∙◌, append-nil, length-append, ne_eqb, ltb-true, leb-true}
use Rattle.std.proofs.Math.Decide.{ℕ_discrete}
use Rattle.octets.specs.Cases.{split, taken}
use Rattle.octets.specs.Octets.{Octets, octet_at, octets-append, octets-left, octets-right, no-octets}
use Rattle.answers.specs.Walk.{Ends as WalkEnds}
use Rattle.whole.specs.Number.{encode_number}
use Rattle.whole.specs.Laws.{number-octets}
use Rattle.text.specs.Narrow.{NoZero}
use Rattle.text.specs.Utf8.{text_of}
use Rattle.text.specs.Text.{encode_text, Chars, text-sound}
use Rattle.value.specs.Types.{form_in, number_of, form_at, form_of}
use Rattle.value.specs.Encode.{a_number, a_truth, a_narrow, a_text}
use Rattle.value.specs.Form.{IsValue}
use Rattle.entry.specs.Record.{SoundEntry, SoundRow, unlike}
use Rattle.sheet.specs.Digits.{number_in}
use Rattle.sheet.specs.Field.{numbers, truths, narrows, texts, is_exported, quote, doubled, quoted, end_of}
use Rattle.sheet.specs.Marks.{doubled-quote, doubled-other}
use Rattle.sheet.specs.Reading.{value_from, values_from, rows_from}
use Rattle.sheet.specs.Back.{Spells, plainly, in_quotes}
use Rattle.sheet.specs.Values.{by-type, is_string, narrow-string, free_slot}
use Rattle.sheet.specs.One.{free_slots, Exported, SoundChoice}
use Rattle.scanning.specs.declared.Fill.{Fill}
use Rattle.scanning.specs.declared.Fill.TheVariants.{Nothing}
use Rattle.scanning.specs.Steps.{spells, filled, takes, holds, string-zero}
use Rattle.scanning.specs.Scan.{fits}
use Rattle.scanning.specs.Inner.{ends_is}
use Rattle.scanning.specs.Sheets.{IsLine, IsText, GoodLine, GoodText}

is_number : (n : ℕ) → n < 2 ^ 32 → IsValue (form_of numbers) (encode_number n)
unfolding form_of number_of form_in form_at IsValue
is_number n h = record { item = a_number n; kind = refl; valid = h; form = refl }

is-truth : (b : ℕ) → b < 2 → IsValue (form_of truths) (b ∷ [])
unfolding form_of number_of form_in form_at IsValue
is-truth b h = record { item = a_truth b; kind = refl; valid = h; form = refl }

is-narrow : (t : List ℕ) → NoZero t → 1 ≤ length t → IsValue (form_of narrows) (t ++ (0 ∷ []))
unfolding form_of number_of form_in form_at IsValue
is-narrow t z h = record { item = a_narrow t; kind = refl; valid = (z, h); form = refl }

is-text : (ns : List ℕ) → Chars ns → 1 ≤ length ns → (v : List ℕ) → v ≡ encode_text ns → IsValue (form_of texts) v
unfolding form_of number_of form_in form_at IsValue
is-text ns c h v e = record { item = a_text ns; kind = refl; valid = (c, h); form = e }

-- ---- what may stand there

string-full : (code : ℕ) (fill : Fill) (t : List ℕ) → is_string code ≡ true → holds code fill t ≡ true → NoZero t
unfolding holds
string-full code fill [] s h = tt
string-full code fill (x ∷ t) s h =
    taken (takes code fill x) _ _ _ h
    (λ a b. (
      (λ z. unlike (sym (string-zero code fill s) ∙ sym (ap (takes code fill) z) ∙ a)),
      string-full code (filled code fill x) t s b,
    ))
    (λ a b. unlike b)

truth-small : (t : List ℕ) → holds truths Nothing t ≡ true → 1 ≤ length t → octet_at t 0 - 48 < 2
unfolding holds takes spells
truth-small [] h l = absurd (omega arith)
truth-small (x ∷ t) h l =
    taken (cond (leb 48 x) (leb x 49) false) _ _ _ h
    (λ a b. taken (leb 48 x) _ _ _ a (λ c d. let m = leb-true x 49 d in omega arith) (λ c d. unlike d))
    (λ a b. unlike b)

number_small : (t : List ℕ) → fits numbers t ≡ true → 1 ≤ length t → number_in t < 2 ^ 32
unfolding fits
number_small [] h l = absurd (omega arith)
number_small (x ∷ t) h l = ltb-true (number_in (x ∷ t)) 4294967296 h

text-ends : (t : List ℕ) → fits texts t ≡ true → 1 ≤ length t → text_of (t ++ (0 ∷ [])) ≡ WalkEnds (length t + 1)
unfolding fits
text-ends [] h l = absurd (omega arith)
text-ends (x ∷ t) h l = ends_is (text_of ((x ∷ t) ++ (0 ∷ []))) (length (x ∷ t) + 1) h

text-is : (t : List ℕ) → fits texts t ≡ true → 1 ≤ length t → IsValue (form_of texts) (t ++ (0 ∷ []))
text-is t h l =
    let s = text-sound (t ++ (0 ∷ [])) (length t + 1) (text-ends t h l) in
    let a = length-append t (0 ∷ []) in
    let m : length (t ++ (0 ∷ [])) ≡ length (encode_text s.codes) + length s.rest =
    ap length s.reads ∙ length-append (encode_text s.codes) s.rest in
    let r : s.rest ≡ [] = no-octets s.rest (omega (arith, s.ends)) in
    is-text s.codes s.chars (omega (arith, s.some)) (t ++ (0 ∷ [])) (s.reads
    ∙ ap (λ (y : List ℕ). encode_text s.codes ++ y) r ∙ append-nil (encode_text s.codes))

-- ---- a sound entry

octets-one : (b : ℕ) → b < 256 → Octets (b ∷ [])
octets-one b h zero = h
octets-one b h (suc i) = omega arith

some-sound : (code : ℕ) (t : List ℕ) → is_exported code ≡ true → Octets t → holds code Nothing t ≡ true
    → fits code t ≡ true → 1 ≤ length t → SoundEntry (free_slot code) (value_from code t)
unfolding value_from
some-sound code t h o k f l =
    rw (ne_eqb (length t) 0 (omega arith))
    (by-type code h
    (λ p. let n = number_small t (rw p at f) l in rw p (is_number (number_in t) n, number-octets (number_in t) n))
    (λ p. let n = truth-small t (rw p at k) l in
    rw p (is-truth (octet_at t 0 - 48) n, octets-one (octet_at t 0 - 48) (omega arith)))
    (λ p. rw p (is-narrow t (string-full narrows Nothing t narrow-string (rw p at k)) l, ended))
    (λ p. rw p (text-is t (rw p at f) l, ended)))
  where
    ended : Octets (t ++ (0 ∷ []))
    ended = octets-append t (0 ∷ []) o (octets-one 0 (omega arith))

none-sound : (code : ℕ) → SoundEntry (free_slot code) (value_from code [])
unfolding value_from
none-sound code = refl

pub value-sound : (code : ℕ) (t : List ℕ) → is_exported code ≡ true → Octets t → holds code Nothing t ≡ true
    → fits code t ≡ true → SoundEntry (free_slot code) (value_from code t)
value-sound code t h o k f =
    split (length t) 1 (λ l. rw (no-octets t (omega arith)) (none-sound code)) (λ l. some-sound code t h o k f l)

-- ---- the rows of a sheet

octets-doubled : (t : List ℕ) → Octets (doubled t) → Octets t
octets-doubled [] o i = omega arith
octets-doubled (x ∷ t) o zero =
    elim (ℕ_discrete x quote) [ yes q ↦ rw q (omega arith) | no q ↦ rw (doubled-other x t q) at o 0 ]
octets-doubled (x ∷ t) o (suc i) =
    elim (ℕ_discrete x quote) [
      | yes q ↦ octets-doubled t (λ j. (rw (doubled-quote x t q) at o) (suc (suc j))) i
      | no q ↦ octets-doubled t (λ j. (rw (doubled-other x t q) at o) (suc j)) i
    ]

content-octets : (t f : List ℕ) → Spells t f → Octets f → Octets t
unfolding quoted
content-octets t f (plainly e m) o = rw e at o
content-octets t f (in_quotes e) o = octets-doubled t (octets-left (doubled t) (quote ∷ []) (λ j. (rw e at o) (suc j)))

line-sound : (cs : List ℕ) (ts : List (List ℕ)) (xs : List ℕ) → Exported cs → IsLine cs ts xs → GoodLine fits cs ts
    → Octets xs → SoundRow (free_slots cs) (values_from cs ts)
line-sound [] [] xs h l g o = tt
line-sound [] (t ∷ ts) xs h l g o = absurd l
line-sound (c ∷ cs) [] xs h l g o = absurd l
line-sound (c ∷ cs) (t ∷ ts) xs h l g o =
    let a : Octets (l.field ++ (end_of cs ∷ l.rest)) = rw l.reads at o in
    let r : Octets (end_of cs ∷ l.rest) = octets-right l.field (end_of cs ∷ l.rest) a in
    let b : Octets t = content-octets t l.field l.spelt (octets-left l.field (end_of cs ∷ l.rest) a) in
    (value-sound c t h.0 b l.held g.0, line-sound cs ts l.rest h.1 l.goes g.1 (λ i. r (suc i)))

-- the rows of a text that is taken are sound
pub rows-sound : (cs : List ℕ) (held : List (List (List ℕ))) (xs : List ℕ) → Exported cs → IsText cs held xs
    → GoodText fits cs held → Octets xs → SoundChoice cs (rows_from cs held)
rows-sound cs [] xs h t g o = tt
rows-sound cs (ts ∷ held) xs h t g o =
    let a : Octets (t.line ++ t.rest) = rw t.reads at o in (
      line-sound cs ts t.line h t.fields g.0 (octets-left t.line t.rest a),
      rows-sound cs held t.rest h t.goes g.1 (octets-right t.line t.rest a),
    )
