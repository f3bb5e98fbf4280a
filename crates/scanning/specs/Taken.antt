-- The lines of an exported sheet are taken: what a value's field holds may stand there and fits its type.
use Rattle.std.specs.Prelude.{ℕ, ◌+◌, ◌/◌, ◌%◌, ◌^◌, ◌≤◌, ◌<◌, refl, true, List, [], ◌∷◌, ◌++◌, length}
use Rattle.std.proofs.Common.{false, arith, sym, ap, ◌∙◌, append_assoc, append-nil, length-append}
use Rattle.std.proofs.Common.{lt-ltb, le-leb, eq-eqb, ne_eqb}
use Rattle.std.proofs.Math.Path.{◌≡◌}
use Rattle.std.proofs.Math.Option.{Option, none, some}
use Rattle.octets.specs.Cases.{split}
use Rattle.octets.specs.Octets.{same-front}
use Rattle.answers.specs.Walk.{Ends as WalkEnds}
use Rattle.text.specs.Narrow.{NoZero}
use Rattle.text.specs.Utf8.{text_of}
use Rattle.text.specs.Text.{encode_chars, chars-no_zero}
use Rattle.value.specs.Types.{narrow, text, form_in, number_of, form_at, form_of}
use Rattle.value.specs.Encode.{Item, a_number, a_truth, a_narrow, a_text, a_binary, kind_of, Valid, encode_item}
use Rattle.value.specs.Value.{value_of, element_of}
use Rattle.value.specs.Form.{IsValue, value-back}
use Rattle.entry.specs.Present.{Row}
use Rattle.entry.specs.Record.{SoundEntry, SoundRow}
use Rattle.sheet.specs.Digits.{number_in, decimal, decimal-few, decimal-more, by_digits, decimal-back}
use Rattle.sheet.specs.Field.{numbers, truths, narrows, texts, is_exported, content_of, field_of, fields_of, end_of}
use Rattle.sheet.specs.Field.{line_of, lines_of}
use Rattle.sheet.specs.Back.{spelt-spells, contents_of, held_by}
use Rattle.sheet.specs.Values.{by-type, is_string, narrow-string, text-string, free_slot, AString}
use Rattle.sheet.specs.Values.{number-value, truth-value, narrow-value, text-value}
use Rattle.sheet.specs.Values.{number-content, truth-content, string-content}
use Rattle.sheet.specs.One.{free_slots, Exported, SoundChoice}
use Rattle.scanning.specs.declared.Fill.{Fill}
use Rattle.scanning.specs.declared.Fill.TheVariants.{Nothing, More}
use Rattle.scanning.specs.Steps.{spells, is_all, filled, takes, holds, string-takes, string-filled}
use Rattle.scanning.specs.Scan.{fits}
use Rattle.scanning.specs.Sheets.{IsLine, IsText, GoodLine, GoodText}

-- ---- what a value's field holds may stand there

-- digits may follow a digit that is no leading zero
first-digit : (m : ℕ) → m < 10 → 1 ≤ m → (ds : List ℕ) → holds numbers Nothing ((48 + m) ∷ ds) ≡ holds numbers More ds
unfolding holds takes spells filled
first-digit m h k ds =
    rw (le-leb 48 (48 + m) (omega arith), le-leb (48 + m) 57 (omega arith), ne_eqb (48 + m) 48 (omega arith))

one-digit : (d : ℕ) → d < 10 → (ds : List ℕ) → holds numbers More ((48 + d) ∷ ds) ≡ holds numbers More ds
unfolding holds takes spells filled
one-digit d h ds = rw (le-leb 48 (48 + d) (omega arith), le-leb (48 + d) 57 (omega arith))

digits-hold : (n : ℕ) → 1 ≤ n → (ds : List ℕ) → holds numbers Nothing (decimal n ++ ds) ≡ holds numbers More ds
digits-hold n =
    by_digits (λ m. 1 ≤ m → (ds : List ℕ) → holds numbers Nothing (decimal m ++ ds) ≡ holds numbers More ds)
    (λ m h k ds. rw (decimal-few m h) (first-digit m h k ds))
    (λ m h ih k ds. rw (decimal-more m h, append_assoc (decimal (m / 10)) ((48 + m % 10) ∷ []) ds)
    (ih (omega arith) ((48 + m % 10) ∷ ds) ∙ one-digit (m % 10) (omega arith) ds))
    n

none_left : (code : ℕ) (fill : Fill) → holds code fill [] ≡ true
unfolding holds
none_left code fill = refl

zero-holds : holds numbers Nothing (48 ∷ []) ≡ true
unfolding holds takes spells
zero-holds = refl

number-holds : (n : ℕ) → holds numbers Nothing (decimal n) ≡ true
number-holds n =
    split 0 n (λ h. ap (holds numbers Nothing) (sym (append-nil (decimal n)))
    ∙ digits-hold n h [] ∙ none_left numbers More)
    (λ h. let z : n ≡ 0 = omega arith in rw (z, decimal-few 0 (omega arith)) zero-holds)

truth-holds : (b : ℕ) → b < 2 → holds truths Nothing ((48 + b) ∷ []) ≡ true
unfolding holds takes spells
truth-holds b h = rw (le-leb 48 (48 + b) (omega arith), le-leb (48 + b) 49 (omega arith))

string-holds : (code : ℕ) (fill : Fill) (t : List ℕ) → is_string code ≡ true → is_all fill ≡ false → NoZero t
    → holds code fill t ≡ true
unfolding holds
string-holds code fill [] s f z = refl
string-holds code fill (x ∷ t) s f z =
    rw (string-takes code fill x s f z.0, string-filled code fill x s)
    (string-holds code More t s refl z.1)

-- a string has no zero before its end
module _ (v t : List ℕ) (e : v ≡ t ++ (0 ∷ [])) where
  no_zero : (u : List ℕ) → v ≡ u ++ (0 ∷ []) → NoZero u → NoZero t
  no_zero u f n =
      let k = sym (length-append t (0 ∷ [])) ∙ ap length (sym e ∙ f) ∙ length-append u (0 ∷ []) in
      rw (same-front t u (0 ∷ []) (0 ∷ []) (omega arith) (sym e ∙ f)).0 n

  narrow-full : IsValue (form_of narrows) v → NoZero t
  unfolding form_of number_of form_in form_at IsValue
  narrow-full h = go h.item h.kind h.valid h.form
    where
      go : (i : Item) → kind_of i ≡ narrow → Valid i → v ≡ encode_item i → NoZero t
      go (a_narrow u) k l f = no_zero u f l.0
      go (a_text u) k l f = absurd (let z : ◌≡◌ {A = ℕ} 0 1 = cc in omega arith)
      go (a_number u) k l f = absurd (let z : ◌≡◌ {A = ℕ} 0 1 = cc in omega arith)
      go (a_truth u) k l f = absurd (let z : ◌≡◌ {A = ℕ} 0 1 = cc in omega arith)
      go (a_binary u) k l f = absurd (let z : ◌≡◌ {A = ℕ} 0 1 = cc in omega arith)

  text-full : IsValue (form_of texts) v → NoZero t
  unfolding form_of number_of form_in form_at IsValue
  text-full h = go h.item h.kind h.valid h.form
    where
      go : (i : Item) → kind_of i ≡ text → Valid i → v ≡ encode_item i → NoZero t
      go (a_text u) k l f = no_zero (encode_chars u) f (chars-no_zero u l.0)
      go (a_narrow u) k l f = absurd (let z : ◌≡◌ {A = ℕ} 0 1 = cc in omega arith)
      go (a_number u) k l f = absurd (let z : ◌≡◌ {A = ℕ} 0 1 = cc in omega arith)
      go (a_truth u) k l f = absurd (let z : ◌≡◌ {A = ℕ} 0 1 = cc in omega arith)
      go (a_binary u) k l f = absurd (let z : ◌≡◌ {A = ℕ} 0 1 = cc in omega arith)

module _ (code : ℕ) (v : List ℕ) (s : is_string code ≡ true) (a : AString v) where
  full-holds : NoZero a.octets → holds code Nothing (content_of code (some v)) ≡ true
  full-holds z = ap (holds code Nothing) (string-content code v s a) ∙ string-holds code Nothing a.octets s refl z

content-holds : (code : ℕ) (e : Option (List ℕ)) → is_exported code ≡ true → SoundEntry (free_slot code) e
    → holds code Nothing (content_of code e) ≡ true
unfolding content_of holds
content-holds code none h s = refl
content-holds code (some v) h s =
    by-type code h
    (λ p. let a = number-value v (rw p at s.0) in
    rw p (ap (holds numbers Nothing) (number-content v a) ∙ number-holds a.says))
    (λ p. let a = truth-value v (rw p at s.0) in
    rw p (ap (holds truths Nothing) (truth-content v a) ∙ truth-holds a.says a.small))
    (λ p. let i = rw p at s.0 in let a = narrow-value v i in
    rw p (full-holds narrows v narrow-string a (narrow-full v a.octets a.form i)))
    (λ p. let i = rw p at s.0 in let a = text-value v i in
    rw p (full-holds texts v text-string a (text-full v a.octets a.form i)))

-- ---- the lines

ends_same : (cs : List ℕ) (es : Row) → SoundRow (free_slots cs) es → end_of (fields_of cs es) ≡ end_of cs
ends_same [] es s = refl
ends_same (c ∷ cs) [] s = absurd s
ends_same (c ∷ cs) (e ∷ es) s = refl

line-is : (cs : List ℕ) (es : Row) → Exported cs → SoundRow (free_slots cs) es
    → IsLine cs (contents_of cs es) (line_of (fields_of cs es))
unfolding line_of
line-is [] [] h s = refl
line-is [] (e ∷ es) h s = absurd s
line-is (c ∷ cs) [] h s = absurd s
line-is (c ∷ cs) (e ∷ es) h s =
    record {
      field = field_of c e;
      spelt = spelt-spells (content_of c e);
      held = content-holds c e h.0 s.0;
      rest = line_of (fields_of cs es);
      goes = line-is cs es h.1 s.1;
      reads = ap (λ (x : ℕ). field_of c e ++ (x ∷ line_of (fields_of cs es))) (ends_same cs es s.1);
    }

lines-spelt : (cs : List ℕ) (rows : List Row) → Exported cs → SoundChoice cs rows
    → IsText cs (held_by cs rows) (lines_of cs rows)
unfolding lines_of
lines-spelt cs [] h s = refl
lines-spelt cs (es ∷ rows) h s = record {
  line = line_of (fields_of cs es);
  fields = line-is cs es h s.0;
  rest = lines_of cs rows;
  goes = lines-spelt cs rows h s.1;
  reads = refl;
}

-- ---- what is exported fits

fits-numbers : (t : List ℕ) → number_in t < 2 ^ 32 → fits numbers t ≡ true
unfolding fits
fits-numbers [] l = refl
fits-numbers (x ∷ t) l = lt-ltb (number_in (x ∷ t)) 4294967296 l

fits-texts : (t : List ℕ) → text_of (t ++ (0 ∷ [])) ≡ WalkEnds (length t + 1) → fits texts t ≡ true
unfolding fits
fits-texts [] q = refl
fits-texts (x ∷ t) q = rw q (eq-eqb (length (x ∷ t) + 1) (length (x ∷ t) + 1) refl)

fits-truths : (t : List ℕ) → fits truths t ≡ true
unfolding fits
fits-truths [] = refl
fits-truths (x ∷ t) = refl

fits-narrows : (t : List ℕ) → fits narrows t ≡ true
unfolding fits
fits-narrows [] = refl
fits-narrows (x ∷ t) = refl

fits-none : (code : ℕ) → fits code [] ≡ true
unfolding fits
fits-none code = refl

text-walks : (v : List ℕ) → IsValue (form_of texts) v → text_of (v ++ []) ≡ WalkEnds (length v)
unfolding form_of number_of form_in form_at value_of element_of
text-walks v h = value-back (form_of texts) v h []

content-fits : (code : ℕ) (e : Option (List ℕ)) → is_exported code ≡ true → SoundEntry (free_slot code) e
    → fits code (content_of code e) ≡ true
unfolding content_of
content-fits code none h s = fits-none code
content-fits code (some v) h s =
    by-type code h
    (λ p. let a = number-value v (rw p at s.0) in
    rw p (ap (fits numbers) (number-content v a)
    ∙ fits-numbers (decimal a.says) (rw (decimal-back a.says) a.small)))
    (λ p. rw p (fits-truths (content_of truths (some v))))
    (λ p. rw p (fits-narrows (content_of narrows (some v))))
    (λ p. let a = text-value v (rw p at s.0) in
    let w : text_of (a.octets ++ (0 ∷ [])) ≡ WalkEnds (length a.octets + 1) =
    ap text_of (sym a.form ∙ sym (append-nil v)) ∙ text-walks v (rw p at s.0)
    ∙ ap WalkEnds (ap length a.form ∙ length-append a.octets (0 ∷ [])) in
    rw p (ap (fits texts) (string-content texts v text-string a) ∙ fits-texts a.octets w))

line-fits : (cs : List ℕ) (es : Row) → Exported cs → SoundRow (free_slots cs) es → GoodLine fits cs (contents_of cs es)
line-fits [] es h s = tt
line-fits (c ∷ cs) [] h s = absurd s
line-fits (c ∷ cs) (e ∷ es) h s = (content-fits c e h.0 s.0, line-fits cs es h.1 s.1)

lines_fit : (cs : List ℕ) (rows : List Row) → Exported cs → SoundChoice cs rows → GoodText fits cs (held_by cs rows)
lines_fit cs [] h s = tt
lines_fit cs (es ∷ rows) h s = (line-fits cs es h s.0, lines_fit cs rows h s.1)

-- the lines of an exported sheet hold what its rows' fields hold, and each fits
pub lines-taken : (cs : List ℕ) (rows : List Row) → Exported cs → SoundChoice cs rows
    → IsText cs (held_by cs rows) (lines_of cs rows) × GoodText fits cs (held_by cs rows)
lines-taken cs rows h s = (lines-spelt cs rows h s, lines_fit cs rows h s)
