-- Laws of marks, quotes and digits: what needs no quotes, and how long what is quoted is. Assumes nothing.
use Rattle.std.specs.Prelude.{ℕ, zero, suc, ◌+◌, ◌/◌, ◌%◌, ◌≤◌, ◌<◌, ◌≡◌, refl, Bool, true, false, cond, List, [], ◌∷◌, ◌++◌, eqb, length}
use Rattle.std.proofs.Common.{mod-lt, arith, sym, ap, ◌∙◌, length-append, lt-ltb, le-ltb, eq-eqb, ne_eqb}
use Rattle.octets.specs.Cases.{split}
use Rattle.entry.specs.Record.{unlike}
use Rattle.sheet.specs.Digits.{digit_of, digits_of, places_of, decimal}
use Rattle.sheet.specs.Field.{quote, comma, cr, lf, is_mark, marked, doubled, quoted, spelt}

-- ---- marks

pub mark-quote : is_mark quote ≡ true
unfolding is_mark
mark-quote = refl

pub mark-lf : is_mark lf ≡ true
unfolding is_mark
mark-lf = refl

-- the last of the tests that tell a member
pub last-test : (b : Bool) → b ≡ cond b true false
last-test true = refl
last-test false = refl

-- what is no mark is none of them
pub no-mark : (x y : ℕ) → is_mark x ≡ false → is_mark y ≡ true → eqb x y ≡ false
no-mark x y p q = ne_eqb x y (λ z. unlike (sym p ∙ ap is_mark z ∙ q))

pub marked-snoc : (s : List ℕ) (x : ℕ) → marked s ≡ false → is_mark x ≡ false → marked (s ++ (x ∷ [])) ≡ false
unfolding marked
marked-snoc [] x h k = rw k
marked-snoc (y ∷ s) x h k = go (is_mark y) h (λ z. marked-snoc s x z k)
  where
    go : (b : Bool) → cond b true (marked s) ≡ false → (marked s ≡ false → marked (s ++ (x ∷ [])) ≡ false)
        → cond b true (marked (s ++ (x ∷ []))) ≡ false
    go true e ih = e
    go false e ih = ih e

-- ---- digits need no quotes

pub far-plain : (x : ℕ) → 45 ≤ x → is_mark x ≡ false
unfolding is_mark
far-plain x k =
    rw
    (ne_eqb x comma (omega arith), ne_eqb x quote (omega arith), ne_eqb x cr (omega arith), ne_eqb x lf (omega arith))

digit-plain : (d : ℕ) → d < 16 → is_mark (digit_of d) ≡ false
unfolding digit_of
digit-plain d h =
    split d 10 (λ p. rw (lt-ltb d 10 p) (far-plain (48 + d) (omega arith)))
    (λ p. rw (le-ltb d 10 p) (far-plain (55 + d) (omega arith)))

pub digits-plain : (b k n : ℕ) → 1 ≤ b → b ≤ 16 → marked (digits_of b k n) ≡ false
unfolding digits_of marked
digits-plain b zero n h l = refl
digits-plain b (suc k) n h l =
    let m = mod-lt n {m = b} (omega arith) in
    marked-snoc (digits_of b k (n / b)) (digit_of (n % b)) (digits-plain b k (n / b) h l)
    (digit-plain (n % b) (omega arith))

pub decimal-plain : (n : ℕ) → marked (decimal n) ≡ false
unfolding decimal
decimal-plain n = digits-plain 10 (places_of n) n (omega arith) (omega arith)

-- ---- quoted or not

pub spelt-none : spelt [] ≡ []
unfolding spelt marked
spelt-none = refl

pub spelt-plain : (t : List ℕ) → marked t ≡ false → spelt t ≡ t
unfolding spelt
spelt-plain t e = rw e

pub spelt-quoted : (t : List ℕ) → marked t ≡ true → spelt t ≡ quoted t
unfolding spelt
spelt-quoted t e = rw e

pub doubled-quote : (x : ℕ) (t : List ℕ) → x ≡ quote → doubled (x ∷ t) ≡ quote ∷ quote ∷ doubled t
unfolding doubled
doubled-quote x t e = rw (eq-eqb x quote e)

pub doubled-other : (x : ℕ) (t : List ℕ) → (x ≡ quote → ⊥) → doubled (x ∷ t) ≡ x ∷ doubled t
unfolding doubled
doubled-other x t e = rw (ne_eqb x quote e)

pub quoted-long : (t : List ℕ) → length (quoted t) ≡ length (doubled t) + 2
unfolding quoted
quoted-long t = let z = length-append (doubled t) (quote ∷ []) in omega arith
