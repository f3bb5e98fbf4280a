-- Entries of any width: the one at k is read back. One law over the width serves every kind of index.
use Rattle.std.specs.Prelude.{ℕ, zero, suc, ◌+◌, ◌*◌, ◌^◌, ◌<◌, ◌≡◌, refl, List, [], ◌∷◌, ◌++◌, length, get_or, drop}
use Rattle.std.proofs.Common.{arith, mul-suc, mul-zero, sym, ap, ap₂, ◌∙◌, append_assoc, append-nil, length-append, drop-drop}
use Rattle.std.proofs.Math.Seq.{drop-append-add}
use Rattle.octets.specs.Word.{le_of, word_of, length-word, drop-word, word_back}
use Rattle.serial.specs.Serial.{serial_of}
use Rattle.book.specs.Book.{Book, body_octets, book_octets}
use Rattle.lookup.specs.Places.{place_of}
use Rattle.index.specs.Index.{fields_of, entries_of, listed, starts_of, index_by, start_at}

-- ---- entries

pub entries-long : (w : ℕ) (ps : List ℕ) → length (entries_of w ps) ≡ w * length ps
entries-long w [] = sym (mul-zero w)
entries-long w (p ∷ ps) =
    length-word w p (entries_of w ps) ∙ ap (λ (n : ℕ). w + n) (entries-long w ps)
    ∙ more (w * length ps) (mul-suc w (length ps))
  where
    more : (n : ℕ) → w * suc (length ps) ≡ n + w → w + n ≡ w * suc (length ps)
    more n e = omega arith

-- the entry at k, of w octets, is the start that was written
pub entry-back : (w : ℕ) (ps : List ℕ) (k : ℕ) → k < length ps → get_or ps k 0 < 256 ^ w
    → word_of w (drop (w * k) (entries_of w ps)) ≡ get_or ps k 0
entry-back w [] k h l = absurd (omega arith)
entry-back w (p ∷ ps) zero h l = rw (mul-zero w) (word_back w p l (entries_of w ps))
entry-back w (p ∷ ps) (suc k) h l =
    let e : w * suc k ≡ w + w * k = more (w * k) (mul-suc w k) in
    rw (e, ← drop-drop (w * k) w (le_of w p ++ entries_of w ps), drop-word w p (entries_of w ps))
    (entry-back w ps k (omega arith) l)
  where
    more : (n : ℕ) → w * suc k ≡ n + w → w * suc k ≡ w + n
    more n e = omega arith

-- the same behind the header of an index
pub start_back : (offset w : ℕ) (head ps : List ℕ) (k : ℕ) → length head ≡ offset → k < length ps
    → get_or ps k 0 < 256 ^ w → start_at offset w k (head ++ entries_of w ps) ≡ get_or ps k 0
unfolding start_at
start_back offset w head ps k e h l =
    rw (← e, drop-append-add head (entries_of w ps) (w * k)) (entry-back w ps k h l)

pub entries-snoc : (w : ℕ) (ps : List ℕ) (p : ℕ) → entries_of w (ps ++ (p ∷ [])) ≡ entries_of w ps ++ le_of w p
entries-snoc w [] p = append-nil (le_of w p)
entries-snoc w (q ∷ ps) p =
    ap (λ (l : List ℕ). le_of w q ++ l) (entries-snoc w ps p)
    ∙ sym (append_assoc (le_of w q) (entries_of w ps) (le_of w p))

-- ---- lists of places

pub listed-long : (n : ℕ) (p : ℕ → ℕ) → length (listed n p) ≡ n
listed-long zero p = refl
listed-long (suc n) p = ap suc (listed-long n (λ k. p (suc k)))

pub listed_at : (n : ℕ) (p : ℕ → ℕ) (k : ℕ) → k < n → get_or (listed n p) k 0 ≡ p k
listed_at zero p k h = absurd (omega arith)
listed_at (suc n) p zero h = refl
listed_at (suc n) p (suc k) h = listed_at n (λ i. p (suc i)) k (omega arith)

pub listed_same : (n : ℕ) (p q : ℕ → ℕ) → ((k : ℕ) → k < n → p k ≡ q k) → listed n p ≡ listed n q
listed_same zero p q h = refl
listed_same (suc n) p q h =
    ap₂ (λ (x : ℕ) (l : List ℕ). x ∷ l) (h 0 (omega arith))
    (listed_same n (λ k. p (suc k)) (λ k. q (suc k)) (λ k l. h (suc k) (omega arith)))

-- one place more
pub listed-snoc : (n : ℕ) (p : ℕ → ℕ) → listed (suc n) p ≡ listed n p ++ (p n ∷ [])
listed-snoc zero p = refl
listed-snoc (suc n) p = ap (λ (l : List ℕ). p 0 ∷ l) (listed-snoc n (λ k. p (suc k)))

-- ---- an index

pub fields-long : (n l s offset : ℕ) → length (fields_of n l s offset) ≡ 16
unfolding fields_of
fields-long n l s offset = refl

-- and with what stands behind the first four fields
pub front_long : (n l s offset : ℕ) (more : List ℕ) → length (fields_of n l s offset ++ more) ≡ 16 + length more
front_long n l s offset more =
    length-append (fields_of n l s offset) more ∙ ap (λ (m : ℕ). m + length more) (fields-long n l s offset)

pub starts-count : (b : Book) → length (starts_of b) ≡ length b.rows
unfolding starts_of
starts-count b = listed-long (length b.rows) (place_of b)

pub start-in : (b : Book) (k : ℕ) → k < length b.rows → get_or (starts_of b) k 0 ≡ place_of b k
unfolding starts_of
start-in b = listed_at (length b.rows) (place_of b)

pub index-long : (offset w : ℕ) (more : List ℕ) (b : Book) → 16 + length more ≡ offset
    → length (index_by offset w more b) ≡ offset + w * length b.rows
unfolding index_by
index-long offset w more b h =
    let head : List ℕ = fields_of (length b.rows) (length (book_octets b)) (serial_of (body_octets b)) offset in
    length-append (head ++ more) (entries_of w (starts_of b))
    ∙ ap₂ (λ (m n : ℕ). m + n)
    (front_long (length b.rows) (length (book_octets b)) (serial_of (body_octets b)) offset more ∙ h)
    (entries-long w (starts_of b) ∙ ap (λ (n : ℕ). w * n) (starts-count b))
