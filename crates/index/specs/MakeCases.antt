-- The ways of the code that makes an index, on plain values.
use Prim.Native.Nat.{ℕ, suc, ◌+◌, ◌*◌, ◌^◌, ◌≤◌, ◌<◌}
use Rattle.std.proofs.Common.{arith, mul-suc, mul-zero, add-zero, mul-le-mul_left, add-one, ◌∙◌, Fits}
use Rattle.std.specs.Prelude.{Ok, Err, ◌≡◌, leb, get_or}
use Rattle.std.proofs.Math.Path.{refl, sym, ap}
use mathlib.Core.List.{List, ◌++◌}
use Rattle.std.proofs.Math.ListN.{length, drop}
use Rattle.std.specs.Int.{w8, w64}
use borrow.Author.Tests.{le-leb, lt-leb}
use Rattle.octets.specs.Octets.{octets-from}
use Rattle.octets.specs.Splice.{stored, stored-nil, stored-join}
use Rattle.octets.specs.Word.{le_of, word_of, length-le_of}
use Rattle.answers.specs.Numbers.{no_room, most_records}
use Rattle.answers.specs.declared.Refusal.{Refusal}
use Rattle.answers.specs.Verdict.{Answer}
use Rattle.answers.specs.Verdict.{need}
use Rattle.book.specs.Read.{book_in, rows-count}
use Rattle.book.specs.Judged.{judged_of}
use Rattle.book.specs.Good.{GoodIs, good-is, refused-by, good-keeps}
use Rattle.book.specs.declared.Judgement.{Judgement}
use Rattle.lookup.specs.Places.{walk_to, place_of}
use Rattle.lookup.specs.PlaceCases.{walk_more, number-start}
use Rattle.lookup.specs.Cases.{walk-place}
use Rattle.index.specs.Index.{starts_offset, entry_width, fields_of, entries_of, listed, starts_of, index_of, make_at}
use Rattle.index.specs.Index.{make_answer, make_octets}
use Rattle.index.specs.Entries.{entries-long, entries-snoc, listed-long, listed_same, listed-snoc, fields-long}
use Rattle.index.specs.Entries.{front_long}
use Rattle.index.specs.Own.{own_is, own-place, own-long}

-- ---- put_fields and put_front

pub fields-put : (d₀ d₁ d₂ d₃ d₄ : List ℕ) (n l s : ℕ) → 16 ≤ length d₀ → d₁ ≡ stored d₀ 0 (le_of 4 n)
    → d₂ ≡ stored d₁ 4 (le_of 4 l) → d₃ ≡ stored d₂ 8 (le_of 4 s) → d₄ ≡ stored d₃ 12 (le_of 4 starts_offset)
    → d₄ ≡ stored d₀ 0 (fields_of n l s starts_offset)
unfolding fields_of
fields-put d₀ d₁ d₂ d₃ d₄ n l s h e₁ e₂ e₃ e₄ =
    rw (e₄, e₃, e₂, e₁) (
    ap (λ (d : List ℕ). stored (stored d 8 (le_of 4 s)) 12 (le_of 4 starts_offset))
    (stored-join d₀ (le_of 4 n) (le_of 4 l) 0 4 refl (omega arith))
    ∙ ap (λ (d : List ℕ). stored d 12 (le_of 4 starts_offset))
    (stored-join d₀ (le_of 4 n ++ le_of 4 l) (le_of 4 s) 0 8 refl (omega arith))
    ∙ stored-join d₀ ((le_of 4 n ++ le_of 4 l) ++ le_of 4 s) (le_of 4 starts_offset) 0 12 refl (omega arith))

-- what stands in front of the starts
unfoldable pub front_of : ℕ → ℕ → ℕ → List ℕ
front_of n l s = fields_of n l s starts_offset ++ le_of 4 entry_width

pub front-put : (d x y : List ℕ) (n l s : ℕ) → starts_offset ≤ length d → x ≡ stored d 0 (fields_of n l s starts_offset)
    → y ≡ stored x 16 (le_of 4 entry_width) → y ≡ stored d 0 (front_of n l s)
unfolding front_of
front-put d x y n l s h e q =
    let f : length (fields_of n l s starts_offset) ≡ 16 = fields-long n l s starts_offset in
    q ∙ ap (λ (z : List ℕ). stored z 16 (le_of 4 entry_width)) e
    ∙ stored-join d (fields_of n l s starts_offset) (le_of 4 entry_width) 0 16 (omega arith) (omega arith)

-- ---- put_starts

-- the entries of n records, as one walks to them from f on
unfoldable pub walked : ℕ → ℕ → ℕ → List ℕ → List ℕ
walked w n f xs = entries_of w (listed n (λ k. walk_to k f xs))

pub walked_none : (d : List ℕ) (at w f : ℕ) (xs : List ℕ) → d ≡ stored d at (walked w 0 f xs)
unfolding walked
walked_none d at w f xs = sym (stored-nil d at)

-- k of n entries are written: the next one has room
pub entry-room : (w k n at to l : ℕ) → to ≡ at + w * k → k < n → at + w * n ≤ l → to + w ≤ l
entry-room w k n at to l e h g =
    let m : w * suc k ≤ w * n = mul-le-mul_left w h in
    let s : w * suc k ≡ w * k + w = mul-suc w k in
    more (w * k) (w * suc k) (w * n) s m e g
  where
    more : (a b c : ℕ) → b ≡ a + w → b ≤ c → to ≡ at + a → at + c ≤ l → to + w ≤ l
    more a b c s m e g = omega arith

walked-long : (w n f : ℕ) (xs : List ℕ) → length (walked w n f xs) ≡ w * n
unfolding walked
walked-long w n f xs =
    entries-long w (listed n (λ k. walk_to k f xs)) ∙ ap (λ (m : ℕ). w * m) (listed-long n (λ k. walk_to k f xs))

module _ (b d x : List ℕ) (at w f k to i : ℕ) (inv : x ≡ stored d at (walked w k f (drop f b)))
    (walks : i ≡ walk_to k f (drop f b)) (goes : to ≡ at + w * k) where
  pub walked_next : (n : ℕ) (y : List ℕ) → k < n → at + w * n ≤ length d → y ≡ stored x to (le_of w i)
      → y ≡ stored d at (walked w (k + 1) f (drop f b))
  unfolding walked
  walked_next n y h g e =
      let ys : List ℕ = drop f b in
      let es : List ℕ = walked w k f ys in
      let l : length es ≡ w * k = walked-long w k f ys in
      let r : to + w ≤ length d = entry-room w k n at to (length d) goes h g in
      let p : to + length (le_of w i) ≤ length d = rw (length-le_of w i) r in
      let j : stored (stored d at es) to (le_of w i) ≡ stored d at (es ++ le_of w i) =
      stored-join d es (le_of w i) at to (goes ∙ ap (λ (m : ℕ). at + m) (sym l)) p in
      let s : walked w (k + 1) f ys ≡ es ++ le_of w i =
      ap (λ (m : ℕ). walked w m f ys) (add-one k) ∙ ap (entries_of w) (listed-snoc k (λ j. walk_to j f ys))
      ∙ entries-snoc w (listed k (λ j. walk_to j f ys)) (walk_to k f ys)
      ∙ ap (λ (n : ℕ). es ++ le_of w n) (sym walks) in
      e ∙ ap (λ (z : List ℕ). stored z to (le_of w i)) inv ∙ j ∙ ap (stored d at) (sym s)

  pub walked_on : (s : ℕ) → s ≡ word_of 4 (drop i b) → i + s ≡ walk_to (k + 1) f (drop f b)
  walked_on s e = rw (add-one k, walk_more k f b, ← walks, ← e)

  pub walked-goes : to + w ≡ at + w * (k + 1)
  walked-goes = rw (add-one k, mul-suc w k) (more (w * k) goes)
    where
      more : (a : ℕ) → to ≡ at + a → to + w ≡ at + (a + w)
      more a e = omega arith

pub walked_end : (d x : List ℕ) (at w f k n : ℕ) (xs : List ℕ) → n ≤ k → k ≤ n → x ≡ stored d at (walked w k f xs)
    → x ≡ stored d at (walked w n f xs)
walked_end d x at w f k n xs h g e = let z : k ≡ n = omega arith in e ∙ ap (λ (m : ℕ). stored d at (walked w m f xs)) z

pub to-fits : (w k n at to l : ℕ) → to ≡ at + w * k → k < n → at + w * n ≤ l → l < 2 ^ 64 → Fits w64 (to + w)
to-fits w k n at to l e h g b = record { fits = let r = entry-room w k n at to l e h g in omega arith }

pub walked_at : (at w : ℕ) → at ≡ at + w * 0
walked_at at w = rw (mul-zero w) (sym (add-zero at))

pub ruleset walkings = (walked_none, walked_next, walked_on, walked-goes, walked_end, walked_at, number-start)

-- ---- make_index

module _ (b d : List ℕ) (u : Answer Judgement) (e : u ≡ judged_of b) where
  module _ (r : Refusal) (q : u ≡ Err r) where
    pub make-refused : Err r ≡ make_answer b d
    unfolding make_answer make_at
    make-refused = rw (refused-by b u e r q)

    pub make-left : d ≡ make_octets b d
    unfolding make_octets make_at
    make-left = rw (refused-by b u e r q)

  module _ (j : Judgement) (q : u ≡ Ok j) where
    good : GoodIs b j
    good = good-is b u j e q

    pub make-count : j.count ≤ most_records
    make-count = let k = good-keeps b good.clears in let n = good.count in omega (arith, k.1)

    pub make-first : j.first < 2 ^ 32
    make-first = let k = good-keeps b good.clears in let n = good.first in omega (arith, k.0, k.2)

    pub size-mul : Fits w64 (entry_width * j.count)
    size-mul = record { fits = let k = make-count in omega arith }

    pub size-add : Fits w64 (starts_offset + entry_width * j.count)
    size-add = record { fits = let k = make-count in omega arith }

    module _ (o : (i : ℕ) → Fits w8 (get_or b i 0)) where
      abbrev size : ℕ
      size = starts_offset + entry_width * j.count

      size_is : length (index_of (book_in b)) ≡ size
      size_is =
          own-long b (octets-from b o) good.clears starts_offset entry_width (le_of 4 entry_width) refl (omega arith)
          ∙ ap (λ (n : ℕ). starts_offset + entry_width * n) (sym good.count)

      verdict-by : make_at b d ≡ need (leb size (length d)) no_room 0
      unfolding make_at
      verdict-by = rw (good.clears, size_is)

      module _ (g : length d < size) where
        pub make-short : Err (record { number = no_room; place = 0 }) ≡ make_answer b d
        unfolding make_answer
        make-short = rw (verdict-by, lt-leb size (length d) g)

        pub make-kept : d ≡ make_octets b d
        unfolding make_octets
        make-kept = rw (verdict-by, lt-leb size (length d) g)

      module _ (g : size ≤ length d) where
        pub make-done : Ok size ≡ make_answer b d
        unfolding make_answer
        make-done = rw (verdict-by, le-leb size (length d) g, size_is)

        entries-are : walked entry_width j.count j.first (drop j.first b) ≡ entries_of entry_width (starts_of (book_in b))
        unfolding starts_of walked
        entries-are =
            let n : j.count ≡ length (book_in b).rows = good.count ∙ sym (rows-count b) in
            let p : (k : ℕ) → k < j.count → walk_to k j.first (drop j.first b) ≡ place_of (book_in b) k = λ k h.
            walk-place b k j.first good.first
            ∙ sym (own-place b (octets-from b o) good.clears k (omega (arith, good.count))) in
            ap (entries_of entry_width)
            (listed_same j.count (λ k. walk_to k j.first (drop j.first b)) (place_of (book_in b)) p
            ∙ ap (λ (m : ℕ). listed m (place_of (book_in b))) n)

        pub make-put : (x y : List ℕ) (s : ℕ) → s ≡ word_of 4 (drop 4 b)
            → x ≡ stored d 0 (front_of j.count (length b) s)
            → y ≡ stored x starts_offset (walked entry_width j.count j.first (drop j.first b)) → y ≡ make_octets b d
        unfolding make_octets front_of
        make-put x y s u v w =
            let head : List ℕ = fields_of j.count (length b) s starts_offset ++ le_of 4 entry_width in
            let es : List ℕ = walked entry_width j.count j.first (drop j.first b) in
            let n : length es ≡ entry_width * j.count = walked-long entry_width j.count j.first (drop j.first b) in
            let m : length head ≡ starts_offset = front_long j.count (length b) s starts_offset (le_of 4 entry_width) in
            let z : stored (stored d 0 head) starts_offset es ≡ stored d 0 (head ++ es) =
            stored-join d head es 0 starts_offset (omega arith) (omega arith) in
            let t : head ++ es ≡ index_of (book_in b) =
            rw (entries-are, u, good.count)
            (sym (own_is b (octets-from b o) good.clears
            starts_offset entry_width (le_of 4 entry_width) refl (omega arith))) in
            w ∙ ap (λ (x : List ℕ). stored x starts_offset es) v ∙ z ∙ ap (stored d 0) t
            ∙ rw (verdict-by, le-leb size (length d) g)

pub ruleset makes = (make-refused, make-short, make-done)

pub ruleset leaves = (make-left, make-kept, make-put)
