-- Stores one behind the other, over one another and before one another: what is laid down in parts is one store.
-- Assumes nothing.
use Rattle.std.specs.Prelude.{ℕ, zero, suc, ◌+◌, ◌-◌, ◌≤◌, ◌<◌, ◌≡◌, refl, List, [], ◌∷◌, ◌++◌, take, set, replicate}
use Rattle.std.proofs.Common.{arith, sym, ap₂, ◌∙◌, append_assoc, length-append, length-drop, length-set, take-append-drop, take_at, take-take, take-add, drop-set-lt, drop-cons, drop-drop, get_or-set_same}
use Rattle.std.proofs.Math.Path.{ap}
use Rattle.std.proofs.Math.ListN.{length, drop}
use Rattle.std.proofs.Math.Seq.{length-take-le, drop_at, drop-append-add, paste, slice, length-slice}
use Rattle.std.proofs.lemmas.List.{take-set-le, length-replicate}
use Rattle.std.proofs.lemmas.Slice.{between_is}
use borrow.Rule.Slice.PartMut.{put_mid}
use Rattle.octets.specs.Cases.{split}
use Rattle.octets.specs.Splice.{splice, splice-nil, splice-cons, splice-join, splice-within, length-splice}
use Rattle.octets.specs.Splice.{stored, stored-in, stored-out, stored-join, moved, moved_to}
use Rattle.octets.specs.Word.{le_of, length-le_of}

-- ---- one octet more

pub splice-one : (d : List ℕ) (i v : ℕ) → i < length d → set d i v ≡ splice d i (v ∷ [])
splice-one d i v h = rw (splice-nil d (suc i)) at (splice-cons d i v [] h)

-- the last of the octets may be stored first
pub splice-last : (d a : List ℕ) (i v : ℕ) → i + length a < length d
    → splice (set d (i + length a) v) i a ≡ splice d i (a ++ (v ∷ []))
unfolding splice
splice-last d a i v h =
    let j : ℕ = i + length a in
    let n : i + length (a ++ (v ∷ [])) ≡ suc j = rw (length-append a (v ∷ [])) (omega arith) in
    let t : take i (set d j v) ≡ take i d = take-set-le i d j v (omega arith) in
    let l : length (set d j v) ≡ length d = length-set d j v in
    let u : drop j (set d j v) ≡ v ∷ drop (suc j) d =
    drop-cons (set d j v) j 0 (omega arith) ∙ rw (get_or-set_same d j v 0 h, drop-set-lt (suc j) d j v (omega arith)) in
    rw (t, u, n) (simp append_assoc)

-- ---- parts one behind the other

-- a part and what stays to be stored behind it
pub laid : (d e a b : List ℕ) (i j : ℕ) → e ≡ splice d i a → j ≡ i + length a → j + length b ≤ length d
    → splice e j b ≡ splice d i (a ++ b)
laid d e a b i j q z h = rw q (splice-join d a b i j z h)

-- the same for one octet
pub laid_one : (d : List ℕ) (v : ℕ) (b : List ℕ) (i : ℕ) → i + 1 + length b ≤ length d
    → splice (set d i v) (i + 1) b ≡ splice d i (v ∷ b)
laid_one d v b i h = laid d (set d i v) (v ∷ []) b i (i + 1) (splice-one d i v (omega arith)) (omega arith) h

pub laid-long : (d e a : List ℕ) (i : ℕ) → e ≡ splice d i a → i + length a ≤ length d → length e ≡ length d
laid-long d e a i q h = ap length q ∙ length-splice d i a h

-- one part more of zs
pub stored_more : (x d : List ℕ) (i j : ℕ) (zs bs cs : List ℕ) → x ≡ stored d i (take (j - i) zs)
    → drop (j - i) zs ≡ bs ++ cs → i ≤ j → i + length zs ≤ length d → j - i ≤ length zs
    → stored x j bs ≡ stored d i (take (j + length bs - i) zs)
stored_more x d i j zs bs cs e q h k g =
    let front : List ℕ = take (j - i) zs in
    let n : length front ≡ j - i = length-take-le (j - i) zs g in
    let l : length zs - (j - i) ≡ length bs + length cs =
    sym (length-drop (j - i) zs) ∙ ap length q ∙ length-append bs cs in
    let z : j + length bs - i ≡ j - i + length bs = omega arith in
    let t : take (j - i + length bs) zs ≡ front ++ bs =
    take-add (j - i) (length bs) zs ∙ ap (λ (y : List ℕ). front ++ take (length bs) y) q
    ∙ ap (λ (y : List ℕ). front ++ y) (take_at bs cs (length bs) refl) in
    rw (e, z, t) (stored-join d front bs i j (omega arith) (omega arith))

-- ---- a store over another, before another, and over what is the same

alike : (b d : List ℕ) (i : ℕ) (vs : List ℕ) → take i b ≡ take i d → drop (i + length vs) b ≡ drop (i + length vs) d
    → splice b i vs ≡ splice d i vs
unfolding splice
alike b d i vs f r = ap₂ (λ (x y : List ℕ). x ++ vs ++ y) f r

put : (b d : List ℕ) (i : ℕ) (ws xs : List ℕ) → take i b ≡ take i d
    → drop (i + length ws) b ≡ xs ++ drop (i + length (ws ++ xs)) d → splice b i ws ≡ splice d i (ws ++ xs)
unfolding splice
put b d i ws xs f r =
    let rest : List ℕ = drop (i + length (ws ++ xs)) d in
    ap₂ (λ (x y : List ℕ). x ++ ws ++ y) f r ∙ append_assoc (take i d) ws (xs ++ rest)
    ∙ ap (λ (y : List ℕ). take i d ++ y) (sym (append_assoc ws xs rest)) ∙ sym (append_assoc (take i d) (ws ++ xs) rest)

own : (d : List ℕ) (i n : ℕ) → splice d i (take n (drop i d)) ≡ d
unfolding splice
own d i n =
    let part : List ℕ = take n (drop i d) in
    append_assoc (take i d) part (drop (i + length part) d)
    ∙ ap (λ (y : List ℕ). take i d ++ (part ++ y)) (sym (drop-drop (length part) i d))
    ∙ ap (λ (y : List ℕ). take i d ++ y) (shorter n (drop i d)) ∙ take-append-drop i d
  where
    shorter : (n : ℕ) (xs : List ℕ) → take n xs ++ drop (length (take n xs)) xs ≡ xs
    shorter zero xs = refl
    shorter (suc n) [] = refl
    shorter (suc n) (x ∷ xs) = ap (λ (l : List ℕ). x ∷ l) (shorter n xs)

module _ (d : List ℕ) (i : ℕ) (xs : List ℕ) (h : i + length xs ≤ length d) where
  front-is : take i (splice d i xs) ≡ take i d
  unfolding splice
  front-is =
      rw (append_assoc (take i d) xs (drop (i + length xs) d))
      (take_at (take i d) (xs ++ drop (i + length xs) d) i (length-take-le i d (omega arith)))

  rest-is : drop (i + length xs) (splice d i xs) ≡ drop (i + length xs) d
  unfolding splice
  rest-is =
      let n : length (take i d) ≡ i = length-take-le i d (omega arith) in
      drop_at (take i d ++ xs) (drop (i + length xs) d) (i + length xs)
      (length-append (take i d) xs ∙ ap (λ (m : ℕ). m + length xs) n)

  from_is : drop i (splice d i xs) ≡ xs ++ drop (i + length xs) d
  unfolding splice
  from_is =
      rw (append_assoc (take i d) xs (drop (i + length xs) d))
      (drop_at (take i d) (xs ++ drop (i + length xs) d) i (length-take-le i d (omega arith)))

-- over what was stored
pub stored-again : (d : List ℕ) (i : ℕ) (xs ys : List ℕ) → i + length xs ≤ length d → length ys ≡ length xs
    → stored (stored d i xs) i ys ≡ stored d i ys
stored-again d i xs ys h e =
    let s : length (splice d i xs) ≡ length d = length-splice d i xs h in
    rw (stored-in d i xs h, stored-in d i ys (omega arith), stored-in (splice d i xs) i ys (omega arith))
    (alike (splice d i xs) d i ys (front-is d i xs h) (rw e (rest-is d i xs h)))

-- right before it
pub stored-before : (d : List ℕ) (i j : ℕ) (ws xs : List ℕ) → j ≡ i + length ws → j + length xs ≤ length d
    → stored (stored d j xs) i ws ≡ stored d i (ws ++ xs)
stored-before d i j ws xs e h =
    let s : length (splice d j xs) ≡ length d = length-splice d j xs h in
    let n : length (ws ++ xs) ≡ length ws + length xs = length-append ws xs in
    let m : j + length xs ≡ i + length (ws ++ xs) = omega arith in
    let f : take i (splice d j xs) ≡ take i d =
    sym (take-take i j (splice d j xs) (omega arith)) ∙ ap (take i) (front-is d j xs h)
    ∙ take-take i j d (omega arith) in
    let r : drop (i + length ws) (splice d j xs) ≡ xs ++ drop (i + length (ws ++ xs)) d =
    ap (λ (k : ℕ). drop k (splice d j xs)) (sym e) ∙ from_is d j xs h ∙ ap (λ (k : ℕ). xs ++ drop k d) m in
    rw (stored-in d j xs h, stored-in d i (ws ++ xs) (omega arith), stored-in (splice d j xs) i ws (omega arith))
    (put (splice d j xs) d i ws xs f r)

-- what stands there already
pub stored-own : (d : List ℕ) (i n : ℕ) → stored d i (take n (drop i d)) ≡ d
stored-own d i n =
    let part : List ℕ = take n (drop i d) in
    split (length d) (i + length part) (λ h. stored-out d i part h) (λ h. stored-in d i part h ∙ own d i n)

-- what is read back
pub stored-part : (d : List ℕ) (i : ℕ) (xs : List ℕ) → i + length xs ≤ length d
    → take (length xs) (drop i (stored d i xs)) ≡ xs
stored-part d i xs h = rw (stored-in d i xs h) (splice-within d i xs (omega arith))

-- a part that was lent comes back
pub part-back : (d : List ℕ) (a e : ℕ) (m : List ℕ) → a ≤ e → e ≤ length d → length m ≡ e - a
    → put_mid a (e - a) d m ≡ stored d a m
unfolding splice
part-back d a e m h k l =
    let z : a + length m ≡ e = omega arith in
    let y : a + (e - a) ≡ e = omega arith in
    rw (stored-in d a m (omega arith), z)
    (ap (λ (l : List ℕ). take a d ++ (m ++ l)) (drop-drop (e - a) a d ∙ ap (λ (u : ℕ). drop u d) y)
    ∙ sym (append_assoc (take a d) m (drop e d)))

-- the part cleared, copied to or moved in one step
pub part_cleared : (d : List ℕ) (a e : ℕ) (m : List ℕ) → m ≡ replicate (length (take (e - a) (drop a d))) 0 → a ≤ e → e ≤ length d
    → put_mid a (e - a) d m ≡ stored d a (replicate (e - a) 0)
part_cleared d a e m q h k =
    let n : length (take (e - a) (drop a d)) ≡ e - a = length-take-le (e - a) (drop a d) (simp length-drop (omega arith)) in
    let f : m ≡ replicate (e - a) 0 = rw n at q in
    let l : length m ≡ e - a = ap length f ∙ length-replicate (e - a) 0 in
    part-back d a e m h k l ∙ ap (stored d a) f

pub part_copied : (d : List ℕ) (i : ℕ) (vs m : List ℕ) → m ≡ vs → length vs ≤ length d → i ≤ length d - length vs
    → put_mid i (i + length vs - i) d m ≡ stored d i vs
part_copied d i vs m q h k = part-back d i (i + length vs) m (omega arith) (omega arith) (ap length q ∙ omega arith) ∙ ap (stored d i) q

pub part_word : (d : List ℕ) (i n v : ℕ) (m : List ℕ) → m ≡ le_of (length (take (i + n - i) (drop i d))) v → n ≤ length d → i ≤ length d - n
    → put_mid i (i + n - i) d m ≡ stored d i (le_of n v)
part_word d i n v m q h k =
    let y : i + n - i ≡ n = omega arith in
    let z : length (take n (drop i d)) ≡ n = length-take-le n (drop i d) (simp length-drop (omega arith)) in
    let f : m ≡ le_of n v = rw (y, z) at q in
    part-back d i (i + n) m (omega arith) (omega arith) (ap length f ∙ length-le_of n v ∙ omega arith) ∙ ap (stored d i) f

pub part_moved : (x d : List ℕ) (i e to : ℕ) → x ≡ paste d to (drop i d) (e - i) → i ≤ e → e ≤ length d → to ≤ length d - (e - i)
    → x ≡ moved d i e to
unfolding splice
part_moved x d i e to q h k l =
    let n : length (slice i e d) ≡ e - i = length-slice i e d k in
    let b : take (e - i) (drop i d) ≡ slice i e d = between_is d i e in
    let y : x ≡ splice d to (slice i e d) = rw (n, ← b) q in
    moved_to x d i e to y h k l

-- ---- in lists that are known part by part

pub splice_at : (p t vs : List ℕ) → splice (p ++ t) (length p) vs ≡ p ++ (vs ++ drop (length vs) t)
unfolding splice
splice_at p t vs =
    rw (take_at p t (length p) refl, drop-append-add p t (length vs)) (append_assoc p vs (drop (length vs) t))

-- one part for another of its length
pub stored-over : (p a b t : List ℕ) (n : ℕ) → n ≡ length p → length b ≡ length a
    → stored (p ++ (a ++ t)) n b ≡ p ++ (b ++ t)
stored-over p a b t n e h =
    let l = length-append p (a ++ t) in
    let m = length-append a t in
    let s : stored (p ++ (a ++ t)) (length p) b ≡ p ++ (b ++ drop (length b) (a ++ t)) =
    stored-in (p ++ (a ++ t)) (length p) b (omega arith) ∙ splice_at p (a ++ t) b in
    rw e (s ∙ rw (drop_at a t (length b) (sym h)))

-- in front of a buffer
pub front-stored : (d xs : List ℕ) → length xs ≤ length d → stored d 0 xs ≡ xs ++ drop (length xs) d
unfolding splice
front-stored d xs h =
    let z : 0 + length xs ≡ length xs = omega arith in
    stored-in d 0 xs (omega arith) ∙ ap (λ (n : ℕ). xs ++ drop n d) z
