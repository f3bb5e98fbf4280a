-- A part of a list of octets replaced by another of its length: the one vocabulary for every store, and the laws that loops and readers use.
-- Assumes nothing.
use Rattle.std.specs.Prelude.{◌≡◌, refl, cond, leb, List, [], ◌∷◌, ◌++◌, ℕ, suc, ◌+◌, ◌-◌, ◌<◌, ◌≤◌, length, take, drop, get_or, set, replicate}
use Rattle.std.proofs.Common.{sym, ap, ◌∙◌, append_assoc, append-nil, add-zero, add-suc, suc-add, le_of_lt, add-one, le-leb, arith, length-append, length-take, length-drop, take-append-drop, drop_of_length-le, length-take-le, take-suc, drop-cons, get_or-append-add, get_or-take, get_or-drop, take_at, drop_at, take_all, drop-drop}
use Rattle.std.proofs.lemmas.Bool.{lt-leb}
use Rattle.std.proofs.Math.ListN.{get_or-append}
use Rattle.std.proofs.lemmas.List.{length-replicate, get_or-replicate, set_at}
use Rattle.std.proofs.Math.Seq.{paste-suc, slice, length-slice, drop-append-add}
use Rattle.octets.specs.Cases.{split}

-- d with vs in place of what stands from i
unfoldable pub splice : List ℕ → ℕ → List ℕ → List ℕ
splice d i vs = take i d ++ vs ++ drop (i + length vs) d

-- the same where vs fits, else d itself
unfoldable pub stored : List ℕ → ℕ → List ℕ → List ℕ
stored d i vs = cond (leb (i + length vs) (length d)) (splice d i vs) d

-- the part from i to e stored at `to`, where the part is in d
unfoldable pub moved : List ℕ → ℕ → ℕ → ℕ → List ℕ
moved d i e to = cond (leb e (length d)) (stored d to (slice i e d)) d

-- ---- splice

pub splice-nil : (d : List ℕ) (i : ℕ) → splice d i [] ≡ d
unfolding splice
splice-nil d i = simp (add-zero, append-nil, take-append-drop)

pub length-splice : (d : List ℕ) (i : ℕ) (vs : List ℕ) → i + length vs ≤ length d → length (splice d i vs) ≡ length d
unfolding splice
length-splice d i vs h = simp (length-append, length-take, length-drop) (omega arith)

-- a store right behind the part, and right before it
splice-turn : (d : List ℕ) (i : ℕ) (s : List ℕ) (j : ℕ) → j < length s → i + j < length d → set (splice d i (take j s)) (i + j) (get_or s j 0) ≡ splice d i (take (j + 1) s)
unfolding splice
splice-turn d i s j h k =
    let e : length (take j s) ≡ j = length-take-le j s (le_of_lt h) in
    let f : length (take (suc j) s) ≡ suc j = length-take-le (suc j) s h in
    rw (add-one, e, f) (paste-suc d i s j 0 k h)

pub splice-cons : (d : List ℕ) (i v : ℕ) (vs : List ℕ) → i < length d → set (splice d (suc i) vs) i v ≡ splice d i (v ∷ vs)
unfolding splice
splice-cons d i v vs h =
    let n : length (take i d) ≡ i = length-take-le i d (le_of_lt h) in
    rw (take-suc d i 0 h, suc-add, add-suc) (simp (append_assoc) (set_at (take i d) (get_or d i 0) (vs ++ drop (suc (i + length vs)) d) v i n))

splice-turn-back : (d : List ℕ) (i : ℕ) (s : List ℕ) (k : ℕ) → k < length s → i + k < length d → set (splice d (i + (k + 1)) (drop (k + 1) s)) (i + k) (get_or s k 0) ≡ splice d (i + k) (drop k s)
splice-turn-back d i s k h l = rw (add-one, add-suc, drop-cons s k 0 h) (splice-cons d (i + k) (get_or s k 0) (drop (suc k) s) l)

-- what stands before the part, behind it and in it
pub splice-before : (d : List ℕ) (i : ℕ) (vs : List ℕ) (k : ℕ) → k < i → i ≤ length d → get_or (splice d i vs) k 0 ≡ get_or d k 0
unfolding splice
splice-before d i vs k h l =
    let n : length (take i d) ≡ i = length-take-le i d l in
    get_or-append (take i d ++ vs) _ 0 k (simp length-append (omega arith)) ∙ get_or-append (take i d) vs 0 k (omega arith) ∙ get_or-take i d k 0 h

pub splice-behind : (d : List ℕ) (i : ℕ) (vs : List ℕ) (k : ℕ) → i + length vs ≤ k → i ≤ length d → get_or (splice d i vs) k 0 ≡ get_or d k 0
unfolding splice
splice-behind d i vs k h l =
    let n : length (take i d ++ vs) ≡ i + length vs = simp (length-append, length-take-le i d l) in
    let e : length (take i d ++ vs) + (k - (i + length vs)) ≡ k = omega arith in
    let f : i + length vs + (k - (i + length vs)) ≡ k = omega arith in
    rw e at (get_or-append-add (take i d ++ vs) (drop (i + length vs) d) (k - (i + length vs)) 0) ∙ rw f at (get_or-drop (i + length vs) d (k - (i + length vs)) 0)

pub splice-within : (d : List ℕ) (i : ℕ) (vs : List ℕ) → i ≤ length d → take (length vs) (drop i (splice d i vs)) ≡ vs
unfolding splice
splice-within d i vs l =
    let n : length (take i d) ≡ i = length-take-le i d l in
    rw (append_assoc, drop_at (take i d) (vs ++ drop (i + length vs) d) i n, take_at vs (drop (i + length vs) d) (length vs) refl)

-- ---- stored and moved, where they fit and where not

pub stored-in : (d : List ℕ) (i : ℕ) (vs : List ℕ) → i + length vs ≤ length d → stored d i vs ≡ splice d i vs
unfolding stored
stored-in d i vs h = rw (le-leb (i + length vs) (length d) h)

pub stored-out : (d : List ℕ) (i : ℕ) (vs : List ℕ) → length d < i + length vs → stored d i vs ≡ d
unfolding stored
stored-out d i vs h = rw (lt-leb (i + length vs) (length d) h)

pub stored-nil : (d : List ℕ) (i : ℕ) → stored d i [] ≡ d
stored-nil d i = split (length d) (i + 0) (λ h. stored-out d i [] h) (λ h. stored-in d i [] h ∙ splice-nil d i)

pub length-stored : (d : List ℕ) (i : ℕ) (vs : List ℕ) → length (stored d i vs) ≡ length d
length-stored d i vs = split (length d) (i + length vs) (λ h. rw (stored-out d i vs h)) (λ h. rw (stored-in d i vs h) (length-splice d i vs h))

pub moved_in : (d : List ℕ) (i e to : ℕ) → e ≤ length d → moved d i e to ≡ stored d to (slice i e d)
unfolding moved
moved_in d i e to h = rw (le-leb e (length d) h)

pub moved_out : (d : List ℕ) (i e to : ℕ) → length d < e → moved d i e to ≡ d
unfolding moved
moved_out d i e to h = rw (lt-leb e (length d) h)

-- ---- two stores one behind the other are one

splice-next : (d a b : List ℕ) (i : ℕ) → i + length a ≤ length d
    → splice (splice d i a) (i + length a) b ≡ splice d i (a ++ b)
unfolding splice
splice-next d a b i h =
    let p : List ℕ = take i d ++ a in
    let r : List ℕ = drop (i + length a) d in
    let n : length p ≡ i + length a = simp (length-append, length-take-le i d (omega arith)) in
    let t : take (i + length a) (p ++ r) ≡ p = take_at p r (i + length a) n in
    let u : drop (i + length a + length b) (p ++ r) ≡ drop (i + length a + length b) d =
    rw n at (drop-append-add p r (length b)) ∙ drop-drop (length b) (i + length a) d in
    let s : i + length (a ++ b) ≡ i + length a + length b = simp length-append (omega arith) in
    rw (t, u, s) (simp append_assoc)

pub splice-join : (d a b : List ℕ) (i j : ℕ) → j ≡ i + length a → j + length b ≤ length d
    → splice (splice d i a) j b ≡ splice d i (a ++ b)
splice-join d a b i j e h = rw e (splice-next d a b i (omega arith))

pub stored-join : (d a b : List ℕ) (i j : ℕ) → j ≡ i + length a → j + length b ≤ length d → stored (stored d i a) j b ≡ stored d i (a ++ b)
stored-join d a b i j e h =
    let s : length (splice d i a) ≡ length d = length-splice d i a (omega arith) in
    let n : length (a ++ b) ≡ length a + length b = length-append a b in
    rw (stored-in d i a (omega arith), stored-in d i (a ++ b) (omega arith), stored-in (splice d i a) j b (omega arith))
    (splice-join d a b i j e h)

-- ---- loops, from their invariants

pub splice-none : (d : List ℕ) (i : ℕ) → d ≡ splice d i []
splice-none d i = sym (splice-nil d i)

-- a copy
pub copy_step : (b d : List ℕ) (i : ℕ) (s : List ℕ) (j : ℕ) → b ≡ splice d i (take j s) → j < length s → i + length s ≤ length d → set b (i + j) (get_or s j 0) ≡ splice d i (take (j + 1) s)
copy_step b d i s j e h k = rw e (splice-turn d i s j h (omega arith))

pub copy-end : (b d : List ℕ) (i : ℕ) (s : List ℕ) (j : ℕ) → b ≡ splice d i (take j s) → length s ≤ j → b ≡ splice d i s
copy-end b d i s j e h = rw (take_all j s h) at e

-- a fill
pub fill_step : (b d : List ℕ) (a e v j : ℕ) → b ≡ splice d a (take j (replicate (e - a) v)) → j < e - a → e ≤ length d → set b (a + j) v ≡ splice d a (take (j + 1) (replicate (e - a) v))
fill_step b d a e v j q h k =
    let l : length (replicate (e - a) v) ≡ e - a = length-replicate (e - a) v in
    rw q (rw (get_or-replicate (e - a) j v 0 h) at (splice-turn d a (replicate (e - a) v) j (omega arith) (omega arith)))

pub fill_end : (b d : List ℕ) (a n v j : ℕ) → b ≡ splice d a (take j (replicate n v)) → n ≤ j → b ≡ splice d a (replicate n v)
fill_end b d a n v j q h =
    let l : length (replicate n v) ≡ n = length-replicate n v in
    copy-end b d a (replicate n v) j q (omega arith)

get_d-slice : (i e : ℕ) (d : List ℕ) (j : ℕ) → i + j < e → get_or (slice i e d) j 0 ≡ get_or d (i + j) 0
get_d-slice i e d j h = get_or-drop i (take e d) j 0 ∙ get_or-take e d (i + j) 0 h

-- a move to lower places goes from the front: the octet at i + j is still what it was
pub down_step : (b d : List ℕ) (i e to j : ℕ) → b ≡ splice d to (take j (slice i e d)) → to ≤ i → e ≤ length d → j < e - i
    → set b (to + j) (get_or b (i + j) 0) ≡ splice d to (take (j + 1) (slice i e d))
down_step b d i e to j q h l k =
    let n : length (slice i e d) ≡ e - i = length-slice i e d l in
    let m : length (take j (slice i e d)) ≡ j = length-take-le j (slice i e d) (omega arith) in
    rw (q, splice-behind d to (take j (slice i e d)) (i + j) (omega arith) (omega arith), ← get_d-slice i e d j (omega arith))
    (splice-turn d to (slice i e d) j (omega arith) (omega arith))

pub down-end : (b d : List ℕ) (i e to j : ℕ) → b ≡ splice d to (take j (slice i e d)) → e ≤ length d → e - i ≤ j → b ≡ splice d to (slice i e d)
down-end b d i e to j q l k =
    let n : length (slice i e d) ≡ e - i = length-slice i e d l in
    copy-end b d to (slice i e d) j q (omega arith)

-- a move to higher places goes from the back
pub up_start : (d : List ℕ) (i e to : ℕ) → i ≤ to → i ≤ e → to + (e - i) ≤ length d → d ≡ splice d (to + (e - i)) (drop (e - i) (slice i e d))
up_start d i e to h k l =
    let n : length (slice i e d) ≡ e - i = length-slice i e d (omega arith) in
    rw (drop_of_length-le (slice i e d) {i = e - i} (omega arith)) (splice-none d (to + (e - i)))

pub up_step : (b d : List ℕ) (i e to k : ℕ) → b ≡ splice d (to + k) (drop k (slice i e d)) → 0 < k → k ≤ e - i → i ≤ to → to + (e - i) ≤ length d
    → set b (to + (k - 1)) (get_or b (i + (k - 1)) 0) ≡ splice d (to + (k - 1)) (drop (k - 1) (slice i e d))
up_step b d i e to k q z m h l =
    let n : length (slice i e d) ≡ e - i = length-slice i e d (omega arith) in
    let s : k ≡ k - 1 + 1 = omega arith in
    let p : b ≡ splice d (to + (k - 1 + 1)) (drop (k - 1 + 1) (slice i e d)) = q ∙ ap (λ (x : ℕ). splice d (to + x) (drop x (slice i e d))) s in
    rw (p, splice-before d (to + (k - 1 + 1)) (drop (k - 1 + 1) (slice i e d)) (i + (k - 1)) (omega arith) (omega arith), ← get_d-slice i e d (k - 1) (omega arith))
    (splice-turn-back d to (slice i e d) (k - 1) (omega arith) (omega arith))

pub up-end : (b d : List ℕ) (i e to k : ℕ) → b ≡ splice d (to + k) (drop k (slice i e d)) → k ≤ 0 → b ≡ splice d to (slice i e d)
up-end b d i e to k q z =
    let y : k ≡ 0 = omega arith in
    q ∙ rw (y, add-zero)

pub ruleset loops = (splice-none, copy_step, copy-end, fill_step, fill_end, down_step, down-end, up_start, up_step, up-end)

-- ---- what the tests before a store leave

pub fits_not : (d : List ℕ) (i : ℕ) (vs : List ℕ) → length d < length vs → d ≡ stored d i vs
fits_not d i vs h = sym (stored-out d i vs (omega arith))

pub fits-not-there : (d : List ℕ) (i : ℕ) (vs : List ℕ) → length d - length vs < i → d ≡ stored d i vs
fits-not-there d i vs h = sym (stored-out d i vs (omega arith))

pub fits : (x d : List ℕ) (i : ℕ) (vs : List ℕ) → x ≡ splice d i vs → length vs ≤ length d → i ≤ length d - length vs → x ≡ stored d i vs
fits x d i vs q h k = q ∙ sym (stored-in d i vs (omega arith))

pub clear_none : (d : List ℕ) (a e : ℕ) → e < a → d ≡ stored d a (replicate (e - a) 0)
clear_none d a e h =
    let z : e - a ≡ 0 = omega arith in
    rw z (sym (stored-nil d a))

pub clear-past : (d : List ℕ) (a e : ℕ) → a ≤ e → length d < e → d ≡ stored d a (replicate (e - a) 0)
clear-past d a e h k =
    let l : length (replicate {A = ℕ} (e - a) 0) ≡ e - a = length-replicate (e - a) 0 in
    sym (stored-out d a (replicate (e - a) 0) (omega arith))

pub clear_in : (x d : List ℕ) (a e : ℕ) → x ≡ splice d a (replicate (e - a) 0) → a ≤ e → e ≤ length d → x ≡ stored d a (replicate (e - a) 0)
clear_in x d a e q h k =
    let l : length (replicate {A = ℕ} (e - a) 0) ≡ e - a = length-replicate (e - a) 0 in
    q ∙ sym (stored-in d a (replicate (e - a) 0) (omega arith))

pub moved_none : (d : List ℕ) (i e to : ℕ) → e < i → d ≡ moved d i e to
moved_none d i e to h =
    split (length d) e (λ k. sym (moved_out d i e to k))
    (λ k. let n : length (slice i e d) ≡ e - i = length-slice i e d k in
    let z : slice i e d ≡ [] = drop_of_length-le (take e d) {i = i} (rw (length-take-le e d k) (omega arith)) in
    sym (moved_in d i e to k ∙ ap (stored d to) z ∙ stored-nil d to))

pub moved-past : (d : List ℕ) (i e to : ℕ) → length d < e → d ≡ moved d i e to
moved-past d i e to h = sym (moved_out d i e to h)

pub moved-over : (d : List ℕ) (i e to : ℕ) → i ≤ e → e ≤ length d → length d - (e - i) < to → d ≡ moved d i e to
moved-over d i e to h k l =
    let n : length (slice i e d) ≡ e - i = length-slice i e d k in
    sym (moved_in d i e to k ∙ stored-out d to (slice i e d) (omega arith))

pub moved_to : (x d : List ℕ) (i e to : ℕ) → x ≡ splice d to (slice i e d) → i ≤ e → e ≤ length d → to ≤ length d - (e - i) → x ≡ moved d i e to
moved_to x d i e to q h k l =
    let n : length (slice i e d) ≡ e - i = length-slice i e d k in
    q ∙ sym (moved_in d i e to k ∙ stored-in d to (slice i e d) (omega arith))

pub ruleset shells = (fits_not, fits-not-there, fits, clear_none, clear-past, clear_in, moved_none, moved-past, moved-over, moved_to)
