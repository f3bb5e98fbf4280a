-- The ways of the code that replaces parts in a buffer, on plain values. Behind the book stands a tail that depends on the book's length alone, so every
-- change of one length is a change of the front.
use Prim.Native.Nat.{ℕ, ◌+◌, ◌-◌, ◌≤◌, ◌<◌}
use native.Mathlib.Omega.{arith}
use Rattle.std.specs.Prelude.{◌≡◌, Bool, true, false, leb, take, replicate}
use Rattle.std.proofs.Math.Path.{refl, ap, ap₂}
use Rattle.std.proofs.Common.{sym, ◌∙◌, length-drop, length-set, take-append-drop, length-take-le, take-take, take_at, drop_at, drop-drop, take-add}
use Rattle.std.proofs.Math.Option.{Option, none, some}
use mathlib.Core.List.{List, ◌++◌, append_assoc}
use Rattle.std.proofs.Math.ListN.{length, drop, length-append}
use Rattle.std.proofs.lemmas.List.{length-replicate, take-append-le, drop-append-le}
use Rattle.std.proofs.Math.Seq.{slice, length-slice, drop-append-add}
use borrow.Rule.Slice.PartMut.{put_mid}
use borrow.Author.Tests.{le-leb, lt-leb, leb-true}
use Rattle.answers.specs.Numbers.{breaks_rule, no_room, most_octets}
use Rattle.answers.specs.Verdict.{Verdict}
use Rattle.answers.specs.Verdict.{clear}
use Rattle.answers.specs.Verdict.{refused, ◌then◌, need, apart, unmet}
use Rattle.octets.specs.Splice.{splice, stored, moved, stored-in, moved_in, stored-join}
use Rattle.octets.specs.Word.{le_of, word_of}
use Rattle.serial.specs.Serial.{serial_of}
use Rattle.presence.specs.Presence.{room, set_bit, clear_bit}
use Rattle.book.specs.Book.{sealed, sealed-length}
use Rattle.entry.specs.Record.{present_in}
use Rattle.entry.specs.Values.{entry_octets}
use Rattle.editing.specs.Put.{put, buffer_of, resealed, mark, spliced}

-- ---- a book of n octets: the limit, then the buffer

unfoldable pub room_in : ℕ → ℕ → Verdict
room_in n room =
    need (leb n most_octets) breaks_rule 0
    then need (leb n room) no_room 0

module _ (n room : ℕ) (v : Verdict) where
  pub room-limit : most_octets < n → v ≡ refused breaks_rule 0 → v ≡ room_in n room
  unfolding room_in
  room-limit h e = rw (lt-leb n most_octets h) e

  pub room-none : n ≤ most_octets → room < n → v ≡ refused no_room 0 → v ≡ room_in n room
  unfolding room_in
  room-none h k e = rw (le-leb n most_octets h, lt-leb n room k) e

pub room-good : (n room : ℕ) → n ≤ most_octets → n ≤ room → clear ≡ room_in n room
unfolding room_in
room-good n room h k = rw (le-leb n most_octets h, le-leb n room k)

pub room-keeps : (n room : ℕ) → room_in n room ≡ clear → (n ≤ most_octets) × (n ≤ room)
unfolding room_in
room-keeps n room e =
    let c = apart (need (leb n most_octets) breaks_rule 0) _ e in
    (leb-true n most_octets (unmet _ breaks_rule 0 c.0), leb-true n room (unmet _ no_room 0 c.1))

pub ruleset rooms = (room-limit, room-none, room-good)

-- ---- put

bracket : (a b c t : List ℕ) → a ++ (b ++ (c ++ t)) ≡ (a ++ (b ++ c)) ++ t
bracket a b c t = sym (append_assoc a (b ++ c) t ∙ ap (λ (l : List ℕ). a ++ l) (append_assoc b c t))

pub put-length : (a e : ℕ) (new xs : List ℕ) → a ≤ length xs → length (put a e new xs) ≡ a + length new + (length xs - e)
put-length a e new xs h =
    let p = length-append (take a xs) (new ++ drop e xs) in
    let q = length-append new (drop e xs) in
    let r = length-take-le a xs h in
    let s = length-drop e xs in
    omega arith

pub put_front : (a e : ℕ) (v xs t : List ℕ) → a ≤ length xs → e ≤ length xs → put a e v (xs ++ t) ≡ put a e v xs ++ t
put_front a e v xs t h k = rw (take-append-le a xs t h, drop-append-le e xs t k) (bracket (take a xs) v (drop e xs) t)

pub stored-put : (d : List ℕ) (i : ℕ) (v : List ℕ) → i + length v ≤ length d → stored d i v ≡ put i (i + length v) v d
unfolding splice
stored-put d i v h = stored-in d i v h ∙ append_assoc (take i d) v (drop (i + length v) d)

-- ---- replace

module _ (d new : List ℕ) (len a e : ℕ) (h : a ≤ e) (i : e ≤ len) (j : len ≤ length d) (k : a + length new + (len - e) ≤ length d) where
  abbrev ys : List ℕ
  ys = put a e new (take len d)

  ys-length : length ys ≡ a + length new + (len - e)
  ys-length =
      let l : length (take len d) ≡ len = length-take-le len d j in
      put-length a e new (take len d) (omega arith) ∙ ap (λ (n : ℕ). a + length new + (n - e)) l

  -- what follows is moved, and the new octets stand before it
  two : (b c : List ℕ) → b ≡ moved d e len (a + length new) → c ≡ stored b a new → c ≡ ys ++ drop (a + length new + (len - e)) d
  two b c p q =
      let to : ℕ = a + length new in
      let s : List ℕ = slice e len d in
      let n : length s ≡ len - e = length-slice e len d j in
      let m : length (take to d) ≡ to = length-take-le to d (omega arith) in
      let b₁ : b ≡ take to d ++ (s ++ drop (to + (len - e)) d) = p ∙ moved_in d e len to j ∙ stored-put d to s (omega arith) ∙ ap (λ (x : ℕ). take to d ++ (s ++ drop (to + x) d)) n in
      let l : length b ≡ length d = ap length b₁ ∙ whole (take to d) s (drop (to + (len - e)) d) (length d) (omega (arith, m, n, length-drop (to + (len - e)) d)) in
      let c₁ : c ≡ put a to new b = q ∙ stored-put b a new (omega arith) in
      let t₁ : take a b ≡ take a (take len d) =
      ap (take a) b₁ ∙ take-append-le a (take to d) _ (omega arith) ∙ take-take a to d (omega arith) ∙ sym (take-take a len d (omega arith)) in
      let t₂ : drop to b ≡ s ++ drop (to + (len - e)) d = ap (drop to) b₁ ∙ drop_at (take to d) (s ++ drop (to + (len - e)) d) to m in
      c₁ ∙ ap₂ (λ (x y : List ℕ). x ++ (new ++ y)) t₁ t₂ ∙ bracket (take a (take len d)) new s (drop (to + (len - e)) d)
    where
      whole : (x y z : List ℕ) (n : ℕ) → length x + (length y + length z) ≡ n → length (x ++ (y ++ z)) ≡ n
      whole x y z n e = length-append x (y ++ z) ∙ ap (λ (m : ℕ). length x + m) (length-append y z) ∙ e

  pub replace-is : (b c x : List ℕ) → b ≡ moved d e len (a + length new) → c ≡ stored b a new
      → x ≡ stored c (a + length new + (len - e)) (replicate (len - (a + length new + (len - e))) 0) → x ≡ buffer_of d len (put a e new (take len d))
  replace-is b c x p q r =
      let end : ℕ = a + length new + (len - e) in
      let z : List ℕ = replicate (len - end) 0 in
      let n : length z ≡ len - end = length-replicate (len - end) 0 in
      let y : length ys ≡ end = ys-length in
      let c₁ : c ≡ ys ++ drop end d = two b c p q in
      let l : length c ≡ length d = ap length c₁ ∙ length-append ys (drop end d) ∙ ap₂ (λ (u v : ℕ). u + v) y (length-drop end d) ∙ back end (length d) k in
      let x₁ : x ≡ take end c ++ (z ++ drop (end + (len - end)) c) = r ∙ stored-put c end z (omega arith) ∙ ap (λ (u : ℕ). take end c ++ (z ++ drop (end + u) c)) n in
      let t₁ : take end c ≡ ys = ap (take end) c₁ ∙ take_at ys (drop end d) end y in
      let t₂ : drop (end + (len - end)) c ≡ drop (end + (len - end)) d =
      ap₂ (λ (u : ℕ) (v : List ℕ). drop (u + (len - end)) v) (sym y) c₁ ∙ drop-append-add ys (drop end d) (len - end) ∙ drop-drop (len - end) end d in
      x₁ ∙ ap₂ (λ (u v : List ℕ). u ++ (z ++ v)) t₁ t₂ ∙ ap (λ (u : ℕ). ys ++ (replicate (len - u) 0 ++ drop (u + (len - u)) d)) (sym y)
    where
      back : (u v : ℕ) → u ≤ v → u + (v - u) ≡ v
      back u v h = omega arith

-- the octets from m up to n
pub part_of : (d : List ℕ) (m n : ℕ) → m ≤ n → m ≤ length d → drop m (take n d) ≡ take (n - m) (drop m d)
part_of d m n h k =
    let z : n ≡ m + (n - m) = omega arith in
    ap (λ (u : ℕ). drop m (take u d)) z ∙ ap (drop m) (take-add m (n - m) d) ∙ drop_at (take m d) (take (n - m) (drop m d)) m (length-take-le m d k)

-- ---- reseal

pub reseal-is : (d : List ℕ) (len count s : ℕ) (b c x : List ℕ) → 12 ≤ len → len ≤ length d → s ≡ serial_of (take (len - 12) (drop 12 d))
    → b ≡ stored d 0 (le_of 4 32) → c ≡ stored b 4 (le_of 4 s) → x ≡ stored c 8 (le_of 4 count) → x ≡ put 0 len (resealed count (take len d)) d
unfolding resealed sealed
reseal-is d len count s b c x h k e p q r =
    let l₄ : length d ≡ length d = refl in
    let c₁ : c ≡ stored d 0 (le_of 4 32 ++ le_of 4 s) = q ∙ ap (λ (l : List ℕ). stored l 4 (le_of 4 s)) p ∙ stored-join d (le_of 4 32) (le_of 4 s) 0 4 refl (omega arith) in
    let x₁ : x ≡ stored d 0 ((le_of 4 32 ++ le_of 4 s) ++ le_of 4 count) =
    r ∙ ap (λ (l : List ℕ). stored l 8 (le_of 4 count)) c₁ ∙ stored-join d (le_of 4 32 ++ le_of 4 s) (le_of 4 count) 0 8 refl (omega arith) in
    let x₂ : x ≡ put 0 12 ((le_of 4 32 ++ le_of 4 s) ++ le_of 4 count) d = x₁ ∙ stored-put d 0 ((le_of 4 32 ++ le_of 4 s) ++ le_of 4 count) (omega arith) in
    let f : drop 12 (take len d) ≡ take (len - 12) (drop 12 d) = part_of d 12 len h (omega arith) in
    let g : drop 12 d ≡ take (len - 12) (drop 12 d) ++ drop len d = rest d 12 len h in
    x₂ ∙ rw (f, ← e) (ap (λ (l : List ℕ). le_of 4 32 ++ (le_of 4 s ++ (le_of 4 count ++ l))) g)
  where
    rest : (d : List ℕ) (m n : ℕ) → m ≤ n → drop m d ≡ take (n - m) (drop m d) ++ drop n d
    rest d m n h =
        let z : m + (n - m) ≡ n = omega arith in
        sym (take-append-drop (n - m) (drop m d)) ∙ ap (λ (l : List ℕ). take (n - m) (drop m d) ++ l) (drop-drop (n - m) m d ∙ ap (λ (u : ℕ). drop u d) z)

-- ---- an entry of a record

-- what is offered for a column: a value, or nothing
abbrev pub offered : Bool → List ℕ → Option (List ℕ)
offered true v = some v
offered false v = none

abbrev pub marked_by : Bool → List ℕ → ℕ → List ℕ
marked_by true p c = set_bit p c
marked_by false p c = clear_bit p c

pub marked-is : (t : Bool) (v p : List ℕ) (c : ℕ) → mark (offered t v) p c ≡ marked_by t p c
marked-is true v p c = refl
marked-is false v p c = refl

pub marked-length : (t : Bool) (p : List ℕ) (c : ℕ) → length (marked_by t p c) ≡ length p
unfolding set_bit clear_bit
marked-length true p c = length-set p _ _
marked-length false p c = length-set p _ _

part-put : (d m : List ℕ) (a e : ℕ) → a ≤ e → put_mid a (e - a) d m ≡ put a e m d
part-put d m a e h =
    let z : a + (e - a) ≡ e = omega arith in
    ap (λ (l : List ℕ). take a d ++ (m ++ l)) (drop-drop (e - a) a d ∙ ap (λ (u : ℕ). drop u d) z)

module _ (d m : List ℕ) (a e c : ℕ) (t : Bool) (h : a ≤ e) where
  pub mark-there : t ≡ true → m ≡ set_bit (take (e - a) (drop a d)) c → put_mid a (e - a) d m ≡ put a e (marked_by t (take (e - a) (drop a d)) c) d
  mark-there z q = part-put d m a e h ∙ rw (z, q)

  pub mark-absent : t ≡ false → m ≡ clear_bit (take (e - a) (drop a d)) c → put_mid a (e - a) d m ≡ put a e (marked_by t (take (e - a) (drop a d)) c) d
  mark-absent z q = part-put d m a e h ∙ rw (z, q)

pub ruleset marks = (mark-there, mark-absent)

-- octets before n are those of the front
front-part : (xs t : List ℕ) (a n : ℕ) → a + n ≤ length xs → take n (drop a (xs ++ t)) ≡ take n (drop a xs)
front-part xs t a n h =
    let l : length (drop a xs) ≡ length xs - a = length-drop a xs in
    ap (take n) (drop-append-le a xs t (omega arith)) ∙ take-append-le n (drop a xs) t (omega arith)

word-front : (xs t : List ℕ) (a : ℕ) → a + 4 ≤ length xs → word_of 4 (drop a (xs ++ t)) ≡ word_of 4 (drop a xs)
unfolding word_of
word-front xs t a h = rw (front-part xs t a 4 h)

pub word-taken : (d : List ℕ) (len a : ℕ) → a + 4 ≤ len → len ≤ length d → word_of 4 (drop a d) ≡ word_of 4 (drop a (take len d))
word-taken d len a h k =
    let l : length (take len d) ≡ len = length-take-le len d k in
    ap (λ (x : List ℕ). word_of 4 (drop a x)) (sym (take-append-drop len d)) ∙ word-front (take len d) (drop len d) a (omega arith)

-- ---- changes of the front

pub same-put : (d : List ℕ) (len a e : ℕ) (v ys b x : List ℕ) → b ≡ buffer_of d len ys → x ≡ put a e v b → e ≤ length ys → a + length v ≡ e → x ≡ buffer_of d len (put a e v ys)
same-put d len a e v ys b x p q h k =
    let l : length (put a e v ys) ≡ length ys = put-length a e v ys (omega arith) ∙ back a (length v) e (length ys) k h in
    q ∙ ap (put a e v) p ∙ put_front a e v ys _ (omega arith) h ∙ ap (λ (n : ℕ). put a e v ys ++ (replicate (len - n) 0 ++ drop (n + (len - n)) d)) (sym l)
  where
    back : (a n e m : ℕ) → a + n ≡ e → e ≤ m → a + n + (m - e) ≡ m
    back a n e m k h = omega arith

pub resealed-length : (count : ℕ) (ys : List ℕ) → 12 ≤ length ys → length (resealed count ys) ≡ length ys
unfolding resealed
resealed-length count ys h =
    let l = sealed-length count (drop 12 ys) in
    let m = length-drop 12 ys in
    omega arith

pub seal-buffer : (d : List ℕ) (len count n : ℕ) (ys b x : List ℕ) → b ≡ buffer_of d len ys → length ys ≡ n → 12 ≤ n → x ≡ put 0 n (resealed count (take n b)) b
    → x ≡ buffer_of d len (resealed count ys)
seal-buffer d len count n ys b x p l h q =
    let t : List ℕ = replicate (len - length ys) 0 ++ drop (length ys + (len - length ys)) d in
    let f : take n b ≡ ys = ap (take n) p ∙ take_at ys t n l in
    let g : drop n b ≡ t = ap (drop n) p ∙ drop_at ys t n l in
    let r : length (resealed count ys) ≡ length ys = resealed-length count ys (omega arith) in
    q ∙ ap₂ (λ (u v : List ℕ). resealed count u ++ v) f g ∙ ap (λ (n : ℕ). resealed count ys ++ (replicate (len - n) 0 ++ drop (n + (len - n)) d)) (sym r)

-- ---- records replaced

pub records_is : (d new : List ℕ) (len a e count : ℕ) (b x : List ℕ) → 12 ≤ a → a ≤ e → e ≤ len → len ≤ length d → a + length new + (len - e) ≤ length d
    → b ≡ buffer_of d len (put a e new (take len d)) → x ≡ put 0 (a + length new + (len - e)) (resealed count (take (a + length new + (len - e)) b)) b
    → x ≡ buffer_of d len (resealed count (put a e new (take len d)))
records_is d new len a e count b x o h i j k p q =
    seal-buffer d len count (a + length new + (len - e)) (put a e new (take len d)) b x p (ys-length d new len a e h i j k) (omega arith) q

-- ---- an entry replaced

module _ (d v : List ℕ) (len at n c start long s m : ℕ) (t : Bool)
    (h₁ : 12 ≤ at) (h₂ : at + 4 + room n ≤ start) (h₃ : start + long ≤ len) (h₄ : len ≤ length d) (h₅ : len - long + length v ≤ length d) (h₆ : long ≤ word_of 4 (drop at d))
    (w : v ≡ entry_octets (offered t v)) (sz : s ≡ word_of 4 (drop at d)) (mz : m ≡ room n) where
  abbrev xs : List ℕ
  xs = take len d

  abbrev zs : List ℕ
  zs = put start (start + long) v xs

  xs-length : length xs ≡ len
  xs-length = length-take-le len d h₄

  zs-length : length zs ≡ len - long + length v
  zs-length =
      let l = xs-length in
      let r = put-length start (start + long) v xs (omega arith) in
      omega arith

  present-is : (b : List ℕ) → b ≡ buffer_of d len zs → take (at + 4 + m - (at + 4)) (drop (at + 4) b) ≡ present_in n (drop at xs)
  present-is b p =
      let l = xs-length in
      let k = zs-length in
      let f : List ℕ = take start xs in
      let g : length f ≡ start = length-take-le start xs (omega arith) in
      let z : at + 4 + m - (at + 4) ≡ room n = omega arith in
      let u : take (room n) (drop (at + 4) zs) ≡ take (room n) (drop (at + 4) f) = front-part f (v ++ drop (start + long) xs) (at + 4) (room n) (omega arith) in
      let y : take (room n) (drop (at + 4) xs) ≡ take (room n) (drop (at + 4) f) =
      ap (λ (l : List ℕ). take (room n) (drop (at + 4) l)) (sym (take-append-drop start xs)) ∙ front-part f (drop start xs) (at + 4) (room n) (omega arith) in
      rw (p, z, drop-drop 4 at xs) (front-part zs _ (at + 4) (room n) (omega arith) ∙ u ∙ sym y)

  entry-size : s - long + length v ≡ word_of 4 (drop at xs) + length v - long
  entry-size =
      let l = word-taken d len at (omega arith) h₄ in
      let r = more (word_of 4 (drop at d)) long (length v) h₆ in
      rw (sz, ← l) r
    where
      more : (x y z : ℕ) → y ≤ x → x - y + z ≡ x + z - y
      more x y z h = omega arith

  present-length : length (present_in n (drop at xs)) ≡ room n
  present-length =
      let l = xs-length in
      let r : length (drop 4 (drop at xs)) ≡ len - (at + 4) = ap length (drop-drop 4 at xs) ∙ length-drop (at + 4) xs ∙ ap (λ (u : ℕ). u - (at + 4)) l in
      length-take-le (room n) (drop 4 (drop at xs)) (omega arith)

  pub entry-is : (count : ℕ) (b₁ b₂ b₃ x : List ℕ) → b₁ ≡ buffer_of d len (put start (start + long) v (take len d))
      → b₂ ≡ put (at + 4) (at + 4 + m) (marked_by t (take (at + 4 + m - (at + 4)) (drop (at + 4) b₁)) c) b₁
      → b₃ ≡ stored b₂ at (le_of 4 (s - long + length v))
      → x ≡ put 0 (len - long + length v) (resealed count (take (len - long + length v) b₃)) b₃
      → x ≡ buffer_of d len (resealed count
      (spliced at n c start long (word_of 4 (drop at (take len d)) + length (entry_octets (offered t v)) - long) (offered t v) (present_in n (drop at (take len d))) (take len d)))
  unfolding spliced
  entry-is count b₁ b₂ b₃ x p₁ p₂ p₃ p₄ =
      let k : length zs ≡ len - long + length v = zs-length in
      let p : List ℕ = present_in n (drop at xs) in
      let q : List ℕ = marked_by t p c in
      let l : length q ≡ room n = marked-length t p c ∙ present-length in
      let c₂ : b₂ ≡ put (at + 4) (at + 4 + room n) q b₁ =
      p₂ ∙ ap₂ (λ (u : ℕ) (z : List ℕ). put (at + 4) (at + 4 + u) (marked_by t z c) b₁) mz (present-is b₁ p₁) in
      let d₂ : b₂ ≡ buffer_of d len (put (at + 4) (at + 4 + room n) q zs) = same-put d len (at + 4) (at + 4 + room n) q zs b₁ b₂ p₁ c₂ (omega arith) (omega arith) in
      let ys : List ℕ = put (at + 4) (at + 4 + room n) q zs in
      let k₂ : length ys ≡ len - long + length v = put-length (at + 4) (at + 4 + room n) q zs (omega arith) ∙ even (at + 4) (length q) (room n) (length zs) (len - long + length v) l k (omega arith) in
      let f : length b₂ ≡ length ys + length (replicate {A = ℕ} (len - length ys) 0 ++ drop (length ys + (len - length ys)) d) = ap length d₂ ∙ length-append ys _ in
      let c₃ : b₃ ≡ put at (at + 4) (le_of 4 (s - long + length v)) b₂ = p₃ ∙ stored-put b₂ at (le_of 4 (s - long + length v)) (omega arith) in
      let us : List ℕ = put at (at + 4) (le_of 4 (s - long + length v)) ys in
      let d₃ : b₃ ≡ buffer_of d len us = same-put d len at (at + 4) (le_of 4 (s - long + length v)) ys b₂ b₃ d₂ c₃ (omega arith) (omega arith) in
      let k₃ : length us ≡ len - long + length v =
      put-length at (at + 4) (le_of 4 (s - long + length v)) ys (omega arith) ∙ even at 4 4 (length ys) (len - long + length v) refl k₂ (omega arith) in
      let r : x ≡ buffer_of d len (resealed count us) = seal-buffer d len count (len - long + length v) us b₃ x d₃ k₃ (omega arith) p₄ in
      let z : put at (at + 4) (le_of 4 (word_of 4 (drop at xs) + length v - long)) (put (at + 4) (at + 4 + room n) (mark (offered t v) p c) (put start (start + long) v xs)) ≡ us =
      rw (← entry-size, marked-is t v p c) in
      rw (← w) (r ∙ ap (λ (l : List ℕ). buffer_of d len (resealed count l)) (sym z))
    where
      even : (a x y n z : ℕ) → x ≡ y → n ≡ z → a + y ≤ z → a + x + (n - (a + y)) ≡ z
      even a x y n z e f h = omega arith
