-- The ways of the code over a line, on plain values.
use Rattle.std.specs.Prelude.{Ok, Err, ℕ, suc, ◌+◌, ◌-◌, ◌%◌, ◌≤◌, ◌<◌, ◌≡◌, Bool, true, cond, eqb, ltb, take, replicate}
use Rattle.std.proofs.Common.{add-zero, add-one, ◌∙◌, drop_of_length-le, Fits, eq-eqb, ne_eqb, lt-ltb, le-ltb}
use native.Mathlib.Omega.{arith}
use Rattle.std.proofs.Math.Path.{refl, sym, ap, ap₂}
use Rattle.std.proofs.Math.Bool.{false}
use Rattle.std.proofs.Math.Option.{Option, none, some}
use mathlib.Core.List.{List, [], ◌∷◌, ◌++◌}
use Rattle.std.proofs.Math.ListN.{length, drop, get_or, length-append}
use Rattle.std.proofs.Math.Seq.{drop-drop, get_or-drop}
use Rattle.std.specs.Int.{w64}
use Rattle.octets.specs.Octets.{octet_at, drop-next}
use Rattle.octets.specs.Splice.{splice, splice-nil, stored, stored-in}
use Rattle.octets.specs.Stores.{laid, laid-long, stored-before}
use Rattle.answers.specs.Numbers.{breaks_rule, most_opened}
use Rattle.answers.specs.declared.Refusal.{Refusal}
use Rattle.answers.specs.Verdict.{Answer, Verdict}
use Rattle.answers.specs.Verdict.{clear, Refused}
use Rattle.answers.specs.Verdict.{refusal}
use Rattle.presence.specs.Presence as Presence
use Rattle.presence.specs.Presence.{room, set_bit}
use Rattle.octets.specs.Word.{le_of}
use Rattle.whole.specs.Number.{fewest, encode_number}
use Rattle.entry.specs.Present.{Row, there, marks, presence_of, marks-length, presence-length, length-set_bit}
use Rattle.entry.specs.Record.{values_of, inner_of, row_octets, row-length}
use Rattle.entry.specs.Values.{entry_octets, entry_first}
use Rattle.entry.specs.Slots.{key_bit}
use Rattle.writing.specs.State.{room_at, room_in_lem}
use Rattle.sheet.specs.Digits.{number_in}
use Rattle.sheet.specs.Reading.{content_in}
use Rattle.importing.specs.Fields.{field_long, field_in, field_behind, laid_from, laid_row, line_long}
use Rattle.importing.specs.Lines.{onward, key_held, field_size, line_from, record_from, values_put, line_put}
use Rattle.importing.specs.Marked.{marks_on, marks-on, presence-front}
use Rattle.importing.specs.declared.lines.Line.{Line}
use Rattle.importing.specs.declared.lines.Put.{Put}

-- ---- keys

module _ (held : Bool) (flags long : ℕ) where
  module _ (z : long ≡ 0) (k : Bool) (e : k ≡ key_bit flags) where
    pub key-lost : k ≡ true → false ≡ key_held held flags long
    unfolding key_held
    key-lost q = rw (eq-eqb long 0 z, ← e, q)

    pub key-free : k ≡ false → held ≡ key_held held flags long
    unfolding key_held
    key-free q = rw (eq-eqb long 0 z, ← e, q)

  pub key-there : (long ≡ 0 → ⊥) → held ≡ key_held held flags long
  unfolding key_held
  key-there n = rw (ne_eqb long 0 n)

pub ruleset key_cases = (key-lost, key-free, key-there)

pub mark_set : (p new : List ℕ) (j : ℕ) (t : Bool) → t ≡ true → new ≡ set_bit p j → new ≡ cond t (set_bit p j) p
mark_set p new j t e q = rw e q

pub mark-not : (p : List ℕ) (j : ℕ) (t : Bool) → t ≡ false → p ≡ cond t (set_bit p j) p
mark-not p j t e = rw e

pub ruleset mark_cases = (mark_set, mark-not)

-- ---- a field of a line: column j, which stands at i

module _ (s codes : List ℕ) (i j : ℕ) (bound : i + line_long (drop j codes) (drop i s) ≤ length s) where
  pub field-there : j < length codes → i < length s
  field-there h =
      let a = ap (λ (l : List ℕ). line_long l (drop i s)) (drop-next codes j h) in
      omega arith

  pub field-last : length codes ≤ j → i + 1 ≤ length s
  field-last h = let a = ap (λ (l : List ℕ). line_long l (drop i s)) (drop_of_length-le codes {i = j} h) in omega arith

  module _ (h : j < length codes) (end : ℕ) (e : end ≡ i + field_long false (drop i s)) where
    pub field-from : i ≤ end
    field-from = omega arith

    field_is_lem : take (end - i) (drop i s) ≡ field_in (drop i s)
    field_is_lem = let z : end - i ≡ field_long false (drop i s) = omega arith in ap (λ (n : ℕ). take n (drop i s)) z

    pub behind-is : field_behind (drop i s) ≡ drop (end + 1) s
    behind-is =
        let z : i + (field_long false (drop i s) + 1) ≡ end + 1 = omega arith in
        drop-drop (field_long false (drop i s) + 1) i s ∙ ap (λ (n : ℕ). drop n s) z

    pub bound-next : end + 1 + line_long (drop (j + 1) codes) (drop (end + 1) s) ≤ length s
    bound-next =
        let a = ap (λ (l : List ℕ). line_long l (drop i s)) (drop-next codes j h) in
        let b = ap (line_long (drop (j + 1) codes)) behind-is in
        omega arith

    pub long_rest : (n : ℕ) → i + line_long (drop j codes) (drop i s) ≡ n
        → end + 1 + line_long (drop (j + 1) codes) (drop (end + 1) s) ≡ n
    long_rest n q =
        let a = ap (λ (l : List ℕ). line_long l (drop i s)) (drop-next codes j h) in
        let b = ap (line_long (drop (j + 1) codes)) behind-is in
        omega arith

    pub bound-plain : end + 1 ≤ length s
    bound-plain = let b = bound-next in omega arith

    pub size_is : (long : ℕ)
        → long ≡ length (entry_octets (laid_from (get_or codes j 0) (content_in (take (end - i) (drop i s)))))
        → long ≡ field_size (get_or codes j 0) (drop i s)
    size_is long q =
        q ∙ ap (λ (l : List ℕ). length (entry_octets (laid_from (get_or codes j 0) (content_in l)))) field_is_lem

pub ruleset field_there = (field-there, field-last, field-from, bound-next, bound-plain)

-- ---- judged

module _ (s codes flags : List ℕ) (held : Bool) (k n i j : ℕ) (line : Answer Line)
    (inv : line_from (drop j codes) (drop j flags) held k n i (drop i s) ≡ line) where
  module _ (bound : i + line_long (drop j codes) (drop i s) ≤ length s) (h : j < length codes) (end : ℕ)
      (e : end ≡ i + field_long false (drop i s)) (long : ℕ)
      (l : long ≡ length (entry_octets (laid_from (get_or codes j 0) (content_in (take (end - i) (drop i s))))))
      (v : Verdict) (q : v ≡ room_at k n long) where
    step : onward v (line_from (drop (j + 1) codes) (drop (j + 1) flags) (key_held held (get_or flags j 0) long) (k + long)
        n (end + 1) (drop (end + 1) s)) ≡ line
    unfolding line_from
    step =
        let a = size_is s codes i j bound h end e long l in
        let b = behind-is s codes i j bound h end e in
        let f : get_or (drop j flags) 0 0 ≡ get_or flags j 0 =
        get_or-drop j flags 0 0 ∙ ap (λ (m : ℕ). get_or flags m 0) (add-zero j) in
        let g : drop 1 (drop j flags) ≡ drop (j + 1) flags = drop-drop 1 j flags in
        let z : i + field_long false (drop i s) + 1 ≡ end + 1 = omega arith in
        rw (q, a, ← b, ← z, ← f, ← g)
        (ap (λ (cs : List ℕ). line_from cs (drop j flags) held k n i (drop i s)) (sym (drop-next codes j h)) ∙ inv)

    pub line_refused : (r : Refusal) → v ≡ Refused r → Err r ≡ line
    line_refused r z = rw z at step

    module _ (z : v ≡ clear) where
      pub line-next : (f : ℕ) (b : Bool) → f ≡ get_or flags j 0 → b ≡ key_held held f long
          → line_from (drop (j + 1) codes) (drop (j + 1) flags) b (k + long) n (end + 1) (drop (end + 1) s) ≡ line
      line-next f b p y = rw (y, p) (rw z at step)

      pub line-fits : Fits w64 (k + long)
      line-fits = let r = (room_in_lem k n long (sym q ∙ z)).limit in omega arith

  module _ (h : length codes ≤ j) where
    last : line_from [] (drop j flags) held k n i (drop i s) ≡ line
    last =
        ap (λ (cs : List ℕ). line_from cs (drop j flags) held k n i (drop i s)) (sym (drop_of_length-le codes {i = j} h))
        ∙ inv

    pub line-done : held ≡ true → Ok (record { written = k; end = i + 1 }) ≡ line
    unfolding line_from
    line-done z = rw z at last

    pub line-keyless : (x : Answer Line) → held ≡ false → x ≡ Err (refusal breaks_rule 0) → x ≡ line
    unfolding line_from
    line-keyless x z q = q ∙ rw z at last

pub ruleset line_judged = (line_refused, line-next, line-fits, line-done, line-keyless)

-- ---- as a record

module _ (codes flags : List ℕ) (w n opened at : ℕ) (xs : List ℕ) (x : Answer Line) where
  pub record-many : most_opened ≤ opened → x ≡ Err (refusal breaks_rule 0)
      → x ≡ record_from codes flags w n opened at xs
  unfolding record_from
  record-many h q = q ∙ rw (le-ltb opened most_opened h)

  module _ (h : opened < most_opened) (k : ℕ) (z : k ≡ room (length codes)) (v : Verdict) (e : v ≡ room_at w n (4 + k))
    where
      pub record-refused : (r : Refusal) → v ≡ Refused r → Err r ≡ record_from codes flags w n opened at xs
      unfolding record_from
      record-refused r y = rw (lt-ltb opened most_opened h, ← z, ← e, y)

      pub record-opened : v ≡ clear → x ≡ line_from codes flags true (w + (4 + k)) n at xs
          → x ≡ record_from codes flags w n opened at xs
      unfolding record_from
      record-opened y q = q ∙ rw (lt-ltb opened most_opened h, ← z, ← e, y)

pub record-fits : (w n k : ℕ) (v : Verdict) → v ≡ room_at w n (4 + k) → v ≡ clear → Fits w64 (w + (4 + k))
record-fits w n k v e y = let r = (room_in_lem w n (4 + k) (sym e ∙ y)).limit in omega arith

pub ruleset record_judged = (record-many, record-refused, record-opened, record-fits)

-- ---- laid down

abbrev pub entry_in : ℕ → List ℕ → Option (List ℕ)
entry_in c xs = laid_from c (content_in (field_in xs))

number-some : (n : ℕ) → 1 ≤ length (encode_number n)
unfolding encode_number
number-some n = go (ltb n 128)
  where
    go : (b : Bool) → 1 ≤ length (cond b (n ∷ []) ((128 + fewest 4 n) ∷ le_of (fewest 4 n) n))
    go true = omega arith
    go false = omega arith

pub laid-some : (code : ℕ) (t : List ℕ) (v : List ℕ) → laid_from code t ≡ some v → 1 ≤ length v
unfolding laid_from
laid-some code t v e = go (eqb (length t) 0) (eqb code 3) (eqb code 11) e
  where
    same : (u : List ℕ) → 1 ≤ length u → some u ≡ some v → 1 ≤ length v
    same u h q = let z : u ≡ v = cc in rw z at h

    go : (a b c : Bool) → cond a none (some (cond b (encode_number (number_in t % 4294967296))
        (cond c ((octet_at t 0 - 48) ∷ []) (t ++ (0 ∷ []))))) ≡ some v → 1 ≤ length v
    go true b c q = absurd (let z : ◌≡◌ {A = ℕ} 0 1 = cc in omega arith)
    go false true c q = same (encode_number (number_in t % 4294967296)) (number-some (number_in t % 4294967296)) q
    go false false true q = same ((octet_at t 0 - 48) ∷ []) (omega arith) q
    go false false false q = same (t ++ (0 ∷ [])) (let l = length-append t (0 ∷ []) in omega arith) q

-- an entry is there exactly where it takes octets
pub there-by : (code : ℕ) (t : List ℕ) (k : ℕ)
    → ltb k (k + length (entry_octets (laid_from code t))) ≡ there (laid_from code t)
there-by code t k = go (laid_from code t) refl
  where
    go : (e : Option (List ℕ)) → laid_from code t ≡ e → ltb k (k + length (entry_octets e)) ≡ there e
    go none q = le-ltb k (k + 0) (omega arith)
    go (some v) q = let l = laid-some code t v q in lt-ltb k (k + length v) (omega arith)

row_next : (s codes : List ℕ) (i j : ℕ) → j < length codes → laid_row (drop j codes) (drop i s)
    ≡ entry_in (get_or codes j 0) (drop i s) ∷ laid_row (drop (j + 1) codes) (field_behind (drop i s))
row_next s codes i j h = ap (λ (cs : List ℕ). laid_row cs (drop i s)) (drop-next codes j h)

marks-next : (p : List ℕ) (j : ℕ) (e : Option (List ℕ)) (es : Row)
    → marks_on (cond (there e) (set_bit p j) p) (suc j) es ≡ marks_on p j (e ∷ es)
unfolding marks_on
marks-next p j none es = refl
marks-next p j (some v) es = refl

-- column j, whose field stands at i and whose value goes to k; d as it was lent, out as it is
module _ (s codes : List ℕ) (i j : ℕ) (bound : i + line_long (drop j codes) (drop i s) ≤ length s) (h : j < length codes)
    (end : ℕ) (e : end ≡ i + field_long false (drop i s)) where
  abbrev here : Option (List ℕ)
  here = laid_from (get_or codes j 0) (content_in (take (end - i) (drop i s)))

  here-is : here ≡ entry_in (get_or codes j 0) (drop i s)
  here-is = ap (λ (l : List ℕ). laid_from (get_or codes j 0) (content_in l)) (field_is_lem s codes i j bound h end e)

  row_is : laid_row (drop j codes) (drop i s) ≡ here ∷ laid_row (drop (j + 1) codes) (drop (end + 1) s)
  row_is =
      row_next s codes i j h
      ∙ ap₂ (λ (x : Option (List ℕ)) (l : Row). x ∷ l) (sym here-is)
      (ap (laid_row (drop (j + 1) codes)) (behind-is s codes i j bound h end e))

  values-is : values_of (laid_row (drop j codes) (drop i s))
      ≡ entry_octets here ++ values_of (laid_row (drop (j + 1) codes) (drop (end + 1) s))
  values-is = ap values_of row_is ∙ entry_first here (laid_row (drop (j + 1) codes) (drop (end + 1) s))

  values-long : length (values_of (laid_row (drop j codes) (drop i s)))
      ≡ length (entry_octets here) + length (values_of (laid_row (drop (j + 1) codes) (drop (end + 1) s)))
  values-long =
      ap length values-is
      ∙ length-append (entry_octets here) (values_of (laid_row (drop (j + 1) codes) (drop (end + 1) s)))

  module _ (k at : ℕ) (out d row : List ℕ) (rest : k + length (values_of (laid_row (drop j codes) (drop i s))) ≡ at
      + length row) (long : length out ≡ length d) (room : at + length row ≤ length d) where
    pub value_room : k + length (entry_octets here) ≤ length out
    value_room = let l = values-long in omega arith

    module _ (to : ℕ) (z : to ≡ k + length (entry_octets here)) where
      pub values-rest : to + length (values_of (laid_row (drop (j + 1) codes) (drop (end + 1) s))) ≡ at + length row
      values-rest = let l = values-long in omega arith

      module _ (new : List ℕ) (q : new ≡ splice out k (entry_octets here)) where
        pub values-kept : length new ≡ length d
        values-kept = laid-long out new (entry_octets here) k q value_room ∙ long

        pub values-step : splice out k (values_of (laid_row (drop j codes) (drop i s))) ≡ splice d at row
            → splice new to (values_of (laid_row (drop (j + 1) codes) (drop (end + 1) s))) ≡ splice d at row
        values-step inv =
            let r = values-rest in
            laid out new (entry_octets here) (values_of (laid_row (drop (j + 1) codes) (drop (end + 1) s))) k to q z
            (omega arith)
            ∙ ap (splice out k) (sym values-is) ∙ inv

  bits-next : (k to : ℕ) (p new full : List ℕ) → to ≡ k + length (entry_octets here)
      → new ≡ cond (ltb k to) (set_bit p j) p → marks_on p j (laid_row (drop j codes) (drop i s)) ≡ full
      → marks_on new (j + 1) (laid_row (drop (j + 1) codes) (drop (end + 1) s)) ≡ full
  bits-next k to p new full z q inv =
      let t : ltb k to ≡ there here =
      ap (ltb k) z ∙ there-by (get_or codes j 0) (content_in (take (end - i) (drop i s))) k in
      let more : Row = laid_row (drop (j + 1) codes) (drop (end + 1) s) in
      ap (λ (m : ℕ). marks_on new m more) (add-one j)
      ∙ rw (q, t) (marks-next p j here more ∙ ap (marks_on p j) (sym row_is) ∙ inv)

-- what the code finds first stands first
pub bits-step : (s codes : List ℕ) (i j end k to : ℕ) (p new full : List ℕ) → new ≡ cond (ltb k to) (set_bit p j) p
    → marks_on p j (laid_row (drop j codes) (drop i s)) ≡ full → end ≡ i + field_long false (drop i s)
    → to ≡ k + length (entry_octets (laid_from (get_or codes j 0) (content_in (take (end - i) (drop i s)))))
    → j < length codes → i + line_long (drop j codes) (drop i s) ≤ length s
    → marks_on new (j + 1) (laid_row (drop (j + 1) codes) (drop (end + 1) s)) ≡ full
bits-step s codes i j end k to p new full q inv e z h bound =
    bits-next s codes i j bound h end e k to p new full z q inv

pub bits-kept : (p new : List ℕ) (j : ℕ) (t : Bool) → length p ≡ 2 → new ≡ cond t (set_bit p j) p → length new ≡ 2
bits-kept p new j true h q = rw q (length-set_bit p j ∙ h)
bits-kept p new j false h q = rw q h

pub bits-start : (row : Row) → marks_on (replicate 2 0) 0 row ≡ marks 2 0 row
bits-start row = marks-on row 2 0

pub ruleset values_putting = (value_room, values-rest, values-kept, values-step, bits-step, bits-kept, bits-start)

-- the last column is done
module _ (s codes : List ℕ) (i j : ℕ) (h : length codes ≤ j) where
  none_left : laid_row (drop j codes) (drop i s) ≡ []
  none_left = ap (λ (cs : List ℕ). laid_row cs (drop i s)) (drop_of_length-le codes {i = j} h)

  pub values-done : (k : ℕ) (out new : List ℕ) → splice out k (values_of (laid_row (drop j codes) (drop i s))) ≡ new
      → out ≡ new
  values-done k out new inv =
      sym (splice-nil out k) ∙ ap (λ (l : Row). splice out k (values_of l)) (sym none_left) ∙ inv

  pub put-done : (k at from : ℕ) (xs p : List ℕ)
      → k + length (values_of (laid_row (drop j codes) (drop i s))) ≡ at + length (values_of (laid_row codes xs))
      → i + line_long (drop j codes) (drop i s) ≡ from + line_long codes xs
      → marks_on p j (laid_row (drop j codes) (drop i s)) ≡ marks 2 0 (laid_row codes xs)
      → record { written = k; end = i + 1; bits = p } ≡ values_put codes at from xs
  unfolding values_put marks_on
  put-done k at from xs p a b c =
      let n = none_left in
      let x : k ≡ at + length (values_of (laid_row codes xs)) =
      (let l = ap (λ (r : Row). length (values_of r)) n in omega arith) in
      let y : i + 1 ≡ from + line_long codes xs =
      (let l = ap (λ (cs : List ℕ). line_long cs (drop i s)) (drop_of_length-le codes {i = j} h) in omega arith) in
      let z : p ≡ marks 2 0 (laid_row codes xs) = ap (marks_on p j) (sym n) ∙ c in
      λ m. record { written = x m; end = y m; bits = z m }

pub ruleset values_done = (values-done, put-done)

-- ---- a whole record

pub laid-row-long : (codes xs : List ℕ) → length (laid_row codes xs) ≡ length codes
laid-row-long [] xs = refl
laid-row-long (c ∷ cs) xs = ap suc (laid-row-long cs (field_behind xs))

pub row-parts : (codes xs : List ℕ) → length (row_octets (laid_row codes xs))
    ≡ 4 + Presence.room (length codes) + length (values_of (laid_row codes xs))
row-parts codes xs =
    let row : Row = laid_row codes xs in
    let a = row-length row in
    let b = length-append (presence_of row) (values_of row) in
    let c = presence-length row ∙ ap Presence.room (laid-row-long codes xs) in
    omega arith

module _ (codes xs d : List ℕ) (at from k : ℕ) (room : at + length (row_octets (laid_row codes xs)) ≤ length d)
    (few : length codes ≤ 16) (z : k ≡ Presence.room (length codes)) where
  abbrev row : Row
  row = laid_row codes xs

  parts-long : length (row_octets row) ≡ 4 + k + length (values_of row)
  parts-long = let a = row-parts codes xs in omega arith

  pub record-room : at + 4 + k + length (values_of row) ≤ length d
  record-room = let a = parts-long in omega arith

  module _ (put : Put) (e : put ≡ values_put codes (at + 4 + k) from xs) where
    put_written : put.written ≡ at + 4 + k + length (values_of row)
    unfolding values_put
    put_written = ap (λ (p : Put). p.written) e

    put-bits : put.bits ≡ marks 2 0 row
    unfolding values_put
    put-bits = ap (λ (p : Put). p.bits) e

    pub record-bits : k ≤ length put.bits
    record-bits = let a = ap length put-bits ∙ marks-length 2 0 row in omega arith

    pub record-behind : at ≤ put.written
    record-behind = let a = put_written in omega arith

    bits_are : take (k - 0) (drop 0 put.bits) ≡ presence_of row
    bits_are =
        let y : k - 0 ≡ k = omega arith in
        ap₂ (λ (m : ℕ) (l : List ℕ). take m l) (y ∙ z ∙ ap Presence.room (sym (laid-row-long codes xs))) put-bits
        ∙ presence-front row (rw (laid-row-long codes xs) few)

    pub record_is : put ≡ line_put codes at from xs
    unfolding values_put line_put
    record_is =
        let a = parts-long in
        let w : at + 4 + k + length (values_of row) ≡ at + length (row_octets row) = omega arith in
        e ∙ ap (λ (n : ℕ). record { written = n; end = from + line_long codes xs; bits = marks 2 0 row }) w

    pub record-put : (x y new : List ℕ) → x ≡ splice d (at + 4 + k) (values_of row)
        → y ≡ stored x (at + 4) (take (k - 0) (drop 0 put.bits))
        → new ≡ stored y at (le_of 4 (put.written - at)) → new ≡ splice d at (row_octets row)
    unfolding row_octets
    record-put x y new p q r =
        let a = parts-long in
        let b = row-length row in
        let c = presence-length row ∙ ap Presence.room (laid-row-long codes xs) in
        let v = record-room in
        let l = length-append (presence_of row) (values_of row) in
        let s : put.written - at ≡ 4 + length (inner_of row) = (let w = put_written in omega arith) in
        let f : x ≡ stored d (at + 4 + k) (values_of row) = p ∙ sym (stored-in d (at + 4 + k) (values_of row) v) in
        let g : y ≡ stored d (at + 4) (inner_of row) =
        q ∙ ap₂ (λ (u t : List ℕ). stored u (at + 4) t) f bits_are
        ∙ stored-before d (at + 4) (at + 4 + k) (presence_of row) (values_of row) (omega arith) v in
        let h : new ≡ stored d at (le_of 4 (4 + length (inner_of row)) ++ inner_of row) =
        r ∙ ap₂ (λ (u : List ℕ) (n : ℕ). stored u at (le_of 4 n)) g s
        ∙ stored-before d at (at + 4) (le_of 4 (4 + length (inner_of row))) (inner_of row) refl (omega arith) in
        h ∙ stored-in d at (le_of 4 (4 + length (inner_of row)) ++ inner_of row) room

pub ruleset record_putting = (record-room, record-bits, record-behind, record_is, record-put)
