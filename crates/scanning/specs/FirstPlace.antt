-- The place of a fault in the first line is right (reading 27): what stands before it is the beginning of a first line,
-- and with the octet at the place nothing is. Assumes nothing.
use Rattle.std.specs.Prelude.{ℕ, zero, suc, ◌+◌, ◌*◌, ◌%◌, ◌≤◌, ◌<◌, ◌≡◌, refl, Bool, true, false, List, [], ◌∷◌, ◌++◌, length, take}
use Rattle.std.proofs.Common.{zero-add, arith, sym, ap, ◌∙◌, lt-ltb, le-ltb}
use Rattle.octets.specs.Cases.{split}
use Rattle.sheet.specs.Field.{quote, cr, lf}
use Rattle.scanning.specs.declared.Stand.{Stand}
use Rattle.scanning.specs.declared.Stand.TheVariants.{InTag, Behind, LineEnd}
use Rattle.scanning.specs.declared.Next.{Next}
use Rattle.scanning.specs.declared.Next.TheVariants.{Goes, Tag, Done, Stop}
use Rattle.scanning.specs.First.{digit_in, next_end, next_tag, next_of}
use Rattle.scanning.specs.First.{tags_to, fault, head_from, head_in, head_step}

-- ---- every beginning can be brought to its end

record Closes (st : Stand) (a : ℕ) (ts : List ℕ) (i : ℕ) : Type 0 where
  tail : List ℕ
  tags : List ℕ
  width : ℕ
  taken : head_from st a ts i tail ≡ tags_to tags width

goes_on : (st s : Stand) (a b : ℕ) (ts : List ℕ) (i x : ℕ) → next_of st a (length ts) x ≡ Goes s b
    → Closes s b ts (i + 1) → Closes st a ts i
goes_on st s a b ts i x e c =
    record {
      tail = x ∷ c.tail;
      tags = c.tags;
      width = c.width;
      taken = head_step st a ts i x (Goes s b) e c.tail ∙ c.taken;
    }

close-line : (a : ℕ) (ts : List ℕ) (i : ℕ) → Closes LineEnd a ts i
unfolding head_from next_of
close-line a ts i = record { tail = lf ∷ []; tags = ts; width = i + 1; taken = refl }

last-tag : (st : Stand) (a : ℕ) (ts : List ℕ) (i : ℕ) → next_of st a (length ts) cr ≡ Tag LineEnd → Closes st a ts i
last-tag st a ts i e =
    let c = close-line 0 (ts ++ (a ∷ [])) (i + 1) in
    record {
      tail = cr ∷ c.tail;
      tags = c.tags;
      width = c.width;
      taken = head_step st a ts i cr (Tag LineEnd) e c.tail ∙ c.taken;
    }

close-behind : (a : ℕ) (ts : List ℕ) (i : ℕ) → Closes Behind a ts i
unfolding next_of next_end
close-behind a ts i = last-tag Behind a ts i refl

close-eight : (q : Bool) (d a : ℕ) (ts : List ℕ) (i : ℕ) → 8 ≤ d → Closes (InTag q d) a ts i
unfolding next_of next_tag next_end
close-eight true d a ts i h =
    goes_on (InTag true d) Behind a a ts i quote (rw (le-ltb d 8 h)) (close-behind a ts (i + 1))
close-eight false d a ts i h = last-tag (InTag false d) a ts i (rw (le-ltb d 8 h))

one-digit : (q : Bool) (d a n : ℕ) → d < 8 → next_of (InTag q d) a n 48 ≡ Goes (InTag q (d + 1)) (a % 268435456 * 16 + 0)
unfolding next_of next_tag digit_in
one-digit q d a n h = rw (lt-ltb d 8 h)

close-tag : (left : ℕ) (q : Bool) (d a : ℕ) (ts : List ℕ) (i : ℕ) → 8 ≤ d + left → Closes (InTag q d) a ts i
close-tag zero q d a ts i h = close-eight q d a ts i (omega arith)
close-tag (suc left) q d a ts i h =
    split d 8
    (λ l. goes_on (InTag q d) (InTag q (d + 1)) a _ ts i 48 (one-digit q d a (length ts) l)
    (close-tag left q (d + 1) _ ts (i + 1) (omega arith)))
    (λ l. close-eight q d a ts i l)

closes : (st : Stand) (a : ℕ) (ts : List ℕ) (i : ℕ) → Closes st a ts i
closes LineEnd a ts i = close-line a ts i
closes Behind a ts i = close-behind a ts i
closes (InTag q d) a ts i = close-tag 8 q d a ts i (omega arith)

-- ---- the place

record FaultIs (st : Stand) (a : ℕ) (ts : List ℕ) (i : ℕ) (xs : List ℕ) (p : ℕ) : Type 0 where
  before : ℕ
  place : p ≡ i + before
  within : before ≤ length xs
  tail : List ℕ
  tags : List ℕ
  width : ℕ
  viable : head_from st a ts i (take before xs ++ tail) ≡ tags_to tags width
  dead : before < length xs → (more : List ℕ) → head_from st a ts i (take (suc before) xs ++ more) ≡ fault p

here : (st : Stand) (a : ℕ) (ts : List ℕ) (i : ℕ) (xs : List ℕ) (p : ℕ) → i ≡ p
    → (0 < length xs → (more : List ℕ) → head_from st a ts i (take 1 xs ++ more) ≡ fault p) → FaultIs st a ts i xs p
here st a ts i xs p e d =
    let c = closes st a ts i in
    record {
      before = 0;
      place = omega arith;
      within = omega arith;
      tail = c.tail;
      tags = c.tags;
      width = c.width;
      viable = c.taken;
      dead = d;
    }

further : (st s : Stand) (a b : ℕ) (ts us : List ℕ) (i x : ℕ) (xs : List ℕ) (p : ℕ)
    → ((ys : List ℕ) → head_from st a ts i (x ∷ ys) ≡ head_from s b us (i + 1) ys) → FaultIs s b us (i + 1) xs p
    → FaultIs st a ts i (x ∷ xs) p
further st s a b ts us i x xs p g r =
    record {
      before = suc r.before;
      place = r.place ∙ omega arith;
      within = omega (arith, r.within);
      tail = r.tail;
      tags = r.tags;
      width = r.width;
      viable = g (take r.before xs ++ r.tail) ∙ r.viable;
      dead = λ h more. g (take (suc r.before) xs ++ more) ∙ r.dead (omega arith) more;
    }

fault-one : {i p : ℕ} → fault i ≡ fault p → i ≡ p
fault-one e = cc

no-fault : {X : Type 0} {ts : List ℕ} {w p : ℕ} → tags_to ts w ≡ fault p → X
no-fault e = let z : ◌≡◌ {A = ℕ} 0 1 = cc in absurd (omega arith)

turn : (st : Stand) (a : ℕ) (ts : List ℕ) (i x : ℕ) (xs : List ℕ) (p : ℕ) (n : Next) → next_of st a (length ts) x ≡ n
    → head_from st a ts i (x ∷ xs) ≡ fault p
    → ((u : Stand) (b : ℕ) (us : List ℕ) → head_from u b us (i + 1) xs ≡ fault p → FaultIs u b us (i + 1) xs p)
    → FaultIs st a ts i (x ∷ xs) p
turn st a ts i x xs p (Goes s b) z e ih =
    let g = head_step st a ts i x (Goes s b) z in
    further st s a b ts ts i x xs p g (ih s b ts (sym (g xs) ∙ e))
turn st a ts i x xs p (Tag s) z e ih =
    let g = head_step st a ts i x (Tag s) z in
    further st s a 0 ts (ts ++ (a ∷ [])) i x xs p g (ih s 0 (ts ++ (a ∷ [])) (sym (g xs) ∙ e))
turn st a ts i x xs p Done z e ih = no-fault (sym (head_step st a ts i x Done z xs) ∙ e)
turn st a ts i x xs p Stop z e ih =
    let g = head_step st a ts i x Stop z in
    let q : i ≡ p = fault-one (sym (g xs) ∙ e) in
    here st a ts i (x ∷ xs) p q (λ l more. g more ∙ ap fault q)

fault-is : (xs : List ℕ) (st : Stand) (a : ℕ) (ts : List ℕ) (i p : ℕ) → head_from st a ts i xs ≡ fault p
    → FaultIs st a ts i xs p
unfolding head_from
fault-is [] st a ts i p e = here st a ts i [] p (fault-one e) (λ z. absurd (omega arith))
fault-is (x ∷ xs) st a ts i p e =
    turn st a ts i x xs p (next_of st a (length ts) x) refl e (λ u b us q. fault-is xs u b us (i + 1) p q)

-- of a whole text: the least place at which it can't be the beginning of a sheet, or its end
pub record HeadPlace (xs : List ℕ) (p : ℕ) : Type 0 where
  pub within : p ≤ length xs
  pub tail : List ℕ
  pub tags : List ℕ
  pub width : ℕ
  pub viable : head_in (take p xs ++ tail) ≡ tags_to tags width
  pub dead : p < length xs → (more : List ℕ) → head_in (take (suc p) xs ++ more) ≡ fault p

pub head-place : (xs : List ℕ) (p : ℕ) → head_in xs ≡ fault p → HeadPlace xs p
head-place xs p e =
    let r = fault-is xs (InTag false 0) 0 [] 0 p e in
    let z : r.before ≡ p = sym (r.place ∙ zero-add r.before) in
    record {
      within = rw z at r.within;
      tail = r.tail;
      tags = r.tags;
      width = r.width;
      viable = rw z at r.viable;
      dead = rw z at r.dead;
    }
