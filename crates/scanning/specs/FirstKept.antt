-- What stays true over the scan of a first line: what the digits say is as small as their number, so nothing is cut
-- off, and no more than 16 tags end. Assumes nothing.
use Rattle.std.specs.Prelude.{ℕ, zero, suc, ◌+◌, ◌*◌, ◌%◌, ◌^◌, ◌≤◌, ◌<◌, ◌≡◌, Bool, true, false, cond, eqb, ltb}
use Rattle.std.proofs.Common.{arith, pow-suc, add-one, ap, ◌∙◌, lt-ltb, le-ltb}
use Rattle.octets.specs.Cases.{split}
use Rattle.sheet.specs.Field.{quote, comma, cr, lf}
use Rattle.scanning.specs.declared.Stand.{Stand}
use Rattle.scanning.specs.declared.Stand.TheVariants.{InTag, Behind, LineEnd}
use Rattle.scanning.specs.declared.Next.{Next}
use Rattle.scanning.specs.declared.Next.TheVariants.{Goes, Tag, Done, Stop}
use Rattle.scanning.specs.First.{most_tags, digit_in, next_end, next_quote, next_tag, next_of}

-- n tags have ended
abbrev pub Kept : Stand → ℕ → ℕ → Type 0
Kept (InTag q d) a n = (a < 16 ^ d) × (d ≤ 8) × (n < most_tags)
Kept Behind a n = (a < 16 ^ 8) × (n < most_tags)
Kept LineEnd a n = n ≤ most_tags

pub kept-few : (st : Stand) (a n : ℕ) → Kept st a n → n ≤ most_tags
kept-few (InTag q d) a n h = omega (arith, h.2)
kept-few Behind a n h = omega (arith, h.1)
kept-few LineEnd a n h = h

-- behind an octet
abbrev pub NextKept : Next → ℕ → ℕ → Type 0
NextKept (Goes s b) a n = Kept s b n
NextKept (Tag s) a n = (n < most_tags) × Kept s 0 (n + 1)
NextKept Done a n = Unit {0}
NextKept Stop a n = Unit {0}

-- with fewer than eight digits read, one more finds room
pub room : (d a : ℕ) → d < 8 → a < 16 ^ d → a % 268435456 ≡ a
room zero a h l = omega arith
room (suc zero) a h l = omega arith
room (suc (suc zero)) a h l = omega arith
room (suc (suc (suc zero))) a h l = omega arith
room (suc (suc (suc (suc zero)))) a h l = omega arith
room (suc (suc (suc (suc (suc zero))))) a h l = omega arith
room (suc (suc (suc (suc (suc (suc zero)))))) a h l = omega arith
room (suc (suc (suc (suc (suc (suc (suc zero))))))) a h l = omega arith
room (suc (suc (suc (suc (suc (suc (suc (suc d)))))))) a h l = absurd (omega arith)

kept-end : (a n x : ℕ) → n < most_tags → NextKept (next_end n x) a n
unfolding next_end
kept-end a n x h = go (eqb x cr) (eqb x comma)
  where
    more : NextKept (cond (ltb (n + 1) most_tags) (Tag (InTag false 0)) Stop) a n
    more =
        split (n + 1) most_tags (λ l. rw (lt-ltb (n + 1) most_tags l) (h, (omega arith, omega arith, l)))
        (λ l. rw (le-ltb (n + 1) most_tags l) tt)

    go : (b c : Bool)
        → NextKept (cond b (Tag LineEnd) (cond c (cond (ltb (n + 1) most_tags) (Tag (InTag false 0)) Stop) Stop)) a n
    go true c = (h, omega arith)
    go false true = more
    go false false = tt

kept-quote : (q : Bool) (d a n x : ℕ) → n < most_tags → NextKept (next_quote q d x) a n
unfolding next_quote
kept-quote q d a n x h = go (eqb x quote) q (eqb d 0)
  where
    go : (b c e : Bool) → NextKept (cond b (cond c Stop (cond e (Goes (InTag true 0) 0) Stop)) Stop) a n
    go true true e = tt
    go true false true = (omega arith, omega arith, h)
    go true false false = tt
    go false c e = tt

kept-tag : (q : Bool) (d a n x : ℕ) → Kept (InTag q d) a n → NextKept (next_tag q d a n x) a n
unfolding next_tag
kept-tag q d a n x h =
    split d 8
    (λ l. rw (lt-ltb d 8 l)
    (split (digit_in x) 16
    (λ m. let p : 16 ^ (d + 1) ≡ 16 ^ d * 16 = ap (λ (e : ℕ). 16 ^ e) (add-one d) ∙ pow-suc 16 d in
    let z = h.0 in
    rw (lt-ltb (digit_in x) 16 m, room d a l h.0, p) (omega arith, omega arith, h.2))
    (λ m. rw (le-ltb (digit_in x) 16 m) (kept-quote q d a n x h.2))))
    (λ l. rw (le-ltb d 8 l) (go q (eqb x quote) (let e : d ≡ 8 = omega (arith, h.1) in rw e at h.0)))
  where
    go : (c b : Bool) → a < 16 ^ 8 → NextKept (cond c (cond b (Goes Behind a) Stop) (next_end n x)) a n
    go true true s = (s, h.2)
    go true false s = tt
    go false b s = kept-end a n x h.2

pub next-kept : (st : Stand) (a n x : ℕ) → Kept st a n → NextKept (next_of st a n x) a n
unfolding next_of
next-kept (InTag q d) a n x h = kept-tag q d a n x h
next-kept Behind a n x h = kept-end a n x h.1
next-kept LineEnd a n x h = go (eqb x lf)
  where
    go : (b : Bool) → NextKept (cond b Done Stop) a n
    go true = tt
    go false = tt
