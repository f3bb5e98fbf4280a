-- The ways of the code that reads a first line, on plain values: the tags before are the front of its sixteen.
use Rattle.std.specs.Prelude.{ℕ, zero, suc, ◌+◌, ◌-◌, ◌*◌, ◌%◌, ◌≤◌, ◌<◌, refl, Bool, true, false, List, [], ◌∷◌, ◌++◌, drop, get_or, set, Result, Ok}
use Rattle.std.proofs.Common.{arith, sym, ◌∙◌, take-append-drop, drop_of_length-le, length-set, length-take-le}
use Rattle.std.proofs.Math.Path.{◌≡◌, ap}
use Rattle.std.proofs.Math.ListN.{length, take, replicate}
use borrow.Author.Tests.{lt-ltb, le-ltb, le-leb, lt-leb, ne_eqb}
use Rattle.octets.specs.Octets.{octet_at, drop-next}
use Rattle.scanning.specs.declared.Stand.{Stand}
use Rattle.scanning.specs.declared.Stand.TheVariants.{InTag, Behind, LineEnd}
use Rattle.scanning.specs.declared.Next.{Next}
use Rattle.scanning.specs.declared.Next.TheVariants.{Goes, Tag, Done, Stop}
use Rattle.scanning.specs.declared.FirstLine.{FirstLine}
use Rattle.scanning.specs.First.{most_tags, digit_in, next_end, next_quote, next_tag, next_of}
use Rattle.scanning.specs.First.{tags_to, fault, head_from, ran, head_step, head_in, fault_at, first_line_of}
use Rattle.scanning.specs.FirstKept.{Kept, NextKept, kept-few, next-kept}

module _ (x : ℕ) where
  pub digit_low : x < 48 → 16 ≡ digit_in x
  unfolding digit_in
  digit_low h = rw (lt-ltb x 48 h)

  pub digit-ten : 48 ≤ x → x ≤ 57 → x - 48 ≡ digit_in x
  unfolding digit_in
  digit-ten h k = rw (le-ltb x 48 h, le-leb x 57 k)

  pub digit-mid : 48 ≤ x → 57 < x → x < 65 → 16 ≡ digit_in x
  unfolding digit_in
  digit-mid h k l = rw (le-ltb x 48 h, lt-leb x 57 k, lt-ltb x 65 l)

  pub digit-six : 48 ≤ x → 57 < x → 65 ≤ x → x ≤ 70 → x - 55 ≡ digit_in x
  unfolding digit_in
  digit-six h k l m = rw (le-ltb x 48 h, lt-leb x 57 k, le-ltb x 65 l, le-leb x 70 m)

  pub digit-high : 48 ≤ x → 57 < x → 65 ≤ x → 70 < x → 16 ≡ digit_in x
  unfolding digit_in
  digit-high h k l m = rw (le-ltb x 48 h, lt-leb x 57 k, le-ltb x 65 l, lt-leb x 70 m)

pub ruleset digit_cases = (digit_low, digit-ten, digit-mid, digit-six, digit-high)

module _ (n x : ℕ) where
  pub end_line : x ≡ 13 → Tag LineEnd ≡ next_end n x
  unfolding next_end
  end_line e = rw e

  pub end_more : (x ≡ 13 → ⊥) → x ≡ 44 → n < 15 → Tag (InTag false 0) ≡ next_end n x
  unfolding next_end
  end_more h e l = rw (e, lt-ltb (n + 1) most_tags (omega arith))

  pub end-full : (x ≡ 13 → ⊥) → x ≡ 44 → 15 ≤ n → Stop ≡ next_end n x
  unfolding next_end
  end-full h e l = rw (e, le-ltb (n + 1) most_tags (omega arith))

  pub end_none : (x ≡ 13 → ⊥) → (x ≡ 44 → ⊥) → Stop ≡ next_end n x
  unfolding next_end
  end_none h k = rw (ne_eqb x 13 h, ne_eqb x 44 k)

pub ruleset end_cases = (end_line, end_more, end-full, end_none)

module _ (q : Bool) (d x : ℕ) where
  pub quote-twice : x ≡ 34 → q ≡ true → Stop ≡ next_quote q d x
  unfolding next_quote
  quote-twice e z = rw (e, z)

  pub quote-opens : x ≡ 34 → q ≡ false → d ≡ 0 → Goes (InTag true 0) 0 ≡ next_quote q d x
  unfolding next_quote
  quote-opens e z k = rw (e, z, k)

  pub quote-late : x ≡ 34 → q ≡ false → (d ≡ 0 → ⊥) → Stop ≡ next_quote q d x
  unfolding next_quote
  quote-late e z k = rw (e, z, ne_eqb d 0 k)

  pub quote-none : (x ≡ 34 → ⊥) → Stop ≡ next_quote q d x
  unfolding next_quote
  quote-none h = rw (ne_eqb x 34 h)

pub ruleset quote_cases = (quote-twice, quote-opens, quote-late, quote-none)

module _ (q : Bool) (d a n x : ℕ) where
  module _ (h : d < 8) (g : ℕ) (e : g ≡ digit_in x) where
    pub tag-digit : g < 16 → Goes (InTag q (d + 1)) (a % 268435456 * 16 + g) ≡ next_tag q d a n x
    unfolding next_tag
    tag-digit l = rw (lt-ltb d 8 h, ← e, lt-ltb g 16 l)

    pub tag-other : 16 ≤ g → (r : Next) → r ≡ next_quote q d x → r ≡ next_tag q d a n x
    unfolding next_tag
    tag-other l r z = rw (lt-ltb d 8 h, ← e, le-ltb g 16 l) z

  module _ (h : 8 ≤ d) where
    pub tag-closes : q ≡ true → x ≡ 34 → Goes Behind a ≡ next_tag q d a n x
    unfolding next_tag
    tag-closes z e = rw (le-ltb d 8 h, z, e)

    pub tag-stops : q ≡ true → (x ≡ 34 → ⊥) → Stop ≡ next_tag q d a n x
    unfolding next_tag
    tag-stops z e = rw (le-ltb d 8 h, z, ne_eqb x 34 e)

    pub tag-ends : q ≡ false → (r : Next) → r ≡ next_end n x → r ≡ next_tag q d a n x
    unfolding next_tag
    tag-ends z r e = rw (le-ltb d 8 h, z) e

pub ruleset tag_cases = (tag-digit, tag-other, tag-closes, tag-stops, tag-ends)

module _ (st : Stand) (a n x : ℕ) where
  pub next-tag : (q : Bool) (d : ℕ) → st ≡ InTag q d → (r : Next) → r ≡ next_tag q d a n x → r ≡ next_of st a n x
  unfolding next_of
  next-tag q d e r z = rw e z

  pub next-behind : st ≡ Behind → (r : Next) → r ≡ next_end n x → r ≡ next_of st a n x
  unfolding next_of
  next-behind e r z = rw e z

  pub next-done : st ≡ LineEnd → x ≡ 10 → Done ≡ next_of st a n x
  unfolding next_of
  next-done e z = rw (e, z)

  pub next-stop : st ≡ LineEnd → (x ≡ 10 → ⊥) → Stop ≡ next_of st a n x
  unfolding next_of
  next-stop e z = rw (e, ne_eqb x 10 z)

pub ruleset next_cases = (next-tag, next-behind, next-done, next-stop)

-- ---- the loop

-- n tags so far, with zeros behind
pub record Laid (st : Stand) (a n : ℕ) (tags : List ℕ) : Type 0 where
  pub long : length tags ≡ most_tags
  pub zeros : drop n tags ≡ replicate (most_tags - n) 0
  pub kept : Kept st a n

module _ (st : Stand) (a n : ℕ) (tags : List ℕ) (k : Laid st a n tags) where
  front_long : length (take n tags) ≡ n
  front_long = length-take-le n tags (omega (arith, k.long, kept-few st a n k.kept))

  whole_is : tags ≡ take n tags ++ replicate (most_tags - length (take n tags)) 0
  whole_is =
      sym (take-append-drop n tags)
      ∙ ap (λ (l : List ℕ). take n tags ++ l) (k.zeros ∙ ap (λ (m : ℕ). replicate (most_tags - m) 0) (sym front_long))

set_front : (tags : List ℕ) (n v : ℕ) → n < length tags
    → (take (n + 1) (set tags n v) ≡ take n tags ++ (v ∷ [])) × (drop (n + 1) (set tags n v) ≡ drop (n + 1) tags)
set_front [] n v h = absurd (omega arith)
set_front (t ∷ tags) zero v h = (refl, refl)
set_front (t ∷ tags) (suc n) v h =
    let r = set_front tags n v (omega arith) in
    let m : suc n + 1 ≡ suc (n + 1) = omega arith in
    rw m (ap (λ (l : List ℕ). t ∷ l) r.0, r.1)

fewer-zeros : (n : ℕ) (tags : List ℕ) → n < 16 → drop n tags ≡ replicate (16 - n) 0 → length tags ≡ 16
    → drop (n + 1) tags ≡ replicate (16 - (n + 1)) 0
fewer-zeros n tags h e l =
    let m : 16 - n ≡ suc (16 - (n + 1)) = omega arith in
    let z : get_or tags n 0 ∷ drop (n + 1) tags ≡ 0 ∷ replicate (16 - (n + 1)) 0 =
    sym (drop-next tags n (omega arith)) ∙ e ∙ rw m in
    cc

pub line-starts : (text : List ℕ) → head_from (InTag false 0) 0 (take 0 (replicate 16 0)) 0 (drop 0 text) ≡ head_in text
line-starts text = refl

pub laid-starts : Laid (InTag false 0) 0 0 (replicate 16 0)
laid-starts = record { long = refl; zeros = refl; kept = (omega arith, omega arith, omega arith) }

module _ (text : List ℕ) (st : Stand) (a n : ℕ) (tags : List ℕ) (at : ℕ) (k : Laid st a n tags)
    (inv : head_from st a (take n tags) at (drop at text) ≡ head_in text) where
  module _ (l : at < length text) (r : Next) (e : r ≡ next_of st a n (get_or text at 0)) where
    step : head_in text ≡ ran r a (take n tags) at (drop (at + 1) text)
    step =
        let f = front_long st a n tags k in
        sym inv ∙ ap (head_from st a (take n tags) at) (drop-next text at l)
        ∙ head_step st a (take n tags) at (octet_at text at) r (rw f (sym e)) (drop (at + 1) text)

    small : NextKept r a n
    small = rw e (next-kept st a n (get_or text at 0) k.kept)

    pub line-stop : r ≡ Stop → (v : Result FirstLine ℕ) → v ≡ fault_at at → v ≡ first_line_of (head_in text)
    unfolding first_line_of
    line-stop z v q = let y : head_in text ≡ fault at = step ∙ rw z in q ∙ ap first_line_of (sym y)

    pub line-done : r ≡ Done
        → ◌≡◌ {A = Result FirstLine ℕ} (Ok (record { tags = tags; count = n; end = at + 1 }))
        (first_line_of (head_in text))
    unfolding first_line_of
    line-done z =
        let f = front_long st a n tags k in
        let w = whole_is st a n tags k in
        let y : head_in text ≡ tags_to (take n tags) (at + 1) = step ∙ rw z in
        same_line w (sym f) ∙ ap first_line_of (sym y)
      where
        same_line : tags ≡ take n tags ++ replicate (16 - length (take n tags)) 0 → n ≡ length (take n tags)
            → ◌≡◌ {A = Result FirstLine ℕ} (Ok (record { tags = tags; count = n; end = at + 1 }))
            (first_line_of (tags_to (take n tags) (at + 1)))
        same_line x y = λ i. Ok (record { tags = x i; count = y i; end = at + 1 })

    pub line-goes : (s : Stand) (b : ℕ) → r ≡ Goes s b
        → head_from s b (take n tags) (at + 1) (drop (at + 1) text) ≡ head_in text
    line-goes s b z = sym (step ∙ rw z)

    pub laid-goes : (s : Stand) (b : ℕ) → r ≡ Goes s b → Laid s b n tags
    laid-goes s b z = record { long = k.long; zeros = k.zeros; kept = rw z at small }

    pub tag-room : (s : Stand) → r ≡ Tag s → n < 16
    tag-room s z = let h : NextKept (Tag s) a n = rw z at small in h.0

    pub tag-few : (s : Stand) → r ≡ Tag s → n + 1 ≤ 16
    tag-few s z = let h = tag-room s z in omega arith

    pub line-tag : (s : Stand) → r ≡ Tag s
        → head_from s 0 (take (n + 1) (set tags n a)) (at + 1) (drop (at + 1) text) ≡ head_in text
    line-tag s z =
        let h = tag-room s z in
        let f = set_front tags n a (omega (arith, k.long)) in
        rw f.0 (sym (step ∙ rw z))

    pub laid-tag : (s : Stand) → r ≡ Tag s → Laid s 0 (n + 1) (set tags n a)
    laid-tag s z =
        let h : NextKept (Tag s) a n = rw z at small in
        let f = set_front tags n a (omega (arith, k.long, h.0)) in
        record {
          long = length-set tags n a ∙ k.long;
          zeros = f.1 ∙ fewer-zeros n tags h.0 k.zeros k.long;
          kept = h.1;
        }

  pub line-end : length text ≤ at → (v : Result FirstLine ℕ) → v ≡ fault_at at → v ≡ first_line_of (head_in text)
  unfolding first_line_of head_from
  line-end h v q = q ∙ ap first_line_of (rw (drop_of_length-le text {i = at} h) at inv)

pub ruleset line_cases = (
  line-starts,
  laid-starts,
  line-stop,
  line-done,
  line-goes,
  laid-goes,
  tag-room,
  tag-few,
  line-tag,
  laid-tag,
  line-end,
)
