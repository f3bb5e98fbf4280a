-- A first line that is taken is spelt in a permitted way, and its tags are what its digits say. Each octet is undone: a
-- good tail behind it is a good tail with it. Assumes nothing.
use Rattle.std.specs.Prelude.{ℕ, suc, ◌+◌, ◌*◌, ◌^◌, ◌≤◌, ◌<◌, ◌≡◌, refl, Bool, cond, List, [], ◌∷◌, ◌++◌, eqb, ltb, length}
use Rattle.std.proofs.Common.{zero-add, arith, sym, ap, subst, ◌∙◌, append_assoc, append-nil, length-append, ltb-true, ltb-false, eqb-true}
use Rattle.std.proofs.Math.Bool.{true, false}
use Rattle.entry.specs.Record.{unlike}
use Rattle.sheet.specs.Digits.{digits_of}
use Rattle.sheet.specs.Field.{quote, comma, cr, lf, quoted, end_of, line_of, tag_field, tag_fields}
use Rattle.sheet.specs.Back.{Spells, plainly, in_quotes, AllSpelt}
use Rattle.scanning.specs.declared.Stand.{Stand}
use Rattle.scanning.specs.declared.Stand.TheVariants.{InTag, Behind, LineEnd}
use Rattle.scanning.specs.declared.Next.{Next}
use Rattle.scanning.specs.declared.Next.TheVariants.{Goes, Tag, Done, Stop}
use Rattle.scanning.specs.First.{most_tags, Words, IsFirst, digit_in, next_end, next_quote, next_tag, next_of}
use Rattle.scanning.specs.First.{tags_to, fault, head_from, ran, head_in}
use Rattle.scanning.specs.FirstKept.{Kept, NextKept, room, kept-few, next-kept}
use Rattle.scanning.specs.FirstTaken.{hex_from, AllHex, hex-small, hex-digits, tag-plain, quoted-tag}

-- ---- what follows from a stand

-- behind a tag, with ts to come
record Ending (ts xs : List ℕ) : Type 0 where
  words : Words ts
  fields : List (List ℕ)
  spelt : AllSpelt (tag_fields ts) fields
  reads : xs ≡ end_of fields ∷ line_of fields

abbrev closing : Bool → List ℕ → List ℕ
closing true r = quote ∷ r
closing false r = r

-- xs is k digits, which say t behind others that say a, a quote where q, and the end of a tag
record DigitsThen (q : Bool) (k a t : ℕ) (ts xs : List ℕ) : Type 0 where
  digits : List ℕ
  long : length digits ≡ k
  hex : AllHex digits
  says : hex_from a digits ≡ t
  rest : List ℕ
  goes : Ending ts rest
  reads : xs ≡ digits ++ closing q rest

data Part (q : Bool) (d a : ℕ) (vs xs : List ℕ) : Type 0 where
  part : (k t : ℕ) (ts : List ℕ) → vs ≡ t ∷ ts → d + k ≡ 8 → DigitsThen q k a t ts xs → Part q d a vs xs
  opens : (t : ℕ) (ts ys : List ℕ) → vs ≡ t ∷ ts → d ≡ 0 → q ≡ false → xs ≡ quote ∷ ys → DigitsThen true 8 0 t ts ys
      → Part q d a vs xs

record AtEnd (a : ℕ) (vs xs : List ℕ) : Type 0 where
  ts : List ℕ
  tags : vs ≡ a ∷ ts
  ends : Ending ts xs

Tail : Stand → ℕ → List ℕ → List ℕ → Type 0
Tail (InTag q d) a vs xs = Part q d a vs xs
Tail Behind a vs xs = AtEnd a vs xs
Tail LineEnd a vs xs = (vs ≡ []) × (xs ≡ lf ∷ [])

-- ---- a whole tag and what follows

record Lined (vs xs : List ℕ) : Type 0 where
  some : 1 ≤ length vs
  words : Words vs
  fields : List (List ℕ)
  spelt : AllSpelt (tag_fields vs) fields
  reads : xs ≡ line_of fields

eight : (ds : List ℕ) (t : ℕ) → length ds ≡ 8 → AllHex ds → hex_from 0 ds ≡ t → (t < 2 ^ 32) × (ds ≡ tag_field t)
unfolding digits_of
eight ds t l h s =
    let n : 0 + length ds ≡ 8 = omega arith in
    let a = rw (n, s) at (hex-small 0 0 ds h (omega arith)) in
    (omega arith, sym (rw (n, s) at (hex-digits 0 0 ds h)))

lined : (t : ℕ) (ts f xs : List ℕ) → t < 2 ^ 32 → Spells (tag_field t) f → (e : Ending ts xs)
    → Lined (t ∷ ts) (f ++ xs)
unfolding line_of
lined t ts f xs h s e =
    record {
      some = omega arith;
      words = (h, e.words);
      fields = f ∷ e.fields;
      spelt = (s, e.spelt);
      reads = ap (λ (l : List ℕ). f ++ l) e.reads;
    }

-- the tag that a line begins with, from a fresh stand
whole-tag : (vs xs : List ℕ) → Part false 0 0 vs xs → Lined vs xs
whole-tag vs xs (part k t ts e l h) =
    let z : length h.digits ≡ 8 = (let m = h.long in omega arith) in
    let n = eight h.digits t z h.hex h.says in
    rw (e, h.reads, n.1) (lined t ts (tag_field t) h.rest n.0 (plainly refl (tag-plain t)) h.goes)
whole-tag vs xs (opens t ts ys e l q r h) =
    let n = eight h.digits t h.long h.hex h.says in
    rw (e, r, h.reads, n.1, ← quoted-tag t h.rest)
    (lined t ts (quoted (tag_field t)) h.rest n.0 (in_quotes refl) h.goes)

-- ---- one octet back

data Undone (st : Stand) (a x : ℕ) : Next → Type 0 where
  went_on : {s : Stand} {b : ℕ} → ((vs xs : List ℕ) → Tail s b vs xs → Tail st a vs (x ∷ xs)) → Undone st a x (Goes s b)
  ended : {s : Stand} → ((vs xs : List ℕ) → Tail s 0 vs xs → Tail st a (a ∷ vs) (x ∷ xs)) → Undone st a x (Tag s)
  over : Tail st a [] (x ∷ []) → Undone st a x Done
  stopped : Undone st a x Stop

undone-cond : (st : Stand) (a x : ℕ) (b : Bool) (m n : Next) → (b ≡ true → Undone st a x m)
    → (b ≡ false → Undone st a x n) → Undone st a x (cond b m n)
undone-cond st a x true m n f g = f refl
undone-cond st a x false m n f g = g refl

-- behind a whole tag
ended-line : (a x : ℕ) (vs xs : List ℕ) → x ≡ cr → Tail LineEnd 0 vs xs → AtEnd a (a ∷ vs) (x ∷ xs)
unfolding Tail line_of
ended-line a x vs xs e h =
    rw h.0
    (record { ts = []; tags = refl; ends = record { words = tt; fields = []; spelt = tt; reads = rw (e, h.1) } })

ended-comma : (a x : ℕ) (vs xs : List ℕ) → x ≡ comma → Tail (InTag false 0) 0 vs xs → AtEnd a (a ∷ vs) (x ∷ xs)
unfolding Tail
ended-comma a x vs xs e h = go vs (whole-tag vs xs h)
  where
    some_end : (us : List ℕ) → 1 ≤ length us → (fs : List (List ℕ)) → AllSpelt (tag_fields us) fs → comma ≡ end_of fs
    some_end [] l fs s = absurd (omega arith)
    some_end (u ∷ us) l [] s = absurd s
    some_end (u ∷ us) l (f ∷ fs) s = refl

    go : (us : List ℕ) → Lined us xs → AtEnd a (a ∷ us) (x ∷ xs)
    go us l =
        record {
          ts = us;
          tags = refl;
          ends =
              record {
                words = l.words;
                fields = l.fields;
                spelt = l.spelt;
                reads = rw (e, l.reads, ← some_end us l.some l.fields l.spelt);
              };
        }

undone-end : (st : Stand) (a n x : ℕ) → ((vs xs : List ℕ) → AtEnd a vs xs → Tail st a vs xs)
    → Undone st a x (next_end n x)
unfolding next_end
undone-end st a n x f =
    undone-cond st a x (eqb x cr) _ _
    (λ e. ended (λ vs xs h. f (a ∷ vs) (x ∷ xs) (ended-line a x vs xs (eqb-true x cr e) h)))
    (λ z. undone-cond st a x (eqb x comma) _ _
    (λ e. undone-cond st a x (ltb (n + 1) most_tags) _ _
    (λ y. ended (λ vs xs h. f (a ∷ vs) (x ∷ xs) (ended-comma a x vs xs (eqb-true x comma e) h))) (λ y. stopped))
    (λ e. stopped))

undone-behind : (a n x : ℕ) → Undone Behind a x (next_end n x)
unfolding Tail
undone-behind a n x = undone-end Behind a n x (λ vs xs h. h)

module _ (q : Bool) (d a n x : ℕ) (h : Kept (InTag q d) a n) where
  digit-back : d < 8 → digit_in x < 16 → (vs xs : List ℕ) → Part q (d + 1) (a * 16 + digit_in x) vs xs
      → Part q d a vs (x ∷ xs)
  digit-back l e vs xs (part k t ts z m g) =
      part (suc k) t ts z (omega arith)
      (record {
        digits = x ∷ g.digits;
        long = ap suc g.long;
        hex = (e, g.hex);
        says = g.says;
        rest = g.rest;
        goes = g.goes;
        reads = ap (λ (l : List ℕ). x ∷ l) g.reads;
      })
  digit-back l e vs xs (opens t ts ys z m p r g) = absurd (omega arith)

  quote-back : q ≡ false → d ≡ 0 → x ≡ quote → (vs xs : List ℕ) → Part true 0 0 vs xs → Part q d a vs (x ∷ xs)
  quote-back p z e vs xs (part k t ts y m g) =
      let w : k ≡ 8 = omega arith in
      opens t ts xs y z p (ap (λ (o : ℕ). o ∷ xs) e) (rw w at g)
  quote-back p z e vs xs (opens t ts ys y m r s g) = unlike (sym r)

  none_left : (c : Bool) → q ≡ c → 8 ≤ d → (vs xs ys : List ℕ) → AtEnd a vs ys → xs ≡ closing c ys → Part q d a vs xs
  none_left c p l vs xs ys g r =
      part 0 a g.ts g.tags (omega (arith, h.1))
      (record { digits = []; long = refl; hex = tt; says = refl; rest = ys; goes = g.ends; reads = rw p r })

  undone-tag : Undone (InTag q d) a x (next_tag q d a n x)
  unfolding next_tag next_quote Tail
  undone-tag =
      undone-cond (InTag q d) a x (ltb d 8) _ _
      (λ l. undone-cond (InTag q d) a x (ltb (digit_in x) 16) _ _
      (λ e. went_on (λ vs xs g. digit-back (ltb-true d 8 l) (ltb-true (digit_in x) 16 e) vs xs
      (rw (room d a (ltb-true d 8 l) h.0) at g)))
      (λ e. undone-cond (InTag q d) a x (eqb x quote) _ _
      (λ o. undone-cond (InTag q d) a x q _ _ (λ p. stopped)
      (λ p. undone-cond (InTag q d) a x (eqb d 0) _ _
      (λ z. went_on (λ vs xs g. quote-back p (eqb-true d 0 z) (eqb-true x quote o) vs xs g)) (λ z. stopped)))
      (λ o. stopped)))
      (λ l. undone-cond (InTag q d) a x q _ _
      (λ p. undone-cond (InTag q d) a x (eqb x quote) _ _
      (λ o. went_on (λ vs xs g. none_left true p (ltb-false d 8 l) vs (x ∷ xs) xs g
      (ap (λ (y : ℕ). y ∷ xs) (eqb-true x quote o)))) (λ o. stopped))
      (λ p. undone-end (InTag q d) a n x (λ vs xs g. none_left false p (ltb-false d 8 l) vs xs xs g refl)))

undone : (st : Stand) (a n x : ℕ) → Kept st a n → Undone st a x (next_of st a n x)
unfolding next_of Tail
undone (InTag q d) a n x h = undone-tag q d a n x h
undone Behind a n x h = undone-behind a n x
undone LineEnd a n x h =
    undone-cond LineEnd a x (eqb x lf) Done Stop (λ e. over (refl, ap (λ (y : ℕ). y ∷ []) (eqb-true x lf e)))
    (λ e. stopped)

-- ---- a line that is taken is one

record Found (st : Stand) (a : ℕ) (ts : List ℕ) (i : ℕ) (xs us : List ℕ) (w : ℕ) : Type 0 where
  few : length us ≤ most_tags
  vs : List ℕ
  tags : us ≡ ts ++ vs
  tail : List ℕ
  rest : List ℕ
  reads : xs ≡ tail ++ rest
  width : w ≡ i + length tail
  is : Tail st a vs tail

no-tags : {X : Type 0} {p : ℕ} {us : List ℕ} {w : ℕ} → fault p ≡ tags_to us w → X
no-tags e = let z : ◌≡◌ {A = ℕ} 0 1 = cc in absurd (omega arith)

found : (xs : List ℕ) (st : Stand) (a : ℕ) (ts : List ℕ) (i : ℕ) (us : List ℕ) (w : ℕ) → Kept st a (length ts)
    → head_from st a ts i xs ≡ tags_to us w → Found st a ts i xs us w
unfolding head_from
found [] st a ts i us w h e = no-tags e
found (x ∷ xs) st a ts i us w h e =
    go (next_of st a (length ts) x) e (next-kept st a (length ts) x h) (undone st a (length ts) x h)
    (λ s b k q. found xs s b ts (i + 1) us w k q) (λ s k q. found xs s 0 (ts ++ (a ∷ [])) (i + 1) us w k q)
  where
    go : (n : Next)
        → ran n a ts i xs ≡ tags_to us w
        → NextKept n a (length ts) → Undone st a x n
        → ((s : Stand) (b : ℕ) → Kept s b (length ts) → head_from s b ts (i + 1) xs ≡ tags_to us w
        → Found s b ts (i + 1) xs us w)
        → ((s : Stand) → Kept s 0 (length (ts ++ (a ∷ [])))
        → head_from s 0 (ts ++ (a ∷ [])) (i + 1) xs ≡ tags_to us w → Found s 0 (ts ++ (a ∷ [])) (i + 1) xs us w)
        → Found st a ts i (x ∷ xs) us w
    go (Goes s b) q k (went_on f) f₁ f₂ =
        let r = f₁ s b k q in
        record {
          few = r.few;
          vs = r.vs;
          tags = r.tags;
          tail = x ∷ r.tail;
          rest = r.rest;
          reads = ap (λ (l : List ℕ). x ∷ l) r.reads;
          width = r.width ∙ omega arith;
          is = f r.vs r.tail r.is;
        }
    go (Tag s) q k (ended f) f₁ f₂ =
        let m = length-append ts (a ∷ []) in
        let r = f₂ s (rw m k.1) q in
        record {
          few = r.few;
          vs = a ∷ r.vs;
          tags = r.tags ∙ append_assoc ts (a ∷ []) r.vs;
          tail = x ∷ r.tail;
          rest = r.rest;
          reads = ap (λ (l : List ℕ). x ∷ l) r.reads;
          width = r.width ∙ omega arith;
          is = f r.vs r.tail r.is;
        }
    go Done q k (over t) f₁ f₂ =
        let z : ts ≡ us = cc in
        let y : i + 1 ≡ w = cc in
        record {
          few = rw (← z) (kept-few st a (length ts) h);
          vs = [];
          tags = sym z ∙ sym (append-nil ts);
          tail = x ∷ [];
          rest = xs;
          reads = refl;
          width = sym y;
          is = t;
        }
    go Stop q k u f₁ f₂ = no-tags q

-- xs begins with a first line of these tags, w octets wide
pub record FirstIs (xs us : List ℕ) (w : ℕ) : Type 0 where
  pub line : List ℕ
  pub rest : List ℕ
  pub reads : xs ≡ line ++ rest
  pub width : w ≡ length line
  pub first : IsFirst us line

pub first-sound : (xs us : List ℕ) (w : ℕ) → head_in xs ≡ tags_to us w → FirstIs xs us w
unfolding Tail
first-sound xs us w e =
    let f = found xs (InTag false 0) 0 [] 0 us w (omega arith, omega arith, omega arith) e in
    let l = subst (λ (o : List ℕ). Lined o f.tail) (sym f.tags) (whole-tag f.vs f.tail f.is) in
    record {
      line = f.tail;
      rest = f.rest;
      reads = f.reads;
      width = f.width ∙ zero-add (length f.tail);
      first =
          record {
            some = l.some;
            few = f.few;
            words = l.words;
            fields = l.fields;
            spelt = l.spelt;
            reads = l.reads;
          };
    }

-- the tags of a line that is taken
pub head_small : (xs tags : List ℕ) (w : ℕ) → head_in xs ≡ tags_to tags w → Words tags × (length tags ≤ most_tags)
head_small xs tags w e = let f = first-sound xs tags w e in (f.first.words, f.first.few)
