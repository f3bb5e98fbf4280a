-- The ways of the code that judges a choice of tags and finds their columns, on plain values.
use Rattle.std.specs.Prelude.{ℕ, suc, ◌+◌, ◌-◌, ◌≤◌, ◌<◌, ◌≡◌, refl, Bool, true, false, cond, not, List, [], ◌∷◌, ◌++◌, length, take, drop, get_or, set, replicate}
use Rattle.std.specs.List.{list_all}
use Rattle.std.specs.Option.{is_some, unwrap_or}
use Rattle.std.proofs.Common.{arith, add-one, sym, ap, ◌∙◌, ◌&&◌, drop_of_length-le, take-suc, take_all, length-take-le}
use Rattle.std.proofs.lemmas.List.{set_at}
use Rattle.std.proofs.Math.Seq.{append_snoc}
use borrow.Author.Tests.{le-leb, lt-leb, not-true, not-false}
use Rattle.octets.specs.Octets.{drop-next}
use Rattle.answers.specs.Numbers.{out_of_turn, breaks_form}
use Rattle.answers.specs.Verdict.{Verdict}
use Rattle.answers.specs.Verdict.{clear}
use Rattle.answers.specs.Verdict.{refused}
use Rattle.table.specs.Found.{is_found, column_of}
use Rattle.table.specs.Repeat.{repeat_of}
use Rattle.table.specs.Found.{Found}
use Rattle.table.specs.Found.{At, Nothing}
use Rattle.lookup.specs.Look.{column_in}
use Rattle.sheet.specs.Field.{all_exported}
use Rattle.exporting.specs.Export.{all_known, choice_at}
use Rattle.exporting.specs.Steps.{place_of, places_in, places_for}

module _ (cols tags : List ℕ) (i : ℕ) (inv : all_known cols (drop i tags) ≡ all_known cols tags) where
  module _ (h : i < length tags) (r : Found) (e : r ≡ column_in (get_or tags i 0) cols) where
    pub known_next : (c : ℕ) → r ≡ At c → all_known cols (drop (i + 1) tags) ≡ all_known cols tags
    unfolding all_known
    known_next c z = rw (drop-next tags i h, ← e, z) at inv

    pub known-not : r ≡ Nothing → false ≡ all_known cols tags
    unfolding all_known
    known-not z = rw (drop-next tags i h, ← e, z) at inv

  pub known-all : length tags ≤ i → true ≡ all_known cols tags
  unfolding all_known
  known-all h = rw (drop_of_length-le tags {i = i} h) at inv

pub ruleset known_cases = (known_next, known-not, known-all)

-- each tag by the same test
pub known_each : (cols tags : List ℕ) → all_known cols tags ≡ list_all (λ t. is_found (column_in t cols)) tags
unfolding all_known
known_each cols [] = refl
known_each cols (t ∷ tags) =
    go (is_found (column_in t cols)) ∙ ap (λ b. is_found (column_in t cols) && b) (known_each cols tags)
  where
    go : (b : Bool) → cond b (all_known cols tags) false ≡ (b && all_known cols tags)
    go true = refl
    go false = refl

pub some-found : (f : Found) → is_some f ≡ is_found f
some-found (At c) = refl
some-found Nothing = refl

module _ (cols tags : List ℕ) (a : Bool) (ae : a ≡ all_known cols tags) where
  pub choice-unknown : (v : Verdict) → not a ≡ true → v ≡ refused out_of_turn 0 → v ≡ choice_at cols tags
  unfolding choice_at
  choice-unknown v z q = rw (← ae, not-true a z) q

  module _ (az : not a ≡ false) (b : Bool) (be : b ≡ all_exported tags) where
    pub choice-type : (v : Verdict) → not b ≡ true → v ≡ refused breaks_form 0 → v ≡ choice_at cols tags
    unfolding choice_at
    choice-type v z q = rw (← ae, not-false a az, ← be, not-true b z) q

    module _ (bz : not b ≡ false) where
      pub choice-none : (v : Verdict) → length tags < 1 → v ≡ refused breaks_form 0 → v ≡ choice_at cols tags
      unfolding choice_at
      choice-none v h q = rw (← ae, not-false a az, ← be, not-false b bz, lt-leb 1 (length tags) h) q

      module _ (some : 1 ≤ length tags) where
        pub choice-many : (v : Verdict) → 16 < length tags → v ≡ refused breaks_form 0 → v ≡ choice_at cols tags
        unfolding choice_at
        choice-many v h q =
            rw (← ae, not-false a az, ← be, not-false b bz, le-leb 1 (length tags) some, lt-leb (length tags) 16 h) q

        module _ (few : length tags ≤ 16) (f : Found) (fe : f ≡ repeat_of tags) (s : Bool) (se : s ≡ is_some f) where
          there : is_found (repeat_of tags) ≡ s
          there = ap is_found (sym fe) ∙ sym (some-found f) ∙ sym se

          pub choice-twice : (v : Verdict) → s ≡ true → v ≡ refused breaks_form 0 → v ≡ choice_at cols tags
          unfolding choice_at
          choice-twice v z q = rw (
            ← ae,
            not-false a az,
            ← be,
            not-false b bz,
            le-leb 1 (length tags) some,
            le-leb (length tags) 16 few,
            there,
            z,
          ) q

          pub choice-good : s ≡ false → clear ≡ choice_at cols tags
          unfolding choice_at
          choice-good z =
              rw (
                ← ae,
                not-false a az,
                ← be,
                not-false b bz,
                le-leb 1 (length tags) some,
                le-leb (length tags) 16 few,
                there,
                z,
              )

pub ruleset choice_cases = (choice-unknown, choice-type, choice-none, choice-many, choice-twice, choice-good)

pub place_at : (cols : List ℕ) (tag : ℕ) (r : Found) (c : ℕ) → r ≡ column_in tag cols → r ≡ At c → c ≡ place_of cols tag
unfolding place_of
place_at cols tag r c e z = rw (← e, z)

pub place_none : (cols : List ℕ) (tag : ℕ) (r : Found) → r ≡ column_in tag cols → r ≡ Nothing → 0 ≡ place_of cols tag
unfolding place_of
place_none cols tag r e z = rw (← e, z)

pub place-found : (cols : List ℕ) (tag : ℕ) (r : Found) (p : ℕ) → r ≡ column_in tag cols → p ≡ unwrap_or r 0
    → p ≡ place_of cols tag
unfolding place_of
place-found cols tag r p e z = rw (z, ← e) (same r)
  where
    same : (r : Found) → unwrap_or r 0 ≡ column_of r
    same (At c) = refl
    same Nothing = refl

-- ---- the columns, one by one

pub places-long : (cols tags : List ℕ) → length (places_in cols tags) ≡ length tags
places-long cols [] = refl
places-long cols (t ∷ tags) = ap suc (places-long cols tags)

places-snoc : (cols tags : List ℕ) (t : ℕ)
    → places_in cols (tags ++ (t ∷ [])) ≡ places_in cols tags ++ (place_of cols t ∷ [])
places-snoc cols [] t = refl
places-snoc cols (x ∷ tags) t = ap (λ (l : List ℕ). place_of cols x ∷ l) (places-snoc cols tags t)

module _ (cols tags : List ℕ) (i : ℕ) (arr : List ℕ) (inv : arr ≡ places_in cols (take i tags) ++ replicate (16 - i) 0)
    (few : length tags ≤ 16) where
  pub places-step : (r : ℕ) → i < length tags → r ≡ place_of cols (get_or tags i 0)
      → set arr i r ≡ places_in cols (take (i + 1) tags) ++ replicate (16 - (i + 1)) 0
  places-step r h e =
      let s : 16 - i ≡ suc (16 - (i + 1)) = omega arith in
      let t : take (i + 1) tags ≡ take i tags ++ (get_or tags i 0 ∷ []) = rw add-one (take-suc tags i 0 h) in
      let l : length (places_in cols (take i tags)) ≡ i = places-long cols (take i tags)
      ∙ length-take-le i tags (omega arith) in
      let p : set (places_in cols (take i tags) ++ (0 ∷ replicate (16 - (i + 1)) 0)) i r ≡ places_in cols (take i tags)
      ++ (r ∷ replicate (16 - (i + 1)) 0) = set_at (places_in cols (take i tags)) 0 (replicate (16 - (i + 1)) 0) r i l in
      rw (inv, s, t, places-snoc cols (take i tags) (get_or tags i 0), ← e)
      (p ∙ sym (append_snoc (places_in cols (take i tags)) r (replicate (16 - (i + 1)) 0)))

  pub places-end : length tags ≤ i → i ≤ length tags → arr ≡ places_for cols tags
  places-end h k =
      let z : i ≡ length tags = omega arith in
      inv ∙ rw (z, take_all (length tags) tags (omega arith))

pub places-start : (cols tags : List ℕ) → replicate 16 0 ≡ places_in cols (take 0 tags) ++ replicate (16 - 0) 0
places-start cols tags = refl

pub ruleset places_cases = (places-step, places-end, places-start)
