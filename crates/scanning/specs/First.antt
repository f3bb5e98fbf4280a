-- The first line of a sheet (request 106): 1 to 16 tags of eight upper-case digits of base 16, in quotes or not; how it
-- is scanned, and what it is. Assumes nothing.
use Rattle.std.specs.Prelude.{ℕ, ◌+◌, ◌-◌, ◌*◌, ◌%◌, ◌^◌, ◌≤◌, ◌<◌, ◌≡◌, Bool, true, false, cond, List, [], ◌∷◌, ◌++◌, eqb, ltb, leb, length, replicate, Result, Ok, Err}
use Rattle.sheet.specs.Field.{quote, comma, cr, lf, line_of, tag_fields}
use Rattle.sheet.specs.Back.{AllSpelt}
use Rattle.scanning.specs.declared.Stand.{Stand}
use Rattle.scanning.specs.declared.Stand.TheVariants.{InTag, Behind, LineEnd}
use Rattle.scanning.specs.declared.Next.{Next}
use Rattle.scanning.specs.declared.Next.TheVariants.{Goes, Tag, Done, Stop}
use Rattle.scanning.specs.declared.FirstLine.{FirstLine}

abbrev pub most_tags : ℕ
most_tags = 16

-- ---- what it is

-- each is below 2 ^ 32
abbrev pub Words : List ℕ → Type 0
Words [] = Unit {0}
Words (t ∷ ts) = (t < 2 ^ 32) × Words ts

pub record IsFirst (tags line : List ℕ) : Type 0 where
  pub some : 1 ≤ length tags
  pub few : length tags ≤ most_tags
  pub words : Words tags
  pub fields : List (List ℕ)
  pub spelt : AllSpelt (tag_fields tags) fields
  pub reads : line ≡ line_of fields

-- ---- how it is scanned

-- what a digit of base 16 says; 16 for an octet that is none
unfoldable pub digit_in : ℕ → ℕ
digit_in x = cond (ltb x 48) 16 (cond (leb x 57) (x - 48) (cond (ltb x 65) 16 (cond (leb x 70) (x - 55) 16)))

-- behind a whole tag, n having gone before it
unfoldable pub next_end : ℕ → ℕ → Next
next_end n x =
    cond (eqb x cr) (Tag LineEnd)
    (cond (eqb x comma) (cond (ltb (n + 1) most_tags) (Tag (InTag false 0)) Stop) Stop)

-- no digit: the quote that opens may stand before the first one
unfoldable pub next_quote : Bool → ℕ → ℕ → Next
next_quote q d x = cond (eqb x quote) (cond q Stop (cond (eqb d 0) (Goes (InTag true 0) 0) Stop)) Stop

-- of the digits before, at most seven, which say a, nothing is cut off
unfoldable pub next_tag : Bool → ℕ → ℕ → ℕ → ℕ → Next
next_tag q d a n x =
    cond (ltb d 8)
    (cond (ltb (digit_in x) 16) (Goes (InTag q (d + 1)) (a % 268435456 * 16 + digit_in x)) (next_quote q d x))
    (cond q (cond (eqb x quote) (Goes Behind a) Stop) (next_end n x))

unfoldable pub next_of : Stand → ℕ → ℕ → ℕ → Next
next_of (InTag q d) a n x = next_tag q d a n x
next_of Behind a n x = next_end n x
next_of LineEnd a n x = cond (eqb x lf) Done Stop

-- the tags and where the line ends, or the place of the octet at fault
pub data Headed : Type 0 where
  tags_to : List ℕ → ℕ → Headed
  fault : ℕ → Headed

-- what follows an octet
abbrev pub gone : Next → (Stand → ℕ → Headed) → (Stand → Headed) → Headed → Headed → Headed
gone (Goes s b) goes tag done stop = goes s b
gone (Tag s) goes tag done stop = tag s
gone Done goes tag done stop = done
gone Stop goes tag done stop = stop

-- a is what the digits say so far, ts are the tags before; i octets have gone before
unfoldable pub head_from : Stand → ℕ → List ℕ → ℕ → List ℕ → Headed
head_from st a ts i [] = fault i
head_from st a ts i (x ∷ xs) =
    gone (next_of st a (length ts) x) (λ s b. head_from s b ts (i + 1) xs)
    (λ s. head_from s 0 (ts ++ (a ∷ [])) (i + 1) xs) (tags_to ts (i + 1)) (fault i)

-- one octet on
abbrev pub ran : Next → ℕ → List ℕ → ℕ → List ℕ → Headed
ran n a ts i xs =
    gone n (λ s b. head_from s b ts (i + 1) xs) (λ s. head_from s 0 (ts ++ (a ∷ [])) (i + 1) xs) (tags_to ts (i + 1))
    (fault i)

pub head_step : (st : Stand) (a : ℕ) (ts : List ℕ) (i x : ℕ) (n : Next) → next_of st a (length ts) x ≡ n
    → (xs : List ℕ) → head_from st a ts i (x ∷ xs) ≡ ran n a ts i xs
unfolding head_from
head_step st a ts i x n e xs = rw e

-- the line at the front of xs
abbrev pub head_in : List ℕ → Headed
head_in xs = head_from (InTag false 0) 0 [] 0 xs

abbrev pub fault_at : ℕ → Result FirstLine ℕ
fault_at p = Err p

-- the tags with zeros behind the last
unfoldable pub first_line_of : Headed → Result FirstLine ℕ
first_line_of (tags_to ts w) =
    Ok (record { tags = ts ++ replicate (most_tags - length ts) 0; count = length ts; end = w })
first_line_of (fault p) = fault_at p
