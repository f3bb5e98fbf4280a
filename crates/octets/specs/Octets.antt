-- Lists of octets, and what stands at the front of one. Assumes nothing.
use Rattle.std.specs.Prelude.{ℕ, zero, suc, ◌+◌, ◌-◌, ◌≤◌, ◌<◌, ◌≡◌, refl, List, [], ◌∷◌, ◌++◌, length, take, drop, get_or}
use Rattle.std.proofs.Common.{sym, ap, ◌∙◌, arith, add-one, length-drop, take-append-drop, take_all, take_at, drop_at, drop-cons, get_or-drop, get_or-append-add, Fits}
use Rattle.std.proofs.Math.ListN.{get_or-eq_default}
use Rattle.std.proofs.Math.Seq.{take-append_seam, drop-append_seam}
use Rattle.std.specs.Int.{w8}
use Rattle.octets.specs.Cases.{split}

-- octet i, 0 past the end
abbrev pub octet_at : List ℕ → ℕ → ℕ
octet_at xs i = get_or xs i 0

-- each is below 256
abbrev pub Octets : List ℕ → Type 0
Octets xs = (i : ℕ) → octet_at xs i < 256

-- the stretch from s up to e lies within l octets
abbrev pub Lies : ℕ → ℕ → ℕ → Type 0
Lies s e l = (s ≤ e) × (e ≤ l)

pub octets-drop : (n : ℕ) (xs : List ℕ) → Octets xs → Octets (drop n xs)
octets-drop n xs o i = rw get_or-drop (o (n + i))

pub octets-append : (xs ys : List ℕ) → Octets xs → Octets ys → Octets (xs ++ ys)
octets-append [] ys o q i = q i
octets-append (x ∷ xs) ys o q zero = o 0
octets-append (x ∷ xs) ys o q (suc i) = octets-append xs ys (λ j. o (suc j)) q i

pub octets-left : (xs ys : List ℕ) → Octets (xs ++ ys) → Octets xs
octets-left [] ys o i = omega arith
octets-left (x ∷ xs) ys o zero = o 0
octets-left (x ∷ xs) ys o (suc i) = octets-left xs ys (λ j. o (suc j)) i

pub octets-right : (xs ys : List ℕ) → Octets (xs ++ ys) → Octets ys
octets-right xs ys o i = rw (get_or-append-add xs ys i 0) at (o (length xs + i))

pub octets-take : (n : ℕ) (xs : List ℕ) → Octets xs → Octets (take n xs)
octets-take n xs o = octets-left (take n xs) (drop n xs) (λ i. rw (take-append-drop n xs) (o i))

-- what a lent slice holds
pub octets-from : (xs : List ℕ) → ((i : ℕ) → Fits w8 (get_or xs i 0)) → Octets xs
octets-from xs o i = let f = (o i).fits in omega arith

-- the n octets from i, one by one
abbrev pub octets_from : ℕ → List ℕ → ℕ → List ℕ
octets_from zero xs i = []
octets_from (suc n) xs i = octet_at xs i ∷ octets_from n xs (suc i)

pub take-octets : (n : ℕ) (xs : List ℕ) (i : ℕ) → i + n ≤ length xs → take n (drop i xs) ≡ octets_from n xs i
take-octets zero xs i h = refl
take-octets (suc n) xs i h = rw (drop-cons xs i 0 (omega arith)) (ap (λ (l : List ℕ). octet_at xs i ∷ l) (take-octets n xs (suc i) (omega arith)))

-- a list that is long enough begins with its first n octets
pub front : (n : ℕ) (xs : List ℕ) → n ≤ length xs → xs ≡ octets_from n xs 0 ++ drop n xs
front n xs h = sym (take-append-drop n xs) ∙ ap (λ (l : List ℕ). l ++ drop n xs) (take-octets n xs 0 (omega arith))

-- an octet that isn't 0 stands in the list
pub stands : (xs : List ℕ) (i : ℕ) → 1 ≤ octet_at xs i → i < length xs
stands xs i h = split i (length xs) (λ k. k) (λ k. let e = get_or-eq_default xs 0 k in absurd (omega arith))

pub drop-next : (xs : List ℕ) (i : ℕ) → i < length xs → drop i xs ≡ octet_at xs i ∷ drop (i + 1) xs
drop-next xs i h = rw add-one (drop-cons xs i 0 h)

-- the part from i to the end is all that is left
pub rest_of : (xs : List ℕ) (i : ℕ) → take (length xs - i) (drop i xs) ≡ drop i xs
rest_of xs i = take_all (length xs - i) (drop i xs) (simp length-drop (omega arith))

-- what stands before a part is known by its length
pub same-front : (a b r s : List ℕ) → length a ≡ length b → a ++ r ≡ b ++ s → (a ≡ b) × (r ≡ s)
same-front a b r s l e =
    (sym (take-append_seam a r) ∙ ap (take (length a)) e ∙ take_at b s (length a) (sym l), sym (drop-append_seam a r) ∙ ap (drop (length a)) e ∙ drop_at b s (length a) (sym l))

pub no-octets : (xs : List ℕ) → length xs ≡ 0 → xs ≡ []
no-octets [] h = refl
no-octets (x ∷ xs) h = absurd (omega arith)
