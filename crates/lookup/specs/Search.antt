-- What a search by a tag finds: the first column that has it; in a sound table the only one.
use Rattle.std.specs.Prelude.{ℕ, zero, suc, ◌<◌, ◌≡◌, refl, Bool, true, false, cond, List, [], ◌∷◌, eqb, length, get_or}
use Rattle.std.proofs.Common.{arith, sym, ◌∙◌, eq-eqb, ne_eqb}
use Rattle.std.proofs.lemmas.Bool.{eqb-false}
use Rattle.table.specs.Table.{Column, SoundColumns, SoundTable}
use Rattle.table.specs.Columns.{tags_of}
use Rattle.table.specs.Repeat.{memb}
use Rattle.table.specs.Found.{Found}
use Rattle.table.specs.Found.{At, Nothing}
use Rattle.table.specs.Seen.{seen_apart}
use Rattle.lookup.specs.Look.{one_on, column_in}

-- ---- the first

pub column-none : (t : ℕ) (xs : List ℕ) → column_in t xs ≡ Nothing → (j : ℕ) → j < length xs → get_or xs j 0 ≡ t → ⊥
unfolding column_in
column-none t [] e j l z = omega arith
column-none t (x ∷ xs) e j l z = go (eqb t x) refl (column_in t xs) refl e j l z (column-none t xs)
  where
    go : (b : Bool) → eqb t x ≡ b → (f : Found) → column_in t xs ≡ f → cond b (At 0) (one_on f) ≡ Nothing → (j : ℕ)
        → j < suc (length xs) → get_or (x ∷ xs) j 0 ≡ t
        → (column_in t xs ≡ Nothing → (j : ℕ) → j < length xs → get_or xs j 0 ≡ t → ⊥) → ⊥
    go true q f p e j l z ih = let y : ◌≡◌ {A = ℕ} 0 1 = cc in omega arith
    go false q (At c) p e j l z ih = let y : ◌≡◌ {A = ℕ} 0 1 = cc in omega arith
    go false q Nothing p e zero l z ih = eqb-false t x q (sym z)
    go false q Nothing p e (suc j) l z ih = ih p j (omega arith) z

pub column-before : (t : ℕ) (xs : List ℕ) (c : ℕ) → column_in t xs ≡ At c → (j : ℕ) → j < c → get_or xs j 0 ≡ t → ⊥
unfolding column_in
column-before t [] c e j l z = let y : ◌≡◌ {A = ℕ} 0 1 = cc in omega arith
column-before t (x ∷ xs) c e j l z = go (eqb t x) refl (column_in t xs) refl e j l z (column-before t xs)
  where
    go : (b : Bool) → eqb t x ≡ b → (f : Found) → column_in t xs ≡ f → cond b (At 0) (one_on f) ≡ At c → (j : ℕ) → j < c
        → get_or (x ∷ xs) j 0 ≡ t
        → ((d : ℕ) → column_in t xs ≡ At d → (j : ℕ) → j < d → get_or xs j 0 ≡ t → ⊥) → ⊥
    go true q f p e j l z ih = let y : 0 ≡ c = cc in omega arith
    go false q Nothing p e j l z ih = let y : ◌≡◌ {A = ℕ} 0 1 = cc in omega arith
    go false q (At d) p e zero l z ih = eqb-false t x q (sym z)
    go false q (At d) p e (suc j) l z ih = let y : suc d ≡ c = cc in ih d p j (omega arith) z

pub column-not : (t : ℕ) (xs : List ℕ) → ((j : ℕ) → j < length xs → get_or xs j 0 ≡ t → ⊥) → column_in t xs ≡ Nothing
unfolding column_in
column-not t [] h = refl
column-not t (x ∷ xs) h =
    rw (ne_eqb t x (λ z. h 0 (omega arith) (sym z)), column-not t xs (λ j l z. h (suc j) (omega arith) z))

pub column-at : (t : ℕ) (xs : List ℕ) (c : ℕ) → c < length xs → get_or xs c 0 ≡ t
    → ((j : ℕ) → j < c → get_or xs j 0 ≡ t → ⊥) → column_in t xs ≡ At c
unfolding column_in
column-at t [] c l e h = absurd (omega arith)
column-at t (x ∷ xs) zero l e h = rw (eq-eqb t x (sym e))
column-at t (x ∷ xs) (suc c) l e h =
    rw (
      ne_eqb t x (λ z. h 0 (omega arith) (sym z)),
      column-at t xs c (omega arith) e (λ j k z. h (suc j) (omega arith) z),
    )

-- ---- in a sound table no other column has the tag

pub column-first : (seen : List ℕ) (cs : List Column) → SoundColumns seen cs → (t c : ℕ) → c < length cs
    → get_or (tags_of cs) c 0 ≡ t → column_in t (tags_of cs) ≡ At c
unfolding column_in
column-first seen [] h t c l e = absurd (omega arith)
column-first seen (x ∷ cs) h t zero l e = rw (eq-eqb t x.tag (sym e))
column-first seen (x ∷ cs) h t (suc c) l e =
    let m : memb x.tag (x.tag ∷ seen) ≡ true = rw (eq-eqb x.tag x.tag refl) in
    let n : t ≡ x.tag → ⊥ = λ q. seen_apart x.tag (x.tag ∷ seen) cs h.2 m c (omega arith) (sym q ∙ sym e) in
    rw (ne_eqb t x.tag n, column-first (x.tag ∷ seen) cs h.2 t c (omega arith) e)

pub only-column : (cs : List Column) → SoundTable cs → (t c : ℕ) → c < length cs
    → get_or (tags_of cs) c 0 ≡ t → column_in t (tags_of cs) ≡ At c
only-column cs h t c l e = column-first [] cs h.1 t c l e
