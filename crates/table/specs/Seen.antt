-- In a sound table no tag stands twice: one that was seen stands in no later column.
use Rattle.std.specs.Prelude.{ℕ, zero, suc, ◌<◌, ◌≡◌, refl, Bool, true, false, cond, List, [], ◌∷◌, eqb, length, get_or}
use Rattle.std.proofs.Common.{arith, sym, ap, ◌∙◌}
use Rattle.table.specs.Repeat.{memb}
use Rattle.table.specs.Table.{Column, SoundColumns}
use Rattle.table.specs.Columns.{tags_of}

unlike : {X : Type 0} → true ≡ false → X
unlike e = let q : ◌≡◌ {A = ℕ} 1 0 = ap (λ (b : Bool). cond b 1 0) e in absurd (omega arith)

pub seen_apart : (x : ℕ) (seen : List ℕ) (cs : List Column) → SoundColumns seen cs → memb x seen ≡ true
    → (j : ℕ) → j < length cs → x ≡ get_or (tags_of cs) j 0 → ⊥
seen_apart x seen [] h m j l e = omega arith
seen_apart x seen (c ∷ cs) h m zero l e = unlike (sym m ∙ rw (← e) at h.1)
seen_apart x seen (c ∷ cs) h m (suc j) l e =
    seen_apart x (c.tag ∷ seen) cs h.2 (more (eqb x c.tag)) j (omega arith) e
  where
    more : (b : Bool) → cond b true (memb x seen) ≡ true
    more true = refl
    more false = m
