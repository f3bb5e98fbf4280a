-- UTF-8 strings (2.9.6.4; RFC 3629, section 4): the width of the character that some octets begin, and one character or more with a 0 behind.
use Rattle.std.specs.Prelude.{ℕ, zero, suc, ◌+◌, ◌-◌, List, [], ◌∷◌, cond, eqb, ltb}
use Rattle.octets.specs.Octets.{octet_at}
use Rattle.answers.specs.Walk.{Walk}
use Rattle.answers.specs.Walk.{Ends}
use Rattle.answers.specs.Walk.{broken}

-- the least and the greatest second octet after the first
abbrev pub low_of : ℕ → ℕ
low_of a = cond (eqb a 224) 160 (cond (eqb a 240) 144 128)

abbrev pub high_of : ℕ → ℕ
high_of a = cond (eqb a 237) 159 (cond (eqb a 244) 143 191)

-- the width of the character that a, b, c, d begin, where b is to lie from lo to hi; 0 where they begin none
unfoldable pub width_of : ℕ → ℕ → ℕ → ℕ → ℕ → ℕ → ℕ
width_of a b c d lo hi =
    cond (ltb a 128) 1
    (cond (ltb a 194) 0
    (cond (ltb 244 a) 0
    (cond (ltb b lo) 0
    (cond (ltb hi b) 0
    (cond (ltb a 224) 2
    (cond (ltb c 128) 0
    (cond (ltb 191 c) 0
    (cond (ltb a 240) 3
    (cond (ltb d 128) 0
    (cond (ltb 191 d) 0
    4))))))))))

-- of the character at i
unfoldable pub char_width : List ℕ → ℕ → ℕ
char_width s i = width_of (octet_at s i) (octet_at s (i + 1)) (octet_at s (i + 2)) (octet_at s (i + 3)) (low_of (octet_at s i)) (high_of (octet_at s i))

-- a string, where i octets have gone before, and the next k are of a character that was looked at
unfoldable pub text_from : ℕ → ℕ → List ℕ → Walk
text_from k i [] = broken
text_from (suc k) i (x ∷ xs) = text_from k (i + 1) xs
text_from zero i (x ∷ xs) =
    cond (eqb x 0) (cond (eqb i 0) broken (Ends (i + 1)))
    (cond (eqb (char_width (x ∷ xs) 0) 0) broken (text_from (char_width (x ∷ xs) 0 - 1) (i + 1) xs))

abbrev pub text_of : List ℕ → Walk
text_of xs = text_from 0 0 xs
