-- The lines behind a sheet's first line, scanned octet by octet by one small machine (request 106). What a field holds
-- is looked at once the field has ended: by `held fits`, which tells numbers too large and wrong UTF-8, or, where sizes
-- and UTF-8 are left aside, by `anything`. Assumes nothing.
use Rattle.std.specs.Prelude.{ℕ, ◌+◌, ◌-◌, Bool, true, false, cond, List, [], ◌∷◌, ◌++◌, eqb, ltb, length, drop, get_or}
use Rattle.answers.specs.Walk.{Walk}
use Rattle.answers.specs.Walk.{Ends as WalkEnds, Broken as WalkBroken}
use Rattle.answers.specs.Walk.{ends_at}
use Rattle.text.specs.Utf8.{text_of}
use Rattle.sheet.specs.Digits.{number_in}
use Rattle.sheet.specs.Field.{lf, numbers, texts, end_of}
use Rattle.sheet.specs.Reading.{content_in}
use Rattle.scanning.specs.declared.Fill.TheVariants.{Nothing}
use Rattle.scanning.specs.declared.Stage.{Stage}
use Rattle.scanning.specs.declared.Stage.TheVariants.{Outside}
use Rattle.scanning.specs.Steps.{step_of, moved}

-- whether what a field holds is a value of the type, or nothing
unfoldable pub fits : ℕ → List ℕ → Bool
fits code [] = true
fits code (x ∷ t) =
    cond (eqb code numbers) (ltb (number_in (x ∷ t)) 4294967296)
    (cond (eqb code texts) (ends_at (text_of ((x ∷ t) ++ (0 ∷ []))) (length (x ∷ t) + 1)) true)

abbrev pub anything : ℕ → List ℕ → Bool
anything code f = true

-- of a field by what it holds
abbrev pub held : (ℕ → List ℕ → Bool) → ℕ → List ℕ → Bool
held good code f = good code (content_in f)

-- what ends field j of those of these types
abbrev pub end_at : List ℕ → ℕ → ℕ
end_at codes j = end_of (drop (j + 1) codes)

-- the text may end where a line would begin
abbrev pub at_start : ℕ → List ℕ → Bool
at_start j f = cond (eqb j 0) (eqb (length f) 0) false

-- `good` looks at the text of a field that has ended. j fields of the line are done, s is where the scan of the next
-- one stands and f is its text so far; i octets have gone before
unfoldable pub scan_from : (ℕ → List ℕ → Bool) → List ℕ → ℕ → Stage → List ℕ → ℕ → List ℕ → Walk
scan_from good codes j s f i [] = cond (at_start j f) (WalkEnds i) (WalkBroken i)
scan_from good codes j s f i (x ∷ xs) =
    cond (ltb j (length codes))
    (moved (step_of (get_or codes j 0) (end_at codes j) s x) i
    (λ t. scan_from good codes j t (f ++ (x ∷ [])) (i + 1) xs)
    (cond (good (get_or codes j 0) f) (scan_from good codes (j + 1) (Outside Nothing) [] (i + 1) xs)
    (WalkBroken (i - length f))))
    (cond (eqb x lf) (scan_from good codes 0 (Outside Nothing) [] (i + 1) xs) (WalkBroken i))

-- whether xs is lines of fields of these types, or the place of the first fault
abbrev pub scan_in : (ℕ → List ℕ → Bool) → List ℕ → List ℕ → Walk
scan_in good codes xs = scan_from good codes 0 (Outside Nothing) [] 0 xs
