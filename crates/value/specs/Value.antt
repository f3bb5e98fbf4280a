-- Values at the front of a part (2.9.6.1 to 2.9.6.9), and where they end.
use Rattle.std.specs.Prelude.{ℕ, zero, suc, ◌+◌, ◌-◌, List, cond, length, drop, ltb, leb}
use Rattle.octets.specs.Octets.{octet_at}
use Rattle.answers.specs.Walk.{Walk}
use Rattle.answers.specs.Walk.{Ends}
use Rattle.answers.specs.Walk.{broken, onto}
use Rattle.whole.specs.Number.{Number}
use Rattle.whole.specs.Number.{Some, Broken as NoNumber}
use Rattle.whole.specs.Number.{number_of}
use Rattle.text.specs.Narrow.{narrow_of}
use Rattle.text.specs.Utf8.{text_of}
use Rattle.value.specs.Types.{Kind, number, truth, narrow, text, binary, Form, one, many, unknown}

-- what follows a whole number that is read, its value and its width in hand
abbrev pub counted : Number → (ℕ → ℕ → Walk) → Walk
counted (Some (n, w)) f = f n w
counted NoNumber f = broken

-- 2.9.6.1
unfoldable pub numeric_of : List ℕ → Walk
numeric_of xs = counted (number_of xs) (λ n w. Ends w)

-- 2.9.6.2: one octet, 00 or 01
unfoldable pub truth_of : List ℕ → Walk
truth_of xs = cond (ltb (length xs) 1) broken (cond (ltb (octet_at xs 0) 2) (Ends 1) broken)

-- 2.9.6.5: a whole number of at least 1, and as many octets
unfoldable pub binary_of : List ℕ → Walk
binary_of xs = counted (number_of xs) (λ n w. cond (ltb n 1) broken (cond (leb n (length xs - w)) (Ends (w + n)) broken))

unfoldable pub element_of : Kind → List ℕ → Walk
element_of number xs = numeric_of xs
element_of truth xs = truth_of xs
element_of narrow xs = narrow_of xs
element_of text xs = text_of xs
element_of binary xs = binary_of xs

-- n elements, where i octets have gone before; an element at fault breaks the list where it starts (request 109)
unfoldable pub list_from : Kind → ℕ → ℕ → List ℕ → Walk
list_from k zero i xs = Ends i
list_from k (suc n) i xs = onto (element_of k xs) i (λ w. list_from k n (i + w) (drop w xs))

-- 2.9.6.6 to 2.9.6.9: a whole number of at least 1, and as many elements
unfoldable pub list_of : Kind → List ℕ → Walk
list_of k xs = counted (number_of xs) (λ n w. cond (ltb n 1) broken (list_from k n w (drop w xs)))

unfoldable pub value_of : Form → List ℕ → Walk
value_of (one k) xs = element_of k xs
value_of (many k) xs = list_of k xs
value_of unknown xs = broken
