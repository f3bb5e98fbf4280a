-- The ten types (document 01; 2.9.2 and 2.9.6) and the form of the values of each.
use Rattle.std.specs.Prelude.{ℕ, ◌+◌, ◌-◌, List, [], ◌∷◌, Bool, cond, not, eqb, ltb}

-- what a value, or a list's element, is
pub data Kind : Type 0 where
  number truth narrow text binary : Kind

-- the form of a type's values
pub data Form : Type 0 where
  one many : Kind → Form
  unknown : Form

-- kinds and forms as the code's arrays hold them: the kinds, the lists of each, and a number apart
abbrev pub kind_number : Kind → ℕ
kind_number number = 0
kind_number truth = 1
kind_number narrow = 2
kind_number text = 3
kind_number binary = 4

-- a list's form is as much more than its elements' kind; below are the kinds
abbrev pub list_form : ℕ
list_form = 5

-- every form of a type is below
abbrev pub forms_end : ℕ
forms_end = 10

abbrev pub unknown_form : ℕ
unknown_form = 255

abbrev pub form_number : Form → ℕ
form_number (one k) = kind_number k
form_number (many k) = list_form + kind_number k
form_number unknown = unknown_form

abbrev pub kind_at : ℕ → Kind
kind_at n =
    cond (eqb n (kind_number number)) number
    (cond (eqb n (kind_number truth)) truth
    (cond (eqb n (kind_number narrow)) narrow
    (cond (eqb n (kind_number text)) text
    binary)))

unfoldable pub form_at : ℕ → Form
form_at n = cond (ltb n list_form) (one (kind_at n)) (cond (ltb n forms_end) (many (kind_at (n - list_form))) unknown)

pub record Row : Type 0 where
  pub code : ℕ
  pub form : ℕ

abbrev pub row : ℕ → Form → Row
row code form = record { code = code; form = form_number form }

abbrev pub types : List Row
types =
    row 0x0003 (one number)
    ∷ row 0x000B (one truth)
    ∷ row 0x000D (one narrow)
    ∷ row 0x001E (one narrow)
    ∷ row 0x001F (one text)
    ∷ row 0x0102 (one binary)
    ∷ row 0x1003 (many number)
    ∷ row 0x101E (many narrow)
    ∷ row 0x101F (many text)
    ∷ row 0x1102 (many binary)
    ∷ []

-- the form beside a type code
unfoldable pub form_in : ℕ → List Row → ℕ
form_in code [] = unknown_form
form_in code (r ∷ rs) = cond (eqb r.code code) r.form (form_in code rs)

unfoldable pub number_of : ℕ → ℕ
number_of code = form_in code types

unfoldable pub form_of : ℕ → Form
form_of code = form_at (number_of code)

-- the code is one of the ten
unfoldable pub is_type : ℕ → Bool
is_type code = not (eqb (number_of code) unknown_form)
