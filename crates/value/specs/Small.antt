-- The cases that document 01 marks P, shown of the definitions over one list.
use Rattle.std.specs.Prelude.{ℕ, ◌≡◌, refl, List, [], ◌∷◌, length}
use Rattle.octets.specs.Word.{word_of}
use Rattle.answers.specs.Walk.{Ends}
use Rattle.answers.specs.Walk.{broken}
use Rattle.whole.specs.Number.{fewest, least_of, long_number, number_of as whole_of, encode_number}
use Rattle.text.specs.Utf8.{width_of, char_width, text_from}
use Rattle.value.specs.Types.{form_in, number_of, form_at, form_of}
use Rattle.value.specs.Value.{numeric_of, binary_of, element_of, value_of}
use Rattle.value.specs.Encode.{Item, a_number, a_binary, encode_item}

-- octets that a type takes to their end or refuses, or a value and its octets
pub data Case : Type 0 where
  takes refuses : ℕ → List ℕ → Case
  writes : Item → List ℕ → Case

abbrev pub Right : Case → Type 0
Right (takes type octets) = value_of (form_of type) octets ≡ Ends (length octets)
Right (refuses type octets) = value_of (form_of type) octets ≡ broken
Right (writes item octets) = encode_item item ≡ octets

abbrev pub AllRight : List Case → Type 0
AllRight [] = Unit {0}
AllRight (c ∷ cs) = Right c × AllRight cs

abbrev pub cases : List Case
cases =
    writes (a_number 127) (0x7F ∷ [])
    ∷ writes (a_number 128) (0x81 ∷ 0x80 ∷ [])
    ∷ writes (a_number 256) (0x82 ∷ 0x00 ∷ 0x01 ∷ [])
    ∷ writes (a_number 65536) (0x83 ∷ 0x00 ∷ 0x00 ∷ 0x01 ∷ [])
    ∷ writes (a_number 16777216) (0x84 ∷ 0x00 ∷ 0x00 ∷ 0x00 ∷ 0x01 ∷ [])
    ∷ takes 0x0003 (0x7F ∷ [])
    ∷ takes 0x0003 (0x81 ∷ 0x80 ∷ [])
    ∷ takes 0x0003 (0x82 ∷ 0x00 ∷ 0x01 ∷ [])
    ∷ takes 0x0003 (0x83 ∷ 0x00 ∷ 0x00 ∷ 0x01 ∷ [])
    ∷ takes 0x0003 (0x84 ∷ 0x00 ∷ 0x00 ∷ 0x00 ∷ 0x01 ∷ [])
    ∷ refuses 0x0003 (0x80 ∷ [])
    ∷ refuses 0x0003 (0x81 ∷ 0x7F ∷ [])
    ∷ refuses 0x0003 (0x82 ∷ 0x80 ∷ 0x00 ∷ [])
    ∷ writes (a_binary (0x22 ∷ 0xF8 ∷ 0xFF ∷ 0x00 ∷ 0x22 ∷ [])) (0x05 ∷ 0x22 ∷ 0xF8 ∷ 0xFF ∷ 0x00 ∷ 0x22 ∷ [])
    ∷ takes 0x0102 (0x05 ∷ 0x22 ∷ 0xF8 ∷ 0xFF ∷ 0x00 ∷ 0x22 ∷ [])
    ∷ refuses 0x001F (0xED ∷ 0xA0 ∷ 0x80 ∷ 0x00 ∷ [])
    ∷ takes 0x001F (0xF4 ∷ 0x8F ∷ 0xBF ∷ 0xBF ∷ 0x00 ∷ [])
    ∷ refuses 0x001F (0xF4 ∷ 0x90 ∷ 0x80 ∷ 0x80 ∷ 0x00 ∷ [])
    ∷ []

pub small_cases : AllRight cases
unfolding word_of fewest least_of long_number whole_of encode_number width_of char_width text_from form_in number_of form_at form_of
    numeric_of binary_of element_of value_of
small_cases = (refl, (refl, (refl, (refl, (refl, (refl, (refl, (refl, (refl, (refl, (refl, (refl, (refl, (refl, (refl, (refl, (refl, (refl, tt))))))))))))))))))
