-- The refusal numbers and the house limits, each named once for all definitions.
use Rattle.std.specs.Prelude.{ℕ, ◌+◌}

abbrev pub too_long : ℕ
too_long = 1

abbrev pub cut_short : ℕ
cut_short = 2

abbrev pub wrong_version : ℕ
wrong_version = 3

abbrev pub wrong_metadata : ℕ
wrong_metadata = 4

abbrev pub many_columns : ℕ
many_columns = 5

abbrev pub unknown_type : ℕ
unknown_type = 6

abbrev pub repeated_tag : ℕ
repeated_tag = 7

abbrev pub wrong_size : ℕ
wrong_size = 8

abbrev pub spare_bit : ℕ
spare_bit = 9

abbrev pub key_absent : ℕ
key_absent = 10

abbrev pub broken_value : ℕ
broken_value = 11

abbrev pub octets_left : ℕ
octets_left = 12

abbrev pub wrong_count : ℕ
wrong_count = 13

abbrev pub wrong_serial : ℕ
wrong_serial = 14

abbrev pub out_of_turn : ℕ
out_of_turn = 15

abbrev pub breaks_rule : ℕ
breaks_rule = 16

abbrev pub no_room : ℕ
no_room = 17

abbrev pub breaks_form : ℕ
breaks_form = 18

abbrev pub wrong_index : ℕ
wrong_index = 19

abbrev pub wrong_sheet : ℕ
wrong_sheet = 20

-- the house limits
abbrev pub most_octets : ℕ
most_octets = 268435456

abbrev pub most_columns : ℕ
most_columns = 128

abbrev pub most_records : ℕ
most_records = 65535

-- the records of a writing, the header record first
abbrev pub most_opened : ℕ
most_opened = most_records + 1
