-- What is printed: octets, refusals and answers as text.
use Rattle.std.specs.Prelude.{ℕ, ◌-◌, ◌^◌, ◌==◌, List, [], ◌++◌, length, true, false, if◌then◌else◌, codes, Option, Some, None, Ok, Err}
use Rattle.std.specs.Fmt.{decimal, digits, padded_integral, format_spec}
use Rattle.std.specs.List.{flat_map}
use Rattle.answers.specs.declared.Refusal.{Refusal}
use Rattle.answers.specs.Verdict.{Answer}

-- to the base 16, padded with 0 to two digits
abbrev pub octet_text : ℕ → List ℕ
octet_text b = padded_integral (format_spec 32 0 4 2 (2 ^ 64 - 1)) false [] (digits 16 true b)

-- two digits an octet, `-` for none
abbrev pub hex_text : List ℕ → List ℕ
hex_text bs = if length bs == 0 then codes "-" else flat_map octet_text bs

-- a refusal's number and its place
abbrev pub refused_text : Refusal → List ℕ
refused_text r = codes "refused " ++ decimal r.number ++ codes " " ++ decimal r.place

-- a word and a number, or the refusal
abbrev pub answered_text : List ℕ → Answer ℕ → List ℕ
answered_text word (Ok n) = word ++ codes " " ++ decimal n
answered_text word (Err r) = refused_text r

-- a stretch and its octets, none, or the refusal
abbrev pub found_text : Answer (Option (ℕ × ℕ)) → List ℕ → List ℕ
found_text (Ok (Some (start, end))) octets =
    codes "at " ++ decimal start ++ codes " " ++ decimal end ++ codes " " ++ hex_text octets
found_text (Ok None) octets = codes "absent"
found_text (Err r) octets = refused_text r
