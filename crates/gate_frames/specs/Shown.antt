-- How the programs of the gate show what comes back.
use Rattle.std.specs.Prelude.{ℕ, ◌/◌, ◌%◌, false, List, [], ◌∷◌, ◌++◌, codes, flat_map}
use Rattle.std.specs.Fmt.{decimal, digit_glyph}
use Rattle.rules.specs.declared.Refusal.{Refusal}
use Rattle.rules.specs.Refusals.{number_of}

-- a byte in two hexadecimal digits
abbrev pub hex_byte_of : ℕ → List ℕ
hex_byte_of byte = digit_glyph false (byte / 16) ∷ digit_glyph false (byte % 16) ∷ []

-- bytes in hexadecimal, one after the other
abbrev pub hex_of : List ℕ → List ℕ
hex_of bytes = flat_map hex_byte_of bytes

-- a refusal: the word, its number and its place
abbrev pub refused_of : Refusal → List ℕ
refused_of refusal = codes "refused " ++ (decimal (number_of refusal.cause) ++ (codes " " ++ decimal refusal.place))
