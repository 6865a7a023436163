-- TASK.md, T11.3: S6, of the largest sizes, in the form of the tables of `rules`.
use Rattle.std.specs.Prelude.{◌≡◌, refl, List, [], ◌∷◌, ◌++◌, replicate, pos, Ok}
use Rattle.rules.specs.Notation.{neg}
use Rattle.rules.specs.Encoder.{written}
use Rattle.rules.specs.Listing.{text}
use Rattle.rules.specs.Sheet.{sized}
use Rattle.rules.specs.Rows.{Entry, ◌∶◌, entered, encode, hex, Row, Holds}

abbrev entries-S6 : List Entry
entries-S6 = 31 ∶ pos 5 ∷ 159 ∶ pos 1 ∷ 1183 ∶ neg 1 ∷ 1184 ∶ neg 1 ∷ 1185 ∶ pos 7 ∷ []

-- The last limit of the largest sizes begins at 7, and moves the last material: cost 5, most 1, −x ≤ −1. By hand:
-- step 0: M_15 = 7; r_31 = 5 − 7 = −2; x_31 = 1; g_15 = −1 + 1 = 0; V = 5.
-- Closing M_15 = 7, where all is as in step 0; S_31 = 1; G_15 = 0; low 5; gap 5 − 5 = 0.
-- From 0 the amount would be 0, and low 1, the closing value at M_15 = 1.
abbrev pub S6 : Row
S6 = record {
  sheet = encode 32 16 1 1 1 entries-S6;
  room = 342;
  answer = Ok (record { low = pos 5; gap = pos 0 });
  bytes =
      hex "2000 1000 0100 0500000000000000 0000000000000000"
      ++ replicate 124 0
      ++ hex "01000000"
      ++ replicate 60 0
      ++ hex "07000000"
      ++ replicate 128 0;
  listing =
      text "steps 1\nmat 0 0\nmat 1 0\nmat 2 0\nmat 3 0\nmat 4 0\nmat 5 0\nmat 6 0\nmat 7 0\nmat 8 0\nmat 9 0\n"
      ++ text "mat 10 0\nmat 11 0\nmat 12 0\nmat 13 0\nmat 14 0\nmat 15 0\nmat 16 0\nmat 17 0\nmat 18 0\nmat 19 0\n"
      ++ text "mat 20 0\nmat 21 0\nmat 22 0\nmat 23 0\nmat 24 0\nmat 25 0\nmat 26 0\nmat 27 0\nmat 28 0\nmat 29 0\n"
      ++ text "mat 30 0\nmat 31 1\nlim 0 0 0\nlim 1 0 0\nlim 2 0 0\nlim 3 0 0\nlim 4 0 0\nlim 5 0 0\nlim 6 0 0\n"
      ++ text "lim 7 0 0\nlim 8 0 0\nlim 9 0 0\nlim 10 0 0\nlim 11 0 0\nlim 12 0 0\nlim 13 0 0\n"
      ++ text "lim 14 0 0\nlim 15 7 0\nlow 5\ngap 0\n";
}

-- It follows from the definitions.
pub largest-start : Holds S6
unfolding Holds
largest-start = (refl, refl, refl, refl)

-- its bytes: the six sizes, the keys, the values
pub bytes-are :
    S6.sheet
    ≡ hex "2000 1000 0500 0100 0100 0100  1f00 9f00 9f04 a004 a104  05000000 01000000 ffffffff ffffffff 07000000"
unfolding Holds
bytes-are = refl

-- They are what is written of its sizes and table: the start of the last limit has the largest key of all.
pub encoded : written (sized 32 16 1 1 1) (entered entries-S6) ≡ S6.sheet
unfolding Holds
encoded = refl
