-- A figure of an array, of whatever width, as one of 64 bits: it fits.
use Prim.Native.Nat.{ℕ, ◌^◌, ◌<◌}
use mathlib.Core.List.{List}
use lib.Dec.{T, leb}
use lib.IntN.{ℤ, pos}
use lib.ListN.{get_or}
use lib.Signed.{mag}
use mir.Syntax.{Width, w64}
use mir.Val.{hbits, SFits, to_z, of_z}
use mir.Facts.{to_z-of_z, sfits_widen}

-- for a proof that widens a figure by hand: the kit finds this step by itself
pub widened : (w : Width) (figures : List ℤ) (i : ℕ) → T (leb (hbits w) (hbits w64))
    → mag (get_or figures i (pos 0)) < 2 ^ hbits w → SFits w64 (to_z w (of_z w (get_or figures i (pos 0))))
widened w figures i narrow small =
    let fits : SFits w (get_or figures i (pos 0)) = record { sfits = small } in
    rw (to_z-of_z fits) (sfits_widen narrow fits)
