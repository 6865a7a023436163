-- The lengths of the arrays, read off their test.
use Rattle.std.specs.Prelude.{◌≡◌, true, ◌*◌, T, length}
use Rattle.std.specs.Float.Ieee.Fits.{and_l, and_r}
use Rattle.std.proofs.Math.Facts.{eqb_yes}
use Rattle.rules.specs.declared.Shape.{Shape}
use Rattle.rules_arrays.specs.Arrays.{Arrays, lengths_match}

pub record LengthsMatch (shape : Shape) (A : Arrays) : Type 0 where
  pub costs : length A.costs ≡ shape.materials
  pub least_amounts : length A.least_amounts ≡ shape.materials
  pub most_amounts : length A.most_amounts ≡ shape.materials
  pub coefficients : length A.coefficients ≡ shape.materials * shape.limits
  pub right_hand_sides : length A.right_hand_sides ≡ shape.limits
  pub starts : length A.starts ≡ shape.limits

pub lengths-match : (shape : Shape) (A : Arrays) → lengths_match shape A ≡ true → LengthsMatch shape A
unfolding lengths_match
lengths-match shape A h =
    let t : T (lengths_match shape A) = rw h tt in
    record {
      costs = search (and_l, and_r, eqb_yes);
      least_amounts = search (and_l, and_r, eqb_yes);
      most_amounts = search (and_l, and_r, eqb_yes);
      coefficients = search (and_l, and_r, eqb_yes);
      right_hand_sides = search (and_l, and_r, eqb_yes);
      starts = search (and_l, and_r, eqb_yes);
    }
