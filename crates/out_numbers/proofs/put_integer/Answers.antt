-- A sign where the number is below 0, and then the digits of its magnitude.
use Rattle.std.proofs.Common.{rules, ◌≡◌, sym, ap, ◌∙◌, true, false, [], ◌∷◌, ◌++◌, ℕ, ℤ, pos, negsuc, to_z-of_z, arith}
use Rattle.std.specs.Prelude.{nat_abs}
use Rattle.std.specs.Int.{is_negative}
use Rattle.rules.specs.Listing.{text, decimal}
use Rattle.out_text.specs.Grows.{grows-as, grows-then}
use Rattle.out_numbers.proofs.put_integer.Goals as goal
use Rattle.out_numbers.proofs.put_integer.Goals.{then-is_negative, else-is_negative}

-- what is below 0
below-decimal : (z : ℤ) (m : ℕ) → is_negative z ≡ true → m ≡ nat_abs z → (45 ∷ []) ++ decimal (pos m) ≡ decimal z
unfolding decimal text
below-decimal (pos n) m h e = absurd (search rules)
below-decimal (negsuc n) m h e = rw e

-- and what is not
other-decimal : (z : ℤ) (m : ℕ) → is_negative z ≡ false → m ≡ nat_abs z → decimal (pos m) ≡ decimal z
other-decimal (pos n) m h e = rw e
other-decimal (negsuc n) m h e = absurd (search rules)

pub returns : goal.returns
returns c =
    let v = c.args.v in
    let magnitude : c.unsigned_abs.result ≡ nat_abs v =
    simp (to_z-of_z c.ranges.v) at c.unsigned_abs.ensures.value in
    let sign : c.is_negative.result ≡ is_negative v = c.is_negative.ensures ∙ ap is_negative (to_z-of_z c.ranges.v) in
    let most = c.unsigned_abs.ensures.bound in
    elim c.if-is_negative.branch [
      | then-is_negative w ↦
          grows-as (below-decimal v _ (sym sign ∙ w.if-is_negative.true) (omega (arith, magnitude, most)))
          (grows-then w.put_byte.ensures (rw w.text-is at c.put_number.ensures))
      | else-is_negative w ↦
          grows-as (other-decimal v _ (sym sign ∙ w.if-is_negative.false) (omega (arith, magnitude, most)))
          (rw w.text-is at c.put_number.ensures)
    ]
