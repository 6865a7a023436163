-- The end of the bounds that a weight chooses: u for a weight below 0, and l for any other. The weight is a reduced
-- cost, a cost, or a cost's opposite.
use Rattle.std.specs.Prelude.{◌≡◌, refl, cond, zero, suc, ℤ, pos, negsuc, ◌*ℤ◌}
use Rattle.std.proofs.Common.{sym, zero-le, one-mul, arith, lt-ltb, le-ltb}
use Rattle.std.specs.Int.Signed.{lt_z}

unfoldable pub end_by : (weight least most : ℤ) → ℤ
end_by weight least most = cond (lt_z weight (pos 0)) most least

-- −c is below 0 where c is above 0
pub opposite-sign : (c : ℤ) → lt_z (negsuc 0 *ℤ c) (pos 0) ≡ lt_z (pos 0) c
opposite-sign (pos zero) = refl
opposite-sign (pos (suc n)) = rw one-mul (sym (lt-ltb 0 (suc n) (omega arith)))
opposite-sign (negsuc n) = rw one-mul (le-ltb (suc n) 0 zero-le)
