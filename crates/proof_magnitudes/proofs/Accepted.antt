-- A sheet that is read (T7.5) has the ranges of `Accepted`.
use Rattle.std.specs.Prelude.{◌≡◌, List}
use Rattle.std.proofs.Math.Option.{none}
use Prim.Native.Nat.{ℕ}
use Rattle.rules.specs.Sheet.{sheet_of, problem}
use Rattle.rules.specs.Refusals.{layout_refusal}
use Rattle.proof_laws.specs.Passed.{passed}
use Rattle.proof_magnitudes.specs.Accepted.{Accepted, ranged}

-- Where none of refusals 1 to 7 is given, the problem of the sheet and its step count lie in their ranges.
pub accepted : (s : List ℕ) → layout_refusal s ≡ none → Accepted (problem (sheet_of s)) (sheet_of s).sizes.steps
accepted s h = ranged (sheet_of s) (passed s h)
