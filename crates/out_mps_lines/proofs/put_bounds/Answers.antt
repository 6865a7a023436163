-- The lines of the lower and the upper bound, one after the other.
use Rattle.std.specs.Prelude.{◌≡◌, [], ◌∷◌, ℤ}
use Rattle.std.proofs.Common.{w64, SFits, to_z, of_z}
use Rattle.std.proofs.Math.Facts.{to_z-of_z}
use Rattle.rules.specs.Listing.{text, decimal}
use Rattle.rules_mps.specs.Mps.{material_name, fields, bound_lines}
use Rattle.out_text.specs.Grows.{grows-as, grows-then}
use Rattle.out_mps_lines.proofs.put_bounds.Goals as goal

-- the last field of a line, by the figure itself
figure-last : {v : ℤ} → SFits w64 v → fields (decimal (to_z w64 (of_z w64 v)) ∷ []) ≡ fields (decimal v ∷ [])
figure-last fits = λ k. fields (decimal (to_z-of_z fits k) ∷ [])

pub returns : goal.returns
unfolding bound_lines fields material_name text
returns c =
    let low = grows-as (figure-last c.ranges.least) c.put_last.ensures in
    let high = grows-as (figure-last c.ranges.most) c.put_last-2.ensures in
    grows-then (grows-then c.put_name.ensures low) (grows-then c.put_name-2.ensures high)
