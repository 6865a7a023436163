-- Both parts, one after the other.
use Rattle.std.proofs.Common.{rules}
use Rattle.sheet_figures.specs.Figures.{problem_of}
use Rattle.out_text.specs.Growing.{puts-as}
use Rattle.out_text.specs.Grows.{grows-then, put-in}
use Rattle.out_mps_text.specs.Halves.{halves}
use Rattle.out_mps_text.proofs.put_text.Goals as goal

pub returns : goal.returns
returns c =
    puts-as (halves (problem_of c.args.f.now c.args.coefficient.now))
    (put-in (grows-then c.put_upper.ensures c.put_lower.ensures) (search rules))
