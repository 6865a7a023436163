-- A buffer that takes every text gets it at once; any other by way of the copy.
use Rattle.std.proofs.Common.{arith, refl}
use Rattle.rules_mps.specs.Mps.{mps_text, longest_mps}
use Rattle.proof_laws.specs.Outputs.{writes-all, long-enough}
use Rattle.sheet_figures.specs.Figures.{problem_of}
use Rattle.out_text.specs.Growing.{whole-put}
use Rattle.out_mps_text.specs.Longest.{text-short}
use Rattle.out_mps.proofs.write_figures.Goals as goal

pub returns : goal.returns
unfolding longest_mps
returns c =
    let t = mps_text (problem_of c.args.f.now c.args.coefficient.now) in
    let short = text-short c.requires in
    let (is, length-is) = whole-put c.put_text.ensures (omega (arith, short)) in
    writes-all (long-enough 11 t refl (omega (arith, short))) length-is is
