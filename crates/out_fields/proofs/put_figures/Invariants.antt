-- Each turn writes one figure, in its bytes, after those before it.
use Rattle.std.proofs.Common.{length, map}
use Rattle.out_fields.proofs.FieldsPut.{FieldsPut}
use Rattle.out_fields.proofs.put_figures.Given as goal

abbrev pub invariant-loop-i : goal.invariant-loop-i
invariant-loop-i g l =
    let F = g.F.Figure in FieldsPut F.WIDTH (length l.figures) (map F.number l.figures) l.initial.d l.d l.i
