-- Each turn puts one number after those before it.
use Rattle.std.proofs.Common.{take}
use Rattle.rules.specs.Listing.{spaced}
use Rattle.out_text.specs.Grows.{Grows}
use Rattle.out_lines.proofs.put_figures.Given as goal

abbrev pub invariant-loop-figure : goal.invariant-loop-figure
invariant-loop-figure l = Grows (spaced (take l.figure-index l.figures)) l.fn.text l.text
