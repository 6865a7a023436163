-- The word, the numbers and the newline, one after the other.
use Rattle.rules.specs.Listing.{text}
use Rattle.out_text.specs.Grows.{grows-then}
use Rattle.out_lines.specs.Lines.{line_of}
use Rattle.out_lines.proofs.put_line.Goals as goal

pub returns : goal.returns
unfolding line_of text
returns c = grows-then (grows-then c.put_bytes.ensures c.put_figures.ensures) c.put_byte.ensures
