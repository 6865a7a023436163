-- A space, and then the number.
use Rattle.rules.specs.Listing.{text}
use Rattle.out_text.specs.Grows.{grows-then}
use Rattle.out_numbers.specs.DecimalLength.{length-decimal-pos}
use Rattle.out_lines.proofs.put_size.Goals as goal

pub returns-clause-puts : goal.returns-clause-puts
unfolding text
returns-clause-puts c = grows-then c.put_byte.ensures c.put_number.ensures

pub returns-clause-v_len_bound : goal.returns-clause-v_len_bound
returns-clause-v_len_bound c = length-decimal-pos c.args.v c.ranges.v.fits
