-- What is left after a turn, and after the last one.
use Rattle.std.proofs.Common.{◌≤◌, length, refl, ◌∙◌, add-one, arith, drop-cons}
use Rattle.std.proofs.Math.ListN.{drop_of_length-le}
use Rattle.out_text.specs.StillToPut.{left-next, left-none}
use Rattle.out_text.proofs.Text.put_bytes.Goals as goal

pub loop-byte-init : goal.loop-byte-init
loop-byte-init c = record { same_bytes = refl; left = record { is = refl } }

pub loop-byte-preserved : goal.loop-byte-preserved
loop-byte-preserved c =
    let before = c.loop-byte.invariant in
    let left = rw (drop-cons c.args.bytes.now c.loop-byte.byte-index 0 c.loop-byte-test.true) at before.left in
    record {
      same_bytes = c.put_byte.ensures.same_bytes ∙ before.same_bytes;
      left = rw add-one (left-next left c.put_byte.ensures.puts);
    }

pub returns : goal.returns
returns c =
    let before = c.loop-byte.invariant in
    let all : length c.args.bytes.now ≤ c.loop-byte.byte-index = omega arith in
    record {
      same_bytes = before.same_bytes;
      puts = left-none (rw (drop_of_length-le c.args.bytes.now all) at before.left);
    }
