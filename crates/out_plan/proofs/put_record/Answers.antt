-- The sizes are tested as the definition tests them.
use Rattle.std.proofs.Common.{sym, arith}
use Rattle.out_plan.specs.RecordText.{WholeRecord}
use Rattle.out_plan.specs.HoldsRecord.{many-materials, many-limits, cut_short, no-sums, no_text, record-text}
use Rattle.out_plan.proofs.put_record.Goals as goal

pub returns-then-record-lt-SUMS_AT : goal.returns-then-record-lt-SUMS_AT
returns-then-record-lt-SUMS_AT c =
    let r = c.args.«record».now in
    no_text r (no-sums r (omega (arith, c.if-record-lt-SUMS_AT.true)))

pub returns-then-n-gt32 : goal.returns-then-n-gt32
returns-then-n-gt32 c =
    let r = c.args.«record».now in
    no_text r (many-materials r (rw (sym c.size_at-n.ensures.is) (omega arith)))

pub returns-then-m-gt16 : goal.returns-then-m-gt16
returns-then-m-gt16 c =
    let r = c.args.«record».now in
    no_text r (many-limits r (rw (sym c.size_at-m.ensures.is) (omega arith)))

pub returns-then-record-record_length : goal.returns-then-record-record_length
returns-then-record-record_length c =
    let r = c.args.«record».now in
    no_text r
    (cut_short r (rw (sym c.size_at-n.ensures.is, sym c.size_at-m.ensures.is) (omega (arith, c.record_length.ensures))))

pub returns : goal.returns
returns c =
    let r = c.args.«record».now in
    let length-is = c.record_length.ensures in
    let sized : WholeRecord r c.size_at-n.result c.size_at-m.result =
    record {
      materials = c.size_at-n.ensures.is;
      limits = c.size_at-m.ensures.is;
      sizes = record { materials = omega arith; limits = omega arith };
      whole = omega arith;
    } in
    record-text r c.type_inv.«record» sized c.put_plan.ensures
