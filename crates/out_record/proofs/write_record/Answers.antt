-- The head, the sums, the multipliers and the residual totals are written, each after those before it.
use Rattle.std.proofs.Common.{◌≡◌, sym, ap, ◌∙◌, List, ◌++◌, append_assoc, ℕ, ◌+◌, ◌*◌, ◌≤◌, ℤ, length, map, take, drop}
use Rattle.std.proofs.Common.{length-append, arith}
use Rattle.proof_integer.specs.Vector.{length-tabulate}
use Rattle.rules.specs.Notation.{at}
use Rattle.rules.specs.Record.{fields, sums_at, record_of, record_length}
use Rattle.bytes_write.specs.Written.{written, Filled, filled-to, extend}
use Rattle.bytes_write.specs.Number.{length-unsigned, length-signed}
use Rattle.out_fields.specs.Fields.{first_fields, length-first, part-first}
use Rattle.out_record.specs.declared.Head.{Head}
use Rattle.out_record.specs.RecordParts.{head_bytes, plan_in}
use Rattle.out_record.specs.RecordLength.{length-record}
use Rattle.out_record.proofs.write_record.Goals as goal

length-head : (head : Head) → length (head_bytes head) ≡ sums_at
unfolding head_bytes
length-head head = simp (length-append, length-unsigned, length-signed)

module _ (head : Head) (sums multipliers totals : List ℤ) where
  -- the four parts are the record
  parts : ((head_bytes head ++ first_fields 4 head.materials sums) ++ first_fields 4 head.limits multipliers)
      ++ first_fields 8 head.limits totals ≡ record_of (plan_in head sums multipliers totals)
  unfolding head_bytes record_of plan_in
  parts = simp append_assoc

  -- and it has the record's length
  record-length : length (record_of (plan_in head sums multipliers totals))
      ≡ record_length head.materials head.limits
  unfolding plan_in
  record-length =
      length-record (plan_in head sums multipliers totals) head.materials head.limits
      (length-tabulate head.materials (at sums))
      (length-tabulate head.limits (at multipliers))
      (length-tabulate head.limits (at totals))

-- figures that were lent as a part of an array are the first ones
put : (w n : ℕ) (figures : List ℤ) (d : List ℕ) {part : List ℕ} → n ≤ length figures
    → part ≡ written (fields w (map (λ z. z) (take n figures))) d → part ≡ written (first_fields w n figures) d
put w n figures d h e = e ∙ ap (λ (bytes : List ℕ). written bytes d) (part-first w n figures h)

pub returns : goal.returns
unfolding written
returns c =
    let d₀ = c.args.record.now in
    let head = c.args.head in
    let n = head.materials in
    let m = head.limits in
    let sums = c.args.sums.now in
    let multipliers = c.args.multipliers.now in
    let totals = c.args.residual_totals.now in
    let with-head : Filled d₀ (head_bytes head) sums_at c.put_head.new.record =
    record { is = c.put_head.ensures; long = length-head head } in
    let with-sums = extend (first_fields 4 n sums) with-head (length-first 4 n sums)
    (put 4 n sums _ (omega arith) c.put_figures.ensures) in
    let multipliers-place = c.multipliers_at-after_sums.ensures in
    let after-sums = filled-to multipliers-place with-sums in
    let with-multipliers =
    extend (first_fields 4 m multipliers) after-sums (length-first 4 m multipliers)
    (put 4 m multipliers _ (omega arith) c.put_figures-2.ensures) in
    let totals-place = c.totals_at-after_multipliers.ensures ∙ ap (λ (a : ℕ). a + 4 * m) (sym multipliers-place) in
    let after-multipliers = filled-to totals-place with-multipliers in
    let with-totals =
    extend (first_fields 8 m totals) after-multipliers (length-first 8 m totals)
    (put 8 m totals _ (omega arith) c.put_figures-3.ensures) in
    with-totals.is
    ∙ ap (λ (bytes : List ℕ). written bytes d₀) (parts head sums multipliers totals)
    ∙ ap (λ (a : ℕ). record_of (plan_in head sums multipliers totals) ++ drop a d₀)
    (record-length head sums multipliers totals)
