-- The text is put into room that takes every text, and from there to the lent bytes where they can take it.
use Rattle.std.proofs.Common.{◌≤◌, refl, sym, ◌∙◌, length, arith, rules}
use Rattle.std.proofs.Math.Nat.{sub-zero}
use Rattle.out_listing.specs.WholeText.{begun, listed-is, not_listed}
use Rattle.out_listing.proofs.write_listing.Goals as goal
use Rattle.out_listing.proofs.write_listing.Goals.{After-put_answer-end}

pub returns-then-out-end-clause-listed : goal.returns-then-out-end-clause-listed
returns-then-out-end-clause-listed c =
    let put = begun c.put_answer-end.ensures (search rules) in
    not_listed (rw (sym put.1) (omega arith))

-- the text ends inside the room
inside : (c : After-put_answer-end) → c.put_answer-end.result ≤ length c.put_answer-end.new.out
inside c =
    let ends = (begun c.put_answer-end.ensures (search rules)).1 in
    let short = c.put_answer-end.ensures.short in
    search rules

pub slice_bounds-space-end : goal.slice_bounds-space-end
slice_bounds-space-end c = inside (goal.at.slice_bounds-space-end c).After-put_answer-end

pub slice_bounds-text-end : goal.slice_bounds-text-end
slice_bounds-text-end c =
    let within = inside (goal.at.slice_bounds-text-end c).After-put_answer-end in
    search rules

pub copy_from_slice-requires : goal.copy_from_slice-requires
copy_from_slice-requires c =
    let within = inside (goal.at.copy_from_slice-requires c).After-put_answer-end in
    search rules

pub returns-clause-listed : goal.returns-clause-listed
returns-clause-listed c =
    let (is, ends) = begun c.put_answer-end.ensures (search rules) in
    let copied = c.copy_from_slice.ensures.after in
    simp (copied ∙ is, sub-zero, ends) (listed-is refl refl (rw (sym ends) (omega arith)))
