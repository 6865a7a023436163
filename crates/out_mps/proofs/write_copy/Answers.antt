-- The text is put into room that takes every text, and from there to the lent buffer where that can take it.
use Rattle.std.specs.Prelude.{◌≡◌, ◌≤◌, length}
use Rattle.std.proofs.Common.{arith, rules}
use Rattle.std.proofs.Math.Nat.{sub-zero}
use Rattle.rules_mps.specs.Mps.{mps_text, longest_mps}
use Rattle.sheet_figures.specs.Figures.{problem_of}
use Rattle.out_mps_text.specs.Longest.{text-short}
use Rattle.out_mps.proofs.Copied.{ends, refused-copy, full-copy}
use Rattle.out_mps.proofs.write_copy.Goals as goal
use Rattle.out_mps.proofs.write_copy.Goals.{After-put_text-end}

pub returns-then-text-end : goal.returns-then-text-end
unfolding longest_mps
returns-then-text-end c = refused-copy c.put_text-end.ensures (text-short c.requires) c.at.ensures (omega arith)

-- the text ends inside the room
inside : (c : After-put_text-end) → c.put_text-end.result ≤ length c.put_text-end.new.out
unfolding longest_mps
inside c =
    let t = mps_text (problem_of c.args.f.now c.args.coefficient.now) in
    let short : length t ≤ 9248 = text-short c.requires in
    let end : c.put_text-end.result ≡ length t = ends c.put_text-end.ensures short in
    search rules

pub slice_bounds-space-end : goal.slice_bounds-space-end
slice_bounds-space-end c =
    let within = inside (goal.at.slice_bounds-space-end c).After-put_text-end in
    search rules

pub slice_bounds-whole-end : goal.slice_bounds-whole-end
slice_bounds-whole-end c =
    let within = inside (goal.at.slice_bounds-whole-end c).After-put_text-end in
    search rules

pub copy_from_slice-requires : goal.copy_from_slice-requires
copy_from_slice-requires c =
    let within = inside (goal.at.copy_from_slice-requires c).After-put_text-end in
    search rules

pub returns : goal.returns
unfolding longest_mps
returns c =
    full-copy c.put_text-end.ensures (text-short c.requires) (omega arith)
    (simp (c.copy_from_slice.ensures.after, sub-zero))
