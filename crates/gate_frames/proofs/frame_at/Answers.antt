-- Each return is of a whole frame, or of one that is cut short, by the tests that led there.
use Rattle.std.proofs.Common.{sym, arith}
use Rattle.gate_frames.specs.Frames.{frame-cut, frame-whole}
use Rattle.gate_frames.proofs.frame_at.Goals as goal

pub returns-then-input-at-clause-found : goal.returns-then-input-at-clause-found
returns-then-input-at-clause-found c = sym (frame-cut _ _ _ (omega arith))

pub returns-then-input-at-lt2-clause-found : goal.returns-then-input-at-lt2-clause-found
returns-then-input-at-lt2-clause-found c = sym (frame-cut _ _ _ (omega arith))

pub returns-then-input-start-clause-found : goal.returns-then-input-start-clause-found
returns-then-input-start-clause-found c = sym (frame-cut _ _ _ (omega (arith, c.size_at-size.ensures.is)))

pub returns-then-input-end-clause-found : goal.returns-then-input-end-clause-found
returns-then-input-end-clause-found c = sym (frame-cut _ _ _ (omega (arith, c.size_at-size.ensures.is)))

pub returns-clause-found : goal.returns-clause-found
returns-clause-found c =
    let size = c.size_at-size.ensures.is in
    rw size (sym (frame-whole _ _ _ (omega (arith, size))))
