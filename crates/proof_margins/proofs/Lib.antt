-- T9.3 to T9.7, proved of the definitions of `rules`: every answer has its margins.
-- The theorem is `margins` of Theorem. Its proof follows source document 004, and is read in this order, after
-- Lagrangian of specs/:
--   FourFacts        F1 to F4, all that the proofs use of a step
--   WeakDuality      weak duality, and what follows for an average's excess and for feasibility
--   IterateRelation  Lemma 2(a)
--   Violation        Proposition 1(a)
--   PrimalCost       Proposition 1(b)
-- From here on it speaks of the definitions:
--   RunSteps         each step of the run has the four facts
--   Plans            every plan has its margins
--   Infeasible       T9.7: refusal 9 is given only where there is no feasible point
--   Theorem          the theorem
--   Sharp            the claims are not empty: worked sheets where they are equations, and near claims refuted
-- Minimal of `proof_magnitudes`, equation (8), comes before these.
-- Of a step, M are the multipliers that enter it (times D), M' those that leave it, x its amounts, and V its dual
-- value; in specs/ too. A point y/d has the whole amounts y over the divisor d.
-- These stand here and not in specs/, so that an edit of what they rest on is refused at the declaration that fails.
pub mod FourFacts
pub mod WeakDuality
pub mod IterateRelation
pub mod Violation
pub mod PrimalCost
pub mod RunSteps
pub mod Plans
pub mod Infeasible
pub mod Theorem
pub mod Sharp
