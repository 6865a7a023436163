-- What stands below the theorem of T9.3 to T9.7, which is `margins` of proofs/Theorem, and is read in the order that
-- proofs/Lib has.
--   Lagrangian   the Lagrangian, equation (4), and F1: a step's dual value is its minimum over the bounds
--   Infeasible   what T9.7 claims of a refusal
pub mod Lagrangian
pub mod Infeasible
