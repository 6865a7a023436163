-- Laws of the integers ℤ, and ways to prove facts of them. What is found where:
--   Parts       an integer as a difference of two naturals: linear goals, by `as-dif`, `difs` and `omega arith`
--   Ring        laws of + − · that lib.IntN leaves out; small identities, by `simp ringℤ-rules`
--   Order       laws of ≤ and < for sums, products and squares; the larger of two, `maxℤ`
--   Polynomial  expressions and their normal forms, on which the solvers stand
--   Solve       the solvers: `ringℤ` for identities, `omegaℤ` for consequences of hypotheses
--   Range       bounds of |z|, `Bnd`, and whether z fits a signed width
--   Sum         finite sums Σ_{j<n} f j, `sum_to`
--   Vector      the list of a function's first n values, `tabulate`, and an element of a list, `at`
--   Tabulated   an array: one place set, all places 0, and what is read past its end
--   Examples    each technique in use: begin here
-- Another crate writes `use Rattle.proof_integer.specs.Order.{≤ℤ-trans}`, and so for each file.
-- `◌≤ℤ◌` and `◌<ℤ◌` bind tighter than `◌+ℤ◌`: put a sum in parentheses.
-- A list `{-ℤ-mono}` opens a comment: put another name first.
pub mod Parts
pub mod Ring
pub mod Order
pub mod Polynomial
pub mod Solve
pub mod Range
pub mod Sum
pub mod Vector
pub mod Tabulated
pub mod Examples
