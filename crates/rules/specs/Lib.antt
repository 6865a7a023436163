-- docs/TASK.md as definitions that compute. This is what a reader must believe, and for T13 `rules_arrays`, for
-- T14 `rules_mps` besides; read it beside TASK.md, whose rules the comments name by anchor (T4.3), in this order:
--   Notation   −n, the test for 0, the larger of two, finite sums, tests at some place, lists by their places
--   Problem    materials, costs, bounds and limits; feasible points
--   Bytes      little-endian numbers of a width
--   Sheet      the layout of a batch sheet, and its figures by key
--   Ranges     the table of ranges, and the ranges of the sizes
--   Encoder    from sizes and a table of figures to the bytes of a sheet
--   Step       one step of the method
--   Run        k steps, the look that closes them, and the plan that they give
--   Record     the bytes of a plan, and the plan that such bytes hold
--   Refusals   the numbers of the refusals, and refusals 1 to 7
--   Answers    the answer to a sheet, and the lent buffer afterwards
--   Output     what a function that writes a sheet or a text answers, and the lent buffer afterwards
--   Listing    the text of an answer, and what writing it to lent bytes gives
--   Margins    the statement of T9.3 to T9.7
--   Promise    T9, as planning a sheet keeps it
--   Version    the number that a caller can ask for
-- The rest holds these definitions against worked sheets:
--   Rows       how a table of sheets is written
--   Marked     C1 to C10
--   Started    S1 to S9: sheets with starts
--   Closing    L1 to L7: the closing look
--   Examples   the examples of the refusals, their order, the ends of the ranges, and steps worked by hand
--   Points     feasible points and points just outside; what T9.3 to T9.7 say in numbers; claims refuted. What the
--              margins of a plan say at two of them follows in proofs/PointClaims
-- Signs: `pos n` and `negsuc n` are the integers n and −(n + 1); `+ℤ -ℤ *ℤ` reckon with integers, and `≤ℤ <ℤ` compare
-- them. `ltb leb eqb` test naturals for < ≤ =, and `lt_z le_z` integers for < ≤.
-- `cond b x y` is x where the test b holds, else y. `[]` is the empty list, `x ∷ xs` the list that begins with x, `++`
-- joins two, and `get_or s i d` is element i of the list s, or d past its end. `none` and `some x` are nothing and x.
-- `λ j. e` is the function that takes j to e, `r.field` a field of the record r, `zero` and `suc n` are 0 and n + 1.
-- `length`, `map` and `drop n`, which leaves out the first n, are of lists. Of naturals `/` rounds down, `%` is what
-- remains, and `-` ends at 0. `*` binds before `+` and `-`, and `*ℤ` before `+ℤ` and `-ℤ`.
-- `(x : A) → B` says B of every x of A. `A → B` is a function from A to B, and of claims that B follows from A.
-- A `record` has all its fields, and `data` is one of its forms. What stands under `module _ (P : Problem) where` takes
-- P first: `residual x i` in it is `residual P x i` outside. `declared.X` is the type X of crates/rules/src.
-- `a ≡ b` says that two are equal, `A × B` that both A and B hold, `⊥` is what never holds, and `refl` proves that two
-- are equal by computing them. `abbrev` and `unfoldable` before a definition, and `unfolding` before a proof, tell the
-- checker what it may compute with; they say nothing of what a definition means.
pub mod Notation
pub mod Problem
pub mod Bytes
pub mod Sheet
pub mod Ranges
pub mod Encoder
pub mod Step
pub mod Run
pub mod Record
pub mod Refusals
pub mod Answers
pub mod Output
pub mod Listing
pub mod Margins
pub mod Promise
pub mod Version
pub mod Rows
pub mod Marked
pub mod Started
pub mod Closing
pub mod Examples
pub mod Points
