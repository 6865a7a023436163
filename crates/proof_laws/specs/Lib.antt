-- Laws of the definitions of `rules` that proofs use in place of their text.
--   Read         what reading one thing gives
--   Entries      row and column of a key, the kind of figure there, and what a good key says
--   Sizes        the ranges of n, m and e
--   Lengths      the lists of a state and of a look have n and m elements
--   Below        tests that hold or fail, and what holds at every place below n
--   NotRefused   what follows where nothing is refused
--   Passed       the tests that a sheet passed which is read
--   Given        what holds where a refusal with some number is given
--   FirstPlace   the chain of refusals and the first place, as code meets them
--   Counts       what the refusal of a run says of longer ones
--   Outputs      how writing bytes to a lent buffer ends
--   Agreeing     only the figures of the n materials and the m limits count
pub mod Read
pub mod Entries
pub mod Sizes
pub mod Lengths
pub mod Below
pub mod NotRefused
pub mod Passed
pub mod Given
pub mod FirstPlace
pub mod Counts
pub mod Outputs
pub mod Agreeing
