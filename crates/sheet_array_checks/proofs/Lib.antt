-- What chains of iterators answer, in the words of the definitions.
pub mod Chains
