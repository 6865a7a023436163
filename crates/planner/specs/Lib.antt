-- What the parts of planning ask and give.
pub mod Finish
