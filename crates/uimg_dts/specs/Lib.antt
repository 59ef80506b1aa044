pub mod Answers
pub mod FileValues
