pub mod Codes
pub mod Numbers
pub mod Answers
pub mod Strict
pub mod Signed
pub mod Lines
