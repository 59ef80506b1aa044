pub mod Counting
pub mod Escaping
pub mod Hidden
pub mod Printing
pub mod Members
pub mod Objects
pub mod Steps
