pub mod Words
pub mod Names
pub mod Looseness
pub mod Telling
pub mod Headers
pub mod Soundness
pub mod UBoot
pub mod Readings
