pub mod Deeds
pub mod FileIds
pub mod Kinds
pub mod Made
