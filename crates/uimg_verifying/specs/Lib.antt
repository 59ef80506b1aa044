pub mod Signatures
pub mod Configurations
pub mod Covering
pub mod Results
