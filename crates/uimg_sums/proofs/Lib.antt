pub mod CrcLaw
pub mod CrcTable
pub mod CrcWord
pub mod CrcSixteen
pub mod DigestSizes
pub mod BundleLaws
