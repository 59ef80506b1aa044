pub mod StrictLaws
pub mod SignedLaws
pub mod FindLaws
