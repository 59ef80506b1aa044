pub mod SetLaws
pub mod AllNodesLaws
pub mod FoundLaws
pub mod AgainLaws
pub mod PropertyNameLaws
pub mod PassLaws
pub mod ImageLaws
pub mod SoundLaws
pub mod PlacementLaws
pub mod BlobLaws
pub mod CleanLaws
pub mod PayloadLaws
pub mod UBootLaws
pub mod RightLaws
mod Examples
