pub mod ReadLaws
pub mod FileLaws
pub mod SlotLaws
pub mod AlgoSetLaws
