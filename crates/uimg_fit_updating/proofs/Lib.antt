pub mod EntryLaws
pub mod ReadLaws
pub mod ImportLaws
pub mod RefillLaws
