pub mod MakingLaws
pub mod TreeLaws
pub mod TreeListing
pub mod CommandLaws
pub mod OpenedLaws
pub mod ReadingExamples
