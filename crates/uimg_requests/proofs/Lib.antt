pub mod NameLaws
pub mod FolderLaws
