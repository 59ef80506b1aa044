mod LineLaws
mod ObjectLaws
mod Examples
pub mod PieceLaws
pub mod MissingLaws
pub mod ChoiceLaws
pub mod StrictLaws
pub mod VerdictLaws
pub mod ChoosingLaws
