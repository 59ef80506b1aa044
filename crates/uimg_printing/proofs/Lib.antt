mod PrintingLaws
pub mod ShownLaws
pub mod EscapingLaws
pub mod LineLaws
pub mod SoundLaws
pub mod StepLaws
pub mod TextLaws
