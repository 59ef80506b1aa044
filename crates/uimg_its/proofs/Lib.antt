mod LexLaws
mod DigitLaws
mod StepLaws
mod Shrinking
mod ItemLaws
mod NodeLaws
mod ValueLaws
mod SpelledIsRead
mod ValuesAreSpelled
mod ReadIsSpelled
mod LoneFile
mod FilesLaws
mod PassingLaws
mod IncludedLaws
mod SoundLaws
pub mod CompileLaws
mod Examples
