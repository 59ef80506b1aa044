pub mod SizeExamples
pub mod Nearest
pub mod CalendarExamples
pub mod CalendarLaw
pub mod ClockLaw
pub mod TimeLine
pub mod NulLaws
pub mod LengthLaws
