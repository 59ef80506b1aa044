-- Lemmas.
mod Examples
mod Letters
mod MakingLaws
mod Numerals
mod SplitLaws
mod Strips
