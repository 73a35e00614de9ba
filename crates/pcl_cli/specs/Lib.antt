pub mod Words
pub mod MakeWords
pub mod NodeWords
pub mod MakeText
