pub mod Asked
pub mod AskLaws
pub mod AskRows
