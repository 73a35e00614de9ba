pub mod Seen
pub mod LineAnswer
pub mod Pieces
