pub mod ShelfView
pub mod Seen
