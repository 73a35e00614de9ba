pub mod Cut
pub mod Times
pub mod Views
