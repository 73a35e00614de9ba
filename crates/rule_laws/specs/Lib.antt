pub mod Settling
pub mod LaterViews
pub mod Compatible
pub mod OneMeaning
