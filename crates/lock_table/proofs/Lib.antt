pub mod Pages
pub mod Listed
pub mod Places
