pub mod Births
pub mod Calls
pub mod Laws
pub mod Plans
pub mod Ready
pub mod Views
