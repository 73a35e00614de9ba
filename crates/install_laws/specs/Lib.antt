pub mod InstallPlans
pub mod InstallRows
pub mod Laws
