pub mod BothWays
pub mod LeastColumn
