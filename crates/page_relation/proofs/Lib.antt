pub mod Opening
pub mod WorkParts
pub mod LossParts
