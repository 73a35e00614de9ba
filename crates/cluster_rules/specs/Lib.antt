pub mod Links
pub mod Clusters
pub mod ClusterStep
pub mod Run
pub mod Safe
pub mod ClusterRows
