pub mod CommitParts
