pub mod EqualEvents
pub mod Counts
mod EndLemmas
mod Going
mod Pieces
mod BadLineLemmas
mod Steps
mod Lines
mod Telling
mod Alone
mod Reaching
mod Outcomes
mod Endings
mod Holding
mod RunsRead
mod Never
