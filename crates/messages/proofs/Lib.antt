pub mod ListLemmas
mod Again
mod ReadAgain
