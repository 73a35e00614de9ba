mod CountLemmas
mod ListLemmas
mod ViewLemmas
mod RaiseLemmas
mod SendLemmas
