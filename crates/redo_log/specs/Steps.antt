-- What a step of a walk does to what is to come.
use Rattle.std.specs.Prelude.{◌≡◌, ℕ, List, []}
use Rattle.text_rules.specs.LogRecord.{whole_len}
use Rattle.redo_log.specs.Walks.{Standing, Stands, to_come}

-- a record that a walk enters
pub record Enters (w v : Standing) (log : List ℕ) : Type 0 where
  pub stands : Stands v log
  pub come : to_come v log ≡ to_come w log
  pub whole : v.whole ≡ w.whole

-- the end of a walk
pub record Ends (w v : Standing) (log : List ℕ) : Type 0 where
  pub none : to_come w log ≡ []
  pub stands : Stands v log
  pub come : to_come v log ≡ []
  pub same : v.whole ≡ w.whole
  pub whole : w.whole ≡ whole_len w.config log
