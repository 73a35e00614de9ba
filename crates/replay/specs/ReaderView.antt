-- What contracts see of a reader.
use Rattle.std.specs.Prelude.{◌≡◌, ℕ, ◌≤◌, Bool, List, [], Option, Some, None}
use Rattle.std.specs.Option.{option_map}
use Rattle.pcl_base.specs.declared.trace.Entry.{Entry}
use Rattle.text_rules.specs.Totals.{Totals, totals_of}
use Rattle.cluster_rules.specs.Clusters.{Cluster}
use Rattle.cluster_parts.specs.State.{ClusterView, cluster_of}
use Rattle.replay_rules.specs.Due.{Reading, Place, first_reading}
use Rattle.replay_rules.specs.Due.Place.{Going, Stopped}

-- whether the totals are told in place of the trace, where reading stands, and what was counted of the trace
pub record ReaderView : Type 0 where
  pub totals : Bool
  pub reading : Reading
  pub counts : Totals

-- a reader by its parts
abbrev pub reader_of : Bool → ℕ → List ℕ → Option ClusterView → Totals → ReaderView
reader_of totals lines part cluster counts =
    record { totals = totals; reading = record { lines = lines; part = part; cluster = option_map cluster_of cluster }; counts = counts }

-- a reader before the first byte
abbrev pub first_reader : Bool → ReaderView
first_reader totals = record { totals = totals; reading = first_reading; counts = totals_of [] }

-- the trace, which is empty before there is a cluster
abbrev pub trace_of : Option Cluster → List Entry
trace_of None = []
trace_of (Some c) = c.trace

-- what was counted is of the trace
abbrev pub HasCounts : ReaderView → Type 0
HasCounts v = v.counts ≡ totals_of (trace_of v.reading.cluster)

-- the place after some bytes: a status ends the reading
abbrev pub place_of : Option ℕ → Reading → Place
place_of None r = Going r
place_of (Some status) r = Stopped status

-- no count is above a number
pub record AreWithin (t : Totals) (n : ℕ) : Type 0 where
  pub events : t.events ≤ n
  pub begun : t.begun ≤ n
  pub values : t.values ≤ n
  pub done : t.done ≤ n
  pub waits : t.waits ≤ n
  pub committed : t.committed ≤ n
  pub aborted : t.aborted ≤ n
  pub held : t.held ≤ n
  pub dropped : t.dropped ≤ n
  pub refused : t.refused ≤ n
  pub halted : t.halted ≤ n
  pub requests : t.requests ≤ n
  pub grants : t.grants ≤ n
  pub releases : t.releases ≤ n
  pub revokes : t.revokes ≤ n
  pub returns : t.returns ≤ n
  pub reports : t.reports ≤ n
  pub images : t.images ≤ n
