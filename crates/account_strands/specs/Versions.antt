-- The versions of the account, against what the commit points of the trace have made.
use Rattle.std.specs.Prelude.{◌≡◌, ℕ, ◌<◌, IfSome, length, slice_index}
use Rattle.pcl_base.specs.Limits.{Sizes}
use Rattle.run_rules.specs.Base.{Base, version_at}
use Rattle.run_rules.specs.Ledger.{Ledger, first_ledger}
use Rattle.run_rules.specs.Now.{now}
use Rattle.cluster_rules.specs.Clusters.{Cluster, opening}

-- each page has the version of now, where now is known
pub record HaveVersions (c : Cluster) (l : Ledger) : Type 0 where
  pub pages : length l.versions ≡ c.config.pages
  pub now : IfSome (now c.config c.trace) (λ (b : Base). (p : ℕ) → p < c.config.pages → slice_index l.versions p ≡ version_at b p)

-- the opening cluster
abbrev pub OpeningHasVersions : Type 0
OpeningHasVersions = (c : Sizes) → HaveVersions (opening c) (first_ledger c)
