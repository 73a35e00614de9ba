-- What a home reports, from its parts.
use Rattle.std.proofs.Common.{◌≡◌, ℕ, List, sym, ◌∙◌}
use Rattle.pcl_base.specs.Limits.{Sizes}
use Rattle.pcl_base.specs.declared.message.Report.{Report}
use Rattle.node_rules.specs.OpenTxs.{OpenTxs}
use Rattle.node_rules.specs.Shelf.{Right}
use Rattle.node_rules.specs.BufferRule.{Pool}
use Rattle.node_rules.specs.NodeState.{HomeState}
use Rattle.node_rules.specs.Reports.{report, own_report}
use Rattle.node_rules.specs.InstallRule.{take_over}
use Rattle.rebuild.specs.Parts.{home_of}
use Rattle.install_laws.specs.InstallPlans.{left_home}
use Rattle.install_laws.proofs.Reports.{told_left}

module _ (c : Sizes) (q : ℕ) (h : HomeState) (s : OpenTxs) (rs : List Right) (b : Pool) (config : h.config ≡ c) (txs : s ≡ h.txs) (shelf : rs ≡ h.shelf) (pool : b ≡ h.pool) where
  whole : home_of c s rs b h.written ≡ h
  whole = λ i. record { config = sym config i; txs = txs i; shelf = shelf i; pool = pool i; written = h.written }

  pub reported : (r : Report) → r ≡ report q (home_of c s rs b h.written) → r ≡ report q h
  reported r is = is ∙ (λ i. report q (whole i))

  pub own_reported : (r : Report) → r ≡ own_report q (home_of c s rs b h.written) → r ≡ own_report q h
  own_reported r is = is ∙ (λ i. own_report q (whole i))

  pub own_taken_over : (r : Report) → r ≡ own_report q (take_over q (home_of c s rs b h.written)) → r ≡ own_report q (take_over q h)
  own_taken_over r is = is ∙ (λ i. own_report q (take_over q (whole i)))

-- what is reported of a partition that is left: the own report with the rights
pub left_reported : (q : ℕ) (h : HomeState) (own shown all : Report) → own ≡ own_report q h → shown ≡ report q h
    → all ≡ record { partition = own.partition; waits = own.waits; locks = own.locks; rights = shown.rights } → report q (left_home q h) ≡ all
left_reported q h own shown all first second made =
    told_left q h
    ∙ ((λ i. let x : Report = record { partition = (sym first i).partition; waits = (sym first i).waits; locks = (sym first i).locks; rights = (sym second i).rights } in x) ∙ sym made)
