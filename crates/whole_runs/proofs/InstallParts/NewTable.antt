-- The table that a node's own report makes.
use Rattle.std.proofs.Common.{◌≡◌, refl, ap, subst, ◌∙◌, ℕ, ◌<◌, ◌==◌, ◌&&◌, ◌||◌, nat_lt, Bool, true, false, List, [], ◌∷◌, length, Some, None, lt-ltb}
use Rattle.std.specs.List.{AllByRecursion}
use Rattle.std.proofs.lemmas.List.{length-replicate}
use Rattle.pcl_base.specs.declared.lock.Holder.{Holder}
use Rattle.pcl_base.specs.declared.tx.TxId.{TxId}
use Rattle.run_rules.specs.Views.{View, born_of, is_live}
use Rattle.node_rules.specs.InstallRule.{new_table}
use Rattle.node_rules.specs.LockRule.{mode_of}
use Rattle.node_rules.specs.LockTable.{LockTable, entry_at, marked, open_table}
use Rattle.node_rules.specs.NodeState.{HomeState}
use Rattle.node_rules.specs.OpenTxs.{name_of}
use Rattle.node_rules.specs.Reports.{own_report}
use Rattle.node_rules.specs.Words.{pick, same_tx}
use Rattle.home_laws.proofs.Tests.{tx_equal}
use Rattle.page_laws.specs.Entry.Tables.{ReportIsSeen}
use Rattle.page_laws.proofs.EntryParts.Gathered.{gathering_is_seen_law}
use Rattle.page_laws.proofs.EntryParts.Tabled.{new_tables_are_idle_law}
use Rattle.related_runs.specs.Parties.{IsLiving}
use Rattle.related_runs.proofs.Listing.{locks_listed, waits_listed}
use Rattle.cluster_facts.proofs.TableParts.Entries.{EntryHas, TableHas, at_has, gather_has, open_has}
use Rattle.report_relation.specs.Bury.Past.{HoldersLive}

-- who holds is among the holders
held_one : (P : TxId → Type 0) (hs : List Holder) (u : TxId) → AllByRecursion (λ (h : Holder). P h.tx) hs → (mode_of hs u ≡ None → ⊥) → P u
unfolding mode_of
held_one P [] u all some = absurd (some refl)
held_one P (h ∷ hs) u all some = by (same_tx h.tx u) refl some (held_one P hs u all.1)
  where
    by : (b : Bool) → same_tx h.tx u ≡ b → (pick b (Some h.mode) (mode_of hs u) ≡ None → ⊥) → ((mode_of hs u ≡ None → ⊥) → P u) → P u
    by true e there rest = subst P (tx_equal h.tx u e) all.0
    by false e there rest = rest there

module _ (q n : ℕ) (h : HomeState) where
  abbrev pub made : LockTable
  made = new_table q n h

  abbrev empty : LockTable
  empty = open_table h.config q false

  seen : ReportIsSeen empty n (own_report q h)
  seen = gathering_is_seen_law empty n (own_report q h)

  flags : length empty.reported ≡ h.config.nodes
  unfolding open_table
  flags = length-replicate h.config.nodes false

  -- it has the flag of its node alone
  pub marks_are : n < h.config.nodes → (m : ℕ) → marked made m ≡ (n == m)
  marks_are low m =
      seen.marks m
      ∙ ap (λ (k : Bool). k || (n == m && nat_lt n (length empty.reported))) ((new_tables_are_idle_law h.config q 0 false).1 m)
      ∙ ap (λ (k : Bool). n == m && k) (ap (nat_lt n) flags ∙ lt-ltb n h.config.nodes low) ∙ whole (n == m)
    where
      whole : (k : Bool) → (k && true) ≡ k
      whole true = refl
      whole false = refl

  -- and who holds in it is of the node's life
  pub holders_live : (v : View) (p : ℕ) → is_live v.live h.txs.node ≡ true → h.txs.born ≡ born_of v h.txs.node → HoldersLive v made p
  unfolding own_report
  holders_live v p live born u some = held_one (IsLiving v) (entry_at made p).holders u entry.0 some
    where
      own : (k : ℕ) → IsLiving v (name_of h.txs k)
      own k = record { live = live; born = born }

      table : TableHas (IsLiving v) (λ (m : ℕ). Unit {0}) made
      table =
          gather_has (IsLiving v) (λ (m : ℕ). Unit {0}) empty n (own_report q h)
          (record { locks = locks_listed (IsLiving v) h.config q true h.txs h.txs.txs own; waits = waits_listed (IsLiving v) h.config q h.pool h.txs h.txs.txs own }) tt
          (open_has (IsLiving v) (λ (m : ℕ). Unit {0}) h.config q false)

      entry : EntryHas (IsLiving v) (λ (m : ℕ). Unit {0}) (entry_at made p)
      entry = at_has (IsLiving v) (λ (m : ℕ). Unit {0}) made p table
