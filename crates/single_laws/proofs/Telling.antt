-- The end of a transaction is told to each page's entry: nobody holds the page then.
use Rattle.std.proofs.Common.{◌≡◌, refl, sym, ap, subst, ◌∙◌, ℕ, ◌+◌, ◌≤◌, ◌==◌, Bool, true, false, List, [], ◌∷◌, map, None, Some, is_some, inl, inr, arith}
use Rattle.std.specs.Prelude.{◌⊎◌}
use Rattle.pcl_base.specs.declared.tx.TxId.{TxId}
use Rattle.run_rules.specs.Base.{Base, version_at}
use Rattle.node_rules.specs.Words.{pick}
use Rattle.node_rules.specs.OpenTxs.{held_by, mode_held}
use Rattle.node_rules.specs.LockRule.{LockEntry, Settled, settle, end_tx}
use Rattle.node_rules.specs.LockTable.{LockTable, entry_at, put_entry}
use Rattle.node_rules.specs.NodeState.{HomeState, number_of}
use Rattle.node_rules.specs.Work.{Work, Outcome, Goes, and_then, for_each, work_of_home, with_home_work}
use Rattle.node_rules.specs.BufferRule.{clean}
use Rattle.node_rules.specs.AccessRule.{on_pool}
use Rattle.node_rules.specs.EndRule.{Ending, ending}
use Rattle.node_rules.specs.OwnerRule.{carry_out, change_if_served, end_in, enter, tell_in, tell_end, keep_dirty, clean_unserved, is_unserved, version_of_change}
use Rattle.home_laws.proofs.Tests.{number_equal}
use Rattle.home_laws.proofs.Serials.{one_if}
use Rattle.home_laws.proofs.Unpins.{times}
use Rattle.home_laws.proofs.Written.{times_more}
use Rattle.single_laws.proofs.Entries.{held_entry, is_taken, settled_idle, ended_alone, put_here, put_there}
use Rattle.single_laws.proofs.Entering.{with_one, table_is, entered}

-- the version that an end makes
abbrev pub ended_version : HomeState → TxId → Bool → Base → ℕ → ℕ
ended_version h t commits base p =
    pick (is_taken (mode_held (held_by h.txs t p)) (version_at base p) (version_of_change (ending h t commits p).change)) (version_at base p + 1) (version_at base p)

module _ (h : HomeState) (t : TxId) (commits : Bool) (base new : Base) (made : (p : ℕ) → version_at new p ≡ ended_version h t commits base p) (w : Work) (one : w.node.home.config.nodes ≡ 1) where
  -- the entry of a page before the end is told, and after it
  abbrev pub before : ℕ → LockEntry
  before p = held_entry (version_at base p) t (mode_held (held_by h.txs t p))

  abbrev pub after : ℕ → LockEntry
  after p = held_entry (version_at new p) t None

  -- the entries while these pages are left
  abbrev pub Left : LockTable → List ℕ → Type 0
  Left tb ps = (q : ℕ) → (entry_at tb q ≡ after q) ⊎ ((entry_at tb q ≡ before q) × (1 ≤ times q ps))

  ends_at : (tb : LockTable) (p : ℕ) → (entry_at tb p ≡ after p) ⊎ (entry_at tb p ≡ before p) → end_tx (entry_at tb p) t (version_of_change (ending h t commits p).change) ≡ after p
  ends_at tb p (inl e) =
      ap (λ x. end_tx x t (version_of_change (ending h t commits p).change)) e ∙ ended_alone (version_at new p) t None (version_of_change (ending h t commits p).change)
  ends_at tb p (inr e) =
      ap (λ x. end_tx x t (version_of_change (ending h t commits p).change)) e
      ∙ ended_alone (version_at base p) t (mode_held (held_by h.txs t p)) (version_of_change (ending h t commits p).change)
      ∙ ap (λ v. held_entry v t None) (sym (made p))

  -- the table once the end is told at a page
  abbrev told_table : LockTable → ℕ → LockTable
  told_table tb p = put_entry (put_entry tb p (end_in t (ending h t commits p).change (entry_at tb p))) p (after p)

  tells_one : (tb : LockTable) (p : ℕ) → tb.serving ≡ true → (entry_at tb p ≡ after p) ⊎ (entry_at tb p ≡ before p)
      → tell_end t (ending h t commits p) (with_one tb w) ≡ Goes (with_one (told_table tb p) w)
  unfolding tell_end for_each
  tells_one tb p serving is =
      ap (λ o. tell_in t (ending h t commits p) o (with_one tb w)) (table_is (with_one tb w).node tb p one refl)
      ∙ ap (λ b. enter (end_in t (change_if_served b (ending h t commits p).change)) p (with_one tb w)) serving
      ∙ entered (end_in t (ending h t commits p).change) p (with_one tb w) tb one refl serving
      ∙ ap (λ (x : Settled). for_each (carry_out p x.entry.version) x.decisions (with_one (put_entry (put_entry tb p (end_in t (ending h t commits p).change (entry_at tb p))) p x.entry) w))
      (ap (settle (number_of w.node)) (ends_at tb p is) ∙ settled_idle (version_at new p) (number_of w.node) t None)

  either : (tb : LockTable) (ps : List ℕ) (p : ℕ) → (entry_at tb p ≡ after p) ⊎ ((entry_at tb p ≡ before p) × (1 ≤ times p ps)) → (entry_at tb p ≡ after p) ⊎ (entry_at tb p ≡ before p)
  either tb ps p (inl e) = inl e
  either tb ps p (inr e) = inr e.0

  left_one : (tb : LockTable) (p : ℕ) (ps : List ℕ) → Left tb (p ∷ ps) → Left (told_table tb p) ps
  left_one tb p ps left q = by (p == q) refl
    where
      there : (p == q) ≡ false → entry_at (told_table tb p) q ≡ entry_at tb q
      there e = put_there (put_entry tb p (end_in t (ending h t commits p).change (entry_at tb p))) p q (after p) e ∙ put_there tb p q (end_in t (ending h t commits p).change (entry_at tb p)) e

      of : (p == q) ≡ false → (entry_at tb q ≡ after q) ⊎ ((entry_at tb q ≡ before q) × (1 ≤ times q (p ∷ ps)))
          → (entry_at (told_table tb p) q ≡ after q) ⊎ ((entry_at (told_table tb p) q ≡ before q) × (1 ≤ times q ps))
      of e (inl f) = inl (there e ∙ f)
      of e (inr f) =
          let count = times_more p q ps in
          let zero : one_if (p == q) ≡ 0 = ap one_if e in
          let some = f.1 in
          inr (there e ∙ f.0, omega (arith, count, zero, some))

      by : (b : Bool) → (p == q) ≡ b → (entry_at (told_table tb p) q ≡ after q) ⊎ ((entry_at (told_table tb p) q ≡ before q) × (1 ≤ times q ps))
      by true e =
          inl
          (subst (λ n. entry_at (told_table tb p) n ≡ after n) (number_equal p q e)
          (put_here (put_entry tb p (end_in t (ending h t commits p).change (entry_at tb p))) p (after p)))
      by false e = of e (left q)

  -- the end is told at each page
  pub record AllTold (ps : List ℕ) (tb : LockTable) : Type 0 where
    pub table : LockTable
    pub goes : for_each (tell_end t) (map (ending h t commits) ps) (with_one tb w) ≡ Goes (with_one table w)
    pub serving : table.serving ≡ true
    pub entries : (q : ℕ) → entry_at table q ≡ after q

  pub all_told : (ps : List ℕ) (tb : LockTable) → tb.serving ≡ true → Left tb ps → AllTold ps tb
  unfolding for_each
  all_told [] tb serving left =
      record { table = tb; goes = refl; serving = serving; entries = λ q. by q (left q) }
    where
      by : (q : ℕ) → (entry_at tb q ≡ after q) ⊎ ((entry_at tb q ≡ before q) × (1 ≤ times q [])) → entry_at tb q ≡ after q
      by q (inl e) = e
      by q (inr e) = let some = e.1 in absurd (omega (arith, some))
  all_told (p ∷ ps) tb serving left =
      let rest : AllTold ps (told_table tb p) = all_told ps (told_table tb p) serving (left_one tb p ps left) in
      record {
        table = rest.table;
        goes =
            ap (λ (o : Outcome Work). and_then o (for_each (tell_end t) (map (ending h t commits) ps))) (tells_one tb p serving (either tb (p ∷ ps) p (left p)))
            ∙ rest.goes;
        serving = rest.serving;
        entries = rest.entries;
      }

  -- no copy becomes clean, since the table is served
  pub none_cleaned : (es : List Ending) (tb : LockTable) → tb.serving ≡ true → clean_unserved es (with_one tb w) ≡ with_one tb w
  unfolding clean_unserved
  none_cleaned [] tb serving = refl
  none_cleaned (e ∷ es) tb serving = ap (clean_unserved es) (by (is_some e.change)) ∙ none_cleaned es tb serving
    where
      kept : keep_dirty (with_one tb w) e.page ≡ with_one tb w
      kept =
          let served : is_unserved (Some tb) ≡ false = ap (λ b. pick b false true) serving in
          ap (λ b. pick {X = Work} b (with_home_work (with_one tb w) (on_pool (λ x. clean x e.page) (work_of_home (with_one tb w)))) (with_one tb w))
          (ap is_unserved (table_is (with_one tb w).node tb e.page one refl) ∙ served)

      by : (b : Bool) → pick b (keep_dirty (with_one tb w) e.page) (with_one tb w) ≡ with_one tb w
      by true = kept
      by false = refl
