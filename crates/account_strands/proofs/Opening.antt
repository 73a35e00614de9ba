-- The opening cluster and the first ledger: nobody waits, nothing was begun, and all versions are zero.
use Rattle.std.proofs.Common.{◌≡◌, refl, ap, sym, subst, ◌∙◌, ℕ, zero, suc, ◌+◌, ◌≤◌, ◌==◌, Bool, true, false, List, [], ◌∷◌, length, map, replicate, slice_index, slice_index_or, Option, Some, None, is_some, arith}
use Rattle.std.specs.Prelude.{IfSome}
use Rattle.std.specs.List.{list_any}
use Rattle.pcl_base.specs.Limits.{Sizes}
use Rattle.pcl_base.specs.declared.lock.Held.{Held}
use Rattle.pcl_base.specs.declared.lock.Pending.{Pending}
use Rattle.pcl_base.specs.declared.tx.TxId.{TxId}
use Rattle.run_rules.specs.Base.{BasePage}
use Rattle.run_rules.specs.Ledger.{first_ledger, is_of, is_want}
use Rattle.run_rules.specs.Script.{moments}
use Rattle.node_rules.specs.LockRule.{LockEntry, idle}
use Rattle.node_rules.specs.LockTable.{PageEntry, LockTable, open_table, entry_in, entry_at, pages_of}
use Rattle.node_rules.specs.NodeState.{NodeState, first_node, number_of, page_owner}
use Rattle.node_rules.specs.OpenTxs.{OpenTx, OpenTxs, with_serial, open_at, is_own, lock_on, pages_of_open, waiting_of_open}
use Rattle.node_rules.specs.Words.{pick, is_exclusive}
use Rattle.node_laws.proofs.Lists.{set_look}
use Rattle.cluster_rules.specs.Clusters.{opening}
use Rattle.cluster_laws.proofs.Lists.{look_counted, look_same}
use Rattle.account_strands.specs.Items.{HasItems, HasTables, OpeningHasItems}
use Rattle.account_strands.specs.Homes.{is_registered, HasHome, OpeningHasHomes}
use Rattle.account_strands.specs.Versions.{OpeningHasVersions}

pub again_length : {X : Type 0} (x : X) (k : ℕ) → length (replicate k x) ≡ k
again_length x zero = refl
again_length x (suc k) = ap suc (again_length x k)

-- ---- items

idle_in : (ps : List ℕ) (p : ℕ) → entry_in (map (λ (k : ℕ). let x : PageEntry = record { page = k; entry = idle 0 } in x) ps) p ≡ idle 0
unfolding entry_in
idle_in [] p = refl
idle_in (k ∷ ks) p = by (k == p) _ (idle_in ks p)
  where
    by : (b : Bool) (e : LockEntry) → e ≡ idle 0 → pick b (idle 0) e ≡ idle 0
    by true e rest = refl
    by false e rest = rest

-- each entry of an open table
open_idle : (c : Sizes) (q : ℕ) (serving : Bool) (p : ℕ) → entry_at (open_table c q serving) p ≡ idle 0
unfolding open_table
open_idle c q serving p = idle_in (pages_of c q) p

idle_items : (c : Sizes) (n q p : ℕ) → HasItems n p (first_ledger c) (entry_at (open_table c q true) p)
idle_items c n q p = subst (HasItems n p (first_ledger c)) (sym (open_idle c q true p)) (record { wanted = tt; rights = tt })

-- whether a table may be there
abbrev HasTable : Sizes → ℕ → ℕ → Option LockTable → Type 0
HasTable c n p o = IfSome o (λ (t : LockTable). HasItems n p (first_ledger c) (entry_at t p))

first_items : (c : Sizes) (n k : ℕ) → HasTables n (first_ledger c) (first_node c k)
unfolding first_node
first_items c n k q p =
    set_look (HasTable c n p) None (replicate c.nodes None) k q (Some (open_table c k true)) (λ same. idle_items c n k p)
    (look_same (HasTable c n p) c.nodes q None None tt tt)

pub opening_has_items_law : OpeningHasItems
unfolding opening
opening_has_items_law c =
    record {
      wanted = again_length [] c.nodes;
      rights = again_length [] c.nodes;
      nodes = λ n. look_counted (λ j (o : Option NodeState). IfSome o (HasTables n (first_ledger c))) None (λ k. Some (first_node c k)) c.nodes 0 n (λ j low. first_items c n (0 + j)) (λ j. tt);
    }

-- ---- homes

-- nobody is open where nothing was begun
none_open : (s : OpenTxs) (t : TxId) → s.txs ≡ [] → open_at s t ≡ None
unfolding with_serial
none_open s t none = ap (λ (xs : List OpenTx). pick (is_own s t) (with_serial xs t.serial) None) none ∙ by (is_own s t) None
  where
    by : (b : Bool) (o : Option OpenTx) → pick b o o ≡ o
    by true o = refl
    by false o = refl

idle_home : (c : Sizes) (s : NodeState) → s.home.txs.txs ≡ [] → HasHome (first_ledger c) s
unfolding lock_on
idle_home c s none =
    record {
      registered = λ t p.
          subst (λ (o : Option OpenTx). IfSome (lock_on (pages_of_open o) p) (λ (h : Held). is_registered h.kind ≡ true → list_any (is_of t p) (first_ledger c).registered ≡ true)) (sym (nobody t)) tt;
      asked = λ t.
          subst (λ (o : Option OpenTx). IfSome (waiting_of_open o) (λ (w : Pending). (page_owner s w.page == number_of s) ≡ false → list_any (is_want t w.page w.mode) (first_ledger c).asked ≡ true)) (sym (nobody t)) tt;
      writing = λ t.
          subst (λ (o : Option OpenTx). IfSome (waiting_of_open o) (λ (w : Pending). is_exclusive w.mode ≡ true → list_any (is_of t w.page) (first_ledger c).writing ≡ true)) (sym (nobody t)) tt;
      done = λ t p there. absurd (closed t there);
      released = λ t p there. refl;
    }
  where
    nobody : (t : TxId) → open_at s.home.txs t ≡ None
    nobody t = none_open s.home.txs t none

    closed : (t : TxId) → is_some (open_at s.home.txs t) ≡ true → ⊥
    closed t there = let bad : false ≡ true = sym (ap is_some (nobody t)) ∙ there in absurd (cc)

first_home : (c : Sizes) (k : ℕ) → HasHome (first_ledger c) (first_node c k)
unfolding first_node
first_home c k = idle_home c (first_node c k) refl

none_any : false ≡ true → ⊥
none_any e = absurd (cc)

pub opening_has_homes_law : OpeningHasHomes
unfolding opening
opening_has_homes_law c =
    record {
      nodes = λ n. look_counted (λ j (o : Option NodeState). IfSome o (HasHome (first_ledger c))) None (λ k. Some (first_node c k)) c.nodes 0 n (λ j low. first_home c (0 + j)) (λ j. tt);
      begun = record { done = λ t p there. absurd (none_any there); released = λ t p there. absurd (none_any there) };
      once = λ t p. none_twice;
    }
  where
    none_twice : 0 ≤ 1
    none_twice = omega arith

-- ---- versions

pub all_zero : (n p : ℕ) → slice_index (replicate n 0) p ≡ 0
all_zero zero p = refl
all_zero (suc n) zero = refl
all_zero (suc n) (suc p) = all_zero n p

pub blank_version : (n p : ℕ) (x d : BasePage) → x.version ≡ 0 → d.version ≡ 0 → (slice_index_or (replicate n x) p d).version ≡ 0
blank_version zero p x d here past = past
blank_version (suc n) zero x d here past = here
blank_version (suc n) (suc p) x d here past = blank_version n p x d here past

pub opening_has_versions_law : OpeningHasVersions
unfolding opening moments
opening_has_versions_law c =
    record {
      pages = again_length 0 c.pages;
      now = λ p low. all_zero c.pages p ∙ sym (blank_version c.pages p (record { version = 0; bytes = replicate c.size 0 }) (record { version = 0; bytes = [] }) refl refl);
    }
