-- The new table of a partition that a node gets.
use Rattle.std.proofs.Common.{◌≡◌, ◌⊎◌, inl, inr, refl, ap, sym, subst, ◌∙◌, ℕ, ◌≤◌, ◌<◌, ◌==◌, ◌&&◌, ◌||◌, nat_lt, Bool, true, false, List, [], ◌∷◌, length, Option, Some, None, eqb-true, lt-ltb, arith}
use Rattle.std.specs.List.{AllByRecursion, Contains}
use Rattle.std.proofs.lemmas.Bool.Decides.{nat_tests}
use Rattle.std.proofs.lemmas.List.{length-replicate}
use Rattle.pcl_base.specs.declared.lock.Waiter.{Waiter}
use Rattle.pcl_base.specs.declared.message.ReportLock.{ReportLock}
use Rattle.pcl_base.specs.declared.tx.Mode.{Mode}
use Rattle.pcl_base.specs.declared.tx.TxId.{TxId}
use Rattle.node_rules.specs.InstallRule.{new_table}
use Rattle.node_rules.specs.LockRule.{LockEntry, idle, mode_of, waits_in}
use Rattle.node_rules.specs.LockTable.{LockTable, open_table, entry_at, marked}
use Rattle.node_rules.specs.NodeState.{HomeState, partition}
use Rattle.node_rules.specs.OpenTxs.{OpenTxs, with_serial, pages_of_open, lock_on, held_by}
use Rattle.node_rules.specs.Reports.{own_report}
use Rattle.node_rules.specs.Words.{pick, same_tx, or_else}
use Rattle.home_laws.specs.Homes.{IsHome}
use Rattle.page_laws.specs.Entry.Decisions.{NoWriterWaits}
use Rattle.page_laws.specs.Entry.Tables as tables
use Rattle.page_laws.proofs.EntryParts.Gathered.{gathering_is_seen_law}
use Rattle.page_laws.proofs.EntryParts.Tabled.{new_tables_are_idle_law}
use Rattle.page_laws.proofs.EntryParts.Words.{all_in, all_from}
use Rattle.page_protocol.specs.State.{Page}
use Rattle.page_relation.specs.Messages.{CountsFor, WaitIs, mode_listed}
use Rattle.page_relation.specs.Tables.{WaiterIs}
use Rattle.kept_relation.specs.Turn.Getting.{HasReported, NewTableIsRebuilt}
use Rattle.kept_relation.specs.Turn.Listing.{listed_mode}
use Rattle.kept_relation.proofs.TurnParts.Listing.{report_is_listed_law}
use Rattle.kept_relation.proofs.TurnParts.Waiting.{waits_listed}

-- the two words for what a report lists are one
same_listed : (xs : List ReportLock) (t : TxId) (p : ℕ) → tables.mode_listed xs t p ≡ mode_listed xs t p
unfolding tables.mode_listed mode_listed
same_listed [] t p = refl
same_listed (x ∷ xs) t p = ap (λ (o : Option Mode). pick (same_tx x.tx t && x.page == p) (Some x.mode) o) (same_listed xs t p)

-- a transaction of another node holds nothing here
other_holds : (s : OpenTxs) (u : TxId) (p : ℕ) → (u.node == s.node) ≡ false → listed_mode true (held_by s u p) ≡ None
unfolding lock_on
other_holds s u p other = ap (λ (b : Bool). listed_mode true (lock_on (pages_of_open (pick (b && u.born == s.born) (with_serial s.txs u.serial) None)) p)) other

none_held : (t : TxId) → mode_of [] t ≡ None
unfolding mode_of
none_held t = refl

module _ (p n next : ℕ) (h : HomeState) (b : Page) (home : IsHome h) (number : h.txs.node ≡ n) (low : n < h.config.nodes) (has : HasReported p n next h b) where
  abbrev empty : LockTable
  empty = open_table h.config (partition h.config p) false

  abbrev table : LockTable
  table = new_table (partition h.config p) n h

  seen : tables.ReportIsSeen empty n (own_report (partition h.config p) h)
  seen = gathering_is_seen_law empty n (own_report (partition h.config p) h)

  idle_there : entry_at empty p ≡ idle 0
  idle_there = (new_tables_are_idle_law h.config (partition h.config p) p false).0

  flags : length empty.reported ≡ h.config.nodes
  unfolding open_table
  flags = length-replicate h.config.nodes false

  marks_are : (m : ℕ) → marked table m ≡ (n == m)
  marks_are m =
      seen.marks m
      ∙ ap (λ (k : Bool). k || (n == m && nat_lt n (length empty.reported))) ((new_tables_are_idle_law h.config (partition h.config p) p false).1 m)
      ∙ ap (λ (k : Bool). n == m && k) (ap (nat_lt n) flags ∙ lt-ltb n h.config.nodes low) ∙ whole (n == m)
    where
      whole : (k : Bool) → (k && true) ≡ k
      whole true = refl
      whole false = refl

  marked_is : (m : ℕ) → marked table m ≡ true → m ≡ n
  marked_is m on = sym (eqb-true n m (sym (marks_are m) ∙ on))

  holders_are : (u : TxId) → mode_of (entry_at table p).holders u ≡ listed_mode true (held_by h.txs u p)
  holders_are u =
      (seen.entries p).holders u
      ∙ ap (λ (x : LockEntry). or_else (mode_of x.holders u) (tables.mode_listed (own_report (partition h.config p) h).locks u p)) idle_there
      ∙ ap (λ (o : Option Mode). or_else o (tables.mode_listed (own_report (partition h.config p) h).locks u p)) (none_held u)
      ∙ same_listed (own_report (partition h.config p) h).locks u p ∙ (report_is_listed_law p h home).own u

  holders_on : (u : TxId) → mode_of (entry_at table p).holders u ≡ pick (marked table u.node) (b.listed u next) None
  holders_on u = holders_are u ∙ by (n == u.node) refl ∙ sym (ap (λ (k : Bool). pick k (b.listed u next) None) (marks_are u.node))
    where
      by : (k : Bool) → (n == u.node) ≡ k → listed_mode true (held_by h.txs u p) ≡ pick (n == u.node) (b.listed u next) None
      by true same = has.locks u (sym (eqb-true n u.node same)) ∙ sym (ap (λ (k : Bool). pick k (b.listed u next) None) same)
      by false other =
          other_holds h.txs u p (let e = number in let t : (u.node == h.txs.node) ≡ false = grind (arith, nat_tests, e, other) in t)
          ∙ sym (ap (λ (k : Bool). pick k (b.listed u next) None) other)

  waits_are : AllByRecursion (WaitIs b.reached b.home p next) (own_report (partition h.config p) h).waits
  unfolding own_report
  waits_are =
      waits_listed h.config (partition h.config p) h.pool h.txs (WaitIs b.reached b.home p next) (λ t w node pending here. has.waits t w (node ∙ number) pending here) h.txs.last
      home.txs.serials

  waiting_on : AllByRecursion (WaiterIs b.reached b.home next) (entry_at table p).waiting
  waiting_on = all_from (WaiterIs b.reached b.home next) (entry_at table p).waiting (λ x inside. by x ((seen.entries p).waiting x inside))
    where
      by : (x : Waiter) → Contains (entry_at empty p).waiting x ⊎ tables.IsListed p (own_report (partition h.config p) h).waits x → WaiterIs b.reached b.home next x
      by x (inl before) =
          all_in (WaiterIs b.reached b.home next) [] x tt (subst (λ (y : LockEntry). Contains y.waiting x) idle_there before)
      by x (inr listed) =
          subst (WaiterIs b.reached b.home next) (sym listed.same)
          (all_in (WaitIs b.reached b.home p next) (own_report (partition h.config p) h).waits listed.item waits_are listed.inside listed.page)

  writers_on : NoWriterWaits (entry_at table p)
  writers_on =
      (seen.entries p).writers (λ t e. subst (λ (y : LockEntry). waits_in y.waiting t ≡ false) (sym idle_there) refl)
      (subst NoWriterWaits (sym idle_there) (λ t e. refl))

pub new_table_is_rebuilt_law : NewTableIsRebuilt
new_table_is_rebuilt_law p n next h b home number low has =
    record {
      later = has.later;
      reaches = λ m on. subst (λ (k : ℕ). next ≤ b.reached k) (sym (marked_is p n next h b home number low has m on)) has.reached;
      holders = holders_on p n next h b home number low has;
      rights = λ m on counts. absurd (has.rights (subst (λ (k : ℕ). CountsFor next (b.right k)) (marked_is p n next h b home number low has m on) counts));
      waiting = waiting_on p n next h b home number low has;
      writers = writers_on p n next h b home number low has;
    }
