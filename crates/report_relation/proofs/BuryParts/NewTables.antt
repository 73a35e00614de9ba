-- The table that a node's own report makes.
use Rattle.std.proofs.Common.{◌≡◌, refl, ap, sym, ◌∙◌, ℕ, ◌<◌, ◌==◌, ◌&&◌, ◌||◌, nat_lt, length, Bool, true, false, List, [], ◌∷◌, ◌++◌, None, arith, eqb-true}
use Rattle.std.specs.List.{AllByRecursion}
use Rattle.std.proofs.lemmas.Bool.Decides.{nat_tests}
use Rattle.std.proofs.lemmas.List.{length-replicate}
use Rattle.pcl_base.specs.Limits.{Sizes}
use Rattle.pcl_base.specs.declared.lock.Held.{Held}
use Rattle.pcl_base.specs.declared.message.Message.{Message}
use Rattle.pcl_base.specs.declared.message.ReportLock.{ReportLock}
use Rattle.pcl_base.specs.declared.tx.TxId.{TxId}
use Rattle.run_rules.specs.Views.{View, born_of, is_live, since_of}
use Rattle.node_rules.specs.InstallRule.{new_table}
use Rattle.node_rules.specs.LockRule.{LockEntry, idle, mode_of}
use Rattle.node_rules.specs.LockTable.{LockTable, entry_at, marked, open_table}
use Rattle.node_rules.specs.NodeState.{HomeState, partition}
use Rattle.node_rules.specs.OpenTxs.{OpenTx, OpenTxs, name_of}
use Rattle.node_rules.specs.Reports.{all_locks, is_listed, locks_in, own_report}
use Rattle.node_rules.specs.Words.{or_else, pick}
use Rattle.cluster_rules.specs.Clusters.{last_view}
use Rattle.cluster_rules.specs.Links.{link_at}
use Rattle.cluster_laws.specs.Sound.{IsOnLink}
use Rattle.page_laws.specs.Entry.Tables.{ReportIsSeen, mode_listed}
use Rattle.page_laws.proofs.EntryParts.Gathered.{gathering_is_seen_law}
use Rattle.page_laws.proofs.EntryParts.Tabled.{new_tables_are_idle_law}
use Rattle.related_runs.specs.Parties.{IsLiving}
use Rattle.report_relation.specs.Bury.Installed.{NewIsKnown}
use Rattle.report_relation.specs.Bury.Past.{HoldersLive}
use Rattle.report_relation.specs.Bury.Whole.{IsAwaited}
use Rattle.report_relation.proofs.BuryParts.Awaiting.{listed_of}
use Rattle.report_relation.proofs.BuryParts.Installing.{owner_at_install, readers_at_install, users_at_install}
use Rattle.report_relation.proofs.BuryParts.Unsent.{all_there}

-- a transaction of a home's life
abbrev IsOwn : OpenTxs → TxId → Type 0
IsOwn s t = (t.node ≡ s.node) × (t.born ≡ s.born)

all_joined : (P : ReportLock → Type 0) (xs ys : List ReportLock) → AllByRecursion P xs → AllByRecursion P ys → AllByRecursion P (xs ++ ys)
all_joined P [] ys p q = q
all_joined P (x ∷ xs) ys p q = (p.0, all_joined P xs ys p.1 q)

own_locks_in : (c : Sizes) (q : ℕ) (all : Bool) (s : OpenTxs) (t : TxId) (hs : List Held) → IsOwn s t → AllByRecursion (λ (x : ReportLock). IsOwn s x.tx) (locks_in c q all t hs)
unfolding locks_in
own_locks_in c q all s t [] own = tt
own_locks_in c q all s t (h ∷ hs) own = by (partition c h.page == q && is_listed all h.kind) (own_locks_in c q all s t hs own)
  where
    by : (b : Bool) → AllByRecursion (λ (x : ReportLock). IsOwn s x.tx) (locks_in c q all t hs)
        → AllByRecursion (λ (x : ReportLock). IsOwn s x.tx) (pick b (record { tx = t; page = h.page; mode = h.mode } ∷ locks_in c q all t hs) (locks_in c q all t hs))
    by true rest = (own, rest)
    by false rest = rest

own_locks : (c : Sizes) (q : ℕ) (all : Bool) (s : OpenTxs) (xs : List OpenTx) → AllByRecursion (λ (x : ReportLock). IsOwn s x.tx) (all_locks c q all s xs)
unfolding all_locks
own_locks c q all s [] = tt
own_locks c q all s (x ∷ xs) =
    all_joined (λ (y : ReportLock). IsOwn s y.tx) (locks_in c q all (name_of s x.serial) x.pages) (all_locks c q all s xs)
    (own_locks_in c q all s (name_of s x.serial) x.pages (refl, refl)) (own_locks c q all s xs)

own_report_locks : (q : ℕ) (h : HomeState) → AllByRecursion (λ (x : ReportLock). IsOwn h.txs x.tx) (own_report q h).locks
unfolding own_report
own_report_locks q h = own_locks h.config q true h.txs h.txs.txs

flags : (c : Sizes) (q : ℕ) (serving : Bool) → length (open_table c q serving).reported ≡ c.nodes
unfolding open_table
flags c q serving = length-replicate c.nodes false

no_mode : (e : LockEntry) (u : TxId) (v : ℕ) → e ≡ idle v → mode_of e.holders u ≡ None
unfolding mode_of
no_mode e u v is = ap (λ (x : LockEntry). mode_of x.holders u) is

module _ (q n : ℕ) (h : HomeState) where
  abbrev t : LockTable
  t = new_table q n h

  seen : ReportIsSeen (open_table h.config q false) n (own_report q h)
  seen = gathering_is_seen_law (open_table h.config q false) n (own_report q h)

  -- it has the node's own locks alone
  pub new_holders : (v : View) (p : ℕ) → h.txs.node ≡ n → h.txs.born ≡ born_of v n → is_live v.live n ≡ true → HoldersLive v t p
  new_holders v p node born live u holds = lives (listed_of (IsOwn h.txs) p u (own_report q h).locks (own_report_locks q h) lists)
    where
      lists : mode_listed (own_report q h).locks u p ≡ None → ⊥
      lists none =
          holds
          ((seen.entries p).holders u
          ∙ (λ i. or_else (no_mode (entry_at (open_table h.config q false) p) u 0 (new_tables_are_idle_law h.config q p false).0 i) (none i)))

      lives : IsOwn h.txs u → IsLiving v u
      lives own =
          let at : u.node ≡ n = own.0 ∙ node in
          record { live = ap (is_live v.live) at ∙ live; born = own.1 ∙ (born ∙ ap (born_of v) (sym at)) }

  -- and marks the node alone
  marks : (m : ℕ) → marked t m ≡ (n == m && nat_lt n (length (open_table h.config q false).reported))
  marks m = seen.marks m ∙ ap (λ (b : Bool). b || (n == m && nat_lt n (length (open_table h.config q false).reported))) ((new_tables_are_idle_law h.config q 0 false).1 m)

  pub new_marks_own : n < h.config.nodes → marked t n ≡ true
  new_marks_own known = marks n ∙ both (n == n) (nat_lt n (length (open_table h.config q false).reported)) self room
    where
      both : (x y : Bool) → x ≡ true → y ≡ true → (x && y) ≡ true
      both true y a b = b
      both false y a b = absurd (cc)

      self : (n == n) ≡ true
      self = grind (arith, nat_tests)

      room : nat_lt n (length (open_table h.config q false).reported) ≡ true
      room = let same = flags h.config q false in grind (arith, nat_tests, same, known)

  pub new_marks_no_other : (m : ℕ) → (m ≡ n → ⊥) → marked t m ≡ false
  new_marks_no_other m other = marks m ∙ by (n == m) refl
    where
      by : (b : Bool) → (n == m) ≡ b → (b && nat_lt n (length (open_table h.config q false).reported)) ≡ false
      by true test = absurd (other (sym (eqb-true n m test)))
      by false test = refl

pub new_is_known_law : NewIsKnown
new_is_known_law c e n p s v w h acts i known home =
    record {
      owner = owner_at_install c e n p s v w acts i;
      own = new_marks_own (partition c.config p) n h home.known;
      holders = new_holders (partition c.config p) n h v p home.node home.born i.listed;
      others = known.others;
      users = users_at_install c e n p s v w acts i (since_of v (partition c.config p)) known;
      readers = readers_at_install c e n p s v w acts i (since_of v (partition c.config p)) known;
      awaited = λ from.
          all_there c e n p w acts i.unheard i.none (IsAwaited c n (partition c.config p) (new_table (partition c.config p) n h) (since_of v (partition c.config p)) from) from n
          (all from (link_at c.links from n) (acts.cluster.links.messages from n));
    }
  where
    all : (from : ℕ) (ms : List Message) → AllByRecursion (IsOnLink c.config (last_view c).epoch from n) ms
        → AllByRecursion (IsAwaited c n (partition c.config p) (new_table (partition c.config p) n h) (since_of v (partition c.config p)) from) ms
    all from [] on = tt
    all from (m ∷ ms) on = (λ report era. (on.0.others, new_marks_no_other (partition c.config p) n h from on.0.others), all from ms on.1)
