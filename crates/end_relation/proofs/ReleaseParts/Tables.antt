-- The tables once an end has come to one of them.
use Rattle.std.proofs.Common.{◌≡◌, ◌≢◌, refl, ap, sym, subst, ◌∙◌, ℕ, suc, zero, ◌<◌, ◌==◌, not, cond, Bool, true, false, List, [], ◌∷◌, length, slice_index_or, slice_set, Option, Some, None, is_some, arith}
use Rattle.std.specs.List.{AllByRecursion, filter}
use Rattle.pcl_base.specs.declared.event.Event.{Event}
use Rattle.pcl_base.specs.declared.lock.RightMark.{RightMark}
use Rattle.pcl_base.specs.declared.lock.Waiter.{Waiter}
use Rattle.pcl_base.specs.declared.tx.Mode.{Mode}
use Rattle.pcl_base.specs.declared.tx.TxId.{TxId}
use Rattle.run_rules.specs.Views.{View}
use Rattle.node_rules.specs.LockRule.{LockEntry, has_right, end_tx}
use Rattle.node_rules.specs.LockTable.{LockTable, entry_at, put_entry, marked}
use Rattle.node_rules.specs.NodeState.{table_at, is_serving}
use Rattle.node_rules.specs.Words.{pick, same_tx}
use Rattle.node_rules.specs.Work.{Work}
use Rattle.node_laws.proofs.Lists.{all_weaker, set_same}
use Rattle.cluster_rules.specs.Clusters.{Cluster, node_at}
use Rattle.page_laws.specs.Entry.Looks.{IsWithout}
use Rattle.page_laws.specs.Entry.Steps.{IsEntryOf}
use Rattle.page_laws.proofs.EntryParts.Looked.{ending_is_seen_law}
use Rattle.page_laws.proofs.EntryParts.Stepped.{set_seen}
use Rattle.page_laws.proofs.EntryParts.Tabled.{tables_are_seen_law}
use Rattle.page_laws.proofs.EntryParts.Words.{number_self}
use Rattle.page_laws.proofs.EntryParts.Writers.{writers_wait_for_nothing_law}
use Rattle.cluster_laws.specs.Era.Eras.{era_at, owner_at, era_in}
use Rattle.page_protocol.specs.Bytes.{Copy}
use Rattle.page_protocol.specs.State.{Ended, Page}
use Rattle.page_relation.specs.Relation.{TablesAre}
use Rattle.page_relation.specs.Tables.{WaiterIs, IsServed, IsRebuilt, TableIs, TableIn, TableOf, EraIs, serves_in}
use Rattle.page_relation.specs.Work.Landing.{land, Acts}
use Rattle.page_relation.proofs.WorkParts.Nodes.{of_node, at_node, at_other, kept_node}
use Rattle.end_relation.specs.Release.Owing.{ended_as}
use Rattle.end_relation.proofs.ReleaseParts.Machine.{asked_after, listed_beside}

all_some : {X : Type 0} (P : X → Type 0) (f : X → Bool) (xs : List X) → AllByRecursion P xs → AllByRecursion P (filter f xs)
all_some P f [] all = tt
all_some P f (x ∷ xs) all = by (f x) (all_some P f xs all.1)
  where
    by : (b : Bool) → AllByRecursion P (filter f xs) → AllByRecursion P (cond b (x ∷ filter f xs) (filter f xs))
    by true rest = (all.0, rest)
    by false rest = rest

-- who waits after the end of a transaction waited before
waiting_left : (P : Waiter → Type 0) (x : LockEntry) (t : TxId) (change : Option ℕ) → AllByRecursion P x.waiting → AllByRecursion P (end_tx x t change).waiting
unfolding end_tx
waiting_left P x t change all = all_some P (λ w. not (same_tx w.tx t)) x.waiting all

-- a value that stands somewhere in a list is inside it
inside : {X : Type 0} (xs : List (Option X)) (k : ℕ) → is_some (slice_index_or xs k None) ≡ true → k < length xs
inside [] k there = absurd (cc)
inside (x ∷ xs) zero there = omega arith
inside (x ∷ xs) (suc k) there = let rest = inside xs k there in omega (arith, rest)

pub put_there : (ts : List (Option LockTable)) (q : ℕ) (t u : LockTable) → slice_index_or ts q None ≡ Some t → slice_index_or (slice_set ts q (Some u)) q None ≡ Some u
put_there ts q t u there = set_same None ts q (Some u) (inside ts q (ap (λ (o : Option LockTable). is_some o) there))

module _ (a : Page) (t : TxId) (change : Option ℕ) (f : ℕ) (ended : a.home t ≡ Ended change f) (v : ℕ) (slot : ℕ → Option Copy) (disk : Copy) (mark : Bool) where
  abbrev next : Page
  next = ended_as a t f v slot disk mark

  waits_after : (e : ℕ) (ws : List Waiter) → AllByRecursion (WaiterIs a.reached a.home e) ws → AllByRecursion (WaiterIs next.reached next.home e) ws
  waits_after e ws all =
      all_weaker (WaiterIs a.reached a.home e) (WaiterIs next.reached next.home e)
      (λ w old. asked_after a t change f ended v slot disk mark (a.reached w.tx.node) e w.tx w.have old) ws all

  -- the entry of the table that serves
  pub served_own : (p n e : ℕ) (tb : LockTable) (told : Option ℕ) → TableIs a p n e true tb → IsEntryOf next (end_tx (entry_at tb p) t told)
      → TableIs next p n e true (put_entry tb p (end_tx (entry_at tb p) t told))
  served_own p n e tb told is i =
      subst (IsServed next.served next.owner next.era next.entry next.listed next.right next.reached next.home n e) (sym here)
      (record {
        serves = is.serves;
        here = is.here;
        now = is.now;
        version = i.version;
        holders = i.holders;
        rights = i.rights;
        waiting = waits_after a.era (end_tx (entry_at tb p) t told).waiting (waiting_left (WaiterIs a.reached a.home a.era) (entry_at tb p) t told is.waiting);
        writers = (writers_wait_for_nothing_law (entry_at tb p) is.writers).ended t told;
      })
    where
      here : entry_at (put_entry tb p (end_tx (entry_at tb p) t told)) p ≡ end_tx (entry_at tb p) t told
      here =
          (tables_are_seen_law tb).put p (end_tx (entry_at tb p) t told) p
          ∙ ap (λ (b : Bool). pick b (end_tx (entry_at tb p) t told) (entry_at tb p)) (number_self p)

  -- that of one which is rebuilt
  pub rebuilt_own : (p n e : ℕ) (tb : LockTable) (told : Option ℕ) → e ≡ f → TableIs a p n e false tb → TableIs next p n e false (put_entry tb p (end_tx (entry_at tb p) t told))
  rebuilt_own p n e tb told same is =
      subst (IsRebuilt next.era next.listed next.right next.reached next.home e (put_entry tb p (end_tx (entry_at tb p) t told))) (sym here)
      (record {
        later = is.later;
        reaches = is.reaches;
        holders = λ u.
            seen.holders u ∙ ap (pick (same_tx t u) None) (is.holders u) ∙ swap (same_tx t u) (marked tb u.node) (a.listed u e)
            ∙ ap (λ (o : Option Mode). pick (marked tb u.node) o None) (sym (set_seen a.listed t e None u))
            ∙ ap (λ (k : ℕ). pick (marked tb u.node) ((ended_as a t k v slot disk mark).listed u e) None) same;
        rights = λ m on counts. ap (λ (rs : List RightMark). has_right rs m) seen.rights ∙ is.rights m on counts;
        waiting = waits_after e (end_tx (entry_at tb p) t told).waiting (waiting_left (WaiterIs a.reached a.home e) (entry_at tb p) t told is.waiting);
        writers = (writers_wait_for_nothing_law (entry_at tb p) is.writers).ended t told;
      })
    where
      here : entry_at (put_entry tb p (end_tx (entry_at tb p) t told)) p ≡ end_tx (entry_at tb p) t told
      here =
          (tables_are_seen_law tb).put p (end_tx (entry_at tb p) t told) p
          ∙ ap (λ (b : Bool). pick b (end_tx (entry_at tb p) t told) (entry_at tb p)) (number_self p)

      seen : IsWithout (entry_at tb p) t (end_tx (entry_at tb p) t told)
      seen = (ending_is_seen_law (entry_at tb p) t).looks told

      swap : (b c : Bool) (o : Option Mode) → pick b None (pick c o None) ≡ pick c (pick b None o) None
      swap true true o = refl
      swap true false o = refl
      swap false true o = refl
      swap false false o = refl

  -- tables of other nodes: one that serves has the entry as it was, and the era of one that is rebuilt isn't this one
  pub served_beside : (p m e : ℕ) (tb : LockTable) → v ≡ a.entry → a.era ≢ f → TableIs a p m e true tb → TableIs next p m e true tb
  served_beside p m e tb same apart is =
      record {
        serves = is.serves;
        here = is.here;
        now = is.now;
        version = is.version ∙ sym same;
        holders = λ u. is.holders u ∙ sym (listed_beside a t change f ended v slot disk mark u a.era (λ at. apart));
        rights = is.rights;
        waiting = waits_after a.era (entry_at tb p).waiting is.waiting;
        writers = is.writers;
      }

  pub rebuilt_beside : (p m e : ℕ) (tb : LockTable) → e ≢ f → TableIs a p m e false tb → TableIs next p m e false tb
  rebuilt_beside p m e tb apart is =
      record {
        later = is.later;
        reaches = is.reaches;
        holders = λ u. is.holders u ∙ ap (λ (o : Option Mode). pick (marked tb u.node) o None) (sym (listed_beside a t change f ended v slot disk mark u e (λ at. apart)));
        rights = is.rights;
        waiting = waits_after e (entry_at tb p).waiting is.waiting;
        writers = is.writers;
      }

era_landed : (c : Cluster) (e : Event) (n : ℕ) (w x : Work) (q era owner : ℕ) → EraIs (land c e n w) q era owner → EraIs (land c e n x) q era owner
unfolding land era_at owner_at
era_landed c e n w x q era owner is = record { epoch = is.epoch; low = is.low; made = is.made; era_there = is.era_there; owner_there = is.owner_there }

-- The tables of a work that changed one, related to a state of the same era, owner and service.
pub tables_changed : (c : Cluster) (e : Event) (n p q : ℕ) (w x : Work) (a b : Page) (tb u : LockTable) → Acts c n → x.node.view ≡ w.node.view
    → table_at w.node q ≡ Some tb → table_at x.node q ≡ Some u → u.serving ≡ tb.serving → b.era ≡ a.era → b.owner ≡ a.owner → b.served ≡ a.served
    → (TableIs a p n (era_in w.node.view q) tb.serving tb → TableIs b p n (era_in w.node.view q) u.serving u)
    → ((m : ℕ) → (m == n) ≡ false → TableOf a p q m (node_at c m) → TableOf b p q m (node_at c m))
    → TablesAre (land c e n w) p q a → TablesAre (land c e n x) p q b
tables_changed c e n p q w x a b tb u acts view before after serves era owner served own others is =
    record {
      tables = λ m.
          of_node c e n acts x m (TableOf b p q m)
          (λ at. subst (λ (k : ℕ). TableOf b p q k (Some x.node)) (sym at) here)
          (λ other. others m other (at_other c e n acts w m (TableOf a p q m) other (is.tables m)));
      serving = λ on.
          ap (λ (k : ℕ). serves_in (node_at (land c e n x) k) q) owner
          ∙ kept_node c e n acts w x a.owner (λ o. serves_in o q ≡ true)
          (λ at old. ap is_serving after ∙ serves ∙ sym (ap is_serving before) ∙ old) (is.serving (sym served ∙ on));
      era = era_stays is.era;
    }
  where
    here : TableOf b p q n (Some x.node)
    here =
        subst (λ (o : Option View). TableIn b p n (era_in o q) (table_at x.node q)) (sym view)
        (subst (TableIn b p n (era_in w.node.view q)) (sym after)
        (own (subst (TableIn a p n (era_in w.node.view q)) before (at_node c e n acts w n (TableOf a p q n) refl (is.tables n)))))

    era_stays : EraIs (land c e n w) q a.era a.owner → EraIs (land c e n x) q b.era b.owner
    era_stays old = subst (λ (k : ℕ). EraIs (land c e n x) q k b.owner) (sym era) (subst (EraIs (land c e n x) q a.era) (sym owner) (era_landed c e n w x q a.era a.owner old))
