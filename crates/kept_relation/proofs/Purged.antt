-- The purge of a table, and the relation after it.
use Rattle.std.proofs.Common.{◌≡◌, ◌≢◌, refl, ap, sym, subst, ◌∙◌, ℕ, zero, suc, ◌<◌, ltb, length, slice_index_or, slice_set, ◌==◌, ◌&&◌, Bool, true, false, List, [], ◌∷◌, Option, Some, None, arith}
use Rattle.std.specs.List.{AllByRecursion}
use Rattle.std.proofs.lemmas.Bool.Decides.{nat_tests}
use Rattle.pcl_base.specs.declared.event.Event.{Event}
use Rattle.pcl_base.specs.declared.lock.Waiter.{Waiter}
use Rattle.pcl_base.specs.declared.message.Message.{Message}
use Rattle.pcl_base.specs.declared.tx.Mode.{Mode}
use Rattle.pcl_base.specs.declared.tx.TxId.{TxId}
use Rattle.node_rules.specs.InstallRule.{purge_table, purged}
use Rattle.node_rules.specs.LockRule.{LockEntry, has_right, mode_of, purge}
use Rattle.node_rules.specs.LockTable.{LockTable, entry_at, marked}
use Rattle.node_rules.specs.NodeState.{NodeState, is_serving, partition, put_table, table_at}
use Rattle.node_rules.specs.Words.{flag_at, pick}
use Rattle.node_rules.specs.Work.{Work, with_node}
use Rattle.node_laws.proofs.Lists.{set_same}
use Rattle.cluster_rules.specs.Clusters.{Cluster, node_at}
use Rattle.page_laws.specs.Entry.Looks.{IsPurged}
use Rattle.page_laws.proofs.EntryParts.Looked.{purging_is_seen_law}
use Rattle.page_laws.proofs.EntryParts.Tabled.{tables_are_seen_law}
use Rattle.page_laws.proofs.EntryParts.Words.{all_from, all_in}
use Rattle.page_laws.proofs.EntryParts.Writers.{writers_wait_for_nothing_law}
use Rattle.cluster_laws.specs.Era.Eras.{era_at, era_in, owner_at}
use Rattle.cluster_laws.specs.Link.Coming.{coming}
use Rattle.page_protocol.specs.State as machine
use Rattle.page_protocol.specs.State.{NoRight, Right, Shelf, Page, IsShelf, current}
use Rattle.page_relation.specs.Messages.{CountsFor}
use Rattle.page_relation.specs.Relation.{HomesAre, LinksAre, MessageIs, NodesAre, TablesAre, on_shelf}
use Rattle.page_relation.specs.Tables.{EraIs, IsRebuilt, IsServed, TableIn, TableIs, TableOf, WaiterIs, serves_in}
use Rattle.page_relation.specs.Work.Keeping.{IsWorkOf}
use Rattle.page_relation.specs.Work.Landing.{land, Acts}
use Rattle.page_relation.specs.Work.Unseen.{SameStanding}
use Rattle.page_relation.proofs.WorkParts.Comings.{coming_same}
use Rattle.page_relation.proofs.WorkParts.Framing.{life_self, use_self, history_stays_law, stored_stays_law, copies_stay_law, homes_stay_law, nodes_stay_law, links_stay_law}
use Rattle.page_relation.proofs.WorkParts.Nodes.{at_node, at_other, kept_node, of_node}
use Rattle.kept_relation.specs.Emptying.{emptied, dead_below, gone_below, nobody}
use Rattle.kept_relation.specs.Purging.{AreSpared, FitsRebuilt, FitsServed, HasNoTable, PurgingEarlyIsRelated, PurgingEarlyLeads, PurgingIsRelated, PurgingLeads, SparedIn}
use Rattle.kept_relation.proofs.Running.{emptying_early_is_run_law, emptying_is_run_law}
use Rattle.kept_relation.proofs.Saying.{counts_back, homes_on, listed_here, nodes_on, rebuilt_on, says_on, served_on, waiting_on}

-- what is put where something was, is there
pub put_there : (xs : List (Option LockTable)) (i : ℕ) (x : LockTable) (y : Option LockTable) → slice_index_or xs i None ≡ Some x → slice_index_or (slice_set xs i y) i None ≡ y
put_there xs i x y is = set_same None xs i y (low xs i is)
  where
    low : (xs : List (Option LockTable)) (i : ℕ) → slice_index_or xs i None ≡ Some x → i < length xs
    low [] i is = absurd (cc)
    low (z ∷ zs) zero is = omega arith
    low (z ∷ zs) (suc i) is = let rest = low zs i is in omega (arith, rest)

-- the same eras
pub era_landed : (c : Cluster) (e : Event) (n : ℕ) (w x : Work) (q era owner : ℕ) → EraIs (land c e n w) q era owner → EraIs (land c e n x) q era owner
unfolding land era_at owner_at
era_landed c e n w x q era owner is = record { epoch = is.epoch; low = is.low; made = is.made; era_there = is.era_there; owner_there = is.owner_there }

pub two_all : (P Q R : Message → Type 0) → ((m : Message) → P m → Q m → R m) → (ms : List Message) → AllByRecursion P ms → AllByRecursion Q ms → AllByRecursion R ms
two_all P Q R f [] p q = tt
two_all P Q R f (m ∷ ms) p q = (f m p.0 q.0, two_all P Q R f ms p.1 q.1)

pub spared_landed : (c : Cluster) (v : Event) (n q : ℕ) (w x : Work) (a : Page) (e : ℕ) (dead : TxId → Bool) (gone : ℕ → Bool) (from to : ℕ) (ms : List Message)
    → AllByRecursion (SparedIn (land c v n w) q a e dead gone from to) ms → AllByRecursion (SparedIn (land c v n x) q a e dead gone from to) ms
unfolding land era_at
spared_landed c v n q w x a e dead gone from to ms all = all

fewer_wait : (P : Waiter → Type 0) (e later : LockEntry) (live : List Bool) → IsPurged e live later → AllByRecursion P e.waiting → AllByRecursion P later.waiting
fewer_wait P e later live is all = all_from P later.waiting (λ x inside. all_in P e.waiting x all (is.waiting x inside))

-- whom a purge leaves, by tests
left_mode : (l d : Bool) (m x : Option Mode) → (l ≡ true → d ≡ false) → (l ≡ false → d ≡ false → x ≡ None) → m ≡ x → pick l m None ≡ machine.pick d None x
left_mode true true m x alive none is = let bad = alive refl in absurd (cc)
left_mode true false m x alive none is = is
left_mode false true m x alive none is = refl
left_mode false false m x alive none is = sym (none refl refl)

left_right : (l g has : Bool) (r : Right) → (l ≡ false → g ≡ false → r ≡ NoRight) → (r ≢ NoRight → has ≡ true) → machine.pick g NoRight r ≢ NoRight → (l && has) ≡ true
left_right l true has r none old out = absurd (out refl)
left_right true false has r none old out = old out
left_right false false has r none old out = absurd (out (none refl refl))

left_marked : (k l d : Bool) (m x : Option Mode) → (l ≡ true → d ≡ false) → (l ≡ false → d ≡ false → k ≡ true → x ≡ None) → m ≡ pick k x None → pick l m None ≡ pick k (machine.pick d None x) None
left_marked k true true m x alive none is = let bad = alive refl in absurd (cc)
left_marked k true false m x alive none is = is
left_marked true false true m x alive none is = refl
left_marked false false true m x alive none is = refl
left_marked true false false m x alive none is = sym (none refl refl refl)
left_marked false false false m x alive none is = refl

module _ (c : Cluster) (v : Event) (n p : ℕ) (t : LockTable) (live : List Bool) (w : Work) (a : Page) (e : ℕ) (dead : TxId → Bool) (gone : ℕ → Bool) (acts : Acts c n) where
  abbrev b : Page
  b = emptied a e dead gone

  abbrev q : ℕ
  q = partition c.config p

  abbrev z : Work
  z = with_node w (put_table w.node q (Some (purge_table live t)))

  standing : SameStanding w.node z.node
  standing = record { config = refl; number = refl; epoch = refl; view = refl }

  entry : entry_at (purge_table live t) p ≡ purge (entry_at t p) live
  entry = (tables_are_seen_law t).purged live p

  seen : IsPurged (entry_at t p) live (purge (entry_at t p) live)
  seen = purging_is_seen_law (entry_at t p) live

  -- ---- the table

  served_left : (m f : ℕ) → e ≡ a.era → FitsServed live a dead gone → TableIs a p m f true t → TableIs b p m f true (purge_table live t)
  served_left m f same fits old =
      subst (IsServed b.served b.owner b.era b.entry b.listed b.right b.reached b.home m f) (sym entry)
      (record {
        serves = old.serves;
        here = old.here;
        now = old.now;
        version = seen.version ∙ old.version;
        holders = λ u.
            seen.holders u
            ∙ left_mode (flag_at live u.node) (dead u) (mode_of (entry_at t p).holders u) (a.listed u a.era) (fits.spared u) (fits.listed u) (old.holders u)
            ∙ subst (λ (k : ℕ). machine.pick (dead u) None (a.listed u k) ≡ b.listed u k) same (sym (listed_here a e dead gone u));
        rights = λ k out.
            seen.rights k
            ∙ left_right (flag_at live k) (gone k) (has_right (entry_at t p).rights k) (a.right k) (fits.rights k) (old.rights k) out;
        waiting =
            fewer_wait (WaiterIs b.reached b.home a.era) (entry_at t p) (purge (entry_at t p) live) live seen (waiting_on a e dead gone a.era (entry_at t p).waiting old.waiting);
        writers = (writers_wait_for_nothing_law (entry_at t p) old.writers).purged live;
      })

  rebuilt_left : (m : ℕ) → FitsRebuilt live a e t dead → TableIs a p m e false t → TableIs b p m e false (purge_table live t)
  rebuilt_left m fits old =
      subst (IsRebuilt b.era b.listed b.right b.reached b.home e (purge_table live t)) (sym entry)
      (record {
        later = old.later;
        reaches = old.reaches;
        holders = λ u.
            seen.holders u
            ∙ left_marked (marked t u.node) (flag_at live u.node) (dead u) (mode_of (entry_at t p).holders u) (a.listed u e) (fits.spared u) (fits.listed u) (old.holders u)
            ∙ ap (λ (o : Option Mode). pick (marked t u.node) o None) (sym (listed_here a e dead gone u));
        rights = λ k on counts.
            let left : CountsFor e (a.right k) = counts_back a e dead gone k e counts in
            seen.rights k ∙ both (flag_at live k) (has_right (entry_at t p).rights k) (fits.rights k on left) (old.rights k on left);
        waiting = fewer_wait (WaiterIs b.reached b.home e) (entry_at t p) (purge (entry_at t p) live) live seen (waiting_on a e dead gone e (entry_at t p).waiting old.waiting);
        writers = (writers_wait_for_nothing_law (entry_at t p) old.writers).purged live;
      })
    where
      both : (x y : Bool) → x ≡ true → y ≡ true → (x && y) ≡ true
      both true y is more = more
      both false y is more = absurd (cc)

  -- ---- the parts

  homes_left : HomesAre (land c v n w) p (current a) a → HomesAre (land c v n z) p (current b) b
  homes_left is =
      homes_on a e dead gone (land c v n z) p
      (homes_stay_law c v n p w z (current a) a acts standing (life_self w.node.home) (use_self p w.node.home) (record { accesses = λ u. refl; now_same = refl }) is)

  nodes_left : ((m : ℕ) → gone m ≡ true → IsShelf (a.right m) → ⊥) → NodesAre (land c v n w) p q a.era a.right a.reached → NodesAre (land c v n z) p q b.era b.right b.reached
  nodes_left off is = nodes_on a e dead gone (land c v n z) p q (λ m there. of (a.right m) (off m there)) (nodes_stay_law c v n p q a.era w z a.right a.reached acts standing refl is)
    where
      of : (r : Right) → (IsShelf r → ⊥) → on_shelf r ≡ None
      of NoRight no_shelf = refl
      of (machine.Flying g) no_shelf = refl
      of (Shelf x) no_shelf = absurd (no_shelf tt)
      of (machine.Returning upto readers) no_shelf = refl
      of machine.Dead no_shelf = refl

  links_left : AreSpared c v n p w a e dead gone → LinksAre (land c v n w) p q a → LinksAre (land c v n z) p q b
  links_left spared is =
      let k : LinksAre (land c v n z) p q a = links_stay_law c v n p q w z a acts standing refl (λ m. refl) is in
      record {
        say = λ from to.
            two_all (MessageIs (land c v n z) p q a from to) (SparedIn (land c v n z) q a e dead gone from to) (MessageIs (land c v n z) p q b from to)
            (λ m says one. says_on a e dead gone p from to (era_at (land c v n z) q m.epoch) m.body one says) (coming (land c v n z) p from to) (k.say from to) (same from to);
        ordered = k.ordered;
        once = k.once;
      }
    where
      same : (from to : ℕ) → AllByRecursion (SparedIn (land c v n z) q a e dead gone from to) (coming (land c v n z) p from to)
      same from to =
          spared_landed c v n q w z a e dead gone from to (coming (land c v n z) p from to)
          (subst (AllByRecursion (SparedIn (land c v n w) q a e dead gone from to)) (sym (coming_same c v n p acts w z standing refl (λ m. refl) from to)) (spared from to))

  there_left : table_at w.node q ≡ Some t → table_at z.node q ≡ Some (purge_table live t)
  there_left at = put_there w.node.tables q t (Some (purge_table live t)) at

  ours_left : (on : Bool) → t.serving ≡ on → table_at w.node q ≡ Some t → (m : ℕ) → m ≡ n
      → (TableIs a p n (era_in w.node.view q) on t → TableIs b p n (era_in w.node.view q) on (purge_table live t)) → TableOf a p q m (Some w.node) → TableOf b p q m (Some z.node)
  ours_left on serving at m same fits old =
      subst (λ (k : ℕ). TableOf b p q k (Some z.node)) (sym same)
      (subst (λ (o : Option LockTable). TableIn b p n (era_in w.node.view q) o) (sym (there_left at))
      (subst (λ (x : Bool). TableIs b p n (era_in w.node.view q) x (purge_table live t)) (sym serving)
      (fits
      (subst (λ (x : Bool). TableIs a p n (era_in w.node.view q) x t) serving
      (subst (λ (o : Option LockTable). TableIn a p n (era_in w.node.view q) o) at (subst (λ (k : ℕ). TableOf a p q k (Some w.node)) same old))))))

  tables_left : (on : Bool) → t.serving ≡ on → table_at w.node q ≡ Some t → (TableIs a p n (era_in w.node.view q) on t → TableIs b p n (era_in w.node.view q) on (purge_table live t))
      → ((m : ℕ) → (m == n) ≡ false → TableOf a p q m (node_at c m) → TableOf b p q m (node_at c m)) → TablesAre (land c v n w) p q a → TablesAre (land c v n z) p q b
  tables_left on serving at fits others is =
      record {
        tables = λ m.
            of m is;
        serving = λ now. kept_node c v n acts w z a.owner (λ o. serves_in o q ≡ true) (λ same old. ap is_serving (there_left at) ∙ (sym (ap is_serving at) ∙ old)) (is.serving now);
        era = era_landed c v n w z q a.era a.owner is.era;
      }
    where
      of : (m : ℕ) → TablesAre (land c v n w) p q a → TableOf b p q m (node_at (land c v n z) m)
      of m is =
          of_node c v n acts z m (λ o. TableOf b p q m o) (λ same. ours_left on serving at m same fits (at_node c v n acts w m (λ o. TableOf a p q m o) same (is.tables m)))
          (λ other. others m other (at_other c v n acts w m (λ o. TableOf a p q m o) other (is.tables m)))

  all_left : (TablesAre (land c v n w) p q a → TablesAre (land c v n z) p q b) → ((m : ℕ) → gone m ≡ true → IsShelf (a.right m) → ⊥) → AreSpared c v n p w a e dead gone
      → IsWorkOf c v n p w a → IsWorkOf c v n p z b
  unfolding land
  all_left tables off spared is =
      record {
        history = history_stays_law c v n p w z a.hist (current a) (record { accesses = λ u. refl; now_same = refl }) is.history;
        stored = stored_stays_law c v n p w z a.disk a.log (λ disk log old. old) is.stored;
        copies = copies_stay_law c v n p w z a.slot a.owner a.dirty acts refl is.copies;
        homes = homes_left is.homes;
        nodes = nodes_left off is.nodes;
        tables = tables is.tables;
        links = links_left spared is.links;
      }

  -- a table of another node than the one that serves
  beside_served : (m : ℕ) → n ≡ a.owner → e ≡ a.era → (m == n) ≡ false → (o : Option NodeState) → TableOf a p q m o → TableOf b p q m o
  beside_served m here now other None old = tt
  beside_served m here now other (Some s) old = in_table (table_at s q) old
    where
      by : (x : LockTable) (on : Bool) → TableIs a p m (era_in s.view q) on x → TableIs b p m (era_in s.view q) on x
      by x true served = let at = served.here in absurd (grind (arith, nat_tests, other, at, here))
      by x false rebuilt =
          let later = rebuilt.later in
          rebuilt_on a e dead gone p m (era_in s.view q) x (λ same. omega (arith, later, same, now)) rebuilt

      in_table : (k : Option LockTable) → TableIn a p m (era_in s.view q) k → TableIn b p m (era_in s.view q) k
      in_table None old = tt
      in_table (Some x) old = by x x.serving old

  -- of another node than one that rebuilds one
  beside_rebuilt : (m : ℕ) (o : Option NodeState) → HasNoTable q e o → TableOf a p q m o → TableOf b p q m o
  beside_rebuilt m None none old = tt
  beside_rebuilt m (Some s) none old = in_table (table_at s q) refl old
    where
      by : (x : LockTable) (on : Bool) → (era_in s.view q ≡ e → ⊥) → TableIs a p m (era_in s.view q) on x → TableIs b p m (era_in s.view q) on x
      by x true other served = served_on a e dead gone p m (era_in s.view q) x other served
      by x false other rebuilt = rebuilt_on a e dead gone p m (era_in s.view q) x other rebuilt

      in_table : (k : Option LockTable) → table_at s q ≡ k → TableIn a p m (era_in s.view q) k → TableIn b p m (era_in s.view q) k
      in_table None at old = tt
      in_table (Some x) at old = by x x.serving (none x at) old

-- the table of the acting node is so
pub own_table : (c : Cluster) (v : Event) (n p : ℕ) (t : LockTable) (w : Work) (a : Page) (on : Bool) → Acts c n → table_at w.node (partition c.config p) ≡ Some t → t.serving ≡ on
    → IsWorkOf c v n p w a → TableIs a p n (era_in w.node.view (partition c.config p)) on t
unfolding land
own_table c v n p t w a on acts at serving is =
    subst (λ (x : Bool). TableIs a p n (era_in w.node.view (partition c.config p)) x t) serving
    (subst (λ (o : Option LockTable). TableIn a p n (era_in w.node.view (partition c.config p)) o) at
    (at_node c v n acts w n (λ o. TableOf a p (partition c.config p) n o) refl (is.tables.tables n)))

pub purging_is_related_law : PurgingIsRelated
purging_is_related_law c e n p t v w a dead gone acts at serving off fits spared is =
    let mine = own_table c e n p t w a true acts at serving is in
    subst (λ (o : Option LockTable). IsWorkOf c e n p (with_node w (purged (partition c.config p) v.live o w.node)) (emptied a a.era dead gone)) (sym at)
    (all_left c e n p t v.live w a a.era dead gone acts
    (tables_left c e n p t v.live w a a.era dead gone acts true serving at
    (served_left c e n p t v.live w a a.era dead gone acts n (era_in w.node.view (partition c.config p)) refl fits)
    (λ m other old. beside_served c e n p t v.live w a a.era dead gone acts m mine.here refl other (node_at c m) old))
    off spared is)

pub purging_early_is_related_law : PurgingEarlyIsRelated
purging_early_is_related_law c e n p t v w a dead acts at serving fits alone spared is =
    subst (λ (o : Option LockTable). IsWorkOf c e n p (with_node w (purged (partition c.config p) v.live o w.node)) (emptied a (era_in w.node.view (partition c.config p)) dead nobody))
    (sym at)
    (all_left c e n p t v.live w a (era_in w.node.view (partition c.config p)) dead nobody acts
    (tables_left c e n p t v.live w a (era_in w.node.view (partition c.config p)) dead nobody acts false serving at
    (rebuilt_left c e n p t v.live w a (era_in w.node.view (partition c.config p)) dead nobody acts n fits)
    (λ m other old. beside_rebuilt c e n p t v.live w a (era_in w.node.view (partition c.config p)) dead nobody acts m (node_at c m) (alone m other) old))
    (λ m is. absurd (cc)) spared is)

last_of : (x y : Bool) → (x && y) ≡ true → y ≡ true
last_of true y e = e
last_of false y e = absurd (cc)

pub purging_leads_law : PurgingLeads
purging_leads_law c e n p k t v w a dead gone acts at serving are left fits spared is entered =
    let mine = own_table c e n p t w a true acts at serving is in
    record {
      page = emptied a a.era (dead_below k dead) (gone_below k gone);
      run = emptying_is_run_law a k dead gone mine.serves are left;
      related =
          purging_is_related_law c e n p t v w a (dead_below k dead) (gone_below k gone) acts at serving (λ m is. left.shelves m (last_of (ltb m k) (gone m) is)) fits spared is;
      known = entered;
    }

pub purging_early_leads_law : PurgingEarlyLeads
purging_early_leads_law c e n p k t v w a dead gone acts at serving are fits alone spared is entered =
    let mine = own_table c e n p t w a false acts at serving is in
    record {
      page = emptied a (era_in w.node.view (partition c.config p)) (dead_below k dead) nobody;
      run = emptying_early_is_run_law a (era_in w.node.view (partition c.config p)) k dead gone mine.later are;
      related = purging_early_is_related_law c e n p t v w a (dead_below k dead) acts at serving fits alone spared is;
      known = entered;
    }
