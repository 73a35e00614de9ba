-- The opening cluster is related to the opening state of each page.
use Rattle.std.proofs.Common.{◌≡◌, refl, ap, sym, subst, ◌∙◌, ℕ, zero, suc, ◌+◌, ◌<◌, ◌≤◌, ◌==◌, nat_lt, Bool, true, false, List, [], ◌∷◌, map, replicate, slice_index, slice_index_or, Option, Some, None, arith}
use Rattle.std.specs.Prelude.{is_some, IfSome}
use Rattle.std.specs.List.{AllByRecursion, filter}
use Rattle.std.proofs.lemmas.Bool.Decides.{nat_tests}
use Rattle.std.proofs.lemmas.List.{length-replicate, get_or-replicate}
use Rattle.std.proofs.lemmas.Nat.{mod_below}
use Rattle.pcl_base.specs.Limits.{Sizes}
use Rattle.pcl_base.specs.declared.message.Message.{Message}
use Rattle.pcl_base.specs.declared.tx.TxId.{TxId}
use Rattle.run_rules.specs.Script.{moments, script_from}
use Rattle.run_rules.specs.Views.{first, since_of, count_from}
use Rattle.node_rules.specs.Words.{pick}
use Rattle.node_rules.specs.BufferRule as buffer
use Rattle.node_rules.specs.Shelf as shelf
use Rattle.node_rules.specs.LockRule.{LockEntry, idle, mode_of}
use Rattle.node_rules.specs.LockTable.{LockTable, open_table, entry_in, entry_at, pages_of}
use Rattle.node_laws.proofs.Lists.{set_at}
use Rattle.node_rules.specs.InstallRule.{owned_before}
use Rattle.node_rules.specs.NodeState.{NodeState, first_node, partition, table_at, is_serving}
use Rattle.node_rules.specs.OpenTxs.{with_serial, lock_on, pages_of_open, waiting_of_open, is_own}
use Rattle.cluster_rules.specs.Clusters.{opening, node_at, view_of_epoch}
use Rattle.cluster_rules.specs.Links.{link_at}
use Rattle.cluster_laws.proofs.Lists.{look_counted, look_same}
use Rattle.page_protocol.specs.State.{Fresh, Holding}
use Rattle.pcl_base.specs.declared.tx.Mode.TheVariants.{Exclusive}
use Rattle.page_relation.specs.Homes.{Stands, StandsIn, KindFits, KindIn, ImageIn, wait_on, is_unborn}
use Rattle.page_relation.specs.Laws.{OpeningIsRelated, OpeningIsWhole, opening_page}
use Rattle.page_relation.specs.Together.{WaitsAsAsked, IsParty}
use Rattle.page_laws.specs.Moment.Looks.{accesses_of, accesses_in, asked_last}
use Rattle.page_protocol.specs.Steps.{here as no_step}
use Rattle.cluster_laws.proofs.Steps.{opening_is_cluster_law}
use Rattle.pcl_base.specs.declared.lock.Pending.{Pending}
use Rattle.page_relation.specs.Looks.{slot_in, slot_of, dirty_in, dirty_of, shelf_in, shelf_of}
use Rattle.cluster_laws.specs.Era.Eras.{era_at, owner_at}
use Rattle.cluster_laws.proofs.CallParts.WholeLogs.{opening_has_whole_logs_law}
use Rattle.cluster_laws.proofs.LinkParts.Rising.{opening_is_in_order_law}
use Rattle.page_laws.proofs.StorageParts.ReadPages.{fresh_is_stored_law}
use Rattle.page_laws.specs.Entry.Decisions.{NoWriterWaits}
use Rattle.page_relation.specs.Messages.{AreOnce}
use Rattle.cluster_laws.specs.Link.Coming.{coming, is_coming}
use Rattle.cluster_laws.specs.Link.Orders.{AreOrdered}
use Rattle.page_relation.specs.Relation.{HistoryIs, CopiesAre, HomesAre, NodesAre, TablesAre, LinksAre, MessageIs}
use Rattle.page_relation.specs.Tables.{ReachedIn, TableIn, TableOf, WaiterIs, serves_in}

-- each node of the opening cluster is at view 1, and further ones are none
opening_node : (c : Sizes) (P : ℕ → Option NodeState → Type 0) → ((j : ℕ) → j < c.nodes → P j (Some (first_node c j))) → ((j : ℕ) → P j None)
    → (n : ℕ) → P n (node_at (opening c) n)
unfolding opening
opening_node c P here past n =
    look_counted P None (λ n. Some (first_node c n)) c.nodes 0 n
    (λ j low. subst (λ (k : ℕ). P j (Some (first_node c k))) (omega arith) (here j low)) past

-- no message is on its way
opening_link : (c : Sizes) (a b : ℕ) → link_at (opening c).links a b ≡ []
unfolding opening link_at
opening_link c a b =
    look_same (λ (r : List (List Message)). slice_index_or r b [] ≡ []) c.nodes a _ []
    (look_same (λ (ms : List Message). ms ≡ []) c.nodes b [] [] refl refl) refl

opening_coming : (c : Sizes) (p a b : ℕ) → coming (opening c) p a b ≡ []
unfolding coming
opening_coming c p a b = ap (λ ms. filter (is_coming (opening c).config p a (node_at (opening c) b)) ms) (opening_link c a b)

opening_copies : (c : Sizes) (p : ℕ) → CopiesAre (opening c) p (opening_page c p).slot (opening_page c p).owner (opening_page c p).dirty
unfolding opening slot_of dirty_of first_node buffer.slot_in
opening_copies c p =
    record {
      slot_same = opening_node c (λ n o. slot_in o p ≡ None) (λ j low. refl) (λ j. refl);
      dirty_same = opening_node c (λ n o. dirty_in o p ≡ false) (λ j low. refl) (λ j. refl);
    }

opening_history : (c : Sizes) (p : ℕ) → p < c.pages → HistoryIs (opening c) p (opening_page c p).hist (record { version = 0; bytes = replicate c.size 0 })
unfolding opening moments
opening_history c p low =
    record {
      now_same = get_or-replicate c.pages p (record { version = 0; bytes = replicate c.size 0 }) (record { version = 0; bytes = [] }) low;
      below = omega arith;
      sizes = λ v. length-replicate c.size 0;
    }

opening_links : (c : Sizes) (p : ℕ) → LinksAre (opening c) p (partition c p) (opening_page c p)
opening_links c p =
    record {
      say = λ a b. subst (AllByRecursion (MessageIs (opening c) p (partition c p) (opening_page c p) a b)) (sym (opening_coming c p a b)) tt;
      ordered = λ a b. subst (AreOrdered 0) (sym (opening_coming c p a b)) tt;
      once = λ a b. subst AreOnce (sym (opening_coming c p a b)) (record { releases = λ t. omega arith; rights = omega arith; answers = omega arith });
    }

-- a choice between one thing
pick_same : {X : Type 0} (b : Bool) (x : X) → pick b x x ≡ x
pick_same true x = refl
pick_same false x = refl

-- an open home where nothing was begun
open_closed : (p : ℕ) (t : TxId) (b own : Bool) → Stands (is_some (pick own (with_serial [] t.serial) None)) b (lock_on (pages_of_open (pick own (with_serial [] t.serial) None)) p) (wait_on (waiting_of_open (pick own (with_serial [] t.serial) None)) p) Fresh
unfolding with_serial lock_on
open_closed p t true true = tt
open_closed p t true false = tt
open_closed p t false true = tt
open_closed p t false false = tt

closed_stands : (b : Bool) → Stands false b None None Fresh
closed_stands true = tt
closed_stands false = tt

open_stands : (c : Sizes) (p : ℕ) (t : TxId) (j : ℕ) → StandsIn 1 (Some (first_node c j)) t p Fresh
unfolding first_node
open_stands c p t j = open_closed p t (is_unborn (Some (first c)) (first_node c j) t) (is_own (first_node c j).home.txs t)

kinds_closed : (p : ℕ) (t : TxId) (owned own : Bool) → KindFits owned (lock_on (pages_of_open (pick own (with_serial [] t.serial) None)) p)
unfolding with_serial lock_on
kinds_closed p t owned true = tt
kinds_closed p t owned false = tt

open_kinds : (c : Sizes) (p : ℕ) (t : TxId) (j : ℕ) → KindIn (Some (first_node c j)) t p
unfolding first_node
open_kinds c p t j = kinds_closed p t (owned_before (Some (first c)) (partition c p) j) (is_own (first_node c j).home.txs t)

fresh_holds : Fresh ≡ Holding Exclusive → ⊥
fresh_holds e = absurd (cc)

-- nothing was begun
opening_stands : (c : Sizes) (p : ℕ) (t : TxId) → StandsIn 1 (node_at (opening c) t.node) t p Fresh
opening_stands c p t = opening_node c (λ n o. StandsIn 1 o t p Fresh) (λ j low. open_stands c p t j) (λ j. closed_stands (nat_lt 1 t.born)) t.node

opening_homes : (c : Sizes) (p : ℕ) → HomesAre (opening c) p (record { version = 0; bytes = replicate c.size 0 }) (opening_page c p)
unfolding opening accesses_in accesses_of script_from moments buffer.private_in first_node
opening_homes c p =
    record {
      stands = opening_stands c p;
      kinds = λ t. opening_node c (λ n o. KindIn o t p) (λ j low. open_kinds c p t j) (λ j. tt) t.node;
      scripts = λ t. refl;
      images = λ t. opening_node c (λ n o. ImageIn o t p Fresh []) (λ j low. refl) (λ j. tt) t.node;
      written = λ t e. absurd (fresh_holds e);
    }

-- each era is the first one
repeated : (n i : ℕ) → i < n → slice_index (replicate n 1) i ≡ 1
repeated zero i low = absurd (omega (arith, low))
repeated (suc n) zero low = refl
repeated (suc n) (suc i) low = repeated n i (omega (arith, low))

counted : (n a q : ℕ) → q < n → slice_index (count_from a n) q ≡ a + q
unfolding count_from
counted zero a q low = absurd (omega (arith, low))
counted (suc n) a zero low = omega arith
counted (suc n) a (suc q) low = let rest = counted n (a + 1) q (omega (arith, low)) in omega (arith, rest)

first_since : (c : Sizes) (q : ℕ) → q < c.nodes → since_of (first c) q ≡ 1
first_since c q low = repeated c.nodes q low

opening_era : (c : Sizes) (q : ℕ) → q < c.nodes → era_at (opening c) q 1 ≡ 1
unfolding opening era_at view_of_epoch
opening_era c q low = first_since c q low

opening_owner : (c : Sizes) (q : ℕ) → q < c.nodes → owner_at (opening c) q 1 ≡ q
unfolding opening owner_at view_of_epoch
opening_owner c q low = let is = counted c.nodes 0 q low in omega (arith, is)

opening_nodes : (c : Sizes) (p : ℕ) → partition c p < c.nodes → NodesAre (opening c) p (partition c p) 1 (opening_page c p).right (opening_page c p).reached
unfolding opening shelf_of first_node era_at view_of_epoch shelf.right_on
opening_nodes c p low =
    record {
      shelves = opening_node c (λ n o. shelf_in o p ≡ None) (λ j l. refl) (λ j. refl);
      eras =
          opening_node c (λ n o. ReachedIn (opening c) (partition c p) 1 o 1)
          (λ j l. let s = first_since c (partition c p) low in (sym s, omega arith))
          (λ j. subst (λ (k : ℕ). 1 ≤ k) (sym (opening_era c (partition c p) low)) (omega arith));
    }

-- a table in which nothing is locked
nothing_locked : (ps : List ℕ) (p : ℕ) → entry_in (map (λ q. record { page = q; entry = idle 0 }) ps) p ≡ idle 0
unfolding entry_in
nothing_locked [] p = refl
nothing_locked (q ∷ ps) p = by (q == p) (nothing_locked ps p)
  where
    by : (b : Bool) → entry_in (map (λ q. record { page = q; entry = idle 0 }) ps) p ≡ idle 0 → pick b (idle 0) (entry_in (map (λ q. record { page = q; entry = idle 0 }) ps) p) ≡ idle 0
    by true rest = refl
    by false rest = rest

opened_entry : (c : Sizes) (j p : ℕ) → entry_at (open_table c j true) p ≡ idle 0
unfolding open_table
opened_entry c j p = nothing_locked (pages_of c j) p

no_table : (n i : ℕ) → slice_index_or (replicate n (let o : Option LockTable = None in o)) i None ≡ None
no_table n i = look_same (λ (o : Option LockTable). o ≡ None) n i None None refl refl

first_tables : (c : Sizes) (P : Option LockTable → Type 0) (q j : ℕ) → j < c.nodes → (q ≡ j → P (Some (open_table c j true))) → ((q == j) ≡ false → P None) → P (table_at (first_node c j) q)
unfolding first_node
first_tables c P q j low here past =
    set_at P None (replicate c.nodes None) j q (Some (open_table c j true))
    (subst (λ (n : ℕ). j < n) (sym (length-replicate c.nodes (let o : Option LockTable = None in o))) low)
    here (λ other. subst P (sym (no_table c.nodes q)) (past other))

idle_waits : NoWriterWaits (idle 0)
idle_waits t holds = refl

opened_table : (c : Sizes) (p j : ℕ) → partition c p < c.nodes → partition c p ≡ j → TableIn (opening_page c p) p j (since_of (first c) (partition c p)) (Some (open_table c j true))
unfolding open_table mode_of
opened_table c p j low e =
    record {
      serves = refl;
      here = sym e;
      now = first_since c (partition c p) low;
      version = ap (λ (x : LockEntry). x.version) (opened_entry c j p);
      holders = λ t. ap (λ (x : LockEntry). mode_of x.holders t) (opened_entry c j p);
      rights = λ m out. absurd (out refl);
      waiting = subst (λ (x : LockEntry). AllByRecursion (WaiterIs (opening_page c p).reached (opening_page c p).home 1) x.waiting) (sym (opened_entry c j p)) tt;
      writers = subst NoWriterWaits (sym (opened_entry c j p)) idle_waits;
    }

first_table : (c : Sizes) (p j : ℕ) → j < c.nodes → partition c p < c.nodes → TableOf (opening_page c p) p (partition c p) j (Some (first_node c j))
unfolding first_node
first_table c p j inside low =
    first_tables c (TableIn (opening_page c p) p j (since_of (first c) (partition c p))) (partition c p) j inside (opened_table c p j low) (λ other. tt)

made_at : {X : Type 0} (f : ℕ → X) (d : X) (n a i : ℕ) → i < n → slice_index_or (map f (count_from a n)) i d ≡ f (a + i)
unfolding count_from
made_at f d zero a i low = absurd (omega (arith, low))
made_at f d (suc n) a zero low = ap f (omega arith)
made_at f d (suc n) a (suc i) low = made_at f d n (a + 1) i (omega (arith, low)) ∙ ap f (omega arith)

opening_up : (c : Sizes) (n : ℕ) → n < c.nodes → node_at (opening c) n ≡ Some (first_node c n)
unfolding opening
opening_up c n low = made_at (λ n. Some (first_node c n)) None c.nodes 0 n low ∙ ap (λ n. Some (first_node c n)) (omega arith)

first_serves : (c : Sizes) (q : ℕ) → q < c.nodes → serves_in (Some (first_node c q)) q ≡ true
unfolding open_table
first_serves c q low = first_tables c (λ o. is_serving o ≡ true) q q low (λ e. refl) (λ other. absurd (not_itself other))
  where
    not_itself : (q == q) ≡ false → ⊥
    not_itself e = grind (arith, nat_tests)

opening_tables : (c : Sizes) (p : ℕ) → partition c p < c.nodes → TablesAre (opening c) p (partition c p) (opening_page c p)
unfolding opening
opening_tables c p low =
    record {
      tables = opening_node c (λ n o. TableOf (opening_page c p) p (partition c p) n o) (λ j inside. first_table c p j inside low) (λ j. tt);
      serving = λ on. ap (λ (o : Option NodeState). serves_in o (partition c p)) (opening_up c (partition c p) low) ∙ first_serves c (partition c p) low;
      era =
          record {
            epoch = 1;
            low = omega arith;
            made = omega arith;
            era_there = opening_era c (partition c p) low;
            owner_there = opening_owner c (partition c p) low;
          };
    }

pub opening_is_related_law : OpeningIsRelated
unfolding opening
opening_is_related_law c p lim below =
    record {
      history = opening_history c p below;
      stored = fresh_is_stored_law c p below;
      copies = opening_copies c p;
      homes = opening_homes c p;
      nodes = opening_nodes c p low;
      tables = opening_tables c p low;
      links = opening_links c p;
    }
  where
    low : partition c p < c.nodes
    low = mod_below p c.nodes lim.some_nodes

none_waits : (c : Sizes) (t : TxId) (own : Bool)
    → IfSome (waiting_of_open (pick own (with_serial [] t.serial) None)) (λ (w : Pending). w.write ≡ asked_last t (opening c).trace)
unfolding with_serial
none_waits c t true = tt
none_waits c t false = tt

first_asked : (c : Sizes) (t : TxId) (j : ℕ) → WaitsAsAsked (opening c) t (Some (first_node c j))
unfolding first_node
first_asked c t j = none_waits c t (is_own (first_node c j).home.txs t)

opening_asked : (c : Sizes) (t : TxId) → WaitsAsAsked (opening c) t (node_at (opening c) t.node)
unfolding with_serial
opening_asked c t = opening_node c (λ n o. WaitsAsAsked (opening c) t o) (λ j low. first_asked c t j) (λ j. tt) t.node

pub opening_is_whole_law : OpeningIsWhole
unfolding opening
opening_is_whole_law c lim =
    record {
      cluster = opening_is_cluster_law c lim;
      asked = opening_asked c;
      logs = opening_has_whole_logs_law c;
      order = opening_is_in_order_law c;
      parties = λ a b. subst (AllByRecursion (IsParty (opening c) a b)) (sym (opening_link c a b)) tt;
      pages =
          record {
            page = opening_page c;
            reached = λ p below. (1, partition c p, no_step);
            related = λ p below. opening_is_related_law c p lim below;
          };
    }
