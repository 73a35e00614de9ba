-- Each part of the relation stays where nothing changes of what it speaks of.
use Rattle.std.proofs.Common.{◌≡◌, refl, ap, sym, subst, ◌∙◌, ℕ, ◌==◌, ◌≤◌, ◌&&◌, Bool, true, false, List, Option, Some, None}
use Rattle.std.specs.List.{AllByRecursion}
use Rattle.pcl_base.specs.declared.event.Event.{Event}
use Rattle.pcl_base.specs.declared.message.Message.{Message}
use Rattle.pcl_base.specs.declared.tx.TxId.{TxId}
use Rattle.run_rules.specs.Views.{View}
use Rattle.node_rules.specs.BufferRule as buffer
use Rattle.node_rules.specs.LockTable.{LockTable}
use Rattle.node_rules.specs.NodeState.{HomeState, NodeState, Run, partition, table_at, is_serving}
use Rattle.node_rules.specs.Words.{pick}
use Rattle.node_rules.specs.Work.{Work, Outcome, Goes}
use Rattle.cluster_rules.specs.Clusters.{Cluster, node_at, last_view}
use Rattle.page_protocol.specs.State.{Page, current}
use Rattle.page_protocol.specs.Steps.{here}
use Rattle.cluster_laws.specs.Era.Eras.{era_at, owner_at, era_in}
use Rattle.cluster_laws.specs.Link.Coming.{coming}
use Rattle.cluster_laws.specs.Link.Orders.{AreOrdered}
use Rattle.page_laws.specs.Look.Parts.{SameLife}
use Rattle.page_laws.specs.Moment.Looks.{HasPage}
use Rattle.page_laws.specs.Written.Written.{DiffersWithin}
use Rattle.page_relation.specs.Homes.{StandsIn, KindIn, ImageIn, runs_in}
use Rattle.page_relation.specs.Looks.{slot_in, slot_of, dirty_in, dirty_of, shelf_in, shelf_of, copy_in}
use Rattle.page_relation.specs.Messages.{AreOnce}
use Rattle.page_relation.specs.Relation.{MessageIs, on_shelf}
use Rattle.page_relation.specs.Tables.{IsServed, IsRebuilt, TableIs, TableIn, TableOf, EraIs, ReachedBy, ReachedIn, serves_in}
use Rattle.page_relation.specs.Work.Frames.{HistoryStays, StoredStays, CopiesStay, HomesStay, NodesStay, TablesStay, LinksStay, UnseenIsKept, UnseenGoesOn}
use Rattle.page_relation.specs.Work.Keeping.{Keeps}
use Rattle.page_relation.specs.Work.Landing.{land, Acts}
use Rattle.page_relation.specs.Work.Unseen.{SameStanding, SameUse, SameEntry, SameTable, SamePage, IsUnseen}
use Rattle.page_relation.proofs.WorkParts.Comings.{coming_same}
use Rattle.page_relation.proofs.WorkParts.Nodes.{kept_node, stands_same, kind_same}

pub history_stays_law : HistoryStays
unfolding land
history_stays_law c e n p w x hist cur told is =
    record { now_same = subst (λ o. HasPage o p cur) (sym told.now_same) is.now_same; below = is.below; sizes = is.sizes }

pub stored_stays_law : StoredStays
unfolding land
stored_stays_law c e n p w x disk log same is = same disk log is

pub copies_stay_law : CopiesStay
unfolding slot_of dirty_of
copies_stay_law c e n p w x slot owner dirty acts same is =
    record {
      slot_same = λ m. kept_node c e n acts w x m (λ o. slot_in o p ≡ slot m) (λ at old. ap copy_in same ∙ old) (is.slot_same m);
      dirty_same = λ m. kept_node c e n acts w x m (λ o. dirty_in o p ≡ (dirty && m == owner)) (λ at old. ap buffer.is_dirty_copy same ∙ old) (is.dirty_same m);
    }

pub homes_stay_law : HomesStay
unfolding land
homes_stay_law c e n p w x page a acts standing life uses told is =
    record {
      stands = λ t. kept t (λ o. StandsIn (last_view c).epoch o t p (a.home t)) (stands_same w.node x.node standing (last_view c).epoch p t (a.home t) life uses) (is.stands t);
      kinds = λ t. kept t (λ o. KindIn o t p) (kind_same w.node x.node standing p t (uses.held t)) (is.kinds t);
      scripts = λ t. is.scripts t ∙ sym (told.accesses t);
      images = λ t. kept t (λ o. ImageIn o t p (a.home t) (a.image t)) (λ old. uses.bytes t ∙ old) (is.images t);
      written = λ t holds.
          kept t (λ o. DiffersWithin (runs_in o t p) page.bytes (a.image t))
          (λ old. subst (λ (rs : List Run). DiffersWithin rs page.bytes (a.image t)) (sym (uses.runs t)) old) (is.written t holds);
    }
  where
    -- what is said of the home node of a transaction
    kept : (t : TxId) (Q : Option NodeState → Type 0) → (Q (Some w.node) → Q (Some x.node)) → Q (node_at (land c e n w) t.node) → Q (node_at (land c e n x) t.node)
    kept t Q change old = kept_node c e n acts w x t.node Q (λ same. change) old

-- a node has reached the same era where its epoch and view are the same
pub reached_same : (c : Cluster) (q era r : ℕ) (s x : NodeState) → SameStanding s x → ReachedBy c q era s s.view r → ReachedBy c q era x x.view r
reached_same c q era r s x same old = subst (λ (v : Option View). ReachedBy c q era x v r) (sym same.view) (by s.view old)
  where
    by : (v : Option View) → ReachedBy c q era s v r → ReachedBy c q era x v r
    by None old = (
      subst (λ (k : ℕ). r ≤ era_at c q k) (sym same.epoch) old.0,
      subst (λ (k : ℕ). era ≤ era_at c q k) (sym same.epoch) old.1,
    )
    by (Some v) old = old

-- the eras of views stay
pub reached_landed : (c : Cluster) (e : Event) (n : ℕ) (w : Work) (q era r : ℕ) (o : Option NodeState) → (ReachedIn (land c e n w) q era o r → ReachedIn c q era o r) × (ReachedIn c q era o r → ReachedIn (land c e n w) q era o r)
unfolding land era_at
reached_landed c e n w q era r None = (λ i. i, λ i. i)
reached_landed c e n w q era r (Some s) = by s.view
  where
    by : (v : Option View) → (ReachedBy (land c e n w) q era s v r → ReachedBy c q era s v r) × (ReachedBy c q era s v r → ReachedBy (land c e n w) q era s v r)
    by None = (λ i. i, λ i. i)
    by (Some v) = (λ i. i, λ i. i)

pub nodes_stay_law : NodesStay
unfolding shelf_of
nodes_stay_law c e n p q era w x right reached acts standing same is =
    record {
      shelves = λ m. kept_node c e n acts w x m (λ o. shelf_in o p ≡ on_shelf (right m)) (λ at old. same ∙ old) (is.shelves m);
      eras = λ m.
          (reached_landed c e n x q era (reached m) (node_at (land c e n x) m)).1
          (kept_node c e n acts w x m (λ o. ReachedIn c q era o (reached m)) (λ at old. reached_same c q era (reached m) w.node x.node standing old)
          ((reached_landed c e n w q era (reached m) (node_at (land c e n w) m)).0 (is.eras m)));
    }

-- a table that has the same of the page
table_is_same : (a : Page) (p n e : ℕ) (t u : LockTable) → SameEntry p t u → TableIs a p n e t.serving t → TableIs a p n e u.serving u
table_is_same a p n e t u same old = subst (λ (b : Bool). TableIs a p n e b u) (sym same.serving) (by t.serving old)
  where
    by : (b : Bool) → TableIs a p n e b t → TableIs a p n e b u
    by true i = subst (IsServed a.served a.owner a.era a.entry a.listed a.right a.reached a.home n e) (sym same.entry) i
    by false i =
        subst (IsRebuilt a.era a.listed a.right a.reached a.home e u) (sym same.entry)
        (record {
          later = i.later;
          reaches = λ m on. i.reaches m (sym (same.marks m) ∙ on);
          holders = λ v. i.holders v ∙ ap (λ (b : Bool). pick b (a.listed v e) None) (sym (same.marks v.node));
          rights = λ m on. i.rights m (sym (same.marks m) ∙ on);
          waiting = i.waiting;
          writers = i.writers;
        })

table_in_same : (a : Page) (p n e : ℕ) (o k : Option LockTable) → SameTable p o k → TableIn a p n e o → TableIn a p n e k
table_in_same a p n e None None same old = tt
table_in_same a p n e None (Some u) same old = absurd same
table_in_same a p n e (Some t) None same old = absurd same
table_in_same a p n e (Some t) (Some u) same old = table_is_same a p n e t u same old

serving_same : (p : ℕ) (o k : Option LockTable) → SameTable p o k → is_serving k ≡ is_serving o
serving_same p None None same = refl
serving_same p None (Some u) same = absurd same
serving_same p (Some t) None same = absurd same
serving_same p (Some t) (Some u) same = same.serving

era_landed : (c : Cluster) (e : Event) (n : ℕ) (w x : Work) (q era owner : ℕ) → EraIs (land c e n w) q era owner → EraIs (land c e n x) q era owner
unfolding land era_at owner_at
era_landed c e n w x q era owner is = record { epoch = is.epoch; low = is.low; made = is.made; era_there = is.era_there; owner_there = is.owner_there }

pub tables_stay_law : TablesStay
tables_stay_law c e n p q w x a acts standing same is =
    record {
      tables = λ m.
          kept_node c e n acts w x m (λ o. TableOf a p q m o)
          (λ at old.
          subst (λ (v : Option View). TableIn a p m (era_in v q) (table_at x.node q)) (sym standing.view)
          (table_in_same a p m (era_in w.node.view q) (table_at w.node q) (table_at x.node q) same old))
          (is.tables m);
      serving = λ on. kept_node c e n acts w x a.owner (λ o. serves_in o q ≡ true) (λ at old. serving_same p (table_at w.node q) (table_at x.node q) same ∙ old) (is.serving on);
      era = era_landed c e n w x q a.era a.owner is.era;
    }

-- what messages say is the same
pub message_same : (c : Cluster) (e : Event) (n p q : ℕ) (w x : Work) (a : Page) (from to : ℕ) (ms : List Message)
    → AllByRecursion (MessageIs (land c e n w) p q a from to) ms → AllByRecursion (MessageIs (land c e n x) p q a from to) ms
unfolding land era_at
message_same c e n p q w x a from to ms all = all

pub links_stay_law : LinksStay
links_stay_law c e n p q w x a acts standing taken sends is =
    record {
      say = λ from to.
          message_same c e n p q w x a from to (coming (land c e n x) p from to)
          (subst (AllByRecursion (MessageIs (land c e n w) p q a from to)) (sym (same from to)) (is.say from to));
      ordered = λ from to. subst (AreOrdered 0) (sym (same from to)) (is.ordered from to);
      once = λ from to. subst AreOnce (sym (same from to)) (is.once from to);
    }
  where
    same : (from to : ℕ) → coming (land c e n x) p from to ≡ coming (land c e n w) p from to
    same from to = coming_same c e n p acts w x standing taken sends from to

pub unseen_is_kept_law : UnseenIsKept
unfolding land
unseen_is_kept_law c e n p w x a acts same is =
    record {
      history = history_stays_law c e n p w x a.hist (current a) same.told is.history;
      stored = stored_stays_law c e n p w x a.disk a.log same.stored is.stored;
      copies = copies_stay_law c e n p w x a.slot a.owner a.dirty acts same.page.copy is.copies;
      homes = homes_stay_law c e n p w x (current a) a acts same.standing same.life same.page.uses same.told is.homes;
      nodes = nodes_stay_law c e n p (partition c.config p) a.era w x a.right a.reached acts same.standing same.page.right is.nodes;
      tables = tables_stay_law c e n p (partition c.config p) w x a acts same.standing same.table is.tables;
      links = links_stay_law c e n p (partition c.config p) w x a acts same.standing same.taken same.sends is.links;
    }

-- an operation that changes nothing that is seen of the page
pub unseen_keeps : (c : Cluster) (e : Event) (n p : ℕ) (Before After : Work → Page → Type 0) (op : Work → Outcome Work) → Acts c n
    → ((w x : Work) (a : Page) → Before w a → op w ≡ Goes x → IsUnseen c e n p w x × After x a) → Keeps c e n p Before op After
unseen_keeps c e n p Before After op acts same blank w x a reached related known goes =
    let is = same w x a known goes in
    record { page = a; run = here; related = unseen_is_kept_law c e n p w x a acts is.0 related; known = is.1 }

-- nothing changed
pub entry_self : (p : ℕ) (o : Option LockTable) → SameTable p o o
entry_self p None = tt
entry_self p (Some t) = record { serving = refl; entry = refl; marks = λ m. refl }

pub life_self : (h : HomeState) → SameLife h h
life_self h = record { config = refl; node = refl; born = refl; last = refl; alive = λ t. refl }

pub standing_self : (s : NodeState) → SameStanding s s
standing_self s = record { config = refl; number = refl; epoch = refl; view = refl }

pub use_self : (p : ℕ) (h : HomeState) → SameUse p h h
use_self p h = record { held = λ t. refl; waits = λ t. refl; bytes = λ t. refl; runs = λ t. refl }

pub page_self : (p : ℕ) (h : HomeState) → SamePage p h h
page_self p h = record { uses = use_self p h; copy = refl; right = refl }

pub unseen_self : (c : Cluster) (e : Event) (n p : ℕ) (w : Work) → IsUnseen c e n p w w
unseen_self c e n p w =
    record {
      standing = standing_self w.node;
      life = life_self w.node.home;
      page = page_self p w.node.home;
      table = entry_self p (table_at w.node (partition c.config p));
      stored = λ disk log is. is;
      told = record { accesses = λ t. refl; now_same = refl };
      taken = refl;
      sends = λ b. refl;
    }

-- one after the other
pub life_then : (g h k : HomeState) → SameLife g h → SameLife h k → SameLife g k
life_then g h k a b =
    record { config = b.config ∙ a.config; node = b.node ∙ a.node; born = b.born ∙ a.born; last = b.last ∙ a.last; alive = λ t. b.alive t ∙ a.alive t }

pub page_then : (p : ℕ) (g h k : HomeState) → SamePage p g h → SamePage p h k → SamePage p g k
page_then p g h k a b =
    record {
      uses =
          record {
            held = λ t. b.uses.held t ∙ a.uses.held t;
            waits = λ t. b.uses.waits t ∙ a.uses.waits t;
            bytes = λ t. b.uses.bytes t ∙ a.uses.bytes t;
            runs = λ t. b.uses.runs t ∙ a.uses.runs t;
          };
      copy = b.copy ∙ a.copy;
      right = b.right ∙ a.right;
    }

table_then : (p : ℕ) (o k l : Option LockTable) → SameTable p o k → SameTable p k l → SameTable p o l
table_then p None None l a b = b
table_then p None (Some u) l a b = absurd a
table_then p (Some t) None l a b = absurd a
table_then p (Some t) (Some u) None a b = absurd b
table_then p (Some t) (Some u) (Some v) a b =
    record { serving = b.serving ∙ a.serving; entry = b.entry ∙ a.entry; marks = λ m. b.marks m ∙ a.marks m }

pub unseen_then : (c : Cluster) (e : Event) (n p : ℕ) (w x y : Work) → IsUnseen c e n p w x → IsUnseen c e n p x y → IsUnseen c e n p w y
unseen_then c e n p w x y a b =
    record {
      standing =
          record {
            config = b.standing.config ∙ a.standing.config;
            number = b.standing.number ∙ a.standing.number;
            epoch = b.standing.epoch ∙ a.standing.epoch;
            view = b.standing.view ∙ a.standing.view;
          };
      life = life_then w.node.home x.node.home y.node.home a.life b.life;
      page = page_then p w.node.home x.node.home y.node.home a.page b.page;
      table = table_then p (table_at w.node (partition c.config p)) (table_at x.node (partition c.config p)) (table_at y.node (partition c.config p)) a.table b.table;
      stored = λ disk log is. b.stored disk log (a.stored disk log is);
      told = record { accesses = λ t. b.told.accesses t ∙ a.told.accesses t; now_same = b.told.now_same ∙ a.told.now_same };
      taken = b.taken ∙ a.taken;
      sends = λ k. b.sends k ∙ a.sends k;
    }

pub unseen_goes_on_law : UnseenGoesOn
unseen_goes_on_law c e n p w = record { self = unseen_self c e n p w; then = λ x y. unseen_then c e n p w x y }
