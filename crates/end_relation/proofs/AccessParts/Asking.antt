-- An access that waits.
use Rattle.std.proofs.Common.{◌≡◌, refl, ap, sym, ◌∙◌, ℕ, Bool, true, false, List, Option, Some, None}
use Rattle.pcl_base.specs.declared.event.Event.{Event}
use Rattle.pcl_base.specs.declared.lock.Held.{Held}
use Rattle.pcl_base.specs.declared.lock.Kind.{Kind}
use Rattle.pcl_base.specs.declared.lock.Kind.TheVariants as kind
use Rattle.pcl_base.specs.declared.lock.Pending.{Pending}
use Rattle.pcl_base.specs.declared.tx.Mode.{Mode}
use Rattle.pcl_base.specs.declared.tx.Mode.TheVariants.{Shared, Exclusive}
use Rattle.pcl_base.specs.declared.tx.TxId.{TxId}
use Rattle.node_rules.specs.AccessRule.{Access, mode_of_write, waiting}
use Rattle.node_rules.specs.OpenTxs.{is_open, held_by, mode_held, pending_of}
use Rattle.node_rules.specs.Words.{pick, covers}
use Rattle.node_rules.specs.Work.{Work, with_home}
use Rattle.cluster_rules.specs.Clusters.{Cluster, last_view}
use Rattle.page_laws.specs.Look.Accesses.{IsWaiting}
use Rattle.page_laws.specs.Look.Ends.{version_of_right}
use Rattle.page_laws.proofs.LookParts.Accessing.{waiting_is_seen_law}
use Rattle.page_protocol.specs.Homes.{asking, upgrading}
use Rattle.page_protocol.specs.State.{Home, Fresh, Asking, Holding, HoldingAsks, Reading, ReadingAsks, Ended, Page, version_of, upd}
use Rattle.page_protocol.specs.Steps.{Step, asks, upgrades, upgrades_reader}
use Rattle.page_relation.specs.Homes.{wait_on, IsOpenAs, held_stand, shared_stand, image_of}
use Rattle.page_relation.specs.Messages.{HasAsked}
use Rattle.page_relation.specs.Work.Keeping.{IsWorkOf}
use Rattle.page_relation.specs.Work.Landing.{Acts}
use Rattle.page_relation.specs.Work.Unseen.{SameStanding}
use Rattle.page_relation.proofs.WorkParts.Nodes.{kind_same}
use Rattle.end_relation.specs.Access.Altered.{altered, MayBecome}
use Rattle.end_relation.proofs.AccessParts.Looking.{rules_apart, own_page, idle_here, stands_open}
use Rattle.end_relation.proofs.AccessParts.Standing.{StandsElsewhere, one_related}
use Rattle.end_relation.proofs.AccessParts.Under.{fresh_may}

-- a transaction that asks: the step of the machine, and what is known of where it stands then
pub record Asks (a : Page) (t : TxId) (l : Option Held) (m : Mode) : Type 0 where
  pub home : Home
  pub step : Step a (altered a (upd a.home t home) a.script a.image)
  pub may : MayBecome (a.home t) home
  pub stands : IsOpenAs l (Some m) home
  pub image : (bytes : List ℕ) → image_of home bytes ≡ image_of (a.home t) bytes
  pub reads : home ≡ Holding Exclusive → ⊥
  pub asked : (reached e : ℕ) → HasAsked reached e home (version_of (a.slot t.node))

first_asks : (a : Page) (t : TxId) (m : Mode) → a.home t ≡ Fresh → Asks a t None m
unfolding asking
first_asks a t m fresh =
    record {
      home = Asking m (version_of (a.slot t.node));
      step = asks t m fresh;
      may = fresh_may (a.home t) (Asking m (version_of (a.slot t.node))) fresh;
      stands = (version_of (a.slot t.node), refl);
      image = λ bytes. sym (ap (λ (h : Home). image_of h bytes) fresh);
      reads = λ bad. absurd (cc);
      asked = λ r e. record { begun = λ f. f; told = λ same. refl };
    }

holder_asks : (a : Page) (t : TxId) (l : Held) → a.home t ≡ Holding Shared → HoldingAsks ≡ held_stand l.mode l.kind (Some Exclusive) → Asks a t (Some l) Exclusive
unfolding upgrading
holder_asks a t l holds is =
    record {
      home = HoldingAsks;
      step = upgrades t holds;
      may = record { asked = λ r e have old. record { begun = λ f. f; told = λ same. tt }; ended = λ v e old. let bad : Holding Shared ≡ Ended v e = sym holds ∙ old in absurd (cc) };
      stands = (None, is);
      image = λ bytes. sym (ap (λ (h : Home). image_of h bytes) holds);
      reads = λ bad. absurd (cc);
      asked = λ r e. record { begun = λ f. f; told = λ same. tt };
    }

reader_asks : (a : Page) (t : TxId) (l : Held) → a.home t ≡ Reading → ReadingAsks ≡ held_stand l.mode l.kind (Some Exclusive) → Asks a t (Some l) Exclusive
unfolding upgrading
reader_asks a t l reads is =
    record {
      home = ReadingAsks;
      step = upgrades_reader t reads;
      may = record { asked = λ r e have old. record { begun = λ f. f; told = λ same. tt }; ended = λ v e old. let bad : Reading ≡ Ended v e = sym reads ∙ old in absurd (cc) };
      stands = (None, is);
      image = λ bytes. sym (ap (λ (h : Home). image_of h bytes) reads);
      reads = λ bad. absurd (cc);
      asked = λ r e. record { begun = λ f. f; told = λ same. tt };
    }

-- a shared holder asks for more
shared_asks : (a : Page) (t : TxId) (l : Held) (k : Kind) → l.mode ≡ Shared → l.kind ≡ k → a.home t ≡ shared_stand k None → Asks a t (Some l) Exclusive
shared_asks a t l kind.Own mode kind stands = holder_asks a t l stands (λ i. held_stand (sym mode i) (sym kind i) (Some Exclusive))
shared_asks a t l kind.Registered mode kind stands = holder_asks a t l stands (λ i. held_stand (sym mode i) (sym kind i) (Some Exclusive))
shared_asks a t l kind.Right mode kind stands = reader_asks a t l stands (λ i. held_stand (sym mode i) (sym kind i) (Some Exclusive))

held_asks : (a : Page) (t : TxId) (l : Held) (k m : Mode) → l.mode ≡ k → a.home t ≡ held_stand k l.kind None → covers (Some k) m ≡ false → Asks a t (Some l) m
held_asks a t l Exclusive m mode stands uncovered = absurd (cc)
held_asks a t l Shared Shared mode stands uncovered = absurd (cc)
held_asks a t l Shared Exclusive mode stands uncovered = shared_asks a t l l.kind mode refl stands

pub asks_of : (a : Page) (t : TxId) (l : Option Held) (m : Mode) → IsOpenAs l None (a.home t) → covers (mode_held l) m ≡ false → Asks a t l m
asks_of a t None m stands uncovered = first_asks a t m stands.1
asks_of a t (Some l) m stands uncovered = held_asks a t l l.mode m refl stands.1 uncovered

module _ (c : Cluster) (e : Event) (n : ℕ) (acts : Acts c n) (x : Access) (w : Work) (a : Page) (related : IsWorkOf c e n x.page w a) (mine : x.tx.node ≡ n)
    (opened : is_open w.node.home.txs x.tx ≡ true) (idle : pending_of w.node.home.txs x.tx ≡ None)
    (uncovered : covers (mode_held (held_by w.node.home.txs x.tx x.page)) (mode_of_write x.write) ≡ false) where
  -- the work after it
  abbrev pub wait_work : Work
  wait_work = with_home w (waiting x w.node.home)

  pub wait_seen : IsWaiting x w.node.home (waiting x w.node.home)
  wait_seen = waiting_is_seen_law x w.node.home opened

  pub wait_asks : Asks a x.tx (held_by w.node.home.txs x.tx x.page) (mode_of_write x.write)
  wait_asks =
      asks_of a x.tx (held_by w.node.home.txs x.tx x.page) (mode_of_write x.write) (idle_here c e n x.page acts w a related x.tx mine opened idle) uncovered

  wait_standing : SameStanding w.node wait_work.node
  wait_standing = record { config = wait_seen.life.config; number = wait_seen.life.node; epoch = refl; view = refl }

  wait_stands : StandsElsewhere c x.page w (waiting x w.node.home) a x.tx wait_asks.home
  wait_stands =
      record {
        may = wait_asks.may;
        life = wait_seen.life;
        held = λ u off. wait_seen.held u x.page;
        waits = λ u off. ap (λ (o : Option Pending). wait_on o x.page) (wait_seen.other_waits u (rules_apart x.tx u off));
        privates = wait_seen.privates;
        copy = wait_seen.copies x.page;
        right = ap version_of_right (wait_seen.rights x.page);
        stands =
            stands_open wait_work.node (last_view c).epoch x.page x.tx wait_asks.home (held_by w.node.home.txs x.tx x.page) (Some (mode_of_write x.write)) (wait_seen.life.alive x.tx ∙ opened)
            (wait_seen.held x.tx x.page)
            (ap (λ (o : Option Pending). wait_on o x.page) wait_seen.waits ∙ ap (λ (b : Bool). pick b (let o : Option Mode = Some (mode_of_write x.write) in o) None) (own_page x.page))
            wait_asks.stands;
        kind = λ old. kind_same w.node wait_work.node wait_standing x.page x.tx (wait_seen.held x.tx x.page) old;
        image = wait_asks.image;
        reads = wait_asks.reads;
      }

  -- the state after it
  abbrev pub wait_page : Page
  wait_page = altered a (upd a.home x.tx wait_asks.home) a.script a.image

  pub wait_related : IsWorkOf c e n x.page wait_work wait_page
  wait_related = one_related c e n x.page acts w a related x.tx mine (waiting x w.node.home) wait_asks.home wait_stands
