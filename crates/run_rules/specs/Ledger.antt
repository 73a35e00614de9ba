-- What the account knows before each entry of a trace, from the trace alone.
use Rattle.std.specs.Prelude.{ℕ, ◌%◌, ◌==◌, ◌&&◌, not, Bool, true, false, List, [], ◌∷◌, ◌++◌, map, replicate, slice_index_or, slice_set, Option, Some, None}
use Rattle.std.specs.List.{filter, fold}
use Rattle.pcl_base.specs.Limits.{Sizes}
use Rattle.pcl_base.specs.declared.tx.TxId.{TxId}
use Rattle.pcl_base.specs.declared.tx.Mode.{Mode}
use Rattle.pcl_base.specs.declared.tx.Mode.TheVariants.{Shared, Exclusive}
use Rattle.pcl_base.specs.declared.event.Event.{Event}
use Rattle.pcl_base.specs.declared.event.Event.TheVariants as event
use Rattle.pcl_base.specs.declared.trace.Note.{Note}
use Rattle.run_rules.specs.Words.{pick, same_tx}
use Rattle.run_rules.specs.Views.{View, first, is_live, owner_of, since_of, count_from}

-- a transaction, a page, and the mode that it wants; a transaction and a page; and a right that is
-- out, with whether a revocation was sent
pub record Want : Type 0 where
  pub tx : TxId
  pub page : ℕ
  pub mode : Mode

-- a transaction and a page
pub record Of : Type 0 where
  pub tx : TxId
  pub page : ℕ

-- a right that is out, with whether a revocation was sent
pub record Out : Type 0 where
  pub node : ℕ
  pub page : ℕ
  pub revoked : Bool

-- The nodes that are up; the messages on each link; the views that were made, the one of each node
-- and the epochs that each has installed; for each node the requests and waiting items that it took
-- and neither granted nor saw released, and the rights that it has out; the writes of transactions
-- that wait at their own node; the requests that aren't answered; the registered locks; the releases
-- that were sent; the writes that were granted; and the version of each page.
pub record Ledger : Type 0 where
  pub config : Sizes
  pub up : List Bool
  pub links : List (List (List Note))
  pub views : List View
  pub seen : List View
  pub installed : List (List ℕ)
  pub wanted : List (List Want)
  pub rights : List (List Out)
  pub writing : List Of
  pub asked : List Want
  pub registered : List Of
  pub released : List Of
  pub done : List Of
  pub versions : List ℕ

-- the ledger before the first entry
abbrev pub first_ledger : Sizes → Ledger
first_ledger c =
    record {
      config = c;
      up = replicate c.nodes true;
      links = replicate c.nodes (replicate c.nodes []);
      views = first c ∷ [];
      seen = replicate c.nodes (first c);
      installed = replicate c.nodes (1 ∷ []);
      wanted = replicate c.nodes [];
      rights = replicate c.nodes [];
      writing = [];
      asked = [];
      registered = [];
      released = [];
      done = [];
      versions = replicate c.pages 0;
    }

-- tests of items
abbrev pub is_exclusive : Mode → Bool
is_exclusive Shared = false
is_exclusive Exclusive = true

-- whether two modes are the same
abbrev pub same_mode : Mode → Mode → Bool
same_mode Shared m = not (is_exclusive m)
same_mode Exclusive m = is_exclusive m

-- whether an item is of a transaction and a page
abbrev pub is_of : TxId → ℕ → Of → Bool
is_of t p x = same_tx x.tx t && x.page == p

-- whether an item is of a transaction, a page and a mode
abbrev pub is_want : TxId → ℕ → Mode → Want → Bool
is_want t p m w = (same_tx w.tx t && w.page == p) && same_mode w.mode m

-- whether it is of a transaction and a page in any mode
abbrev pub wants_page : TxId → ℕ → Want → Bool
wants_page t p w = same_tx w.tx t && w.page == p

-- whether a right is that of a node and a page
abbrev pub is_out : ℕ → ℕ → Out → Bool
is_out n p r = r.node == n && r.page == p

-- what the ledger has of a node
abbrev pub view_at : Ledger → ℕ → View
view_at l n = slice_index_or l.seen n (first l.config)

-- the requests and items that a node has to grant
abbrev pub wanted_at : Ledger → ℕ → List Want
wanted_at l n = slice_index_or l.wanted n []

-- the rights that a node has out
abbrev pub rights_at : Ledger → ℕ → List Out
rights_at l n = slice_index_or l.rights n []

-- the epochs that a node has installed
abbrev pub installed_at : Ledger → ℕ → List ℕ
installed_at l n = slice_index_or l.installed n []

-- whether a node is up
abbrev pub is_up : Ledger → ℕ → Bool
is_up l n = slice_index_or l.up n false

-- a node has other requests and items to grant
abbrev pub put_wanted : ℕ → List Want → Ledger → Ledger
put_wanted n ws l = record l { wanted = slice_set l.wanted n ws }

-- a node has other rights out
abbrev pub put_rights : ℕ → List Out → Ledger → Ledger
put_rights n rs l = record l { rights = slice_set l.rights n rs }

-- the messages on a link
abbrev pub link_row : List (List (List Note)) → ℕ → List (List Note)
link_row ls a = slice_index_or ls a []

-- the messages from one node to another
unfoldable pub link_at : List (List (List Note)) → ℕ → ℕ → List Note
link_at ls a b = slice_index_or (link_row ls a) b []

-- other messages on a link
unfoldable pub put_link : List (List (List Note)) → ℕ → ℕ → List Note → List (List (List Note))
put_link ls a b ms = slice_set ls a (slice_set (link_row ls a) b ms)

-- the first message
abbrev pub head_of : List Note → Option Note
head_of [] = None
head_of (m ∷ ms) = Some m

-- the messages behind it
abbrev pub tail_of : List Note → List Note
tail_of [] = []
tail_of (m ∷ ms) = ms

-- the acting node of an event
abbrev pub actor : Event → Option ℕ
actor (event.Begin n) = Some n
actor (event.Read t p) = Some t.node
actor (event.Write t p place bytes) = Some t.node
actor (event.Commit t) = Some t.node
actor (event.Abort t) = Some t.node
actor (event.Deliver from to) = Some to
actor (event.Evict n p) = Some n
actor (event.Flush n p) = Some n
actor (event.Crash n) = Some n
actor (event.View live owners) = None
actor (event.Install n) = Some n
actor event.Reopen = None
actor (event.Arm n call kept) = Some n
actor (event.Cut n) = Some n

-- a node is down: its links in are empty, and the accesses of its transactions have ended
unfoldable pub lose : ℕ → Ledger → Ledger
lose n l =
    record l {
      up = slice_set l.up n false;
      links = map (λ (row : List (List Note)). slice_set row n []) l.links;
      writing = filter (λ x. not (x.tx.node == n)) l.writing;
    }

-- a view was made: the returning nodes are up
abbrev pub raise : List ℕ → List Bool → List Bool
raise ns up = fold (λ (u : List Bool) n. slice_set u n true) up ns

-- the last view of a list
abbrev pub last_or : View → List View → View
last_or v [] = v
last_or v (w ∷ ws) = last_or w ws

-- the view that was made last
abbrev pub last_view : Ledger → View
last_view l = last_or (first l.config) l.views

-- the nodes of the cluster
abbrev pub all_nodes : Ledger → List ℕ
all_nodes l = count_from 0 l.config.nodes

-- the nodes that are live in a view and weren't before
abbrev pub returning : View → View → List ℕ → List ℕ
returning before v ns = filter (λ n. is_live v.live n && not (is_live before.live n)) ns

-- a further view, with the nodes that it starts
abbrev pub with_view : List ℕ → View → Ledger → Ledger
with_view ns v l = record l { up = raise ns l.up; views = l.views ++ v ∷ [] }

-- the view of an epoch among those that were made
unfoldable pub view_of_epoch : View → List View → ℕ → View
view_of_epoch d [] e = d
view_of_epoch d (v ∷ vs) e = pick (v.epoch == e) v (view_of_epoch d vs e)

-- a partition that a node holds from now on: what it did and took before doesn't count
abbrev pub is_new : View → Sizes → ℕ → ℕ → Bool
is_new v c n p = owner_of v (p % c.nodes) == n && since_of v (p % c.nodes) == v.epoch

-- a node has installed a view
unfoldable pub install : ℕ → View → Ledger → Ledger
install n v l =
    record l {
      seen = slice_set l.seen n v;
      installed = slice_set l.installed n (v.epoch ∷ installed_at l n);
      wanted = slice_set l.wanted n (filter (λ w. not (is_new v l.config n w.page)) (wanted_at l n));
      rights = slice_set l.rights n (filter (λ r. not (is_new v l.config n r.page)) (rights_at l n));
    }
