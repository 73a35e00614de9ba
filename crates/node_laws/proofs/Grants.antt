-- What a grant makes of a home, and what an access, a grant on arrival and a revocation make of it.
use Rattle.std.proofs.Common.{◌≡◌, refl, ap, subst, ◌∙◌, sym, ℕ, ◌+◌, ◌==◌, Bool, true, false, List, [], ◌∷◌, length, Option, Some, None}
use Rattle.std.specs.Prelude.{⊤}
use Rattle.pcl_base.specs.Limits.{Sizes}
use Rattle.pcl_base.specs.declared.tx.TxId.{TxId}
use Rattle.pcl_base.specs.declared.lock.Held.{Held}
use Rattle.pcl_base.specs.declared.lock.Kind.{Kind}
use Rattle.pcl_base.specs.declared.lock.Kind.TheVariants as kind
use Rattle.pcl_base.specs.declared.message.Grant.{Grant}
use Rattle.pcl_base.specs.declared.message.CopyPart.{CopyPart}
use Rattle.pcl_base.specs.declared.message.CopyPart.TheVariants as part
use Rattle.text_rules.specs.StoredPage.{PageAt}
use Rattle.text_rules.specs.MessageBytes.{IsPage, IsCopy}
use Rattle.run_rules.specs.Disk.{raw_page}
use Rattle.node_rules.specs.Words.{pick}
use Rattle.node_rules.specs.CopyRule.{is_version}
use Rattle.node_rules.specs.OpenTxs.{OpenTxs, add, wait, set_kind, pending_of, waits_as}
use Rattle.node_rules.specs.Shelf.{Right, right_on, readers_of}
use Rattle.node_rules.specs.BufferRule.{find, install}
use Rattle.node_rules.specs.NodeState.{HomeState}
use Rattle.node_rules.specs.Work.{HomeWork, Goes, Differs, read_page}
use Rattle.node_rules.specs.AccessRule.{Access, Granted, Arrived, on_pool, clean_copy, bring, unless_current, new_content, from_disk, granted, locked, perform, write_of, image_of, kind_of, shelf_after, readers_after, arrive, arrived, on_grant, on_revoke, answer_with, kinds_on, spend_right, access, access_in, take_frames, is_held, is_allowed, next_of, waiting, now_done, under_right}
use Rattle.home_laws.specs.Homes.{IsHome, is_right_kind}
use Rattle.home_laws.specs.Refused.{access_refusal}
use Rattle.home_laws.specs.AccessLaws.{IsImage}
use Rattle.home_laws.proofs.Granted.{granted_sound}
use Rattle.home_laws.proofs.Arrived.{on_grant_sound}
use Rattle.home_laws.proofs.Revoked.{on_revoke_sound}
use Rattle.home_laws.proofs.Accessed.{access_sound}
use Rattle.home_laws.proofs.Frames.{frames_home}
use Rattle.step_laws.proofs.Outcomes.{On, on_so, on_then, on_any, on_more}
use Rattle.step_laws.proofs.Homes.{HasLock, granted_home}
use Rattle.node_laws.specs.Nodes.{AreRights}
use Rattle.node_laws.proofs.Stored.{AreStored, Fits, home_fits, frames_fit}
use Rattle.node_laws.proofs.Shelves.{add_are, after_are, readers_are, spend_are}
use Rattle.node_laws.proofs.Works.{Base, IsHomeOf, IsHomeWork, on_is, stored_same}

-- the pages and the calls of another work
pub record StoresSame (v w : HomeWork) : Type 0 where
  pub pages : w.pages ≡ v.pages
  pub calls : w.calls ≡ v.calls

pub stores_are : (c : Sizes) (v w : HomeWork) → StoresSame v w → AreStored c v.pages v.calls → AreStored c w.pages w.calls
stores_are c v w same stored = stored_same c v w same.pages same.calls stored

bring_stores : (p version : ℕ) (image : Option (List ℕ)) (w : HomeWork) → On (StoresSame w) (bring p version image w)
unfolding bring
bring_stores p version image w = by (is_version (find w.home.pool p) version)
  where
    read_by : (at : PageAt) (b : Bool) → On (StoresSame w) (pick b (Goes (on_pool (λ pool. install pool p (clean_copy at)) w)) (Differs p version at.version))
    read_by at true = record { pages = refl; calls = refl }
    read_by at false = tt

    content : (o : Option (List ℕ)) → On (StoresSame w) (new_content p version o w)
    content (Some bytes) = record { pages = refl; calls = refl }
    content None =
        on_then (λ (x : PageAt). ⊤) (StoresSame w) (read_page w.pages p) (from_disk p version w) (on_any (read_page w.pages p))
        (λ at any. read_by at (at.version == version))

    by : (b : Bool) → On (StoresSame w) (unless_current b p version image w)
    by true = record { pages = refl; calls = refl }
    by false = content image

performed_stores : (t : TxId) (p : ℕ) (write : Option (ℕ × List ℕ)) (w : HomeWork) → StoresSame w (perform t p write w).work
unfolding perform
performed_stores t p None w = record { pages = refl; calls = refl }
performed_stores t p (Some write) w = record { pages = refl; calls = refl }

granted_stores : (t : TxId) (l : Held) (version : ℕ) (image : Option (List ℕ)) (w : HomeWork) → On (λ (g : Granted). StoresSame w g.work) (granted t l version image w)
unfolding granted
granted_stores t l version image w =
    on_so (StoresSame w) (λ (g : Granted). StoresSame w g.work) (bring l.page version image w) (locked t l (write_of (pending_of w.home.txs t))) (bring_stores l.page version image w)
    (λ x same.
    let next = performed_stores t l.page (write_of (pending_of w.home.txs t)) (record x { home = record (x.home) { txs = add x.home.txs t l } }) in
    record { pages = next.pages ∙ same.pages; calls = next.calls ∙ same.calls })

-- an open transaction's node and birth are those of its home
pub record NamesSame (a b : OpenTxs) : Type 0 where
  pub node : b.node ≡ a.node
  pub born : b.born ≡ a.born

add_names : (s : OpenTxs) (t : TxId) (l : Held) → NamesSame s (add s t l)
unfolding add
add_names s t l = record { node = refl; born = refl }

wait_names : (h : HomeState) (a : Access) → NamesSame h.txs (waiting a h).txs
unfolding wait
wait_names h a = record { node = refl; born = refl }

kinds_names : (ts : List TxId) (s : OpenTxs) (p : ℕ) (k : Kind) → NamesSame s (kinds_on s ts p k)
unfolding kinds_on set_kind
kinds_names [] s p k = record { node = refl; born = refl }
kinds_names (t ∷ ts) s p k = let rest = kinds_names ts (set_kind s t p k) p k in record { node = rest.node; born = rest.born }

module _ (b : Base) where
  -- a home with other transactions and rights
  pub home_of : (g h : HomeState) → h.config ≡ g.config → NamesSame g.txs h.txs → AreRights b.config h.shelf → IsHome h → IsHomeOf b g → IsHomeOf b h
  home_of g h config names rights is of =
      record {
        config = config ∙ of.config;
        number = names.node ∙ of.number;
        born = names.born ∙ of.born;
        home = is;
        rights = rights;
      }

  -- a page that is read has its size
  pub read_sized : (p : ℕ) (w : HomeWork) → IsPage b.config p → IsHomeWork b w → length (raw_page w.pages p) ≡ w.home.config.size + 16
  read_sized p w low is = is.stored.pages p low ∙ ap (λ (c : Sizes). c.size + 16) (sym is.home.config)

  -- a transaction of the node is granted what it waits for
  pub granted_good : (t : TxId) (l : Held) (version : ℕ) (image : Option (List ℕ)) (w : HomeWork) → waits_as (pending_of w.home.txs t) l.page l.mode ≡ true → is_right_kind l.kind ≡ false
      → IsImage w.home.config.size image → IsPage b.config l.page → IsHomeWork b w → On (λ (g : Granted). IsHomeWork b g.work) (granted t l version image w)
  granted_good t l version image w waits kind sized low is =
      on_is (λ (g : Granted). IsHomeWork b g.work) (granted t l version image w)
      (λ g e.
      let has : HasLock t l w.home g.work.home = subst (On (λ (g : Granted). HasLock t l w.home g.work.home)) e (granted_home t l version image w) in
      let stores : StoresSame w g.work = subst (On (λ (g : Granted). StoresSame w g.work)) e (granted_stores t l version image w) in
      let names = add_names w.home.txs t l in
      record {
        home =
            home_of w.home g.work.home has.config
            (record { node = ap (λ (s : OpenTxs). s.node) has.txs ∙ names.node; born = ap (λ (s : OpenTxs). s.born) has.txs ∙ names.born })
            (subst (AreRights b.config) (sym has.shelf) is.home.rights)
            (granted_sound t l version image w g is.home.home waits kind sized (λ other none. read_sized l.page w low is) e) is.home;
        stored = stores_are b.config w g.work stores is.stored;
      })

  -- a grant on arrival
  image_sized : (size : ℕ) (x : CopyPart) → IsCopy size x → IsImage size (image_of x)
  image_sized size part.Current is = tt
  image_sized size (part.Image bytes) is = is
  image_sized size part.OnDisk is = tt

  record Arrives (w : HomeWork) (a : Arrived) : Type 0 where
    config : a.work.home.config ≡ w.home.config
    names : NamesSame w.home.txs a.work.home.txs
    rights : AreRights b.config a.work.home.shelf
    stores : StoresSame w a.work

  arrives : (awaited : Bool) (g : Grant) (owned : Bool) (w : HomeWork) → AreRights b.config w.home.shelf → On (Arrives w) (arrive awaited g owned w)
  arrives false g owned w rights = record { config = refl; names = record { node = refl; born = refl }; rights = rights; stores = record { pages = refl; calls = refl } }
  arrives true g owned w rights =
      let l : Held = record { page = g.page; mode = g.mode; kind = kind_of owned g.right } in
      let next : HomeWork = record w { home = record (w.home) { shelf = readers_after g w.home.shelf } } in
      on_so (λ (x : Granted). Arrives w (arrived x)) (Arrives w) (granted g.tx l g.version (image_of g.copy) next) arrived
      (on_is (λ (x : Granted). Arrives w (arrived x)) (granted g.tx l g.version (image_of g.copy) next)
      (λ x e.
      let has : HasLock g.tx l next.home x.work.home = subst (On (λ (x : Granted). HasLock g.tx l next.home x.work.home)) e (granted_home g.tx l g.version (image_of g.copy) next) in
      let stores : StoresSame next x.work = subst (On (λ (x : Granted). StoresSame next x.work)) e (granted_stores g.tx l g.version (image_of g.copy) next) in
      let names = add_names w.home.txs g.tx l in
      record {
        config = has.config;
        names = record { node = ap (λ (s : OpenTxs). s.node) has.txs ∙ names.node; born = ap (λ (s : OpenTxs). s.born) has.txs ∙ names.born };
        rights = subst (AreRights b.config) (sym has.shelf) (readers_are b.config g w.home.shelf rights);
        stores = record { pages = stores.pages; calls = stores.calls };
      }))
      (λ x is. is)

  arrived_here : (g : Grant) (owned : Bool) (w : HomeWork) → IsPage b.config g.page → AreRights b.config w.home.shelf → On (Arrives w) (on_grant g owned w)
  unfolding on_grant
  arrived_here g owned w low rights =
      let next : HomeWork = record w { home = record (w.home) { shelf = shelf_after g w.home.shelf } } in
      on_more (Arrives next) (Arrives w) (arrive (waits_as (pending_of w.home.txs g.tx) g.page g.mode) g owned next)
      (λ a is. record { config = is.config; names = record { node = is.names.node; born = is.names.born }; rights = is.rights; stores = record { pages = is.stores.pages; calls = is.stores.calls } })
      (arrives (waits_as (pending_of w.home.txs g.tx) g.page g.mode) g owned next (after_are b.config g w.home.shelf low rights))

  pub grant_good : (g : Grant) (owned : Bool) (w : HomeWork) → IsPage b.config g.page → IsCopy b.config.size g.copy → IsHomeWork b w → On (λ (a : Arrived). IsHomeWork b a.work) (on_grant g owned w)
  grant_good g owned w low copy is =
      on_is (λ (a : Arrived). IsHomeWork b a.work) (on_grant g owned w)
      (λ a e.
      let arrives : Arrives w a = subst (On (Arrives w)) e (arrived_here g owned w low is.home.rights) in
      record {
        home =
            home_of w.home a.work.home arrives.config arrives.names arrives.rights
            (on_grant_sound g owned w a is.home.home (image_sized w.home.config.size g.copy (subst (λ (c : Sizes). IsCopy c.size g.copy) (sym is.home.config) copy)) (λ other none. read_sized g.page w low is) e)
            is.home;
        stored = stores_are b.config w a.work arrives.stores is.stored;
      })

  -- a revocation
  pub revoke_good : (p : ℕ) (h : HomeState) → IsHomeOf b h → IsHomeOf b (on_revoke p h).home
  unfolding on_revoke
  revoke_good p h of = by (right_on h.shelf p) (on_revoke_sound p h of.home)
    where
      by : (o : Option Right) → IsHome (answer_with p o h).home → IsHomeOf b (answer_with p o h).home
      by None is = of
      by (Some r) is =
          home_of h (spend_right kind.Registered p h) refl (kinds_names (readers_of (right_on h.shelf p)) h.txs p kind.Registered) (spend_are b.config h.shelf p of.rights) is of

  -- an access that isn't refused
  record Accesses (w : HomeWork) (x : HomeWork) : Type 0 where
    config : x.home.config ≡ w.home.config
    names : NamesSame w.home.txs x.home.txs
    rights : AreRights b.config x.home.shelf
    stores : StoresSame w x

  performs : (t : TxId) (p : ℕ) (write : Option (ℕ × List ℕ)) (w : HomeWork) → AreRights b.config w.home.shelf → Accesses w (perform t p write w).work
  unfolding perform
  performs t p None w rights = record { config = refl; names = record { node = refl; born = refl }; rights = rights; stores = record { pages = refl; calls = refl } }
  performs t p (Some write) w rights = record { config = refl; names = record { node = refl; born = refl }; rights = rights; stores = record { pages = refl; calls = refl } }

  accesses : (a : Access) (owned : Bool) (w : HomeWork) → AreRights b.config w.home.shelf → Accesses w (access_in a owned w).work
  unfolding access_in
  accesses a owned w rights = by (is_held a w.home) (is_allowed a owned w.home)
    where
      under : HomeWork
      under = record w { home = under_right a.tx a.page w.home }

      by : (x y : Bool)
          → Accesses w (pick x (now_done (perform a.tx a.page a.write w))
          (pick y (now_done (perform a.tx a.page None under)) (record { next = next_of a owned (find w.home.pool a.page); work = record w { home = waiting a w.home } }))).work
      by true y = performs a.tx a.page a.write w rights
      by false true =
          let names = add_names w.home.txs a.tx (record { page = a.page; mode = _; kind = kind.Right }) in
          let next = performs a.tx a.page None under (add_are b.config w.home.shelf a.page a.tx rights) in
          record {
            config = next.config;
            names = record { node = next.names.node ∙ names.node; born = next.names.born ∙ names.born };
            rights = next.rights;
            stores = record { pages = next.stores.pages; calls = next.stores.calls };
          }
      by false false = record { config = refl; names = wait_names w.home a; rights = rights; stores = record { pages = refl; calls = refl } }

  frames_stored : (a : Access) (w : HomeWork) → IsPage b.config a.page → IsHomeWork b w → AreStored b.config (take_frames a w).pages (take_frames a w).calls
  frames_stored a w low is =
      let same = is.home.config in
      let fits : Fits w.home.config w = home_fits w is.home.home (subst (λ (c : Sizes). AreStored c w.pages w.calls) (sym same) is.stored) in
      (frames_fit b.config a w low (subst (λ (c : Sizes). Fits c w) same fits)).stored

  pub access_good : (a : Access) (owned : Bool) (w : HomeWork) → access_refusal a w.home ≡ None → IsPage b.config a.page → IsHomeWork b w → IsHomeWork b (access a owned w).work
  unfolding access
  access_good a owned w allowed low is =
      let taken : HomeWork = take_frames a w in
      let same = frames_home a w in
      let here = accesses a owned taken (subst (AreRights b.config) (sym (ap (λ (h : HomeState). h.shelf) same)) is.home.rights) in
      record {
        home =
            home_of w.home (access_in a owned taken).work.home (here.config ∙ ap (λ (h : HomeState). h.config) same)
            (record { node = here.names.node ∙ ap (λ (h : HomeState). h.txs.node) same; born = here.names.born ∙ ap (λ (h : HomeState). h.txs.born) same })
            here.rights (access_sound a owned w is.home.home allowed) is.home;
        stored = stores_are b.config taken (access_in a owned taken).work here.stores (frames_stored a w low is);
      }
