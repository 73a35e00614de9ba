-- What is owed of the page once a transaction was closed, by what the end is to it.
use Rattle.std.proofs.Common.{◌≡◌, refl, sym, ap, subst, ◌∙◌, ℕ, suc, ◌==◌, ◌&&◌, ◌||◌, Bool, true, false, List, [], ◌∷◌, map, length, cond, Option, Some, None, is_some, arith, mod-lt}
use Rattle.std.specs.List.{filter}
use Rattle.std.proofs.lemmas.Bool.Decides.{nat_tests}
use Rattle.pcl_base.specs.Limits.{Sizes}
use Rattle.pcl_base.specs.declared.event.Event.{Event}
use Rattle.pcl_base.specs.declared.lock.Held.{Held}
use Rattle.pcl_base.specs.declared.lock.Kind.{Kind}
use Rattle.pcl_base.specs.declared.lock.Kind.TheVariants as kind
use Rattle.pcl_base.specs.declared.message.Change.{Change}
use Rattle.pcl_base.specs.declared.tx.Mode.TheVariants.{Exclusive}
use Rattle.pcl_base.specs.declared.tx.TxId.{TxId}
use Rattle.node_rules.specs.AccessRule.{bytes_or}
use Rattle.node_rules.specs.EndRule.{Ending, ending, endings, pages_at_end, kind_at_end, change_if, new_version, new_bytes, is_own_kind, registered_if}
use Rattle.node_rules.specs.InstallRule.{owned_before}
use Rattle.node_rules.specs.LockTable.{LockTable}
use Rattle.node_rules.specs.NodeState.{HomeState, NodeState, partition, table_at, table_of, number_of, is_serving}
use Rattle.node_rules.specs.OpenTxs.{held_by, pending_of, waits_on}
use Rattle.node_rules.specs.Work.{Work}
use Rattle.home_laws.specs.Homes.{IsHome, is_exclusive_lock, is_right_kind}
use Rattle.home_laws.proofs.Closed.{times_at_end}
use Rattle.home_laws.proofs.Serials.{one_if}
use Rattle.home_laws.proofs.Unpins.{times}
use Rattle.home_laws.proofs.Tests.{number_equal}
use Rattle.cluster_rules.specs.Clusters.{Cluster, node_at, version_of_change}
use Rattle.cluster_laws.specs.Sound.{IsMember}
use Rattle.cluster_laws.proofs.Steps.{up_is_member_law}
use Rattle.page_protocol.specs.Homes.{ended, ending as giving_up, committing_reads, committing}
use Rattle.page_protocol.specs.Bytes.{Ranges}
use Rattle.page_protocol.specs.State as machine
use Rattle.page_protocol.specs.State.{Home, Fresh, Holding, Ended, Page, IsFresh}
use Rattle.page_protocol.specs.Steps.{Reached}
use Rattle.page_protocol.proofs.Basics.{upd_same, updn_same}
use Rattle.page_relation.specs.Homes.{wait_on, IsOpenAs, KindFits, KindIn}
use Rattle.page_relation.specs.Messages.{ChangeHas}
use Rattle.page_relation.specs.Relation.{IsPageOf}
use Rattle.page_relation.specs.Work.Events.{IsEntered}
use Rattle.page_relation.specs.Work.Landing.{Acts, disk_of}
use Rattle.end_relation.specs.Owing.{OwesEnd, IsOwed, choose, IsAbsent, AreOwed}
use Rattle.end_relation.proofs.Changed.{touches, written_is_lock, exclusive_some}
use Rattle.end_relation.proofs.Copied.{slot_after, dirty_is}
use Rattle.end_relation.proofs.Overs.{MayClose, IsOverWork}
use Rattle.end_relation.proofs.Owed.{waits_same, told_if, entered_same, entered_elsewhere}
use Rattle.end_relation.proofs.Serving.{serving_is}
use Rattle.end_relation.proofs.Passing.{Passes, is_changed, is_read, is_given_up, is_unused, open_stand, next, image}

-- by the kind of a lock
kind_by : (owned : Bool) (n : ℕ) (t : TxId) (k : Kind) (change : Option Change) (a : Page) → (is_right_kind k ≡ true → (owned ≡ false) × IsEntered a) → (is_right_kind k ≡ false → OwesEnd n t change a)
    → IsOwed owned n t k change a
kind_by owned n t kind.Right change a right other = right refl
kind_by owned n t kind.Own change a right other = other refl
kind_by owned n t kind.Registered change a right other = other refl

-- who held the page under a right doesn't own it
right_held : (o : Option Held) (waits owned : Bool) → KindFits owned o → is_right_kind (kind_at_end o waits) ≡ true → owned ≡ false
right_held None waits owned fits is = absurd (cc)
right_held (Some l) waits owned fits is = of l.kind waits fits is
  where
    of : (k : Kind) (d : Bool) → is_own_kind k ≡ owned → is_right_kind (registered_if d k) ≡ true → owned ≡ false
    of kind.Own d fits is = absurd (cc)
    of kind.Registered d fits is = absurd (cc)
    of kind.Right d fits is = sym fits

-- a change that is there
change_is : (d : Bool) (v : ℕ) (bytes : List ℕ) (y : Change) → change_if d v bytes ≡ Some y → (y.version ≡ v) × (y.image ≡ bytes)
change_is true v bytes y e = let same : record { version = v; image = bytes } ≡ y = cc in (sym (ap (λ (z : Change). z.version) same), sym (ap (λ (z : Change). z.image) same))
change_is false v bytes y e = absurd (cc)

module _ (blank : List ℕ) (c : Cluster) (e : Event) (n p : ℕ) (s : NodeState) (b : Bool) (t : TxId) (acts : Acts c n) (up : node_at c n ≡ Some s) (mine : t.node ≡ n) (may : MayClose b s t) (x : Work)
    (is : IsOverWork b t c s x) (a : Page) (reached : Reached blank a) (r : IsPageOf c p a) (entered : IsEntered a) where
  abbrev owned : Bool
  owned = owned_before s.view (partition s.home.config p) (number_of s)

  -- the ending of the page
  abbrev last : Ending
  last = ending s.home t b p

  kinds : KindFits owned (held_by s.home.txs t p)
  kinds = subst (λ (o : Option NodeState). KindIn o t p) (ap (node_at c) mine ∙ up) (r.homes.kinds t)

  stand : IsOpenAs (held_by s.home.txs t p) (wait_on (pending_of s.home.txs t) p) (a.home t)
  stand = open_stand blank c n s t acts.cluster up mine b may p a reached r

  -- who told nothing of a change
  told_none : touches s.home t p ≡ true → is_right_kind last.kind ≡ false → (m : ℕ) → ended (a.home t) m ≡ Ended None m
  told_none touched other m =
      ap (λ (h : Home). ended h m) stand.1
      ∙ told_if (held_by s.home.txs t p) (wait_on (pending_of s.home.txs t) p) stand.0 m
      (ap (λ (d : Bool). is_some (held_by s.home.txs t p) || d) (waits_same (pending_of s.home.txs t) p) ∙ touched)
      (ap (λ (d : Bool). is_right_kind (kind_at_end (held_by s.home.txs t p) d)) (waits_same (pending_of s.home.txs t) p) ∙ other)

  change_off : (b && is_exclusive_lock (held_by s.home.txs t p)) ≡ false → last.change ≡ None
  change_off shared = ap (λ (d : Bool). change_if d (new_version s.home p) (new_bytes s.home t p)) (written_is_lock b t c s x may is p ∙ shared)

  -- a page that wasn't changed
  owes_none : (k : Page) → k.home t ≡ ended (a.home t) (a.reached t.node) → k.reached ≡ a.reached → IsEntered k → last.change ≡ None → touches s.home t p ≡ true → is_right_kind last.kind ≡ false
      → OwesEnd n t last.change k
  owes_none k home reach entry none touched other =
      record {
        mine = mine;
        ended =
            home ∙ told_none touched other (a.reached t.node) ∙ ap (λ (m : ℕ). Ended None (a.reached m)) mine
            ∙ (λ j. Ended (version_of_change (sym none j)) (sym reach j n));
        image = subst (ChangeHas k.hist) (sym none) tt;
        entered = λ off. entry;
        copy = λ y some. absurd (let bad : None ≡ Some y = sym none ∙ some in cc);
      }

  -- a page that was
  module _ (ranges : Ranges) (commits_it : b ≡ true) (locked : is_exclusive_lock (held_by s.home.txs t p) ≡ true) (holds : a.home t ≡ Holding Exclusive) where
    abbrev k : Page
    k = committing a t ranges

    dirty_now : k.dirty ≡ machine.pick (a.served && n == a.owner) true a.dirty
    dirty_now = dirty_is blank c e n p s t x acts up a r b reached mine may is commits_it locked holds ranges

    elsewhere : (a.served && n == a.owner) ≡ false → IsEntered k
    elsewhere off = entered_elsewhere blank a n t mine reached ranges dirty_now off entered

    change_on : last.change ≡ Some (record { version = new_version s.home p; image = new_bytes s.home t p })
    change_on =
        ap (λ (d : Bool). change_if d (new_version s.home p) (new_bytes s.home t p))
        (written_is_lock b t c s x may is p ∙ (λ j. commits_it j && locked j))

    version_is : new_version s.home p ≡ suc a.now
    version_is = next blank c n s t acts.cluster up mine b may p a reached r commits_it holds

    bytes_are : new_bytes s.home t p ≡ a.image t
    bytes_are = ap (λ (o : Option (List ℕ)). bytes_or o []) (image blank c n s t acts.cluster up mine b may p a reached r commits_it holds)

    home_is : k.home t ≡ Ended (Some (suc a.now)) (a.reached t.node)
    unfolding committing
    home_is = upd_same a.home t (Ended (Some (suc a.now)) (a.reached t.node))

    hist_is : k.hist (suc a.now) ≡ a.image t
    unfolding committing
    hist_is = updn_same a.hist (suc a.now) (a.image t)

    same_reached : k.reached ≡ a.reached
    unfolding committing
    same_reached = refl

    same_serving : (k.served && n == k.owner) ≡ (a.served && n == a.owner)
    unfolding committing
    same_serving = refl

    owes_some : OwesEnd n t last.change k
    owes_some =
        record {
          mine = mine;
          ended =
              home_is ∙ (λ j. Ended (Some (sym version_is j)) (a.reached (mine j)))
              ∙ (λ j. Ended (version_of_change (sym change_on j)) (sym same_reached j n));
          image = subst (ChangeHas k.hist) (sym change_on) (bytes_are ∙ sym hist_is ∙ ap k.hist (sym version_is));
          entered = λ off. elsewhere (sym same_serving ∙ (λ j. is_some (sym change_on j) && (k.served && n == k.owner)) ∙ off);
          copy = λ y some on here.
              let parts = change_is true (new_version s.home p) (new_bytes s.home t p) y (sym change_on ∙ some) in (
                dirty_now ∙ ap (λ (d : Bool). machine.pick d true a.dirty) (sym same_serving ∙ (λ j. on j && (own here) j)),
                slot_after blank c e n p s t x acts up a r b reached mine may is commits_it locked holds ranges
                    ∙ (λ j. Some (record { version = sym (parts.0 ∙ version_is) j; bytes = sym (parts.1 ∙ bytes_are) j })),
              );
        }
      where
        own : n ≡ k.owner → (n == k.owner) ≡ true
        own same = grind (arith, nat_tests, same)

  and_none : (d : Bool) → (d && false) ≡ false
  and_none true = refl
  and_none false = refl

  -- a page that isn't owned isn't served
  served_owned : owned ≡ false → (a.served && n == a.owner) ≡ false
  served_owned off =
      sym (serving_is c n p s a up r) ∙ ap (λ (k : Sizes). is_serving (table_at s (partition k p))) (sym member.config) ∙ by (table_of s p) refl
    where
      member : IsMember c.config c.views n s
      member = (up_is_member_law c n s acts.cluster up).1

      none : is_some (table_of s p) ≡ false
      none = member.sound.owned (partition s.home.config p) (mod-lt p (let some = member.sound.limits.some_nodes in omega (arith, some))) ∙ off

      by : (o : Option LockTable) → table_of s p ≡ o → is_serving o ≡ false
      by None there = refl
      by (Some y) there = absurd (let bad : true ≡ false = sym (ap (λ (o : Option LockTable). is_some o) there) ∙ none in cc)

  -- what is owed where the end is told
  pub owed : touches s.home t p ≡ true → (k : Page) → Passes c p t b (held_by s.home.txs t p) (disk_of c n x) a k → IsOwed owned n t last.kind last.change k
  unfolding committing_reads giving_up
  owed touched k (is_changed ranges commits_it locked holds some made long fits stored) =
      kind_by owned n t last.kind last.change (committing a t ranges)
      (λ right. (right_held (held_by s.home.txs t p) (waits_on (pending_of s.home.txs t) p) owned kinds right, elsewhere ranges commits_it locked holds (not_served right)))
      (λ other. owes_some ranges commits_it locked holds)
    where
      not_served : is_right_kind last.kind ≡ true → (a.served && n == a.owner) ≡ false
      not_served right = served_owned (right_held (held_by s.home.txs t p) (waits_on (pending_of s.home.txs t) p) owned kinds right)
  owed touched k (is_read commits_it shared granted none stored) =
      kind_by owned n t last.kind last.change (committing_reads a t)
      (λ right. (right_held (held_by s.home.txs t p) (waits_on (pending_of s.home.txs t) p) owned kinds right, entered_same a (committing_reads a t) refl refl refl refl entered))
      (λ other. owes_none (committing_reads a t) (upd_same a.home t (ended (a.home t) (a.reached t.node))) refl (entered_same a (committing_reads a t) refl refl refl refl entered)
      (change_off (ap (λ (d : Bool). b && d) shared ∙ and_none b)) touched other)
  owed touched k (is_given_up aborts begun stored) =
      kind_by owned n t last.kind last.change (giving_up a t)
      (λ right. (right_held (held_by s.home.txs t p) (waits_on (pending_of s.home.txs t) p) owned kinds right, entered_same a (giving_up a t) refl refl refl refl entered))
      (λ other. owes_none (giving_up a t) (upd_same a.home t (ended (a.home t) (a.reached t.node))) refl (entered_same a (giving_up a t) refl refl refl refl entered)
      (change_off (ap (λ (d : Bool). d && is_exclusive_lock (held_by s.home.txs t p)) aborts)) touched other)
  owed touched k (is_unused none empty free stored) =
      kind_by owned n t last.kind last.change a
      (λ right. (right_held (held_by s.home.txs t p) (waits_on (pending_of s.home.txs t) p) owned kinds right, entered))
      (λ other. absurd (fresh_untold (a.reached n) (sym (ap (λ (h : Home). ended h (a.reached n)) none) ∙ told_none touched other (a.reached n))))
    where
      fresh_untold : (m : ℕ) → ended Fresh m ≡ Ended None m → ⊥
      fresh_untold m e = absurd (cc)

  -- and where it isn't
  pub unowed : touches s.home t p ≡ false → (k : Page) → Passes c p t b (held_by s.home.txs t p) (disk_of c n x) a k → IsEntered k
  unfolding committing_reads giving_up
  unowed untouched k (is_changed ranges commits_it locked holds some made long fits stored) =
      absurd (let bad : true ≡ false = sym (ap (λ (d : Bool). d || waits_on (pending_of s.home.txs t) p) (exclusive_some (held_by s.home.txs t p) locked)) ∙ untouched in cc)
  unowed untouched k (is_read commits_it shared granted none stored) = entered_same a (committing_reads a t) refl refl refl refl entered
  unowed untouched k (is_given_up aborts begun stored) = entered_same a (giving_up a t) refl refl refl refl entered
  unowed untouched k (is_unused none empty free stored) = entered

-- ---- among all endings

absent_of : (h : HomeState) (t : TxId) (b : Bool) (p : ℕ) (ps : List ℕ) → times p ps ≡ 0 → IsAbsent p (map (ending h t b) ps)
absent_of h t b p [] none = tt
absent_of h t b p (q ∷ ps) none = by (q == p) refl none (absent_of h t b p ps)
  where
    by : (d : Bool) → (q == p) ≡ d → length (cond d (q ∷ filter (λ k. k == p) ps) (filter (λ k. k == p) ps)) ≡ 0 → (times p ps ≡ 0 → IsAbsent p (map (ending h t b) ps))
        → ((q == p) ≡ false) × IsAbsent p (map (ending h t b) ps)
    by true same some rest = absurd (omega (arith, some))
    by false other none rest = (other, rest none)

owed_among : (Before : Type 0) (owned : Bool) (n : ℕ) (t : TxId) (p : ℕ) (h : HomeState) (b : Bool) (a : Page) (ps : List ℕ) (touched : Bool) → times p ps ≡ one_if touched
    → (touched ≡ true → IsOwed owned n t (ending h t b p).kind (ending h t b p).change a) → Before → (touched ≡ false → IsEntered a) → AreOwed Before owned n t p (map (ending h t b) ps) a
owed_among Before owned n t p h b a [] true count some before none = absurd (let bad : 0 ≡ 1 = count in omega (arith, bad))
owed_among Before owned n t p h b a [] false count some before none = none refl
owed_among Before owned n t p h b a (q ∷ ps) touched count some before none = by (q == p) refl count (owed_among Before owned n t p h b a ps touched)
  where
    by : (d : Bool) → (q == p) ≡ d → length (cond d (q ∷ filter (λ k. k == p) ps) (filter (λ k. k == p) ps)) ≡ one_if touched
        → (times p ps ≡ one_if touched → (touched ≡ true → IsOwed owned n t (ending h t b p).kind (ending h t b p).change a) → Before → (touched ≡ false → IsEntered a) → AreOwed Before owned n t p (map (ending h t b) ps) a)
        → choose d (IsOwed owned n t (ending h t b q).kind (ending h t b q).change a × IsAbsent p (map (ending h t b) ps) × Before) (AreOwed Before owned n t p (map (ending h t b) ps) a)
    by true same one rest =
        let split = the_one touched one in (
          subst (λ (m : ℕ). IsOwed owned n t (ending h t b m).kind (ending h t b m).change a) (sym (number_equal q p same)) (some split.0),
          absent_of h t b p ps split.1,
          before,
        )
      where
        the_one : (d : Bool) → suc (times p ps) ≡ one_if d → (d ≡ true) × (times p ps ≡ 0)
        the_one true e = (refl, omega (arith, e))
        the_one false e = absurd (omega (arith, e))
    by false other count rest = rest count some before none

pub all_owed : (Before : Type 0) (owned : Bool) (n : ℕ) (t : TxId) (p : ℕ) (h : HomeState) (b : Bool) (a : Page) → IsHome h → (touches h t p ≡ true → IsOwed owned n t (ending h t b p).kind (ending h t b p).change a)
    → Before → (touches h t p ≡ false → IsEntered a) → AreOwed Before owned n t p (endings h t b) a
unfolding endings
all_owed Before owned n t p h b a is some before none = owed_among Before owned n t p h b a (pages_at_end h t) (touches h t p) (times_at_end h t p is) some before none
