-- A change that a release brings, and where it goes.
use Rattle.std.proofs.Common.{◌≡◌, refl, sym, ap, subst, ◌∙◌, ℕ, ◌+◌, ◌≤◌, ◌==◌, ◌&&◌, not, cond, Bool, true, false, List, [], ◌∷◌, ◌++◌, Option, Some, arith, eqb-true}
use Rattle.std.specs.List.{AllByRecursion, filter}
use Rattle.std.proofs.lemmas.Bool.Decides.{nat_tests}
use Rattle.pcl_base.specs.Limits.{Sizes}
use Rattle.pcl_base.specs.declared.lock.Verdict.{Verdict}
use Rattle.pcl_base.specs.declared.lock.Verdict.TheVariants as verdict
use Rattle.pcl_base.specs.declared.message.Body.{Body}
use Rattle.pcl_base.specs.declared.message.Body.TheVariants as body
use Rattle.pcl_base.specs.declared.message.Change.{Change}
use Rattle.pcl_base.specs.declared.message.Message.{Message}
use Rattle.pcl_base.specs.declared.message.Release.{Release}
use Rattle.pcl_base.specs.declared.tx.TxId.{TxId}
use Rattle.text_rules.specs.StoredPage.{stored_bytes}
use Rattle.run_rules.specs.Views.{View}
use Rattle.node_rules.specs.AccessRule.{on_pool, make_room}
use Rattle.node_rules.specs.BufferRule.{has_slot, free_frames, place}
use Rattle.node_rules.specs.DiskCalls.{DiskCall, WritePage}
use Rattle.node_rules.specs.Judging.{judge}
use Rattle.node_rules.specs.LockRule.{LockEntry, takes_change, holds_alone, mode_of}
use Rattle.node_rules.specs.LockTable.{LockTable, entry_at}
use Rattle.node_rules.specs.NodeState.{NodeState, number_of, partition, table_of, table_at}
use Rattle.node_rules.specs.OwnerRule.{dirty_copy, has_room, into_slot, put_change}
use Rattle.node_rules.specs.Words.{pick}
use Rattle.node_rules.specs.Work.{HomeWork, Work, Outcome, write_page}
use Rattle.rule_laws.proofs.Turns.{and_right}
use Rattle.step_laws.proofs.Outcomes.{On, on_more}
use Rattle.cluster_rules.specs.Clusters.{Cluster, node_at, last_view, version_of_change as cluster_version}
use Rattle.cluster_rules.specs.Links.{link_at}
use Rattle.cluster_laws.specs.Sound.{IsMember, IsCluster}
use Rattle.cluster_laws.proofs.Steps.{up_is_member_law}
use Rattle.cluster_laws.specs.Era.Counts.{is_dropped, counts_at, counts_in}
use Rattle.cluster_laws.specs.Era.Eras.{era_in, era_at}
use Rattle.cluster_laws.specs.Link.Coming.{speaks_of, is_coming, coming}
use Rattle.page_protocol.specs.Invariant.{Inv, ChangeIs}
use Rattle.page_protocol.specs.State.{Ended, Page}
use Rattle.page_relation.specs.Messages.{ChangeHas, SaysSo}
use Rattle.page_relation.specs.Relation.{IsPageOf, MessageIs}
use Rattle.page_relation.specs.Tables.{IsServed, TableIs, TableIn, TableOf}
use Rattle.page_relation.specs.Loss.Writes.{MayWrite, elsewhere, versions}
use Rattle.page_relation.proofs.LossParts.Counting.{both_all, coming_eras}
use Rattle.page_relation.proofs.LossParts.Dirty.{rise_first, IsOurs, dirty_is_ours, Safe, not_yet, safe_writes, room_safe}

-- ---- a change that was taken

module _ (a : Page) (p n : ℕ) where
  -- where a change goes
  pub changed_may : (q : ℕ) (c : Change) (w : HomeWork) → Safe a p n w → w.calls ≡ [] → (q ≡ p → IsOurs a p n (dirty_copy c)) → MayWrite a p n (put_change q c w).calls
  changed_may q c w safe none ours = by (has_slot w.home.pool q) (free_frames w.home.pool == 0) (has_room q w)
    where
      at_once : (b : Bool) → (q == p) ≡ b → MayWrite a p n (w.calls ++ WritePage q (stored_bytes q (record { version = c.version; bytes = c.image })) ∷ [])
      at_once true e =
          let same : q ≡ p = eqb-true q p e in
          let mine : IsOurs a p n (dirty_copy c) = ours same in
          subst (λ (xs : List DiskCall). MayWrite a p n (xs ++ WritePage q (stored_bytes q (record { version = c.version; bytes = c.image })) ∷ [])) (sym none)
          (subst (λ (k : ℕ). MayWrite a p n (WritePage k (stored_bytes k (record { version = c.version; bytes = c.image })) ∷ [])) (sym same)
          (versions (λ on. mine.own) (rise_first a.hist a.now p a.disk.version c.version (stored_bytes p (record { version = c.version; bytes = c.image })) [] mine.version tt)))
      at_once false e =
          subst (λ (xs : List DiskCall). MayWrite a p n (xs ++ WritePage q (stored_bytes q (record { version = c.version; bytes = c.image })) ∷ [])) (sym none)
          (elsewhere (λ same. grind (arith, nat_tests, e, same), tt))

      by : (x y z : Bool) → MayWrite a p n (pick x (into_slot q c w) (pick y (pick z (into_slot q c (on_pool (λ b. place b q) (make_room q w))) (write_page q (record { version = c.version; bytes = c.image }) w)) (into_slot q c (on_pool (λ b. place b q) w)))).calls
      by true y z = safe_writes a p n w safe
      by false true true = safe_writes a p n (make_room q w) (room_safe a p n q w safe)
      by false true false = at_once (q == p) refl
      by false false z = safe_writes a p n w safe

  pub same_may : (K : List DiskCall) (o : Outcome Work) → MayWrite a p n K → On (λ (w : Work). w.calls ≡ K) o → On (λ (w : Work). MayWrite a p n w.calls) o
  same_may K o may on = on_more (λ (w : Work). w.calls ≡ K) (λ (w : Work). MayWrite a p n w.calls) o (λ w same. subst (MayWrite a p n) (sym same) may) on

-- ---- the steps

-- a home before a step has written nothing, and its dirty copies are the owner's
pub start_safe : (blank : List ℕ) (c : Cluster) (n p : ℕ) (s : NodeState) (a : Page) (pages : List (List ℕ)) → Inv blank a → IsPageOf c p a → node_at c n ≡ Some s → Safe a p n (record { home = s.home; pages = pages; calls = [] })
start_safe blank c n p s a pages inv r up = not_yet tt (λ x at marked. dirty_is_ours blank c n p s a x inv r up at marked)

-- the change of a release that counts
module _ (blank : List ℕ) (c : Cluster) (n p from : ℕ) (s : NodeState) (a : Page) (i : IsCluster c) (up : node_at c n ≡ Some s) (inv : Inv blank a) (is : IsPageOf c p a) where
  member : IsMember c.config c.views n s
  member = (up_is_member_law c n s i up).1

  -- the message at the head of the link
  head_says : (m : Message) (ms : List Message) → link_at c.links from n ≡ m ∷ ms → is_coming c.config p from (node_at c n) m ≡ true
      → MessageIs c p (partition c.config p) a from n m × (a.era ≤ era_at c (partition c.config p) m.epoch)
  unfolding coming
  head_says m ms link comes =
      let all : AllByRecursion (λ (x : Message). MessageIs c p (partition c.config p) a from n x × ((x.epoch ≤ (last_view c).epoch) × (a.era ≤ era_at c (partition c.config p) x.epoch))) (coming c p from n) =
      both_all (MessageIs c p (partition c.config p) a from n) (λ (x : Message). (x.epoch ≤ (last_view c).epoch) × (a.era ≤ era_at c (partition c.config p) x.epoch)) (coming c p from n)
      (is.links.say from n) (coming_eras c p a.era from n (a.reached n) i (is.nodes.eras n)) in
      let first = (subst (AllByRecursion (λ (x : Message). MessageIs c p (partition c.config p) a from n x × ((x.epoch ≤ (last_view c).epoch) × (a.era ≤ era_at c (partition c.config p) x.epoch))))
      (ap (filter (is_coming c.config p from (node_at c n))) link ∙ ap (λ (b : Bool). cond b (m ∷ filter (is_coming c.config p from (node_at c n)) ms) (filter (is_coming c.config p from (node_at c n)) ms)) comes) all).0 in
      (first.0, first.1.1)

  -- what is taken is the next version of the page
  taken_is_next : (e : LockEntry) (t : TxId) (v : ℕ) → takes_change e t (Some v) ≡ true → v ≡ e.version + 1
  unfolding takes_change
  taken_is_next e t v taken = eqb-true v (e.version + 1) (and_right (holds_alone (mode_of e.holders t)) (v == e.version + 1) taken)

  -- so it is the owner's, where the table serves
  change_ours : (r : Release) (x : Change) (era k : ℕ) (t : LockTable) → r.change ≡ Some x → a.era ≤ era → SaysSo a.era a.hist a.reached a.listed a.right a.home a.sent p from n era (body.Release r)
      → IsServed a.served a.owner a.era a.entry a.listed a.right a.reached a.home n k (entry_at t p) → takes_change (entry_at t p) r.tx (Some x.version) ≡ true → IsOurs a p n (dirty_copy x)
  change_ours r x era k t has le says served taken =
      record {
        own = sym served.here;
        version =
            record {
              least = (let next = taken_is_next (entry_at t p) r.tx x.version taken in let same = served.version in let low = inv.kept_holds.disk_behind served.serves in omega (arith, next, same, low));
              most = (let now = current in omega (arith, now));
              made = ap (λ (b : List ℕ). stored_bytes p (record { version = x.version; bytes = b })) image;
            };
      }
    where
      ended : a.home r.tx ≡ Ended (Some x.version) era
      ended = says.0 ∙ ap (λ (o : Option Change). Ended (cluster_version o) era) has

      current : x.version ≡ a.now
      current = subst (ChangeIs a.era a.now) ended (inv.entry_holds.changes r.tx) le

      image : x.image ≡ a.hist x.version
      image = subst (ChangeHas a.hist) has says.1

  -- ---- a release

  module _ (m : Message) (ms : List Message) (r : Release) (link : link_at c.links from n ≡ m ∷ ms) (body_is : m.body ≡ body.Release r) (v : View) (own : s.view ≡ Some v)
      (judged : judge v (number_of s) from m.epoch (partition s.home.config r.page) ≡ verdict.Taken) (here : r.page ≡ p) where
    counted : counts_in (node_at c n) from (partition c.config p) m.epoch ≡ true
    counted =
        ap (λ (o : Option NodeState). counts_in o from (partition c.config p) m.epoch) up
        ∙ ap (λ (o : Option View). counts_at s o from (partition c.config p) m.epoch) own
        ∙ ap (λ (q : ℕ). not (is_dropped (judge v (number_of s) from m.epoch q))) (sym (ap (λ (k : Sizes). partition k r.page) member.config ∙ ap (partition c.config) here))
        ∙ ap (λ (x : Verdict). not (is_dropped x)) judged

    comes : is_coming c.config p from (node_at c n) m ≡ true
    comes =
        ap (λ (b : Body). speaks_of c.config p b && counts_in (node_at c n) from (partition c.config p) m.epoch) body_is
        ∙ ap (λ (b : Bool). b && counts_in (node_at c n) from (partition c.config p) m.epoch) (let same : (r.page == p) ≡ true = grind (arith, nat_tests, here) in same)
        ∙ counted

    pub release_ours : (t : LockTable) (x : Change) → table_of s r.page ≡ Some t → t.serving ≡ true → r.change ≡ Some x → takes_change (entry_at t r.page) r.tx (Some x.version) ≡ true → IsOurs a p n (dirty_copy x)
    release_ours t x at on has taken =
        let says = head_says m ms link comes in
        change_ours r x (era_at c (partition c.config p) m.epoch) (era_in s.view (partition c.config p)) t has says.1
        (subst (SaysSo a.era a.hist a.reached a.listed a.right a.home a.sent p from n (era_at c (partition c.config p) m.epoch)) body_is says.0)
        served (subst (λ (k : ℕ). takes_change (entry_at t k) r.tx (Some x.version) ≡ true) here taken)
      where
        there : table_at s (partition c.config p) ≡ Some t
        there = ap (table_at s) (sym (ap (λ (k : Sizes). partition k r.page) member.config ∙ ap (partition c.config) here)) ∙ at

        served : IsServed a.served a.owner a.era a.entry a.listed a.right a.reached a.home n (era_in s.view (partition c.config p)) (entry_at t p)
        served =
            subst (λ (b : Bool). TableIs a p n (era_in s.view (partition c.config p)) b t) on
            (subst (TableIn a p n (era_in s.view (partition c.config p))) there (subst (TableOf a p (partition c.config p) n) up (is.tables.tables n)))
