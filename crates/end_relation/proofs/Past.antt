-- The page once a transaction was closed, by what the end is to it.
use Rattle.std.proofs.Common.{◌≡◌, ◌⊎◌, inl, inr, refl, sym, ap, subst, ◌∙◌, ℕ, suc, ◌<◌, ◌^◌, ◌&&◌, Bool, true, false, List, length, Option, Some, arith}
use Rattle.pcl_base.specs.declared.event.Event.{Event}
use Rattle.pcl_base.specs.declared.tx.Mode.TheVariants.{Exclusive}
use Rattle.pcl_base.specs.declared.tx.TxId.{TxId}
use Rattle.run_rules.specs.Now.{now}
use Rattle.node_rules.specs.NodeState.{NodeState}
use Rattle.node_rules.specs.OpenTxs.{held_by}
use Rattle.node_rules.specs.Words.{same_tx}
use Rattle.node_rules.specs.Work.{Work}
use Rattle.home_laws.specs.Homes.{is_exclusive_lock}
use Rattle.home_laws.proofs.Tests.{tx_equal, tx_same}
use Rattle.cluster_rules.specs.Clusters.{Cluster}
use Rattle.cluster_laws.specs.Handed.{IsHanded}
use Rattle.cluster_laws.specs.Sound.{IsCluster}
use Rattle.cluster_laws.proofs.Steps.{up_is_member_law}
use Rattle.cluster_laws.specs.Link.Coming.{coming}
use Rattle.page_laws.specs.Moment.Looks.{accesses_in, HasPage}
use Rattle.page_protocol.specs.Bytes.{Ranges}
use Rattle.page_protocol.specs.Homes.{ended, ending, committing_reads, committing}
use Rattle.page_protocol.specs.State as machine
use Rattle.page_protocol.specs.State.{Home, Fresh, Asking, Holding, HoldingAsks, Reading, ReadingAsks, Ended, Gone, Free, Registered, lock_of, Page, current, IsFresh, IsGranted}
use Rattle.page_protocol.specs.Steps.{Reached}
use Rattle.page_protocol.proofs.Basics.{by_tx_else, by_node, same_tx_refl, updn_other}
use Rattle.page_protocol.proofs.Keeps.{reached_holds}
use Rattle.page_protocol.proofs.Promises.{alone_law}
use Rattle.page_relation.specs.Relation.{HistoryIs, CopiesAre, IsPageOf}
use Rattle.page_laws.specs.Storage.Looks.{IsStored}
use Rattle.page_relation.proofs.LossParts.Lost.{IsClosing, HomeAfter}
use Rattle.page_relation.specs.Work.Landing.{land, trace_of, disk_of, Acts}
use Rattle.end_relation.specs.Over.{event_of}
use Rattle.end_relation.proofs.Changed.{unwritten_copy}
use Rattle.end_relation.proofs.Closed.{page_over}
use Rattle.end_relation.proofs.Closing.{Part, with_part, part_of, IsEndOf, standing_over}
use Rattle.end_relation.proofs.Copied.{copies_kept, copies_changed}
use Rattle.end_relation.proofs.Overs.{MayClose, IsOverWork}
use Rattle.end_relation.proofs.Passing.{Passes, is_changed, is_read, is_given_up, is_unused}
use Rattle.end_relation.proofs.Traced.{end_coming}

-- ---- what becomes of the home

wrote_closes : (change : Option ℕ) (e : ℕ) (h : Home) → h ≡ Holding Exclusive → IsClosing h (Ended change e)
wrote_closes change e h holds =
    record {
      closed = tt;
      fresh = λ f. absurd (subst IsFresh holds f);
      begun = λ f. absurd f;
      ended = λ c k is. absurd (apart (sym holds ∙ is));
    }
  where
    apart : {c : Option ℕ} {k : ℕ} → Holding Exclusive ≡ Ended c k → ⊥
    apart e = absurd (cc)

begun_closes : (h : Home) (e : ℕ) → (IsFresh h → ⊥) → IsClosing h (ended h e)
begun_closes Fresh e begun = absurd (begun tt)
begun_closes (Asking m have) e begun = record { closed = tt; fresh = λ f. absurd f; begun = λ f. absurd f; ended = λ c k is. absurd (cc) }
begun_closes (Holding m) e begun = record { closed = tt; fresh = λ f. absurd f; begun = λ f. absurd f; ended = λ c k is. absurd (cc) }
begun_closes HoldingAsks e begun = record { closed = tt; fresh = λ f. absurd f; begun = λ f. absurd f; ended = λ c k is. absurd (cc) }
begun_closes Reading e begun = record { closed = tt; fresh = λ f. absurd f; begun = λ f. absurd f; ended = λ c k is. absurd (cc) }
begun_closes ReadingAsks e begun = record { closed = tt; fresh = λ f. absurd f; begun = λ f. absurd f; ended = λ c k is. absurd (cc) }
begun_closes (Ended change f) e begun = record { closed = tt; fresh = λ g. absurd g; begun = λ g. absurd g; ended = λ c k is. is }
begun_closes Gone e begun = record { closed = tt; fresh = λ f. absurd f; begun = λ f. absurd f; ended = λ c k is. absurd (cc) }

fresh_closes : (h : Home) → h ≡ Fresh → IsClosing h h
fresh_closes h is = subst (λ (k : Home). IsClosing k k) (sym is) (record { closed = tt; fresh = λ f. f; begun = λ f. f; ended = λ c k at. absurd (cc) })

granted_begun : (h : Home) → IsGranted h → IsFresh h → ⊥
granted_begun Fresh g f = g
granted_begun (Asking m have) g f = g
granted_begun (Holding m) g f = f
granted_begun HoldingAsks g f = g
granted_begun Reading g f = f
granted_begun ReadingAsks g f = g
granted_begun (Ended change e) g f = g
granted_begun Gone g f = g

other_tx : (u t : TxId) → machine.same_tx u t ≡ false → same_tx u t ≡ false
other_tx u t other = by (same_tx u t) refl
  where
    by : (b : Bool) → same_tx u t ≡ b → b ≡ false
    by true is =
        let bad : true ≡ false = sym (same_tx_refl t) ∙ ap (λ (v : TxId). machine.same_tx v t) (sym (tx_equal u t is)) ∙ other in
        absurd (cc)
    by false is = refl

-- the home of one transaction is another one
home_after : (home : TxId → Home) (t : TxId) (k : Home) → IsClosing (home t) k → (u : TxId) → HomeAfter (same_tx u t) (home u) (machine.upd home t k u)
home_after home t k closing u =
    by_tx_else (λ v h. HomeAfter (same_tx v t) (home v) h) t u k (home u)
    (subst (λ (b : Bool). HomeAfter b (home t) k) (sym (tx_same t)) closing)
    (λ other. subst (λ (b : Bool). HomeAfter b (home u) (home u)) (sym (other_tx u t other)) refl)

-- no home changes
home_same : (home : TxId → Home) (t : TxId) → IsClosing (home t) (home t) → (u : TxId) → HomeAfter (same_tx u t) (home u) (home u)
home_same home t closing u = by (same_tx u t) refl
  where
    by : (b : Bool) → same_tx u t ≡ b → HomeAfter b (home u) (home u)
    by true is = subst (λ (v : TxId). IsClosing (home v) (home v)) (sym (tx_equal u t is)) closing
    by false is = refl

history_changed : (c : Cluster) (e : Event) (n p : ℕ) (x : Work) (t : TxId) (ranges : Ranges) (a : Page) → IsPageOf c p a → HasPage (now c.config (trace_of c e n x)) p (current (committing a t ranges))
    → length (a.image t) ≡ c.config.size → suc a.now < 2 ^ 64 → HistoryIs (land c e n x) p (committing a t ranges).hist (current (committing a t ranges))
unfolding committing land
history_changed c e n p x t ranges a r has long fits =
    record {
      now_same = has;
      below = fits;
      sizes = λ v. by_node (λ k (y : List ℕ). length y ≡ c.config.size) (suc a.now) v (a.image t) (a.hist v) long (r.history.sizes v);
    }

history_kept : (c : Cluster) (e : Event) (n p : ℕ) (x : Work) (a : Page) → IsPageOf c p a → HasPage (now c.config (trace_of c e n x)) p (current a) → HistoryIs (land c e n x) p a.hist (current a)
unfolding land
history_kept c e n p x a r has = record { now_same = has; below = r.history.below; sizes = r.history.sizes }

both_false : (b d : Bool) → d ≡ false → (b && d) ≡ false
both_false true d e = e
both_false false d e = refl

module _ (blank : List ℕ) (c : Cluster) (e : Event) (n p : ℕ) (s : NodeState) (b : Bool) (t : TxId) (i : IsCluster c) (h : IsHanded c e n s (event_of b t)) (acts : Acts c n) (mine : t.node ≡ n)
    (may : MayClose b s t) (x : Work) (is : IsOverWork b t c s x) (a : Page) (reached : Reached blank a) (r : IsPageOf c p a) where
  same_links : (y z : ℕ) → coming (land c e n x) p y z ≡ coming c p y z
  same_links = end_coming c e n s b t i h p x (standing_over t s x is.over) is.replies is.sends

  -- beside a writer nobody else writes
  alone : a.home t ≡ Holding Exclusive → (u : TxId) → same_tx u t ≡ false → a.home u ≡ Holding Exclusive → ⊥
  alone holds u other at = by ((alone_law blank a (reached_holds blank a reached) t holds).0 u)
    where
      by : (lock_of (a.home u) ≡ Free) ⊎ (u ≡ t) → ⊥
      by (inl free) = let bad : Registered Exclusive ≡ Free = sym (ap lock_of at) ∙ free in absurd (cc)
      by (inr same) = let bad : true ≡ false = sym (tx_same t) ∙ ap (λ (v : TxId). same_tx v t) (sym same) ∙ other in absurd (cc)

  end_changed : (ranges : Ranges) → b ≡ true → is_exclusive_lock (held_by s.home.txs t p) ≡ true → a.home t ≡ Holding Exclusive → length (a.image t) ≡ c.config.size → suc a.now < 2 ^ 64
      → IsStored c.config (disk_of c n x) p (committing a t ranges).disk (committing a t ranges).log → HasPage (now c.config (trace_of c e n x)) p (current (committing a t ranges))
      → ((u : TxId) → a.script u ≡ accesses_in u p (trace_of c e n x)) → IsEndOf c e n p t x a (part_of (committing a t ranges))
  unfolding committing
  end_changed ranges commits_it locked holds long fits stored has scripts =
      record {
        history = history_changed c e n p x t ranges a r has long fits;
        stored = stored;
        copies = copies_changed blank c e n p s t x acts h.up a r b reached mine may is commits_it locked holds ranges;
        scripts = scripts;
        homes = home_after a.home t (Ended (Some (suc a.now)) (a.reached t.node)) (wrote_closes (Some (suc a.now)) (a.reached t.node) (a.home t) holds);
        page_same = λ u other at. absurd (alone holds u other at);
        hist_same = λ v le. updn_other a.hist (suc a.now) v (a.image t) (λ same. omega (arith, same, le));
        coming_same = same_links;
      }

  end_kept : (k : Page) → k.now ≡ a.now → k.hist ≡ a.hist → k.log ≡ a.log → k.slot ≡ a.slot → k.dirty ≡ a.dirty → (b && is_exclusive_lock (held_by s.home.txs t p)) ≡ false
      → IsStored c.config (disk_of c n x) p a.disk a.log → HasPage (now c.config (trace_of c e n x)) p (current a) → ((u : TxId) → a.script u ≡ accesses_in u p (trace_of c e n x))
      → ((u : TxId) → HomeAfter (same_tx u t) (a.home u) (k.home u)) → IsEndOf c e n p t x a (part_of k)
  end_kept k now_same hist_same log_same slot_same dirty_same shared stored has scripts homes =
      record {
        history =
            (let to : HistoryIs (land c e n x) p a.hist (current a) ≡ HistoryIs (land c e n x) p k.hist (current k) =
            (λ j. HistoryIs (land c e n x) p (sym hist_same j) (record { version = sym now_same j; bytes = sym hist_same j (sym now_same j) })) in
            subst (λ (X : Type 0). X) to (history_kept c e n p x a r has));
        stored = subst (λ l. IsStored c.config (disk_of c n x) p a.disk l) (sym log_same) stored;
        copies =
            (let to : CopiesAre (land c e n x) p a.slot a.owner a.dirty ≡ CopiesAre (land c e n x) p k.slot a.owner k.dirty = (λ j. CopiesAre (land c e n x) p (sym slot_same j) a.owner (sym dirty_same j)) in
            subst (λ (X : Type 0). X) to (copies_kept blank c e n p s t x acts h.up a r (unwritten_copy b t c s x may is p shared)));
        scripts = scripts;
        homes = homes;
        page_same = λ u other at. (λ j. hist_same j (now_same j));
        hist_same = λ v le. ap (λ (f : ℕ → List ℕ). f v) hist_same;
        coming_same = same_links;
      }

  over_part : (k : Part) → IsEndOf c e n p t x a k → IsPageOf (land c e n x) p (with_part a k)
  over_part k end =
      page_over blank c e n p t s x a k acts h.up is.over (up_is_member_law c n s i h.up).1.number end (reached_holds blank a reached) r

  -- the relation with the state that the end leads to
  pub page_past : (k : Page) → Passes c p t b (held_by s.home.txs t p) (disk_of c n x) a k → HasPage (now c.config (trace_of c e n x)) p (current k)
      → ((u : TxId) → a.script u ≡ accesses_in u p (trace_of c e n x)) → IsPageOf (land c e n x) p k
  unfolding committing committing_reads ending
  page_past k (is_changed ranges commits_it locked holds some made long fits stored) has scripts =
      over_part (part_of (committing a t ranges)) (end_changed ranges commits_it locked holds long fits stored has scripts)
  page_past k (is_read commits_it shared granted none stored) has scripts =
      over_part (part_of (committing_reads a t))
      (end_kept (committing_reads a t) refl refl refl refl refl (both_false b (is_exclusive_lock (held_by s.home.txs t p)) shared) stored has scripts
      (home_after a.home t (ended (a.home t) (a.reached t.node)) (begun_closes (a.home t) (a.reached t.node) (granted_begun (a.home t) granted))))
  page_past k (is_given_up aborts begun stored) has scripts =
      over_part (part_of (ending a t))
      (end_kept (ending a t) refl refl refl refl refl (ap (λ (d : Bool). d && is_exclusive_lock (held_by s.home.txs t p)) aborts) stored has scripts
      (home_after a.home t (ended (a.home t) (a.reached t.node)) (begun_closes (a.home t) (a.reached t.node) begun)))
  page_past k (is_unused none empty free stored) has scripts =
      over_part (part_of a)
      (end_kept a refl refl refl refl refl (both_false b (is_exclusive_lock (held_by s.home.txs t p)) (ap is_exclusive_lock free)) stored has scripts (home_same a.home t (fresh_closes (a.home t) none)))
