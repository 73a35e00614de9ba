-- The end of a transaction: what is left of it, and the copies that it leaves.
use Rattle.std.proofs.Common.{◌≡◌, ℕ, ◌==◌, ◌&&◌, ◌||◌, not, cond, Bool, true, false, List, [], ◌∷◌, length, Option, Some, None, is_some, refl, sym, ap, subst, ◌∙◌}
use Rattle.std.specs.Prelude.{option_map}
use Rattle.std.specs.List.{fold, filter, list_any}
use Rattle.pcl_base.specs.declared.tx.TxId.{TxId}
use Rattle.node_rules.specs.Words.{pick, same_tx, among}
use Rattle.node_rules.specs.OpenTxs.{OpenTx, OpenTxs, open_at, is_open, held_by, close_tx}
use Rattle.node_rules.specs.Shelf.{Right, right_on, readers_of, end_reader}
use Rattle.node_rules.specs.BufferRule.{Pool, Slot, Copy, PrivateCopy, copy_at, copy_of_slot, private_in, private_at, private_bytes, bytes_of_private, change_slot, published, publish, discard}
use Rattle.node_rules.specs.NodeState.{HomeState}
use Rattle.node_rules.specs.Work.{HomeWork}
use Rattle.node_rules.specs.EndRule.{pages_at_end, pages_written, is_own_lock, publish_all, discard_all, closed, abort, commit, force_if, commit_record}
use Rattle.text_rules.specs.LogRecord.{record_bytes}
use Rattle.home_laws.proofs.Tests.{number_same, number_equal, number_turned, tx_same, tx_equal}
use Rattle.home_laws.proofs.Opens.{open_closed}
use Rattle.home_laws.proofs.Pools.{PoolIs, pool_of_home, all_discarded_is}
use Rattle.home_laws.proofs.Privates.{discarded, all_discarded, not_discarded}
use Rattle.home_laws.proofs.Publishes.{with_published, unpublished}
use Rattle.home_laws.proofs.Unpins.{copy_unpins, privates_unpins}
use Rattle.home_laws.proofs.Closed.{held_closed, pending_closed}
use Rattle.home_laws.proofs.Readers.{ended_at, readers_ended, runs_ended}
use Rattle.home_laws.proofs.EndSteps.{publish_all_follows}
use Rattle.home_laws.proofs.EndNeeds.{is_written_is}
use Rattle.home_laws.proofs.Rights.{right_here, right_there}
use Rattle.page_laws.specs.Look.Ends.{version_of_right, IsWithoutTx, AbortIsSeen, CommitIsSeen}
use Rattle.page_laws.proofs.LookParts.Alike.{copy_changed}

-- the rights after a reader ended
end_version : (rs : List Right) (t : TxId) (q p : ℕ) → version_of_right (right_on (end_reader rs q t) p) ≡ version_of_right (right_on rs p)
unfolding end_reader
end_version rs t q p = by (q == p) refl
  where
    mapped : (o : Option Right) → version_of_right (option_map (λ (r : Right). record r { readers = filter (λ u. not (same_tx u t)) r.readers }) o) ≡ version_of_right o
    mapped None = refl
    mapped (Some r) = refl

    by : (b : Bool) → (q == p) ≡ b → version_of_right (right_on (end_reader rs q t) p) ≡ version_of_right (right_on rs p)
    by true e =
        subst (λ n. version_of_right (right_on (end_reader rs q t) n) ≡ version_of_right (right_on rs n)) (number_equal q p e)
        (ap version_of_right (right_here (λ (r : Right). record r { readers = filter (λ u. not (same_tx u t)) r.readers }) (λ r. refl) rs q) ∙ mapped (right_on rs q))
    by false e = ap version_of_right (right_there (λ (r : Right). record r { readers = filter (λ u. not (same_tx u t)) r.readers }) (λ r. refl) rs q p e)

ends_version : (ps : List ℕ) (rs : List Right) (t : TxId) (p : ℕ) → version_of_right (right_on (ended_at ps t rs) p) ≡ version_of_right (right_on rs p)
ends_version [] rs t p = refl
ends_version (q ∷ ps) rs t p = ends_version ps (end_reader rs q t) t p ∙ end_version rs t q p

among_kept : (t u : TxId) (us : List TxId) → same_tx u t ≡ false → among (filter (λ v. not (same_tx v t)) us) u ≡ among us u
unfolding among
among_kept t u [] other = refl
among_kept t u (v ∷ us) other = by (same_tx v t) refl (same_tx v u) refl (among_kept t u us other)
  where
    by : (b : Bool) → same_tx v t ≡ b → (c : Bool) → same_tx v u ≡ c → among (filter (λ v. not (same_tx v t)) us) u ≡ among us u
        → among (cond (not b) (v ∷ filter (λ v. not (same_tx v t)) us) (filter (λ v. not (same_tx v t)) us)) u ≡ c || among us u
    by false e c f r = ap (λ d. d || among (filter (λ v. not (same_tx v t)) us) u) f ∙ ap (λ d. c || d) r
    by true e false f r = r
    by true e true f r =
        let bad : same_tx u t ≡ true = ap (λ (x : TxId). same_tx x t) (sym (tx_equal v u f)) ∙ e in
        absurd (cc)

end_among : (rs : List Right) (t u : TxId) (q p : ℕ) → same_tx u t ≡ false → among (readers_of (right_on (end_reader rs q t) p)) u ≡ among (readers_of (right_on rs p)) u
end_among rs t u q p other = ap (λ us. among us u) (readers_ended rs t p q) ∙ by (q == p)
  where
    by : (b : Bool) → among (cond b (filter (λ v. not (same_tx v t)) (readers_of (right_on rs p))) (readers_of (right_on rs p))) u ≡ among (readers_of (right_on rs p)) u
    by true = among_kept t u (readers_of (right_on rs p)) other
    by false = refl

ends_among : (ps : List ℕ) (rs : List Right) (t u : TxId) (p : ℕ) → same_tx u t ≡ false → among (readers_of (right_on (ended_at ps t rs) p)) u ≡ among (readers_of (right_on rs p)) u
ends_among [] rs t u p other = refl
ends_among (q ∷ ps) rs t u p other = ends_among ps (end_reader rs q t) t u p other ∙ end_among rs t u q p other

named_closed : (s : OpenTxs) (t : TxId) → ((close_tx s t).node ≡ s.node) × ((close_tx s t).born ≡ s.born) × ((close_tx s t).last ≡ s.last)
unfolding close_tx
named_closed s t = (refl, refl, refl)

-- the home without the transaction, over a buffer in which the others have their private copies
without_tx : (h : HomeState) (t : TxId) (b : Pool) → is_open h.txs t ≡ true → ((u : TxId) (q : ℕ) → same_tx u t ≡ false → private_at b u q ≡ private_at h.pool u q) → IsWithoutTx t h (closed h t b)
unfolding closed
without_tx h t b there same =
    record {
      config = refl;
      named = named_closed h.txs t;
      alive = λ u. ap is_some (open_closed h.txs t u there) ∙ alive (same_tx u t) (open_at h.txs u);
      held = λ u q. held_closed h.txs t u q there;
      waits = λ u. pending_closed h.txs t u there;
      bytes = λ u q. ap (λ (xs : List PrivateCopy). bytes_of_private (private_in xs u q)) (privates_unpins (pages_at_end h t) (discard_all b t)) ∙ bytes u q (same_tx u t) refl;
      runs = λ u q. runs_ended h.written t u q;
      rights = λ q. ends_version (pages_at_end h t) h.shelf t q;
      readers = λ u q other. ends_among (pages_at_end h t) h.shelf t u q other;
    }
  where
    alive : (c : Bool) (o : Option OpenTx) → is_some (pick c None o) ≡ not c && is_some o
    alive true o = refl
    alive false o = refl

    bytes : (u : TxId) (q : ℕ) (c : Bool) → same_tx u t ≡ c → bytes_of_private (private_at (discard_all b t) u q) ≡ pick c None (private_bytes h.pool u q)
    bytes u q true e = ap bytes_of_private (all_discarded b t u q e)
    bytes u q false e = ap bytes_of_private (not_discarded b t u q e ∙ same u q e)

-- the copies of pages after unpinning
closed_copies : (h : HomeState) (t : TxId) (b : Pool) → PoolIs h.config b → (q : ℕ) → copy_at (closed h t b).pool q ≡ copy_at b q
unfolding closed
closed_copies h t b is q = copy_unpins h.config (pages_at_end h t) (discard_all b t) q (all_discarded_is h.config b t is)

pub abort_is_seen_law : AbortIsSeen
unfolding abort
abort_is_seen_law t w is there =
    record {
      home = without_tx w.home t w.home.pool there (λ u q other. refl);
      copies = λ q. closed_copies w.home t w.home.pool (pool_of_home w.home is) q;
      pages = refl;
    }

-- the copy of a page once pages were published
published_once : (b : Pool) (t : TxId) (p : ℕ) (dirty : Bool) (q : ℕ) → copy_at (publish b t p dirty) q ≡ pick (p == q) (published dirty (private_bytes b t p) (copy_at b q)) (copy_at b q)
unfolding publish discard
published_once b t p dirty q = copy_changed (with_published dirty (private_bytes b t p)) (published dirty (private_bytes b t p)) (λ s. refl) of b.slots p q
  where
    absent : (o : Option (List ℕ)) → None ≡ published dirty o None
    absent None = refl
    absent (Some x) = refl

    of : (o : Option Slot) → copy_of_slot (option_map (with_published dirty (private_bytes b t p)) o) ≡ published dirty (private_bytes b t p) (copy_of_slot o)
    of None = absent (private_bytes b t p)
    of (Some s) = refl

gone_once : (b : Pool) (t : TxId) (p : ℕ) (dirty : Bool) → private_bytes (publish b t p dirty) t p ≡ None
unfolding publish
gone_once b t p dirty = ap bytes_of_private (discarded (record b { slots = change_slot (λ s. record s { copy = published dirty (private_bytes b t p) s.copy }) b.slots p }) t p)

published_all : (t : TxId) (own : ℕ → Bool) (ps : List ℕ) (b : Pool) (q : ℕ)
    → copy_at (fold (λ d p. publish d t p (own p)) b ps) q ≡ pick (list_any (λ x. x == q) ps) (published (own q) (private_bytes b t q) (copy_at b q)) (copy_at b q)
published_all t own [] b q = refl
published_all t own (p ∷ ps) b q =
    published_all t own ps (publish b t p (own p)) q ∙ by (p == q) refl (list_any (λ x. x == q) ps)
  where
    next : Pool
    next = publish b t p (own p)

    nothing : (d : Bool) (c : Option Copy) → published d None c ≡ c
    nothing d None = refl
    nothing d (Some c) = refl

    same : (d : Bool) (x y : Option Copy) → pick d x x ≡ x
    same true x y = refl
    same false x y = refl

    here : (p ≡ q) → (d : Bool) → pick d (published (own q) (private_bytes (publish b t p (own p)) t q) (copy_at (publish b t p (own p)) q)) (copy_at (publish b t p (own p)) q) ≡ published (own q) (private_bytes b t q) (copy_at b q)
    here e d =
        subst (λ n. pick d (published (own n) (private_bytes (publish b t p (own p)) t n) (copy_at (publish b t p (own p)) n)) (copy_at (publish b t p (own p)) n) ≡ published (own n) (private_bytes b t n) (copy_at b n)) e
        (ap (λ o. pick d (published (own p) o (copy_at (publish b t p (own p)) p)) (copy_at (publish b t p (own p)) p)) (gone_once b t p (own p))
        ∙ (ap (λ c. pick d c (copy_at (publish b t p (own p)) p)) (nothing (own p) (copy_at (publish b t p (own p)) p))
        ∙ (same d (copy_at (publish b t p (own p)) p) None
        ∙ (published_once b t p (own p) p ∙ ap (λ c. pick c (published (own p) (private_bytes b t p) (copy_at b p)) (copy_at b p)) (number_same p)))))

    there : (p == q) ≡ false → (d : Bool) → pick d (published (own q) (private_bytes (publish b t p (own p)) t q) (copy_at (publish b t p (own p)) q)) (copy_at (publish b t p (own p)) q) ≡ pick d (published (own q) (private_bytes b t q) (copy_at b q)) (copy_at b q)
    there e d =
        ap (λ (x : Option PrivateCopy). pick d (published (own q) (bytes_of_private x) (copy_at (publish b t p (own p)) q)) (copy_at (publish b t p (own p)) q)) (unpublished b t t p q (own p) (apart e))
        ∙ ap (λ (c : Option Copy). pick d (published (own q) (private_bytes b t q) c) c) (published_once b t p (own p) q ∙ ap (λ c. pick c (published (own p) (private_bytes b t p) (copy_at b q)) (copy_at b q)) e)
      where
        apart : (p == q) ≡ false → same_tx t t && q == p ≡ false
        apart f = ap (λ c. c && q == p) (tx_same t) ∙ number_turned p q f

    by : (c : Bool) → (p == q) ≡ c → (d : Bool)
        → pick d (published (own q) (private_bytes (publish b t p (own p)) t q) (copy_at (publish b t p (own p)) q)) (copy_at (publish b t p (own p)) q) ≡ pick (c || d) (published (own q) (private_bytes b t q) (copy_at b q)) (copy_at b q)
    by true e d = here (number_equal p q e) d
    by false e d = there e d

forced_pages : (b : Bool) (t : TxId) (bytes : List ℕ) (w : HomeWork) → (force_if b t bytes w).pages ≡ w.pages
forced_pages true t bytes w = refl
forced_pages false t bytes w = refl

pub commit_is_seen_law : CommitIsSeen
unfolding commit
commit_is_seen_law t w is there idle =
    let h : HomeState = w.home in
    let follows = publish_all_follows h t is in
    record {
      home = without_tx h t (publish_all h t) there (λ u q other. follows.privates u q other);
      copies = λ q.
          closed_copies h t (publish_all h t) follows.is q
          ∙ (published_all t (λ p. is_own_lock (held_by h.txs t p)) (pages_written h t) h.pool q
          ∙ ap (λ c. pick c (published (is_own_lock (held_by h.txs t q)) (private_bytes h.pool t q) (copy_at h.pool q)) (copy_at h.pool q)) (is_written_is h t q is idle));
      pages = forced_pages (length (pages_written h t) == 0) t (record_bytes (commit_record h t)) w;
    }
