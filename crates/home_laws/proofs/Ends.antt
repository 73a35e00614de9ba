-- The laws of what begins and ends at a home.
use Rattle.std.proofs.Common.{◌≡◌, ℕ, ◌+◌, ◌<◌, ◌≤◌, Bool, true, false, [], ◌∷◌, ◌++◌, length, Option, Some, None, refl, ap, sym, ◌∙◌, arith, length-append}
use Rattle.std.proofs.lemmas.List.Elements.{All-push}
use Rattle.pcl_base.specs.Limits.{Sizes}
use Rattle.pcl_base.specs.declared.tx.TxId.{TxId}
use Rattle.node_rules.specs.Words.{pick}
use Rattle.node_rules.specs.OpenTxs.{OpenTx, OpenTxs, begin, is_own, with_serial, open_at, held_by, lock_on, mode_held, pages_of_open, waiting_of_open}
use Rattle.node_rules.specs.EndRule.{abort, commit, publish_all, pages_written, is_own_lock}
use Rattle.home_laws.specs.Homes.{AreOpen, AreOnce, users, is_right_lock}
use Rattle.home_laws.specs.EndLaws.{BeginIsSound, AbortIsSound, CommitIsSound}
use Rattle.home_laws.proofs.Serials.{serials_pushed, serial_pushed, users_pushed}
use Rattle.home_laws.proofs.Pools.{pool_of_home}
use Rattle.home_laws.proofs.Closed.{Follows, closed_is_home}
use Rattle.home_laws.proofs.Publishes.{follows_publishes}
use Rattle.home_laws.proofs.Transactions.{HoldSame, held_same}

pub abort_is_sound_law : AbortIsSound
unfolding abort
abort_is_sound_law t w is there =
    let same : Follows w.home.config t w.home.pool w.home.pool = record { is = pool_of_home w.home is; pins = λ p. refl; copies = λ p some. some; privates = λ u p other. refl } in
    closed_is_home w.home t w.home.pool is there same

pub commit_is_sound_law : CommitIsSound
unfolding commit
commit_is_sound_law t w is there waits =
    let same : Follows w.home.config t w.home.pool w.home.pool = record { is = pool_of_home w.home is; pins = λ p. refl; copies = λ p some. some; privates = λ u p other. refl } in
    closed_is_home w.home t (publish_all w.home t) is there
    (follows_publishes w.home.config w.home.pool t (λ p. is_own_lock (held_by w.home.txs t p)) (pages_written w.home t) w.home.pool same)

-- a transaction that begins
abbrev new_tx : OpenTxs → OpenTx
new_tx s = record { serial = s.last + 1; pages = []; waiting = None }

begun : {X : Type 0} (f : Option OpenTx → X) (s : OpenTxs) (t : TxId) → f (Some (new_tx s)) ≡ f None → f (open_at (begin s) t) ≡ f (open_at s t)
unfolding begin
begun f s t e = by_own (is_own s t) (serial_pushed f (new_tx s) t.serial s.txs e)
  where
    by_own : (b : Bool) → f (with_serial (s.txs ++ new_tx s ∷ []) t.serial) ≡ f (with_serial s.txs t.serial) → f (pick b (with_serial (s.txs ++ new_tx s ∷ []) t.serial) None) ≡ f (pick b (with_serial s.txs t.serial) None)
    by_own true h = h
    by_own false h = refl

begun_are : (c : Sizes) (s : OpenTxs) → AreOpen c s → length s.txs < 1024 → 1 ≤ s.born → AreOpen c (begin s)
unfolding begin
begun_are c s is few born =
    let long = length-append s.txs (new_tx s ∷ []) in
    record {
      node = is.node;
      few = omega (arith, long);
      serials = serials_pushed 0 s.last (new_tx s) s.txs refl is.serials;
      once = All-push (λ x. AreOnce x.pages) s.txs (new_tx s) is.once tt;
      born = λ some. born;
    }

users_begun : (s : OpenTxs) (p : ℕ) → users (begin s) p ≡ users s p
unfolding begin lock_on
users_begun s p = ap length (users_pushed p (new_tx s) s.txs refl)

held_begun : (s : OpenTxs) (t : TxId) (p : ℕ) → held_by (begin s) t p ≡ held_by s t p
held_begun s t p = begun (λ o. lock_on (pages_of_open o) p) s t refl

pub begin_is_sound_law : BeginIsSound
begin_is_sound_law h is few born =
    let same : HoldSame h.config h.txs (begin h.txs) =
    record { are = begun_are h.config h.txs is.txs few born; users = users_begun h.txs; modes = λ t p. ap mode_held (held_begun h.txs t p); waits = λ t. begun waiting_of_open h.txs t refl } in
    held_same h (begin h.txs) h.shelf is same is.readers (λ t p right. is.reading t p (ap is_right_lock (sym (held_begun h.txs t p)) ∙ right))
