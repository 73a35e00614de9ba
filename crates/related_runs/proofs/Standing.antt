-- What a grant makes of the granted accesses that stand at a home, and that other changes of a home leave them.
use Rattle.std.proofs.Common.{◌≡◌, refl, sym, ap, subst, ◌∙◌, ℕ, ◌==◌, ◌&&◌, Bool, true, false, List, Option, Some, None, is_some}
use Rattle.pcl_base.specs.declared.lock.Held.{Held}
use Rattle.pcl_base.specs.declared.lock.Pending.{Pending}
use Rattle.pcl_base.specs.declared.tx.TxId.{TxId}
use Rattle.text_rules.specs.StoredPage.{PageAt}
use Rattle.node_rules.specs.Words.{pick, same_tx, same_mode}
use Rattle.node_rules.specs.AccessRule.{Granted, clean_copy, granted, perform, write_of, filled, version_or}
use Rattle.node_rules.specs.BufferRule.{Pool, copy_at, version_of_copy, find, has_slot, private_bytes, touch, fill, change}
use Rattle.node_rules.specs.CopyRule.{is_version}
use Rattle.node_rules.specs.NodeState.{HomeState}
use Rattle.node_rules.specs.OpenTxs.{OpenTxs, is_open, held_by, pending_of, waits_on, waits_as, add}
use Rattle.node_rules.specs.Work.{HomeWork, Goes}
use Rattle.home_laws.proofs.Locks.{pending_open}
use Rattle.home_laws.proofs.Tests.{and_left, number_equal, number_same, tx_equal}
use Rattle.step_laws.proofs.Homes as step
use Rattle.step_laws.proofs.Homes.{granted_home}
use Rattle.step_laws.proofs.Outcomes.{On}
use Rattle.page_laws.specs.Look.Accesses.{HasLock}
use Rattle.page_laws.specs.Look.Grants.{IsSource, IsBroughtTo, current, comes, with_lock_of, IsCarriedOut}
use Rattle.page_laws.proofs.LookParts.Accessing.{reading_is_seen_law, locking_is_seen_law}
use Rattle.page_laws.proofs.LookParts.Granting.{bringing_is_seen_law, grant_is_seen_law}
use Rattle.related_runs.specs.Granted.{StandsAt, Given, given_by, is_commit}

-- ---- the copies of pages

-- the page has the granted version, and the others what they had
record IsBrought (p v : ℕ) (w x : HomeWork) : Type 0 where
  here : find x.home.pool p ≡ Some v
  others : (q : ℕ) → (p == q) ≡ false → find x.home.pool q ≡ find w.home.pool q

has_version : (o : Option ℕ) (v : ℕ) → is_version o v ≡ true → o ≡ Some v
has_version None v e = absurd (cc)
has_version (Some w) v e = ap Some (number_equal w v e)

source_version : (p v : ℕ) (image : Option (List ℕ)) (w : HomeWork) (at : PageAt) → IsSource p v image w at → at.version ≡ v
source_version p v None w at s = s.1
source_version p v (Some bytes) w at s = ap (λ (x : PageAt). x.version) s

brought : (p v : ℕ) (image : Option (List ℕ)) (w x : HomeWork) → IsBroughtTo p v image w x → IsBrought p v w x
brought p v image w x (current is same) =
    record {
      here = ap (λ (y : HomeWork). find y.home.pool p) same ∙ has_version (find w.home.pool p) v is;
      others = λ q other. ap (λ (y : HomeWork). find y.home.pool q) same;
    }
brought p v image w x (comes at is source beside copies pages) =
    record {
      here =
          ap version_of_copy (copies p ∙ ap (λ b. pick b (Some (clean_copy at)) (copy_at w.home.pool p)) (number_same p))
          ∙ ap Some (source_version p v image w at source);
      others = λ q other. ap version_of_copy (copies q ∙ ap (λ b. pick b (Some (clean_copy at)) (copy_at w.home.pool q)) other);
    }

-- a private copy that is filled and written leaves the copies
filled_copy : (b : Pool) (t : TxId) (p q place : ℕ) (bytes : List ℕ) → copy_at (change (filled b t p) t p place bytes) q ≡ copy_at b q
unfolding change fill
filled_copy b t p q place bytes = by (is_some (private_bytes b t p))
  where
    by : (x : Bool) → copy_at (change (pick x b (fill b t p)) t p place bytes) q ≡ copy_at b q
    by true = refl
    by false = refl

-- an access that is done
pub record IsDone (t : TxId) (p : ℕ) (w : HomeWork) (g : Granted) : Type 0 where
  pub given : given_by g.reply ≡ Some (record { tx = t; page = p; version = version_or (find w.home.pool p) })
  pub commit : is_commit g.reply ≡ false
  pub txs : g.work.home.txs ≡ w.home.txs
  pub copies : (q : ℕ) → find g.work.home.pool q ≡ find w.home.pool q

pub performed : (t : TxId) (p : ℕ) (write : Option (ℕ × List ℕ)) (w : HomeWork) → IsDone t p w (perform t p write w)
unfolding perform
performed t p None w =
    record { given = refl; commit = refl; txs = refl; copies = λ q. ap version_of_copy ((reading_is_seen_law t p w).work.copies q) }
performed t p (Some write) w =
    record {
      given = refl;
      commit = refl;
      txs = refl;
      copies = λ q.
          ap version_of_copy
          (filled_copy (touch w.home.pool p) t p q write.0 write.1 ∙ (reading_is_seen_law t p w).work.copies q);
    }

-- ---- a grant of what a transaction waits for

waits_some : (o : Option Pending) (l : Held) → waits_as o l.page l.mode ≡ true → is_some o ≡ true
waits_some None l e = absurd (cc)
waits_some (Some w) l e = refl

pub waits_here : (o : Option Pending) (l : Held) → waits_as o l.page l.mode ≡ true → waits_on o l.page ≡ true
waits_here None l e = absurd (cc)
waits_here (Some w) l e = and_left (w.page == l.page) (same_mode w.mode l.mode) e

-- It stands so, as does what stood before, of the page at the same version.
pub record IsStanding (t : TxId) (p v : ℕ) (h : HomeState) (g : Granted) : Type 0 where
  pub given : given_by g.reply ≡ Some (record { tx = t; page = p; version = v })
  pub commit : is_commit g.reply ≡ false
  pub here : StandsAt g.work.home t p v
  pub others : (u : TxId) (q x : ℕ) → (q ≡ p → x ≡ v) → StandsAt h u q x → StandsAt g.work.home u q x
  pub last : g.work.home.txs.last ≡ h.txs.last

module _ (t : TxId) (l : Held) (v : ℕ) (image : Option (List ℕ)) (w : HomeWork) (g : Granted) (slot : has_slot w.home.pool l.page ≡ true)
    (waits : waits_as (pending_of w.home.txs t) l.page l.mode ≡ true) (goes : granted t l v image w ≡ Goes g) where
  out : IsCarriedOut t l v image w g
  out = grant_is_seen_law t l v image w g goes

  moved : IsBrought l.page v w out.work
  moved = brought l.page v image w out.work (bringing_is_seen_law l.page v image w out.work slot out.brought)

  done : IsDone t l.page (with_lock_of t l out.work) (perform t l.page (write_of (pending_of w.home.txs t)) (with_lock_of t l out.work))
  done = performed t l.page (write_of (pending_of w.home.txs t)) (with_lock_of t l out.work)

  there : is_open w.home.txs t ≡ true
  there = pending_open w.home.txs t (waits_some (pending_of w.home.txs t) l waits)

  has : HasLock t l w.home.txs (add w.home.txs t l)
  has = locking_is_seen_law w.home.txs t l there

  txs : g.work.home.txs ≡ add w.home.txs t l
  txs = (subst (On (λ (x : Granted). step.HasLock t l w.home x.work.home)) goes (granted_home t l v image w)).txs

  copies : (q : ℕ) → find g.work.home.pool q ≡ find out.work.home.pool q
  copies q = ap (λ (x : Granted). find x.work.home.pool q) out.done ∙ done.copies q

  waits_no_more : pending_of (add w.home.txs t l) t ≡ None
  waits_no_more = has.waits ∙ ap (λ b. pick b None (pending_of w.home.txs t)) (waits_here (pending_of w.home.txs t) l waits)

  holds_still : (u : TxId) (q : ℕ) → is_some (held_by w.home.txs u q) ≡ true → is_some (held_by (add w.home.txs t l) u q) ≡ true
  holds_still u q some = by (same_tx u t) refl (q == l.page) refl
    where
      by : (a : Bool) → same_tx u t ≡ a → (b : Bool) → (q == l.page) ≡ b → is_some (held_by (add w.home.txs t l) u q) ≡ true
      by true e true f =
          subst (λ (x : TxId). is_some (held_by (add w.home.txs t l) x q) ≡ true) (sym (tx_equal u t e))
          (subst (λ k. is_some (held_by (add w.home.txs t l) t k) ≡ true) (sym (number_equal q l.page f)) (ap is_some has.here))
      by true e false f = ap is_some (has.other_held u q (ap (λ b. b && (q == l.page)) e ∙ f)) ∙ some
      by false e b f = ap is_some (has.other_held u q (ap (λ x. x && (q == l.page)) e)) ∙ some

  waits_still : (u : TxId) (q : ℕ) → waits_on (pending_of w.home.txs u) q ≡ false → waits_on (pending_of (add w.home.txs t l) u) q ≡ false
  waits_still u q none = by (same_tx u t) refl
    where
      by : (a : Bool) → same_tx u t ≡ a → waits_on (pending_of (add w.home.txs t l) u) q ≡ false
      by true e =
          subst (λ (x : TxId). waits_on (pending_of (add w.home.txs t l) x) q ≡ false) (sym (tx_equal u t e)) (ap (λ o. waits_on o q) waits_no_more)
      by false e = ap (λ o. waits_on o q) (has.other_waits u e) ∙ none

  find_here : find g.work.home.pool l.page ≡ Some v
  find_here = copies l.page ∙ moved.here

  find_still : (q x : ℕ) → (q ≡ l.page → x ≡ v) → find w.home.pool q ≡ Some x → find g.work.home.pool q ≡ Some x
  find_still q x same is = by (l.page == q) refl
    where
      by : (a : Bool) → (l.page == q) ≡ a → find g.work.home.pool q ≡ Some x
      by true e =
          let page : q ≡ l.page = sym (number_equal l.page q e) in
          ap (find g.work.home.pool) page ∙ find_here ∙ ap Some (sym (same page))
      by false e = copies q ∙ moved.others q e ∙ is

  pub grant_stands : IsStanding t l.page v w.home g
  grant_stands =
      record {
        given =
            ap (λ (x : Granted). given_by x.reply) out.done ∙ done.given
            ∙ ap (λ (o : Option ℕ). (let x : Option Given = Some (record { tx = t; page = l.page; version = version_or o }) in x)) moved.here;
        commit = ap (λ (x : Granted). is_commit x.reply) out.done ∙ done.commit;
        here =
            record {
              holds = subst (λ (s : OpenTxs). is_some (held_by s t l.page) ≡ true) (sym txs) (ap is_some has.here);
              waits = subst (λ (s : OpenTxs). waits_on (pending_of s t) l.page ≡ false) (sym txs) (ap (λ o. waits_on o l.page) waits_no_more);
              version = find_here;
            };
        others = λ u q x same stands.
            record {
              holds = subst (λ (s : OpenTxs). is_some (held_by s u q) ≡ true) (sym txs) (holds_still u q stands.holds);
              waits = subst (λ (s : OpenTxs). waits_on (pending_of s u) q ≡ false) (sym txs) (waits_still u q stands.waits);
              version = find_still q x same stands.version;
            };
        last = ap (λ (s : OpenTxs). s.last) txs ∙ has.named.2;
      }
