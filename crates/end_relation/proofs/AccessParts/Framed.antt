-- A work whose access has its frames, and what the access comes to.
use Rattle.std.proofs.Common.{◌≡◌, refl, ap, sym, subst, ◌∙◌, ℕ, ◌==◌, ◌&&◌, not, Bool, true, false, List, Option, Some, None, is_some, eqb-true}
use Rattle.pcl_base.specs.declared.lock.Held.{Held}
use Rattle.pcl_base.specs.declared.lock.Waiter.{Waiter}
use Rattle.pcl_base.specs.declared.message.Body.TheVariants as body
use Rattle.pcl_base.specs.declared.message.Request.{Request}
use Rattle.pcl_base.specs.declared.reply.Reply.TheVariants as reply
use Rattle.node_rules.specs.AccessRule.{Access, Accessed, access, has_version, is_allowed, is_held, mode_of_write, next_of, perform, take_frames, under_right, waiting}
use Rattle.node_rules.specs.BufferRule.{copy_at, find, has_private, version_of_copy}
use Rattle.node_rules.specs.LockRule.{ask}
use Rattle.node_rules.specs.NodeState.{page_owner, number_of}
use Rattle.node_rules.specs.OpenTxs.{is_open, mode_held, pending_of}
use Rattle.node_rules.specs.OwnerRule.{after_access, do_access, enter, told, waits_first}
use Rattle.node_rules.specs.Shelf as rules
use Rattle.node_rules.specs.Shelf.{is_at, right_on}
use Rattle.node_rules.specs.Words.{covers}
use Rattle.node_rules.specs.Work.{HomeWork, Work, Goes, and_so, reply, send, work_of_home, with_home, with_home_work}
use Rattle.home_laws.specs.AccessNeeds.{MayDo}
use Rattle.home_laws.specs.Homes.{IsHome}
use Rattle.home_laws.specs.Refused.{access_refusal}
use Rattle.home_laws.proofs.AccessNeeds.{held_may_do}
use Rattle.home_laws.proofs.Allowed.{MayAccess, allowed}
use Rattle.home_laws.proofs.Opens.{open_is_own}
use Rattle.home_laws.proofs.Tests.{and_left, and_right}
use Rattle.page_laws.specs.Look.Accesses.{IsOneOf}
use Rattle.page_laws.specs.Look.Buffers.{LetsGo}
use Rattle.page_laws.specs.Look.Parts.{SameBesideCopies}
use Rattle.page_laws.proofs.LookParts.Accessing.{access_is_seen_law}
use Rattle.page_laws.proofs.LookParts.Copies.{frames_are_seen_law, lets_beside, lets_copy}

-- the version of the right that the node has
pub right_found : (shelf : List rules.Right) (p : ℕ) (o : Option ℕ) → has_version shelf p o ≡ true → (r : rules.Right) × (right_on shelf p ≡ Some r) × (o ≡ Some r.version)
right_found shelf p None e = absurd (cc)
right_found shelf p (Some v) e = by (right_on shelf p) refl e
  where
    by : (o : Option rules.Right) → right_on shelf p ≡ o → is_at o v ≡ true → (r : rules.Right) × (right_on shelf p ≡ Some r) × ((let k : Option ℕ = Some v in k) ≡ Some r.version)
    by None is at = absurd (cc)
    by (Some r) is at = (r, is, ap (λ (k : ℕ). Some k) (sym (eqb-true r.version v at)))

not_true : (b : Bool) → not b ≡ true → b ≡ false
not_true true e = absurd (cc)
not_true false e = refl

module _ (x : Access) (w : Work) (home : IsHome w.node.home) (fine : access_refusal x w.node.home ≡ None) where
  abbrev pub owned : Bool
  owned = page_owner w.node x.page == number_of w.node

  abbrev pub taken : HomeWork
  taken = take_frames x (work_of_home w)

  -- the work with the frames
  abbrev pub framed : Work
  framed = with_home_work w taken

  pub may : MayAccess x w.node.home
  may = allowed x w.node.home fine

  pub lets : LetsGo x.page (work_of_home w) taken
  lets = frames_are_seen_law x (work_of_home w) home fine

  pub beside : SameBesideCopies w.node.home taken.home
  beside = lets_beside x.page (work_of_home w) taken lets

  pub copy : copy_at taken.home.pool x.page ≡ copy_at w.node.home.pool x.page
  copy = lets_copy x.page (work_of_home w) taken lets

  pub finds : find taken.home.pool x.page ≡ find w.node.home.pool x.page
  finds = ap version_of_copy copy

  pub opened : is_open taken.home.txs x.tx ≡ true
  opened = beside.life.alive x.tx ∙ may.there

  pub idle : pending_of taken.home.txs x.tx ≡ None
  idle = beside.locks.waits x.tx ∙ may.idle

  pub held_same : is_held x taken.home ≡ is_held x w.node.home
  held_same = ap (λ (o : Option Held). covers (mode_held o) (mode_of_write x.write)) (beside.locks.held x.tx x.page)

  -- the transaction is one of the node
  pub mine : x.tx.node ≡ number_of w.node
  mine =
      eqb-true x.tx.node (number_of w.node)
      (and_left (x.tx.node == w.node.home.txs.node) (x.tx.born == w.node.home.txs.born) (open_is_own w.node.home.txs x.tx may.there))

  -- a write that is allowed by its lock has its private copy
  pub writable : is_held x w.node.home ≡ true → (write : ℕ × List ℕ) → x.write ≡ Some write → has_private taken.home.pool x.tx x.page ≡ true
  writable held write is = (subst (λ o. MayDo x.tx x.page o taken.home) is (held_may_do x (work_of_home w) home may (held_same ∙ held))).private

  one_of : IsOneOf x owned (work_of_home w) taken (access x owned (work_of_home w))
  one_of = access_is_seen_law x owned (work_of_home w) home fine

  -- it is held as it has to be
  pub held_goes : is_held x w.node.home ≡ true → do_access x w ≡ Goes (told framed (perform x.tx x.page x.write (work_of_home framed)))
  unfolding do_access
  held_goes held = ap (after_access x w) (one_of.held held)

  -- it is a read under the right of the node
  abbrev pub reader : Work
  reader = with_home framed (under_right x.tx x.page framed.node.home)

  pub allowed_goes : is_held x w.node.home ≡ false → is_allowed x owned w.node.home ≡ true → do_access x w ≡ Goes (told reader (perform x.tx x.page None (work_of_home reader)))
  unfolding do_access
  allowed_goes held allows = ap (after_access x w) (one_of.allowed held allows)

  -- what is known then
  pub not_owned : is_allowed x owned w.node.home ≡ true → owned ≡ false
  not_owned allows = not_true owned (and_left (not owned) (not (is_some x.write) && has_version w.node.home.shelf x.page (find w.node.home.pool x.page)) allows)

  pub reads_only : is_allowed x owned w.node.home ≡ true → is_some x.write ≡ false
  reads_only allows =
      not_true (is_some x.write)
      (and_left (not (is_some x.write)) (has_version w.node.home.shelf x.page (find w.node.home.pool x.page))
      (and_right (not owned) (not (is_some x.write) && has_version w.node.home.shelf x.page (find w.node.home.pool x.page)) allows))

  pub has_right : is_allowed x owned w.node.home ≡ true
      → (r : rules.Right) × (right_on taken.home.shelf x.page ≡ Some r) × (find taken.home.pool x.page ≡ Some r.version)
  has_right allows =
      let there =
      right_found w.node.home.shelf x.page (find w.node.home.pool x.page)
      (and_right (not (is_some x.write)) (has_version w.node.home.shelf x.page (find w.node.home.pool x.page))
      (and_right (not owned) (not (is_some x.write) && has_version w.node.home.shelf x.page (find w.node.home.pool x.page)) allows)) in
      (there.0, beside.rights x.page ∙ there.1, finds ∙ there.2)

  -- it waits
  abbrev pub waiter : Work
  waiter = with_home framed (waiting x framed.node.home)

  pub waits_is : is_held x w.node.home ≡ false → is_allowed x owned w.node.home ≡ false
      → access x owned (work_of_home w) ≡ record { next = next_of x owned (find w.node.home.pool x.page); work = work_of_home waiter }
  waits_is held allows = one_of.waits held allows

  -- what is asked for
  abbrev pub request : Request
  request = record { tx = x.tx; page = x.page; mode = mode_of_write x.write; have = find w.node.home.pool x.page }

  abbrev pub item : Waiter
  item = record { tx = x.tx; mode = mode_of_write x.write; have = find w.node.home.pool x.page }

  abbrev pub replied : Work
  replied = reply (reply.Waits x.tx x.page) waiter

  pub owner_goes : is_held x w.node.home ≡ false → is_allowed x owned w.node.home ≡ false → owned ≡ false
      → do_access x w ≡ Goes (send (page_owner replied.node x.page) (body.Request request) replied)
  unfolding do_access
  owner_goes held allows away =
      ap (after_access x w)
      (waits_is held allows ∙ ap (λ (b : Bool). let y : Accessed = record { next = next_of x b (find w.node.home.pool x.page); work = work_of_home waiter } in y) away)

  pub own_goes : is_held x w.node.home ≡ false → is_allowed x owned w.node.home ≡ false → owned ≡ true
      → do_access x w ≡ and_so (enter (λ e. ask e item) x.page waiter) (waits_first x.tx x.page)
  unfolding do_access
  own_goes held allows own =
      ap (after_access x w)
      (waits_is held allows ∙ ap (λ (b : Bool). let y : Accessed = record { next = next_of x b (find w.node.home.pool x.page); work = work_of_home waiter } in y) own)
