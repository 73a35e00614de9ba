-- What a grant and a revocation that arrive leave of the home.
use Rattle.std.proofs.Common.{◌≡◌, ℕ, ◌++◌, Bool, true, false, List, [], ◌∷◌, Option, Some, None, is_some, Result, Ok, Err, refl, ap, sym, subst, ◌∙◌}
use Rattle.std.specs.Prelude.{IfOk, OnErr}
use Rattle.pcl_base.specs.declared.tx.TxId.{TxId}
use Rattle.pcl_base.specs.declared.lock.Kind.{Kind}
use Rattle.pcl_base.specs.declared.lock.Kind.TheVariants as kind
use Rattle.pcl_base.specs.declared.message.Grant.{Grant}
use Rattle.pcl_base.specs.declared.reply.Reply.{Reply}
use Rattle.pcl_base.specs.declared.reply.Reply.TheVariants.{Taken as taken}
use Rattle.node_rules.specs.OpenTxs.{OpenTxs, pending_of, waits_as, set_kind}
use Rattle.node_rules.specs.Shelf.{Right, right_on}
use Rattle.node_rules.specs.LockTable.{LockTable}
use Rattle.node_rules.specs.NodeState.{HomeState, table_of}
use Rattle.node_rules.specs.DiskCalls.{DiskCall}
use Rattle.node_rules.specs.Work.{Work, Outcome, Goes, Differs, and_so, with_home, work_of_home, reply, some_reply}
use Rattle.node_rules.specs.AccessRule.{Granted, granted, on_grant, arrive, arrived, image_of, kind_of, readers_after, shelf_after, on_revoke, answer_with, kinds_on}
use Rattle.node_rules.specs.NodeStep.{after_grant, take_grant}
use Rattle.home.specs.declared.fault.HomeFault.{HomeFault}
use Rattle.home.specs.Device.{work_on}
use Rattle.home.specs.Grants.{work_at, outcome, arrival, Tells, part_of, ByImage}
use Rattle.node_parts.specs.declared.fault.StepFault.{StepFault}
use Rattle.page_owner.specs.Carry.{SameNode, fault_of}
use Rattle.node_parts.specs.Comes.{Comes, work_of}
use Rattle.node_parts.specs.Outputs.{OutputsView}
use Rattle.node_parts.specs.State.{PartsView, node_of}
use Rattle.page_owner.proofs.Frames.{arrived_told}
use Rattle.page_owner.proofs.OwnGrants.{Kept, granted_kept, so_ok, so_err}

-- a grant that arrives leaves a home of the same node
module _ (h : HomeState) where
  of_granted : (o : Outcome Granted) → Kept h (outcome o) → Kept h (arrival (and_so o arrived))
  of_granted (Goes g) kept = kept
  of_granted (Differs p m n) kept = tt

  grant_kept : (g : Grant) → Kept h (arrival (on_grant g false (work_on h)))
  unfolding on_grant
  grant_kept g = by (waits_as (pending_of h.txs g.tx) g.page g.mode)
    where
      by : (b : Bool) → Kept h (arrival (arrive b g false (record (work_on h) { home = record h { shelf = shelf_after g h.shelf } })))
      by false = record { config = refl; node = refl; born = refl }
      by true =
          of_granted (granted g.tx (record { page = g.page; mode = g.mode; kind = kind_of false g.right }) g.version (image_of g.copy)
          (work_on (record h { shelf = readers_after g (shelf_after g h.shelf) })))
          (granted_kept h g.tx (record { page = g.page; mode = g.mode; kind = kind_of false g.right }) g.version (image_of g.copy)
          (work_on (record h { shelf = readers_after g (shelf_after g h.shelf) })) (record { config = refl; node = refl; born = refl }))

  pub grant_keeps : (g : Grant) (r : Option Reply) (new : HomeState) → arrival (on_grant g false (work_on h)) ≡ Goes (r, new) → SameNode h new
  grant_keeps g r new goes = subst (Kept h) goes (grant_kept g)

-- a revocation does so too
kinds_keep : (s : OpenTxs) (ts : List TxId) (p : ℕ) (k : Kind) → ((kinds_on s ts p k).node ≡ s.node) × ((kinds_on s ts p k).born ≡ s.born)
unfolding kinds_on set_kind
kinds_keep s [] p k = (refl, refl)
kinds_keep s (t ∷ ts) p k = kinds_keep (set_kind s t p k) ts p k

pub revoke_keeps : (p : ℕ) (h : HomeState) → SameNode h (on_revoke p h).home
unfolding on_revoke
revoke_keeps p h = by (right_on h.shelf p)
  where
    by : (o : Option Right) → SameNode h (answer_with p o h).home
    by None = record { config = refl; node = refl; born = refl }
    by (Some r) = record { config = refl; node = (kinds_keep h.txs _ p kind.Registered).0; born = (kinds_keep h.txs _ p kind.Registered).1 }

-- a grant that is taken, from what the home's call tells of it
module _ (g : Grant) (t : Option LockTable) (none : is_some t ≡ false) (w : Work) where
  no_table : (o : Option LockTable) → is_some o ≡ false → take_grant o g w ≡ and_so (on_grant g false (work_of_home w)) (after_grant w)
  no_table None is = refl
  no_table (Some x) is = absurd (cc)

  rule : take_grant t g w ≡ and_so (arrival (on_grant g false (work_at w.pages w.node.home))) (λ x. some_reply x.0 (with_home w x.1))
  rule = no_table t none ∙ arrived_told g false w

  pub grant_done : (r : Option Reply) (h : HomeState) (after : Work) → after ≡ some_reply r (with_home w h) → Tells (arrival (on_grant g false (work_at w.pages w.node.home))) (Ok r) h
      → Comes (take_grant t g w) (Ok (tt {0})) after
  grant_done r h after is tells =
      subst (λ o. Comes {T = Unit {0}} o (Ok (tt {0})) after) (sym rule)
      (so_ok (λ x. some_reply x.0 (with_home w x.1)) (arrival (on_grant g false (work_at w.pages w.node.home))) r h (tt {0}) after is tells)

  pub grant_failed : (e : HomeFault) (k : StepFault) (h : HomeState) (after : Work) → k ≡ fault_of e → Tells (arrival (on_grant g false (work_at w.pages w.node.home))) (Err e) h
      → Comes {T = Unit {0}} (take_grant t g w) (Err k) after
  grant_failed e k h after is tells =
      subst (λ z. Comes {T = Unit {0}} (take_grant t g w) (Err z) after) (sym is)
      (subst (λ o. Comes {T = Unit {0}} o (Err (fault_of e)) after) (sym rule)
      (so_err (Unit {0}) (λ x. some_reply x.0 (with_home w x.1)) (arrival (on_grant g false (work_at w.pages w.node.home))) e h after tells))

-- a grant at the owner of its page does nothing
pub grant_ignored : (g : Grant) (t : Option LockTable) (w : Work) → is_some t ≡ true → take_grant t g w ≡ Goes w
grant_ignored g (Some t) w some = refl
grant_ignored g None w some = absurd (cc)

-- whatever the answer, the home is of the same node
pub grant_same : (g : Grant) (h new : HomeState) (r : Result (Option Reply) HomeFault)
    → IfOk r (λ r. ByImage g.page g.version (image_of g.copy) (λ i. arrival (on_grant (record g { copy = part_of i }) false (work_on h))) h r new) → OnErr r (new ≡ h) → SameNode h new
grant_same g h new (Ok r) by err = grant_keeps h (record g { copy = part_of by.image }) r new by.goes
grant_same g h new (Err e) by err = subst (SameNode h) (sym err) (record { config = refl; node = refl; born = refl })

-- the same of the parts of a node
module _ (u v : PartsView) (same : v ≡ u) (g : Grant) (none : false ≡ is_some (table_of (node_of u) g.page)) (new : HomeState) (ps : List (List ℕ)) (cs : List DiskCall) (old later : OutputsView) where
  none_at : is_some (table_of (node_of v) g.page) ≡ false
  none_at = ap (λ (x : PartsView). is_some (table_of (node_of x) g.page)) same ∙ sym none

  abbrev At : Result (Unit {0}) StepFault → PartsView → Type 0
  At r x = Comes (take_grant (table_of (node_of x) g.page) g (reply taken (work_of (node_of x) ps cs old))) r (work_of (record (node_of v) { home = new }) ps cs later)

  abbrev Says : Result (Option Reply) HomeFault → Type 0
  Says x = Tells (arrival (on_grant g false (work_at ps v.home))) x new

  pub taken_alone : (x : Result (Option Reply) HomeFault) → x ≡ Ok None → later.replies ≡ old.replies ++ taken ∷ [] → later.sends ≡ old.sends → Says x → At (Ok (tt {0})) u
  taken_alone x is replies sends tells =
      subst (At (Ok (tt {0}))) same
      (grant_done g (table_of (node_of v) g.page) none_at (reply taken (work_of (node_of v) ps cs old)) None new (work_of (record (node_of v) { home = new }) ps cs later)
      (λ i. record { node = record (node_of v) { home = new }; pages = ps; calls = cs; replies = replies i; sends = sends i }) (subst Says is tells))

  pub taken_with : (x : Result (Option Reply) HomeFault) (r : Reply) → x ≡ Ok (Some r) → later.replies ≡ (old.replies ++ taken ∷ []) ++ r ∷ [] → later.sends ≡ old.sends → Says x → At (Ok (tt {0})) u
  taken_with x r is replies sends tells =
      subst (At (Ok (tt {0}))) same
      (grant_done g (table_of (node_of v) g.page) none_at (reply taken (work_of (node_of v) ps cs old)) (Some r) new (work_of (record (node_of v) { home = new }) ps cs later)
      (λ i. record { node = record (node_of v) { home = new }; pages = ps; calls = cs; replies = replies i; sends = sends i }) (subst Says is tells))

  pub taken_not : (x : Result (Option Reply) HomeFault) (e : HomeFault) (k : StepFault) → x ≡ Err e → k ≡ fault_of e → Says x → At (Err k) u
  taken_not x e k is fault tells =
      subst (At (Err k)) same
      (grant_failed g (table_of (node_of v) g.page) none_at (reply taken (work_of (node_of v) ps cs old)) e k new (work_of (record (node_of v) { home = new }) ps cs later) fault (subst Says is tells))
