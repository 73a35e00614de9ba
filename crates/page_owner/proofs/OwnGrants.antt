-- What a grant to a transaction of the node comes to, from what the home's call tells of it.
use Rattle.std.proofs.Common.{◌≡◌, ℕ, ◌==◌, ◌++◌, Bool, true, false, List, [], ◌∷◌, Option, Some, None, is_some, set, Result, Ok, Err, refl, ap, sym, subst, ◌∙◌}
use Rattle.std.specs.Prelude.{⊤}
use Rattle.std.proofs.lemmas.List.{set-get_or}
use Rattle.pcl_base.specs.declared.tx.TxId.{TxId}
use Rattle.pcl_base.specs.declared.tx.Mode.{Mode}
use Rattle.pcl_base.specs.declared.lock.Held.{Held}
use Rattle.pcl_base.specs.declared.lock.Kind.TheVariants as kind
use Rattle.pcl_base.specs.declared.reply.Reply.{Reply}
use Rattle.pcl_base.specs.declared.trace.CopyKind.TheVariants as copy
use Rattle.text_rules.specs.StoredPage.{PageAt, BadNumber, stored_page}
use Rattle.run_rules.specs.Disk.{raw_page}
use Rattle.node_rules.specs.Words.{pick}
use Rattle.node_rules.specs.OpenTxs.{pending_of, add}
use Rattle.node_rules.specs.BufferRule.{install, find, version_of_copy, Copy}
use Rattle.node_rules.specs.CopyRule.{is_version, copy_for}
use Rattle.node_rules.specs.NodeState.{HomeState, NodeState}
use Rattle.node_rules.specs.DiskCalls.{DiskCall}
use Rattle.node_rules.specs.Work.{HomeWork, Work, Outcome, Goes, Differs, and_then, and_so, with_home, reply, page_or_differs}
use Rattle.node_rules.specs.AccessRule.{bring, unless_current, from_disk, on_pool, clean_copy, perform, locked, write_of, granted}
use Rattle.node_rules.specs.OwnerRule.{grant_own}
use Rattle.home.specs.declared.fault.HomeFault.{HomeFault}
use Rattle.home.specs.declared.fault.HomeFault.TheVariants as fault
use Rattle.node_parts.specs.declared.fault.StepFault.{StepFault}
use Rattle.home.specs.Device.{work_on}
use Rattle.home.specs.Grants.{work_at, outcome, Tells, after_reading, is_read_failed}
use Rattle.disk_model.specs.Stops.{Failing, Done, after_read, read_after, reading_fate, read_fate}
use Rattle.redo_log.specs.Told.{NoneFails}
use Rattle.node_parts.specs.Comes.{Comes}
use Rattle.page_owner.specs.Carry.{SameNode, work_with, fault_of, halted_by}
use Rattle.node_parts.specs.Outputs.{OutputsView}
use Rattle.page_owner.proofs.Frames.{granted_told}

-- what an answer of the home tells of the rule that goes on with it
pub so_ok : {R X : Type 0} (f : R × HomeState → Work) (o : Outcome (R × HomeState)) (r : R) (h : HomeState) (x : X) (w : Work) → w ≡ f (r, h)
    → Tells o (Ok r) h → Comes (and_so o f) (Ok x) w
so_ok f (Goes y) r h x w is tells = sym (is ∙ (λ i. f (tells.0 i, tells.1 i)))
so_ok f (Differs p m n) r h x w is tells = absurd tells

same_differs : (q a b p m n : ℕ) → fault.Differs q a b ≡ fault.Differs p m n → (p ≡ q) × (m ≡ a) × (n ≡ b)
same_differs q a b p m n same = (cc, cc, cc)

pub so_err : {R : Type 0} (X : Type 0) (f : R × HomeState → Work) (o : Outcome (R × HomeState)) (e : HomeFault) (h : HomeState) (w : Work)
    → Tells o (Err e) h → Comes {T = X} (and_so o f) (Err (fault_of e)) w
so_err X f (Goes y) (fault.Refused r) h w tells = tt
so_err X f (Goes y) (fault.Failed call kept) h w tells = tt
so_err X f (Goes y) (fault.Differs q a b) h w tells = tells
so_err X f (Goes y) fault.NoMemory h w tells = tt
so_err X f (Differs p m n) (fault.Refused r) h w tells = tt
so_err X f (Differs p m n) (fault.Failed call kept) h w tells = tt
so_err X f (Differs p m n) (fault.Differs q a b) h w tells = same_differs q a b p m n tells
so_err X f (Differs p m n) fault.NoMemory h w tells = tt

module _ (t : TxId) (m : Mode) (p v : ℕ) (b : Bool) (waits : b ≡ true) (n : NodeState) (ps : List (List ℕ)) (cs : List DiskCall) (h new : HomeState) (old later : OutputsView) where
  abbrev lock : Held
  lock = record { page = p; mode = m; kind = kind.Own }

  abbrev rule : Outcome (Reply × HomeState)
  rule = outcome (granted t lock v None (work_at ps h))

  as_rule : grant_own b t m p v (work_with n h ps cs old) ≡ and_so rule (λ x. reply x.0 (with_home (work_with n h ps cs old) x.1))
  as_rule = ap (λ d. grant_own d t m p v (work_with n h ps cs old)) waits ∙ granted_told t lock v None (work_with n h ps cs old)

  -- the grant was carried out, and its reply is put last
  pub own_done : (r : Reply) → later.replies ≡ old.replies ++ r ∷ [] → later.sends ≡ old.sends → Tells rule (Ok r) new
      → Comes (grant_own b t m p v (work_with n h ps cs old)) (Ok (tt {0})) (work_with n new ps cs later)
  own_done r replies sends tells =
      subst (λ o. Comes {T = Unit {0}} o (Ok (tt {0})) (work_with n new ps cs later)) (sym as_rule)
      (so_ok (λ x. reply x.0 (with_home (work_with n h ps cs old) x.1)) rule r new (tt {0}) (work_with n new ps cs later)
      (λ i. record { node = record n { home = new }; pages = ps; calls = cs; replies = replies i; sends = sends i }) tells)

  -- the page couldn't be read, or differs
  pub own_failed : (e : HomeFault) (k : StepFault) → k ≡ fault_of e → Tells rule (Err e) new
      → Comes {T = Unit {0}} (grant_own b t m p v (work_with n h ps cs old)) (Err k) (work_with n new ps cs later)
  own_failed e k is tells =
      subst (λ z. Comes {T = Unit {0}} (grant_own b t m p v (work_with n h ps cs old)) (Err z) (work_with n new ps cs later)) (sym is)
      (subst (λ o. Comes {T = Unit {0}} o (Err (fault_of e)) (work_with n new ps cs later)) (sym as_rule)
      (so_err (Unit {0}) (λ x. reply x.0 (with_home (work_with n h ps cs old) x.1)) rule e new (work_with n new ps cs later) tells))

-- the node and the configuration stay
module _ (h : HomeState) where
  abbrev pub Keeps : HomeState → Type 0
  Keeps k = SameNode h k

  abbrev pub Kept : {R : Type 0} → Outcome (R × HomeState) → Type 0
  Kept (Goes x) = Keeps x.1
  Kept (Differs p m n) = ⊤

  abbrev KeptWork : Outcome HomeWork → Type 0
  KeptWork (Goes w) = Keeps w.home
  KeptWork (Differs p m n) = ⊤

  bring_keeps : (p v : ℕ) (image : Option (List ℕ)) (w : HomeWork) → Keeps w.home → KeptWork (bring p v image w)
  unfolding bring
  bring_keeps p v image w kept = by (is_version (find w.home.pool p) v) image
    where
      of : (r : Result PageAt BadNumber) → KeptWork (and_then (page_or_differs p r) (from_disk p v w))
      of (Ok at) = at_version (at.version == v)
        where
          at_version : (b : Bool) → KeptWork (pick b (Goes (on_pool (λ b. install b p (clean_copy at)) w)) (Differs p v at.version))
          at_version true = record { config = kept.config; node = kept.node; born = kept.born }
          at_version false = tt
      of (Err bad) = tt

      by : (b : Bool) (image : Option (List ℕ)) → KeptWork (unless_current b p v image w)
      by true image = kept
      by false (Some bytes) = record { config = kept.config; node = kept.node; born = kept.born }
      by false None = of (stored_page p (raw_page w.pages p))

  locked_keeps : (t : TxId) (l : Held) (write : Option (ℕ × List ℕ)) (w : HomeWork) → Keeps w.home → Keeps (locked t l write w).work.home
  unfolding perform add
  locked_keeps t l None w kept = record { config = kept.config; node = kept.node; born = kept.born }
  locked_keeps t l (Some x) w kept = record { config = kept.config; node = kept.node; born = kept.born }

  pub granted_kept : (t : TxId) (l : Held) (v : ℕ) (image : Option (List ℕ)) (w : HomeWork) → Keeps w.home → Kept (outcome (granted t l v image w))
  unfolding granted
  granted_kept t l v image w kept = by (bring l.page v image w) (bring_keeps l.page v image w kept)
    where
      by : (o : Outcome HomeWork) → KeptWork o → Kept (outcome (and_so o (locked t l (write_of (pending_of w.home.txs t)))))
      by (Goes k) had = locked_keeps t l (write_of (pending_of w.home.txs t)) k had
      by (Differs p m n) had = tt

  pub own_keeps : (t : TxId) (l : Held) (v : ℕ) (image : Option (List ℕ)) (r : Reply) (new : HomeState) → outcome (granted t l v image (work_on h)) ≡ Goes (r, new) → Keeps new
  own_keeps t l v image r new goes = subst Kept goes (granted_kept t l v image (work_on h) (record { config = refl; node = refl; born = refl }))

-- a page whose image goes with a grant has a copy
pub image_there : (have : Option ℕ) (v : ℕ) (o : Option Copy) → copy_for have v (version_of_copy o) ≡ copy.Image → is_some o ≡ true
unfolding copy_for
image_there have v (Some c) is = refl
image_there have v None is = by (is_version have v) is
  where
    by : (b : Bool) → pick b copy.Current copy.OnDisk ≡ copy.Image → false ≡ true
    by true is = absurd (cc)
    by false is = absurd (cc)

-- where no read is armed to fail, none is later, and none fails
module _ (by : ℕ) (l : List (Option ℕ)) where
  none_after : (read : Bool) (failing : Failing) → NoneFails failing by l → NoneFails (after_reading read failing by) by l
  none_after false failing none = none
  none_after true failing none =
      (ap (λ f. after_read f by) none.0 ∙ ap Some (ap (λ o. set l by (read_after o)) none.1 ∙ ap (λ o. set l by o) (sym none.1) ∙ set-get_or l by None), none.1)

  pub still_none : (read : Bool) (old new : Failing) → new ≡ after_reading read old by → NoneFails old by l → NoneFails new by l
  still_none read old new is none = subst (λ f. NoneFails f by l) (sym is) (none_after read old none)

  pub done_fate : (failing : Failing) → NoneFails failing by l → reading_fate failing by ≡ Done
  done_fate failing none = ap (λ f. reading_fate f by) none.0 ∙ ap read_fate none.1

-- a fault that isn't a failed read halts no step
pub not_halted : (X Y : Type 0) (e : HomeFault) (k : StepFault) → k ≡ fault_of e → is_read_failed {X = X} (Err e) ≡ false → halted_by {X = Y} (Err k) ≡ None
not_halted X Y (fault.Refused r) k is none = ap (λ z. halted_by {X = Y} (Err z)) is
not_halted X Y (fault.Failed call kept) k is none = absurd (cc)
not_halted X Y (fault.Differs q a b) k is none = ap (λ z. halted_by {X = Y} (Err z)) is
not_halted X Y fault.NoMemory k is none = ap (λ z. halted_by {X = Y} (Err z)) is
