-- A step whose home made changing calls, and the node that it leaves.
use Rattle.std.proofs.Common.{◌≡◌, ℕ, ◌++◌, List, [], ◌∷◌, Result, Ok, Err, refl, ap, sym, subst, ◌∙◌}
use Rattle.std.specs.Prelude.{OnErr, OnOk}
use Rattle.pcl_base.specs.declared.reply.Reply.{Reply}
use Rattle.pcl_base.specs.declared.reply.Reply.TheVariants as reply
use Rattle.node_rules.specs.BufferRule.{evict}
use Rattle.node_rules.specs.OpenTxs.{begin}
use Rattle.node_rules.specs.DiskCalls.{DiskCall}
use Rattle.node_rules.specs.NodeState.{HomeState}
use Rattle.node_rules.specs.NodeStep.{evict_copy, flush_copy}
use Rattle.node_rules.specs.Work.{HomeWork, Work, Outcome, Goes, Differs, work_of_home, with_home_work, reply, write_back}
use Rattle.node_rules.specs.AccessRule.{on_pool}
use Rattle.home.specs.Answers.{Leaves, evict_copy as evicted, home_after}
use Rattle.home.specs.Device.{Told, work_on}
use Rattle.home.specs.declared.fault.HomeFault.{HomeFault}
use Rattle.home.specs.declared.fault.HomeFault.TheVariants as fault
use Rattle.home_laws.proofs.Kept.{home_written}
use Rattle.home_laws.proofs.Leaves.{home_left}
use Rattle.node_parts.specs.Comes.{Comes, work_of}
use Rattle.node_parts.specs.Outputs.{OutputsView}
use Rattle.node_parts.specs.State.{PartsView, AreParts, node_of}
use Rattle.node_parts.specs.declared.fault.StepFault.{StepFault}
use Rattle.page_owner.specs.Carry.{SameNode, fault_of}
use Rattle.page_owner.specs.Writes.{after_calls}
use Rattle.own_steps.specs.Calls.{LeavesCalls, evict_calls, flush_calls}
use Rattle.page_owner.proofs.Frames.{then_made, write_back_frames}
use Rattle.page_owner.proofs.Planned.{node_kept}

-- the parts with another home of the node
pub parts_kept : (v : PartsView) (h : HomeState) → AreParts v → SameNode v.home h → AreParts (record v { home = h })
parts_kept v h is same = record {
  node = node_kept (node_of v) h is.node same (node_of v).tables refl (λ q. refl);
  number = is.number ∙ sym same.node;
  config = is.config ∙ sym same.config;
  tidy = is.tidy;
}

-- a home where a transaction was opened, or whose copy was written, is of the same node
pub begin_same : (h new : HomeState) → new ≡ record h { txs = begin h.txs } → SameNode h new
unfolding begin
begin_same h new is = record { config = ap (λ k. k.config) is; node = ap (λ k. k.txs.node) is; born = ap (λ k. k.txs.born) is }

pub evict_same : (p : ℕ) (h : HomeState) → SameNode h (evicted p (work_on h)).home
evict_same p h = let is = home_left p (work_on h) in record { config = ap (λ k. k.config) is; node = ap (λ k. k.txs.node) is; born = ap (λ k. k.txs.born) is }

pub flush_same : (p : ℕ) (h : HomeState) → SameNode h (write_back p (work_on h)).home
flush_same p h = let is = home_written p (work_on h) in record { config = ap (λ k. k.config) is; node = ap (λ k. k.txs.node) is; born = ap (λ k. k.txs.born) is }

-- where a home ended early and nothing differs, the rule is left open
pub early : (X Y : Type 0) (n : ℕ) (calls : List DiskCall) (old new : Told) (e : HomeFault) (f : StepFault) (o : Outcome Work) (after : Work) → f ≡ fault_of e → Leaves {T = X} n (Err e) calls old new
    → Comes {T = Y} o (Err f) after
early X Y n calls old new e f o after is left = subst (λ (z : StepFault). Comes {T = Y} o (Err z) after) (sym is) (by e o left)
  where
    by : (e : HomeFault) (o : Outcome Work) → Leaves {T = X} n (Err e) calls old new → Comes {T = Y} o (Err (fault_of e)) after
    by (fault.Refused r) (Goes k) left = tt
    by (fault.Refused r) (Differs p m k) left = tt
    by (fault.Failed c kept) (Goes k) left = tt
    by (fault.Failed c kept) (Differs p m k) left = tt
    by (fault.Differs q a b) o left = absurd left
    by fault.NoMemory (Goes k) left = tt
    by fault.NoMemory (Differs p m k) left = tt

-- the home after an answer is of the same node
pub after_same : {X : Type 0} (r : Result X HomeFault) (old new k : HomeState) → k ≡ home_after r old new → SameNode old new → SameNode old k
after_same {X = X} r old new k is same = subst (λ z. SameNode old z) (sym is) (by r)
  where
    by : (r : Result X HomeFault) → SameNode old (home_after r old new)
    by (Ok x) = same
    by (Err (fault.Refused r)) = record { config = refl; node = refl; born = refl }
    by (Err (fault.Failed c kept)) = same
    by (Err (fault.Differs p m n)) = same
    by (Err fault.NoMemory) = record { config = refl; node = refl; born = refl }

-- the parts as they are seen, and as they are given, with another home of the node
pub same_seen : (u v : PartsView) (h : HomeState) → u ≡ v → SameNode u.home h → SameNode v.home h
same_seen u v h is same = subst (λ (z : PartsView). SameNode z.home h) is same

pub parts_seen : (u v : PartsView) (h : HomeState) → u ≡ v → AreParts v → SameNode u.home h → AreParts (record u { home = h })
parts_seen u v h is parts same = parts_kept u h (subst AreParts (sym is) parts) same

pub leaves_seen : {X : Type 0} (u v : PartsView) (r : Result X StepFault) (f : HomeState → List DiskCall) (old new : Told) → u ≡ v → LeavesCalls u.home.txs.node r (f u.home) old new
    → LeavesCalls v.home.txs.node r (f v.home) old new
leaves_seen u v r f old new is left = subst (λ (z : PartsView). LeavesCalls z.home.txs.node r (f z.home) old new) is left

pub begun_same : {X E : Type 0} (r : Result X E) (h new : HomeState) → OnOk r (new ≡ record h { txs = begin h.txs }) → OnErr r (new ≡ h) → SameNode h new
begun_same (Ok x) h new ok err = begin_same h new ok
begun_same (Err e) h new ok err = subst (λ k. SameNode h k) (sym err) (record { config = refl; node = refl; born = refl })

-- a reply to what a home made
module _ (u v : PartsView) (is : u ≡ v) (ps : List (List ℕ)) (cs : List DiskCall) (old later : OutputsView) (h : HomeState) where
  abbrev w : Work
  w = work_of (node_of u) ps cs old

  -- the work after it
  abbrev pub done_work : List DiskCall → Work
  done_work calls = work_of (record (node_of u) { home = h }) (after_calls ps calls) (cs ++ calls) later

  replied : (x : HomeWork) (r : Reply) → h ≡ x.home → later.replies ≡ old.replies ++ r ∷ [] → later.sends ≡ old.sends
      → reply r (with_home_work w (then_made (work_of_home w) x)) ≡ done_work x.calls
  replied x r home replies sends =
      sym (λ i. record { node = record (node_of u) { home = home i }; pages = after_calls ps x.calls; calls = cs ++ x.calls; replies = replies i; sends = sends i })

  pub evict_done : (p : ℕ) → h ≡ (evicted p (work_on u.home)).home → later.replies ≡ old.replies ++ reply.Evicted ∷ [] → later.sends ≡ old.sends
      → evict_copy p (work_of (node_of v) ps cs old) ≡ done_work (evict_calls p v.home)
  evict_done p home replies sends =
      subst (λ (z : PartsView). evict_copy p (work_of (node_of z) ps cs old) ≡ done_work (evict_calls p z.home)) is
      (ap (λ k. reply reply.Evicted (with_home_work w (on_pool (λ b. evict b p) k))) (write_back_frames p (work_of_home w))
      ∙ replied (evicted p (work_on u.home)) reply.Evicted home replies sends)

  pub flush_done : (p : ℕ) → h ≡ (write_back p (work_on u.home)).home → later.replies ≡ old.replies ++ reply.Flushed ∷ [] → later.sends ≡ old.sends
      → flush_copy p (work_of (node_of v) ps cs old) ≡ done_work (flush_calls p v.home)
  flush_done p home replies sends =
      subst (λ (z : PartsView). flush_copy p (work_of (node_of z) ps cs old) ≡ done_work (flush_calls p z.home)) is
      (ap (λ k. reply reply.Flushed (with_home_work w k)) (write_back_frames p (work_of_home w))
      ∙ replied (write_back p (work_on u.home)) reply.Flushed home replies sends)
