-- A read or a write that isn't refused, of a node that is alone.
use Rattle.std.proofs.Common.{◌≡◌, refl, sym, ap, subst, ◌∙◌, ◌≤◌, ◌==◌, Bool, true, false, slice_index, arith}
use Rattle.std.proofs.lemmas.Bool.Decides.{nat_tests}
use Rattle.pcl_base.specs.Limits.{Sizes}
use Rattle.run_rules.specs.Base.{Base}
use Rattle.run_rules.specs.Disk.{Disk}
use Rattle.run_rules.specs.Now.{Story}
use Rattle.run_rules.specs.Views.{count_from}
use Rattle.node_rules.specs.Words.{pick}
use Rattle.node_rules.specs.LockTable.{LockTable}
use Rattle.node_rules.specs.NodeState.{HomeState, page_owner}
use Rattle.node_rules.specs.Work.{and_so, with_pool}
use Rattle.node_rules.specs.BufferRule.{find}
use Rattle.node_rules.specs.AccessRule.{Access, Accessed, take_frames, perform, access, access_in, is_held, next_of, waiting, now_done}
use Rattle.node_rules.specs.OwnerRule.{after_access, do_access}
use Rattle.node_rules.specs.NodeStep.{plan_of, begin_work}
use Rattle.home_laws.specs.Homes.{IsHome}
use Rattle.home_laws.proofs.Allowed.{MayAccess}
use Rattle.home_laws.proofs.Frames.{frames_taken, frames_home}
use Rattle.single_laws.proofs.Entering.{partition_zero}
use Rattle.single_laws.proofs.Alone.{Busy, Kept, fresh_work, node_of, StepOk}
use Rattle.single_laws.proofs.Framing.{event_of, AccessEnds, framed, Framed, frames_are, held_ends}
use Rattle.single_laws.proofs.Granting.{free_ends}

module _ (c : Sizes) (base : Base) (d : Disk) (s : Story) (h : HomeState) (tb : LockTable) (a : Access)
    (few : c.pages ≤ 65536) (one : c.nodes ≡ 1) (home : IsHome h) (kept : Kept c base d s (fresh_work h d)) (busy : Busy h tb base s a.tx) (serving : tb.serving ≡ true) (may : MayAccess a h) where
  abbrev Accepts : Accessed → Type 0
  Accepts = AccessEnds c d s h tb a

  framing : Framed c base d s h tb a
  framing = frames_are c base d s h tb a few one home kept busy serving may

  framed_ends : Accepts (access_in a true (record (take_frames a (fresh_work h d)) { home = with_pool h (frames_taken h a) }))
  unfolding access_in
  framed_ends = by (is_held a h) refl
    where
      by : (e : Bool) → is_held a h ≡ e
          → Accepts
          (pick e (now_done (perform a.tx a.page a.write (framed d h a)))
          (record { next = next_of a true (find (frames_taken h a) a.page); work = record (framed d h a) { home = waiting a (with_pool h (frames_taken h a)) } }))
      by true e = held_ends c base d s h tb a few one home kept busy serving may framing e
      by false e = free_ends c base d s h tb a few one home kept busy serving may framing e

  access_ends : Accepts (access a true (fresh_work h d))
  unfolding access
  access_ends = subst (λ (x : HomeState). Accepts (access_in a true (record (take_frames a (fresh_work h d)) { home = x }))) (sym (frames_home a (fresh_work h d))) framed_ends

  owned : (page_owner (node_of c h tb) a.page == h.txs.node) ≡ true
  unfolding count_from
  owned =
      let config : h.config.nodes ≡ 1 = ap (λ (x : Sizes). x.nodes) kept.config ∙ one in
      let owner : page_owner (node_of c h tb) a.page ≡ 0
      = ap (λ q. slice_index (count_from 0 c.nodes) q) (partition_zero h.config a.page config) ∙ ap (λ n. slice_index (count_from 0 n) 0) one in
      let me = kept.node in
      grind (arith, nat_tests)

  -- the whole access
  pub access_is : StepOk c (event_of a.tx a.page a.write) s d (and_so (do_access a (begin_work (node_of c h tb) d)) plan_of)
  unfolding do_access
  access_is =
      subst (λ e. StepOk c (event_of a.tx a.page a.write) s d (and_so (after_access a (begin_work (node_of c h tb) d) (access a e (fresh_work h d))) plan_of)) (sym owned) access_ends
