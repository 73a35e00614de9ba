-- What is stored once the record of a commit was forced, or a commit wrote nothing.
use Rattle.std.proofs.Common.{◌≡◌, refl, sym, ap, subst, ◌∙◌, ℕ, suc, ◌<◌, ◌^◌, ◌==◌, Bool, true, false, List, [], ◌∷◌, length, Option, Some, None, is_some, arith}
use Rattle.std.proofs.lemmas.Bool.Decides.{nat_tests}
use Rattle.pcl_base.specs.Limits.{Sizes}
use Rattle.pcl_base.specs.declared.tx.TxId.{TxId}
use Rattle.text_rules.specs.LogRecord.{record_bytes}
use Rattle.run_rules.specs.Disk.{Disk, log_at}
use Rattle.node_rules.specs.BufferRule.{private_bytes}
use Rattle.node_rules.specs.DiskCalls.{Force, done, all_done}
use Rattle.node_rules.specs.EndRule.{pages_written, new_version, logged, commit_record}
use Rattle.node_rules.specs.NodeState.{NodeState, Commit}
use Rattle.node_rules.specs.OpenTxs.{held_by}
use Rattle.node_rules.specs.Refusals.{refusal}
use Rattle.node_rules.specs.Words.{pick}
use Rattle.cluster_rules.specs.Clusters.{Cluster, node_at}
use Rattle.cluster_laws.specs.Sound.{IsMember}
use Rattle.cluster_laws.proofs.Steps.{up_is_member_law}
use Rattle.home_laws.specs.Homes.{is_exclusive_lock}
use Rattle.home_laws.proofs.Serials.{one_if}
use Rattle.home_laws.proofs.Unpins.{times}
use Rattle.cluster_laws.proofs.EraParts.Lives.{stands}
use Rattle.page_protocol.specs.Homes.{committing}
use Rattle.pcl_base.specs.declared.tx.Mode.TheVariants.{Exclusive}
use Rattle.page_protocol.specs.State.{Holding, Page}
use Rattle.page_relation.specs.Relation.{IsPageOf}
use Rattle.page_relation.specs.Together.{IsRelated}
use Rattle.redo_laws.specs.Laws.{HasLog}
use Rattle.redo_laws.specs.Words.{IsWhole}
use Rattle.page_laws.specs.Storage.Looks.{IsStored, ranges_of_part, with_record}
use Rattle.page_laws.specs.Written.Record.{MayCommit}
use Rattle.page_laws.proofs.WrittenParts.Logging.{none_in, commit_is_logged_law, commit_is_elsewhere_law}
use Rattle.page_laws.proofs.WrittenParts.Looked.{times_look}
use Rattle.page_relation.specs.Loss.Writes.{ScriptsFit}
use Rattle.page_relation.proofs.LossParts.Committing.{page_low, version_low}
use Rattle.page_relation.proofs.LossParts.Halting.{MayEnd, may_end, log_whole, some_pages}
use Rattle.page_relation.specs.Work.Landing.{disk_of}
use Rattle.end_relation.specs.Over.{over_of}
use Rattle.end_relation.proofs.Overs.{MayClose, IsOverWork, over_is}
use Rattle.end_relation.proofs.Passing.{Passes, filled, holds, next, none_later, commit_passes}

none_private : {X : Type 0} (o : Option X) → is_some o ≡ false → o ≡ None
none_private None e = refl
none_private (Some x) e = absurd (cc)

no_pages : (k : ℕ) → (k == 0) ≡ true → k ≡ 0
no_pages k e = grind (arith, nat_tests)

module _ (blank : List ℕ) (c : Cluster) (n : ℕ) (s : NodeState) (t : TxId) (r : IsRelated blank c) (up : node_at c n ≡ Some s) (mine : t.node ≡ n) (allowed : refusal s (Commit t) ≡ None)
    (fit : ScriptsFit c r.pages.page) where
  member : IsMember c.config c.views n s
  member = (up_is_member_law c n s r.cluster up).1

  ends : MayEnd s t
  ends = may_end s t allowed

  pub may_commit : MayClose true s t
  may_commit = record { home = member.sound.home; view = ends.view; in_view = ends.in_view; there = ends.there; waits = λ k. ends.waits }

  over_it : IsOverWork true t c s (over_of true t c s)
  over_it = over_is true t c s may_commit

  low_born : s.home.txs.born < 2 ^ 32
  low_born =
      let at = stands c n s ends.view member ends.in_view in
      let born = at.born in
      let upto = at.upto in
      let epoch = at.epoch in
      let high = member.sound.epoch.1 in
      omega (arith, born, upto, epoch, high)

  can : (length (pages_written s.home t) == 0) ≡ false → MayCommit s.home t
  can some =
      record {
        limits = member.sound.limits;
        home = member.sound.home;
        there = ends.there;
        waits = ends.waits;
        some = some_pages (length (pages_written s.home t)) some;
        last = ends.last;
        born = low_born;
        serial = fit.serials n s up;
        versions = λ q there.
            let low = page_low blank c n s t r.cluster up allowed q there in
            version_low blank c n s t r.cluster up allowed q (r.pages.page q) (r.pages.reached q low) (r.pages.related q low) there;
      }

  log_there : HasLog s.home.config c.disk n
  log_there =
      let low = (up_is_member_law c n s r.cluster up).0 in
      let long = r.cluster.disk.logs in
      record { node = subst (λ (k : Sizes). n < k.nodes) (sym member.config) low; log = omega (arith, low, long) }

  log_is_whole : IsWhole s.home.config (log_at c.disk n)
  log_is_whole = subst (λ (k : Sizes). IsWhole k (log_at c.disk n)) (sym member.config) (log_whole c n s ends.view r.logs up ends.in_view)

  -- the disk once the calls of the end are done
  abbrev forced : Disk
  forced = done n c.disk (Force t (record_bytes (commit_record s.home t)))

  disk_is : disk_of c n (over_of true t c s) ≡ pick (length (pages_written s.home t) == 0) c.disk forced
  disk_is = ap (all_done n c.disk) over_it.calls ∙ by (length (pages_written s.home t) == 0)
    where
      by : (d : Bool) → all_done n c.disk (pick d [] (Force t (record_bytes (commit_record s.home t)) ∷ [])) ≡ pick d c.disk forced
      by true = refl
      by false = refl

  module _ (p : ℕ) (low : p < c.config.pages) where
    abbrev a : Page
    a = r.pages.page p

    is : IsPageOf c p a
    is = r.pages.related p low

    locked_private : is_some (private_bytes s.home.pool t p) ≡ is_exclusive_lock (held_by s.home.txs t p)
    locked_private = filled blank c n s t r.cluster up mine true may_commit p a (r.pages.reached p low) is

    writes_it : is_exclusive_lock (held_by s.home.txs t p) ≡ true → (length (pages_written s.home t) == 0) ≡ true → ⊥
    writes_it locked none =
        let count : times p (pages_written s.home t) ≡ 1 = times_look s.home t member.sound.home ends.waits p ∙ ap one_if (locked_private ∙ locked) in
        let zero_times = none_in (pages_written s.home t) p (no_pages (length (pages_written s.home t)) none) in
        omega (arith, count, zero_times)

    stored_wrote : is_exclusive_lock (held_by s.home.txs t p) ≡ true → (length (pages_written s.home t) == 0) ≡ false
        → IsStored c.config forced p (committing a t (ranges_of_part (logged s.home t p).part)).disk (committing a t (ranges_of_part (logged s.home t p).part)).log
    unfolding committing
    stored_wrote locked some =
        subst (λ (k : ℕ). IsStored c.config forced p a.disk (with_record a.log k (suc a.now) (ranges_of_part (logged s.home t p).part))) (sym mine)
        (subst (λ (v : ℕ). IsStored c.config forced p a.disk (with_record a.log n v (ranges_of_part (logged s.home t p).part)))
        (next blank c n s t r.cluster up mine true may_commit p a (r.pages.reached p low) is refl holding)
        (subst (λ (k : Sizes). IsStored k forced p a.disk (with_record a.log n (new_version s.home p) (ranges_of_part (logged s.home t p).part))) member.config
        (commit_is_logged_law c.disk n s.home t p a.disk a.log log_there log_is_whole (can some) (locked_private ∙ locked)
        (none_later blank c n s t r.cluster up mine true may_commit p a (r.pages.reached p low) is refl holding)
        (subst (λ (k : Sizes). IsStored k c.disk p a.disk a.log) (sym member.config) is.stored))))
      where
        holding : a.home t ≡ Holding Exclusive
        holding = holds blank c n s t r.cluster up mine true may_commit p a (r.pages.reached p low) is refl locked

    stored_elsewhere : is_exclusive_lock (held_by s.home.txs t p) ≡ false → (length (pages_written s.home t) == 0) ≡ false → IsStored c.config forced p a.disk a.log
    stored_elsewhere shared some =
        subst (λ (k : Sizes). IsStored k forced p a.disk a.log) member.config
        (commit_is_elsewhere_law c.disk n s.home t p a.disk a.log log_is_whole (can some) (none_private (private_bytes s.home.pool t p) (locked_private ∙ shared))
        (subst (λ (k : Sizes). IsStored k c.disk p a.disk a.log) (sym member.config) is.stored))

    -- the page past the commit
    pub page_passes : (k : Page) × Passes c p t true (held_by s.home.txs t p) (disk_of c n (over_of true t c s)) a k
    page_passes =
        subst (λ (d : Disk). (k : Page) × Passes c p t true (held_by s.home.txs t p) d a k) (sym disk_is)
        (by (length (pages_written s.home t) == 0) refl)
      where
        past : (d : Disk) → (is_exclusive_lock (held_by s.home.txs t p) ≡ true → IsStored c.config d p (committing a t (ranges_of_part (logged s.home t p).part)).disk (committing a t (ranges_of_part (logged s.home t p).part)).log)
            → (is_exclusive_lock (held_by s.home.txs t p) ≡ false → IsStored c.config d p a.disk a.log) → (k : Page) × Passes c p t true (held_by s.home.txs t p) d a k
        past d = commit_passes blank c n s t r.cluster up mine true may_commit p a (r.pages.reached p low) is refl d ends.last (fit.wrote t p low)

        by : (d : Bool) → (length (pages_written s.home t) == 0) ≡ d → (k : Page) × Passes c p t true (held_by s.home.txs t p) (pick d c.disk forced) a k
        by true none = past c.disk (λ locked. absurd (writes_it locked none)) (λ shared. is.stored)
        by false some = past forced (λ locked. stored_wrote locked some) (λ shared. stored_elsewhere shared some)
