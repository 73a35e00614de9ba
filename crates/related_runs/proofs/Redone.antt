-- What is granted while a partition is redone, taken over, kept or given up stands at its home.
use Rattle.std.proofs.Common.{◌≡◌, ◌≢◌, ◌⊎◌, inl, inr, refl, sym, ap, subst, ◌∙◌, ℕ, ◌<◌, ◌≤◌, ◌==◌, nat_lt, Bool, true, false, List, [], ◌∷◌, ◌++◌, length, Option, Some, None, is_some, option_map}
use Rattle.std.specs.List.{AllByRecursion}
use Rattle.pcl_base.specs.Limits.{Sizes}
use Rattle.pcl_base.specs.declared.lock.Held.{Held}
use Rattle.pcl_base.specs.declared.lock.Kind.{Kind}
use Rattle.pcl_base.specs.declared.log.Record.{Record}
use Rattle.pcl_base.specs.declared.reply.Reply.{Reply}
use Rattle.pcl_base.specs.declared.reply.Reply.TheVariants as reply
use Rattle.pcl_base.specs.declared.tx.TxId.{TxId}
use Rattle.text_rules.specs.MessageBytes.{IsPage, IsPageOf}
use Rattle.text_rules.specs.StoredPage.{PageAt}
use Rattle.run_rules.specs.Disk.{Disk}
use Rattle.run_rules.specs.Redo.{redone, greatest, records_in, all_records}
use Rattle.run_rules.specs.Views.{View, owner_of, count_from}
use Rattle.node_rules.specs.Words.{pick}
use Rattle.node_rules.specs.BufferRule.{Copy, copy_at, version_of_copy, find, cleaned, clean}
use Rattle.node_rules.specs.InstallRule.{write_newer, version_in, redo_to, redo_page, settle_all, serve_table, begin_serving, complete_if, is_complete, complete, take_over, new_table, get_partition, redo_if, redo_lost, version_of_page, lost_nodes, purged, purge_work, keep_served, keep_in, owned_before, give_up, left_if, send_report, tell_new_owner}
use Rattle.node_rules.specs.LockTable.{LockTable, pages_of}
use Rattle.node_rules.specs.NodeState.{HomeState, NodeState, partition, number_of, table_at, put_table}
use Rattle.node_rules.specs.OpenTxs.{held_by, waits_on}
use Rattle.node_rules.specs.Work.{HomeWork, Work, work_of_home, with_node, for_each, reply, read_page}
use Rattle.home_laws.proofs.Given.{give_up_is_sound_law}
use Rattle.home_laws.proofs.Partitions.{take_over_is_sound_law}
use Rattle.step_laws.proofs.Outcomes.{On, on_then, on_so, on_each}
use Rattle.node_laws.proofs.Lists.{all_weaker}
use Rattle.node_laws.proofs.Records.{FitRecord, records_fit, redone_long, read_long}
use Rattle.node_laws.proofs.Shelves.{left_are}
use Rattle.node_laws.proofs.Stored.{wrote}
use Rattle.node_laws.proofs.Tables.{pages_are}
use Rattle.node_laws.proofs.Works.{Base, IsHomeOf, IsHomeWork}
use Rattle.page_laws.specs.Look.Ends.{HasKinds, HasGivenUp}
use Rattle.page_laws.specs.Look.Grants.{of_kind}
use Rattle.page_laws.proofs.LookParts.Copies.{cleaning_is_seen_law}
use Rattle.page_laws.proofs.LookParts.Turning.{taking_over_is_seen_law, giving_up_is_seen_law}
use Rattle.related_runs.specs.Granted.{StandsAt}
use Rattle.related_runs.proofs.Ended.{clean_part}
use Rattle.related_runs.proofs.PageLists.{Before, partition_once, absent_by}
use Rattle.related_runs.proofs.Told.{AreTold, tells_moved, tells_more, Fine, fine_weaker, settle_list}

-- a copy that is made clean keeps its version
cleaned_version : (b : Bool) (o : Option Copy) → version_of_copy (pick b (cleaned o) o) ≡ version_of_copy o
cleaned_version true None = refl
cleaned_version true (Some x) = refl
cleaned_version false o = refl

clean_find : (p q : ℕ) (h : HomeState) → find (clean h.pool p) q ≡ find h.pool q
clean_find p q h = ap version_of_copy ((cleaning_is_seen_law p h).copies q) ∙ cleaned_version (p == q) (copy_at h.pool q)

-- locks of another kind are held as before
kind_held : (b : Bool) (k : Kind) (o : Option Held) → is_some (pick b (option_map (of_kind k) o) o) ≡ is_some o
kind_held true k None = refl
kind_held true k (Some l) = refl
kind_held false k o = refl

kinds_stand : (q : ℕ) (k : Kind) (h g : HomeState) → HasKinds q k h g → ((p : ℕ) → find g.pool p ≡ find h.pool p) → (t : TxId) (p v : ℕ) → StandsAt h t p v → StandsAt g t p v
kinds_stand q k h g kinds copies t p v stands =
    record {
      holds = ap is_some (kinds.held t p) ∙ kind_held (partition h.config p == q) k (held_by h.txs t p) ∙ stands.holds;
      waits = ap (λ o. waits_on o p) (kinds.waits t) ∙ stands.waits;
      version = copies p ∙ stands.version;
    }

module _ (front : List Reply) (last : ℕ) (b : Base) (some : 1 ≤ b.config.nodes) where
  -- another home that is sound too
  moved_fine : (D : ℕ → ℕ → Type 0) (w x : Work) → IsHomeWork b (work_of_home x) → x.replies ≡ w.replies → x.node.home.txs.last ≡ w.node.home.txs.last
      → ((t : TxId) (p v : ℕ) → StandsAt w.node.home t p v → StandsAt x.node.home t p v) → Fine front last b D w → Fine front last b D x
  moved_fine D w x part replies same k f = (
    part,
    subst (AreTold front last D x.node.home) (sym replies) (tells_moved front last D D w.node.home x.node.home w.replies same (λ t p v s d. (k t p v s, d)) f.1),
  )

  module _ (q : ℕ) (low : q < b.config.nodes) where
    -- redo
    newer_fine : (D : ℕ → ℕ → Type 0) (y : Bool) (p : ℕ) (at : PageAt) (w : Work) (n : NodeState) → IsPage b.config p → length at.bytes ≡ b.config.size → Fine front last b D w
        → Fine front last b D (let x : HomeWork = write_newer y p at (work_of_home w) in record w { node = record n { home = x.home }; pages = x.pages; calls = x.calls })
    newer_fine D false p at w n page sized f = f
    newer_fine D true p at w n page sized f =
        moved_fine D w
        (let x : HomeWork = write_newer true p at (work_of_home w) in record w { node = record n { home = x.home }; pages = x.pages; calls = x.calls })
        (record { home = (clean_part b p (work_of_home w) f.0).home; stored = wrote b.config p at w.pages w.calls page sized f.0.stored }) refl refl
        (λ t r v stands. record { holds = stands.holds; waits = stands.waits; version = clean_find p r w.node.home ∙ stands.version }) f

    redo_fine : (D : ℕ → ℕ → Type 0) (rs : List Record) → AllByRecursion (FitRecord b.config.size) rs → (p : ℕ) (w : Work) → IsPage b.config p → Fine front last b D w
        → On (Fine front last b D) (redo_page rs q p w)
    unfolding redo_page
    redo_fine D rs fit p w page f =
        on_so (λ (at : PageAt). length at.bytes ≡ b.config.size) (Fine front last b D) (read_page w.pages p) (λ old. redo_to q p old (redone rs p old) w)
        (read_long b.config.size w.pages p (f.0.stored.pages p page))
        (λ old sized.
        newer_fine D (nat_lt old.version (redone rs p old).version) p (redone rs p old) w (version_in q p (redone rs p old).version (table_at w.node q) w.node) page
        (redone_long b.config.size rs p old fit sized) f)

    same_pages : (w : Work) → IsHomeWork b (work_of_home w) → AllByRecursion (IsPageOf b.config q) (pages_of w.node.home.config q)
    same_pages w part = subst (λ (c : Sizes). AllByRecursion (IsPageOf b.config q) (pages_of c q)) (sym part.home.config) (pages_are b.config q low)

    records_part : (w : Work) (d : Disk) (ns : List ℕ) → IsHomeWork b (work_of_home w) → AllByRecursion (FitRecord b.config.size) (records_in w.node.home.config d ns)
    records_part w d ns part =
        subst (λ (c : Sizes). AllByRecursion (FitRecord c.size) (records_in w.node.home.config d ns)) part.home.config (records_fit w.node.home.config d ns)

    module _ (D : ℕ → Type 0) (none : (p : ℕ) → D p → partition b.config p ≢ q) where
      -- what was granted before, and on pages of the partition
      abbrev pub Here : ℕ → Type 0
      Here p = D p ⊎ (partition b.config p ≡ q)

      abbrev Was : Work → Type 0
      Was w = Fine front last b (λ p x. D p) w

      abbrev Is : Work → Type 0
      Is w = Fine front last b (λ p x. Here p) w

      still : (w : Work) → Was w → Is w
      still w f = fine_weaker front last b (λ p x. D p) (λ p x. Here p) (λ p v d. inl d) w f

      all_fine : (w : Work) → Was w → On Is (settle_all q w)
      all_fine w f =
          settle_list front last b Here (pages_of w.node.home.config q)
          (all_weaker (IsPageOf b.config q) (λ p. IsPage b.config p × Here p) (λ p is. (is.0, inr is.1)) (pages_of w.node.home.config q) (same_pages w f.0))
          (partition_once w.node.home.config q (subst (λ (c : Sizes). 1 ≤ c.nodes) (sym f.0.home.config) some)) w
          (fine_weaker front last b (λ p x. D p) (λ p x. Before Here (pages_of w.node.home.config q) p)
          (λ p v d. (
            inl d,
            absent_by (λ r. partition b.config r ≡ q) (pages_of w.node.home.config q) p
                (all_weaker (IsPageOf b.config q) (λ r. partition b.config r ≡ q) (λ r is. is.1) (pages_of w.node.home.config q) (same_pages w f.0)) (none p d),
          ))
          w f)

      serving_fine : (w : Work) → Was w → On Is (begin_serving q w)
      serving_fine w f = all_fine (reply (reply.Serving q) (with_node w (serve_table q (table_at w.node q) w.node))) (by (table_at w.node q))
        where
          served : AreTold front last (λ p x. D p) w.node.home (w.replies ++ reply.Serving q ∷ [])
          served = tells_more front last (λ p x. D p) w.node.home w.replies (reply.Serving q) (tt, refl) f.1

          by : (o : Option LockTable) → Was (reply (reply.Serving q) (with_node w (serve_table q o w.node)))
          by None = (f.0, served)
          by (Some t) = (f.0, served)

      pub complete_fine : (d : Disk) (w : Work) → Was w → On Is (complete d q w)
      unfolding complete
      complete_fine d w f = by (is_complete w.node.view q (table_at w.node q))
        where
          by : (x : Bool) → On Is (complete_if x d q w)
          by false = still w f
          by true =
              on_then Was Is (for_each (redo_page (all_records w.node.home.config d) q) (pages_of w.node.home.config q) w) (begin_serving q)
              (on_each Was (IsPageOf b.config q) (redo_page (all_records w.node.home.config d) q)
              (λ p x page g. redo_fine (λ p x. D p) (all_records w.node.home.config d) (records_part w d (count_from 0 w.node.home.config.nodes) f.0) p x page.0 g)
              (pages_of w.node.home.config q) (same_pages w f.0) w f)
              serving_fine

      -- a partition that the node gets
      taken_part : (w : Work) → IsHomeWork b (work_of_home w) → IsHomeOf b (take_over q w.node.home)
      taken_part w part =
          let of = part.home in
          record {
            config = of.config;
            number = of.number;
            born = of.born;
            home = take_over_is_sound_law q w.node.home of.home;
            rights = left_are b.config _ w.node.home.shelf of.rights;
          }

      pub get_fine : (d : Disk) (w : Work) → Was w → On Is (get_partition d q w)
      unfolding get_partition
      get_fine d w f =
          complete_fine d _
          (moved_fine (λ p x. D p) w
          (with_node w
          (put_table (record (w.node) { home = take_over q w.node.home }) q
          (Some (new_table q (number_of w.node) (take_over q w.node.home)))))
          (record { home = taken_part w f.0; stored = f.0.stored }) refl refl
          (kinds_stand q _ w.node.home (take_over q w.node.home) (taking_over_is_seen_law q w.node.home).locks (λ p. refl)) f)

      -- one that it keeps
      lost_fine : (lost rs : List Record) → AllByRecursion (FitRecord b.config.size) rs → (p : ℕ) (w : Work) → IsPage b.config p → Was w → On Was (redo_lost lost rs q p w)
      lost_fine lost rs fit p w page f = by (nat_lt (version_of_page (table_at w.node q) p) (greatest lost p))
        where
          by : (x : Bool) → On Was (redo_if x rs q p w)
          by true = redo_fine (λ p x. D p) rs fit p w page f
          by false = f

      purged_fine : (v : View) (w : Work) → Was w → Was (purge_work q v w)
      purged_fine v w f = by (table_at w.node q)
        where
          by : (o : Option LockTable) → Was (with_node w (purged q v.live o w.node))
          by None = f
          by (Some t) = f

      pub keep_fine : (o : Option LockTable) (d : Disk) (before : Option View) (v : View) (w : Work) → Was w → On Is (keep_in o d before v q w)
      keep_fine None d before v w f = still w f
      keep_fine (Some t) d before v w f = by t.serving
        where
          by : (x : Bool) → On Is (keep_served x d before v q w)
          by true =
              on_then Was Is
              (for_each (redo_lost (records_in w.node.home.config d (lost_nodes before v)) (all_records w.node.home.config d) q) (pages_of w.node.home.config q) w)
              (λ x. settle_all q (purge_work q v x))
              (on_each Was (IsPageOf b.config q) (redo_lost (records_in w.node.home.config d (lost_nodes before v)) (all_records w.node.home.config d) q)
              (λ p x page g.
              lost_fine (records_in w.node.home.config d (lost_nodes before v)) (all_records w.node.home.config d) (records_part w d (count_from 0 w.node.home.config.nodes) f.0) p x page.0 g)
              (pages_of w.node.home.config q) (same_pages w f.0) w f)
              (λ x g. all_fine (purge_work q v x) (purged_fine v x g))
          by false = complete_fine d (purge_work q v w) (purged_fine v w f)

      -- one that another node gets
      given_fine : (w : Work) → Was w → Was (with_node w (give_up q w.node))
      given_fine w f =
          moved_fine (λ p x. D p) w (with_node w (give_up q w.node))
          (record {
            home = record { config = f.0.home.config; number = f.0.home.number; born = f.0.home.born; home = (give_up_is_sound_law q w.node f.0.home.home).1; rights = f.0.home.rights };
            stored = f.0.stored;
          }) refl refl
          (kinds_stand q _ w.node.home (give_up q w.node).home gone.locks
          (λ p. ap version_of_copy (gone.copies p) ∙ cleaned_version (partition w.node.home.config p == q) (copy_at w.node.home.pool p))) f
        where
          gone : HasGivenUp q w.node.home (give_up q w.node).home
          gone = giving_up_is_seen_law q w.node

      pub tell_fine : (before : Option View) (v : View) (w : Work) → Was w → Is (tell_new_owner before v q w)
      tell_fine before v w f = still (tell_new_owner before v q w) (by (owned_before before q (number_of w.node)))
        where
          by : (x : Bool) → Was (send_report q (owner_of v q) (with_node w (left_if x q w.node)))
          by true = given_fine w f
          by false = f
