-- What a node sends while it redoes a partition, takes one over, keeps it or gives it up has its parties.
use Rattle.std.proofs.Common.{◌≡◌, refl, sym, ap, subst, ◌∙◌, ℕ, ◌+◌, ◌<◌, ◌≤◌, ◌==◌, nat_lt, Bool, true, false, List, length, slice_index_or, slice_set, Option, Some, None, arith}
use Rattle.std.specs.Prelude.{IfSome, ⊤}
use Rattle.std.specs.List.{AllByRecursion}
use Rattle.std.proofs.lemmas.Bool.Decides.{nat_tests}
use Rattle.pcl_base.specs.Limits.{Sizes}
use Rattle.pcl_base.specs.declared.log.Record.{Record}
use Rattle.pcl_base.specs.declared.message.Body.TheVariants as body
use Rattle.pcl_base.specs.declared.reply.Reply.TheVariants as reply
use Rattle.pcl_base.specs.declared.tx.TxId.{TxId}
use Rattle.text_rules.specs.MessageBytes.{IsPageOf}
use Rattle.text_rules.specs.StoredPage.{PageAt}
use Rattle.run_rules.specs.Disk.{Disk}
use Rattle.run_rules.specs.Redo.{redone, greatest, records_in, all_records}
use Rattle.run_rules.specs.Views.{View, is_live, owner_of, since_of, born_of}
use Rattle.node_rules.specs.InstallRule.{write_newer, version_in, redo_to, redo_page, settle_all, serve_table, begin_serving, complete_if, is_complete, complete, take_over, new_table, get_partition, redo_if, redo_lost, version_of_page, lost_nodes, purge_table, purged, purge_work, keep_served, keep_in, owned_before, give_up, left_if, tell_new_owner, install_by, install_partition}
use Rattle.node_rules.specs.LockTable.{LockTable, pages_of, open_table, set_version, serve}
use Rattle.node_rules.specs.NodeState.{HomeState, NodeState, number_of, table_at, put_table}
use Rattle.node_rules.specs.OpenTxs.{name_of}
use Rattle.node_rules.specs.OwnerRule.{settle_page}
use Rattle.node_rules.specs.Reports.{report, own_report}
use Rattle.node_rules.specs.Work.{HomeWork, Work, work_of_home, with_node, for_each, reply, read_page}
use Rattle.node_rules.specs.Words.{flag_at}
use Rattle.home_laws.proofs.Tests.{number_equal}
use Rattle.step_laws.proofs.Outcomes.{On, on_then, on_so, on_each, on_any}
use Rattle.node_laws.proofs.Lists.{set_look, set_length, set_same}
use Rattle.node_laws.proofs.Tables.{pages_are}
use Rattle.page_relation.specs.Together.{IsOf}
use Rattle.related_runs.specs.Parties.{IsLiving}
use Rattle.related_runs.proofs.Listing.{locks_listed, waits_listed}
use Rattle.related_runs.proofs.Talking.{AreTables, Talks, talks_send, frame_home, table_put, settle_talks}
use Rattle.related_runs.proofs.Waiters.{TableWaits, version_waits, gather_table, open_waits, purge_waits}

module _ (c : Sizes) (some : 1 ≤ c.nodes) (v : View) (me : ℕ) where
  module _ (T : ℕ → LockTable → Type 0) (q : ℕ) (low : q < c.nodes) where
    -- ---- redo: a version is put into an entry
    module _ (keeps : (t : LockTable) (p x : ℕ) → T q t → T q (set_version t p x)) where
      version_tables : (p x : ℕ) (n : NodeState) → AreTables c some v me T n.tables → AreTables c some v me T (version_in q p x (table_at n q) n).tables
      version_tables p x n tables = by (table_at n q) refl
        where
          by : (o : Option LockTable) → table_at n q ≡ o → AreTables c some v me T (version_in q p x o n).tables
          by None there = tables
          by (Some t) there = table_put c some v me T q (set_version t p x) n.tables (keeps t p x (subst (λ (o : Option LockTable). IfSome o (T q)) there (tables.1 q low))) tables

      version_frame : (p x : ℕ) (o : Option LockTable) (n : NodeState) → ((version_in q p x o n).view ≡ n.view) × ((version_in q p x o n).epoch ≡ n.epoch)
      version_frame p x None n = (refl, refl)
      version_frame p x (Some t) n = (refl, refl)

      newer_same : (y : Bool) (p : ℕ) (at : PageAt) (w : HomeWork) → ((write_newer y p at w).home.config ≡ w.home.config) × ((write_newer y p at w).home.txs ≡ w.home.txs)
      newer_same true p at w = (refl, refl)
      newer_same false p at w = (refl, refl)

      pub redo_talks : (rs : List Record) (p : ℕ) (w : Work) → Talks c some v me T w → On (Talks c some v me T) (redo_page rs q p w)
      unfolding redo_page
      redo_talks rs p w i =
          on_so (λ (x : PageAt). ⊤) (Talks c some v me T) (read_page w.pages p) (λ old. redo_to q p old (redone rs p old) w) (on_any (read_page w.pages p))
          (λ old any.
          let new : PageAt = redone rs p old in
          let same = newer_same (nat_lt old.version new.version) p new (work_of_home w) in
          let frame = version_frame p new.version (table_at w.node q) w.node in (
            record {
              config = same.0 ∙ i.0.config;
              node = ap (λ s. s.node) same.1 ∙ i.0.node;
              born = ap (λ s. s.born) same.1 ∙ i.0.born;
              view_is = frame.0 ∙ i.0.view_is;
              epoch_is = frame.1 ∙ i.0.epoch_is;
            },
            version_tables p new.version w.node i.1,
            i.2,
          ))

      pub lost_talks : (lost rs : List Record) (p : ℕ) (w : Work) → Talks c some v me T w → On (Talks c some v me T) (redo_lost lost rs q p w)
      lost_talks lost rs p w i = by (nat_lt (version_of_page (table_at w.node q) p) (greatest lost p))
        where
          by : (b : Bool) → On (Talks c some v me T) (redo_if b rs q p w)
          by true = redo_talks rs p w i
          by false = i

    -- ---- a partition that the node owns in the view
    module _ (out : (t : LockTable) → T q t → (owner_of v q ≡ me) × TableWaits (IsLiving v) t) (into : (t : LockTable) → TableWaits (IsLiving v) t → T q t) where
      versions : (t : LockTable) (p x : ℕ) → T q t → T q (set_version t p x)
      versions t p x is = into (set_version t p x) (version_waits (IsLiving v) t p x (out t is).1)

      same_pages : (w : Work) → Talks c some v me T w → AllByRecursion (IsPageOf c q) (pages_of w.node.home.config q)
      same_pages w i = subst (λ (k : Sizes). AllByRecursion (IsPageOf c q) (pages_of k q)) (sym i.0.config) (pages_are c q low)

      one_talks : (p : ℕ) (w : Work) → IsPageOf c q p → Talks c some v me T w → On (Talks c some v me T) (settle_page p w)
      one_talks p w page i =
          settle_talks c some v me T p
          (λ t is. subst (λ (k : ℕ). T k t → (owner_of v k ≡ me) × TableWaits (IsLiving v) t) (sym page.1) (out t) is)
          (λ owns t is. subst (λ (k : ℕ). T k t) (sym page.1) (into t is)) w i

      pub all_talks : (w : Work) → Talks c some v me T w → On (Talks c some v me T) (settle_all q w)
      all_talks w i =
          on_each (Talks c some v me T) (IsPageOf c q) settle_page (λ p x page j. one_talks p x page j) (pages_of w.node.home.config q) (same_pages w i) w i

      serving_talks : (w : Work) → Talks c some v me T w → On (Talks c some v me T) (begin_serving q w)
      serving_talks w i = all_talks (reply (reply.Serving q) (with_node w (serve_table q (table_at w.node q) w.node))) (by (table_at w.node q) refl)
        where
          by : (o : Option LockTable) → table_at w.node q ≡ o → Talks c some v me T (reply (reply.Serving q) (with_node w (serve_table q o w.node)))
          by None there = i
          by (Some t) there = (
            record { config = i.0.config; node = i.0.node; born = i.0.born; view_is = i.0.view_is; epoch_is = i.0.epoch_is },
            table_put c some v me T q (serve t) w.node.tables (into (serve t) (out t (subst (λ (o : Option LockTable). IfSome o (T q)) there (i.1.1 q low))).1) i.1,
            i.2,
          )

      pub complete_talks : (d : Disk) (w : Work) → Talks c some v me T w → On (Talks c some v me T) (complete d q w)
      unfolding complete
      complete_talks d w i = by (is_complete w.node.view q (table_at w.node q))
        where
          by : (b : Bool) → On (Talks c some v me T) (complete_if b d q w)
          by false = i
          by true =
              on_then (Talks c some v me T) (Talks c some v me T) (for_each (redo_page (all_records w.node.home.config d) q) (pages_of w.node.home.config q) w) (begin_serving q)
              (on_each (Talks c some v me T) (IsPageOf c q) (redo_page (all_records w.node.home.config d) q)
              (λ p x page j. redo_talks versions (all_records w.node.home.config d) p x j) (pages_of w.node.home.config q) (same_pages w i) w i)
              serving_talks

  -- ---- an install: the tables of the partitions below k are of the view, the others of the one before
  module _ (before : Option View) (live : is_live v.live me ≡ true)
      (same : (q : ℕ) → q < c.nodes → (since_of v q == v.epoch) ≡ false → owned_before before q me ≡ owned_before (Some v) q me)
      (on : (u : View) (t : TxId) → before ≡ Some u → is_live v.live t.node ≡ true → IsLiving u t → IsLiving v t) where
    -- a transaction of the view before
    abbrev pub WasLiving : Option View → TxId → Type 0
    WasLiving None t = ⊥
    WasLiving (Some u) t = IsLiving u t

    abbrev pub Now : ℕ → LockTable → Type 0
    Now q t = (owner_of v q ≡ me) × TableWaits (IsLiving v) t

    abbrev pub Was : ℕ → LockTable → Type 0
    Was q t = (owned_before before q me ≡ true) × TableWaits (WasLiving before) t

    abbrev pub At : ℕ → ℕ → LockTable → Type 0
    At k q t = (q < k → Now q t) × (k ≤ q → Was q t)

    was_now : (o : Option View) (t : TxId) → before ≡ o → flag_at v.live t.node ≡ true → WasLiving o t → IsLiving v t
    was_now None t e l is = absurd is
    was_now (Some u) t e l is = on u t e l is

    module _ (q : ℕ) (low : q < c.nodes) where
      -- the tables when this partition is done
      advance : (ts us : List (Option LockTable)) → length us ≡ length ts → IfSome (slice_index_or us q None) (Now q)
          → ((j : ℕ) → (j == q) ≡ false → slice_index_or us j None ≡ slice_index_or ts j None) → AreTables c some v me (At q) ts → AreTables c some v me (At (q + 1)) us
      advance ts us long here others tables = (long ∙ tables.0, each)
        where
          of_now : (o : Option LockTable) → IfSome o (Now q) → IfSome o (At (q + 1) q)
          of_now None is = tt
          of_now (Some t) is = ((λ l. is), (λ l. absurd (omega (arith, l))))

          of_at : (j : ℕ) (o : Option LockTable) → (j == q) ≡ false → IfSome o (At q j) → IfSome o (At (q + 1) j)
          of_at j None e is = tt
          of_at j (Some t) e is = ((λ l. is.0 (grind (arith, nat_tests, e, l))), (λ l. is.1 (omega (arith, l))))

          each : (j : ℕ) → j < c.nodes → IfSome (slice_index_or us j None) (At (q + 1) j)
          each j below = by (j == q) refl
            where
              by : (b : Bool) → (j == q) ≡ b → IfSome (slice_index_or us j None) (At (q + 1) j)
              by true e =
                  let at : j ≡ q = grind (arith, nat_tests, e) in
                  subst (λ (k : ℕ). IfSome (slice_index_or us k None) (At (q + 1) k)) (sym at) (of_now (slice_index_or us q None) here)
              by false e = of_at j (slice_index_or us j None) e (subst (λ (o : Option LockTable). IfSome o (At q j)) (sym (others j e)) (tables.1 j below))

      -- another table of this partition, or none
      put_now : (ts : List (Option LockTable)) (o : Option LockTable) → IfSome o (Now q) → AreTables c some v me (At q) ts → AreTables c some v me (At (q + 1)) (slice_set ts q o)
      put_now ts o is tables =
          advance ts (slice_set ts q o) (set_length ts q o)
          (subst (λ (x : Option LockTable). IfSome x (Now q)) (sym (set_same None ts q o (subst (λ (k : ℕ). q < k) (sym tables.0) low))) is)
          (λ j e. set_look (λ (x : Option LockTable). x ≡ slice_index_or ts j None) None ts q j o (λ same. absurd (differs j same e)) refl) tables
        where
          differs : (j : ℕ) → j ≡ q → (j == q) ≡ false → ⊥
          differs j same f = grind (arith, nat_tests, same, f)

      -- the table stays where it isn't there, or is of the view already
      stay_now : (ts : List (Option LockTable)) → IfSome (slice_index_or ts q None) (Now q) → AreTables c some v me (At q) ts → AreTables c some v me (At (q + 1)) ts
      stay_now ts is tables = advance ts ts refl is (λ j e. refl) tables

      now_out : (t : LockTable) → At (q + 1) q t → (owner_of v q ≡ me) × TableWaits (IsLiving v) t
      now_out t is = is.0 (omega arith)

      now_into : owner_of v q ≡ me → (t : LockTable) → TableWaits (IsLiving v) t → At (q + 1) q t
      now_into owns t is = ((λ l. (owns, is)), (λ l. absurd (omega (arith, l))))

      -- own transactions are living
      own_living : (h : HomeState) → h.txs.node ≡ me → h.txs.born ≡ born_of v me → (k : ℕ) → IsLiving v (name_of h.txs k)
      own_living h node born k = record { live = ap (is_live v.live) node ∙ live; born = born ∙ ap (born_of v) (sym node) }

      own_is : (h : HomeState) → h.txs.node ≡ me → h.txs.born ≡ born_of v me → (k : ℕ) → IsOf v me (name_of h.txs k)
      own_is h node born k = record { node = node; born = born }

      abbrev Start : Work → Type 0
      Start w = Talks c some v me (At q) w

      abbrev End : Work → Type 0
      End w = Talks c some v me (At (q + 1)) w

      -- a partition that the node gets
      new_waits : (h : HomeState) → h.txs.node ≡ me → h.txs.born ≡ born_of v me → (n : ℕ) → TableWaits (IsLiving v) (new_table q n h)
      unfolding own_report
      new_waits h node born n =
          gather_table (IsLiving v) (open_table h.config q false) n (own_report q h) (waits_listed (IsLiving v) h.config q h.pool h.txs h.txs.txs (own_living h node born))
          (open_waits (IsLiving v) h.config q false)

      get_talks : owner_of v q ≡ me → (d : Disk) (w : Work) → Start w → On End (get_partition d q w)
      unfolding get_partition
      get_talks owns d w i =
          let h : HomeState = take_over q w.node.home in
          complete_talks (At (q + 1)) q low now_out (now_into owns) d
          (with_node w (put_table (record (w.node) { home = take_over q w.node.home }) q (Some (new_table q (number_of w.node) (take_over q w.node.home))))) (
            frame_home c some v me w.node.home (take_over q w.node.home) w.node.view w.node.epoch refl refl refl i.0,
            put_now w.node.tables (Some (new_table q (number_of w.node) (take_over q w.node.home))) (owns, new_waits (take_over q w.node.home) i.0.node i.0.born (number_of w.node)) i.1,
            i.2,
          )

      -- one that it keeps: what its table has of nodes that aren't live is purged first
      was_versions : (t : LockTable) (p x : ℕ) → At q q t → At q q (set_version t p x)
      was_versions t p x is = ((λ l. absurd (omega (arith, l))), (λ l. let was = is.1 (omega arith) in (was.0, version_waits (WasLiving before) t p x was.1)))

      purge_talks : owner_of v q ≡ me → (w : Work) → Start w → End (purge_work q v w)
      purge_talks owns w i = by (table_at w.node q) refl
        where
          by : (o : Option LockTable) → table_at w.node q ≡ o → End (with_node w (purged q v.live o w.node))
          by None there = (i.0, stay_now w.node.tables (subst (λ (o : Option LockTable). IfSome o (Now q)) (sym there) tt) i.1, i.2)
          by (Some t) there =
              let at = subst (λ (o : Option LockTable). IfSome o (At q q)) there (i.1.1 q low) in
              let was = at.1 (omega arith) in (
                record { config = i.0.config; node = i.0.node; born = i.0.born; view_is = i.0.view_is; epoch_is = i.0.epoch_is },
                put_now w.node.tables (Some (purge_table v.live t)) (owns, purge_waits (WasLiving before) (IsLiving v) v.live (λ x e l. was_now before x refl e l) t was.1) i.1,
                i.2,
              )

      was_pages : (w : Work) → Start w → AllByRecursion (IsPageOf c q) (pages_of w.node.home.config q)
      was_pages w i = subst (λ (k : Sizes). AllByRecursion (IsPageOf c q) (pages_of k q)) (sym i.0.config) (pages_are c q low)

      keep_talks : owner_of v q ≡ me → (o : Option LockTable) → (d : Disk) (w : Work) → table_at w.node q ≡ o → Start w → On End (keep_in o d before v q w)
      keep_talks owns None d w there i = (i.0, stay_now w.node.tables (subst (λ (o : Option LockTable). IfSome o (Now q)) (sym there) tt) i.1, i.2)
      keep_talks owns (Some t) d w there i = by t.serving
        where
          by : (x : Bool) → On End (keep_served x d before v q w)
          by true =
              on_then Start End
              (for_each (redo_lost (records_in w.node.home.config d (lost_nodes before v)) (all_records w.node.home.config d) q) (pages_of w.node.home.config q) w)
              (λ x. settle_all q (purge_work q v x))
              (on_each Start (IsPageOf c q) (redo_lost (records_in w.node.home.config d (lost_nodes before v)) (all_records w.node.home.config d) q)
              (λ p x page j.
              lost_talks (At q) q low was_versions (records_in w.node.home.config d (lost_nodes before v)) (all_records w.node.home.config d) p x j)
              (pages_of w.node.home.config q) (was_pages w i) w i)
              (λ x j. all_talks (At (q + 1)) q low now_out (now_into owns) (purge_work q v x) (purge_talks owns x j))
          by false = complete_talks (At (q + 1)) q low now_out (now_into owns) d (purge_work q v w) (purge_talks owns w i)

      -- one that another node gets, or keeps
      gone : owned_before before q me ≡ false → (ts : List (Option LockTable)) → AreTables c some v me (At q) ts → IfSome (slice_index_or ts q None) (Now q)
      gone none ts tables = by (slice_index_or ts q None) (tables.1 q low)
        where
          by : (o : Option LockTable) → IfSome o (At q q) → IfSome o (Now q)
          by None is = tt
          by (Some t) is = absurd (let was = is.1 (omega arith) in let bad : true ≡ false = sym was.0 ∙ none in cc)

      left_talks : (x : Bool) → owned_before before q me ≡ x → (w : Work) → Start w → End (with_node w (left_if x q w.node))
      left_talks true e w i = (
        frame_home c some v me w.node.home (give_up q w.node).home w.node.view w.node.epoch refl refl refl i.0,
        put_now w.node.tables None tt i.1,
        i.2,
      )
      left_talks false e w i = (i.0, stay_now w.node.tables (gone e w.node.tables i.1) i.1, i.2)

      tell_talks : since_of v q ≡ v.epoch → (w : Work) → Start w → End (tell_new_owner before v q w)
      unfolding report
      tell_talks new w i =
          let left : Work = with_node w (left_if (owned_before before q (number_of w.node)) q w.node) in
          let j : End left = left_talks (owned_before before q (number_of w.node)) (ap (owned_before before q) (sym i.0.node)) w i in
          talks_send c some v me (At (q + 1)) (owner_of v q) (body.Report (report q left.node.home)) left (
            refl,
            new,
            locks_listed (IsOf v me) left.node.home.config q false left.node.home.txs left.node.home.txs.txs (own_is left.node.home j.0.node j.0.born),
            waits_listed (IsOf v me) left.node.home.config q left.node.home.pool left.node.home.txs left.node.home.txs.txs (own_is left.node.home j.0.node j.0.born),
          ) j

      pub partition_talks : (d : Disk) (w : Work) → Start w → On End (install_partition d before v q w)
      unfolding install_partition
      partition_talks d w i = by (owner_of v q == number_of w.node) refl (since_of v q == v.epoch) refl
        where
          owns : (owner_of v q == number_of w.node) ≡ true → owner_of v q ≡ me
          owns e = number_equal (owner_of v q) (number_of w.node) e ∙ i.0.node

          not_owned : (owner_of v q == number_of w.node) ≡ false → (since_of v q == v.epoch) ≡ false → owned_before before q me ≡ false
          not_owned e f = same q low f ∙ ap (λ (k : ℕ). owner_of v q == k) (sym i.0.node) ∙ e

          by : (x : Bool) → (owner_of v q == number_of w.node) ≡ x → (y : Bool) → (since_of v q == v.epoch) ≡ y → On End (install_by x y d before v q w)
          by true e true f = get_talks (owns e) d w i
          by true e false f = keep_talks (owns e) (table_at w.node q) d w refl i
          by false e true f = tell_talks (number_equal (since_of v q) v.epoch f) w i
          by false e false f = (i.0, stay_now w.node.tables (gone (not_owned e f) w.node.tables i.1) i.1, i.2)
