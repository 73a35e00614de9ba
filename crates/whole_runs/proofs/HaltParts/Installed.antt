-- What a step on an install writes of a page.
use Rattle.std.proofs.Common.{◌≡◌, ◌≢◌, inr, refl, sym, ap, subst, ◌∙◌, ℕ, ◌+◌, ◌<◌, ◌≤◌, ◌==◌, ◌&&◌, ◌||◌, nat_lt, Bool, true, false, List, length, Option, Some, None, option_map, is_some, arith, eqb-true, mod-lt}
use Rattle.std.specs.Prelude.{⊤}
use Rattle.std.proofs.lemmas.Bool.Decides.{nat_tests}
use Rattle.pcl_base.specs.Limits.{Sizes}
use Rattle.pcl_base.specs.declared.event.Event.{Event}
use Rattle.pcl_base.specs.declared.event.Event.TheVariants as event
use Rattle.pcl_base.specs.declared.log.Record.{Record}
use Rattle.pcl_base.specs.declared.message.Message.{Message}
use Rattle.pcl_base.specs.declared.reply.Reply.TheVariants as reply
use Rattle.text_rules.specs.LogRecord.{whole_len}
use Rattle.run_rules.specs.Redo.{greatest, records_in, all_records}
use Rattle.run_rules.specs.Views.{View, owner_of, since_of, born_of, count_from}
use Rattle.node_rules.specs.InstallRule.{redo_if, redo_lost, version_of_page, take_over, new_table, get_partition, complete, lost_nodes, purge_table, purged, purge_work, settle_all, keep_served, keep_in, install_by, install_partition, own_log, trim_if, born_at, begin_life, in_view, install_view}
use Rattle.node_rules.specs.LockTable.{LockTable, open_table, marked, pages_of}
use Rattle.node_rules.specs.NodeState.{NodeState, Install, Deliver, number_of, partition, table_at, put_table}
use Rattle.node_rules.specs.NodeStep.{begin_work, do_event}
use Rattle.node_rules.specs.Reports.{missing, own_report}
use Rattle.node_rules.specs.Words.{pick}
use Rattle.node_rules.specs.Work.{Work, for_each, with_node, reply}
use Rattle.step_laws.proofs.Outcomes.{On, on_more, on_then}
use Rattle.node_laws.proofs.Lists.{set_same}
use Rattle.cluster_rules.specs.Clusters.{Cluster, view_of_epoch, last_view}
use Rattle.cluster_rules.specs.Links.{head_at}
use Rattle.cluster_laws.specs.Handed.{IsHanded, handed_to}
use Rattle.cluster_laws.specs.Sound.{IsCluster, IsMember}
use Rattle.cluster_laws.proofs.Steps.{up_is_member_law}
use Rattle.cluster_laws.proofs.Lists.{all_any}
use Rattle.cluster_laws.specs.Era.EraLaws.{HasView}
use Rattle.cluster_laws.specs.Era.Eras.{era_in, era_at}
use Rattle.cluster_laws.proofs.EraParts.Ages.{era_is, eras_are_reached_law, eras_never_fall_law}
use Rattle.cluster_laws.proofs.EraParts.Epochs.{epochs_have_views_law, no_further_views_law}
use Rattle.cluster_laws.proofs.EraParts.Lives.{members_know_eras_law}
use Rattle.page_laws.proofs.EntryParts.Gathered.{gathering_is_seen_law}
use Rattle.page_laws.proofs.EntryParts.Tabled.{new_tables_are_idle_law}
use Rattle.page_protocol.specs.State.{Page}
use Rattle.page_protocol.specs.Steps.{Reached}
use Rattle.page_relation.specs.Relation.{IsPageOf}
use Rattle.page_relation.specs.Tables.{TableIs, TableIn, TableOf, ReachedBy, ReachedIn}
use Rattle.page_relation.specs.Work.Landing.{Acts}
use Rattle.page_relation.proofs.WorkParts.Started.{acting}
use Rattle.page_relation.specs.Loss.Writes.{elsewhere}
use Rattle.whole_runs.proofs.HaltParts.Completed.{able, pages_once, settled_may, complete_may}
use Rattle.whole_runs.proofs.HaltParts.Resting.{In, partition_rests}
use Rattle.whole_runs.proofs.HaltParts.Serving.{misses_none, serves_alone}
use Rattle.whole_runs.proofs.HaltParts.Waiting.{Stays, Waits, Past, stays_free, past_free, waits_free, on_both, counted_once, counted_low}
use Rattle.whole_runs.proofs.HaltParts.Walked.{Untouched, May, away_untouched, away_may, here_may, walked}

-- the view that is installed is the next one
next_of : (c : Cluster) (s : NodeState) (e : Event) (v : View) → handed_to c s e ≡ Some (Install v) → view_of_epoch c.views (s.epoch + 1) ≡ Some v
next_of c s (event.Install k) v h = by (view_of_epoch c.views (s.epoch + 1)) h
  where
    by : (o : Option View) → option_map Install o ≡ Some (Install v) → o ≡ Some v
    by None is = absurd (cc)
    by (Some u) is = let same : u ≡ v = cc in ap (λ (x : View). Some x) same
next_of c s (event.Deliver f to) v h = absurd (by (is_some s.view) (head_at c.links f to) h)
  where
    by : (b : Bool) (o : Option Message) → pick b (option_map (Deliver f) o) None ≡ Some (Install v) → ⊥
    by false o is = absurd (cc)
    by true None is = absurd (cc)
    by true (Some m) is = absurd (cc)
next_of c s (event.Begin k) v h = absurd (cc)
next_of c s (event.Read t p) v h = absurd (cc)
next_of c s (event.Write t p place bytes) v h = absurd (cc)
next_of c s (event.Commit t) v h = absurd (cc)
next_of c s (event.Abort t) v h = absurd (cc)
next_of c s (event.Evict k p) v h = absurd (cc)
next_of c s (event.Flush k p) v h = absurd (cc)
next_of c s (event.Crash k) v h = absurd (cc)
next_of c s (event.View live owners) v h = absurd (cc)
next_of c s event.Reopen v h = absurd (cc)
next_of c s (event.Arm k call kept) v h = absurd (cc)
next_of c s (event.Cut k) v h = absurd (cc)

module _ (blank : List ℕ) (c : Cluster) (e : Event) (n p : ℕ) (s : NodeState) (v : View) (a : Page) (i : IsCluster c) (h : IsHanded c e n s (Install v)) (reached : Reached blank a) (is : IsPageOf c p a) where
  member : IsMember c.config c.views n s
  member = (up_is_member_law c n s i h.up).1

  acts : Acts c n
  acts = acting c e n s (Install v) i h

  abbrev q : ℕ
  q = partition c.config p

  q_low : q < c.config.nodes
  q_low = mod-lt p (let some = i.limits.some_nodes in omega (arith, some))

  next : view_of_epoch c.views (s.epoch + 1) ≡ Some v
  next = next_of c s e v h.event

  made : s.epoch + 1 ≤ (last_view c).epoch
  made = by (nat_lt (last_view c).epoch (s.epoch + 1)) refl
    where
      by : (b : Bool) → nat_lt (last_view c).epoch (s.epoch + 1) ≡ b → s.epoch + 1 ≤ (last_view c).epoch
      by true less =
          let none : view_of_epoch c.views (s.epoch + 1) ≡ None = no_further_views_law c (s.epoch + 1) i (inr (grind (arith, nat_tests, less))) in
          let some : view_of_epoch c.views (s.epoch + 1) ≡ Some v = next in
          absurd (cc)
      by false less = grind (arith, nat_tests, less)

  era_v : era_at c q (s.epoch + 1) ≡ since_of v q
  era_v = era_is c (s.epoch + 1) v next q

  epoch_v : v.epoch ≡ s.epoch + 1
  epoch_v =
      let has : HasView c (s.epoch + 1) = epochs_have_views_law c (s.epoch + 1) i (omega arith) made in
      let some : Some v ≡ Some has.view = sym next ∙ has.there in
      let same : v ≡ has.view = cc in
      ap (λ (x : View). x.epoch) same ∙ has.epoch

  -- the era that serves was there before
  below : a.era ≤ s.epoch
  below = by s.view refl (subst (λ (o : Option NodeState). ReachedIn c q a.era o (a.reached n)) h.up (is.nodes.eras n))
    where
      by : (o : Option View) → s.view ≡ o → ReachedBy c q a.era s o (a.reached n) → a.era ≤ s.epoch
      by None own bound = let low = bound.1 in let upto = eras_are_reached_law c q s.epoch i in omega (arith, low, upto)
      by (Some u) own bound =
          let same = bound.0 in
          let low = bound.1 in
          let knows = (members_know_eras_law c n s u member own).eras q in
          let upto = eras_are_reached_law c q s.epoch i in
          omega (arith, same, low, knows, upto)

  -- no era of the new view is before that of the old one
  rises : era_in s.view q ≤ since_of v q
  rises = by s.view refl
    where
      by : (o : Option View) → s.view ≡ o → era_in o q ≤ since_of v q
      by None own = omega arith
      by (Some u) own =
          let knows = (members_know_eras_law c n s u member own).eras q in
          let rise = eras_never_fall_law c q s.epoch (s.epoch + 1) i (omega arith) made in
          let era = era_v in
          omega (arith, knows, rise, era)

  alone : (t : LockTable) → missing t v q ≡ false → owner_of v q ≡ n → a.era < since_of v q → (a.owner ≢ n → marked t a.owner ≡ true → a.era < a.reached a.owner) → a.served ≡ true → a.owner ≡ n
  alone t none owner later marks =
      serves_alone c n p (s.epoch + 1) v t a acts q_low is (record { there = next; low = omega arith; made = made; owner = sym owner; none_missing = none }) later marks

  -- the table that was there
  was_table : (t : LockTable) → table_at s q ≡ Some t → TableIs a p n (era_in s.view q) t.serving t
  was_table t at = subst (TableIn a p n (era_in s.view q)) at (subst (TableOf a p q n) h.up (is.tables.tables n))

  abbrev W : Work → Type 0
  W = In (Waits c.config c.disk p n s.tables v)

  untouched : (w : Work) → W w → Untouched c.disk p w
  untouched w u = record { page = u.page; none = u.none }

  roomy : (w : Work) → W w → q < length w.node.tables
  roomy w u = subst (λ (k : ℕ). q < k) (sym (u.room ∙ member.sound.places ∙ ap (λ (k : Sizes). k.nodes) member.config)) q_low

  -- a partition that the node gets
  get_may : (w : Work) → W w → owner_of v q ≡ n → since_of v q ≡ v.epoch → On (May a p n) (get_partition c.disk q w)
  unfolding get_partition
  get_may w u owner new =
      complete_may blank c n p a i reached is q (with_node w (put_table (record (w.node) { home = take_over q w.node.home }) q (Some table))) u.stays.config q_low (record { page = u.page; none = u.none })
      (λ on at. alone table (misses_none w.node.view _ v table q u.stays.view (set_same None w.node.tables q (Some table) (roomy w u)) on) owner later marks)
    where
      table : LockTable
      table = new_table q (number_of w.node) (take_over q w.node.home)

      later : a.era < since_of v q
      later = let low = below in let epoch = epoch_v in omega (arith, low, epoch, new)

      marks : a.owner ≢ n → marked table a.owner ≡ true → a.era < a.reached a.owner
      marks other on =
          by (number_of w.node == a.owner) refl
          (sym ((gathering_is_seen_law (open_table w.node.home.config q false) (number_of w.node) (own_report q (take_over q w.node.home))).marks a.owner
          ∙ ap (λ (b : Bool). b || (number_of w.node == a.owner && nat_lt (number_of w.node) (length (open_table w.node.home.config q false).reported))) ((new_tables_are_idle_law w.node.home.config q p false).1 a.owner))
          ∙ on)
        where
          by : (b : Bool) → (number_of w.node == a.owner) ≡ b → (b && nat_lt (number_of w.node) (length (open_table w.node.home.config q false).reported)) ≡ true → a.era < a.reached a.owner
          by true same is_on = absurd (other (sym (sym u.stays.number ∙ eqb-true (number_of w.node) a.owner same)))
          by false same is_on = absurd (cc)

  -- one that it keeps
  keep_may : (w : Work) → W w → owner_of v q ≡ n → (o : Option LockTable) → table_at w.node q ≡ o → On (May a p n) (keep_in o c.disk s.view v q w)
  keep_may w u owner None at = elsewhere u.none
  keep_may w u owner (Some t) at = by t.serving refl (was_table t (sym u.table ∙ at))
    where
      lost : List Record
      lost = records_in w.node.home.config c.disk (lost_nodes s.view v)

      rs : List Record
      rs = all_records w.node.home.config c.disk

      away : (x : ℕ) (y : Work) → x ≢ p → Untouched c.disk p y → On (Untouched c.disk p) (redo_lost lost rs q x y)
      away x y other z = by (nat_lt (version_of_page (table_at y.node q) x) (greatest lost x))
        where
          by : (b : Bool) → On (Untouched c.disk p) (redo_if b rs q x y)
          by true = away_untouched c.disk p rs q x y other z
          by false = z

      after : (x : ℕ) (y : Work) → x ≢ p → May a p n y → On (May a p n) (redo_lost lost rs q x y)
      after x y other z = by (nat_lt (version_of_page (table_at y.node q) x) (greatest lost x))
        where
          by : (b : Bool) → On (May a p n) (redo_if b rs q x y)
          by true = away_may c.disk p rs q a n x y other z
          by false = z

      here : (a.served ≡ true → a.owner ≡ n) → (y : Work) → Untouched c.disk p y → On (May a p n) (redo_lost lost rs q p y)
      here own y z = by (nat_lt (version_of_page (table_at y.node q) p) (greatest lost p))
        where
          by : (b : Bool) → On (May a p n) (redo_if b rs q p y)
          by true = here_may c.disk p rs q a n y (able blank c n p a i reached is w.node.home.config u.stays.config own) z
          by false = elsewhere z.none

      by : (b : Bool) → t.serving ≡ b → TableIs a p n (era_in s.view q) b t → On (May a p n) (keep_served b c.disk s.view v q w)
      by true on table =
          on_then (May a p n) (May a p n) (for_each (redo_lost lost rs q) (pages_of w.node.home.config q) w) (λ x. settle_all q (purge_work q v x))
          (walked (λ (x : ℕ). ⊤) (Untouched c.disk p) (May a p n) p (redo_lost lost rs q) (λ y z. elsewhere z.none) (λ x y any. away x y) (λ x y any. after x y) (here (λ served. sym table.here)) (pages_of w.node.home.config q)
          (all_any (pages_of w.node.home.config q)) (pages_once blank c n p a i reached is w.node.home.config u.stays.config q) w (untouched w u))
          (λ y may. settled_may blank c n p a i reached is w.node.home.config u.stays.config q (purge_work q v y) may)
      by false off table =
          subst (λ (o : Option LockTable). On (May a p n) (complete c.disk q (with_node w (purged q v.live o w.node)))) (sym at)
          (complete_may blank c n p a i reached is q (with_node w (put_table w.node q (Some (purge_table v.live t)))) u.stays.config q_low (record { page = u.page; none = u.none })
          (λ on here. alone (purge_table v.live t) (misses_none w.node.view _ v (purge_table v.live t) q u.stays.view (set_same None w.node.tables q (Some (purge_table v.live t)) (roomy w u)) on) owner
          (let less = table.later in let rise = rises in omega (arith, less, rise)) (λ other marked. (let less = table.later in let high = table.reaches a.owner marked in omega (arith, less, high)))))

  here_on : (w : Work) → W w → On (May a p n) (install_partition c.disk s.view v q w)
  unfolding install_partition
  here_on w u = by (owner_of v q == number_of w.node) refl (since_of v q == v.epoch) refl
    where
      own : (owner_of v q == number_of w.node) ≡ true → owner_of v q ≡ n
      own same = eqb-true (owner_of v q) (number_of w.node) same ∙ u.stays.number

      by : (x : Bool) → (owner_of v q == number_of w.node) ≡ x → (y : Bool) → (since_of v q == v.epoch) ≡ y → On (May a p n) (install_by x y c.disk s.view v q w)
      by true same true new = get_may w u (own same) (eqb-true (since_of v q) v.epoch new)
      by true same false old = keep_may w u (own same) (table_at w.node q) refl
      by false other true new = elsewhere u.none
      by false other false old = elsewhere u.none

  abbrev B : Work → Type 0
  B = In (Past a p c.config n v)

  -- the node in the view, and where it begins a life in it
  abbrev viewed : Work
  viewed = reply (reply.Installed v.epoch) (with_node (begin_work s c.disk) (in_view v s))

  abbrev born : Work
  born = with_node viewed (born_at v.epoch viewed.node)

  begun : (b : Bool) → W (begin_life b c.disk v viewed)
  begun false = record { page = refl; none = tt; table = refl; room = refl; stays = record { config = member.config; number = member.number; view = refl } }
  begun true = by (nat_lt (whole_len s.home.config (own_log c.disk born)) (length (own_log c.disk born)))
    where
      by : (x : Bool) → W (trim_if x (whole_len s.home.config (own_log c.disk born)) born)
      by true = record { page = refl; none = tt; table = refl; room = refl; stays = record { config = member.config; number = member.number; view = refl } }
      by false = record { page = refl; none = tt; table = refl; room = refl; stays = record { config = member.config; number = member.number; view = refl } }

  pub install_may : On (May a p n) (do_event c.disk (Install v) (begin_work s c.disk))
  unfolding do_event install_view
  install_may =
      on_more B (May a p n) (for_each (install_partition c.disk s.view v) (count_from 0 s.home.config.nodes) (begin_life (born_of v (number_of s) == v.epoch) c.disk v viewed))
      (λ w both. both.0)
      (walked (λ (x : ℕ). x < c.config.nodes) W B q (install_partition c.disk s.view v) (λ w u. (elsewhere u.none, u.stays))
      (λ x w low other u. partition_rests (Waits c.config c.disk p n s.tables v) x _ (waits_free c.config c.disk p n s.tables v x low other) c.disk s.view v w u)
      (λ x w low other u. partition_rests (Past a p c.config n v) x _ (past_free a p c.config n v x low other) c.disk s.view v w u)
      (λ w u. on_both (May a p n) (In (Stays c.config n v)) (install_partition c.disk s.view v q w) (here_on w u) (partition_rests (Stays c.config n v) q _ (stays_free c.config n v q) c.disk s.view v w u.stays))
      (count_from 0 s.home.config.nodes) (counted_low c.config.nodes 0 s.home.config.nodes (let same = ap (λ (k : Sizes). k.nodes) member.config in omega (arith, same))) (counted_once 0 s.home.config.nodes) _
      (begun (born_of v (number_of s) == v.epoch)))
