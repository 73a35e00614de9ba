-- What holds in the tables of a node after a step.
use Rattle.std.proofs.Common.{◌≡◌, refl, sym, ap, subst, ◌∙◌, ℕ, zero, suc, ◌+◌, ◌<◌, ◌≤◌, ◌==◌, ◌&&◌, not, nat_lt, Bool, true, false, slice_index_or, Option, Some, None, is_some, arith}
use Rattle.std.specs.Prelude.{IfSome, ⊤}
use Rattle.std.specs.List.{list_all}
use Rattle.pcl_base.specs.Limits.{Sizes}
use Rattle.pcl_base.specs.declared.message.Body.{Body}
use Rattle.pcl_base.specs.declared.message.Body.TheVariants as body
use Rattle.pcl_base.specs.declared.reply.Reason.{Reason}
use Rattle.pcl_base.specs.declared.reply.Reason.TheVariants as reason
use Rattle.pcl_base.specs.declared.reply.Reply.TheVariants as reply
use Rattle.pcl_base.specs.declared.tx.TxId.{TxId}
use Rattle.run_rules.specs.Disk.{Disk}
use Rattle.run_rules.specs.Views.{View, is_live, born_of, since_of, count_from}
use Rattle.node_rules.specs.InstallRule.{install_partition, owned_before, trim_if, born_at, begin_life, in_view, install_view}
use Rattle.node_rules.specs.LockTable.{PageEntry, LockTable}
use Rattle.node_rules.specs.NodeState.{NodeState, NodeEvent, Begin, Read, Write, Commit, Abort, Deliver, Evict, Flush, Install, Cut, number_of, table_at}
use Rattle.node_rules.specs.NodeStep.{Plan, plan_of, begin_work, do_event, unless_refused, nodestep}
use Rattle.node_rules.specs.Refusals.{owns_new, may_install, refusal}
use Rattle.node_rules.specs.Work.{Work, with_node, for_each, reply}
use Rattle.rule_laws.specs.LaterViews.{IsWhole}
use Rattle.home_laws.proofs.Tests.{not_false, number_equal}
use Rattle.home_laws.proofs.Words.{and_true}
use Rattle.step_laws.proofs.Outcomes.{On, on_then, on_so, on_more}
use Rattle.node_laws.specs.Nodes.{IsViewOf, IsSound, CanCome, DiskFits}
use Rattle.node_laws.specs.Laws.{IsStep}
use Rattle.node_laws.proofs.Events.{not_refused}
use Rattle.node_laws.proofs.Lists.{all_weaker, all_each}
use Rattle.cluster_laws.proofs.Lists.{all_any}
use Rattle.node_laws.proofs.Views.{KeepsOwners, moved_of, moved_keeps, begins_keep}
use Rattle.cluster_laws.proofs.EraParts.Lives.{live_known}
use Rattle.cluster_laws.proofs.EraParts.Nexts.{follows_born}
use Rattle.cluster_facts.proofs.TableParts.Ending.{Goes}
use Rattle.cluster_facts.proofs.TableParts.Entries.{Held, Marked, Waits, EntryHas, TableHas}
use Rattle.cluster_facts.proofs.TableParts.Events.{NodeHas, Brings, Hears, event_says}
use Rattle.cluster_facts.proofs.TableParts.Keeping.{AreTables, Holds}
use Rattle.cluster_facts.proofs.TableParts.Redoing.{At, partition_holds}

-- what holds of more holds of all in a table
pub table_weaker : (P Q : TxId → Type 0) (R S : ℕ → Type 0) → ((t : TxId) → P t → Q t) → ((n : ℕ) → R n → S n) → (t : LockTable) → TableHas P R t → TableHas Q S t
table_weaker P Q R S k l t all =
    all_weaker (λ (x : PageEntry). EntryHas P R x.entry) (λ (x : PageEntry). EntryHas Q S x.entry)
    (λ x is. (
      all_weaker (Held P R) (Held Q S) (λ h y. k h.tx y) x.entry.holders is.0,
      all_weaker (Marked P R) (Marked Q S) (λ r y. l r.node y) x.entry.rights is.1,
      all_weaker (Waits P R) (Waits Q S) (λ w y. k w.tx y) x.entry.waiting is.2,
    ))
    t.entries all

-- in which life a node's home is after an event
abbrev pub life_after : NodeState → NodeEvent → ℕ
life_after n (Install v) = born_of v (number_of n)
life_after n event = n.home.txs.born

-- What goes on holding of what a partition's table has: of an install what its view keeps live, of a partition that
-- the node keeps.
abbrev pub GoesOn : NodeState → (ℕ → TxId → Type 0) → (ℕ → TxId → Type 0) → (ℕ → ℕ → Type 0) → (ℕ → ℕ → Type 0) → ℕ → NodeEvent → Type 0
GoesOn n P Q R S q (Install v) =
    (since_of v q == v.epoch) ≡ false → owned_before n.view q (number_of n) ≡ true
    → ((t : TxId) → is_live v.live t.node ≡ true → P q t → Q q t) × ((m : ℕ) → is_live v.live m ≡ true → R q m → S q m)
GoesOn n P Q R S q event = ((t : TxId) → P q t → Q q t) × ((m : ℕ) → R q m → S q m)

pub going_on : (n : NodeState) (P Q : ℕ → TxId → Type 0) (R S : ℕ → ℕ → Type 0) (q : ℕ) (event : NodeEvent) → ((t : TxId) → P q t → Q q t) → ((m : ℕ) → R q m → S q m) → GoesOn n P Q R S q event
going_on n P Q R S q Begin k l = (k, l)
going_on n P Q R S q (Read t p) k l = (k, l)
going_on n P Q R S q (Write t p place bytes) k l = (k, l)
going_on n P Q R S q (Commit t) k l = (k, l)
going_on n P Q R S q (Abort t) k l = (k, l)
going_on n P Q R S q (Deliver from m) k l = (k, l)
going_on n P Q R S q (Evict p) k l = (k, l)
going_on n P Q R S q (Flush p) k l = (k, l)
going_on n P Q R S q (Install v) k l = λ old owned. ((λ t live is. k t is), (λ m live is. l m is))
going_on n P Q R S q Cut k l = (k, l)

-- ---- an install
module _ (n : NodeState) (d : Disk) (sound : IsSound n) (v : View) (whole : IsWhole n.home.config v) (live : is_live v.live (number_of n) ≡ true) (may : may_install n n.view v ≡ true)
    (P Q : ℕ → TxId → Type 0) (R S : ℕ → ℕ → Type 0) (gives : (q : ℕ) (t : TxId) → Q q t → S q t.node) (own : (q : ℕ) (t : TxId) → t.node ≡ number_of n → t.born ≡ born_of v (number_of n) → Q q t)
    (on : (q : ℕ) → q < n.home.config.nodes → GoesOn n P Q R S q (Install v)) (tables : NodeHas P R n) where
  stay : (q : ℕ) → q < n.home.config.nodes → (since_of v q == v.epoch) ≡ false → owned_before n.view q (number_of n) ≡ owned_before (Some v) q (number_of n)
  stay = by n.view sound.view may
    where
      by : (o : Option View) → IfSome o (IsViewOf n) → may_install n o v ≡ true → KeepsOwners n.home.config.nodes o v (number_of n)
      by None w m =
          begins_keep v (number_of n) n.home.config.nodes
          (and_true (born_of v (number_of n) == v.epoch && nat_lt n.epoch v.epoch) (list_all (owns_new v (number_of n)) (count_from 0 n.home.config.nodes)) m).1
      by (Some u) w m = moved_keeps n.home.config u v (number_of n) w.whole (moved_of n.home.config u v w.whole m)

  born_later : (born_of v (number_of n) == v.epoch) ≡ false → n.home.txs.born ≡ born_of v (number_of n)
  born_later e = by n.view sound.view may
    where
      by : (o : Option View) → IfSome o (IsViewOf n) → may_install n o v ≡ true → n.home.txs.born ≡ born_of v (number_of n)
      by None w m =
          let parts = and_true (born_of v (number_of n) == v.epoch && nat_lt n.epoch v.epoch) (list_all (owns_new v (number_of n)) (count_from 0 n.home.config.nodes)) m in
          let now = (and_true (born_of v (number_of n) == v.epoch) (nat_lt n.epoch v.epoch) parts.0).0 in
          let bad : true ≡ false = sym now ∙ e in absurd (cc)
      by (Some u) w m = sym w.born ∙ sym (follows_born n.home.config u v (number_of n) w.whole m (live_known n.home.config u (number_of n) w.whole w.live) w.live)

  abbrev Between : ℕ → ℕ → LockTable → Type 0
  Between = At n.home.config sound.limits.some_nodes (number_of n) (born_of v (number_of n)) P Q R S gives own n.view v stay on

  abbrev Stage : ℕ → Work → Type 0
  Stage k w = Holds n.home.config sound.limits.some_nodes (number_of n) (born_of v (number_of n)) (Between k) w

  first_tables : AreTables n.home.config sound.limits.some_nodes (number_of n) (born_of v (number_of n)) (Between 0) n.tables
  first_tables = (sound.places, each)
    where
      each : (q : ℕ) → q < n.home.config.nodes → IfSome (table_at n q) (Between 0 q)
      each q low = by (table_at n q) refl
        where
          by : (o : Option LockTable) → table_at n q ≡ o → IfSome o (Between 0 q)
          by None e = tt
          by (Some t) e = (
            (λ l. absurd (omega (arith, l))),
            (λ l. (
              sym (sound.owned q low) ∙ ap (λ (o : Option LockTable). is_some o) e,
              subst (λ (o : Option LockTable). IfSome o (TableHas (P q) (R q))) e (tables q low),
            )),
          )

  trimmed : (y : Bool) (keep : ℕ) (w : Work) → Stage 0 w → Stage 0 (trim_if y keep w)
  trimmed true keep w i = i
  trimmed false keep w i = i

  begun : (x : Bool) → (born_of v (number_of n) == v.epoch) ≡ x → Stage 0 (begin_life x d v (reply (reply.Installed v.epoch) (with_node (begin_work n d) (in_view v n))))
  begun false e = (record { config = refl; node = refl; life = born_later e }, first_tables)
  begun true e =
      trimmed _ _ (with_node (reply (reply.Installed v.epoch) (with_node (begin_work n d) (in_view v n))) (born_at v.epoch (in_view v n)))
      (record { config = refl; node = refl; life = sym (number_equal (born_of v (number_of n)) v.epoch e) }, first_tables)

  partitions_say : (k q : ℕ) → q + k ≤ n.home.config.nodes → (w : Work) → Stage q w → On (Stage (q + k)) (for_each (install_partition d n.view v) (count_from q k) w)
  unfolding for_each count_from
  partitions_say zero q low w i = subst (λ (j : ℕ). Stage j w) (omega arith) i
  partitions_say (suc k) q low w i =
      subst (λ (j : ℕ). On (Stage j) (for_each (install_partition d n.view v) (count_from q (suc k)) w)) (omega arith)
      (on_then (Stage (q + 1)) (Stage (q + 1 + k)) (install_partition d n.view v q w) (for_each (install_partition d n.view v) (count_from (q + 1) k))
      (partition_holds n.home.config sound.limits.some_nodes (number_of n) (born_of v (number_of n)) P Q R S gives own n.view v stay on q (omega (arith, low)) d w i)
      (λ x j. partitions_say k (q + 1) (omega (arith, low)) x j))

  install_says : On (Stage (0 + n.home.config.nodes)) (install_view d v (begin_work n d))
  unfolding install_view
  install_says =
      partitions_say n.home.config.nodes 0 (omega arith) (begin_life (born_of v (number_of n) == v.epoch) d v (reply (reply.Installed v.epoch) (with_node (begin_work n d) (in_view v n))))
      (begun (born_of v (number_of n) == v.epoch) refl)

  pub install_has : On (λ (w : Work). NodeHas Q S w.node × (w.node.home.txs.born ≡ born_of v (number_of n))) (install_view d v (begin_work n d))
  install_has =
      on_more (Stage (0 + n.home.config.nodes)) (λ (w : Work). NodeHas Q S w.node × (w.node.home.txs.born ≡ born_of v (number_of n))) (install_view d v (begin_work n d)) (λ w i. (
        λ q low. let below = subst (λ (k : Sizes). q < k.nodes) i.0.config low in by q below (slice_index_or w.node.tables q None) (i.1.1 q below),
        i.0.life,
      )) install_says
    where
      by : (q : ℕ) → q < n.home.config.nodes → (o : Option LockTable) → IfSome o (Between (0 + n.home.config.nodes) q) → IfSome o (TableHas (Q q) (S q))
      by q low None is = tt
      by q low (Some t) is = is.0 (omega (arith, low))

-- ---- a step
module _ (n : NodeState) (d : Disk) (sound : IsSound n) (fits : DiskFits n.home.config d) (P Q : ℕ → TxId → Type 0) (R S : ℕ → ℕ → Type 0) (gives : (q : ℕ) (t : TxId) → Q q t → S q t.node)
    (tables : NodeHas P R n) where
  abbrev Has : ℕ → Work → Type 0
  Has born w = NodeHas Q S w.node × (w.node.home.txs.born ≡ born)

  -- the tables as they are
  weaker : ((q : ℕ) → q < n.home.config.nodes → ((t : TxId) → P q t → Q q t) × ((m : ℕ) → R q m → S q m)) → NodeHas Q S n
  weaker on q low = by (table_at n q) (tables q low)
    where
      by : (o : Option LockTable) → IfSome o (TableHas (P q) (R q)) → IfSome o (TableHas (Q q) (S q))
      by None is = tt
      by (Some t) is = let goes = on q low in table_weaker (P q) (Q q) (R q) (S q) goes.0 goes.1 t is

  abbrev Own : ℕ → Type 0
  Own born = (q : ℕ) (t : TxId) → t.node ≡ number_of n → t.born ≡ born → Q q t

  plain : (event : NodeEvent) → ((w : View) → event ≡ Install w → ⊥) → Own n.home.txs.born → ((q : ℕ) → q < n.home.config.nodes → ((t : TxId) → P q t → Q q t) × ((m : ℕ) → R q m → S q m))
      → CanCome n event → Hears n Q S event → refusal n event ≡ None → On (Has n.home.txs.born) (do_event d event (begin_work n d))
  plain event other own on can hear none =
      on_more (Goes n.home.config sound.limits.some_nodes (number_of n) n.home.txs.born Q S gives) (Has n.home.txs.born) (do_event d event (begin_work n d))
      (λ w i. ((λ q low. i.1.1 q (subst (λ (k : Sizes). q < k.nodes) i.0.config low)), i.0.life))
      (event_says n d sound fits Q S gives own (weaker on) event other can hear none)

  event_has : (event : NodeEvent) → Own (life_after n event) → ((q : ℕ) → q < n.home.config.nodes → GoesOn n P Q R S q event) → CanCome n event → Hears n Q S event → refusal n event ≡ None
      → On (Has (life_after n event)) (do_event d event (begin_work n d))
  unfolding do_event refusal
  event_has Begin own on can hear none = plain Begin (λ w e. absurd (cc)) own on can hear none
  event_has (Read t p) own on can hear none = plain (Read t p) (λ w e. absurd (cc)) own on can hear none
  event_has (Write t p place bytes) own on can hear none = plain (Write t p place bytes) (λ w e. absurd (cc)) own on can hear none
  event_has (Commit t) own on can hear none = plain (Commit t) (λ w e. absurd (cc)) own on can hear none
  event_has (Abort t) own on can hear none = plain (Abort t) (λ w e. absurd (cc)) own on can hear none
  event_has (Deliver from m) own on can hear none = plain (Deliver from m) (λ w e. absurd (cc)) own on can hear none
  event_has (Evict p) own on can hear none = plain (Evict p) (λ w e. absurd (cc)) own on can hear none
  event_has (Flush p) own on can hear none = plain (Flush p) (λ w e. absurd (cc)) own on can hear none
  event_has (Install v) own on can hear none =
      install_has n d sound v can.0 can.1 (not_false (may_install n n.view v) (not_refused (not (may_install n n.view v)) reason.NoView None none).0) P Q R S gives own on tables
  event_has Cut own on can hear none = plain Cut (λ w e. absurd (cc)) own on can hear none

  abbrev Left : NodeEvent → Work → Type 0
  Left event w = NodeHas Q S w.node × (refusal n event ≡ None → w.node.home.txs.born ≡ life_after n event)

  -- a refused event changes nothing
  step_has : (event : NodeEvent) → (refusal n event ≡ None → Own (life_after n event) × ((q : ℕ) → q < n.home.config.nodes → GoesOn n P Q R S q event))
      → ((r : Reason) → refusal n event ≡ Some r → (q : ℕ) → q < n.home.config.nodes → ((t : TxId) → P q t → Q q t) × ((m : ℕ) → R q m → S q m)) → CanCome n event → Hears n Q S event
      → On (λ (p : Plan). NodeHas Q S p.node × (refusal n event ≡ None → p.node.home.txs.born ≡ life_after n event)) (nodestep n event d)
  unfolding nodestep
  step_has event on refused can hear =
      on_so (Left event) (λ (p : Plan). NodeHas Q S p.node × (refusal n event ≡ None → p.node.home.txs.born ≡ life_after n event)) (unless_refused (refusal n event) d event (begin_work n d)) plan_of (by (refusal n event) refl) (λ w i. i)
    where
      by : (o : Option Reason) → refusal n event ≡ o → On (Left event) (unless_refused o d event (begin_work n d))
      by (Some r) e = (weaker (refused r e), (λ none. let bad : Some r ≡ None = sym e ∙ none in absurd (cc)))
      by None e =
          on_more (Has (life_after n event)) (Left event) (do_event d event (begin_work n d)) (λ w i. (i.0, (λ none. i.1)))
          (event_has event (on e).0 (on e).1 can hear e)

-- ---- a step leaves the node in this life
module _ (n : NodeState) (event : NodeEvent) (d : Disk) (p : Plan) (is : IsStep n event d p) where
  abbrev Any : ℕ → TxId → Type 0
  Any q t = ⊤

  abbrev Every : ℕ → ℕ → Type 0
  Every q m = ⊤

  any_table : NodeHas Any Every n
  any_table q low = by (table_at n q)
    where
      by : (o : Option LockTable) → IfSome o (TableHas (Any q) (Every q))
      by None = tt
      by (Some t) =
          all_each (λ (x : PageEntry). EntryHas (Any q) (Every q) x.entry)
          (λ x. (all_any x.entry.holders, all_any x.entry.rights, all_any x.entry.waiting)) t.entries

  any_hear : (ev : NodeEvent) → Hears n Any Every ev
  any_hear Begin = tt
  any_hear (Read t k) = tt
  any_hear (Write t k place bytes) = tt
  any_hear (Commit t) = tt
  any_hear (Abort t) = tt
  any_hear (Evict k) = tt
  any_hear (Flush k) = tt
  any_hear (Install v) = tt
  any_hear Cut = tt
  any_hear (Deliver from m) = λ taken. of m.body
    where
      of : (x : Body) → Brings n.home.config Any Every from x
      of (body.Request r) = tt
      of (body.Grant g) = tt
      of (body.Release r) = tt
      of (body.Revoke k) = tt
      of (body.Return r) = all_any r.readers
      of (body.Report r) = (record { locks = all_any r.locks; waits = all_any r.waits }, all_any r.rights)

  pub life_is : refusal n event ≡ None → p.node.home.txs.born ≡ life_after n event
  life_is =
      (subst (On (λ (x : Plan). NodeHas Any Every x.node × (refusal n event ≡ None → x.node.home.txs.born ≡ life_after n event))) is.goes
      (step_has n d is.sound is.fits Any Any Every Every (λ q t k. tt) any_table event (λ none. ((λ q t of at. tt), (λ q low. going_on n Any Any Every Every q event (λ t k. tt) (λ m k. tt)))) (λ r refused q low. ((λ t k. tt), (λ m k. tt))) is.can
      (any_hear event))).1

-- Whatever holds of the transactions and nodes of a node's tables goes on holding through a step, where it goes on
-- holding of what stays, and holds of what a message brings and of the node's own transactions.
pub plans_have : (n : NodeState) (event : NodeEvent) (d : Disk) (p : Plan) → IsStep n event d p → (P Q : ℕ → TxId → Type 0) (R S : ℕ → ℕ → Type 0) → ((q : ℕ) (t : TxId) → Q q t → S q t.node)
    → ((q : ℕ) (t : TxId) → t.node ≡ number_of n → t.born ≡ p.node.home.txs.born → Q q t) → NodeHas P R n → (refusal n event ≡ None → (q : ℕ) → q < n.home.config.nodes → GoesOn n P Q R S q event)
    → ((r : Reason) → refusal n event ≡ Some r → (q : ℕ) → q < n.home.config.nodes → ((t : TxId) → P q t → Q q t) × ((m : ℕ) → R q m → S q m)) → Hears n Q S event → NodeHas Q S p.node
plans_have n event d p is P Q R S gives own tables on refused hear =
    (subst (On (λ (x : Plan). NodeHas Q S x.node × (refusal n event ≡ None → x.node.home.txs.born ≡ life_after n event))) is.goes
    (step_has n d is.sound is.fits P Q R S gives tables event
    (λ none. ((λ q t of at. own q t of (at ∙ sym (life_is n event d p is none))), on none)) refused is.can hear)).0
