-- What a step keeps through everything that changes tables, where flags stay and what serves goes on serving.
use Rattle.std.proofs.Common.{◌≡◌, refl, sym, ap, ◌∙◌, ℕ, ◌==◌, nat_lt, Bool, true, false, List, [], ◌∷◌, ◌++◌, append-nil, Option, Some, None}
use Rattle.std.specs.Prelude.{⊤}
use Rattle.pcl_base.specs.declared.tx.TxId.{TxId}
use Rattle.pcl_base.specs.declared.tx.Mode.{Mode}
use Rattle.pcl_base.specs.declared.log.Record.{Record}
use Rattle.pcl_base.specs.declared.lock.Decision.{Decision}
use Rattle.pcl_base.specs.declared.lock.Decision.TheVariants as decision
use Rattle.pcl_base.specs.declared.lock.Held.{Held}
use Rattle.pcl_base.specs.declared.lock.Kind.TheVariants as kind
use Rattle.pcl_base.specs.declared.message.Body.{Body}
use Rattle.pcl_base.specs.declared.message.Body.TheVariants as body
use Rattle.pcl_base.specs.declared.reply.Reply.{Reply}
use Rattle.pcl_base.specs.declared.reply.Reply.TheVariants as reply
use Rattle.run_rules.specs.Disk.{Disk}
use Rattle.run_rules.specs.Redo.{redone, greatest, records_in, all_records}
use Rattle.run_rules.specs.Views.{View}
use Rattle.text_rules.specs.StoredPage.{PageAt}
use Rattle.node_rules.specs.LockRule.{LockEntry, Settled, settle}
use Rattle.node_rules.specs.LockTable.{LockTable, entry_at, put_entry, pages_of, set_version, serve}
use Rattle.node_rules.specs.OpenTxs.{OpenTxs, add, pending_of, waits_as}
use Rattle.node_rules.specs.NodeState.{NodeState, number_of, table_at, table_of, put_table, partition}
use Rattle.node_rules.specs.Work.{HomeWork, Work, Outcome, for_each, work_of_home, with_node, reply, send, read_page}
use Rattle.node_rules.specs.AccessRule.{Granted, granted}
use Rattle.node_rules.specs.OwnerRule.{with_table, told, grant_own, carry_grant, carry_out, carry_all, settle_served, settle_in, settle_page, enter_in, enter}
use Rattle.node_rules.specs.InstallRule.{write_newer, version_in, redo_to, redo_page, settle_all, serve_table, begin_serving, complete_if, is_complete, complete, lost_nodes, redo_if, redo_lost, version_of_page, purge_table, purged, purge_work, keep_served, keep_in}
use Rattle.step_laws.proofs.Homes.{HasLock, granted_home}
use Rattle.step_laws.proofs.Outcomes.{On, on_then, on_so, on_each, on_any}
use Rattle.cluster_laws.proofs.Lists.{all_any}

-- a grant or a revocation
abbrev pub is_decided : Body → Bool
is_decided (body.Grant g) = true
is_decided (body.Revoke p) = true
is_decided _ = false

-- a table in the place of another one: its flags are the same, and it serves where that one did
pub record GoesOnAs (t u : LockTable) : Type 0 where
  pub reported : u.reported ≡ t.reported
  pub serving : t.serving ≡ true → u.serving ≡ true

pub as_it_is : (t : LockTable) → GoesOnAs t t
as_it_is t = record { reported = refl; serving = λ e. e }

added_node : (s : OpenTxs) (t : TxId) (l : Held) → (add s t l).node ≡ s.node
unfolding add
added_node s t l = refl

-- a work with further replies
abbrev pub Replied : Work → Work → Type 0
Replied w x = (rs : List Reply) × (x.replies ≡ w.replies ++ rs)

pub unreplied : (w x : Work) → x.replies ≡ w.replies → Replied w x
unreplied w x same = ([], same ∙ sym (append-nil w.replies))

module _ (P : Work → Type 0)
    (same : (w x : Work) → Replied w x → x.node.home.config ≡ w.node.home.config → number_of x.node ≡ number_of w.node → x.node.tables ≡ w.node.tables → x.node.view ≡ w.node.view → x.sends ≡ w.sends → P w → P x)
    (put : (q : ℕ) (t u : LockTable) (w : Work) → table_at w.node q ≡ Some t → GoesOnAs t u → P w → P (with_node w (put_table w.node q (Some u))))
    (sent : (to : ℕ) (b : Body) (w : Work) → is_decided b ≡ true → P w → P (send to b w)) where
  each_walk : {X : Type 0} (f : X → Work → Outcome Work) → ((x : X) (w : Work) → P w → On P (f x w)) → (xs : List X) (w : Work) → P w → On P (for_each f xs w)
  each_walk f walk xs w h = on_each P (λ x. ⊤) f (λ x y any i. walk x y i) xs (all_any xs) w h

  -- ---- settling
  own_walk : (b : Bool) (t : TxId) (m : Mode) (p v : ℕ) (w : Work) → P w → On P (grant_own b t m p v w)
  own_walk false t m p v w h = h
  own_walk true t m p v w h =
      let l : Held = record { page = p; mode = m; kind = kind.Own } in
      on_so (λ (g : Granted). HasLock t l w.node.home g.work.home) P (granted t l v None (work_of_home w)) (told w) (granted_home t l v None (work_of_home w))
      (λ g has. same w (told w g) (g.reply ∷ [], refl) has.config (ap (λ (s : OpenTxs). s.node) has.txs ∙ added_node w.node.home.txs t l) refl refl refl h)

  grant_walk : (b : Bool) (t : TxId) (m : Mode) (right : Bool) (have : Option ℕ) (p v : ℕ) (w : Work) → P w → On P (carry_grant b t m right have p v w)
  grant_walk true t m right have p v w h = own_walk (waits_as (pending_of w.node.home.txs t) p m) t m p v w h
  grant_walk false t m right have p v w h = sent t.node _ w refl h

  carried : (p v : ℕ) (d : Decision) (w : Work) → P w → On P (carry_out p v d w)
  unfolding carry_out
  carried p v (decision.Grant t m right have) w h = grant_walk (t.node == number_of w.node) t m right have p v w h
  carried p v (decision.Revoke n) w h = sent n (body.Revoke p) w refl h

  entry_walk : (p : ℕ) (t : LockTable) (e : LockEntry) (w : Work) → table_of w.node p ≡ Some t → P w → P (with_table p (put_entry t p e) w)
  entry_walk p t e w there h = put (partition w.node.home.config p) t (put_entry t p e) w there (record { reported = refl; serving = λ s. s }) h

  all_carried : (p : ℕ) (t : LockTable) (s : Settled) (w : Work) → table_of w.node p ≡ Some t → P w → On P (carry_all p t s w)
  all_carried p t s w there h = each_walk (carry_out p s.entry.version) (carried p s.entry.version) s.decisions (with_table p (put_entry t p s.entry) w) (entry_walk p t s.entry w there h)

  pub settled_walk : (p : ℕ) (w : Work) → P w → On P (settle_page p w)
  unfolding settle_page
  settled_walk p w h = by (table_of w.node p) refl
    where
      served : (b : Bool) (t : LockTable) → table_of w.node p ≡ Some t → On P (settle_served b p t w)
      served false t there = h
      served true t there = all_carried p t (settle (number_of w.node) (entry_at t p)) w there h

      by : (o : Option LockTable) → table_of w.node p ≡ o → On P (settle_in p o w)
      by None there = h
      by (Some t) there = served t.serving t there

  pub entered_walk : (f : LockEntry → LockEntry) (p : ℕ) (w : Work) → P w → On P (enter f p w)
  unfolding enter
  entered_walk f p w h = by (table_of w.node p) refl
    where
      by : (o : Option LockTable) → table_of w.node p ≡ o → On P (enter_in f p o w)
      by None there = h
      by (Some t) there = settled_walk p (with_table p (put_entry t p (f (entry_at t p))) w) (entry_walk p t (f (entry_at t p)) w there h)

  -- ---- partitions
  newer_same : (y : Bool) (p : ℕ) (at : PageAt) (w : HomeWork) → ((write_newer y p at w).home.config ≡ w.home.config) × ((write_newer y p at w).home.txs ≡ w.home.txs)
  newer_same true p at w = (refl, refl)
  newer_same false p at w = (refl, refl)

  version_walk : (q p v : ℕ) (w : Work) → P w → P (with_node w (version_in q p v (table_at w.node q) w.node))
  version_walk q p v w h = by (table_at w.node q) refl
    where
      by : (o : Option LockTable) → table_at w.node q ≡ o → P (with_node w (version_in q p v o w.node))
      by None there = h
      by (Some t) there = put q t (set_version t p v) w there (record { reported = refl; serving = λ s. s }) h

  version_home : (q p v : ℕ) (o : Option LockTable) (n : NodeState) → (version_in q p v o n).home ≡ n.home
  version_home q p v None n = refl
  version_home q p v (Some t) n = refl

  redone_walk : (rs : List Record) (q p : ℕ) (w : Work) → P w → On P (redo_page rs q p w)
  unfolding redo_page
  redone_walk rs q p w h =
      on_so (λ (x : PageAt). ⊤) P (read_page w.pages p) (λ old. redo_to q p old (redone rs p old) w) (on_any (read_page w.pages p))
      (λ old any.
      let new : PageAt = redone rs p old in
      let is = newer_same (nat_lt old.version new.version) p new (work_of_home w) in
      let x : Work = with_node w (version_in q p new.version (table_at w.node q) w.node) in
      let home = version_home q p new.version (table_at w.node q) w.node in
      same x (redo_to q p old new w) (unreplied x (redo_to q p old new w) refl) (is.0 ∙ sym (ap (λ h. h.config) home)) (ap (λ (s : OpenTxs). s.node) is.1 ∙ sym (ap (λ h. h.txs.node) home)) refl refl refl (version_walk q p new.version w h))

  lost_walk : (lost rs : List Record) (q p : ℕ) (w : Work) → P w → On P (redo_lost lost rs q p w)
  lost_walk lost rs q p w h = by (nat_lt (version_of_page (table_at w.node q) p) (greatest lost p))
    where
      by : (b : Bool) → On P (redo_if b rs q p w)
      by true = redone_walk rs q p w h
      by false = h

  all_settled : (q : ℕ) (w : Work) → P w → On P (settle_all q w)
  all_settled q w h = each_walk settle_page settled_walk (pages_of w.node.home.config q) w h

  serving_walk : (q : ℕ) (w : Work) → P w → On P (begin_serving q w)
  serving_walk q w h =
      all_settled q (reply (reply.Serving q) (with_node w (serve_table q (table_at w.node q) w.node)))
      (same (with_node w (serve_table q (table_at w.node q) w.node)) (reply (reply.Serving q) (with_node w (serve_table q (table_at w.node q) w.node))) (reply.Serving q ∷ [], refl) refl refl refl refl refl (by (table_at w.node q) refl))
    where
      by : (o : Option LockTable) → table_at w.node q ≡ o → P (with_node w (serve_table q o w.node))
      by None there = h
      by (Some t) there = put q t (serve t) w there (record { reported = refl; serving = λ s. refl }) h

  pub completed_walk : (d : Disk) (q : ℕ) (w : Work) → P w → On P (complete d q w)
  unfolding complete
  completed_walk d q w h = by (is_complete w.node.view q (table_at w.node q))
    where
      by : (b : Bool) → On P (complete_if b d q w)
      by true =
          on_then P P (for_each (redo_page (all_records w.node.home.config d) q) (pages_of w.node.home.config q) w) (begin_serving q)
          (each_walk (redo_page (all_records w.node.home.config d) q) (redone_walk (all_records w.node.home.config d) q) (pages_of w.node.home.config q) w h)
          (λ x i. serving_walk q x i)
      by false = h

  purged_walk : (q : ℕ) (v : View) (w : Work) → P w → P (purge_work q v w)
  purged_walk q v w h = by (table_at w.node q) refl
    where
      by : (o : Option LockTable) → table_at w.node q ≡ o → P (with_node w (purged q v.live o w.node))
      by None there = h
      by (Some t) there = put q t (purge_table v.live t) w there (record { reported = refl; serving = λ s. s }) h

  pub stayed_walk : (o : Option LockTable) (d : Disk) (before : Option View) (v : View) (q : ℕ) (w : Work) → P w → On P (keep_in o d before v q w)
  stayed_walk None d before v q w h = h
  stayed_walk (Some t) d before v q w h = by t.serving
    where
      by : (b : Bool) → On P (keep_served b d before v q w)
      by true =
          let lost : List Record = records_in w.node.home.config d (lost_nodes before v) in
          let rs : List Record = all_records w.node.home.config d in
          on_then P P (for_each (redo_lost lost rs q) (pages_of w.node.home.config q) w) (λ x. settle_all q (purge_work q v x))
          (each_walk (redo_lost lost rs q) (lost_walk lost rs q) (pages_of w.node.home.config q) w h) (λ x i. all_settled q (purge_work q v x) (purged_walk q v x i))
      by false = completed_walk d q (purge_work q v w) (purged_walk q v w h)
