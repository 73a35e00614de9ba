-- What a step keeps that goes on with granted accesses, served partitions, grants and revocations.
use Rattle.std.proofs.Common.{◌≡◌, refl, ℕ, ◌==◌, nat_lt, Bool, true, false, List, [], ◌∷◌, Option, Some, None, is_some}
use Rattle.std.specs.Prelude.{⊤}
use Rattle.pcl_base.specs.declared.tx.TxId.{TxId}
use Rattle.pcl_base.specs.declared.log.Record.{Record}
use Rattle.pcl_base.specs.declared.lock.Decision.{Decision}
use Rattle.pcl_base.specs.declared.lock.Decision.TheVariants as decision
use Rattle.pcl_base.specs.declared.lock.Held.{Held}
use Rattle.pcl_base.specs.declared.lock.Kind.TheVariants as kind
use Rattle.pcl_base.specs.declared.message.Body.{Body}
use Rattle.pcl_base.specs.declared.message.Body.TheVariants as body
use Rattle.pcl_base.specs.declared.message.Change.{Change}
use Rattle.pcl_base.specs.declared.reply.Reply.{Reply}
use Rattle.pcl_base.specs.declared.reply.Reply.TheVariants as reply
use Rattle.run_rules.specs.Disk.{Disk}
use Rattle.run_rules.specs.Redo.{redone, greatest, records_in, all_records}
use Rattle.run_rules.specs.Views.{View}
use Rattle.text_rules.specs.StoredPage.{PageAt}
use Rattle.node_rules.specs.Words.{pick}
use Rattle.node_rules.specs.LockRule.{LockEntry, Settled, settle}
use Rattle.node_rules.specs.LockTable.{LockTable, entry_at, put_entry, pages_of}
use Rattle.node_rules.specs.OpenTxs.{pending_of, waits_as}
use Rattle.node_rules.specs.NodeState.{NodeState, number_of, table_at, table_of, put_table}
use Rattle.node_rules.specs.Work.{HomeWork, Work, Outcome, for_each, work_of_home, with_home_work, with_node, reply, send, read_page}
use Rattle.node_rules.specs.AccessRule.{Granted, perform, granted, bring, locked, write_of, on_pool}
use Rattle.node_rules.specs.BufferRule.{clean}
use Rattle.node_rules.specs.EndRule.{Ending}
use Rattle.node_rules.specs.OwnerRule.{with_table, told, grant_own, carry_grant, carry_out, carry_all, settle_served, settle_in, settle_page, enter_in, enter, put_taken, is_unserved, keep_dirty, clean_unserved}
use Rattle.node_rules.specs.InstallRule.{version_in, redo_to, redo_page, settle_all, serve_table, begin_serving, complete_if, is_complete, complete, take_over, new_table, get_partition, lost_nodes, redo_if, redo_lost, version_of_page, purged, purge_work, keep_served, keep_in}
use Rattle.step_laws.proofs.Outcomes.{On, on_then, on_so, on_each, on_any}
use Rattle.cluster_laws.proofs.Lists.{all_any}
use Rattle.account_relation.specs.Replies.{is_behind}

-- a grant or a revocation
abbrev pub is_decided : Body → Bool
is_decided (body.Grant g) = true
is_decided (body.Revoke p) = true
is_decided _ = false

-- a granted access
perform_behind : (t : TxId) (p : ℕ) (write : Option (ℕ × List ℕ)) (w : HomeWork) → is_behind (perform t p write w).reply ≡ true
unfolding perform
perform_behind t p None w = refl
perform_behind t p (Some write) w = refl

pub at_once_behind : (t : TxId) (p : ℕ) (write : Option (ℕ × List ℕ)) (w : HomeWork) → is_behind (perform t p write w).reply ≡ true
at_once_behind = perform_behind

pub granted_behind : (t : TxId) (l : Held) (v : ℕ) (image : Option (List ℕ)) (w : HomeWork) → On (λ (g : Granted). is_behind g.reply ≡ true) (granted t l v image w)
unfolding granted
granted_behind t l v image w =
    on_so (λ (x : HomeWork). ⊤) (λ (g : Granted). is_behind g.reply ≡ true) (bring l.page v image w) (locked t l (write_of (pending_of w.home.txs t))) (on_any (bring l.page v image w))
    (λ x any. perform_behind t l.page (write_of (pending_of w.home.txs t)) _)

-- the view of a node whose table changes
version_view : (q p v : ℕ) (o : Option LockTable) (n : NodeState) → (version_in q p v o n).view ≡ n.view
version_view q p v None n = refl
version_view q p v (Some t) n = refl

serve_view : (q : ℕ) (o : Option LockTable) (n : NodeState) → (serve_table q o n).view ≡ n.view
serve_view q None n = refl
serve_view q (Some t) n = refl

purge_view : (q : ℕ) (live : List Bool) (o : Option LockTable) (n : NodeState) → (purged q live o n).view ≡ n.view
purge_view q live None n = refl
purge_view q live (Some t) n = refl

module _ (P : Work → Type 0) (quiet : (w x : Work) → x.replies ≡ w.replies → x.sends ≡ w.sends → x.node.view ≡ w.node.view → P w → P x) where
  -- the copies of an end
  kept_walk : (w : Work) (p : ℕ) → P w → P (keep_dirty w p)
  kept_walk w p h = by (is_unserved (table_of w.node p))
    where
      by : (b : Bool) → P (pick b (with_home_work w (on_pool (λ b. clean b p) (work_of_home w))) w)
      by true = quiet w (with_home_work w (on_pool (λ b. clean b p) (work_of_home w))) refl refl refl h
      by false = h

  pub cleaned_walk : (es : List Ending) (w : Work) → P w → P (clean_unserved es w)
  unfolding clean_unserved
  cleaned_walk [] w h = h
  cleaned_walk (e ∷ es) w h = cleaned_walk es (pick (is_some e.change) (keep_dirty w e.page) w) (by (is_some e.change))
    where
      by : (b : Bool) → P (pick b (keep_dirty w e.page) w)
      by true = kept_walk w e.page h
      by false = h

  -- a change that is taken
  pub put_walk : (b : Bool) (p : ℕ) (c : Option Change) (w : Work) → P w → P (put_taken b p c w)
  put_walk true p (Some c) w h = quiet w (put_taken true p (Some c) w) refl refl refl h
  put_walk true p None w h = h
  put_walk false p c w h = h

  purged_walk : (q : ℕ) (v : View) (w : Work) → P w → P (purge_work q v w)
  purged_walk q v w h = quiet w (purge_work q v w) refl refl (purge_view q v.live (table_at w.node q) w.node) h

module _ (P : Work → Type 0)
    (quiet : (w x : Work) → x.replies ≡ w.replies → x.sends ≡ w.sends → x.node.view ≡ w.node.view → P w → P x)
    (more : (r : Reply) (w : Work) → is_behind r ≡ true → P w → P (reply r w))
    (sent : (to : ℕ) (b : Body) (w : Work) → is_decided b ≡ true → P w → P (send to b w)) where
  pub each_walk : {X : Type 0} (f : X → Work → Outcome Work) → ((x : X) (w : Work) → P w → On P (f x w)) → (xs : List X) (w : Work) → P w → On P (for_each f xs w)
  each_walk f walk xs w h = on_each P (λ x. ⊤) f (λ x y any i. walk x y i) xs (all_any xs) w h

  carried : (p v : ℕ) (d : Decision) (w : Work) → P w → On P (carry_out p v d w)
  unfolding carry_out
  carried p v (decision.Grant t m right have) w h = by (t.node == number_of w.node)
    where
      own : (b : Bool) → On P (grant_own b t m p v w)
      own false = h
      own true =
          on_so (λ (g : Granted). is_behind g.reply ≡ true) P (granted t (record { page = p; mode = m; kind = kind.Own }) v None (work_of_home w)) (told w)
          (granted_behind t (record { page = p; mode = m; kind = kind.Own }) v None (work_of_home w))
          (λ g is. more g.reply (with_home_work w g.work) is (quiet w (with_home_work w g.work) refl refl refl h))

      by : (b : Bool) → On P (carry_grant b t m right have p v w)
      by true = own (waits_as (pending_of w.node.home.txs t) p m)
      by false = sent t.node _ w refl h
  carried p v (decision.Revoke n) w h = sent n (body.Revoke p) w refl h

  all_carried : (p : ℕ) (t : LockTable) (s : Settled) (w : Work) → P w → On P (carry_all p t s w)
  all_carried p t s w h =
      let x : Work = with_table p (put_entry t p s.entry) w in each_walk (carry_out p s.entry.version) (carried p s.entry.version) s.decisions x (quiet w x refl refl refl h)

  pub settled_walk : (p : ℕ) (w : Work) → P w → On P (settle_page p w)
  unfolding settle_page
  settled_walk p w h = by (table_of w.node p)
    where
      served : (t : LockTable) (b : Bool) → On P (settle_served b p t w)
      served t false = h
      served t true = all_carried p t (settle (number_of w.node) (entry_at t p)) w h

      by : (o : Option LockTable) → On P (settle_in p o w)
      by None = h
      by (Some t) = served t t.serving

  pub entered_walk : (f : LockEntry → LockEntry) (p : ℕ) (w : Work) → P w → On P (enter f p w)
  unfolding enter
  entered_walk f p w h = by (table_of w.node p)
    where
      by : (o : Option LockTable) → On P (enter_in f p o w)
      by None = h
      by (Some t) = let x : Work = with_table p (put_entry t p (f (entry_at t p))) w in settled_walk p x (quiet w x refl refl refl h)

  -- partitions
  redone_walk : (rs : List Record) (q p : ℕ) (w : Work) → P w → On P (redo_page rs q p w)
  unfolding redo_page
  redone_walk rs q p w h =
      on_so (λ (x : PageAt). ⊤) P (read_page w.pages p) (λ old. redo_to q p old (redone rs p old) w) (on_any (read_page w.pages p))
      (λ old any. quiet w (redo_to q p old (redone rs p old) w) refl refl (version_view q p (redone rs p old).version (table_at w.node q) w.node) h)

  lost_walk : (lost rs : List Record) (q p : ℕ) (w : Work) → P w → On P (redo_lost lost rs q p w)
  lost_walk lost rs q p w h = by (nat_lt (version_of_page (table_at w.node q) p) (greatest lost p))
    where
      by : (b : Bool) → On P (redo_if b rs q p w)
      by true = redone_walk rs q p w h
      by false = h

  all_settled : (q : ℕ) (w : Work) → P w → On P (settle_all q w)
  all_settled q w h = each_walk settle_page settled_walk (pages_of w.node.home.config q) w h

  serving_walk : (q : ℕ) (w : Work) → P w → On P (begin_serving q w)
  serving_walk q w h =
      let x : Work = with_node w (serve_table q (table_at w.node q) w.node) in all_settled q (reply (reply.Serving q) x) (more (reply.Serving q) x refl (quiet w x refl refl (serve_view q (table_at w.node q) w.node) h))

  pub completed_walk : (d : Disk) (q : ℕ) (w : Work) → P w → On P (complete d q w)
  unfolding complete
  completed_walk d q w h = by (is_complete w.node.view q (table_at w.node q))
    where
      by : (b : Bool) → On P (complete_if b d q w)
      by true =
          on_then P P (for_each (redo_page (all_records w.node.home.config d) q) (pages_of w.node.home.config q) w) (begin_serving q)
          (each_walk (redo_page (all_records w.node.home.config d) q) (redone_walk (all_records w.node.home.config d) q) (pages_of w.node.home.config q) w h)
          (λ x i. serving_walk q x i)
      by false = h

  pub got_walk : (d : Disk) (q : ℕ) (w : Work) → P w → On P (get_partition d q w)
  unfolding get_partition
  got_walk d q w h =
      let x : Work = with_node w (put_table (record (w.node) { home = take_over q w.node.home }) q (Some (new_table q (number_of w.node) (take_over q w.node.home)))) in
      completed_walk d q x (quiet w x refl refl refl h)

  pub stayed_walk : (o : Option LockTable) (d : Disk) (before : Option View) (v : View) (q : ℕ) (w : Work) → P w → On P (keep_in o d before v q w)
  stayed_walk None d before v q w h = h
  stayed_walk (Some t) d before v q w h = by t.serving
    where
      by : (b : Bool) → On P (keep_served b d before v q w)
      by true =
          let lost : List Record = records_in w.node.home.config d (lost_nodes before v) in
          let rs : List Record = all_records w.node.home.config d in
          on_then P P (for_each (redo_lost lost rs q) (pages_of w.node.home.config q) w) (λ x. settle_all q (purge_work q v x))
          (each_walk (redo_lost lost rs q) (lost_walk lost rs q) (pages_of w.node.home.config q) w h) (λ x i. all_settled q (purge_work q v x) (purged_walk P quiet q v x i))
      by false = completed_walk d q (purge_work q v w) (purged_walk P quiet q v w h)
