-- The machine's state once a right is spent for a later era.
use Rattle.std.proofs.Common.{◌≡◌, ◌≢◌, refl, ap, sym, subst, ◌∙◌, ℕ, suc, ◌==◌, Bool, true, false, List, Option, Some, None, arith, eqb-true}
use Rattle.std.proofs.lemmas.Bool.Decides.{nat_tests}
use Rattle.pcl_base.specs.declared.lock.Waiter.{Waiter}
use Rattle.pcl_base.specs.declared.message.Body.{Body}
use Rattle.pcl_base.specs.declared.message.Body.TheVariants as body
use Rattle.pcl_base.specs.declared.message.Report.{Report}
use Rattle.pcl_base.specs.declared.message.ReportWait.{ReportWait}
use Rattle.pcl_base.specs.declared.tx.TxId.{TxId}
use Rattle.node_rules.specs.LockTable.{LockTable, entry_at}
use Rattle.node_rules.specs.NodeState.{NodeState, table_at}
use Rattle.node_laws.proofs.Lists.{all_weaker}
use Rattle.cluster_rules.specs.Clusters.{Cluster, node_at, version_of_change}
use Rattle.cluster_laws.specs.Era.Eras.{era_at, era_in}
use Rattle.cluster_laws.specs.Link.Coming.{coming}
use Rattle.page_protocol.specs.Authority.{registered, spending}
use Rattle.page_protocol.specs.State.{Home, Fresh, Asking, Holding, HoldingAsks, Reading, ReadingAsks, Ended, Gone, Sent, Right, NoRight, Flying, Shelf, Returning, Dead, Page, current, IsFresh, IsClosed}
use Rattle.page_protocol.specs.State as machine
use Rattle.page_relation.specs.Messages.{sent_of, HasAsked, IsSent, CountsFor, WaitIs, ReportIs, SaysSo}
use Rattle.page_relation.specs.Relation.{HistoryIs, CopiesAre, TablesAre, LinksAre, MessageIs}
use Rattle.page_relation.specs.Tables.{WaiterIs, TableIs, TableIn, TableOf}
use Rattle.page_laws.specs.Storage.Looks.{IsStored}
use Rattle.kept_relation.proofs.TurnParts.Registered.{fresh_before, told_after}

-- ---- the machine's state

module _ (upto : ℕ) (a : Page) (n v : ℕ) (readers : List TxId) (shelf : a.right n ≡ Shelf v) where
  abbrev pub next : Page
  next = spending a n upto readers

  pub home_here : (t : TxId) → t.node ≡ n → next.home t ≡ registered (a.home t)
  unfolding spending
  home_here t at = ap (λ (b : Bool). machine.pick b (registered (a.home t)) (a.home t)) (let is : (t.node == n) ≡ true = grind (arith, nat_tests, at) in is)

  pub home_there : (t : TxId) → (t.node == n) ≡ false → next.home t ≡ a.home t
  unfolding spending
  home_there t other = ap (λ (b : Bool). machine.pick b (registered (a.home t)) (a.home t)) other

  -- what holds of a home and of its registered one
  pub home_kept : (P : Home → Type 0) (t : TxId) → ((h : Home) → P h → P (registered h)) → P (a.home t) → P (next.home t)
  unfolding spending
  home_kept P t keeps old = by (t.node == n)
    where
      by : (b : Bool) → P (machine.pick b (registered (a.home t)) (a.home t))
      by true = keeps (a.home t) old
      by false = old

  pub right_here : next.right n ≡ Returning upto readers
  unfolding spending
  right_here = ap (λ (b : Bool). machine.pick b (Returning upto readers) (a.right n)) (let is : (n == n) ≡ true = grind (arith, nat_tests) in is)

  pub right_there : (m : ℕ) → (m == n) ≡ false → next.right m ≡ a.right m
  unfolding spending
  right_there m other = ap (λ (b : Bool). machine.pick b (Returning upto readers) (a.right m)) other

  -- a right that is another one than the spent one is as before
  pub right_by : (m : ℕ) (P : Right → Type 0) → (m ≡ n → P (Returning upto readers)) → P (a.right m) → P (next.right m)
  right_by m P own old = by (m == n) refl
    where
      by : (b : Bool) → (m == n) ≡ b → P (next.right m)
      by true same = let is : m ≡ n = eqb-true m n same in subst P (sym (ap next.right is ∙ right_here)) (own is)
      by false other = subst P (sym (right_there m other)) old

  pub asked_after : (r e : ℕ) (t : TxId) (have : Option ℕ) → HasAsked r e (a.home t) have → HasAsked r e (next.home t) have
  asked_after r e t have is =
      home_kept (λ h. HasAsked r e h have) t
      (λ h old. record { begun = λ f. old.begun (fresh_before h f); told = λ same. told_after have h (old.told same) }) is

  pub waiter_after : (e : ℕ) (w : Waiter) → WaiterIs a.reached a.home e w → WaiterIs next.reached next.home e w
  unfolding spending
  waiter_after e w is = asked_after (a.reached w.tx.node) e w.tx w.have is

  -- the tables
  pub served_after : (m e : ℕ) (t : LockTable) (p : ℕ) → TableIs a p m e true t → TableIs next p m e true t
  unfolding spending
  served_after m e t p is =
      record {
        serves = is.serves;
        here = is.here;
        now = is.now;
        version = is.version;
        holders = is.holders;
        rights = λ k out. is.rights k (not_none k out);
        waiting = all_weaker (WaiterIs a.reached a.home a.era) (WaiterIs a.reached next.home a.era) (λ w old. waiter_after a.era w old) (entry_at t p).waiting is.waiting;
        writers = is.writers;
      }
    where
      not_none : (k : ℕ) → next.right k ≢ NoRight → a.right k ≢ NoRight
      not_none k out none = by (k == n) refl
        where
          by : (b : Bool) → (k == n) ≡ b → ⊥
          by true same =
              let at : k ≡ n = eqb-true k n same in
              let bad : Shelf v ≡ NoRight = sym shelf ∙ ap a.right (sym at) ∙ none in
              absurd (cc)
          by false other = out (right_there k other ∙ none)

  pub rebuilt_after : (m e : ℕ) (t : LockTable) (p : ℕ) → TableIs a p m e false t → TableIs next p m e false t
  unfolding spending
  rebuilt_after m e t p is =
      record {
        later = is.later;
        reaches = is.reaches;
        holders = is.holders;
        rights = λ k on counts. is.rights k on (counted k counts);
        waiting = all_weaker (WaiterIs a.reached a.home e) (WaiterIs a.reached next.home e) (λ w old. waiter_after e w old) (entry_at t p).waiting is.waiting;
        writers = is.writers;
      }
    where
      counted : (k : ℕ) → CountsFor e (next.right k) → CountsFor e (a.right k)
      counted k counts = by (k == n) refl
        where
          by : (b : Bool) → (k == n) ≡ b → CountsFor e (a.right k)
          by true same =
              let at : k ≡ n = eqb-true k n same in subst (CountsFor e) (sym (ap a.right at ∙ shelf)) tt
          by false other = subst (CountsFor e) (right_there k other) counts

  pub table_after : (m e p : ℕ) (o : Option LockTable) → TableIn a p m e o → TableIn next p m e o
  table_after m e p None is = tt
  table_after m e p (Some t) is = by t.serving is
    where
      by : (b : Bool) → TableIs a p m e b t → TableIs next p m e b t
      by true old = served_after m e t p old
      by false old = rebuilt_after m e t p old

  pub node_after : (p q m : ℕ) (o : Option NodeState) → TableOf a p q m o → TableOf next p q m o
  node_after p q m None is = tt
  node_after p q m (Some s) is = table_after m (era_in s.view q) p (table_at s q) is

  pub tables_after : (d : Cluster) (p q : ℕ) → TablesAre d p q a → TablesAre d p q next
  unfolding spending
  tables_after d p q is =
      record {
        tables = λ m. node_after p q m (node_at d m) (is.tables m);
        serving = is.serving;
        era = is.era;
      }

  -- the messages
  pub wait_after : (p e : ℕ) (w : ReportWait) → WaitIs a.reached a.home p e w → WaitIs next.reached next.home p e w
  unfolding spending
  wait_after p e w is at = asked_after (a.reached w.tx.node) e w.tx w.have (is at)

  pub sent_after : (g : Sent) (b : Bool) (to : ℕ) → IsSent b a.sent (a.right to) g → IsSent b a.sent (next.right to) g
  sent_after g true to is = right_by to (λ r. r ≡ Flying g) (λ at. let bad : Shelf v ≡ Flying g = sym shelf ∙ ap a.right (sym at) ∙ is in absurd (cc)) is
  sent_after g false to is = is

  pub report_after : (p from e : ℕ) (r : Report) → ReportIs a.era a.reached a.listed a.right a.home p from e r → ReportIs next.era next.reached next.listed next.right next.home p from e r
  unfolding spending
  report_after p from e r is =
      record {
        later = is.later;
        reaches = is.reaches;
        locks = is.locks;
        rights = λ counts. is.rights (counted counts);
        waits = all_weaker (WaitIs a.reached a.home p e) (WaitIs a.reached next.home p e) (λ w old. wait_after p e w old) r.waits is.waits;
      }
    where
      counted : CountsFor e (next.right from) → CountsFor e (a.right from)
      counted counts = by (from == n) refl
        where
          by : (b : Bool) → (from == n) ≡ b → CountsFor e (a.right from)
          by true same =
              let at : from ≡ n = eqb-true from n same in subst (CountsFor e) (sym (ap a.right at ∙ shelf)) tt
          by false other = subst (CountsFor e) (right_there from other) counts

  pub says_after : (p from to e : ℕ) (b : Body) → SaysSo a.era a.hist a.reached a.listed a.right a.home a.sent p from to e b
      → SaysSo next.era next.hist next.reached next.listed next.right next.home next.sent p from to e b
  unfolding spending
  says_after p from to e (body.Request r) is = asked_after (a.reached r.tx.node) e r.tx r.have is
  says_after p from to e (body.Grant g) is = (is.0, λ now. sent_after (sent_of g) g.right to (is.1 now))
  says_after p from to e (body.Release r) is = (home_kept (λ h. h ≡ Ended (version_of_change r.change) e) r.tx (λ h old. ap registered old) is.0, is.1)
  says_after p from to e (body.Revoke page) is = is
  says_after p from to e (body.Return r) is = (
    is.0,
    λ now. right_by from (λ x. x ≡ Returning (suc a.era) r.readers) (λ at. let bad : Shelf v ≡ Returning (suc a.era) r.readers = sym shelf ∙ ap a.right (sym at) ∙ is.1 now in absurd (cc)) (is.1 now),
  )
  says_after p from to e (body.Report r) is = report_after p from e r is

  pub links_after : (d : Cluster) (p q : ℕ) → LinksAre d p q a → LinksAre d p q next
  links_after d p q is =
      record {
        say = λ from to.
            all_weaker (MessageIs d p q a from to) (MessageIs d p q next from to) (λ m old. says_after p from to (era_at d q m.epoch) m.body old) (coming d p from to) (is.say from to);
        ordered = is.ordered;
        once = is.once;
      }

  pub history_after : (d : Cluster) (p : ℕ) → HistoryIs d p a.hist (current a) → HistoryIs d p next.hist (current next)
  unfolding spending
  history_after d p is = is

  pub stored_after : (d : Cluster) (p : ℕ) → IsStored d.config d.disk p a.disk a.log → IsStored d.config d.disk p next.disk next.log
  unfolding spending
  stored_after d p is = is

  pub copies_after : (d : Cluster) (p : ℕ) → CopiesAre d p a.slot a.owner a.dirty → CopiesAre d p next.slot next.owner next.dirty
  unfolding spending
  copies_after d p is = is
