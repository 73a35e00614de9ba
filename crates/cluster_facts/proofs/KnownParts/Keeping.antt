-- From where a node has its locks and rights, within a step, through settling.
use Rattle.std.proofs.Common.{◌≡◌, ◌⊎◌, inl, inr, refl, sym, ap, subst, ◌∙◌, ℕ, ◌<◌, ◌≤◌, ◌==◌, Bool, true, false, List, [], ◌∷◌, ◌++◌, length, slice_index_or, slice_set, Option, Some, None, is_some, arith, eqb-true}
use Rattle.std.specs.Prelude.{⊤, IfSome}
use Rattle.std.specs.List.{AllByRecursion}
use Rattle.std.proofs.lemmas.Nat.{mod_below}
use Rattle.pcl_base.specs.Limits.{Sizes}
use Rattle.pcl_base.specs.declared.lock.Decision.{Decision}
use Rattle.pcl_base.specs.declared.lock.Decision.TheVariants as decision
use Rattle.pcl_base.specs.declared.lock.Held.{Held}
use Rattle.pcl_base.specs.declared.lock.Kind.TheVariants as kind
use Rattle.pcl_base.specs.declared.message.Body.{Body}
use Rattle.pcl_base.specs.declared.message.Body.TheVariants as body
use Rattle.pcl_base.specs.declared.tx.Mode.{Mode}
use Rattle.pcl_base.specs.declared.tx.TxId.{TxId}
use Rattle.node_rules.specs.AccessRule.{Granted, granted}
use Rattle.node_rules.specs.LockRule.{LockEntry, Settled, settle}
use Rattle.node_rules.specs.LockTable.{LockTable, entry_at, put_entry}
use Rattle.node_rules.specs.NodeState.{HomeState, Outgoing, partition, number_of, table_of, is_serving}
use Rattle.node_rules.specs.OpenTxs.{add, OpenTxs, held_by, pending_of, waits_as}
use Rattle.node_rules.specs.OwnerRule.{with_table, told, grant_own, carry_grant, carry_out, carry_all, settle_served, settle_in, settle_page, enter_in, enter}
use Rattle.node_rules.specs.Shelf.{right_on}
use Rattle.node_rules.specs.Work.{Work, work_of_home}
use Rattle.step_laws.proofs.Homes.{HasLock, granted_home}
use Rattle.step_laws.proofs.Outcomes.{On, on_so, on_each, on_more}
use Rattle.node_laws.proofs.Lists.{all_push, set_look, set_length, set_same}
use Rattle.cluster_laws.proofs.Lists.{all_any}
use Rattle.cluster_facts.proofs.KnownParts.Held.{added_holds}

-- an answer is of a page of which P holds
abbrev pub AnswerOf : (ℕ → Type 0) → Body → Type 0
AnswerOf P (body.Return r) = P r.page
AnswerOf P _ = ⊤

-- whether a partition's table serves
abbrev pub Serves : List (Option LockTable) → ℕ → Type 0
Serves ts q = is_serving (slice_index_or ts q None) ≡ true

-- a table serves, where it is there
abbrev pub IsFine : Option LockTable → Type 0
IsFine o = IfSome o (λ (t : LockTable). t.serving ≡ true)

module _ (c : Sizes) (me : ℕ) (H : TxId → ℕ → Type 0) (R A S : ℕ → Type 0) where
  -- why a transaction holds a page: H holds of it, or the table of a partition below k serves
  abbrev pub MayHold : ℕ → List (Option LockTable) → TxId → ℕ → Type 0
  MayHold k ts t p = H t p ⊎ ((partition c p < k) × Serves ts (partition c p))

  pub record State (k : ℕ) (h : HomeState) (ts : List (Option LockTable)) (os : List Outgoing) : Type 0 where
    pub config : h.config ≡ c
    pub node : h.txs.node ≡ me
    pub places : length ts ≡ c.nodes
    pub locks : (t : TxId) (p : ℕ) → is_some (held_by h.txs t p) ≡ true → MayHold k ts t p
    pub rights : (p : ℕ) → is_some (right_on h.shelf p) ≡ true → R p
    pub sends : AllByRecursion (λ (o : Outgoing). AnswerOf A o.message.body) os
    pub serving : (q : ℕ) → S q → IsFine (slice_index_or ts q None)

  -- a work in the making
  abbrev pub Goes : ℕ → Work → Type 0
  Goes k w = State k w.node.home w.node.tables w.sends

  module _ (k : ℕ) where
    -- a home that has no more
    pub home_less : (h g : HomeState) (ts : List (Option LockTable)) (os : List Outgoing) → g.config ≡ h.config → g.txs.node ≡ h.txs.node → ((t : TxId) (p : ℕ) → is_some (held_by g.txs t p) ≡ true → is_some (held_by h.txs t p) ≡ true)
        → ((p : ℕ) → is_some (right_on g.shelf p) ≡ true → is_some (right_on h.shelf p) ≡ true) → State k h ts os → State k g ts os
    home_less h g ts os config node held shelf i =
        record {
          config = config ∙ i.config;
          node = node ∙ i.node;
          places = i.places;
          locks = λ t p is. i.locks t p (held t p is);
          rights = λ p is. i.rights p (shelf p is);
          sends = i.sends;
          serving = i.serving;
        }

    -- a home with the same transactions and rights
    pub home_same : (h g : HomeState) (ts : List (Option LockTable)) (os : List Outgoing) → g.config ≡ h.config → g.txs ≡ h.txs → g.shelf ≡ h.shelf → State k h ts os → State k g ts os
    home_same h g ts os config txs shelf i =
        home_less h g ts os config (ap (λ (s : OpenTxs). s.node) txs) (λ t p is. subst (λ (s : OpenTxs). is_some (held_by s t p) ≡ true) txs is) (λ p is. subst (λ rs. is_some (right_on rs p) ≡ true) shelf is) i

    added_node : (s : OpenTxs) (t : TxId) (l : Held) → (add s t l).node ≡ s.node
    unfolding add
    added_node s t l = refl

    -- a lock more
    pub home_locked : (t : TxId) (l : Held) (h g : HomeState) (ts : List (Option LockTable)) (os : List Outgoing) → HasLock t l h g → ((u : TxId) → MayHold k ts u l.page) → State k h ts os → State k g ts os
    home_locked t l h g ts os has may i =
        record {
          config = has.config ∙ i.config;
          node = ap (λ (s : OpenTxs). s.node) has.txs ∙ added_node h.txs t l ∙ i.node;
          places = i.places;
          locks = λ u p is. by u p (added_holds p h.txs t l u (subst (λ (s : OpenTxs). is_some (held_by s u p) ≡ true) has.txs is));
          rights = λ p is. i.rights p (subst (λ rs. is_some (right_on rs p) ≡ true) has.shelf is);
          sends = i.sends;
          serving = i.serving;
        }
      where
        by : (u : TxId) (p : ℕ) → (is_some (held_by h.txs u p) ≡ true) ⊎ ((l.page == p) ≡ true) → MayHold k ts u p
        by u p (inl is) = i.locks u p is
        by u p (inr e) = subst (MayHold k ts u) (eqb-true l.page p e) (may u)

    -- a table in the place of another one, or none
    pub table_put : (q : ℕ) (o : Option LockTable) (h : HomeState) (ts : List (Option LockTable)) (os : List Outgoing) → (q < k → Serves ts q → is_serving o ≡ true) → (S q → IsFine (slice_index_or ts q None) → IsFine o) → State k h ts os → State k h (slice_set ts q o) os
    table_put q o h ts os serves fine i =
        record {
          config = i.config;
          node = i.node;
          places = set_length ts q o ∙ i.places;
          locks = λ t p is. by t p (i.locks t p is);
          rights = i.rights;
          sends = i.sends;
          serving = λ j is. set_look IsFine None ts q j o (λ same. fine (subst S same is) (subst (λ (x : ℕ). IsFine (slice_index_or ts x None)) same (i.serving j is))) (i.serving j is);
        }
      where
        by : (t : TxId) (p : ℕ) → MayHold k ts t p → MayHold k (slice_set ts q o) t p
        by t p (inl is) = inl is
        by t p (inr (low, is)) =
            inr (
              low,
              set_look (λ (x : Option LockTable). is_serving x ≡ true) None ts q (partition c p) o
                  (λ same. serves (subst (λ (j : ℕ). j < k) same low) (subst (λ (j : ℕ). Serves ts j) same is)) is,
            )

    -- one that serves where that did
    pub table_same : (q : ℕ) (t u : LockTable) (h : HomeState) (ts : List (Option LockTable)) (os : List Outgoing) → slice_index_or ts q None ≡ Some t → u.serving ≡ t.serving → State k h ts os
        → State k h (slice_set ts q (Some u)) os
    table_same q t u h ts os there same i = table_put q (Some u) h ts os (λ low is. same ∙ subst (λ (o : Option LockTable). is_serving o ≡ true) there is)
        (λ is fine. same ∙ subst IsFine there fine) i

    -- a message that is no answer, or an answer of a right that was there
    pub one_sent : (o : Outgoing) (h : HomeState) (ts : List (Option LockTable)) (os : List Outgoing) → AnswerOf A o.message.body → State k h ts os → State k h ts (os ++ o ∷ [])
    one_sent o h ts os is i =
        record { config = i.config; node = i.node; places = i.places; locks = i.locks; rights = i.rights; sends = all_push (λ (x : Outgoing). AnswerOf A x.message.body) os o i.sends is; serving = i.serving }

  -- more partitions are done
  pub further : (j k : ℕ) (h : HomeState) (ts : List (Option LockTable)) (os : List Outgoing) → j ≤ k → State j h ts os → State k h ts os
  further j k h ts os le i =
      record { config = i.config; node = i.node; places = i.places; locks = λ t p is. by t p (i.locks t p is); rights = i.rights; sends = i.sends; serving = i.serving }
    where
      by : (t : TxId) (p : ℕ) → MayHold j ts t p → MayHold k ts t p
      by t p (inl is) = inl is
      by t p (inr (low, is)) = inr (omega (arith, low, le), is)

  -- ---- the entry of a page of a partition below k
  module _ (some : 1 ≤ c.nodes) (k p : ℕ) (low : partition c p < k) where
    -- its table serves
    abbrev Served : Work → Type 0
    Served w = Goes k w × Serves w.node.tables (partition c p)

    own_served : (y : Bool) (t : TxId) (m : Mode) (x : ℕ) (w : Work) → Served w → On Served (grant_own y t m p x w)
    own_served false t m x w i = i
    own_served true t m x w i =
        let l : Held = record { page = p; mode = m; kind = kind.Own } in
        on_so (λ (g : Granted). HasLock t l w.node.home g.work.home) Served (granted t l x None (work_of_home w)) (told w) (granted_home t l x None (work_of_home w))
        (λ g has. (home_locked k t l w.node.home g.work.home w.node.tables w.sends has (λ u. inr (low, i.1)) i.0, i.1))

    grant_served : (y : Bool) (t : TxId) (m : Mode) (right : Bool) (have : Option ℕ) (x : ℕ) (w : Work) → Served w → On Served (carry_grant y t m right have p x w)
    grant_served true t m right have x w i = own_served (waits_as (pending_of w.node.home.txs t) p m) t m x w i
    grant_served false t m right have x w i = (one_sent k _ w.node.home w.node.tables w.sends tt i.0, i.1)

    carry_served : (x : ℕ) (d : Decision) (w : Work) → Served w → On Served (carry_out p x d w)
    unfolding carry_out
    carry_served x (decision.Grant t m right have) w i = grant_served (t.node == number_of w.node) t m right have x w i
    carry_served x (decision.Revoke n) w i = (one_sent k _ w.node.home w.node.tables w.sends tt i.0, i.1)

    -- another entry
    entry_goes : (t : LockTable) (e : LockEntry) (w : Work) → table_of w.node p ≡ Some t → Goes k w → Goes k (with_table p (put_entry t p e) w)
    entry_goes t e w there i = table_same k (partition w.node.home.config p) t (put_entry t p e) w.node.home w.node.tables w.sends there refl i

    entry_there : (t : LockTable) (e : LockEntry) (w : Work) → t.serving ≡ true → Goes k w → Serves (with_table p (put_entry t p e) w).node.tables (partition c p)
    entry_there t e w serves i =
        subst (λ (q : ℕ). Serves (slice_set w.node.tables q (Some (put_entry t p e))) (partition c p)) (ap (λ (s : Sizes). partition s p) (sym i.config))
        (ap (λ (o : Option LockTable). is_serving o)
        (set_same None w.node.tables (partition c p) (Some (put_entry t p e)) (subst (λ (n : ℕ). partition c p < n) (sym i.places) (mod_below p c.nodes some))) ∙ serves)

    all_goes : (t : LockTable) (s : Settled) (w : Work) → table_of w.node p ≡ Some t → t.serving ≡ true → Goes k w → On (Goes k) (carry_all p t s w)
    all_goes t s w there serves i =
        on_more Served (Goes k) (carry_all p t s w) (λ x j. j.0)
        (on_each Served (λ (d : Decision). ⊤) (carry_out p s.entry.version) (λ d x any j. carry_served s.entry.version d x j) s.decisions (all_any s.decisions) (with_table p (put_entry t p s.entry) w)
        (entry_goes t s.entry w there i, entry_there t s.entry w serves i))

    pub settle_goes : (w : Work) → Goes k w → On (Goes k) (settle_page p w)
    unfolding settle_page
    settle_goes w i = by (table_of w.node p) refl
      where
        served : (t : LockTable) → table_of w.node p ≡ Some t → (y : Bool) → t.serving ≡ y → On (Goes k) (settle_served y p t w)
        served t there false e = i
        served t there true e = all_goes t (settle (number_of w.node) (entry_at t p)) w there e i

        by : (o : Option LockTable) → table_of w.node p ≡ o → On (Goes k) (settle_in p o w)
        by None there = i
        by (Some t) there = served t there t.serving refl

    pub enter_goes : (f : LockEntry → LockEntry) (w : Work) → Goes k w → On (Goes k) (enter f p w)
    unfolding enter
    enter_goes f w i = by (table_of w.node p) refl
      where
        by : (o : Option LockTable) → table_of w.node p ≡ o → On (Goes k) (enter_in f p o w)
        by None there = i
        by (Some t) there = settle_goes (with_table p (put_entry t p (f (entry_at t p))) w) (entry_goes t (f (entry_at t p)) w there i)
