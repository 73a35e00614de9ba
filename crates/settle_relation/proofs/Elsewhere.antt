-- A page that is settled: what is known of the work stays, and other pages aren't seen.
use Rattle.std.proofs.Common.{◌≡◌, ◌≢◌, refl, ap, sym, subst, ◌∙◌, ℕ, ◌==◌, Bool, true, false, List, [], ◌∷◌, Option, Some, None, arith}
use Rattle.std.specs.List.{AllByRecursion}
use Rattle.std.proofs.lemmas.Bool.Decides.{nat_tests}
use Rattle.pcl_base.specs.Limits.{Sizes}
use Rattle.pcl_base.specs.declared.event.Event.{Event}
use Rattle.pcl_base.specs.declared.lock.Decision.{Decision}
use Rattle.pcl_base.specs.declared.lock.Decision.TheVariants as decision
use Rattle.pcl_base.specs.declared.lock.Held.{Held}
use Rattle.pcl_base.specs.declared.lock.Kind.TheVariants as kind
use Rattle.pcl_base.specs.declared.message.Body.TheVariants as body
use Rattle.pcl_base.specs.declared.tx.Mode.{Mode}
use Rattle.pcl_base.specs.declared.tx.TxId.{TxId}
use Rattle.text_rules.specs.MessageBytes.{IsPage}
use Rattle.node_rules.specs.AccessRule.{Granted, granted}
use Rattle.node_rules.specs.LockRule.{LockEntry, Settled, settle}
use Rattle.node_rules.specs.LockTable.{LockTable, entry_at, put_entry}
use Rattle.node_rules.specs.NodeState.{number_of, partition, table_of, table_at}
use Rattle.node_rules.specs.OpenTxs.{pending_of, waits_as}
use Rattle.node_rules.specs.OwnerRule.{carry_all, carry_grant, carry_out, enter, enter_in, grant_own, send_grant, settle_in, settle_page, settle_served, told, with_table}
use Rattle.node_rules.specs.Work.{Outcome, Goes, Differs, Work, and_so, and_then, for_each, send, work_of_home}
use Rattle.node_laws.specs.Nodes.{IsEntry}
use Rattle.node_laws.proofs.Entries.{IsDecision, IsSettled, settle_is}
use Rattle.node_laws.proofs.Pages.{entry_there}
use Rattle.node_laws.proofs.Works.{Base}
use Rattle.cluster_rules.specs.Clusters.{Cluster}
use Rattle.page_relation.specs.Work.Unseen.{IsUnseen}
use Rattle.page_relation.proofs.WorkParts.Framing.{unseen_self, unseen_then}
use Rattle.page_relation.proofs.WorkParts.Granting.{grants_elsewhere_law}
use Rattle.page_relation.proofs.WorkParts.Quiet.{entries_elsewhere_law, sends_elsewhere_law}
use Rattle.settle_relation.proofs.Carrying.{may_grant, carry_midway, entry_midway}
use Rattle.settle_relation.proofs.Midway.{IsMidway}

-- what is known stays, and nothing is seen of page p, where r is another one
pub record GoesOn (b : Base) (c : Cluster) (e : Event) (n p r : ℕ) (w z : Work) : Type 0 where
  pub midway : IsMidway b c e n z
  pub unseen : (r == p) ≡ false → IsUnseen c e n p w z

module _ (b : Base) (c : Cluster) (e : Event) (n p : ℕ) where
  on_itself : (r : ℕ) (w z : Work) → IsMidway b c e n w → w ≡ z → GoesOn b c e n p r w z
  on_itself r w z i same = subst (GoesOn b c e n p r w) same (record { midway = i; unseen = λ other. unseen_self c e n p w })

  pub on_then : (r : ℕ) (w x z : Work) → GoesOn b c e n p r w x → GoesOn b c e n p r x z → GoesOn b c e n p r w z
  on_then r w x z f g = record { midway = g.midway; unseen = λ other. unseen_then c e n p w x z (f.unseen other) (g.unseen other) }

  own_unseen : (x : Bool) (t : TxId) (m : Mode) (r v : ℕ) (w z : Work) → (r == p) ≡ false → waits_as (pending_of w.node.home.txs t) r m ≡ x → IsMidway b c e n w
      → grant_own x t m r v w ≡ Goes z → IsUnseen c e n p w z
  own_unseen false t m r v w z other waits i goes = let same : w ≡ z = cc in subst (IsUnseen c e n p w) same (unseen_self c e n p w)
  own_unseen true t m r v w z other waits i goes = by (granted t l v None (work_of_home w)) refl goes
    where
      l : Held
      l = record { page = r; mode = m; kind = kind.Own }

      by : (o : Outcome Granted) → granted t l v None (work_of_home w) ≡ o → and_so o (told w) ≡ Goes z → IsUnseen c e n p w z
      by (Goes g) is done =
          let same : told w g ≡ z = cc in
          subst (IsUnseen c e n p w) same (grants_elsewhere_law c e n p t l v None w g other (may_grant b c e n t l w waits i) is)
      by (Differs q expected found) is done = absurd (cc)

  carry_unseen : (r v : ℕ) (d : Decision) (w z : Work) → (r == p) ≡ false → IsMidway b c e n w → carry_out r v d w ≡ Goes z → IsUnseen c e n p w z
  unfolding carry_out
  carry_unseen r v (decision.Grant t m right have) w z other i goes = by (t.node == number_of w.node) goes
    where
      by : (own : Bool) → carry_grant own t m right have r v w ≡ Goes z → IsUnseen c e n p w z
      by true done = own_unseen (waits_as (pending_of w.node.home.txs t) r m) t m r v w z other refl i done
      by false done = let same : send_grant t m right have r v w ≡ z = cc in subst (IsUnseen c e n p w) same (sends_elsewhere_law c e n p t.node _ w other)
  carry_unseen r v (decision.Revoke k) w z other i goes =
      let same : send k (body.Revoke r) w ≡ z = cc in subst (IsUnseen c e n p w) same (sends_elsewhere_law c e n p k (body.Revoke r) w other)

  module _ (r : ℕ) (low : IsPage b.config r) where
    pub carry_on : (v : ℕ) (d : Decision) (w z : Work) → IsDecision b.config b.number d → IsMidway b c e n w → carry_out r v d w ≡ Goes z → GoesOn b c e n p r w z
    carry_on v d w z is i goes =
        record { midway = carry_midway b c e n r low v d w z is i goes; unseen = λ other. carry_unseen r v d w z other i goes }

    all_on : (v : ℕ) (ds : List Decision) (w z : Work) → AllByRecursion (IsDecision b.config b.number) ds → IsMidway b c e n w → for_each (carry_out r v) ds w ≡ Goes z
        → GoesOn b c e n p r w z
    unfolding for_each
    all_on v [] w z all i goes = on_itself r w z i (let same : w ≡ z = cc in same)
    all_on v (d ∷ ds) w z all i goes = by (carry_out r v d w) refl goes (all_on v ds)
      where
        by : (o : Outcome Work) → carry_out r v d w ≡ o → and_then o (for_each (carry_out r v) ds) ≡ Goes z
            → ((x z : Work) → AllByRecursion (IsDecision b.config b.number) ds → IsMidway b c e n x → for_each (carry_out r v) ds x ≡ Goes z → GoesOn b c e n p r x z)
            → GoesOn b c e n p r w z
        by (Goes x) is done rest = let first = carry_on v d w x all.0 i is in on_then r w x z first (rest x z all.1 first.midway done)
        by (Differs q expected found) is done rest = absurd (cc)

    -- another entry of the page
    pub entry_on : (t : LockTable) (x : LockEntry) (w : Work) → table_of w.node r ≡ Some t → IsEntry b.config b.number x → IsMidway b c e n w
        → GoesOn b c e n p r w (with_table r (put_entry t r x) w)
    entry_on t x w there is i =
        record {
          midway = entry_midway b c e n r low t x w there is i;
          unseen = λ other. entries_elsewhere_law c e n p r t x w (apart other) config (ap (λ (k : Sizes). table_at w.node (partition k r)) (sym config) ∙ there);
        }
      where
        config : w.node.home.config ≡ c.config
        config = i.good.home.config ∙ i.config

        apart : (r == p) ≡ false → p ≢ r
        apart other same = absurd (grind (arith, nat_tests, other, same))

    served_on : (t : LockTable) (s : Settled) (w z : Work) → table_of w.node r ≡ Some t → IsSettled b.config b.number s → IsMidway b c e n w → carry_all r t s w ≡ Goes z
        → GoesOn b c e n p r w z
    served_on t s w z there is i goes =
        let first = entry_on t s.entry w there is.1 i in
        on_then r w (with_table r (put_entry t r s.entry) w) z first (all_on s.entry.version s.decisions (with_table r (put_entry t r s.entry) w) z is.0 first.midway goes)

    -- the decisions of a page's table may be carried out
    pub settles_well : (t : LockTable) (w : Work) → table_of w.node r ≡ Some t → IsMidway b c e n w → IsSettled b.config b.number (settle (number_of w.node) (entry_at t r))
    settles_well t w there i =
        subst (λ (m : ℕ). IsSettled b.config b.number (settle m (entry_at t r))) (sym i.good.home.number)
        (settle_is b.config b.number (entry_at t r) (entry_there b i.base r low t w there i.good))

    pub settle_on : (w z : Work) → IsMidway b c e n w → settle_page r w ≡ Goes z → GoesOn b c e n p r w z
    unfolding settle_page
    settle_on w z i goes = by (table_of w.node r) refl goes
      where
        of : (t : LockTable) (on : Bool) → table_of w.node r ≡ Some t → settle_served on r t w ≡ Goes z → GoesOn b c e n p r w z
        of t true there done = served_on t (settle (number_of w.node) (entry_at t r)) w z there (settles_well t w there i) i done
        of t false there done = on_itself r w z i (let same : w ≡ z = cc in same)

        by : (o : Option LockTable) → table_of w.node r ≡ o → settle_in r o w ≡ Goes z → GoesOn b c e n p r w z
        by None there done = on_itself r w z i (let same : w ≡ z = cc in same)
        by (Some t) there done = of t t.serving there done

    pub enter_on : (f : LockEntry → LockEntry) → ((x : LockEntry) → IsEntry b.config b.number x → IsEntry b.config b.number (f x)) → (w z : Work) → IsMidway b c e n w
        → enter f r w ≡ Goes z → GoesOn b c e n p r w z
    unfolding enter
    enter_on f each w z i goes = by (table_of w.node r) refl goes
      where
        by : (o : Option LockTable) → table_of w.node r ≡ o → enter_in f r o w ≡ Goes z → GoesOn b c e n p r w z
        by None there done = on_itself r w z i (let same : w ≡ z = cc in same)
        by (Some t) there done =
            let first = entry_on t (f (entry_at t r)) w there (each (entry_at t r) (entry_there b i.base r low t w there i.good)) i in
            on_then r w (with_table r (put_entry t r (f (entry_at t r))) w) z first (settle_on (with_table r (put_entry t r (f (entry_at t r))) w) z first.midway done)
