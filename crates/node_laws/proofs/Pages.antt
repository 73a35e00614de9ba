-- A page that is settled, and an entry that is changed and then settled.
use Rattle.std.proofs.Common.{◌≡◌, refl, ap, subst, ◌∙◌, sym, ℕ, ◌<◌, ◌==◌, Bool, true, false, length, Option, Some, None, arith, mod-lt}
use Rattle.std.specs.Prelude.{IfSome, ◌≢◌}
use Rattle.std.proofs.lemmas.Bool.Decides.{nat_tests}
use Rattle.pcl_base.specs.Limits.{Sizes}
use Rattle.pcl_base.specs.declared.tx.TxId.{TxId}
use Rattle.pcl_base.specs.declared.tx.Mode.{Mode}
use Rattle.pcl_base.specs.declared.lock.Held.{Held}
use Rattle.pcl_base.specs.declared.lock.Kind.TheVariants as kind
use Rattle.pcl_base.specs.declared.lock.Decision.{Decision}
use Rattle.pcl_base.specs.declared.lock.Decision.TheVariants as decision
use Rattle.pcl_base.specs.declared.message.Body.TheVariants as body
use Rattle.pcl_base.specs.declared.trace.CopyKind.TheVariants as copy
use Rattle.text_rules.specs.MessageBytes.{IsTx, IsPage, IsCopy, IsRight}
use Rattle.node_rules.specs.Words.{pick}
use Rattle.node_rules.specs.CopyRule.{is_version, copy_for}
use Rattle.node_rules.specs.LockRule.{LockEntry, Settled, settle}
use Rattle.node_rules.specs.LockTable.{LockTable, entry_at, put_entry}
use Rattle.node_rules.specs.OpenTxs.{pending_of, waits_as}
use Rattle.node_rules.specs.BufferRule.{Copy, copy_at, version_of_copy, bytes_of_copy}
use Rattle.node_rules.specs.NodeState.{number_of, partition, table_of}
use Rattle.node_rules.specs.Work.{Work, work_of_home, with_home_work}
use Rattle.node_rules.specs.AccessRule.{Granted, granted}
use Rattle.node_rules.specs.OwnerRule.{copy_part, with_table, told, send_grant, grant_own, carry_grant, carry_out, carry_all, settle_served, settle_in, settle_page, enter_in, enter}
use Rattle.step_laws.proofs.Outcomes.{On, on_so, on_each}
use Rattle.node_laws.specs.Nodes.{IsEntry, IsOther}
use Rattle.node_laws.proofs.Entries.{IsDecision, IsSettled, settle_is}
use Rattle.node_laws.proofs.Tables.{at_is, put_is}
use Rattle.node_laws.proofs.Stored.{home_copy}
use Rattle.node_laws.proofs.Works.{Base, IsBase, IsHomeWork, IsGood, part_of, good_reply, good_send, good_home, has_table, good_table}
use Rattle.node_laws.proofs.Grants.{granted_good}

-- an image that a grant brings is a whole page
copy_is : (size : ℕ) (have : Option ℕ) (v : ℕ) (o : Option Copy) → IfSome o (λ x. length x.bytes ≡ size) → IsCopy size (copy_part (copy_for have v (version_of_copy o)) (bytes_of_copy o))
unfolding copy_for
copy_is size have v o sized = by (is_version have v) o sized
  where
    image : (b : Bool) (x : Copy) → length x.bytes ≡ size → IsCopy size (copy_part (pick b copy.Image copy.OnDisk) x.bytes)
    image true x h = h
    image false x h = tt

    by : (b : Bool) (o : Option Copy) → IfSome o (λ x. length x.bytes ≡ size) → IsCopy size (copy_part (pick b copy.Current (pick (is_version (version_of_copy o) v) copy.Image copy.OnDisk)) (bytes_of_copy o))
    by true o h = tt
    by false None h = tt
    by false (Some x) h = image (x.version == v) x h

module _ (b : Base) (base : IsBase b) where
  pub partition_low : (p : ℕ) → partition b.config p < b.config.nodes
  partition_low p = let low = base.number in mod-lt p (omega (arith, low))

  pub same_partition : (w : Work) (p : ℕ) → IsGood b w → partition w.node.home.config p ≡ partition b.config p
  same_partition w p good = ap (λ (c : Sizes). partition c p) good.home.config

  other_by_test : (n m : ℕ) → m ≡ b.number → (n == m) ≡ false → n < b.config.nodes → IsOther b.config b.number n
  other_by_test n m same e low = (low, differs)
    where
      differs : n ≢ b.number
      differs = grind (arith, nat_tests, same, e)

  module _ (p : ℕ) (low : IsPage b.config p) where
    own_good : (x : Bool) (t : TxId) (m : Mode) (v : ℕ) (w : Work) → waits_as (pending_of w.node.home.txs t) p m ≡ x → IsGood b w → On (IsGood b) (grant_own x t m p v w)
    own_good false t m v w e good = good
    own_good true t m v w e good =
        let l : Held = record { page = p; mode = m; kind = kind.Own } in
        on_so (λ (g : Granted). IsHomeWork b g.work) (IsGood b) (granted t l v None (work_of_home w)) (told w)
        (granted_good b t l v None (work_of_home w) e refl tt low (part_of b base w good))
        (λ g is. good_reply b base g.reply (with_home_work w g.work) (good_home b base g.work w is good))

    sent_good : (t : TxId) (m : Mode) (right : Bool) (have : Option ℕ) (v : ℕ) (w : Work) → (t.node == number_of w.node) ≡ false → IsTx b.config t → IsRight m right
        → IsGood b w → IsGood b (send_grant t m right have p v w)
    sent_good t m right have v w e tx is good =
        good_send b base t.node _ w (other_by_test t.node (number_of w.node) good.home.number e tx.0)
        (tx, low, is, copy_is b.config.size have v (copy_at w.node.home.pool p) (sized (copy_at w.node.home.pool p) (home_copy w.node.home p good.home.home))) good
      where
        sized : (o : Option Copy) → IfSome o (λ x. IsPage w.node.home.config p × (length x.bytes ≡ w.node.home.config.size)) → IfSome o (λ x. length x.bytes ≡ b.config.size)
        sized None h = tt
        sized (Some x) h = h.1 ∙ ap (λ (c : Sizes). c.size) good.home.config

    grant_good : (x : Bool) (t : TxId) (m : Mode) (right : Bool) (have : Option ℕ) (v : ℕ) (w : Work) → (t.node == number_of w.node) ≡ x → IsTx b.config t → IsRight m right
        → IsGood b w → On (IsGood b) (carry_grant x t m right have p v w)
    grant_good true t m right have v w e tx is good = own_good (waits_as (pending_of w.node.home.txs t) p m) t m v w refl good
    grant_good false t m right have v w e tx is good = sent_good t m right have v w e tx is good

    carry_good : (v : ℕ) (d : Decision) (w : Work) → IsDecision b.config b.number d → IsGood b w → On (IsGood b) (carry_out p v d w)
    unfolding carry_out
    carry_good v (decision.Grant t m right have) w is good = grant_good (t.node == number_of w.node) t m right have v w refl is.0 is.1 good
    carry_good v (decision.Revoke n) w is good = good_send b base n (body.Revoke p) w is low good

    -- another entry of a page
    pub entry_good : (t : LockTable) (e : LockEntry) (w : Work) → table_of w.node p ≡ Some t → IsEntry b.config b.number e → IsGood b w → IsGood b (with_table p (put_entry t p e) w)
    entry_good t e w there is good =
        let q : ℕ = partition w.node.home.config p in
        let same : q ≡ partition b.config p = same_partition w p good in
        let below : q < b.config.nodes = subst (λ (n : ℕ). n < b.config.nodes) (sym same) (partition_low p) in
        let has = has_table b base q t w below there good in
        good_table b base q (put_entry t p e) w has.0 (put_is b.config b.number q t p e (low, sym same) is has.1) good

    -- the entry that is there
    pub entry_there : (t : LockTable) (w : Work) → table_of w.node p ≡ Some t → IsGood b w → IsEntry b.config b.number (entry_at t p)
    entry_there t w there good =
        let q : ℕ = partition w.node.home.config p in
        let same : q ≡ partition b.config p = same_partition w p good in
        let below : q < b.config.nodes = subst (λ (n : ℕ). n < b.config.nodes) (sym same) (partition_low p) in
        at_is b.config b.number q t p (has_table b base q t w below there good).1

    all_good : (t : LockTable) (s : Settled) (w : Work) → table_of w.node p ≡ Some t → IsSettled b.config b.number s → IsGood b w → On (IsGood b) (carry_all p t s w)
    all_good t s w there is good =
        on_each (IsGood b) (IsDecision b.config b.number) (carry_out p s.entry.version) (λ d x. carry_good s.entry.version d x) s.decisions is.0 (with_table p (put_entry t p s.entry) w)
        (entry_good t s.entry w there is.1 good)

    pub settle_good : (w : Work) → IsGood b w → On (IsGood b) (settle_page p w)
    unfolding settle_page
    settle_good w good = by (table_of w.node p) refl
      where
        of : (t : LockTable) (x : Bool) → table_of w.node p ≡ Some t → On (IsGood b) (settle_served x p t w)
        of t true there =
            all_good t (settle (number_of w.node) (entry_at t p)) w there
            (subst (λ (m : ℕ). IsSettled b.config b.number (settle m (entry_at t p))) (sym good.home.number) (settle_is b.config b.number (entry_at t p) (entry_there t w there good))) good
        of t false there = good

        by : (o : Option LockTable) → table_of w.node p ≡ o → On (IsGood b) (settle_in p o w)
        by None there = good
        by (Some t) there = of t t.serving there

    -- an entry is changed, and the page is settled
    pub enter_good : (f : LockEntry → LockEntry) → ((e : LockEntry) → IsEntry b.config b.number e → IsEntry b.config b.number (f e)) → (w : Work) → IsGood b w → On (IsGood b) (enter f p w)
    unfolding enter
    enter_good f each w good = by (table_of w.node p) refl
      where
        by : (o : Option LockTable) → table_of w.node p ≡ o → On (IsGood b) (enter_in f p o w)
        by None there = good
        by (Some t) there =
            settle_good (with_table p (put_entry t p (f (entry_at t p))) w)
            (entry_good t (f (entry_at t p)) w there (each (entry_at t p) (entry_there t w there good)) good)
