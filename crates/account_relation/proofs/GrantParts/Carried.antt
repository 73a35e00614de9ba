-- What the settling of a page sends.
use Rattle.std.proofs.Common.{◌≡◌, refl, ap, sym, subst, ◌∙◌, ℕ, ◌==◌, Bool, true, false, List, [], ◌∷◌, ◌++◌, append-nil, append_assoc, Option, Some, None}
use Rattle.std.specs.Prelude.{⊤}
use Rattle.pcl_base.specs.declared.lock.Decision.{Decision}
use Rattle.pcl_base.specs.declared.lock.Decision.TheVariants as decision
use Rattle.pcl_base.specs.declared.lock.Held.{Held}
use Rattle.pcl_base.specs.declared.lock.Kind.TheVariants as kind
use Rattle.pcl_base.specs.declared.message.Body.TheVariants as body
use Rattle.pcl_base.specs.declared.message.CopyPart.{CopyPart}
use Rattle.pcl_base.specs.declared.tx.TxId.{TxId}
use Rattle.text_rules.specs.StoredPage.{PageAt}
use Rattle.node_rules.specs.AccessRule.{Granted, granted, bring, unless_current, new_content, from_disk, clean_copy, locked, perform, write_of, on_pool}
use Rattle.node_rules.specs.CopyRule.{copy_for, is_version}
use Rattle.node_rules.specs.BufferRule.{find, copy_at, bytes_of_copy, install}
use Rattle.node_rules.specs.LockRule.{Settled, settle}
use Rattle.node_rules.specs.LockTable.{LockTable, entry_at, put_entry}
use Rattle.node_rules.specs.NodeState.{Outgoing, number_of, table_of}
use Rattle.node_rules.specs.OpenTxs.{pending_of, waits_as, add}
use Rattle.node_rules.specs.OwnerRule.{with_table, copy_part, told, grant_own, carry_grant, carry_out, carry_all, settle_served, settle_in, settle_page}
use Rattle.node_rules.specs.Words.{pick}
use Rattle.node_rules.specs.Work.{HomeWork, Work, Goes, Differs, for_each, work_of_home, read_page}
use Rattle.step_laws.proofs.Outcomes.{On, on_then, on_so, on_more, on_any}
use Rattle.account_relation.specs.Grant.Decided.{IsGrantTo, First, UnlessOwn, AreSendsOf, SendsOn, SettlesSend}

-- ---- the node stays itself

content_names : (p v : ℕ) (image : Option (List ℕ)) (w : HomeWork) → On (λ (x : HomeWork). x.home.txs ≡ w.home.txs) (new_content p v image w)
content_names p v (Some bytes) w = refl
content_names p v None w = on_then (λ (at : PageAt). ⊤) (λ (x : HomeWork). x.home.txs ≡ w.home.txs) (read_page w.pages p) (from_disk p v w) (on_any (read_page w.pages p)) (λ at any. by at (at.version == v))
  where
    by : (at : PageAt) (b : Bool) → On (λ (x : HomeWork). x.home.txs ≡ w.home.txs) (pick b (Goes (on_pool (λ b. install b p (clean_copy at)) w)) (Differs p v at.version))
    by at true = refl
    by at false = tt

bring_names : (p v : ℕ) (image : Option (List ℕ)) (w : HomeWork) → On (λ (x : HomeWork). x.home.txs ≡ w.home.txs) (bring p v image w)
unfolding bring
bring_names p v image w = by (is_version (find w.home.pool p) v)
  where
    by : (b : Bool) → On (λ (x : HomeWork). x.home.txs ≡ w.home.txs) (unless_current b p v image w)
    by true = refl
    by false = content_names p v image w

perform_names : (t : TxId) (p : ℕ) (write : Option (ℕ × List ℕ)) (w : HomeWork) → (perform t p write w).work.home.txs ≡ w.home.txs
unfolding perform
perform_names t p None w = refl
perform_names t p (Some write) w = refl

granted_names : (t : TxId) (l : Held) (v : ℕ) (image : Option (List ℕ)) (w : HomeWork) → On (λ (g : Granted). g.work.home.txs.node ≡ w.home.txs.node) (granted t l v image w)
unfolding granted add
granted_names t l v image w =
    on_so (λ (x : HomeWork). x.home.txs ≡ w.home.txs) (λ (g : Granted). g.work.home.txs.node ≡ w.home.txs.node) (bring l.page v image w) (locked t l (write_of (pending_of w.home.txs t))) (bring_names l.page v image w)
    (λ x same. ap (λ s. s.node) (perform_names t l.page (write_of (pending_of w.home.txs t)) (record x { home = record (x.home) { txs = add x.home.txs t l } })) ∙ ap (λ s. s.node) same)

-- ---- decisions

module _ (n p v : ℕ) where
  -- a work that sent nothing more
  same_sends : (w x : Work) → x.sends ≡ w.sends → number_of x.node ≡ n → (ds : List Decision) → AreSendsOf n p ds [] → SendsOn n p ds w x
  same_sends w x sends number ds are = record { more = []; sends = sends ∙ sym (append-nil w.sends); are = are; number = number }

  -- further decisions behind one that sent so
  behind : (w x y : Work) (os : List Outgoing) (ds : List Decision) (d : Decision) → x.sends ≡ w.sends ++ os → ((more : List Outgoing) → AreSendsOf n p ds more → AreSendsOf n p (d ∷ ds) (os ++ more))
      → SendsOn n p ds x y → SendsOn n p (d ∷ ds) w y
  behind w x y os ds d sends step rest =
      record {
        more = os ++ rest.more;
        sends = rest.sends ∙ ap (λ xs. xs ++ rest.more) sends ∙ append_assoc w.sends os rest.more;
        are = step rest.more rest.are;
        number = rest.number;
      }

  -- what one decision sends
  record SendsOne (d : Decision) (w x : Work) : Type 0 where
    os : List Outgoing
    sends : x.sends ≡ w.sends ++ os
    step : (ds : List Decision) (more : List Outgoing) → AreSendsOf n p ds more → AreSendsOf n p (d ∷ ds) (os ++ more)
    number : number_of x.node ≡ n

  carry_sends : (d : Decision) (w : Work) → number_of w.node ≡ n → On (SendsOne d w) (carry_out p v d w)
  unfolding carry_out AreSendsOf
  carry_sends (decision.Revoke k) w number = record { os = _; sends = refl; step = λ ds more are. ((refl, refl), are); number = number }
  carry_sends (decision.Grant t m right have) w number = by (t.node == number_of w.node) (ap (λ k. t.node == k) number)
    where
      mine : (t.node == n) ≡ true → (ds : List Decision) (more : List Outgoing) → AreSendsOf n p ds more → UnlessOwn (t.node == n) (IsGrantTo t p m right) (AreSendsOf n p ds) more
      mine is ds more are = subst (λ b. UnlessOwn b (IsGrantTo t p m right) (AreSendsOf n p ds) more) (sym is) are

      own : (b : Bool) → (t.node == n) ≡ true → On (SendsOne (decision.Grant t m right have) w) (grant_own b t m p v w)
      own false is = record { os = []; sends = sym (append-nil w.sends); step = mine is; number = number }
      own true is =
          let l : Held = record { page = p; mode = m; kind = kind.Own } in
          on_so (λ (g : Granted). g.work.home.txs.node ≡ w.node.home.txs.node) (SendsOne (decision.Grant t m right have) w) (granted t l v None (work_of_home w)) (told w) (granted_names t l v None (work_of_home w))
          (λ g same. record { os = []; sends = sym (append-nil w.sends); step = mine is; number = same ∙ number })

      by : (b : Bool) → b ≡ (t.node == n) → On (SendsOne (decision.Grant t m right have) w) (carry_grant b t m right have p v w)
      by true is = own (waits_as (pending_of w.node.home.txs t) p m) (sym is)
      by false is = record { os = o ∷ []; sends = refl; step = λ ds more are. subst (λ b. UnlessOwn b (IsGrantTo t p m right) (AreSendsOf n p ds) (o ∷ more)) is (first ds more are); number = number }
        where
          part : CopyPart
          part = copy_part (copy_for have v (find w.node.home.pool p)) (bytes_of_copy (copy_at w.node.home.pool p))

          o : Outgoing
          o = record { to = t.node; message = record { epoch = w.node.epoch; body = body.Grant (record { tx = t; page = p; mode = m; right = right; version = v; copy = part }) } }

          first : (ds : List Decision) (more : List Outgoing) → AreSendsOf n p ds more → First (IsGrantTo t p m right) (AreSendsOf n p ds) (o ∷ more)
          first ds more are = (record { to = refl; version = v; copy = part; says = refl }, are)

  all_sends : (ds : List Decision) (w : Work) → number_of w.node ≡ n → On (SendsOn n p ds w) (for_each (carry_out p v) ds w)
  unfolding for_each AreSendsOf
  all_sends [] w number = same_sends w w refl number [] refl
  all_sends (d ∷ ds) w number =
      on_then (SendsOne d w) (SendsOn n p (d ∷ ds) w) (carry_out p v d w) (for_each (carry_out p v) ds) (carry_sends d w number)
      (λ x one. on_more (SendsOn n p ds x) (SendsOn n p (d ∷ ds) w) (for_each (carry_out p v) ds x) (λ y rest. behind w x y one.os ds d one.sends (one.step ds) rest) (all_sends ds x one.number))

settled_sends : (n p : ℕ) (t : LockTable) (w : Work) → number_of w.node ≡ n → table_of w.node p ≡ Some t → t.serving ≡ true → On (SendsOn n p (settle n (entry_at t p)).decisions w) (settle_page p w)
unfolding settle_page
settled_sends n p t w number table serving =
    subst (λ (o : Option LockTable). On (SendsOn n p (settle n (entry_at t p)).decisions w) (settle_in p o w)) (sym table)
    (subst (λ (b : Bool). On (SendsOn n p (settle n (entry_at t p)).decisions w) (settle_served b p t w)) (sym serving)
    (subst (λ (k : ℕ). On (SendsOn n p (settle n (entry_at t p)).decisions w) (carry_all p t (settle k (entry_at t p)) w)) (sym number) carried))
  where
    s : Settled
    s = settle n (entry_at t p)

    carried : On (SendsOn n p s.decisions w) (carry_all p t s w)
    carried =
        let x : Work = with_table p (put_entry t p s.entry) w in
        on_more (SendsOn n p s.decisions x) (SendsOn n p s.decisions w) (for_each (carry_out p s.entry.version) s.decisions x)
        (λ y is. record { more = is.more; sends = is.sends; are = is.are; number = is.number }) (all_sends n p s.entry.version s.decisions x number)

pub settles_send_law : SettlesSend
settles_send_law n p t w x number table serving goes = subst (On (SendsOn n p (settle n (entry_at t p)).decisions w)) goes (settled_sends n p t w number table serving)
