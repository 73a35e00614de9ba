-- What a work has given so far and what is due at its node, under caps.
use Rattle.std.proofs.Common.{◌≡◌, ℕ, ◌+◌, ◌≤◌, [], ◌∷◌, length, length-append, ap, ◌∙◌, arith}
use Rattle.pcl_base.specs.Limits.{Sizes}
use Rattle.pcl_base.specs.declared.tx.TxId.{TxId}
use Rattle.pcl_base.specs.declared.lock.Held.{Held}
use Rattle.pcl_base.specs.declared.message.Body.{Body}
use Rattle.pcl_base.specs.declared.reply.Reply.{Reply}
use Rattle.node_rules.specs.LockRule.{LockEntry}
use Rattle.node_rules.specs.NodeState.{NodeState, Outgoing}
use Rattle.node_rules.specs.Work.{HomeWork, Work, with_home_work, with_node, reply, send}
use Rattle.step_laws.specs.Most.{items_in, items_sent}
use Rattle.step_laws.proofs.Sums.{sum_push}
use Rattle.step_laws.proofs.Tables.{in_tables}
use Rattle.step_laws.proofs.Homes.{waits_by, stock, IsSame, same_stock, HasLock, lock_waits, lock_stock}

-- replies and sends
abbrev pub given : Work → ℕ
given w = length w.replies + length w.sends

-- a configuration, a weight of pages, and how many items, and how much of a home's stock and of its
-- waiting accesses by that weight, there are at most
pub record Cap : Type 0 where
  pub config : Sizes
  pub weight : ℕ → ℕ
  pub items : ℕ
  pub stock : ℕ
  pub waits : ℕ

-- a work under its caps, with what it has given and what its entries count, k at most
pub record Holds (f : LockEntry → ℕ) (c : Cap) (k : ℕ) (w : Work) : Type 0 where
  pub given : given w + in_tables f w.node ≤ k
  pub items : items_sent w.sends ≤ c.items
  pub stock : stock c.weight w.node.home ≤ c.stock
  pub waits : waits_by c.weight w.node.home.txs.txs ≤ c.waits
  pub config : w.node.home.config ≡ c.config

module _ (f : LockEntry → ℕ) (c : Cap) where
  pub holds_more : (k m : ℕ) (w : Work) → k ≤ m → Holds f c k w → Holds f c m w
  holds_more k m w le h =
      let now = h.given in
      record { given = omega (arith, le, now); items = h.items; stock = h.stock; waits = h.waits; config = h.config }

  pub holds_reply : (k : ℕ) (r : Reply) (w : Work) → Holds f c k w → Holds f c (k + 1) (reply r w)
  holds_reply k r w h =
      let now = h.given in
      let more = length-append w.replies (r ∷ []) in
      record { given = omega (arith, now, more); items = h.items; stock = h.stock; waits = h.waits; config = h.config }

  pub holds_send : (k to : ℕ) (b : Body) (w : Work) → items_in b ≡ 0 → Holds f c k w → Holds f c (k + 1) (send to b w)
  holds_send k to b w none h =
      let now = h.given in
      let items = h.items in
      let sent : Outgoing = record { to = to; message = record { epoch = w.node.epoch; body = b } } in
      let more = length-append w.sends (sent ∷ []) in
      let all = sum_push (λ (s : Outgoing). items_in s.message.body) w.sends sent in
      record { given = omega (arith, now, more); items = omega (arith, items, none, all); stock = h.stock; waits = h.waits; config = h.config }

  -- an own transaction gets a lock on a page without weight
  pub holds_lock : (k : ℕ) (t : TxId) (l : Held) (x : HomeWork) (w : Work) → c.weight l.page ≡ 0 → HasLock t l w.node.home x.home → Holds f c k w → Holds f c k (with_home_work w x)
  holds_lock k t l x w none has h =
      let stock = lock_stock c.weight t l w.node.home x.home none has in
      let waits = lock_waits c.weight t l w.node.home x.home has in
      let was_stock = h.stock in
      let was_waits = h.waits in
      record { given = h.given; items = h.items; stock = omega (arith, stock, was_stock); waits = omega (arith, waits, was_waits); config = has.config ∙ h.config }

  -- other tables with another count
  pub holds_tables : (g : LockEntry → ℕ) (k m : ℕ) (n : NodeState) (w : Work) → n.home ≡ w.node.home → given w + in_tables g n ≤ m → Holds f c k w → Holds g c m (with_node w n)
  holds_tables g k m n w home less h =
      let same : stock c.weight n.home ≡ stock c.weight w.node.home = ap (stock c.weight) home in
      let waits : waits_by c.weight n.home.txs.txs ≡ waits_by c.weight w.node.home.txs.txs = ap (λ h. waits_by c.weight h.txs.txs) home in
      let was_stock = h.stock in
      let was_waits = h.waits in
      record { given = less; items = h.items; stock = omega (arith, same, was_stock); waits = omega (arith, waits, was_waits); config = ap (λ h. h.config) home ∙ h.config }

  -- the home's part of the work with the same transactions and rights
  pub holds_same : (k : ℕ) (x : HomeWork) (w : Work) → IsSame w.node.home x.home → Holds f c k w → Holds f c k (with_home_work w x)
  holds_same k x w same h =
      let alike : stock c.weight x.home ≡ stock c.weight w.node.home = same_stock c.weight w.node.home x.home same in
      let waits : waits_by c.weight x.home.txs.txs ≡ waits_by c.weight w.node.home.txs.txs = ap (λ s. waits_by c.weight s.txs) same.txs in
      let was_stock = h.stock in
      let was_waits = h.waits in
      record { given = h.given; items = h.items; stock = omega (arith, alike, was_stock); waits = omega (arith, waits, was_waits); config = same.config ∙ h.config }
