-- Accesses of a node's transactions.
use Rattle.std.proofs.Common.{◌≡◌, refl, subst, sym, ℕ, ◌==◌, Bool, true, false, ◌∷◌, Option, None, is_some}
use Rattle.std.specs.Prelude.{⊤}
use Rattle.pcl_base.specs.declared.tx.TxId.{TxId}
use Rattle.pcl_base.specs.declared.message.Body.TheVariants as body
use Rattle.pcl_base.specs.declared.reply.Reply.TheVariants as reply
use Rattle.text_rules.specs.MessageBytes.{IsTx, IsPage}
use Rattle.node_rules.specs.Words.{pick}
use Rattle.node_rules.specs.LockRule.{ask}
use Rattle.node_rules.specs.OpenTxs.{pending_of}
use Rattle.node_rules.specs.BufferRule.{find}
use Rattle.node_rules.specs.NodeState.{number_of, partition, page_owner}
use Rattle.node_rules.specs.Work.{HomeWork, Work, work_of_home, with_home_work, reply}
use Rattle.node_rules.specs.AccessRule.{Access, Accessed, Next, Now, AskOwn, AskOwner, access, access_in, take_frames, is_held, is_allowed, next_of, waiting, now_done, under_right, perform}
use Rattle.node_rules.specs.OwnerRule.{enter, waits_first, go_on, do_access}
use Rattle.home_laws.specs.Refused.{access_refusal}
use Rattle.step_laws.proofs.Outcomes.{On, on_so}
use Rattle.node_laws.specs.Nodes.{IsOther}
use Rattle.node_laws.proofs.Entries.{ask_is}
use Rattle.node_laws.proofs.Works.{Base, IsBase, IsGood, part_of, good_reply, good_replies, good_send, good_home}
use Rattle.node_laws.proofs.Grants.{access_good}
use Rattle.node_laws.proofs.Pages.{enter_good}

-- what an access asks for is for its transaction and page
abbrev IsNext : Access → Bool → Next → Type 0
IsNext a owned (Now r) = ⊤
IsNext a owned (AskOwn w) = w.tx ≡ a.tx
IsNext a owned (AskOwner r) = (r.tx ≡ a.tx) × (r.page ≡ a.page) × (owned ≡ false)

next_is : (a : Access) (owned : Bool) (have : Option ℕ) → IsNext a owned (next_of a owned have)
next_is a true have = refl
next_is a false have = (refl, refl, refl)

in_is : (a : Access) (owned : Bool) (w : HomeWork) → IsNext a owned (access_in a owned w).next
unfolding access_in
in_is a owned w = by (is_held a w.home) (is_allowed a owned w.home)
  where
    by : (x y : Bool)
        → IsNext a owned (pick x (now_done (perform a.tx a.page a.write w))
        (pick y (now_done (perform a.tx a.page None (record w { home = under_right a.tx a.page w.home })))
        (record { next = next_of a owned (find w.home.pool a.page); work = record w { home = waiting a w.home } }))).next
    by true y = tt
    by false true = tt
    by false false = next_is a owned (find w.home.pool a.page)

accessed_is : (a : Access) (owned : Bool) (w : HomeWork) → IsNext a owned (access a owned w).next
unfolding access
accessed_is a owned w = in_is a owned (take_frames a w)

module _ (b : Base) (base : IsBase b) where
  -- another node owns a page of which the node has no table
  abbrev pub OwnedBeside : Type 0
  OwnedBeside = (w : Work) (p : ℕ) → IsGood b w → b.has (partition b.config p) ≡ false → IsOther b.config b.number (page_owner w.node p)

  waits_good : (t : TxId) (p : ℕ) (w : Work) → IsGood b w → IsGood b (waits_first t p w)
  waits_good t p w good = by (is_some (pending_of w.node.home.txs t))
    where
      by : (x : Bool) → IsGood b (pick x (record w { replies = reply.Waits t p ∷ w.replies }) w)
      by true = good_replies b base (reply.Waits t p ∷ w.replies) w good
      by false = good

  next_good : OwnedBeside → (a : Access) (owned : Bool) (x : Next) (w : Work) → IsPage b.config a.page → IsTx b.config a.tx → (owned ≡ false → b.has (partition b.config a.page) ≡ false)
      → IsNext a owned x → IsGood b w → On (IsGood b) (go_on a.tx a.page x w)
  next_good beside a owned (Now r) w low tx none is good = good_reply b base r w good
  next_good beside a owned (AskOwn x) w low tx none is good =
      on_so (IsGood b) (IsGood b) (enter (λ e. ask e x) a.page w) (waits_first a.tx a.page)
      (enter_good b base a.page low (λ e. ask e x) (λ e h. ask_is b.config b.number e x h (subst (IsTx b.config) (sym is) tx)) w good) (waits_good a.tx a.page)
  next_good beside a owned (AskOwner r) w low tx none is good =
      let asked : Work = reply (reply.Waits a.tx a.page) w in
      let next : IsGood b asked = good_reply b base (reply.Waits a.tx a.page) w good in
      good_send b base (page_owner asked.node a.page) (body.Request r) asked (beside asked a.page next (none is.2))
      (subst (IsTx b.config) (sym is.0) tx, subst (IsPage b.config) (sym is.1) low) next

  -- an access that isn't refused
  pub do_access_good : OwnedBeside → (a : Access) (w : Work) → IsPage b.config a.page → IsTx b.config a.tx → access_refusal a w.node.home ≡ None
      → ((page_owner w.node a.page == number_of w.node) ≡ false → b.has (partition b.config a.page) ≡ false) → IsGood b w → On (IsGood b) (do_access a w)
  unfolding do_access
  do_access_good beside a w low tx allowed none good =
      let owned : Bool = page_owner w.node a.page == number_of w.node in
      let x : Accessed = access a owned (work_of_home w) in
      next_good beside a owned x.next (with_home_work w x.work) low tx none (accessed_is a owned (work_of_home w))
      (good_home b base x.work w (access_good b a owned (work_of_home w) allowed low (part_of b base w good)) good)
