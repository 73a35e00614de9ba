-- Another partition that leaves the node, is told, or is taken over.
use Rattle.std.proofs.Common.{◌≡◌, ap, ◌∙◌, ℕ, ◌==◌, Bool, true, false, Option, Some, None, arith}
use Rattle.std.specs.Prelude.{option_map}
use Rattle.std.proofs.lemmas.Bool.Decides.{nat_tests}
use Rattle.pcl_base.specs.Limits.{Sizes}
use Rattle.pcl_base.specs.declared.event.Event.{Event}
use Rattle.pcl_base.specs.declared.lock.Kind.{Kind}
use Rattle.pcl_base.specs.declared.lock.Kind.TheVariants as kind
use Rattle.pcl_base.specs.declared.message.Body.TheVariants as body
use Rattle.run_rules.specs.Views.{View, owner_of}
use Rattle.node_rules.specs.BufferRule as buffer
use Rattle.node_rules.specs.InstallRule.{owned_before, give_up, left_if, new_table, take_over, tell_new_owner}
use Rattle.node_rules.specs.LockTable.{LockTable}
use Rattle.node_rules.specs.NodeState.{HomeState, number_of, partition, put_table}
use Rattle.node_rules.specs.OpenTxs.{held_by}
use Rattle.node_rules.specs.Reports.{report}
use Rattle.node_rules.specs.Shelf.{right_on}
use Rattle.node_rules.specs.Words.{pick}
use Rattle.node_rules.specs.Work.{Work, with_home_work, with_node}
use Rattle.cluster_rules.specs.Clusters.{Cluster}
use Rattle.page_laws.specs.Look.Ends.{HasGivenUp, HasKinds, IsTakenOver, version_of_right}
use Rattle.page_laws.specs.Look.Grants.{of_kind}
use Rattle.page_laws.specs.Look.Parts.{SameLife}
use Rattle.page_laws.proofs.LookParts.Turning.{giving_up_is_seen_law, taking_over_is_seen_law}
use Rattle.page_relation.specs.Homes.{wait_on}
use Rattle.page_relation.specs.Work.Unseen.{IsUnseen, SamePage, SameUse}
use Rattle.page_relation.proofs.WorkParts.Framing.{unseen_self, unseen_then}
use Rattle.page_relation.proofs.WorkParts.Quiet.{homes_elsewhere_law, sends_elsewhere_law, tables_elsewhere_law}
use Rattle.install_relation.specs.Taking.{taken}
use Rattle.install_relation.specs.Unseen.{TellingElsewhere, TakingElsewhere}

-- what transactions have of a page whose locks keep their kind
uses_stay : (q p : ℕ) (k : Kind) (h g : HomeState) → (partition h.config p == q) ≡ false → HasKinds q k h g → SameUse p h g
uses_stay q p k h g other is =
    record {
      held = λ t. is.held t p ∙ ap (λ (b : Bool). pick b (option_map (of_kind k) (held_by h.txs t p)) (held_by h.txs t p)) other;
      waits = λ t. ap (λ o. wait_on o p) (is.waits t);
      bytes = λ t. is.privates.bytes t p;
      runs = λ t. is.privates.runs t p;
    }

module _ (c : Cluster) (e : Event) (n p q : ℕ) (w : Work) (config : w.node.home.config ≡ c.config) (other : (q == partition c.config p) ≡ false) where
  apart : (partition w.node.home.config p == q) ≡ false
  apart = (let same : partition w.node.home.config p ≡ partition c.config p = ap (λ (z : Sizes). partition z p) config in grind (arith, nat_tests, other, same))

  differs : q ≡ partition c.config p → ⊥
  differs same = absurd (grind (arith, nat_tests, other, same))

  abbrev with_other : HomeState → Work
  with_other h = with_home_work w (record { home = h; pages = w.pages; calls = w.calls })

  -- another home, and another table of the partition
  other_home : (h : HomeState) (t : Option LockTable) → SameLife w.node.home h → SamePage p w.node.home h → IsUnseen c e n p w (with_node w (put_table (with_other h).node q t))
  other_home h t life page =
      unseen_then c e n p w (with_other h) (with_node w (put_table (with_other h).node q t))
      (homes_elsewhere_law c e n p w (record { home = h; pages = w.pages; calls = w.calls }) life page (λ disk log is. is))
      (tables_elsewhere_law c e n p q t (with_other h) (λ same. absurd (differs same)))

  over : IsTakenOver q w.node.home (take_over q w.node.home)
  over = taking_over_is_seen_law q w.node.home

  pub taking_unseen : IsUnseen c e n p w (taken q w)
  taking_unseen =
      other_home (take_over q w.node.home) (Some (new_table q (number_of w.node) (take_over q w.node.home))) over.locks.life
      (record {
        uses = uses_stay q p kind.Own w.node.home (take_over q w.node.home) apart over.locks;
        copy = over.copies p;
        right = ap version_of_right (over.rights p ∙ ap (λ (b : Bool). pick b None (right_on w.node.home.shelf p)) apart);
      })

  given : HasGivenUp q w.node.home (give_up q w.node).home
  given = giving_up_is_seen_law q w.node

  left_unseen : (b : Bool) → IsUnseen c e n p w (with_node w (left_if b q w.node))
  left_unseen false = unseen_self c e n p w
  left_unseen true =
      other_home (give_up q w.node).home None given.locks.life
      (record {
        uses = uses_stay q p kind.Registered w.node.home (give_up q w.node).home apart given.locks;
        copy =
            given.copies p
            ∙ ap (λ (b : Bool). pick b (buffer.cleaned (buffer.copy_at w.node.home.pool p)) (buffer.copy_at w.node.home.pool p)) apart;
        right = ap version_of_right (given.rights p);
      })

  pub telling_unseen : (before : Option View) (v : View) → IsUnseen c e n p w (tell_new_owner before v q w)
  unfolding report
  telling_unseen before v =
      let left : Work = with_node w (left_if (owned_before before q (number_of w.node)) q w.node) in
      unseen_then c e n p w left (tell_new_owner before v q w) (left_unseen (owned_before before q (number_of w.node)))
      (sends_elsewhere_law c e n p (owner_of v q) (body.Report (report q left.node.home)) left other)

pub taking_elsewhere_law : TakingElsewhere
taking_elsewhere_law c e n p q w config other = taking_unseen c e n p q w config other

pub telling_elsewhere_law : TellingElsewhere
telling_elsewhere_law c e n p q before v w config other = telling_unseen c e n p q w config other before v
