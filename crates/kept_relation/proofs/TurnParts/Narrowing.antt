-- What comes where the acting node counts fewer messages.
use Rattle.std.proofs.Common.{◌≡◌, refl, ap, sym, subst, ◌∙◌, ℕ, ◌==◌, ◌&&◌, ◌≤◌, ◌+◌, not, Bool, true, false, List, [], ◌∷◌, ◌++◌, Option, Some, None, arith}
use Rattle.std.specs.List.{AllByRecursion, filter}
use Rattle.pcl_base.specs.declared.event.Event.{Event}
use Rattle.pcl_base.specs.declared.message.Body.{Body}
use Rattle.pcl_base.specs.declared.message.Message.{Message}
use Rattle.run_rules.specs.Views.{View}
use Rattle.node_rules.specs.NodeState.{NodeState, partition, number_of}
use Rattle.node_rules.specs.Words.{pick}
use Rattle.node_rules.specs.Work.{Work, with_node}
use Rattle.node_laws.proofs.Lists.{all_filter, all_weaker, all_each}
use Rattle.cluster_rules.specs.Clusters.{Cluster, node_at, is_up, view_of_epoch}
use Rattle.cluster_rules.specs.ClusterStep.{is_taken}
use Rattle.cluster_rules.specs.Links.{link_at, tail_of}
use Rattle.cluster_laws.proofs.Steps.{up_is_member_law}
use Rattle.cluster_laws.specs.Era.Counts.{counts_at, counts_in, is_dropped}
use Rattle.node_rules.specs.Judging.{judge}
use Rattle.cluster_laws.proofs.EraParts.Counted.{counted_before_law, counted_unborn_law}
use Rattle.cluster_laws.proofs.EraParts.Epochs.{later_epochs_law, whole_at}
use Rattle.cluster_laws.proofs.EraParts.Lives.{stands}
use Rattle.cluster_laws.specs.Link.Coming.{speaks_of, is_coming, coming, sent_to, delivers}
use Rattle.cluster_laws.specs.Link.Orders.{AreOrdered, how_many}
use Rattle.cluster_laws.proofs.LinkParts.Ordered.{ordered_among_some_law, some_of_fewer_law, numbers_among_some_law}
use Rattle.page_protocol.specs.State.{Page}
use Rattle.page_relation.specs.Messages.{AreOnce}
use Rattle.page_relation.specs.Relation.{LinksAre, MessageIs}
use Rattle.page_relation.specs.Work.Landing.{land, Acts}
use Rattle.page_relation.proofs.WorkParts.Comings.{landed_coming}
use Rattle.page_relation.proofs.WorkParts.Nodes.{changed_node}
use Rattle.kept_relation.specs.Turn.Standing.{HasNext, stood}

-- what passes both tests
both_true : (b x y : Bool) → (x ≡ true → y ≡ true) → (b && x) ≡ true → (b && y) ≡ true
both_true true x y f is = f is
both_true false x y f is = is

-- two facts of all items give a third
pub all_weaker_both : {X : Type 0} (P Q R : X → Type 0) → ((x : X) → P x → Q x → R x) → (xs : List X) → AllByRecursion P xs → AllByRecursion Q xs → AllByRecursion R xs
all_weaker_both P Q R f [] one two = tt
all_weaker_both P Q R f (x ∷ xs) one two = (f x one.0 two.0, all_weaker_both P Q R f xs one.1 two.1)

-- of what comes once, some comes once
once_among : (f : Message → Bool) (ms : List Message) → AreOnce ms → AreOnce (filter f ms)
once_among f ms is =
    record {
      releases = λ t. fewer _ (is.releases t);
      rights = fewer _ is.rights;
      answers = fewer _ is.answers;
    }
  where
    fewer : (kind : Body → Bool) → how_many kind ms ≤ 1 → how_many kind (filter f ms) ≤ 1
    fewer kind le = let few = numbers_among_some_law kind ms f in omega (arith, le, few)

module _ (c : Cluster) (e : Event) (n p : ℕ) (acts : Acts c n) (w : Work) (k : NodeState) (narrow : (from epoch : ℕ) → counts_in (Some w.node) from (partition c.config p) epoch ≡ true → counts_in (Some k) from (partition c.config p) epoch ≡ true) where
  test_narrow : (a b : ℕ) (m : Message) → is_coming c.config p a (node_at (land c e n w) b) m ≡ true → is_coming c.config p a (node_at (land c e n (with_node w k)) b) m ≡ true
  test_narrow a b m =
      changed_node c e n acts w (with_node w k) b
      (λ o. is_coming c.config p a (node_at (land c e n w) b) m ≡ is_coming c.config p a o m)
      (λ o. is_coming c.config p a (node_at (land c e n w) b) m ≡ true → is_coming c.config p a o m ≡ true)
      (λ is same comes. both_true (speaks_of c.config p m.body) _ _ (narrow a m.epoch) (sym same ∙ comes))
      (λ o other same comes. sym same ∙ comes)
      refl

  pub coming_narrow : (a b : ℕ) → coming (land c e n w) p a b ≡ filter (is_coming c.config p a (node_at (land c e n w) b)) (coming (land c e n (with_node w k)) p a b)
  coming_narrow a b =
      landed_coming c e n p w a b acts
      ∙ some_of_fewer_law old now there (all_each (λ m. now m ≡ true → old m ≡ true) (test_narrow a b) there)
      ∙ ap (filter now) (sym (landed_coming c e n p (with_node w k) a b acts))
    where
      now : Message → Bool
      now = is_coming c.config p a (node_at (land c e n w) b)

      old : Message → Bool
      old = is_coming c.config p a (node_at (land c e n (with_node w k)) b)

      there : List Message
      there = pick (delivers e a b && is_taken w.replies) (tail_of (link_at c.links a b)) (link_at c.links a b) ++ pick (a == n && is_up c b) (sent_to b w.sends) []

  -- the links, where each message says of a further state what it said
  pub links_narrow : (q : ℕ) (a b : Page) → ((from to : ℕ) (m : Message) → MessageIs (land c e n (with_node w k)) p q a from to m → MessageIs (land c e n w) p q b from to m)
      → LinksAre (land c e n (with_node w k)) p q a → LinksAre (land c e n w) p q b
  links_narrow q a b says is =
      record {
        say = λ from to.
            subst (AllByRecursion (MessageIs (land c e n w) p q b from to)) (sym (coming_narrow from to))
            (all_filter (MessageIs (land c e n w) p q b from to) (test from to) (was from to)
            (all_weaker (MessageIs (land c e n (with_node w k)) p q a from to) (MessageIs (land c e n w) p q b from to) (says from to) (was from to) (is.say from to)));
        ordered = λ from to. subst (AreOrdered 0) (sym (coming_narrow from to)) (ordered_among_some_law 0 (was from to) (test from to) (is.ordered from to));
        once = λ from to. subst AreOnce (sym (coming_narrow from to)) (once_among (test from to) (was from to) (is.once from to));
      }
    where
      was : ℕ → ℕ → List Message
      was from to = coming (land c e n (with_node w k)) p from to

      test : ℕ → ℕ → Message → Bool
      test from to = is_coming c.config p from (node_at (land c e n w) to)

  -- the same where something is known of each message
  pub links_knowing : (q : ℕ) (a b : Page) (Known : ℕ → ℕ → Message → Type 0) → ((from to : ℕ) → AllByRecursion (Known from to) (coming (land c e n (with_node w k)) p from to))
      → ((from to : ℕ) (m : Message) → Known from to m → MessageIs (land c e n (with_node w k)) p q a from to m → MessageIs (land c e n w) p q b from to m)
      → LinksAre (land c e n (with_node w k)) p q a → LinksAre (land c e n w) p q b
  links_knowing q a b Known known says is =
      record {
        say = λ from to.
            subst (AllByRecursion (MessageIs (land c e n w) p q b from to)) (sym (coming_narrow from to))
            (all_filter (MessageIs (land c e n w) p q b from to) (test from to) (was from to)
            (all_weaker_both (Known from to) (MessageIs (land c e n (with_node w k)) p q a from to) (MessageIs (land c e n w) p q b from to) (says from to) (was from to) (known from to) (is.say from to)));
        ordered = λ from to. subst (AreOrdered 0) (sym (coming_narrow from to)) (ordered_among_some_law 0 (was from to) (test from to) (is.ordered from to));
        once = λ from to. subst AreOnce (sym (coming_narrow from to)) (once_among (test from to) (was from to) (is.once from to));
      }
    where
      was : ℕ → ℕ → List Message
      was from to = coming (land c e n (with_node w k)) p from to

      test : ℕ → ℕ → Message → Bool
      test from to = is_coming c.config p from (node_at (land c e n w) to)

-- a node counts no more in its next view
module _ (c : Cluster) (n : ℕ) (s : NodeState) (v : View) (x : NodeState) (acts : Acts c n) (has : HasNext c n s v x) where
  -- what it counts there
  counts_there : (from q epoch : ℕ) → counts_in (Some x) from q epoch ≡ true → counts_at x (Some v) from q epoch ≡ true
  counts_there from q epoch = subst (λ (o : Option View). counts_at x o from q epoch ≡ true) has.view

  pub counts_before : (old : View) (born from q epoch : ℕ) → s.view ≡ Some old → counts_in (Some x) from q epoch ≡ true
      → counts_in (Some (stood s.epoch s.view born x)) from q epoch ≡ true
  counts_before old born from q epoch own counts =
      subst (λ (o : Option View). counts_at (stood s.epoch s.view born x) o from q epoch ≡ true) (sym own)
      (counted_before_law c.config x old v from q epoch (whole_at c s.epoch old acts.cluster at)
      (later_epochs_law c s.epoch (s.epoch + 1) old v acts.cluster (omega arith) at has.next) (counts_there from q epoch counts))
    where
      at : view_of_epoch c.views s.epoch ≡ Some old
      at = (stands c n s old (up_is_member_law c n s acts.cluster has.up).1 own).there

  pub counts_unborn : (born from q epoch : ℕ) → s.view ≡ None → counts_in (Some x) from q epoch ≡ true
      → counts_in (Some (stood s.epoch s.view born x)) from q epoch ≡ true
  counts_unborn born from q epoch none counts =
      subst (λ (o : Option View). counts_at (stood s.epoch s.view born x) o from q epoch ≡ true) (sym none)
      (counted_unborn_law c n s v (s.epoch + 1) from q epoch acts.cluster has.up none has.next (omega arith) as_number)
    where
      number : number_of x ≡ number_of s
      number = has.number ∙ sym (up_is_member_law c n s acts.cluster has.up).1.number

      as_number : counts_at s (Some v) from q epoch ≡ true
      as_number = subst (λ (k : ℕ). not (is_dropped (judge v k from epoch q)) ≡ true) number (counts_there from q epoch counts)
