-- The law of one step of a node: from where it has its locks and rights.
use Rattle.std.proofs.Common.{◌≡◌, ◌⊎◌, inl, inr, refl, sym, subst, ℕ, ◌<◌, true, None}
use Rattle.std.specs.Prelude.{◌≢◌}
use Rattle.pcl_base.specs.Limits.{Sizes}
use Rattle.pcl_base.specs.declared.lock.Verdict.TheVariants as verdict
use Rattle.pcl_base.specs.declared.message.Body.{Body}
use Rattle.pcl_base.specs.declared.message.Body.TheVariants as body
use Rattle.pcl_base.specs.declared.tx.TxId.{TxId}
use Rattle.run_rules.specs.Disk.{Disk}
use Rattle.node_rules.specs.NodeState.{NodeState, NodeEvent, Begin, Read, Write, Commit, Abort, Deliver, Evict, Flush, Install, Cut, Outgoing, partition, number_of, table_at, table_of, is_serving}
use Rattle.node_rules.specs.NodeStep.{Plan}
use Rattle.node_rules.specs.OpenTxs.{held_by}
use Rattle.node_rules.specs.Shelf.{right_on}
use Rattle.step_laws.proofs.Outcomes.{On}
use Rattle.node_laws.specs.Laws.{IsStep}
use Rattle.node_laws.proofs.Lists.{all_weaker}
use Rattle.cluster_facts.specs.Known.Gains.{HasRight, IsAnswer, HasGained, StepsGain}
use Rattle.cluster_facts.proofs.KnownParts.Held.{there_some, some_there}
use Rattle.cluster_facts.proofs.KnownParts.Keeping.{AnswerOf, Serves, MayHold, State}
use Rattle.cluster_facts.proofs.KnownParts.Stepping.{Brings, verdict_of, Hears, step_now}

module _ (n : NodeState) (event : NodeEvent) (d : Disk) (p : Plan) (is : IsStep n event d p) where
  abbrev Rights : ℕ → Type 0
  Rights page = HasRight n event page

  abbrev Locks : TxId → ℕ → Type 0
  Locks t page = (held_by n.home.txs t page ≢ None) ⊎ HasRight n event page

  abbrev Answers : ℕ → Type 0
  Answers page = right_on n.home.shelf page ≢ None

  abbrev Serving : ℕ → Type 0
  Serving q = (q < n.home.config.nodes) × (is_serving (table_at n q) ≡ true)

  hears : (x : NodeEvent) → event ≡ x → Hears n Rights x
  hears Begin e = tt
  hears (Read t k) e = tt
  hears (Write t k place bytes) e = tt
  hears (Commit t) e = tt
  hears (Abort t) e = tt
  hears (Deliver from m) e = λ taken. brings m.body refl taken
    where
      brings : (x : Body) → m.body ≡ x → verdict_of n from m ≡ verdict.Taken → Brings Rights x
      brings (body.Request r) same taken = tt
      brings (body.Grant g) same taken = inr (record { from = from; message = m; grant = g; comes = e; taken = taken; says = same; same = refl })
      brings (body.Release r) same taken = tt
      brings (body.Revoke k) same taken = tt
      brings (body.Return r) same taken = tt
      brings (body.Report r) same taken = tt
  hears (Evict k) e = tt
  hears (Flush k) e = tt
  hears (Install v) e = tt
  hears Cut e = tt

  left : State n.home.config (number_of n) Locks Rights Answers Serving n.home.config.nodes p.node.home p.node.tables p.sends
  left =
      subst (On (λ (x : Plan). State n.home.config (number_of n) Locks Rights Answers Serving n.home.config.nodes x.node.home x.node.tables x.sends)) is.goes
      (step_now n d is.sound is.fits Locks Rights Answers Serving (λ t k r. inr r) (λ t k there. inl (some_there (held_by n.home.txs t k) there)) (λ k there. inl (some_there (right_on n.home.shelf k) there))
      (λ k there. some_there (right_on n.home.shelf k) there) (λ q there. there) event is.can (hears event refl))

  lock_from : (t : TxId) (page : ℕ) → MayHold n.home.config (number_of n) Locks Rights Answers Serving n.home.config.nodes p.node.tables t page
      → (held_by n.home.txs t page ≢ None) ⊎ HasRight n event page ⊎ (is_serving (table_of p.node page) ≡ true)
  lock_from t page (inl (inl was)) = inl was
  lock_from t page (inl (inr right)) = inr (inl right)
  lock_from t page (inr (low, serves)) = inr (inr (subst (λ (c : Sizes). Serves p.node.tables (partition c page)) (sym left.config) serves))

  answer_of : (x : Body) → AnswerOf Answers x → IsAnswer n x
  answer_of (body.Request r) k = tt
  answer_of (body.Grant g) k = tt
  answer_of (body.Release r) k = tt
  answer_of (body.Revoke g) k = tt
  answer_of (body.Return r) k = k
  answer_of (body.Report r) k = tt

  gained : HasGained n event p
  gained =
      record {
        locks = λ t page there. lock_from t page (left.locks t page (there_some (held_by p.node.home.txs t page) there));
        rights = λ page there. left.rights page (there_some (right_on p.node.home.shelf page) there);
        answers = all_weaker (λ (o : Outgoing). AnswerOf Answers o.message.body) (λ (o : Outgoing). IsAnswer n o.message.body) (λ o k. answer_of o.message.body k) p.sends left.sends;
        served = λ q low serves. left.serving q (low, serves);
      }

pub steps_gain_law : StepsGain
steps_gain_law n event d p is = gained n event d p is
