-- The births that are known of a cluster stay so, and further ones come to be known, through every step.
use Rattle.std.proofs.Common.{◌≡◌, refl, sym, ap, subst, ◌∙◌, ℕ, ◌+◌, ◌<◌, List, [], ◌∷◌, Option, Some, None, is_some, true}
use Rattle.std.specs.Prelude.{IfSome, ◌≢◌}
use Rattle.std.specs.List.{AllByRecursion}
use Rattle.pcl_base.specs.Limits.{Sizes}
use Rattle.pcl_base.specs.declared.event.Event.{Event}
use Rattle.pcl_base.specs.declared.message.Body.{Body}
use Rattle.pcl_base.specs.declared.message.Body.TheVariants as body
use Rattle.pcl_base.specs.declared.message.Message.{Message}
use Rattle.pcl_base.specs.declared.tx.TxId.{TxId}
use Rattle.node_rules.specs.NodeState.{NodeState, start_node, first_node, partition}
use Rattle.node_rules.specs.Shelf.{right_on}
use Rattle.node_laws.proofs.Lists.{all_append, all_weaker}
use Rattle.cluster_rules.specs.Clusters.{Cluster, opening, node_at, last_view}
use Rattle.cluster_rules.specs.ClusterStep.{step}
use Rattle.cluster_rules.specs.Links.{link_at, tail_of}
use Rattle.cluster_laws.specs.Sound.{IsCluster, IsOnLink}
use Rattle.cluster_laws.proofs.Lists.{look_counted}
use Rattle.cluster_laws.specs.Era.Eras.{born_at}
use Rattle.cluster_laws.proofs.EraParts.Ages.{steps_keep_eras_law}
use Rattle.cluster_laws.specs.Link.Coming.{sent_to}
use Rattle.cluster_laws.specs.Link.EpochLaws.{IsInOrder}
use Rattle.cluster_laws.specs.Link.StepLaws.{IsNodeStep, node_stays, node_acts, node_lost, node_starts, IsLinkStep, link_stays, link_gets, link_loses, link_cleared}
use Rattle.cluster_laws.proofs.LinkParts.Linked.{empty_links_law}
use Rattle.cluster_laws.proofs.LinkParts.Nodes.{nodes_step_law}
use Rattle.cluster_laws.proofs.LinkParts.Stepped.{sizes_stay_law, links_step_law}
use Rattle.page_protocol.specs.Bytes.{Access}
use Rattle.page_laws.specs.Moment.Looks.{accesses_in, accesses_of}
use Rattle.page_relation.specs.Together.{HasPages}
use Rattle.run_rules.specs.Script.{script, script_from}
use Rattle.related_runs.specs.Parties.{HaveParties}
use Rattle.related_runs.proofs.Traces.{no_moments}
use Rattle.cluster_facts.specs.Known.Accesses.{HoldsNow}
use Rattle.related_runs.specs.Locks.Used.{HaveUsedLocks}
use Rattle.cluster_facts.specs.Known.Births.{KnownBirth, AnswerKnown, HaveKnownBirths, OpeningHasKnownBirths, StepsHaveKnownBirths}
use Rattle.cluster_facts.proofs.KnownParts.Granting.{new_accesses_are_held_law}
use Rattle.cluster_facts.proofs.KnownParts.Gained.{all_both, stays, shelf_then, answers_then, lock_then}

module _ (blank : List ℕ) (c : Cluster) (e : Event) (i : IsCluster c) (order : IsInOrder c) (parties : HaveParties c) (uses : HaveUsedLocks c) (pages : HasPages blank c) (next : HasPages blank (step c e)) (known : HaveKnownBirths c) where
  low_before : (p : ℕ) → p < (step c e).config.pages → p < c.config.pages
  low_before p low = subst (λ (k : Sizes). p < k.pages) (sizes_stay_law c e) low

  accessed_then : (t : TxId) (p : ℕ) → p < (step c e).config.pages → accesses_in t p (step c e).trace ≢ [] → KnownBirth (step c e) (partition (step c e).config p) t.born
  accessed_then t p low new = by (accesses_in t p c.trace) refl
    where
      by : (xs : List Access) → accesses_in t p c.trace ≡ xs → KnownBirth (step c e) (partition (step c e).config p) t.born
      by [] was =
          let holds : HoldsNow c e (step c e) t p = new_accesses_are_held_law c e t p i was new in
          lock_then c e i holds.node holds.state holds.event holds.plan holds.planned blank order parties pages known uses next holds.now t p (low_before p low) was holds.holds
      by (x ∷ xs) was = stays c e i p t.born (known.accessed t p (low_before p low) (λ none. let bad : x ∷ xs ≡ [] = sym was ∙ none in cc))

  -- what is known of the rights of a node
  abbrev Shelves : NodeState → Type 0
  Shelves s = (p : ℕ) → p < c.config.pages → right_on s.home.shelf p ≢ None → (is_some s.view ≡ true) × KnownBirth (step c e) (partition (step c e).config p) s.home.txs.born

  start_shelves : (n k : ℕ) → Shelves (start_node c.config n k)
  unfolding start_node right_on
  start_shelves n k p low there = absurd (there refl)

  all_shelves : (n : ℕ) → IfSome (node_at (step c e) n) Shelves
  all_shelves n = by (nodes_step_law c e n i)
    where
      here : (o : Option NodeState) → node_at c n ≡ o → IfSome o Shelves
      here None up = tt
      here (Some s) up = λ p low there. let k = known.shelves n s p up low there in (k.0, stays c e i p s.home.txs.born k.1)

      by : IsNodeStep c e n (node_at (step c e) n) → IfSome (node_at (step c e) n) Shelves
      by (node_stays now) = subst (λ (o : Option NodeState). IfSome o Shelves) (sym now) (here (node_at c n) refl)
      by (node_acts s ev p planned now) =
          subst (λ (o : Option NodeState). IfSome o Shelves) (sym now) (λ page low there. shelf_then c e i n s ev p planned blank order parties pages known page low there)
      by (node_lost now) = subst (λ (o : Option NodeState). IfSome o Shelves) (sym now) tt
      by (node_starts now down) = subst (λ (o : Option NodeState). IfSome o Shelves) (sym now) (start_shelves n (last_view c).epoch)

  shelves_then : (n : ℕ) (s : NodeState) (p : ℕ) → node_at (step c e) n ≡ Some s → p < (step c e).config.pages → right_on s.home.shelf p ≢ None
      → (is_some s.view ≡ true) × KnownBirth (step c e) (partition (step c e).config p) s.home.txs.born
  shelves_then n s p up low there = subst (λ (o : Option NodeState). IfSome o Shelves) up (all_shelves n) p (low_before p low) there

  -- an answer that was sent before
  old_answer : (a b : ℕ) (m : Message) → AnswerKnown c a m.epoch m.body × IsOnLink c.config (last_view c).epoch a b m → AnswerKnown (step c e) a m.epoch m.body
  old_answer a b m is = by m.body is.0
    where
      by : (x : Body) → AnswerKnown c a m.epoch x → AnswerKnown (step c e) a m.epoch x
      by (body.Request r) k = tt
      by (body.Grant g) k = tt
      by (body.Release r) k = tt
      by (body.Revoke p) k = tt
      by (body.Return r) k =
          subst (KnownBirth (step c e) (partition (step c e).config r.page)) (sym ((steps_keep_eras_law c e m.epoch i is.1.epoch).births a)) (stays c e i r.page (born_at c a m.epoch) k)
      by (body.Report r) k = tt

  abbrev Answers : ℕ → List Message → Type 0
  Answers a ms = AllByRecursion (λ (m : Message). AnswerKnown (step c e) a m.epoch m.body) ms

  old_answers : (a b : ℕ) → Answers a (link_at c.links a b)
  old_answers a b =
      all_weaker (λ (m : Message). AnswerKnown c a m.epoch m.body × IsOnLink c.config (last_view c).epoch a b m) (λ (m : Message). AnswerKnown (step c e) a m.epoch m.body) (λ m is. old_answer a b m is)
      (link_at c.links a b)
      (all_both (λ (m : Message). AnswerKnown c a m.epoch m.body) (IsOnLink c.config (last_view c).epoch a b) (link_at c.links a b) (known.answers a b) (i.links.messages a b))

  tail_answers : (a : ℕ) (ms : List Message) → Answers a ms → Answers a (tail_of ms)
  tail_answers a [] all = tt
  tail_answers a (m ∷ ms) all = all.1

  answers_after : (a b : ℕ) → Answers a (link_at (step c e).links a b)
  answers_after a b = by (links_step_law c e a b i)
    where
      by : IsLinkStep c e a b (node_at (step c e) a) (node_at (step c e) b) (link_at (step c e).links a b) → Answers a (link_at (step c e).links a b)
      by (link_stays is) = subst (Answers a) (sym is) (old_answers a b)
      by (link_gets s ev p planned up sender at is) =
          subst (Answers a) (sym is)
          (all_append (λ (m : Message). AnswerKnown (step c e) a m.epoch m.body) (link_at c.links a b) (sent_to b p.sends) (old_answers a b)
          (answers_then c e i a s ev p planned blank order parties pages known b))
      by (link_loses s ev p it planned taken at is) = subst (Answers a) (sym is) (tail_answers a (link_at c.links a b) (old_answers a b))
      by (link_cleared none is) = subst (Answers a) (sym is) tt

  known_then : HaveKnownBirths (step c e)
  known_then = record { accessed = accessed_then; shelves = shelves_then; answers = answers_after }

pub steps_have_known_births_law : StepsHaveKnownBirths
steps_have_known_births_law blank c e i order parties uses pages next known = known_then blank c e i order parties uses pages next known

-- ---- the opening cluster
none_accessed : (t : TxId) (p : ℕ) → accesses_in t p [] ≡ []
unfolding accesses_in accesses_of script_from
none_accessed t p = ap (λ ms. accesses_of p (script t ms)) no_moments

no_right : (c : Sizes) (k p : ℕ) → right_on (first_node c k).home.shelf p ≡ None
unfolding first_node right_on
no_right c k p = refl

no_rights : (c : Sizes) (n : ℕ) → IfSome (node_at (opening c) n) (λ (s : NodeState). (p : ℕ) → right_on s.home.shelf p ≡ None)
unfolding opening
no_rights c n =
    look_counted (λ j (o : Option NodeState). IfSome o (λ (s : NodeState). (p : ℕ) → right_on s.home.shelf p ≡ None)) None (λ k. Some (first_node c k)) c.nodes 0 n (λ j low. no_right c (0 + j)) (λ j. tt)

pub opening_has_known_births_law : OpeningHasKnownBirths
unfolding opening
opening_has_known_births_law c =
    record {
      accessed = λ t p low new. absurd (new (none_accessed t p));
      shelves = λ n s p up low there. absurd (there (subst (λ (o : Option NodeState). IfSome o (λ (s : NodeState). (p : ℕ) → right_on s.home.shelf p ≡ None)) up (no_rights c n) p));
      answers = λ a b. subst (AllByRecursion (λ (m : Message). AnswerKnown (opening c) a m.epoch m.body)) (sym (empty_links_law c.nodes a b)) tt;
    }
