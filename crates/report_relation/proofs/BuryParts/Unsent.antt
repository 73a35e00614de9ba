-- What comes as if an install had ended before a page's turn: what is on the links.
use Rattle.std.proofs.Common.{◌≡◌, refl, ap, sym, subst, ◌∙◌, ℕ, ◌==◌, ◌&&◌, cond, Bool, true, false, List, [], ◌∷◌, ◌++◌}
use Rattle.std.specs.List.{AllByRecursion, filter}
use Rattle.pcl_base.specs.declared.event.Event.{Event}
use Rattle.pcl_base.specs.declared.message.Message.{Message}
use Rattle.node_rules.specs.NodeState.{partition}
use Rattle.node_rules.specs.Words.{pick}
use Rattle.node_rules.specs.Work.{Work}
use Rattle.cluster_rules.specs.Clusters.{Cluster, is_up, node_at}
use Rattle.cluster_rules.specs.ClusterStep.{is_taken}
use Rattle.cluster_rules.specs.Links.{link_at, tail_of}
use Rattle.cluster_laws.specs.Era.Counts.{counts_in}
use Rattle.cluster_laws.specs.Link.Coming.{coming, delivers, is_coming, sent_to}
use Rattle.page_relation.specs.Work.Landing.{land, Acts}
use Rattle.page_relation.specs.Work.Unseen.{speaks}
use Rattle.page_relation.proofs.WorkParts.Comings.{landed_coming, some_of_both}
use Rattle.report_relation.proofs.BuryParts.Links.{all_of_filter}

-- both of two lists
all_joined : (P : Message → Type 0) (xs ys : List Message) → AllByRecursion P xs → AllByRecursion P ys → AllByRecursion P (xs ++ ys)
all_joined P [] ys p q = q
all_joined P (x ∷ xs) ys p q = (p.0, all_joined P xs ys p.1 q)

filter_joined : (f : Message → Bool) (xs ys : List Message) → filter f (xs ++ ys) ≡ filter f xs ++ filter f ys
filter_joined f [] ys = refl
filter_joined f (x ∷ xs) ys = by (f x) (filter_joined f xs ys)
  where
    by : (b : Bool) → filter f (xs ++ ys) ≡ filter f xs ++ filter f ys → cond b (x ∷ filter f (xs ++ ys)) (filter f (xs ++ ys)) ≡ cond b (x ∷ filter f xs) (filter f xs) ++ filter f ys
    by true rest = ap (λ (zs : List Message). x ∷ zs) rest
    by false rest = rest

module _ (c : Cluster) (e : Event) (n p : ℕ) (w : Work) (acts : Acts c n) (unheard : (from to : ℕ) → delivers e from to ≡ false) (none : (to : ℕ) → filter (speaks c.config p) (sent_to to w.sends) ≡ []) where
  comes_then : ℕ → ℕ → Message → Bool
  comes_then from to = is_coming c.config p from (node_at (land c e n w) to)

  nothing_sent : (from to : ℕ) (b : Bool) → filter (is_coming c.config p from (node_at (land c e n w) to)) (pick b (sent_to to w.sends) []) ≡ []
  nothing_sent from to true =
      some_of_both (speaks c.config p) (λ (m : Message). counts_in (node_at (land c e n w) to) from (partition c.config p) m.epoch) (sent_to to w.sends)
      ∙ ap (filter (λ (m : Message). counts_in (node_at (land c e n w) to) from (partition c.config p) m.epoch)) (none to)
  nothing_sent from to false = refl

  pub all_there : (P : Message → Type 0) (from to : ℕ) → AllByRecursion P (link_at c.links from to) → AllByRecursion P (coming (land c e n w) p from to)
  all_there P from to all =
      subst (AllByRecursion P)
      (sym
      (landed_coming c e n p w from to acts
      ∙ ap
      (λ (b : Bool). filter (is_coming c.config p from (node_at (land c e n w) to)) (pick (b && is_taken w.replies) (tail_of (link_at c.links from to)) (link_at c.links from to) ++ pick (from == n && is_up c to) (sent_to to w.sends) []))
      (unheard from to)
      ∙ filter_joined (is_coming c.config p from (node_at (land c e n w) to)) (link_at c.links from to) (pick (from == n && is_up c to) (sent_to to w.sends) [])))
      (all_joined P (filter (is_coming c.config p from (node_at (land c e n w) to)) (link_at c.links from to))
      (filter (is_coming c.config p from (node_at (land c e n w) to)) (pick (from == n && is_up c to) (sent_to to w.sends) []))
      (all_of_filter P (is_coming c.config p from (node_at (land c e n w) to)) (link_at c.links from to) all)
      (subst (AllByRecursion P) (sym (nothing_sent from to (from == n && is_up c to))) tt))
