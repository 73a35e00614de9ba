-- What comes of a page while nothing that speaks of it was sent.
use Rattle.std.proofs.Common.{◌≡◌, inl, inr, refl, ap, sym, subst, ◌∙◌, ℕ, ◌==◌, ◌&&◌, cond, Bool, true, false, List, [], ◌∷◌}
use Rattle.std.specs.List.{AllByRecursion, filter}
use Rattle.pcl_base.specs.declared.event.Event.{Event}
use Rattle.pcl_base.specs.declared.message.Message.{Message}
use Rattle.node_rules.specs.NodeState.{partition}
use Rattle.node_rules.specs.Words.{pick}
use Rattle.node_rules.specs.Work.{Work}
use Rattle.node_laws.proofs.Lists.{all_append}
use Rattle.cluster_rules.specs.Clusters.{Cluster, is_up, node_at}
use Rattle.cluster_rules.specs.ClusterStep.{is_taken}
use Rattle.cluster_rules.specs.Links.{link_at, tail_of}
use Rattle.cluster_laws.specs.Era.Counts.{counts_in}
use Rattle.cluster_laws.specs.Link.Coming.{Stands, coming, delivers, is_coming, sent_to}
use Rattle.cluster_laws.proofs.LinkParts.Ordered.{some_at_the_end_law}
use Rattle.page_relation.specs.Work.Landing.{Acts, land}
use Rattle.page_relation.specs.Work.Unseen.{speaks}
use Rattle.page_relation.proofs.WorkParts.Comings.{landed_coming, some_of_both}

-- what is so of those that pass a test
passed : (P : Message → Type 0) (test : Message → Bool) (ms : List Message) → AllByRecursion (λ (m : Message). test m ≡ true → P m) ms → AllByRecursion P (filter test ms)
passed P test [] all = tt
passed P test (m ∷ ms) all = by (test m) refl (passed P test ms all.1)
  where
    by : (b : Bool) → test m ≡ b → AllByRecursion P (filter test ms) → AllByRecursion P (cond b (m ∷ filter test ms) (filter test ms))
    by true is rest = (all.0 is, rest)
    by false is rest = rest

fewer : (P : Message → Type 0) (b : Bool) (ms : List Message) → AllByRecursion P ms → AllByRecursion P (pick b (tail_of ms) ms)
fewer P true [] all = tt
fewer P true (m ∷ ms) all = all.1
fewer P false ms all = all

-- what is so of each message that stands in a list
pub all_stand : (P : Message → Type 0) (ms : List Message) → ((m : Message) → Stands ms m → P m) → AllByRecursion P ms
all_stand P [] each = tt
all_stand P (m ∷ ms) each = (each m (inl refl), all_stand P ms (λ k at. each k (inr at)))

module _ (c : Cluster) (e : Event) (n p : ℕ) (acts : Acts c n) (x : Work) (none : (b : ℕ) → filter (speaks c.config p) (sent_to b x.sends) ≡ []) where
  -- what comes was on the links before
  pub all_coming : (P : Message → Type 0) (from to : ℕ) → AllByRecursion (λ (m : Message). is_coming c.config p from (node_at (land c e n x) to) m ≡ true → P m) (link_at c.links from to)
      → AllByRecursion P (coming (land c e n x) p from to)
  all_coming P from to all =
      subst (AllByRecursion P) (sym (landed_coming c e n p x from to acts ∙ some_at_the_end_law test before after))
      (all_append P (filter test before) (filter test after)
      (passed P test before (fewer (λ (m : Message). test m ≡ true → P m) (delivers e from to && is_taken x.replies) (link_at c.links from to) all))
      (subst (AllByRecursion P) (sym (empty (from == n && is_up c to))) tt))
    where
      test : Message → Bool
      test = is_coming c.config p from (node_at (land c e n x) to)

      counts : Message → Bool
      counts m = counts_in (node_at (land c e n x) to) from (partition c.config p) m.epoch

      before : List Message
      before = pick (delivers e from to && is_taken x.replies) (tail_of (link_at c.links from to)) (link_at c.links from to)

      after : List Message
      after = pick (from == n && is_up c to) (sent_to to x.sends) []

      empty : (b : Bool) → filter test (pick b (sent_to to x.sends) []) ≡ []
      empty true = some_of_both (speaks c.config p) counts (sent_to to x.sends) ∙ ap (filter counts) (none to)
      empty false = refl
