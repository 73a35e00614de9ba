-- The messages of a page that are on their way as if a step had ended.
use Rattle.std.proofs.Common.{◌≡◌, refl, ap, sym, ◌∙◌, ℕ, ◌==◌, ◌&&◌, cond, Bool, true, false, List, [], ◌∷◌, ◌++◌, Some}
use Rattle.std.specs.List.{filter}
use Rattle.pcl_base.specs.declared.event.Event.{Event}
use Rattle.pcl_base.specs.declared.message.Message.{Message}
use Rattle.pcl_base.specs.declared.reply.Reply.{Reply}
use Rattle.node_rules.specs.NodeState.{NodeState, Outgoing, partition}
use Rattle.node_rules.specs.Words.{pick}
use Rattle.node_rules.specs.Work.{Work}
use Rattle.node_laws.proofs.Lists.{all_each}
use Rattle.cluster_rules.specs.Clusters.{Cluster, node_at, is_up}
use Rattle.cluster_rules.specs.ClusterStep.{is_taken}
use Rattle.cluster_rules.specs.Links.{link_at, tail_of}
use Rattle.cluster_laws.specs.Era.Counts.{counts_in}
use Rattle.cluster_laws.proofs.EraParts.Counted.{counts_stay_law}
use Rattle.cluster_laws.specs.Link.Coming.{speaks_of, is_coming, coming, sent_to, delivers}
use Rattle.cluster_laws.proofs.LinkParts.Linked.{heads_after_law}
use Rattle.cluster_laws.proofs.LinkParts.Ordered.{some_at_the_end_law, some_of_the_same_law}
use Rattle.page_relation.specs.Work.Landing.{land, Acts}
use Rattle.page_relation.specs.Work.Unseen.{SameStanding, speaks, SameSends}
use Rattle.page_relation.proofs.WorkParts.Landed.{landing_is_seen_law}
use Rattle.page_relation.proofs.WorkParts.Nodes.{kept_node}

-- messages that pass two tests
pub some_of_both : (f g : Message → Bool) (ms : List Message) → filter (λ m. f m && g m) ms ≡ filter g (filter f ms)
some_of_both f g [] = refl
some_of_both f g (m ∷ ms) = by (f m) (some_of_both f g ms)
  where
    both : (b : Bool) → filter (λ m. f m && g m) ms ≡ filter g (filter f ms) → cond b (m ∷ filter (λ m. f m && g m) ms) (filter (λ m. f m && g m) ms) ≡ cond b (m ∷ filter g (filter f ms)) (filter g (filter f ms))
    both true rest = ap (λ (xs : List Message). m ∷ xs) rest
    both false rest = rest

    by : (b : Bool) → filter (λ m. f m && g m) ms ≡ filter g (filter f ms)
        → cond (b && g m) (m ∷ filter (λ m. f m && g m) ms) (filter (λ m. f m && g m) ms) ≡ filter g (cond b (m ∷ filter f ms) (filter f ms))
    by true rest = both (g m) rest
    by false rest = rest

-- what is on a link as if the step had ended
pub landed_link : (c : Cluster) (e : Event) (n : ℕ) (w : Work) (a b : ℕ) → Acts c n
    → link_at (land c e n w).links a b
    ≡ pick (delivers e a b && is_taken w.replies) (tail_of (link_at c.links a b)) (link_at c.links a b) ++ pick (a == n && is_up c b) (sent_to b w.sends) []
landed_link c e n w a b acts =
    (landing_is_seen_law c e n w acts).links a b
    ∙ ap (λ (ms : List Message). ms ++ pick (a == n && is_up c b) (sent_to b w.sends) []) (heads_after_law e w.replies c.links a b)

-- a node of the same life counts the same
pub counted_same : (s x : NodeState) (from q epoch : ℕ) → SameStanding s x → counts_in (Some x) from q epoch ≡ counts_in (Some s) from q epoch
counted_same s x from q epoch same = counts_stay_law s x from q epoch same.number (record { epoch = same.epoch; view = same.view })

-- what comes as if the step had ended
pub landed_coming : (c : Cluster) (e : Event) (n p : ℕ) (w : Work) (a b : ℕ) → Acts c n
    → coming (land c e n w) p a b
    ≡ filter (is_coming c.config p a (node_at (land c e n w) b))
    (pick (delivers e a b && is_taken w.replies) (tail_of (link_at c.links a b)) (link_at c.links a b) ++ pick (a == n && is_up c b) (sent_to b w.sends) [])
unfolding coming land
landed_coming c e n p w a b acts = ap (filter (is_coming c.config p a (node_at (land c e n w) b))) (landed_link c e n w a b acts)

module _ (c : Cluster) (e : Event) (n p : ℕ) (acts : Acts c n) (w x : Work) (same : SameStanding w.node x.node) where
  pub test_same : (a b : ℕ) (m : Message) → is_coming c.config p a (node_at (land c e n x) b) m ≡ is_coming c.config p a (node_at (land c e n w) b) m
  test_same a b m =
      kept_node c e n acts w x b (λ o. is_coming c.config p a o m ≡ is_coming c.config p a (node_at (land c e n w) b) m)
      (λ is old. ap (λ (t : Bool). speaks_of c.config p m.body && t) (counted_same w.node x.node a (partition c.config p) m.epoch same) ∙ old)
      refl

  -- nothing comes that didn't, where the head and what is sent are the same
  pub coming_same : is_taken x.replies ≡ is_taken w.replies → SameSends c.config p w.sends x.sends → (a b : ℕ) → coming (land c e n x) p a b ≡ coming (land c e n w) p a b
  coming_same taken sends a b =
      landed_coming c e n p x a b acts
      ∙ some_of_the_same_law test (is_coming c.config p a (node_at (land c e n x) b)) (stands x.replies ++ out x.sends)
      (all_each (λ m. is_coming c.config p a (node_at (land c e n x) b) m ≡ test m) (test_same a b) (stands x.replies ++ out x.sends))
      ∙ ap (λ (t : Bool). filter test (pick (delivers e a b && t) (tail_of (link_at c.links a b)) (link_at c.links a b) ++ out x.sends)) taken
      ∙ some_at_the_end_law test (stands w.replies) (out x.sends)
      ∙ ap (λ (ms : List Message). filter test (stands w.replies) ++ ms) (by (a == n && is_up c b))
      ∙ sym (some_at_the_end_law test (stands w.replies) (out w.sends))
      ∙ sym (landed_coming c e n p w a b acts)
    where
      test : Message → Bool
      test = is_coming c.config p a (node_at (land c e n w) b)

      stands : List Reply → List Message
      stands rs = pick (delivers e a b && is_taken rs) (tail_of (link_at c.links a b)) (link_at c.links a b)

      out : List Outgoing → List Message
      out os = pick (a == n && is_up c b) (sent_to b os) []

      counts : Message → Bool
      counts m = counts_in (node_at (land c e n w) b) a (partition c.config p) m.epoch

      by : (t : Bool) → filter test (pick t (sent_to b x.sends) []) ≡ filter test (pick t (sent_to b w.sends) [])
      by true =
          some_of_both (speaks c.config p) counts (sent_to b x.sends) ∙ ap (filter counts) (sends b)
          ∙ sym (some_of_both (speaks c.config p) counts (sent_to b w.sends))
      by false = refl
