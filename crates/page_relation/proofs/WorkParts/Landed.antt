-- What is seen of a cluster as if a step had ended.
use Rattle.std.proofs.Common.{◌≡◌, refl, ap, sym, subst, ◌∙◌, ℕ, zero, suc, ◌<◌, ◌==◌, ◌&&◌, cond, Bool, true, false, List, [], ◌∷◌, ◌++◌, length, slice_index_or, Option, Some, None, is_some, arith}
use Rattle.std.specs.List.{AllByRecursion, filter}
use Rattle.std.proofs.lemmas.Bool.Decides.{nat_tests}
use Rattle.pcl_base.specs.declared.event.Event.{Event}
use Rattle.pcl_base.specs.declared.event.Event.TheVariants as event
use Rattle.pcl_base.specs.declared.message.Message.{Message}
use Rattle.pcl_base.specs.declared.reply.Reply.{Reply}
use Rattle.node_rules.specs.NodeState.{NodeState, Outgoing}
use Rattle.node_rules.specs.Words.{pick}
use Rattle.node_laws.proofs.Lists.{set_same, set_look}
use Rattle.cluster_rules.specs.Clusters.{node_at, is_up, last_view}
use Rattle.cluster_rules.specs.ClusterStep.{is_taken, links_after}
use Rattle.cluster_rules.specs.Links.{Links, link_at, put_link, tail_of, take_head, send, send_all}
use Rattle.cluster_laws.specs.Link.Coming.{sent_to}
use Rattle.cluster_laws.specs.Link.LinkLaws.{IsSquare}
use Rattle.cluster_laws.proofs.LinkParts.Linked.{square_put, sent_on_links_law, links_are_square_law}
use Rattle.page_relation.specs.Work.Landing.{land, LandingIsSeen}

-- the links once the head was taken
square_after : (n : ℕ) (e : Event) (rs : List Reply) (ls : Links) → IsSquare n ls → IsSquare n (links_after e rs ls)
square_after n (event.Deliver from to) rs ls i = by (is_taken rs)
  where
    by : (b : Bool) → IsSquare n (pick b (take_head ls from to) ls)
    by true = square_put n ls from to (tail_of (link_at ls from to)) i
    by false = i
square_after n (event.Begin m) rs ls i = i
square_after n (event.Read t p) rs ls i = i
square_after n (event.Write t p place bytes) rs ls i = i
square_after n (event.Commit t) rs ls i = i
square_after n (event.Abort t) rs ls i = i
square_after n (event.Evict m p) rs ls i = i
square_after n (event.Flush m p) rs ls i = i
square_after n (event.Crash m) rs ls i = i
square_after n (event.View live owners) rs ls i = i
square_after n (event.Install m) rs ls i = i
square_after n event.Reopen rs ls i = i
square_after n (event.Arm m call stops) rs ls i = i
square_after n (event.Cut m) rs ls i = i

-- a node that is up is one of the list
up_inside : {X : Type 0} (xs : List (Option X)) (k : ℕ) → is_some (slice_index_or xs k None) ≡ true → k < length xs
up_inside [] k up = absurd (cc)
up_inside (x ∷ xs) zero up = omega arith
up_inside (x ∷ xs) (suc k) up = let rest = up_inside xs k up in omega (arith, rest)

module _ (up : ℕ → Bool) where
  -- the messages whose receivers are up
  abbrev received : List Outgoing → List Outgoing
  received os = filter (λ o. up o.to) os

  -- the others are lost
  rest_lost : (from : ℕ) (ls : Links) (os : List Outgoing) → send_all up from ls os ≡ send_all up from ls (received os)
  unfolding send_all
  rest_lost from ls [] = refl
  rest_lost from ls (o ∷ os) = by (up o.to) refl (rest_lost from (send up from ls o) os) (rest_lost from ls os)
    where
      by : (b : Bool) → up o.to ≡ b → send_all up from (send up from ls o) os ≡ send_all up from (send up from ls o) (received os)
          → send_all up from ls os ≡ send_all up from ls (received os) → send_all up from (send up from ls o) os ≡ send_all up from ls (cond b (o ∷ received os) (received os))
      by true e sent lost = sent
      by false e sent lost = ap (λ (k : Links). send_all up from k os) (ap (λ (b : Bool). pick b (put_link ls from o.to (link_at ls from o.to ++ o.message ∷ [])) ls) e) ∙ lost

  -- a node that is up gets all that is sent to it
  all_received : (y : ℕ) (os : List Outgoing) → up y ≡ true → sent_to y (received os) ≡ sent_to y os
  unfolding sent_to
  all_received y [] e = refl
  all_received y (o ∷ os) e = by (up o.to) (o.to == y) refl refl (all_received y os e)
    where
      by : (b t : Bool) → up o.to ≡ b → (o.to == y) ≡ t → sent_to y (received os) ≡ sent_to y os
          → sent_to y (cond b (o ∷ received os) (received os)) ≡ pick t (o.message ∷ sent_to y os) (sent_to y os)
      by true t f g rest = ap (λ (ms : List Message). pick (o.to == y) (o.message ∷ ms) ms) rest ∙ ap (λ (b : Bool). pick b (o.message ∷ sent_to y os) (sent_to y os)) g
      by false false f g rest = rest
      by false true f g rest =
          let same : o.to ≡ y = grind (arith, nat_tests, g) in
          let bad : true ≡ false = sym e ∙ ap up (sym same) ∙ f in
          absurd (cc)

  received_known : (n : ℕ) → ((k : ℕ) → up k ≡ true → k < n) → (os : List Outgoing) → AllByRecursion (λ o. o.to < n) (received os)
  received_known n low [] = tt
  received_known n low (o ∷ os) = by (up o.to) refl (received_known n low os)
    where
      by : (b : Bool) → up o.to ≡ b → AllByRecursion (λ o. o.to < n) (received os) → AllByRecursion (λ o. o.to < n) (cond b (o ∷ received os) (received os))
      by true e rest = (low o.to e, rest)
      by false e rest = rest

-- what was sent stands last on its link
sent_up : (n : ℕ) (up : ℕ → Bool) (from : ℕ) (ls : Links) (os : List Outgoing) (x y : ℕ) → IsSquare n ls → from < n → ((k : ℕ) → up k ≡ true → k < n)
    → link_at (send_all up from ls os) x y ≡ link_at ls x y ++ pick (x == from && up y) (sent_to y os) []
sent_up n up from ls os x y square low known =
    ap (λ (k : Links). link_at k x y) (rest_lost up from ls os)
    ∙ sent_on_links_law n up from ls (received up os) x y square low (received_known up n known os)
    ∙ ap (λ (ms : List Message). link_at ls x y ++ ms) (by (x == from) (up y) refl)
  where
    by : (a b : Bool) → up y ≡ b → pick (a && b) (sent_to y (received up os)) [] ≡ pick (a && b) (sent_to y os) []
    by true true e = all_received up y os e
    by true false e = refl
    by false b e = refl

pub landing_is_seen_law : LandingIsSeen
unfolding land
landing_is_seen_law c e n w acts =
    record {
      config = refl;
      views = refl;
      disk = refl;
      trace = refl;
      node = set_same None c.nodes n (Some w.node) (subst (λ (k : ℕ). n < k) (sym acts.cluster.nodes) acts.known);
      others = λ m other.
          set_look (λ (o : Option NodeState). o ≡ node_at c m) None c.nodes n m (Some w.node) (λ same. absurd (grind (arith, nat_tests, other, same))) refl;
      links = λ a b.
          sent_up c.config.nodes (is_up c) n (links_after e w.replies c.links) w.sends a b
          (square_after c.config.nodes e w.replies c.links (links_are_square_law c.config (last_view c).epoch c.links acts.cluster.links))
          acts.known
          (λ k up. subst (λ (m : ℕ). k < m) acts.cluster.nodes (up_inside c.nodes k up));
    }
