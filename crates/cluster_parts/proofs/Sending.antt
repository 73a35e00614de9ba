-- Messages that go on links with room for them.
use Rattle.std.proofs.Common.{◌≡◌, ◌≢◌, refl, ap, sym, subst, ◌∙◌, ℕ, suc, ◌+◌, ◌<◌, ◌≤◌, Bool, List, [], ◌∷◌, ◌++◌, length, slice_index_or, slice_set, arith}
use Rattle.std.specs.Prelude.{slice_index}
use Rattle.pcl_base.specs.declared.message.Message.{Message}
use Rattle.node_rules.specs.Words.{pick}
use Rattle.node_rules.specs.NodeState.{Outgoing}
use Rattle.cluster_rules.specs.Links.{Links, row_at, link_at, put_link, send, send_all}
use Rattle.node_laws.proofs.Lists.{all_weaker, set_look, set_length}
use Rattle.link_model.specs.Spares.{LinksView, spare_at, put_spare, UsesOne}
use Rattle.cluster_parts.specs.Steps.{HaveRoom}

-- another link keeps the number of rows and of links
pub rows_put : (ls : Links) (a b : ℕ) (ms : List Message) → length (put_link ls a b ms) ≡ length ls
unfolding put_link
rows_put ls a b ms = set_length ls a (slice_set (row_at ls a) b ms)

pub row_put : (ls : Links) (a b x : ℕ) (ms : List Message) → length (row_at (put_link ls a b ms) x) ≡ length (row_at ls x)
unfolding put_link
row_put ls a b x ms =
    set_look (λ (r : List (List Message)). length r ≡ length (row_at ls x)) [] ls a x (slice_set (row_at ls a) b ms)
    (λ e. set_length (row_at ls a) b ms ∙ ap (λ (k : ℕ). length (row_at ls k)) (sym e)) refl

-- a link that was used has one place less, and each other one keeps its room
spare_put : (s : List (List ℕ)) (a b k y x : ℕ) → spare_at s a b ≤ k + 1 → spare_at s y x ≤ spare_at (put_spare s a b k) y x + 1
spare_put s a b k y x one =
    set_look (λ (r : List ℕ). spare_at s y x ≤ slice_index r x + 1) [] s a y (slice_set (slice_index_or s a []) b k)
    (λ e.
    subst (λ (z : ℕ). spare_at s z x ≤ slice_index (slice_set (slice_index_or s a []) b k) x + 1) (sym e)
    (set_look (λ (n : ℕ). spare_at s a x ≤ n + 1) 0 (slice_index_or s a []) b x k (λ f. subst (λ (z : ℕ). spare_at s a z ≤ k + 1) (sym f) one) (omega arith)))
    (omega arith)

pub spare_left : (s t : List (List ℕ)) (a b y x : ℕ) → UsesOne s t a b → spare_at s y x ≤ spare_at t y x + 1
spare_left s t a b y x uses =
    subst (λ (r : List (List ℕ)). spare_at s y x ≤ spare_at r y x + 1) (sym uses.others) (spare_put s a b (spare_at t a b) y x uses.one)

-- and a link of another node keeps all of it
spare_other : (s : List (List ℕ)) (a b k y x : ℕ) → y ≢ a → spare_at s y x ≤ spare_at (put_spare s a b k) y x
spare_other s a b k y x other =
    set_look (λ (r : List ℕ). spare_at s y x ≤ slice_index r x) [] s a y (slice_set (slice_index_or s a []) b k) (λ e. absurd (other e)) (omega arith)

pub spare_kept : (s t : List (List ℕ)) (a b y x : ℕ) → y ≢ a → UsesOne s t a b → spare_at s y x ≤ spare_at t y x
spare_kept s t a b y x other uses =
    subst (λ (r : List (List ℕ)). spare_at s y x ≤ spare_at r y x) (sym uses.others) (spare_other s a b (spare_at t a b) y x other)

-- one message goes on its link, or is lost
pub room_sent : (v w : LinksView) (from : ℕ) (o : Outgoing) (os : List Outgoing) (ms : List Message) → HaveRoom v from (o ∷ os) → w.links ≡ put_link v.links from o.to ms → UsesOne v.spares w.spares from o.to → HaveRoom w from os
room_sent v w from o os ms room put uses = (
  subst (λ (n : ℕ). from < n) (sym (ap (λ (ls : Links). length ls) put ∙ rows_put v.links from o.to ms)) room.0,
  all_weaker (λ (x : Outgoing). (x.to < length (row_at v.links from)) × (suc (length os) ≤ spare_at v.spares from x.to)) (λ (x : Outgoing). (x.to < length (row_at w.links from)) × (length os ≤ spare_at w.spares from x.to))
      (λ x h.
      let long = ap (λ (ls : Links). length (row_at ls from)) put ∙ row_put v.links from o.to from ms in
      let less = spare_left v.spares w.spares from o.to from x.to uses in
      let low = h.0 in
      let many = h.1 in
      (omega (arith, long, low), omega (arith, less, many)))
      os room.1.1,
)

pub room_lost : (v : LinksView) (from : ℕ) (o : Outgoing) (os : List Outgoing) → HaveRoom v from (o ∷ os) → HaveRoom v from os
room_lost v from o os room = (
  room.0,
  all_weaker (λ (x : Outgoing). (x.to < length (row_at v.links from)) × (suc (length os) ≤ spare_at v.spares from x.to)) (λ (x : Outgoing). (x.to < length (row_at v.links from)) × (length os ≤ spare_at v.spares from x.to))
      (λ x h. let many = h.1 in (h.0, omega (arith, many)))
      os room.1.1,
)

-- a message that goes back on a link of another node
pub room_back : (v w : LinksView) (n from : ℕ) (os : List Outgoing) (ms : List Message) → n ≢ from → w.links ≡ put_link v.links from n ms → UsesOne v.spares w.spares from n → HaveRoom v n os → HaveRoom w n os
room_back v w n from os ms other put uses room = (
  subst (λ (k : ℕ). n < k) (sym (ap (λ (ls : Links). length ls) put ∙ rows_put v.links from n ms)) room.0,
  all_weaker (λ (x : Outgoing). (x.to < length (row_at v.links n)) × (length os ≤ spare_at v.spares n x.to)) (λ (x : Outgoing). (x.to < length (row_at w.links n)) × (length os ≤ spare_at w.spares n x.to))
      (λ x h.
      let long = ap (λ (ls : Links). length (row_at ls n)) put ∙ row_put v.links from n n ms in
      let less = spare_kept v.spares w.spares from n n x.to other uses in
      let low = h.0 in
      let many = h.1 in
      (omega (arith, long, low), omega (arith, less, many)))
      os room.1,
)

-- sends are the same where the same nodes are up
pub same_sends : (up now : ℕ → Bool) (from : ℕ) (os : List Outgoing) (ls : Links) → ((n : ℕ) → up n ≡ now n) → send_all up from ls os ≡ send_all now from ls os
unfolding send_all
same_sends up now from [] ls same = refl
same_sends up now from (o ∷ os) ls same =
    same_sends up now from os (send up from ls o) same
    ∙ ap (λ (b : Bool). send_all now from (pick b (put_link ls from o.to (link_at ls from o.to ++ o.message ∷ [])) ls) os) (same o.to)

-- messages one after the other
pub send_next : (up : ℕ → Bool) (from : ℕ) (ls : Links) (o : Outgoing) (os : List Outgoing) → send_all up from ls (o ∷ os) ≡ send_all up from (send up from ls o) os
unfolding send_all
send_next up from ls o os = refl

pub send_none : (up : ℕ → Bool) (from : ℕ) (ls : Links) (os : List Outgoing) → os ≡ [] → send_all up from ls os ≡ ls
unfolding send_all
send_none up from ls os none = ap (send_all up from ls) none

pub none_left : {X : Type 0} (xs : List X) → length xs ≤ 0 → xs ≡ []
none_left [] none = refl
none_left (x ∷ xs) none = absurd (omega (arith, none))
