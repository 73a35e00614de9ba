-- Links that change keep what holds of them.
use Rattle.std.proofs.Common.{◌≡◌, refl, ap, sym, subst, ◌∙◌, ℕ, zero, suc, ◌<◌, ◌≤◌, Bool, true, false, List, [], ◌∷◌, ◌++◌, length, Some, slice_index_or, slice_set, arith}
use Rattle.std.specs.List.{AllByRecursion}
use Rattle.std.proofs.lemmas.List.{length-replicate, get_or-replicate}
use Rattle.pcl_base.specs.Limits.{Sizes}
use Rattle.pcl_base.specs.declared.message.Message.{Message}
use Rattle.node_rules.specs.Words.{pick, head_of}
use Rattle.node_rules.specs.NodeState.{Outgoing}
use Rattle.cluster_rules.specs.Links.{Links, empty_links, row_at, link_at, put_link, head_at, tail_of, take_head, send, send_all, clear_into}
use Rattle.cluster_laws.specs.Sound.{IsOnLink, AreLinks}
use Rattle.node_laws.proofs.Lists.{all_push, all_weaker, set_look, set_length}
use Rattle.cluster_laws.proofs.Lists.{look_same}

-- what is on the links may be of any earlier epoch
pub links_later : (c : Sizes) (last now : ℕ) (ls : Links) → last ≤ now → AreLinks c last ls → AreLinks c now ls
links_later c last now ls le i =
    record {
      rows = i.rows;
      row = i.row;
      messages = λ a b.
          all_weaker (IsOnLink c last a b) (IsOnLink c now a b)
          (λ m on.
          let epoch = on.epoch in
          record { sender = on.sender; receiver = on.receiver; others = on.others; epoch = omega (arith, le, epoch); message = on.message })
          (link_at ls a b) (i.messages a b);
    }

pub row_cleared : (ls : Links) (b a : ℕ) → row_at (clear_into ls b) a ≡ slice_set (row_at ls a) b []
unfolding clear_into
row_cleared [] b a = refl
row_cleared (r ∷ ls) b zero = refl
row_cleared (r ∷ ls) b (suc a) = row_cleared ls b a

pub length_cleared : (ls : Links) (b : ℕ) → length (clear_into ls b) ≡ length ls
unfolding clear_into
length_cleared [] b = refl
length_cleared (r ∷ ls) b = ap suc (length_cleared ls b)

module _ (c : Sizes) (last : ℕ) where
  -- no messages
  pub links_empty : AreLinks c last (empty_links c.nodes)
  unfolding link_at
  links_empty =
      record {
        rows = length-replicate c.nodes _;
        row = λ a low. ap (λ (r : List (List Message)). length r) (get_or-replicate c.nodes a _ [] low) ∙ length-replicate c.nodes _;
        messages = λ a b.
            look_same (λ (r : List (List Message)). AllByRecursion (IsOnLink c last a b) (slice_index_or r b [])) c.nodes a _ []
            (look_same (AllByRecursion (IsOnLink c last a b)) c.nodes b [] [] tt tt) tt;
      }

  -- other messages on a link
  pub links_put : (ls : Links) (a b : ℕ) (ms : List Message) → AllByRecursion (IsOnLink c last a b) ms → AreLinks c last ls → AreLinks c last (put_link ls a b ms)
  unfolding put_link link_at
  links_put ls a b ms all i =
      record {
        rows = set_length ls a (slice_set (row_at ls a) b ms) ∙ i.rows;
        row = λ x low.
            set_look (λ (r : List (List Message)). length r ≡ c.nodes) [] ls a x (slice_set (row_at ls a) b ms)
            (λ e. set_length (row_at ls a) b ms ∙ i.row a (subst (λ (y : ℕ). y < c.nodes) e low)) (i.row x low);
        messages = λ x y.
            set_look (λ (r : List (List Message)). AllByRecursion (IsOnLink c last x y) (slice_index_or r y [])) [] ls a x (slice_set (row_at ls a) b ms)
            (λ e.
            set_look (AllByRecursion (IsOnLink c last x y)) [] (row_at ls a) b y ms
            (λ f.
            subst (λ (z : ℕ). AllByRecursion (IsOnLink c last z y) ms) (sym e)
            (subst (λ (z : ℕ). AllByRecursion (IsOnLink c last a z) ms) (sym f) all))
            (subst (λ (z : ℕ). AllByRecursion (IsOnLink c last x y) (slice_index_or (row_at ls z) y [])) e (i.messages x y)))
            (i.messages x y);
      }

  all_tail : (P : Message → Type 0) (ms : List Message) → AllByRecursion P ms → AllByRecursion P (tail_of ms)
  all_tail P [] all = tt
  all_tail P (m ∷ ms) all = all.1

  -- the head is gone
  pub links_taken : (ls : Links) (a b : ℕ) → AreLinks c last ls → AreLinks c last (take_head ls a b)
  links_taken ls a b i = links_put ls a b (tail_of (link_at ls a b)) (all_tail (IsOnLink c last a b) (link_at ls a b) (i.messages a b)) i

  -- the head
  pub head_on : (ls : Links) (a b : ℕ) (m : Message) → AreLinks c last ls → head_at ls a b ≡ Some m → IsOnLink c last a b m
  head_on ls a b m i h = of (link_at ls a b) (i.messages a b) h
    where
      of : (ms : List Message) → AllByRecursion (IsOnLink c last a b) ms → head_of ms ≡ Some m → IsOnLink c last a b m
      of [] all e = absurd (cc)
      of (x ∷ ms) all e = let same : x ≡ m = cc in subst (IsOnLink c last a b) same all.0

  -- sends go on
  pub links_sent : (up : ℕ → Bool) (from : ℕ) (os : List Outgoing) (ls : Links) → AllByRecursion (λ o. IsOnLink c last from o.to o.message) os → AreLinks c last ls → AreLinks c last (send_all up from ls os)
  unfolding send_all
  links_sent up from [] ls all i = i
  links_sent up from (o ∷ os) ls all i = links_sent up from os (send up from ls o) all.1 (by (up o.to))
    where
      by : (b : Bool) → AreLinks c last (pick b (put_link ls from o.to (link_at ls from o.to ++ o.message ∷ [])) ls)
      by true =
          links_put ls from o.to (link_at ls from o.to ++ o.message ∷ [])
          (all_push (IsOnLink c last from o.to) (link_at ls from o.to) o.message (i.messages from o.to) all.0) i
      by false = i

  -- links are cleared
  pub links_cleared : (ls : Links) (b : ℕ) → AreLinks c last ls → AreLinks c last (clear_into ls b)
  unfolding link_at
  links_cleared ls b i =
      record {
        rows = length_cleared ls b ∙ i.rows;
        row = λ a low. ap (λ (r : List (List Message)). length r) (row_cleared ls b a) ∙ set_length (row_at ls a) b [] ∙ i.row a low;
        messages = λ x y.
            subst (λ (r : List (List Message)). AllByRecursion (IsOnLink c last x y) (slice_index_or r y [])) (sym (row_cleared ls b x))
            (set_look (AllByRecursion (IsOnLink c last x y)) [] (row_at ls x) b y [] (λ e. tt) (i.messages x y));
      }
