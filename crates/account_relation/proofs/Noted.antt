-- The links as the trace has them, after each change of the links.
use Rattle.std.proofs.Common.{◌≡◌, refl, ap, sym, ◌∙◌, ℕ, zero, suc, Bool, List, [], ◌∷◌, ◌++◌, map, replicate, slice_index_or, slice_set, option_map}
use Rattle.pcl_base.specs.declared.message.Message.{Message}
use Rattle.pcl_base.specs.declared.trace.Note.{Note}
use Rattle.run_rules.specs.Ledger.{link_row, link_at as ledger_link, put_link as put_ledger_link, head_of as first_note, tail_of as further_notes}
use Rattle.node_rules.specs.NodeState.{Outgoing}
use Rattle.node_rules.specs.Words.{pick, head_of}
use Rattle.cluster_rules.specs.Links.{Links, empty_links, row_at, link_at, put_link, tail_of, take_head, send, send_all, clear_into}
use Rattle.account_relation.specs.World.{noted, noted_links}

module _ {X Y : Type 0} (f : X → Y) where
  pub map_set : (xs : List X) (i : ℕ) (y : X) → map f (slice_set xs i y) ≡ slice_set (map f xs) i (f y)
  map_set [] i y = refl
  map_set (x ∷ xs) zero y = refl
  map_set (x ∷ xs) (suc i) y = ap (λ zs. f x ∷ zs) (map_set xs i y)

  pub map_look : (d : X) (xs : List X) (i : ℕ) → slice_index_or (map f xs) i (f d) ≡ f (slice_index_or xs i d)
  map_look d [] i = refl
  map_look d (x ∷ xs) zero = refl
  map_look d (x ∷ xs) (suc i) = map_look d xs i

  pub map_end : (xs : List X) (y : X) → map f (xs ++ y ∷ []) ≡ map f xs ++ f y ∷ []
  map_end [] y = refl
  map_end (x ∷ xs) y = ap (λ zs. f x ∷ zs) (map_end xs y)

-- an item in its own place
pub set_back : {X : Type 0} (d y : X) (xs : List X) (i : ℕ) → slice_index_or xs i d ≡ y → slice_set xs i y ≡ xs
set_back d y [] i e = refl
set_back d y (x ∷ xs) zero e = ap (λ z. z ∷ xs) (sym e)
set_back d y (x ∷ xs) (suc i) e = ap (λ zs. x ∷ zs) (set_back d y xs i e)

abbrev noted_row : List (List Message) → List (List Note)
noted_row r = map (map noted) r

row_noted : (ls : Links) (a : ℕ) → link_row (noted_links ls) a ≡ noted_row (row_at ls a)
unfolding noted_links
row_noted ls a = map_look noted_row [] ls a

pub link_noted : (ls : Links) (a b : ℕ) → ledger_link (noted_links ls) a b ≡ map noted (link_at ls a b)
unfolding ledger_link link_at
link_noted ls a b = ap (λ r. slice_index_or r b []) (row_noted ls a) ∙ map_look (map noted) [] (row_at ls a) b

pub put_noted : (ls : Links) (a b : ℕ) (ms : List Message) → put_ledger_link (noted_links ls) a b (map noted ms) ≡ noted_links (put_link ls a b ms)
unfolding put_ledger_link put_link noted_links
put_noted ls a b ms =
    ap (λ r. slice_set (map noted_row ls) a (slice_set r b (map noted ms))) (row_noted ls a)
    ∙ ap (slice_set (map noted_row ls) a) (sym (map_set (map noted) (row_at ls a) b ms))
    ∙ sym (map_set noted_row ls a (slice_set (row_at ls a) b ms))

tail_noted : (ms : List Message) → further_notes (map noted ms) ≡ map noted (tail_of ms)
tail_noted [] = refl
tail_noted (m ∷ ms) = refl

pub head_noted : (ms : List Message) → first_note (map noted ms) ≡ option_map noted (head_of ms)
head_noted [] = refl
head_noted (m ∷ ms) = refl

-- the head of a link is gone
pub take_noted : (ls : Links) (a b : ℕ) → put_ledger_link (noted_links ls) a b (further_notes (ledger_link (noted_links ls) a b)) ≡ noted_links (take_head ls a b)
take_noted ls a b =
    ap (λ ms. put_ledger_link (noted_links ls) a b ms) (ap further_notes (link_noted ls a b) ∙ tail_noted (link_at ls a b)) ∙ put_noted ls a b (tail_of (link_at ls a b))

-- a message goes last on its link
pub push_noted : (ls : Links) (a b : ℕ) (m : Message) → put_ledger_link (noted_links ls) a b (ledger_link (noted_links ls) a b ++ noted m ∷ []) ≡ noted_links (put_link ls a b (link_at ls a b ++ m ∷ []))
push_noted ls a b m =
    ap (λ ms. put_ledger_link (noted_links ls) a b ms) (ap (λ ms. ms ++ noted m ∷ []) (link_noted ls a b) ∙ sym (map_end noted (link_at ls a b) m)) ∙ put_noted ls a b (link_at ls a b ++ m ∷ [])

-- the links into a node are empty
pub clear_noted : (ls : Links) (b : ℕ) → map (λ (row : List (List Note)). slice_set row b []) (noted_links ls) ≡ noted_links (clear_into ls b)
unfolding noted_links clear_into
clear_noted [] b = refl
clear_noted (r ∷ ls) b = (λ i. sym (map_set (map noted) r b []) i ∷ clear_noted ls b i)

-- sends by two tests that agree
pub sends_same : (u w : ℕ → Bool) (n : ℕ) → ((k : ℕ) → u k ≡ w k) → (os : List Outgoing) (ls : Links) → send_all u n ls os ≡ send_all w n ls os
unfolding send_all
sends_same u w n f [] ls = refl
sends_same u w n f (o ∷ os) ls =
    ap (λ (b : Bool). send_all u n (pick b (put_link ls n o.to (link_at ls n o.to ++ o.message ∷ [])) ls) os) (f o.to) ∙ sends_same u w n f os (send w n ls o)

-- the same item several times
pub map_again : {X Y : Type 0} (f : X → Y) (n : ℕ) (x : X) → map f (replicate n x) ≡ replicate n (f x)
map_again f zero x = refl
map_again f (suc n) x = ap (λ ys. f x ∷ ys) (map_again f n x)

pub empty_noted : (n : ℕ) → noted_links (empty_links n) ≡ replicate n (replicate n [])
unfolding noted_links
empty_noted n = map_again noted_row n (replicate n []) ∙ ap (replicate n) (map_again (map noted) n [])
