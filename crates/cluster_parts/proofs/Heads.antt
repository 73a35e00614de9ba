-- The head of a link that was taken, and goes back.
use Rattle.std.proofs.Common.{◌≡◌, ap, sym, ◌∙◌, ℕ, ◌<◌, List, [], ◌∷◌, length, Some, slice_index_or, slice_set}
use Rattle.pcl_base.specs.declared.message.Message.{Message}
use Rattle.node_rules.specs.Words.{head_of}
use Rattle.cluster_rules.specs.Links.{Links, row_at, link_at, put_link, head_at, tail_of, take_head}
use Rattle.node_laws.proofs.Lists.{set_same}
use Rattle.step_ends.proofs.Armed.{put_twice, put_same}

-- a link that was put, one that is put again, and the one that stood there
pub link_put : (ls : Links) (a b : ℕ) (ms : List Message) → a < length ls → b < length (row_at ls a) → link_at (put_link ls a b ms) a b ≡ ms
unfolding link_at put_link
link_put ls a b ms low in_row =
    ap (λ (r : List (List Message)). slice_index_or r b []) (set_same [] ls a (slice_set (row_at ls a) b ms) low) ∙ set_same [] (row_at ls a) b ms in_row

pub link_again : (ls : Links) (a b : ℕ) (ms ns : List Message) → a < length ls → put_link (put_link ls a b ms) a b ns ≡ put_link ls a b ns
unfolding put_link
link_again ls a b ms ns low =
    put_twice ls a (slice_set (row_at ls a) b ms) (slice_set (row_at (slice_set ls a (slice_set (row_at ls a) b ms)) a) b ns)
    ∙ ap (λ (r : List (List Message)). slice_set ls a (slice_set r b ns)) (set_same [] ls a (slice_set (row_at ls a) b ms) low)
    ∙ ap (λ (r : List (List Message)). slice_set ls a r) (put_twice (row_at ls a) b ms ns)

pub link_same : (ls : Links) (a b : ℕ) → a < length ls → b < length (row_at ls a) → put_link ls a b (link_at ls a b) ≡ ls
unfolding put_link link_at
link_same ls a b low in_row = ap (λ (r : List (List Message)). slice_set ls a r) (put_same [] (row_at ls a) b) ∙ put_same [] ls a

-- a head that goes back can be taken
pub taken_back : (ls : Links) (a b : ℕ) (m : Message) → a < length ls → b < length (row_at ls a) → take_head (put_link ls a b (m ∷ link_at ls a b)) a b ≡ ls
taken_back ls a b m low in_row =
    ap (λ (ms : List Message). put_link (put_link ls a b (m ∷ link_at ls a b)) a b (tail_of ms)) (link_put ls a b (m ∷ link_at ls a b) low in_row)
    ∙ link_again ls a b (m ∷ link_at ls a b) (link_at ls a b) low
    ∙ link_same ls a b low in_row

-- a head that was taken can go back
head_and_tail : (ms : List Message) (m : Message) → head_of ms ≡ Some m → m ∷ tail_of ms ≡ ms
head_and_tail [] m e = absurd (cc)
head_and_tail (x ∷ ms) m e = let same : x ≡ m = cc in ap (λ (y : Message). y ∷ ms) (sym same)

pub back_again : (ls : Links) (a b : ℕ) (m : Message) → a < length ls → b < length (row_at ls a) → head_at ls a b ≡ Some m
    → put_link (take_head ls a b) a b (m ∷ link_at (take_head ls a b) a b) ≡ ls
back_again ls a b m low in_row head =
    ap (λ (ms : List Message). put_link (take_head ls a b) a b (m ∷ ms)) (link_put ls a b (tail_of (link_at ls a b)) low in_row)
    ∙ link_again ls a b (tail_of (link_at ls a b)) (m ∷ tail_of (link_at ls a b)) low
    ∙ ap (put_link ls a b) (head_and_tail (link_at ls a b) m head)
    ∙ link_same ls a b low in_row
