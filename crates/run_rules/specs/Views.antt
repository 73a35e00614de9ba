-- Views: who is live, and who owns each partition.
use Rattle.std.specs.Prelude.{ℕ, zero, suc, ◌+◌, ◌^◌, ◌-◌, ◌==◌, ◌&&◌, not, nat_lt, Bool, true, false, List, [], ◌∷◌, length, replicate, slice_index, slice_index_or, Option, Some, None, Result, Ok, Err}
use Rattle.std.specs.List.{list_any, list_all}
use Rattle.std.specs.Bool.{beq}
use Rattle.pcl_base.specs.Limits.{Sizes}
use Rattle.run_rules.specs.Words.{pick}

-- a view: its epoch, a flag for each live node, the owner of each partition, the epoch since which
-- each partition is held by its owner, and the epoch in which each node was born
pub record View : Type 0 where
  pub epoch : ℕ
  pub live : List Bool
  pub owners : List ℕ
  pub since : List ℕ
  pub born : List ℕ

-- n numbers in a row, the first of them is a
unfoldable pub count_from : ℕ → ℕ → List ℕ
count_from a zero = []
count_from a (suc n) = a ∷ count_from (a + 1) n

-- whether a node is live; a node without a flag isn't
abbrev pub is_live : List Bool → ℕ → Bool
is_live live n = slice_index_or live n false

-- view 1: all nodes are live, and node i owns partition i
abbrev pub first : Sizes → View
first c =
    record {
      epoch = 1;
      live = replicate c.nodes true;
      owners = count_from 0 c.nodes;
      since = replicate c.nodes 1;
      born = replicate c.nodes 1;
    }

-- the rules that a view has to keep, but for the fifth, each with its number: 1, both lists have an
-- item for each node; 2, some node is live; 4, each owner is live; 6, the epoch before isn't the last
abbrev pub keeps_one : Sizes → List Bool → List ℕ → Bool
keeps_one c live owners = length live == c.nodes && length owners == c.nodes

-- the second rule
abbrev pub keeps_two : List Bool → Bool
keeps_two live = list_any (λ b. b) live

-- the fourth rule
abbrev pub keeps_four : Sizes → List Bool → List ℕ → Bool
keeps_four c live owners = list_all (λ o. nat_lt o c.nodes && is_live live o) owners

-- the sixth rule
abbrev pub keeps_six : View → Bool
keeps_six before = nat_lt before.epoch (2 ^ 32 - 1)

-- the number of the first broken rule of a view after this one
abbrev pub first_broken : Sizes → View → List Bool → List ℕ → Option ℕ
first_broken c before live owners =
    pick (not (keeps_one c live owners)) (Some 1)
    (pick (not (keeps_two live)) (Some 2)
    (pick (not (keeps_four c live owners)) (Some 4)
    (pick (not (keeps_six before)) (Some 6) None)))

-- since: the new epoch where the owner changed
unfoldable pub since_after : ℕ → List ℕ → List ℕ → List ℕ → List ℕ
since_after e (o ∷ old) (n ∷ new) (s ∷ since) = pick (o == n) s e ∷ since_after e old new since
since_after e _ _ _ = []

-- born: the new epoch for a returning node, which is live now and wasn't before
unfoldable pub born_after : ℕ → List Bool → List Bool → List ℕ → List ℕ
born_after e (o ∷ old) (n ∷ new) (b ∷ born) = pick (n && not o) e b ∷ born_after e old new born
born_after e _ _ _ = []

-- the view of the next epoch with these live nodes and owners
abbrev pub moved : View → List Bool → List ℕ → View
moved before live owners =
    record {
      epoch = before.epoch + 1;
      live = live;
      owners = owners;
      since = since_after (before.epoch + 1) before.owners owners before.since;
      born = born_after (before.epoch + 1) before.live live before.born;
    }

-- x, or the number of the broken rule
abbrev pub unless_broken : {X : Type 0} → Option ℕ → X → Result X ℕ
unless_broken None x = Ok x
unless_broken (Some rule) x = Err rule

-- the next view, or the number of the first broken rule
unfoldable pub next : Sizes → View → List Bool → List ℕ → Result View ℕ
next c before live owners = unless_broken (first_broken c before live owners) (moved before live owners)

-- the view of the next epoch in which everything begins anew
abbrev pub anew : Sizes → ℕ → View
anew c e =
    record {
      epoch = e;
      live = replicate c.nodes true;
      owners = count_from 0 c.nodes;
      since = replicate c.nodes e;
      born = replicate c.nodes e;
    }

-- the view after all nodes were down, or the number of the broken rule
unfoldable pub reopen : Sizes → View → Result View ℕ
reopen c before = pick (keeps_six before) (Ok (anew c (before.epoch + 1))) (Err 6)

-- two lists with equal items in the same order
unfoldable pub same_numbers : List ℕ → List ℕ → Bool
same_numbers [] [] = true
same_numbers (x ∷ xs) (y ∷ ys) = x == y && same_numbers xs ys
same_numbers _ _ = false

-- two lists of flags are the same
unfoldable pub same_flags : List Bool → List Bool → Bool
same_flags [] [] = true
same_flags (x ∷ xs) (y ∷ ys) = beq x y && same_flags xs ys
same_flags _ _ = false

-- whether two views are equal
abbrev pub same_view : View → View → Bool
same_view v w =
    v.epoch == w.epoch && same_flags v.live w.live && same_numbers v.owners w.owners
    && same_numbers v.since w.since && same_numbers v.born w.born

-- whether a result is this view
abbrev pub is_that : Result View ℕ → View → Bool
is_that (Ok v) w = same_view v w
is_that (Err rule) w = false

-- whether a view is the one that its live nodes and owners make after an earlier one
unfoldable pub follows : Sizes → View → View → Bool
follows c before v = is_that (next c before v.live v.owners) v

-- what a view says of a node or a partition
abbrev pub owner_of : View → ℕ → ℕ
owner_of v q = slice_index v.owners q

-- the epoch since which a partition has its owner
abbrev pub since_of : View → ℕ → ℕ
since_of v q = slice_index v.since q

-- the epoch in which a node was born
abbrev pub born_of : View → ℕ → ℕ
born_of v n = slice_index v.born n
