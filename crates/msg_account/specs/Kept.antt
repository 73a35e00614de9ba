-- What is kept beside the ledger of the account.
use Rattle.std.specs.Prelude.{◌≡◌, ℕ, suc, ◌≤◌, Bool, List, [], ◌∷◌, length, Option, Some, None, Result, Ok, Err, ⊤}
use Rattle.pcl_base.specs.Limits.{Sizes}
use Rattle.run_rules.specs.Words.{pick}
use Rattle.run_rules.specs.Views.{View, first}
use Rattle.run_rules.specs.Ledger.{Ledger}
use Rattle.run_rules.specs.Causes.{Sending}

-- a view of 1 to 16 nodes, with an item of each for each node
pub record HasNodes (n : ℕ) (v : View) : Type 0 where
  pub some_nodes : 1 ≤ n
  pub most_nodes : n ≤ 16
  pub each_live : length v.live ≡ n
  pub each_owner : length v.owners ≡ n
  pub each_since : length v.since ≡ n
  pub each_born : length v.born ≡ n

-- the configuration, and the views that were made
pub record Made : Type 0 where
  pub config : Sizes
  pub views : List View

-- views of n nodes, whose epochs are one after the other from e on
abbrev pub AreInTurn : ℕ → ℕ → List View → Type 0
AreInTurn n e [] = ⊤
AreInTurn n e (v ∷ vs) = (length v.live ≡ n) × (v.epoch ≡ e) × AreInTurn n (suc e) vs

-- view 1, and the later ones in turn
pub record AreMade (c : Sizes) (v : View) (vs : List View) : Type 0 where
  pub is_first : v ≡ first c
  pub in_turn : AreInTurn c.nodes 2 vs

-- a view that could be made
abbrev pub made_of : Result View ℕ → Option View
made_of (Ok v) = Some v
made_of (Err rule) = None

-- what an entry sent but once, or in turn
pub record Once : Type 0 where
  pub requested : Bool
  pub returned : Bool
  pub reported : List ℕ
  pub revoked : List ℕ

-- the causes of an entry's sends
abbrev pub sending : Ledger → Once → Sending
sending l o =
    record { ledger = l; requested = o.requested; returned = o.returned; reported = o.reported; revoked = o.revoked }

-- the same where there was a cause
abbrev pub if_caused : Bool → Ledger → Once → Option Sending
if_caused b l o = pick b (Some (sending l o)) None

-- the ledger where each send had its cause
abbrev pub if_left : Bool → Ledger → Option Ledger
if_left b l = pick b (Some l) None
