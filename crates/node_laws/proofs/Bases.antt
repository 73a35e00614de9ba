-- From a sound node to a work in the making, and back.
use Rattle.std.proofs.Common.{◌≡◌, refl, ap, subst, ◌∙◌, sym, ℕ, zero, suc, ◌+◌, ◌^◌, ◌<◌, ◌≤◌, ◌==◌, true, false, List, [], ◌∷◌, length, Option, Some, None, arith}
use Rattle.std.specs.Prelude.{IfSome, ◌≢◌}
use Rattle.std.specs.List.{AllByRecursion}
use Rattle.std.proofs.lemmas.Bool.Decides.{nat_tests}
use Rattle.pcl_base.specs.Limits.{Sizes, InLimits}
use Rattle.pcl_base.specs.declared.reply.Reply.{Reply}
use Rattle.run_rules.specs.Disk.{Disk, raw_page}
use Rattle.run_rules.specs.Views.{View, is_live, born_of, owner_of}
use Rattle.rule_laws.specs.LaterViews.{IsWhole}
use Rattle.node_rules.specs.LockTable.{LockTable}
use Rattle.node_rules.specs.NodeState.{NodeState, number_of, table_at, partition, owner_in, page_owner}
use Rattle.node_rules.specs.Work.{Work, reply}
use Rattle.node_rules.specs.InstallRule.{owned_before}
use Rattle.node_rules.specs.NodeStep.{begin_work}
use Rattle.node_laws.specs.Nodes.{AreRights, IsTable, IsViewOf, IsSound, DiskFits, IsOther, IsSend, IsCall}
use Rattle.node_laws.proofs.Lists.{all_weaker}
use Rattle.node_laws.proofs.Works.{Base, IsBase, IsSent, IsGood}

-- a view of a node with these numbers
pub record IsViewIn (b : Base) (v : View) : Type 0 where
  pub whole : IsWhole b.config v
  pub epoch : v.epoch ≡ b.epoch
  pub live : is_live v.live b.number ≡ true
  pub born : born_of v b.number ≡ b.born

-- numbers that a sound node may have
pub record IsSoundBase (b : Base) : Type 0 where
  pub limits : InLimits b.config
  pub number : b.number < b.config.nodes
  pub born : 1 ≤ b.born
  pub epoch : (1 ≤ b.epoch) × (b.epoch < 2 ^ 32)
  pub view : IfSome b.view (IsViewIn b)
  pub owned : (q : ℕ) → q < b.config.nodes → b.has q ≡ owned_before b.view q b.number

pub base_is : (b : Base) → IsSoundBase b → IsBase b
base_is b is = record { number = is.number; epoch = is.epoch.0 }

-- the numbers of a node
abbrev pub base_of : NodeState → Base
base_of n =
    record {
      config = n.home.config;
      number = number_of n;
      born = n.home.txs.born;
      epoch = n.epoch;
      view = n.view;
      has = λ q. owned_before n.view q (number_of n);
    }

pub base_sound : (n : NodeState) → IsSound n → IsSoundBase (base_of n)
base_sound n sound =
    record {
      limits = sound.limits;
      number = sound.home.txs.node;
      born = sound.born;
      epoch = sound.epoch;
      view = by n.view sound.view;
      owned = λ q low. refl;
    }
  where
    by : (o : Option View) → IfSome o (IsViewOf n) → IfSome o (IsViewIn (base_of n))
    by None is = tt
    by (Some v) is = record { whole = is.whole; epoch = is.epoch; live = is.live; born = is.born }

page_long : (size : ℕ) (ps : List (List ℕ)) (p : ℕ) → p < length ps → AllByRecursion (λ bytes. length bytes ≡ size) ps → length (raw_page ps p) ≡ size
page_long size [] p low all = absurd (omega (arith, low))
page_long size (x ∷ ps) zero low all = all.0
page_long size (x ∷ ps) (suc p) low all = page_long size ps p (omega (arith, low)) all.1

pub begun_good : (n : NodeState) (d : Disk) → IsSound n → DiskFits n.home.config d → IsGood (base_of n) (begin_work n d)
begun_good n d sound fits =
    record {
      home = record { config = refl; number = refl; born = refl; home = sound.home; rights = sound.rights };
      epoch = refl;
      view = refl;
      tables = record { places = sound.places; owned = sound.owned; tables = sound.tables };
      stored = record { pages = λ p low. page_long (n.home.config.size + 16) d.pages p (subst (λ (k : ℕ). p < k) (sym fits.pages.0) low) fits.pages.1; calls = tt };
      sends = tt;
    }

-- what a step leaves
pub record IsDone (c : Sizes) (me : ℕ) (w : Work) : Type 0 where
  pub sound : IsSound w.node
  pub config : w.node.home.config ≡ c
  pub number : number_of w.node ≡ me
  pub sends : AllByRecursion (IsSend c me) w.sends
  pub epochs : AllByRecursion (λ o. o.message.epoch ≡ w.node.epoch) w.sends
  pub calls : AllByRecursion (IsCall c) w.calls

view_of : (b : Base) (w : Work) → IsGood b w → (v : View) → IsViewIn b v → IsViewOf w.node v
view_of b w good v is =
    record {
      whole = subst (λ (c : Sizes). IsWhole c v) (sym good.home.config) is.whole;
      epoch = is.epoch ∙ sym good.epoch;
      live = ap (λ (m : ℕ). is_live v.live m) good.home.number ∙ is.live;
      born = ap (λ (m : ℕ). born_of v m) good.home.number ∙ is.born ∙ sym good.home.born;
    }

pub good_done : (b : Base) (w : Work) → IsSoundBase b → (b.view ≡ None → length w.node.home.txs.txs ≡ 0) → IsGood b w → IsDone b.config b.number w
good_done b w base idle good =
    record {
      sound =
          record {
            limits = subst InLimits (sym config) base.limits;
            home = good.home.home;
            rights = subst (λ (c : Sizes). AreRights c w.node.home.shelf) (sym config) good.home.rights;
            born = subst (λ (k : ℕ). 1 ≤ k) (sym good.home.born) base.born;
            epoch = subst (λ (k : ℕ). (1 ≤ k) × (k < 2 ^ 32)) (sym good.epoch) base.epoch;
            view = subst (λ (o : Option View). IfSome o (IsViewOf w.node)) (sym good.view) (views b.view base.view);
            idle = λ none. idle (sym good.view ∙ none);
            places = good.tables.places ∙ ap (λ (c : Sizes). c.nodes) (sym config);
            owned = λ q low. good.tables.owned q (below q low) ∙ base.owned q (below q low) ∙ ap (λ (o : Option View). owned_before o q b.number) (sym good.view) ∙ ap (λ (m : ℕ). owned_before w.node.view q m) (sym number);
            tables = λ q low. tables q (table_at w.node q) (good.tables.tables q (below q low));
          };
      config = config;
      number = number;
      sends = all_weaker (IsSent b) (IsSend b.config b.number) (λ o is. is.0) w.sends good.sends;
      epochs = all_weaker (IsSent b) (λ o. o.message.epoch ≡ w.node.epoch) (λ o is. is.1 ∙ sym good.epoch) w.sends good.sends;
      calls = good.stored.calls;
    }
  where
    config : w.node.home.config ≡ b.config
    config = good.home.config

    number : number_of w.node ≡ b.number
    number = good.home.number

    below : (q : ℕ) → q < w.node.home.config.nodes → q < b.config.nodes
    below q low = subst (λ (c : Sizes). q < c.nodes) config low

    views : (o : Option View) → IfSome o (IsViewIn b) → IfSome o (IsViewOf w.node)
    views None is = tt
    views (Some v) is = view_of b w good v is

    tables : (q : ℕ) (o : Option LockTable) → IfSome o (IsTable b.config b.number q) → IfSome o (IsTable w.node.home.config (number_of w.node) q)
    tables q None is = tt
    tables q (Some t) is = subst (λ (c : Sizes). IsTable c (number_of w.node) q t) (sym config) (subst (λ (m : ℕ). IsTable b.config m q t) (sym number) is)

-- a step that only answers
pub answered_done : (n : NodeState) (d : Disk) (r : Reply) → IsSound n → IsDone n.home.config (number_of n) (reply r (begin_work n d))
answered_done n d r sound = record { sound = sound; config = refl; number = refl; sends = tt; epochs = tt; calls = tt }

-- the owner of a partition of which the node has no table is another node
pub owner_other : (b : Base) (v : View) → IsSoundBase b → b.view ≡ Some v → (q : ℕ) → q < b.config.nodes → b.has q ≡ false → IsOther b.config b.number (owner_in b.view q)
owner_other b v base in_view q low none =
    subst (λ (o : Option View). IsOther b.config b.number (owner_in o q)) (sym in_view) (is.whole.owner_known q low, differs)
  where
    is : IsViewIn b v
    is = subst (λ (o : Option View). IfSome o (IsViewIn b)) in_view base.view

    test : (owner_of v q == b.number) ≡ false
    test = ap (λ (o : Option View). owned_before o q b.number) (sym in_view) ∙ sym (base.owned q low) ∙ none

    differs : owner_of v q ≢ b.number
    differs = grind (arith, nat_tests, test)

-- the same of a page's owner
pub page_other : (b : Base) (v : View) → IsSoundBase b → b.view ≡ Some v → (w : Work) → IsGood b w → (p : ℕ) → partition b.config p < b.config.nodes → b.has (partition b.config p) ≡ false
    → IsOther b.config b.number (page_owner w.node p)
page_other b v base in_view w good p low none =
    subst (λ (c : Sizes). IsOther b.config b.number (owner_in w.node.view (partition c p))) (sym good.home.config)
    (subst (λ (o : Option View). IsOther b.config b.number (owner_in o (partition b.config p))) (sym good.view) (owner_other b v base in_view (partition b.config p) low none))
