-- What holds of a work in the making.
use Rattle.std.proofs.Common.{◌≡◌, refl, ap, subst, ◌∙◌, sym, ℕ, ◌<◌, ◌≤◌, Bool, true, false, List, length, Option, Some, None, is_some, slice_index_or, slice_set}
use Rattle.std.specs.Prelude.{IfSome}
use Rattle.std.specs.List.{AllByRecursion}
use Rattle.pcl_base.specs.Limits.{Sizes}
use Rattle.pcl_base.specs.declared.message.Body.{Body}
use Rattle.pcl_base.specs.declared.reply.Reply.{Reply}
use Rattle.text_rules.specs.MessageBytes.{IsBody}
use Rattle.run_rules.specs.Views.{View}
use Rattle.node_rules.specs.LockTable.{LockTable}
use Rattle.node_rules.specs.NodeState.{HomeState, Outgoing, table_at, put_table}
use Rattle.node_rules.specs.DiskCalls.{DiskCall}
use Rattle.node_rules.specs.Work.{HomeWork, Work, Outcome, Goes, Differs, work_of_home, with_home_work, with_node, reply, send}
use Rattle.home_laws.specs.Homes.{IsHome}
use Rattle.step_laws.proofs.Outcomes.{On}
use Rattle.step_laws.proofs.Homes.{IsSame}
use Rattle.node_laws.specs.Nodes.{AreRights, IsTable, IsOther, IsSend}
use Rattle.node_laws.proofs.Lists.{all_push, set_look, set_length}
use Rattle.node_laws.proofs.Stored.{AreStored}

-- what doesn't change within a step: the sizes, the number and the birth of the node, its epoch and view,
-- and where it has tables
pub record Base : Type 0 where
  pub config : Sizes
  pub number : ℕ
  pub born : ℕ
  pub epoch : ℕ
  pub view : Option View
  pub has : ℕ → Bool

pub record IsBase (b : Base) : Type 0 where
  pub number : b.number < b.config.nodes
  pub epoch : 1 ≤ b.epoch

pub record IsHomeOf (b : Base) (h : HomeState) : Type 0 where
  pub config : h.config ≡ b.config
  pub number : h.txs.node ≡ b.number
  pub born : h.txs.born ≡ b.born
  pub home : IsHome h
  pub rights : AreRights b.config h.shelf

pub record AreTables (b : Base) (ts : List (Option LockTable)) : Type 0 where
  pub places : length ts ≡ b.config.nodes
  pub owned : (q : ℕ) → q < b.config.nodes → is_some (slice_index_or ts q None) ≡ b.has q
  pub tables : (q : ℕ) → q < b.config.nodes → IfSome (slice_index_or ts q None) (IsTable b.config b.number q)

-- a message of the grammar to another node, of the node's epoch
abbrev pub IsSent : Base → Outgoing → Type 0
IsSent b o = IsSend b.config b.number o × (o.message.epoch ≡ b.epoch)

pub record IsGood (b : Base) (w : Work) : Type 0 where
  pub home : IsHomeOf b w.node.home
  pub epoch : w.node.epoch ≡ b.epoch
  pub view : w.node.view ≡ b.view
  pub tables : AreTables b w.node.tables
  pub stored : AreStored b.config w.pages w.calls
  pub sends : AllByRecursion (IsSent b) w.sends

-- a value that is given
pub on_is : {X : Type 0} (P : X → Type 0) (o : Outcome X) → ((x : X) → o ≡ Goes x → P x) → On P o
on_is P (Goes x) k = k x refl
on_is P (Differs p e d) k = tt

-- a home that is part of a work
pub record IsHomeWork (b : Base) (w : HomeWork) : Type 0 where
  pub home : IsHomeOf b w.home
  pub stored : AreStored b.config w.pages w.calls

pub same_home_of : (b : Base) (g h : HomeState) → IsSame g h → IsHome h → IsHomeOf b g → IsHomeOf b h
same_home_of b g h same is of =
    record {
      config = same.config ∙ of.config;
      number = ap (λ s. s.node) same.txs ∙ of.number;
      born = ap (λ s. s.born) same.txs ∙ of.born;
      home = is;
      rights = subst (AreRights b.config) (sym same.shelf) of.rights;
    }

pub stored_same : (c : Sizes) (v w : HomeWork) → w.pages ≡ v.pages → w.calls ≡ v.calls → AreStored c v.pages v.calls → AreStored c w.pages w.calls
stored_same c v w pages calls stored =
    subst (λ (ds : List DiskCall). AreStored c w.pages ds) (sym calls) (subst (λ (ps : List (List ℕ)). AreStored c ps v.calls) (sym pages) stored)

module _ (b : Base) (base : IsBase b) where
  pub part_of : (w : Work) → IsGood b w → IsHomeWork b (work_of_home w)
  part_of w good = record { home = good.home; stored = good.stored }

  pub good_reply : (r : Reply) (w : Work) → IsGood b w → IsGood b (reply r w)
  good_reply r w good =
      record { home = good.home; epoch = good.epoch; view = good.view; tables = good.tables; stored = good.stored; sends = good.sends }

  pub good_replies : (rs : List Reply) (w : Work) → IsGood b w → IsGood b (record w { replies = rs })
  good_replies rs w good =
      record { home = good.home; epoch = good.epoch; view = good.view; tables = good.tables; stored = good.stored; sends = good.sends }

  pub good_send : (to : ℕ) (body : Body) (w : Work) → IsOther b.config b.number to → IsBody b.config body → IsGood b w → IsGood b (send to body w)
  good_send to body w other is good =
      record {
        home = good.home;
        epoch = good.epoch;
        view = good.view;
        tables = good.tables;
        stored = good.stored;
        sends =
            all_push (IsSent b) w.sends (record { to = to; message = record { epoch = w.node.epoch; body = body } }) good.sends
            ((other, record { epoch = subst (λ (n : ℕ). 1 ≤ n) (sym good.epoch) base.epoch; body = is }), good.epoch);
      }

  pub good_home : (x : HomeWork) (w : Work) → IsHomeWork b x → IsGood b w → IsGood b (with_home_work w x)
  good_home x w part good =
      record { home = part.home; epoch = good.epoch; view = good.view; tables = good.tables; stored = part.stored; sends = good.sends }

  -- what is known of a table that is there
  pub has_table : (q : ℕ) (t : LockTable) (w : Work) → q < b.config.nodes → table_at w.node q ≡ Some t → IsGood b w → (b.has q ≡ true) × IsTable b.config b.number q t
  has_table q t w low there good =
      (sym (good.tables.owned q low) ∙ ap (λ (o : Option LockTable). is_some o) there, subst (λ (o : Option LockTable). IfSome o (IsTable b.config b.number q)) there (good.tables.tables q low))

  pub has_none : (q : ℕ) (w : Work) → q < b.config.nodes → table_at w.node q ≡ None → IsGood b w → b.has q ≡ false
  has_none q w low there good = sym (good.tables.owned q low) ∙ ap (λ (o : Option LockTable). is_some o) there

  pub tables_put : (q : ℕ) (t : LockTable) (ts : List (Option LockTable)) → b.has q ≡ true → IsTable b.config b.number q t → AreTables b ts → AreTables b (slice_set ts q (Some t))
  tables_put q t ts has is are =
      record {
        places = set_length ts q (Some t) ∙ are.places;
        owned = λ j low. set_look (λ (o : Option LockTable). is_some o ≡ b.has j) None ts q j (Some t) (λ e. sym (ap b.has e ∙ has)) (are.owned j low);
        tables = λ j low. set_look (λ (o : Option LockTable). IfSome o (IsTable b.config b.number j)) None ts q j (Some t) (λ e. subst (λ n. IsTable b.config b.number n t) (sym e) is) (are.tables j low);
      }

  -- a table in the place of another one
  pub good_table : (q : ℕ) (t : LockTable) (w : Work) → b.has q ≡ true → IsTable b.config b.number q t → IsGood b w → IsGood b (with_node w (put_table w.node q (Some t)))
  good_table q t w has is good =
      record { home = good.home; epoch = good.epoch; view = good.view; tables = tables_put q t w.node.tables has is good.tables; stored = good.stored; sends = good.sends }
