-- What is owed of the page once a transaction was closed.
use Rattle.std.proofs.Common.{◌≡◌, refl, sym, ap, subst, ◌∙◌, ℕ, ◌≤◌, ◌==◌, ◌&&◌, ◌||◌, Bool, true, false, List, Option, Some, None, is_some, arith}
use Rattle.std.proofs.lemmas.Bool.Decides.{nat_tests}
use Rattle.pcl_base.specs.declared.lock.Held.{Held}
use Rattle.pcl_base.specs.declared.lock.Kind.{Kind}
use Rattle.pcl_base.specs.declared.lock.Kind.TheVariants as kind
use Rattle.pcl_base.specs.declared.lock.Pending.{Pending}
use Rattle.pcl_base.specs.declared.tx.Mode.{Mode}
use Rattle.pcl_base.specs.declared.tx.Mode.TheVariants.{Shared, Exclusive}
use Rattle.pcl_base.specs.declared.tx.TxId.{TxId}
use Rattle.node_rules.specs.EndRule.{kind_at_end, registered_if}
use Rattle.node_rules.specs.OpenTxs.{waits_on}
use Rattle.node_rules.specs.Words.{pick}
use Rattle.home_laws.specs.Homes.{is_right_kind}
use Rattle.page_protocol.specs.Bytes.{Ranges}
use Rattle.page_protocol.specs.Homes.{ended, committing}
use Rattle.page_protocol.specs.Invariant.{Inv}
use Rattle.page_protocol.specs.State as machine
use Rattle.page_protocol.specs.State.{Home, Fresh, Asking, Holding, HoldingAsks, Reading, ReadingAsks, Ended, Gone, Page, current, IsFresh}
use Rattle.page_protocol.specs.Steps.{Reached}
use Rattle.page_protocol.proofs.Basics.{updn_other}
use Rattle.page_protocol.proofs.Keeps.{reached_holds}
use Rattle.page_relation.specs.Homes.{wait_on, stand_of, held_stand}
use Rattle.page_relation.specs.Work.Events.{IsEntered}

-- ---- who tells an end

pub waits_same : (o : Option Pending) (p : ℕ) → is_some (wait_on o p) ≡ waits_on o p
waits_same None p = refl
waits_same (Some w) p = by (w.page == p)
  where
    by : (d : Bool) → is_some (pick d (Some w.mode) None) ≡ d
    by true = refl
    by false = refl

held_told : (m : Mode) (k : Kind) (w : Option Mode) (e : ℕ) → is_right_kind (registered_if (is_some w) k) ≡ false → ended (held_stand m k w) e ≡ Ended None e
held_told Exclusive k w e other = refl
held_told Shared kind.Right None e other = absurd (cc)
held_told Shared kind.Right (Some m) e other = refl
held_told Shared kind.Own None e other = refl
held_told Shared kind.Own (Some m) e other = refl
held_told Shared kind.Registered None e other = refl
held_told Shared kind.Registered (Some m) e other = refl

pub told_if : (o : Option Held) (w : Option Mode) (have : Option ℕ) (e : ℕ) → (is_some o || is_some w) ≡ true → is_right_kind (kind_at_end o (is_some w)) ≡ false → ended (stand_of o w have) e ≡ Ended None e
told_if None None have e some other = absurd (cc)
told_if None (Some m) have e some other = refl
told_if (Some l) w have e some other = held_told l.mode l.kind w e other

-- ---- what is entered

-- a state with the same copies
pub entered_same : (a k : Page) → k.slot ≡ a.slot → k.dirty ≡ a.dirty → k.owner ≡ a.owner → k.entry ≡ a.entry → IsEntered a → IsEntered k
entered_same a k slot dirty owner entry is y on there =
    subst (λ (v : ℕ). y.version ≤ v) (sym entry) (is y (sym dirty ∙ on) ((λ j. sym slot j (sym owner j)) ∙ there))

module _ (blank : List ℕ) (a : Page) (n : ℕ) (t : TxId) (mine : t.node ≡ n) (reached : Reached blank a) (ranges : Ranges) where
  inv : Inv blank a
  inv = reached_holds blank a reached

  -- one where a page was changed that the node doesn't serve
  pub entered_elsewhere : (committing a t ranges).dirty ≡ machine.pick (a.served && n == a.owner) true a.dirty → (a.served && n == a.owner) ≡ false → IsEntered a → IsEntered (committing a t ranges)
  unfolding committing
  entered_elsewhere dirty_same off is y on there = is y old (sym (updn_other a.slot t.node a.owner _ (λ same. apart (sym mine ∙ sym same))) ∙ there)
    where
      -- (the owner is another node, since a dirty copy is served)
      old : a.dirty ≡ true
      old = sym (dirty_same ∙ ap (λ (d : Bool). machine.pick d true a.dirty) off) ∙ on

      apart : n ≡ a.owner → ⊥
      apart same =
          let here : (n == a.owner) ≡ true = grind (arith, nat_tests, same) in
          let bad : true ≡ false = sym (λ j. inv.kept_holds.dirty_served old j && here j) ∙ off in
          absurd (cc)
