-- Messages that arrive, but for reports.
use Rattle.std.proofs.Common.{◌≡◌, refl, ap, subst, ◌∙◌, sym, ℕ, ◌<◌, ◌==◌, Bool, true, false, length, Option, Some, None}
use Rattle.std.specs.Prelude.{⊤}
use Rattle.std.specs.List.{AllByRecursion}
use Rattle.pcl_base.specs.Limits.{Sizes, InLimits}
use Rattle.pcl_base.specs.declared.message.Body.TheVariants as body
use Rattle.pcl_base.specs.declared.message.Change.{Change}
use Rattle.pcl_base.specs.declared.message.Grant.{Grant}
use Rattle.pcl_base.specs.declared.message.Release.{Release}
use Rattle.pcl_base.specs.declared.message.ReturnRight.{ReturnRight}
use Rattle.pcl_base.specs.declared.reply.Reply.{Reply}
use Rattle.text_rules.specs.MessageBytes.{IsTx, IsPage, IsCopy, IsChange}
use Rattle.node_rules.specs.LockRule.{takes_change}
use Rattle.node_rules.specs.LockTable.{LockTable, entry_at}
use Rattle.node_rules.specs.Shelf.{Right, right_on, readers_of}
use Rattle.node_rules.specs.BufferRule.{has_slot, free_frames}
use Rattle.node_rules.specs.NodeState.{NodeState, HomeState, table_of}
use Rattle.node_rules.specs.Work.{HomeWork, Work, work_of_home, with_home, with_home_work, some_reply}
use Rattle.node_rules.specs.AccessRule.{Arrived, on_grant, on_revoke, answer_with, make_room}
use Rattle.node_rules.specs.OwnerRule.{has_room, put_change, put_taken, change_if_served, version_of_change, end_in, on_release_in, on_release}
use Rattle.node_rules.specs.NodeStep.{after_grant, take_grant, send_answer, take_revoke}
use Rattle.home_laws.proofs.Puts.{put_change_is_sound_law}
use Rattle.home_laws.proofs.Room.{room_home}
use Rattle.step_laws.proofs.Outcomes.{On, on_so}
use Rattle.step_laws.proofs.Homes.{IsSame}
use Rattle.node_laws.specs.Nodes.{AreRights, IsOther}
use Rattle.node_laws.proofs.Entries.{end_is}
use Rattle.node_laws.proofs.Stored.{AreStored, Fits, put_by, home_fits, change_stored}
use Rattle.node_laws.proofs.Transactions.{readers_are_tx}
use Rattle.node_laws.proofs.Readers.{readers_short}
use Rattle.node_laws.proofs.Works.{Base, IsBase, IsHomeOf, IsHomeWork, IsGood, same_home_of, part_of, good_reply, good_send, good_home}
use Rattle.node_laws.proofs.Grants.{grant_good, revoke_good}
use Rattle.node_laws.proofs.Pages.{enter_good}

-- a taken change is put into the buffer or on disk alone
room_same : (keep : ℕ) (w : HomeWork) → IsSame w.home (make_room keep w).home
room_same keep w =
    let same = room_home keep w in
    record { config = ap (λ (h : HomeState). h.config) same; txs = ap (λ (h : HomeState). h.txs) same; shelf = ap (λ (h : HomeState). h.shelf) same }

put_same : (p : ℕ) (x : Change) (w : HomeWork) → IsSame w.home (put_change p x w).home
put_same p x w = by (has_slot w.home.pool p) (free_frames w.home.pool == 0) (has_room p w)
  where
    by : (a b d : Bool) → IsSame w.home (put_by a b d p x w).home
    by true b d = record { config = refl; txs = refl; shelf = refl }
    by false true true = let room = room_same p w in record { config = room.config; txs = room.txs; shelf = room.shelf }
    by false true false = record { config = refl; txs = refl; shelf = refl }
    by false false d = record { config = refl; txs = refl; shelf = refl }

module _ (b : Base) (base : IsBase b) where
  put_good : (p : ℕ) (x : Change) (w : HomeWork) → IsPage b.config p → length x.image ≡ b.config.size → IsHomeWork b w → IsHomeWork b (put_change p x w)
  put_good p x w low sized is =
      let same = is.home.config in
      let fits : Fits w.home.config w = home_fits w is.home.home (subst (λ (c : Sizes). AreStored c w.pages w.calls) (sym same) is.stored) in
      record {
        home =
            same_home_of b w.home (put_change p x w).home (put_same p x w)
            (put_change_is_sound_law p x w is.home.home (subst (λ (c : Sizes). p < c.pages) (sym same) low) (sized ∙ ap (λ (c : Sizes). c.size) (sym same))) is.home;
        stored = change_stored b.config p x w low sized (subst (λ (c : Sizes). Fits c w) same fits);
      }

  taken_good : (taken : Bool) (p : ℕ) (o : Option Change) (w : Work) → IsPage b.config p → IsChange b.config.size o → IsGood b w → IsGood b (put_taken taken p o w)
  taken_good true p (Some x) w low is good = good_home b base (put_change p x (work_of_home w)) w (put_good p x (work_of_home w) low is.1 (part_of b base w good)) good
  taken_good true p None w low is good = good
  taken_good false p o w low is good = good

  pub release_good : (r : Release) (w : Work) → IsPage b.config r.page → IsChange b.config.size r.change → IsGood b w → On (IsGood b) (on_release r w)
  unfolding on_release
  release_good r w low is good = by (table_of w.node r.page)
    where
      by : (o : Option LockTable) → On (IsGood b) (on_release_in r o w)
      by None = good
      by (Some t) =
          let change : Option Change = change_if_served t.serving r.change in
          enter_good b base r.page low (end_in r.tx change) (λ e h. end_is b.config b.number r.tx (version_of_change change) e h)
          (put_taken (takes_change (entry_at t r.page) r.tx (version_of_change change)) r.page r.change w)
          (taken_good (takes_change (entry_at t r.page) r.tx (version_of_change change)) r.page r.change w low is good)

  pub take_grant_good : (o : Option LockTable) (g : Grant) (w : Work) → IsPage b.config g.page → IsCopy b.config.size g.copy → IsGood b w → On (IsGood b) (take_grant o g w)
  take_grant_good (Some t) g w low copy good = good
  take_grant_good None g w low copy good =
      on_so (λ (a : Arrived). IsHomeWork b a.work) (IsGood b) (on_grant g false (work_of_home w)) (after_grant w) (grant_good b g false (work_of_home w) low copy (part_of b base w good))
      (λ a is. by a.reply (with_home_work w a.work) (good_home b base a.work w is good))
    where
      by : (o : Option Reply) (x : Work) → IsGood b x → IsGood b (some_reply o x)
      by None x h = h
      by (Some r) x h = good_reply b base r x h

  -- the answer to a revocation
  abbrev IsAnswer : ℕ → Option ReturnRight → Type 0
  IsAnswer p None = ⊤
  IsAnswer p (Some r) = (r.page ≡ p) × (length r.readers < 4294967296) × AllByRecursion (IsTx b.config) r.readers

  answer_is : InLimits b.config → (p : ℕ) (n : NodeState) → IsHomeOf b n.home → IsAnswer p (on_revoke p n.home).answer
  unfolding on_revoke
  answer_is limits p n of = by (right_on n.home.shelf p) refl
    where
      by : (o : Option Right) → right_on n.home.shelf p ≡ o → IsAnswer p (answer_with p o n.home).answer
      by None e = tt
      by (Some r) e = (
        refl,
        readers_short n p r (subst InLimits (sym of.config) limits) of.home (subst (λ (c : Sizes). AreRights c n.home.shelf) (sym of.config) of.rights) e,
        subst (λ (c : Sizes). AllByRecursion (IsTx c) r.readers) of.config
            (subst (λ (x : Option Right). AllByRecursion (IsTx n.home.config) (readers_of x)) e (readers_are_tx n.home p of.home)),
      )

  pub take_revoke_good : InLimits b.config → (from p : ℕ) (w : Work) → IsOther b.config b.number from → IsPage b.config p → IsGood b w → IsGood b (take_revoke from w (on_revoke p w.node.home))
  take_revoke_good limits from p w other low good =
      by (on_revoke p w.node.home).answer (answer_is limits p w.node good.home) (with_home w (on_revoke p w.node.home).home)
      (record { home = revoke_good b p w.node.home good.home; epoch = good.epoch; view = good.view; tables = good.tables; stored = good.stored; sends = good.sends })
    where
      by : (o : Option ReturnRight) → IsAnswer p o → (x : Work) → IsGood b x → IsGood b (send_answer from o x)
      by None is x h = h
      by (Some r) is x h = good_send b base from (body.Return r) x other (subst (IsPage b.config) (sym is.0) low, is.1, is.2) h
