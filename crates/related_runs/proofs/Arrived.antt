-- What is granted where a message arrives stands at its home.
use Rattle.std.proofs.Common.{◌≡◌, ◌≢◌, refl, sym, ap, subst, ◌∙◌, ℕ, ◌<◌, ◌≤◌, ◌==◌, Bool, true, false, List, length, Option, Some, None}
use Rattle.std.specs.Prelude.{IfSome, ⊤}
use Rattle.pcl_base.specs.Limits.{Sizes}
use Rattle.pcl_base.specs.declared.lock.Kind.TheVariants as kind
use Rattle.pcl_base.specs.declared.message.Change.{Change}
use Rattle.pcl_base.specs.declared.message.Grant.{Grant}
use Rattle.pcl_base.specs.declared.message.Release.{Release}
use Rattle.pcl_base.specs.declared.message.Report.{Report}
use Rattle.pcl_base.specs.declared.message.ReturnRight.{ReturnRight}
use Rattle.pcl_base.specs.declared.reply.Reply.{Reply}
use Rattle.text_rules.specs.MessageBytes.{IsPage, IsChange}
use Rattle.run_rules.specs.Disk.{Disk}
use Rattle.node_rules.specs.AccessRule.{Arrived, Granted, arrived, granted, image_of, on_grant, on_revoke, answer_with, spend_right, shelf_after, readers_after, make_room}
use Rattle.node_rules.specs.BufferRule.{has_slot, free_frames}
use Rattle.node_rules.specs.InstallRule.{complete, take_report, on_report_in, on_report}
use Rattle.node_rules.specs.LockRule.{LockEntry, takes_change}
use Rattle.node_rules.specs.LockTable.{LockTable, entry_at}
use Rattle.node_rules.specs.NodeState.{HomeState, partition, table_at, table_of, put_table}
use Rattle.node_rules.specs.NodeStep.{after_grant, take_grant, send_answer, take_revoke}
use Rattle.node_rules.specs.OpenTxs.{pending_of, waits_as}
use Rattle.node_rules.specs.OwnerRule.{has_room, put_change, put_taken, change_if_served, version_of_change, end_in, enter, on_release_in, on_release}
use Rattle.node_rules.specs.Reports.{gather}
use Rattle.node_rules.specs.Shelf.{Right, right_on}
use Rattle.node_rules.specs.Work.{HomeWork, Work, Goes, work_of_home, with_home, with_node}
use Rattle.home_laws.proofs.Needs.{waiting_pinned}
use Rattle.home_laws.proofs.Puts.{put_change_is_sound_law}
use Rattle.home_laws.proofs.Room.{room_home}
use Rattle.step_laws.proofs.Homes.{IsSame}
use Rattle.step_laws.proofs.Outcomes.{On, on_so, on_more}
use Rattle.node_laws.proofs.Stored.{AreStored, Fits, put_by, home_fits, change_stored}
use Rattle.node_laws.proofs.Works.{Base, IsHomeWork, same_home_of, on_is}
use Rattle.page_laws.specs.Look.Grants.{with_shelf, lock_granted, HasArrived}
use Rattle.page_laws.proofs.LookParts.Granting.{arrival_is_seen_law, spending_is_seen_law}
use Rattle.related_runs.specs.Granted.{StandsAt, Given}
use Rattle.related_runs.proofs.Standing.{waits_here, IsStanding, grant_stands}
use Rattle.related_runs.proofs.Told.{AreTold, tells_moved, tells_more, Fine, fine_weaker, Past, enter_fine}
use Rattle.related_runs.proofs.Redone.{Here, complete_fine}

-- a taken change leaves transactions and rights
room_same : (keep : ℕ) (w : HomeWork) → IsSame w.home (make_room keep w).home
room_same keep w =
    let same = room_home keep w in
    record { config = ap (λ (h : HomeState). h.config) same; txs = ap (λ (h : HomeState). h.txs) same; shelf = ap (λ (h : HomeState). h.shelf) same }

pub put_same : (p : ℕ) (x : Change) (w : HomeWork) → IsSame w.home (put_change p x w).home
put_same p x w = by (has_slot w.home.pool p) (free_frames w.home.pool == 0) (has_room p w)
  where
    by : (a b d : Bool) → IsSame w.home (put_by a b d p x w).home
    by true b d = record { config = refl; txs = refl; shelf = refl }
    by false true true = let room = room_same p w in record { config = room.config; txs = room.txs; shelf = room.shelf }
    by false true false = record { config = refl; txs = refl; shelf = refl }
    by false false d = record { config = refl; txs = refl; shelf = refl }

module _ (front : List Reply) (last : ℕ) (b : Base) where
  -- nothing was granted before
  abbrev pub Bare : Work → Type 0
  Bare w = Fine front last b (λ q v. ⊥) w

  abbrev pub Ended : Work → Type 0
  Ended w = AreTold front last (λ q v. ⊤) w.node.home w.replies

  -- so another home changes nothing
  bare_moved : (h g : HomeState) (rs : List Reply) → g.txs.last ≡ h.txs.last → AreTold front last (λ q v. ⊥) h rs → AreTold front last (λ q v. ⊥) g rs
  bare_moved h g rs same are = tells_moved front last (λ q v. ⊥) (λ q v. ⊥) h g rs same (λ t p v s d. absurd d) are

  pub bare_ended : (w : Work) → Bare w → Ended w
  bare_ended w f = (fine_weaker front last b (λ q v. ⊥) (λ q v. ⊤) (λ p v d. tt) w f).1

  past_ended : (p : ℕ) (low : IsPage b.config p) (w : Work) → Fine front last b (Past front last b p low (λ q. ⊥)) w → Ended w
  past_ended p low w f = (fine_weaker front last b (Past front last b p low (λ q. ⊥)) (λ q v. ⊤) (λ p v d. tt) w f).1

  -- a change
  put_part : (p : ℕ) (x : Change) (w : HomeWork) → IsPage b.config p → length x.image ≡ b.config.size → IsHomeWork b w → IsHomeWork b (put_change p x w)
  put_part p x w low sized is =
      let same = is.home.config in
      let fits : Fits w.home.config w = home_fits w is.home.home (subst (λ (c : Sizes). AreStored c w.pages w.calls) (sym same) is.stored) in
      record {
        home =
            same_home_of b w.home (put_change p x w).home (put_same p x w)
            (put_change_is_sound_law p x w is.home.home (subst (λ (c : Sizes). p < c.pages) (sym same) low) (sized ∙ ap (λ (c : Sizes). c.size) (sym same))) is.home;
        stored = change_stored b.config p x w low sized (subst (λ (c : Sizes). Fits c w) same fits);
      }

  taken_bare : (taken : Bool) (p : ℕ) (o : Option Change) (w : Work) → IsPage b.config p → IsChange b.config.size o → Bare w → Bare (put_taken taken p o w)
  taken_bare true p (Some x) w low is f =
      let part = put_part p x (work_of_home w) low is.1 f.0 in
      (record { home = part.home; stored = part.stored }, bare_moved w.node.home (put_change p x (work_of_home w)).home w.replies (ap (λ s. s.last) (put_same p x (work_of_home w)).txs) f.1)
  taken_bare true p None w low is f = f
  taken_bare false p o w low is f = f

  -- a request or an answer
  pub entered_told : (p : ℕ) → IsPage b.config p → (g : LockEntry → LockEntry) (w : Work) → Bare w → On Ended (enter g p w)
  entered_told p low g w f =
      on_more (Fine front last b (Past front last b p low (λ q. ⊥))) Ended (enter g p w) (λ x i. past_ended p low x i) (enter_fine front last b p low (λ q. ⊥) (λ d. d) g w f)

  -- a release
  pub release_told : (r : Release) (w : Work) → IsPage b.config r.page → IsChange b.config.size r.change → Bare w → On Ended (on_release r w)
  unfolding on_release
  release_told r w low is f = by (table_of w.node r.page)
    where
      by : (o : Option LockTable) → On Ended (on_release_in r o w)
      by None = bare_ended w f
      by (Some t) =
          let change : Option Change = change_if_served t.serving r.change in
          let taken : Bool = takes_change (entry_at t r.page) r.tx (version_of_change change) in
          entered_told r.page low (end_in r.tx change) (put_taken taken r.page r.change w) (taken_bare taken r.page r.change w low is f)

  -- a grant
  module _ (g : Grant) (w : Work) (f : Bare w) where
    shelved : HomeWork
    shelved = with_shelf (readers_after g (shelf_after g w.node.home.shelf)) (work_of_home w)

    unawaited_told : (x : Arrived) → x ≡ record { reply = None; work = with_shelf (shelf_after g w.node.home.shelf) (work_of_home w) } → Ended (after_grant w x)
    unawaited_told x e =
        subst (λ (y : Arrived). Ended (after_grant w y)) (sym e)
        (tells_moved front last (λ q v. ⊥) (λ q v. ⊤) w.node.home (with_shelf (shelf_after g w.node.home.shelf) (work_of_home w)).home w.replies refl (λ t p v s d. absurd d) f.1)

    awaited_told : (x : Arrived) (y : Granted) → waits_as (pending_of w.node.home.txs g.tx) g.page g.mode ≡ true
        → granted g.tx (lock_granted g false) g.version (image_of g.copy) (with_shelf (readers_after g (shelf_after g w.node.home.shelf)) (work_of_home w)) ≡ Goes y → x ≡ arrived y → Ended (after_grant w x)
    awaited_told x y waits goes e =
        subst (λ (z : Arrived). Ended (after_grant w z)) (sym e)
        (tells_more front last (λ q v. ⊤) y.work.home w.replies y.reply
        (subst (λ (o : Option Given). IfSome o (λ (k : Given). StandsAt y.work.home k.tx k.page k.version × ⊤)) (sym is.given) (is.here, tt), is.commit)
        (tells_moved front last (λ q v. ⊥) (λ q v. ⊤) w.node.home y.work.home w.replies is.last (λ t p v s d. absurd d) f.1))
      where
        is : IsStanding g.tx g.page g.version w.node.home y
        is =
            let here = grant_stands g.tx (lock_granted g false) g.version (image_of g.copy) (with_shelf (readers_after g (shelf_after g w.node.home.shelf)) (work_of_home w)) y
            (waiting_pinned w.node.home g.tx g.page f.0.home.home (waits_here (pending_of w.node.home.txs g.tx) (lock_granted g false) waits)).0 waits goes in
            record {
              given = here.given;
              commit = here.commit;
              here = here.here;
              others = λ u q x same stands. here.others u q x same (record { holds = stands.holds; waits = stands.waits; version = stands.version });
              last = here.last;
            }

    arrived_told : (x : Arrived) → on_grant g false (work_of_home w) ≡ Goes x → Ended (after_grant w x)
    arrived_told x goes = by (waits_as (pending_of w.node.home.txs g.tx) g.page g.mode) refl
      where
        has : HasArrived g false (work_of_home w) x
        has = arrival_is_seen_law g false (work_of_home w) x goes

        by : (y : Bool) → waits_as (pending_of w.node.home.txs g.tx) g.page g.mode ≡ y → Ended (after_grant w x)
        by true e = let is = has.awaited e in awaited_told x is.0 e is.1 is.2
        by false e = unawaited_told x (has.unawaited e)

    pub take_grant_told : (o : Option LockTable) → On Ended (take_grant o g w)
    take_grant_told None =
        on_so (λ (x : Arrived). Ended (after_grant w x)) Ended (on_grant g false (work_of_home w)) (after_grant w)
        (on_is (λ (x : Arrived). Ended (after_grant w x)) (on_grant g false (work_of_home w)) arrived_told) (λ x is. is)
    take_grant_told (Some t) = bare_ended w f

  -- a revocation
  pub take_revoke_told : (from p : ℕ) (w : Work) → Bare w → Ended (take_revoke from w (on_revoke p w.node.home))
  unfolding on_revoke
  take_revoke_told from p w f = by (right_on w.node.home.shelf p)
    where
      sent : (o : Option ReturnRight) (x : Work) → Ended x → Ended (send_answer from o x)
      sent None x i = i
      sent (Some r) x i = i

      moved : (h : HomeState) → h.txs.last ≡ w.node.home.txs.last → Ended (with_home w h)
      moved h same = tells_moved front last (λ q v. ⊥) (λ q v. ⊤) w.node.home h w.replies same (λ t p v s d. absurd d) f.1

      by : (o : Option Right) → Ended (take_revoke from w (answer_with p o w.node.home))
      by None = sent None (with_home w w.node.home) (moved w.node.home refl)
      by (Some r) =
          sent (Some (record { page = p; readers = r.readers })) (with_home w (spend_right kind.Registered p w.node.home))
          (moved (spend_right kind.Registered p w.node.home) (spending_is_seen_law kind.Registered p w.node.home f.0.home.home).life.last)

  -- a report
  pub report_told : 1 ≤ b.config.nodes → (d : Disk) (from : ℕ) (r : Report) (w : Work) → r.partition < b.config.nodes → Bare w → On Ended (on_report d from r w)
  unfolding on_report
  report_told some d from r w low f = by (table_at w.node r.partition)
    where
      none : (p : ℕ) → ⊥ → partition b.config p ≢ r.partition
      none p n = absurd n

      taken : (x : Bool) (t : LockTable) → On Ended (take_report x d from r t w)
      taken true t = bare_ended w f
      taken false t =
          on_more (Fine front last b (λ p v. Here front last b some r.partition low (λ p. ⊥) none p)) Ended
          (complete d r.partition (with_node w (put_table w.node r.partition (Some (gather t from r)))))
          (λ x i. (fine_weaker front last b (λ p v. Here front last b some r.partition low (λ p. ⊥) none p) (λ q v. ⊤) (λ p v d. tt) x i).1)
          (complete_fine front last b some r.partition low (λ p. ⊥) none d (with_node w (put_table w.node r.partition (Some (gather t from r)))) f)

      by : (o : Option LockTable) → On Ended (on_report_in d from r o w)
      by None = bare_ended w f
      by (Some t) = taken t.serving t
