-- The views that nodes have seen, after a step of a node.
use Rattle.std.proofs.Common.{◌≡◌, ◌⊎◌, inl, inr, refl, ap, sym, subst, ◌∙◌, ℕ, ◌+◌, ◌<◌, ◌==◌, ◌&&◌, ◌||◌, not, nat_lt, Bool, true, false, List, [], ◌∷◌, length, slice_index_or, slice_set, Option, Some, None, eqb-true, arith}
use Rattle.std.specs.Prelude.{IfSome}
use Rattle.std.specs.List.{list_any, list_all, fold}
use Rattle.std.proofs.lemmas.Bool.Decides.{nat_tests}
use Rattle.pcl_base.specs.Limits.{Sizes}
use Rattle.pcl_base.specs.declared.event.Event.{Event}
use Rattle.pcl_base.specs.declared.reply.Reason.{Reason}
use Rattle.pcl_base.specs.declared.reply.Reply.TheVariants as reply
use Rattle.run_rules.specs.Account.{heard, after_entry}
use Rattle.run_rules.specs.Causes.{is_install}
use Rattle.run_rules.specs.Ledger as ledger
use Rattle.run_rules.specs.Ledger.{Ledger, view_at, installed_at, actor}
use Rattle.run_rules.specs.Taking.{taken_of, without_head, made_view, own_write, hear, install_epoch}
use Rattle.run_rules.specs.Views.{View, first, owner_of, since_of, born_of, count_from}
use Rattle.node_rules.specs.NodeState.{NodeState, NodeEvent, number_of, start_node}
use Rattle.node_rules.specs.NodeState as node
use Rattle.node_rules.specs.NodeStep.{Plan, nodestep}
use Rattle.node_rules.specs.Refusals.{refusal, may_install, owns_new}
use Rattle.node_rules.specs.Work.{Goes}
use Rattle.node_laws.specs.Nodes.{IsSound, IsViewOf}
use Rattle.node_laws.proofs.Lists.{set_look, set_same, set_length, all_each, all_weaker}
use Rattle.home_laws.proofs.Tests.{and_right, number_same}
use Rattle.cluster_rules.specs.Clusters.{Cluster, node_at}
use Rattle.cluster_rules.specs.ClusterStep.{made}
use Rattle.cluster_laws.specs.Epochs.{StaysInView, HasInstalled}
use Rattle.cluster_laws.specs.Handed.{IsHanded}
use Rattle.cluster_laws.specs.Sound.{IsCluster}
use Rattle.cluster_laws.proofs.Epochs.{steps_keep_views_law}
use Rattle.cluster_laws.proofs.Moving.{no_view_is_refused_law}
use Rattle.cluster_laws.proofs.Steps.{up_is_member_law}
use Rattle.account_relation.specs.Replies.{is_behind, AreAnswers, answered, granted, AreReplies}
use Rattle.account_relation.specs.Seen.{IsSeenAt, IsSeenIn, AreSeen}
use Rattle.account_relation.specs.World.{IsWorld}
use Rattle.account_relation.proofs.FirstReplies.{steps_answer_law, installs_view}
use Rattle.account_relation.proofs.Entered.{acts, local, head_same}
use Rattle.account_relation.proofs.Heard.{before_same}
use Rattle.account_relation.proofs.Sights.{SameSeen, seen_then, tells, all_heard_seen, before_seen, behind_seen, heard_seen}
use Rattle.account_relation.proofs.SeenSteps.{other_place, in_moved, at_moved, all_moved, tells_none, tells_behind, Installs, installs, no_install, by_install, installed_first}
use Rattle.account_relation.proofs.Whole.{Made, made_all}
use Rattle.account_relation.proofs.Following.{found, IsOwnedSince, since_now, since_before, followed, listed, may_install_view}

-- ---- a step of a node that installs nothing

module _ (c : Cluster) (l : Ledger) (i : IsCluster c) (world : IsWorld c l) (are : AreSeen c l) where
  abbrev pub Nodes : ℕ
  Nodes = c.config.nodes

  -- the nodes after a step in which one is at some state, and what it has seen is known
  pub one_node : (m : Ledger) (n k : ℕ) (o : Option NodeState) → SameSeen l m → IsSeenIn Nodes m n o → IsSeenIn Nodes m k (slice_index_or (slice_set c.nodes n o) k None)
  one_node m n k o same new =
      set_look (IsSeenIn Nodes m k) None c.nodes n k o (λ at. subst (λ (x : ℕ). IsSeenIn Nodes m x o) (sym at) new) (in_moved Nodes l m k (node_at c k) same (are.nodes k))

  module _ (e : Event) (n : ℕ) (s : NodeState) (ev : NodeEvent) (p : Plan) (h : IsHanded c e n s ev) (goes : nodestep s ev c.disk ≡ Goes p) where
    -- what the node had seen
    own : IsSeenIn Nodes l n (Some s)
    own = subst (IsSeenIn Nodes l n) h.up (are.nodes n)

    stays : is_install e ≡ false → StaysInView s p.node ⊎ HasInstalled s ev p.node → p.node.view ≡ s.view
    stays none (inl x) = x.view
    stays none (inr x) = absurd (no_install c e s x.next none (h.event ∙ ap Some x.asked))

    plain_heard : is_install e ≡ false → SameSeen l (heard (Made c e n s ev p h goes) l)
    plain_heard none = heard_seen (Made c e n s ev p h goes) l (all_each (λ r. tells e r ≡ false) (tells_none e none) p.replies)

    plain : is_install e ≡ false → (m : Ledger) → after_entry (Made c e n s ev p h goes) l ≡ Some m → AreSeen (made e n p c) m
    plain none m after =
        let all = made_all c e n s ev p h goes l m world after in
        let same : SameSeen l m = seen_then l (heard (Made c e n s ev p h goes) l) m (plain_heard none) (record { config = all.config; seen = all.seen; installed = all.installed }) in
        let view : p.node.view ≡ s.view = stays none (steps_keep_views_law s ev c.disk p goes) in
        all_moved c (made e n p c) l m refl same are
        (λ k. one_node m n k (Some p.node) same (subst (λ (o : Option View). IfSome o (IsSeenAt Nodes m n)) (sym view) (in_moved Nodes l m n (Some s) same own)))

    -- a step that installs a view
    module _ (x : Installs c s ev) (is : is_install e ≡ true) where
      up : n < Nodes
      up = (up_is_member_law c n s i h.up).0

      sound : IsSound s
      sound = (up_is_member_law c n s i h.up).1.sound

      free : refusal s (node.Install x.view) ≡ None
      free = no_view_is_refused_law c n s x.view i h.up x.there

      -- the ledger before the replies
      abbrev start : Ledger
      start = own_write (Made c e n s ev p h goes) e (made_view (Made c e n s ev p h goes) e (without_head (Made c e n s ev p h goes) e l))

      views : start.views ≡ c.views
      views = (before_same (Made c e n s ev p h goes) l (local c e s ev h.event).0).views ∙ (head_same (Made c e n s ev p h goes) e l).2 ∙ world.views

      before : SameSeen l start
      before = before_seen (Made c e n s ev p h goes) l

      first_told : hear e (actor e) start (reply.Installed x.view.epoch) ≡ ledger.install n x.view start
      unfolding hear
      first_told =
          by_install e (actor e) x.view.epoch start is
          ∙ ap (λ (o : Option ℕ). install_epoch o x.view.epoch start) (acts e n h.acts)
          ∙ ap (λ (v : View). ledger.install n v start)
          (ap (λ (vs : List View). ledger.view_of_epoch (first start.config) vs x.view.epoch) views ∙ (found (first start.config) c.views (s.epoch + 1) x.view x.there).0)

      told : AreAnswers (node.Install x.view) p.replies → SameSeen (ledger.install n x.view start) (heard (Made c e n s ev p h goes) l)
      unfolding heard
      told (answered r rest joined mine behind) =
          let k : Ledger = ledger.install n x.view start in
          let f : Ledger = fold (hear e (actor e)) start p.replies in
          let same : f ≡ fold (hear e (actor e)) k rest =
          ap (λ rs. fold (hear e (actor e)) start rs) joined ∙ ap (λ y. fold (hear e (actor e)) (hear e (actor e) start y) rest) (installed_first x.view.epoch r mine)
          ∙ ap (λ (y : Ledger). fold (hear e (actor e)) y rest) first_told in
          seen_then k f _
          (subst (SameSeen k) (sym same) (all_heard_seen e (actor e) rest k (all_weaker (λ y. is_behind y ≡ true) (λ y. tells e y ≡ false) (tells_behind e) rest behind)))
          (behind_seen (Made c e n s ev p h goes) (taken_of e p.replies l) f)
      told (granted asks behind) = absurd (cc)

      -- the ledger after them
      told_heard : SameSeen (ledger.install n x.view start) (heard (Made c e n s ev p h goes) l)
      told_heard =
          told
          (subst (λ (o : Option Reason). AreReplies o (node.Install x.view) p.replies) free
          (subst (λ (y : NodeEvent). AreReplies (refusal s y) y p.replies) x.event (steps_answer_law s ev c.disk p goes)))

      in_new : p.node.view ≡ Some x.view
      in_new = installs_view s x.view c.disk p free (subst (λ (y : NodeEvent). nodestep s y c.disk ≡ Goes p) x.event goes)

      new_heard : view_at (heard (Made c e n s ev p h goes) l) n ≡ x.view
      unfolding ledger.install
      new_heard =
          ap (λ vs. slice_index_or vs n (first (heard (Made c e n s ev p h goes) l).config)) told_heard.seen
          ∙ set_same (first (heard (Made c e n s ev p h goes) l).config) start.seen n x.view (subst (λ k. n < k) (sym (ap length before.seen ∙ are.views)) up)

      -- since when the node owns a partition
      older : (o : Option View) → s.view ≡ o → may_install s o x.view ≡ true → IfSome o (IsViewOf s) → IfSome o (IsSeenAt Nodes l n) → (q : ℕ) → q < Nodes → owner_of x.view q ≡ n
          → (since_of x.view q ≡ x.view.epoch) ⊎ (list_any (λ k. k == since_of x.view q) (installed_at l n) ≡ true)
      older None at may whole seen q low owns =
          inl (begins (owner_of x.view q == number_of s) (since_of x.view q == x.view.epoch) refl refl
          (subst (λ (k : ℕ). owns_new x.view (number_of s) k ≡ true) at_place (listed (owns_new x.view (number_of s)) 0 s.home.config.nodes q new_all (subst (λ (y : Sizes). q < y.nodes) (sym sizes) low))))
        where
          sizes : s.home.config ≡ c.config
          sizes = (up_is_member_law c n s i h.up).1.config

          new_all : list_all (owns_new x.view (number_of s)) (count_from 0 s.home.config.nodes) ≡ true
          new_all = and_right (born_of x.view (number_of s) == x.view.epoch && nat_lt s.epoch x.view.epoch) (list_all (owns_new x.view (number_of s)) (count_from 0 s.home.config.nodes)) may

          at_place : 0 + q ≡ q
          at_place = omega arith

          begins : (a b : Bool) → (owner_of x.view q == number_of s) ≡ a → (since_of x.view q == x.view.epoch) ≡ b → not (owner_of x.view q == number_of s) || since_of x.view q == x.view.epoch ≡ true
              → since_of x.view q ≡ x.view.epoch
          begins a true mine new test = eqb-true (since_of x.view q) x.view.epoch new
          begins false false mine new test =
              let number = (up_is_member_law c n s i h.up).1.number in
              let here : owner_of x.view q ≡ number_of s = owns ∙ sym number in
              absurd (grind (arith, nat_tests, mine, here))
          begins true false mine new test = absurd (cc)
      older (Some w) at may whole seen q low owns = by (followed s.home.config w x.view q whole.whole (subst (λ (y : Sizes). q < y.nodes) (sym sizes) low) may)
        where
          sizes : s.home.config ≡ c.config
          sizes = (up_is_member_law c n s i h.up).1.config

          by : IsOwnedSince w x.view q → (since_of x.view q ≡ x.view.epoch) ⊎ (list_any (λ k. k == since_of x.view q) (installed_at l n) ≡ true)
          by (since_now new) = inl new
          by (since_before owner since) = inr (ap (λ z. list_any (λ k. k == z) (installed_at l n)) since ∙ seen.since q low (owner ∙ owns))

      module _ (m : Ledger) (after : after_entry (Made c e n s ev p h goes) l ≡ Some m) where
        all_told : SameSeen (ledger.install n x.view start) m
        all_told =
            let all = made_all c e n s ev p h goes l m world after in
            seen_then (ledger.install n x.view start) (heard (Made c e n s ev p h goes) l) m told_heard (record { config = all.config; seen = all.seen; installed = all.installed })

        installed_there : slice_index_or m.installed n [] ≡ x.view.epoch ∷ installed_at l n
        unfolding ledger.install
        installed_there =
            ap (λ es. slice_index_or es n []) all_told.installed
            ∙ set_same [] start.installed n (x.view.epoch ∷ installed_at start n) (subst (λ k. n < k) (sym (ap length before.installed ∙ are.epochs)) up)
            ∙ ap (λ es. x.view.epoch ∷ slice_index_or es n []) before.installed

        new_seen : IsSeenAt Nodes m n x.view
        unfolding ledger.install
        new_seen =
            record {
              seen =
                  ap (λ vs. slice_index_or vs n (first m.config)) all_told.seen
                  ∙ set_same (first m.config) start.seen n x.view (subst (λ k. n < k) (sym (ap length before.seen ∙ are.views)) up);
              since = λ q low mine. ap (list_any (λ k. k == since_of x.view q)) installed_there ∙ by q (older s.view refl (may_install_view s x.view free) sound.view own q low mine);
            }
          where
            either : (a b : Bool) → b ≡ true → a || b ≡ true
            either true b e = refl
            either false b e = e

            by : (q : ℕ) → (since_of x.view q ≡ x.view.epoch) ⊎ (list_any (λ k. k == since_of x.view q) (installed_at l n) ≡ true)
                → (x.view.epoch == since_of x.view q) || list_any (λ k. k == since_of x.view q) (installed_at l n) ≡ true
            by q (inl e) = ap (λ z. (x.view.epoch == z) || list_any (λ k. k == since_of x.view q) (installed_at l n)) e ∙ ap (λ b. b || list_any (λ k. k == since_of x.view q) (installed_at l n)) (number_same x.view.epoch)
            by q (inr e) = either (x.view.epoch == since_of x.view q) (list_any (λ k. k == since_of x.view q) (installed_at l n)) e

        -- other nodes
        other_seen : (k : ℕ) (v : View) → (k == n) ≡ false → IsSeenAt Nodes l k v → IsSeenAt Nodes m k v
        unfolding ledger.install
        other_seen k v other seen =
            record {
              seen =
                  ap (λ vs. slice_index_or vs k (first m.config)) all_told.seen ∙ other_place (first m.config) start.seen n k x.view other
                  ∙ ap (λ (y : Sizes). slice_index_or start.seen k (first y)) (all_told.config ∙ before.config) ∙ ap (λ vs. slice_index_or vs k (first l.config)) before.seen ∙ seen.seen;
              since = λ q low mine.
                  ap (λ es. list_any (λ z. z == since_of v q) (slice_index_or es k [])) all_told.installed
                  ∙ ap (list_any (λ z. z == since_of v q)) (other_place [] start.installed n k (x.view.epoch ∷ installed_at start n) other)
                  ∙ ap (λ es. list_any (λ z. z == since_of v q) (slice_index_or es k [])) before.installed ∙ seen.since q low mine;
            }

        other_in : (k : ℕ) (o : Option NodeState) → (k == n) ≡ false → IsSeenIn Nodes l k o → IsSeenIn Nodes m k o
        other_in k None other seen = tt
        other_in k (Some t) other seen = by t.view seen
          where
            by : (o : Option View) → IfSome o (IsSeenAt Nodes l k) → IfSome o (IsSeenAt Nodes m k)
            by None seen = tt
            by (Some v) seen = other_seen k v other seen

        installed : AreSeen (made e n p c) m
        unfolding ledger.install
        installed =
            record {
              views = ap length all_told.seen ∙ set_length start.seen n x.view ∙ ap length before.seen ∙ are.views;
              epochs = ap length all_told.installed ∙ set_length start.installed n (x.view.epoch ∷ installed_at start n) ∙ ap length before.installed ∙ are.epochs;
              nodes = λ k. by k (k == n) refl;
            }
          where
            by : (k : ℕ) (b : Bool) → (k == n) ≡ b → IsSeenIn Nodes m k (slice_index_or (slice_set c.nodes n (Some p.node)) k None)
            by k true at =
                subst (λ (y : ℕ). IsSeenIn Nodes m y (slice_index_or (slice_set c.nodes n (Some p.node)) y None)) (sym (eqb-true k n at))
                (subst (IsSeenIn Nodes m n) (sym (set_same None c.nodes n (Some p.node) (subst (λ y. n < y) (sym i.nodes) up)))
                (subst (λ (o : Option View). IfSome o (IsSeenAt Nodes m n)) (sym in_new) new_seen))
            by k false at = subst (IsSeenIn Nodes m k) (sym (other_place None c.nodes n k (Some p.node) at)) (other_in k (node_at c k) at (are.nodes k))

    pub acted : (m : Ledger) → after_entry (Made c e n s ev p h goes) l ≡ Some m → AreSeen (made e n p c) m
    acted m after = by (is_install e) refl
      where
        by : (b : Bool) → is_install e ≡ b → AreSeen (made e n p c) m
        by true is = installed (installs c e s ev is h.event) is m after
        by false none = plain none m after

    -- what the ledger has of the acting node before its sends
    pub heard_view : (v : View) → p.node.view ≡ Some v → view_at (heard (Made c e n s ev p h goes) l) n ≡ v
    heard_view v at = by (is_install e) refl
      where
        by : (b : Bool) → is_install e ≡ b → view_at (heard (Made c e n s ev p h goes) l) n ≡ v
        by true is =
            let x = installs c e s ev is h.event in
            let some : Some x.view ≡ Some v = sym (in_new x is) ∙ at in
            let same : x.view ≡ v = cc in
            new_heard x is ∙ same
        by false none =
            let was : s.view ≡ Some v = sym (stays none (steps_keep_views_law s ev c.disk p goes)) ∙ at in
            (at_moved Nodes l (heard (Made c e n s ev p h goes) l) n v (plain_heard none) (subst (λ (o : Option View). IfSome o (IsSeenAt Nodes l n)) was own)).seen
