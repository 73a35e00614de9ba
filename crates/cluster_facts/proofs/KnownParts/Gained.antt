-- The births that are known of the locks, rights and answers of a node that acts.
use Rattle.std.proofs.Common.{◌≡◌, ◌⊎◌, inl, inr, refl, sym, ap, subst, ◌∙◌, ℕ, ◌<◌, ◌≤◌, ◌==◌, true, List, [], ◌∷◌, Option, Some, None, is_some, arith}
use Rattle.std.specs.Prelude.{IfSome, ◌≢◌}
use Rattle.std.specs.List.{AllByRecursion}
use Rattle.std.proofs.lemmas.Nat.{mod_below}
use Rattle.pcl_base.specs.Limits.{Sizes}
use Rattle.pcl_base.specs.declared.event.Event.{Event}
use Rattle.pcl_base.specs.declared.lock.Verdict.TheVariants as verdict
use Rattle.pcl_base.specs.declared.message.Body.{Body}
use Rattle.pcl_base.specs.declared.message.Body.TheVariants as body
use Rattle.pcl_base.specs.declared.tx.TxId.{TxId}
use Rattle.text_rules.specs.MessageBytes.{IsBody}
use Rattle.run_rules.specs.Views.{View}
use Rattle.home_laws.proofs.Locks.{held_open}
use Rattle.home_laws.proofs.Opens.{open_is_own}
use Rattle.home_laws.proofs.Tests.{and_right, number_equal}
use Rattle.node_rules.specs.InstallRule.{owned_before}
use Rattle.node_rules.specs.Judging.{judge}
use Rattle.node_rules.specs.LockTable.{LockTable}
use Rattle.node_rules.specs.NodeState.{NodeState, NodeEvent, Outgoing, table_at, table_of, partition, number_of, is_serving}
use Rattle.node_rules.specs.NodeStep.{Plan, partition_of, judge_in}
use Rattle.node_rules.specs.OpenTxs.{held_by}
use Rattle.node_rules.specs.Shelf.{right_on}
use Rattle.node_laws.specs.Nodes.{IsViewOf}
use Rattle.node_laws.proofs.Steps.{sends_have_epoch_law}
use Rattle.cluster_rules.specs.Clusters.{Cluster, node_at, last_view}
use Rattle.cluster_rules.specs.ClusterStep.{step}
use Rattle.cluster_rules.specs.Links.{head_at}
use Rattle.cluster_laws.specs.Epochs.{StaysInView, HasInstalled}
use Rattle.cluster_laws.specs.Handed.{IsHanded}
use Rattle.cluster_laws.specs.Laws.{IsGoodPlan}
use Rattle.cluster_laws.specs.Sound.{IsMember, IsCluster, IsOnLink}
use Rattle.cluster_laws.proofs.Epochs.{steps_keep_views_law}
use Rattle.cluster_laws.proofs.Steps.{step_keeps_clusters_law, plans_are_good_law}
use Rattle.cluster_laws.specs.Era.EraLaws.{Lives}
use Rattle.cluster_laws.specs.Era.Eras.{born_at, life_in, life_of}
use Rattle.cluster_laws.proofs.EraParts.Ages.{steps_keep_eras_law}
use Rattle.cluster_laws.proofs.EraParts.Lives.{members_know_eras_law, up_nodes_live_law}
use Rattle.cluster_laws.specs.Link.Coming.{sent_to}
use Rattle.cluster_laws.specs.Link.EpochLaws.{IsInOrder}
use Rattle.cluster_laws.specs.Link.StepLaws.{IsPlanned}
use Rattle.cluster_laws.proofs.LinkParts.Linked.{sent_have}
use Rattle.cluster_laws.proofs.LinkParts.Stepped.{sizes_stay_law}
use Rattle.page_laws.specs.Moment.Looks.{accesses_in}
use Rattle.page_relation.specs.Together.{HasPages}
use Rattle.related_runs.specs.Parties.{HaveParties}
use Rattle.cluster_facts.proofs.WaitingParts.Coming.{delivered}
use Rattle.related_runs.specs.Locks.Used.{NodeUses, HaveUsedLocks}
use Rattle.cluster_facts.specs.Known.Births.{KnownBirth, AnswerKnown, HaveKnownBirths}
use Rattle.cluster_facts.specs.Known.Gains.{HasGrant, HasRight, IsAnswer, HasGained}
use Rattle.cluster_facts.proofs.KnownParts.Held.{there_some}
use Rattle.cluster_facts.proofs.KnownParts.Known.{member_of, served_are_known_law, granted_are_known_law}
use Rattle.cluster_facts.proofs.KnownParts.Staying.{not_below, known_stays_law}
use Rattle.cluster_facts.proofs.KnownParts.Gaining.{steps_gain_law}

-- two tests of each item
pub all_both : {X : Type 0} (P Q : X → Type 0) (xs : List X) → AllByRecursion P xs → AllByRecursion Q xs → AllByRecursion (λ x. P x × Q x) xs
all_both P Q [] a b = tt
all_both P Q (x ∷ xs) a b = ((a.0, b.0), all_both P Q xs a.1 b.1)

module _ (c : Cluster) (e : Event) (i : IsCluster c) where
  pub low_of : (p : ℕ) → partition c.config p < c.config.nodes
  low_of p = mod_below p c.config.nodes i.limits.some_nodes

  -- what was known, in the sizes of the cluster after the step
  pub stays : (p birth : ℕ) → KnownBirth c (partition c.config p) birth → KnownBirth (step c e) (partition (step c e).config p) birth
  stays p birth k =
      subst (λ (s : Sizes). KnownBirth (step c e) (partition s p) birth) (sym (sizes_stay_law c e)) (known_stays_law c e (partition c.config p) birth i (low_of p) k)

  module _ (n : ℕ) (s : NodeState) (ev : NodeEvent) (p : Plan) (planned : IsPlanned c e n s ev p) where
    member : IsMember c.config c.views n s
    member = member_of c i 0 n s planned.handed.up

    good : IsGoodPlan c n s ev p
    good = plans_are_good_law c e n s ev p i planned.handed planned.goes

    gained : HasGained s ev p
    gained = steps_gain_law s ev c.disk p good.step

    -- a node in a view stays in one, and in its life
    view_then : is_some s.view ≡ true → is_some p.node.view ≡ true
    view_then there = by (steps_keep_views_law s ev c.disk p planned.goes)
      where
        by : StaysInView s p.node ⊎ HasInstalled s ev p.node → is_some p.node.view ≡ true
        by (inl x) = ap (λ (o : Option View). is_some o) x.view ∙ there
        by (inr x) = ap (λ (o : Option View). is_some o) x.view

    born_now : is_some p.node.view ≡ true → born_at c n p.node.epoch ≡ p.node.home.txs.born
    born_now there = by p.node.view refl there
      where
        by : (o : Option View) → p.node.view ≡ o → is_some o ≡ true → born_at c n p.node.epoch ≡ p.node.home.txs.born
        by None at is = absurd (cc)
        by (Some v) at is = (members_know_eras_law c n p.node v good.member at).own.born

    -- its birth isn't above its epoch
    birth_low : (x : NodeState) → IsMember c.config c.views n x → is_some x.view ≡ true → x.home.txs.born ≤ x.epoch
    birth_low x is there = by x.view refl there
      where
        by : (o : Option View) → x.view ≡ o → is_some o ≡ true → x.home.txs.born ≤ x.epoch
        by None at some = absurd (cc)
        by (Some v) at some =
            let of : IsViewOf x v = subst (λ (o : Option View). IfSome o (IsViewOf x)) at is.sound.view in
            let upto = of.whole.born_upto (number_of x) is.sound.home.txs.node in
            let born = of.born in
            let epoch = of.epoch in
            omega (arith, upto, born, epoch)

    born_then : is_some s.view ≡ true → born_at c n p.node.epoch ≡ s.home.txs.born
    born_then there = by s.view refl there
      where
        by : (o : Option View) → s.view ≡ o → is_some o ≡ true → born_at c n p.node.epoch ≡ s.home.txs.born
        by None at is = absurd (cc)
        by (Some v) at is =
            let life : life_of s ≡ s.home.txs.born = ap (life_in s) at in
            let low = birth_low s member there in
            let on = not_below c e i 0 i.limits.some_nodes n s ev p planned in
            let lives : Lives c n (life_of s) p.node.epoch = up_nodes_live_law c n s p.node.epoch i planned.handed.up (omega (arith, life, low, on)) good.member.reached in
            lives.born ∙ life

    same_birth : is_some s.view ≡ true → p.node.home.txs.born ≡ s.home.txs.born
    same_birth there = sym (born_now (view_then there)) ∙ born_then there

    module _ (blank : List ℕ) (order : IsInOrder c) (parties : HaveParties c) (pages : HasPages blank c) (known : HaveKnownBirths c) where
      -- a grant that is taken
      grant_known : (page : ℕ) → page < c.config.pages → HasGrant s ev page → (is_some s.view ≡ true) × KnownBirth c (partition c.config page) s.home.txs.born
      grant_known page low g = by s.view refl g.taken
        where
          head : head_at c.links g.from n ≡ Some g.message
          head = delivered c e n s g.from g.message (subst (IsHanded c e n s) g.comes planned.handed)

          by : (o : Option View) → s.view ≡ o → judge_in o (number_of s) g.from g.message.epoch (partition_of s.home.config g.message.body) ≡ verdict.Taken
              → (is_some s.view ≡ true) × KnownBirth c (partition c.config page) s.home.txs.born
          by None at taken = absurd (cc)
          by (Some v) at taken = (
            ap (λ (o : Option View). is_some o) at,
            granted_are_known_law c page (pages.page page) n s v g.from g.message g.grant i order parties (pages.related page low) planned.handed.up at head g.says g.same
                (ap (λ (q : ℕ). judge v (number_of s) g.from g.message.epoch q) (sym of) ∙ taken),
          )
            where
              of : partition_of s.home.config g.message.body ≡ partition c.config page
              of = ap (partition_of s.home.config) g.says ∙ ap (λ (k : Sizes). partition k g.grant.page) member.config ∙ ap (partition c.config) g.same

      right_known : (page : ℕ) → page < c.config.pages → HasRight s ev page → (is_some s.view ≡ true) × KnownBirth c (partition c.config page) s.home.txs.born
      right_known page low (inl was) = known.shelves n s page planned.handed.up low was
      right_known page low (inr g) = grant_known page low g

      -- the rights that it has then
      pub shelf_then : (page : ℕ) → page < c.config.pages → right_on p.node.home.shelf page ≢ None
          → (is_some p.node.view ≡ true) × KnownBirth (step c e) (partition (step c e).config page) p.node.home.txs.born
      shelf_then page low there =
          let k = right_known page low (gained.rights page there) in (
            view_then k.0,
            subst (KnownBirth (step c e) (partition (step c e).config page)) (sym (same_birth k.0)) (stays page s.home.txs.born k.1),
          )

      -- the answers that it sends
      answer_then : (o : Outgoing) → IsAnswer s o.message.body × (IsOnLink c.config (last_view c).epoch n o.to o.message × (o.message.epoch ≡ p.node.epoch))
          → AnswerKnown (step c e) n o.message.epoch o.message.body
      answer_then o is = by o.message.body is.0 is.1.0.message.body
        where
          by : (x : Body) → IsAnswer s x → IsBody c.config x → AnswerKnown (step c e) n o.message.epoch x
          by (body.Request r) a fits = tt
          by (body.Grant g) a fits = tt
          by (body.Release r) a fits = tt
          by (body.Revoke k) a fits = tt
          by (body.Return r) a fits =
              let k = known.shelves n s r.page planned.handed.up fits.0 a in
              let same : born_at (step c e) n o.message.epoch ≡ s.home.txs.born =
              ap (born_at (step c e) n) is.1.1 ∙ (steps_keep_eras_law c e p.node.epoch i good.member.reached).births n ∙ born_then k.0 in
              subst (KnownBirth (step c e) (partition (step c e).config r.page)) (sym same) (stays r.page s.home.txs.born k.1)
          by (body.Report r) a fits = tt

      pub answers_then : (b : ℕ) → AllByRecursion (λ m. AnswerKnown (step c e) n m.epoch m.body) (sent_to b p.sends)
      answers_then b =
          sent_have (λ (o : Outgoing). IsAnswer s o.message.body × (IsOnLink c.config (last_view c).epoch n o.to o.message × (o.message.epoch ≡ p.node.epoch)))
          (λ m. AnswerKnown (step c e) n m.epoch m.body) b p.sends (λ o is to. answer_then o is)
          (all_both (λ (o : Outgoing). IsAnswer s o.message.body) (λ (o : Outgoing). IsOnLink c.config (last_view c).epoch n o.to o.message × (o.message.epoch ≡ p.node.epoch)) p.sends gained.answers
          (all_both (λ (o : Outgoing). IsOnLink c.config (last_view c).epoch n o.to o.message) (λ (o : Outgoing). o.message.epoch ≡ p.node.epoch) p.sends good.sends
          (sends_have_epoch_law s ev c.disk p good.step)))

      -- the locks that it has then, of who had accessed nothing
      module _ (uses : HaveUsedLocks c) (next : HasPages blank (step c e)) (now : node_at (step c e) n ≡ Some p.node) where
        tx_born : (t : TxId) (page : ℕ) → held_by p.node.home.txs t page ≢ None → t.born ≡ p.node.home.txs.born
        tx_born t page there =
            number_equal t.born p.node.home.txs.born
            (and_right (t.node == p.node.home.txs.node) (t.born == p.node.home.txs.born)
            (open_is_own p.node.home.txs t (held_open p.node.home.txs t page (there_some (held_by p.node.home.txs t page) there))))

        view_of_table : (page : ℕ) → is_serving (table_of p.node page) ≡ true → is_some p.node.view ≡ true
        view_of_table page serves = by p.node.view owned
          where
            there : (o : Option LockTable) → is_serving o ≡ true → is_some o ≡ true
            there None e = absurd (cc)
            there (Some t) e = refl

            owned : owned_before p.node.view (partition p.node.home.config page) (number_of p.node) ≡ true
            owned =
                sym (good.member.sound.owned (partition p.node.home.config page) (mod_below page p.node.home.config.nodes good.member.sound.limits.some_nodes)) ∙ there (table_of p.node page) serves

            by : (o : Option View) → owned_before o (partition p.node.home.config page) (number_of p.node) ≡ true → is_some o ≡ true
            by None e = absurd (cc)
            by (Some v) e = refl

        served_then : (page : ℕ) → page < c.config.pages → is_serving (table_of p.node page) ≡ true → KnownBirth (step c e) (partition (step c e).config page) p.node.home.txs.born
        served_then page low serves = by (table_of p.node page) refl serves
          where
            same : partition p.node.home.config page ≡ partition (step c e).config page
            same = ap (λ (k : Sizes). partition k page) (good.member.config ∙ sym (sizes_stay_law c e))

            low_then : page < (step c e).config.pages
            low_then = subst (λ (k : Sizes). page < k.pages) (sym (sizes_stay_law c e)) low

            by : (o : Option LockTable) → table_of p.node page ≡ o → is_serving o ≡ true → KnownBirth (step c e) (partition (step c e).config page) p.node.home.txs.born
            by None at is = absurd (cc)
            by (Some t) at is =
                served_are_known_law (step c e) page (next.page page) n p.node t p.node.home.txs.born (step_keeps_clusters_law c e i) (next.related page low_then) now
                (ap (table_at p.node) (sym same) ∙ at) is (birth_low p.node good.member (view_of_table page serves))

        pub lock_then : (t : TxId) (page : ℕ) → page < c.config.pages → accesses_in t page c.trace ≡ [] → held_by p.node.home.txs t page ≢ None
            → KnownBirth (step c e) (partition (step c e).config page) t.born
        lock_then t page low none there = subst (KnownBirth (step c e) (partition (step c e).config page)) (sym (tx_born t page there)) (by (gained.locks t page there))
          where
            used : NodeUses c.trace s
            used = subst (λ (o : Option NodeState). IfSome o (NodeUses c.trace)) planned.handed.up (uses n)

            by : (held_by s.home.txs t page ≢ None) ⊎ HasRight s ev page ⊎ (is_serving (table_of p.node page) ≡ true) → KnownBirth (step c e) (partition (step c e).config page) p.node.home.txs.born
            by (inl was) = absurd (used t page was none)
            by (inr (inl right)) =
                let k = right_known page low right in
                subst (KnownBirth (step c e) (partition (step c e).config page)) (sym (same_birth k.0)) (stays page s.home.txs.born k.1)
            by (inr (inr serves)) = served_then page low serves
