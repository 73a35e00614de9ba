-- An install starts from the locks of its node, or a node begins its life, and then had none.
use Rattle.std.proofs.Common.{◌≡◌, refl, sym, subst, ℕ, ◌==◌, Bool, true, false, List, [], ◌∷◌, ◌++◌, length, Option, Some, None, arith}
use Rattle.std.specs.Prelude.{IfSome}
use Rattle.std.proofs.lemmas.Bool.Decides.{nat_tests}
use Rattle.pcl_base.specs.declared.event.Event.{Event}
use Rattle.pcl_base.specs.declared.reply.Reply.{Reply}
use Rattle.pcl_base.specs.declared.reply.Reply.TheVariants as reply
use Rattle.pcl_base.specs.declared.reply.Reason.TheVariants as reason
use Rattle.run_rules.specs.Views.{View, is_live, born_of}
use Rattle.cluster_laws.proofs.AskParts.Acting.{asks_now}
use Rattle.home_laws.proofs.Tests.{not_false}
use Rattle.node_rules.specs.InstallRule.{trim_if, born_at, begin_life, in_view}
use Rattle.node_rules.specs.NodeState.{NodeState, Install, number_of}
use Rattle.node_rules.specs.NodeStep.{Plan, begin_work, nodestep}
use Rattle.node_rules.specs.OpenTxs.{OpenTx}
use Rattle.node_rules.specs.Refusals.{may_install, refusal}
use Rattle.node_rules.specs.Work.{Work, Goes, with_node, reply}
use Rattle.node_laws.specs.Laws.{IsStep}
use Rattle.node_laws.specs.Nodes.{IsSound, IsViewOf}
use Rattle.node_laws.proofs.Events.{not_refused}
use Rattle.node_laws.proofs.Views.{moved_of}
use Rattle.cluster_rules.specs.Clusters.{Cluster}
use Rattle.cluster_laws.specs.Handed.{IsHanded}
use Rattle.cluster_laws.specs.Sound.{IsCluster}
use Rattle.cluster_laws.proofs.Steps.{plans_are_good_law}
use Rattle.cluster_laws.proofs.EraParts.Lives.{live_known}
use Rattle.cluster_laws.proofs.EraParts.Nexts.{follows_born}
use Rattle.related_runs.specs.Parts.{HaveAsked}
use Rattle.related_runs.specs.Between.Between.{NodeWrites, HaveWrites}
use Rattle.related_runs.proofs.BetweenParts.Acting.{Right}
use Rattle.related_runs.proofs.BetweenParts.Marks.{AreFine, txs_more}
use Rattle.related_runs.proofs.BetweenParts.Starting.{held_before}
use Rattle.related_runs.proofs.BetweenParts.Stepping.{entry, fine, ended}

-- a node that is born with a view had no transaction
born_idle : (n : NodeState) (v : View) → IsSound n → is_live v.live (number_of n) ≡ true → may_install n n.view v ≡ true → (born_of v (number_of n) == v.epoch) ≡ true → length n.home.txs.txs ≡ 0
born_idle n v sound live may first = by n.view refl sound.view may
  where
    by : (o : Option View) → n.view ≡ o → IfSome o (IsViewOf n) → may_install n o v ≡ true → length n.home.txs.txs ≡ 0
    by None e is m = sound.idle e
    by (Some u) e is m =
        let low = live_known n.home.config u (number_of n) is.whole is.live in
        let same = follows_born n.home.config u v (number_of n) is.whole m low is.live in
        let moved = moved_of n.home.config u v is.whole m in
        let next = moved.epoch in
        let upto = is.whole.born_upto (number_of n) low in
        absurd (grind (arith, nat_tests, first, same, next, upto))

nobody : (number born : ℕ) (f : ℕ → Option (ℕ × List ℕ)) (Old : ℕ → ℕ → Type 0) (rs : List Reply) (xs : List OpenTx) → length xs ≡ 0 → AreFine number born f Old rs xs
nobody number born f Old rs [] e = tt
nobody number born f Old rs (x ∷ xs) e = absurd (omega (arith, e))

module _ (c : Cluster) (e : Event) (n : ℕ) (s : NodeState) (v : View) (p : Plan) (i : IsCluster c) (h : HaveAsked c) (all : HaveWrites c) (handed : IsHanded c e n s (Install v))
    (goes : nodestep s (Install v) c.disk ≡ Goes p) (none : refusal s (Install v) ≡ None) where
  -- the work in the view, and with its life begun
  abbrev answered : Work
  answered = reply (reply.Installed v.epoch) (with_node (begin_work s c.disk) (in_view v s))

  abbrev started : Work
  started = with_node answered (born_at v.epoch answered.node)

  is_step : IsStep s (Install v) c.disk p
  is_step = (plans_are_good_law c e n s (Install v) p i handed goes).step

  may : may_install s s.view v ≡ true
  unfolding refusal
  may = not_false (may_install s s.view v) (not_refused _ reason.NoView None none).0

  idle : (born_of v (number_of s) == v.epoch) ≡ true → length s.home.txs.txs ≡ 0
  idle first = born_idle s v is_step.sound is_step.can.1 may first

  -- what the partitions start from
  abbrev StartsAt : ℕ → Bool → Type 0
  StartsAt born x =
      Right s.home.txs.node born (λ k. asks_now c e (record { node = s.home.txs.node; born = born; serial = k }))
      (held_before s (λ k. record { node = s.home.txs.node; born = born; serial = k })) (begin_life x c.disk v answered)

  trimmed : (y : Bool) (keep : ℕ) → length s.home.txs.txs ≡ 0
      → Right s.home.txs.node v.epoch (λ k. asks_now c e (record { node = s.home.txs.node; born = v.epoch; serial = k }))
      (held_before s (λ k. record { node = s.home.txs.node; born = v.epoch; serial = k })) (trim_if y keep started)
  trimmed true keep none = ((refl, refl), nobody s.home.txs.node v.epoch (λ k. asks_now c e (record { node = s.home.txs.node; born = v.epoch; serial = k })) (held_before s (λ k. record { node = s.home.txs.node; born = v.epoch; serial = k })) (reply.Installed v.epoch ∷ []) s.home.txs.txs none)
  trimmed false keep none = ((refl, refl), nobody s.home.txs.node v.epoch (λ k. asks_now c e (record { node = s.home.txs.node; born = v.epoch; serial = k })) (held_before s (λ k. record { node = s.home.txs.node; born = v.epoch; serial = k })) (reply.Installed v.epoch ∷ []) s.home.txs.txs none)

  begun : (x : Bool) → (born_of v (number_of s) == v.epoch) ≡ x → NodeWrites (c.trace ++ entry c e n s (Install v) p i h all handed goes ∷ []) p.node
  begun false first =
      ended c e n s (Install v) p i h all handed goes none s.home.txs.node s.home.txs.born
      (subst (StartsAt s.home.txs.born) (sym first)
      (txs_more s.home.txs.node s.home.txs.born (λ k. asks_now c e (record { node = s.home.txs.node; born = s.home.txs.born; serial = k }))
      (held_before s (λ k. record { node = s.home.txs.node; born = s.home.txs.born; serial = k })) [] (reply.Installed v.epoch ∷ []) s.home.txs
      (fine c e n s (Install v) p i h all handed goes none)))
  begun true first =
      ended c e n s (Install v) p i h all handed goes none s.home.txs.node v.epoch
      (subst (StartsAt v.epoch) (sym first) (trimmed _ _ (idle first)))

  pub installed : NodeWrites (c.trace ++ entry c e n s (Install v) p i h all handed goes ∷ []) p.node
  installed = begun (born_of v (number_of s) == v.epoch) refl
