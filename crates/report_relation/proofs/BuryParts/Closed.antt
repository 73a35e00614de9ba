-- Who is past in the acting node's view is closed.
use Rattle.std.proofs.Common.{◌≡◌, refl, ap, sym, subst, ◌∙◌, ℕ, ◌≤◌, ◌==◌, ◌&&◌, nat_lt, Bool, true, false, List, [], ◌∷◌, length, Option, Some, None, is_some, arith, eqb-true}
use Rattle.std.proofs.lemmas.Bool.Decides.{nat_tests}
use Rattle.pcl_base.specs.declared.event.Event.{Event}
use Rattle.pcl_base.specs.declared.lock.Held.{Held}
use Rattle.pcl_base.specs.declared.tx.Mode.{Mode}
use Rattle.pcl_base.specs.declared.tx.TxId.{TxId}
use Rattle.run_rules.specs.Views.{View, born_of, is_live}
use Rattle.node_rules.specs.NodeState.{NodeState}
use Rattle.node_rules.specs.OpenTxs.{OpenTx, held_by, is_open, is_own, pending_of, with_serial}
use Rattle.node_rules.specs.Words.{pick}
use Rattle.node_rules.specs.Work.{Work}
use Rattle.cluster_rules.specs.Clusters.{Cluster, last_view, node_at}
use Rattle.cluster_laws.specs.Sound.{IsMember}
use Rattle.cluster_laws.proofs.Steps.{up_is_member_law}
use Rattle.cluster_laws.specs.Era.Eras.{life_in, life_of}
use Rattle.cluster_laws.proofs.EraParts.Lives.{up_nodes_live_law}
use Rattle.page_protocol.specs.State as machine
use Rattle.page_protocol.specs.State.{Home, IsClosed, IsFresh, Page}
use Rattle.page_relation.specs.Homes.{Stands, StandsIn, is_unborn, wait_on}
use Rattle.related_runs.specs.Parties.{IsLiving}
use Rattle.page_relation.specs.Work.Landing.{land, Acts}
use Rattle.page_relation.proofs.WorkParts.Nodes.{at_node, at_other}
use Rattle.report_relation.specs.Bury.Past.{IsOwner, PastAreClosed, past_in}
use Rattle.report_relation.proofs.BuryParts.Living.{lives_in, living_not_past, past_early}

fresh_closed : (h : Home) → IsFresh h → IsClosed h
fresh_closed machine.Fresh f = tt
fresh_closed (machine.Asking m v) f = absurd f
fresh_closed (machine.Holding m) f = absurd f
fresh_closed machine.HoldingAsks f = absurd f
fresh_closed machine.Reading f = absurd f
fresh_closed machine.ReadingAsks f = absurd f
fresh_closed (machine.Ended v e) f = absurd f
fresh_closed machine.Gone f = absurd f

-- who isn't open
unopened : (h : Home) (o u : Bool) (l : Option Held) (w : Option Mode) → o ≡ false → Stands o u l w h → IsClosed h
unopened h true u l w e s = absurd (cc)
unopened h false true l w e s = fresh_closed h s
unopened h false false l w e s = s

-- who is of another life, and where nobody is open
other_life : (node born : Bool) (x : Option OpenTx) → born ≡ false → is_some (pick (node && born) x None) ≡ false
other_life true true x e = absurd (cc)
other_life true false x e = refl
other_life false born x e = refl

no_one : (own : Bool) (xs : List OpenTx) (serial : ℕ) → length xs ≡ 0 → is_some (pick own (with_serial xs serial) None) ≡ false
unfolding with_serial
no_one true [] serial e = refl
no_one false [] serial e = refl
no_one own (x ∷ xs) serial e = absurd (omega (arith, e))

module _ (c : Cluster) (e : Event) (n p : ℕ) (v : View) (w : Work) (acts : Acts c n) (i : IsOwner c e n p v w) (t : TxId) (past : past_in v t ≡ true) where
  -- at a node that is up none that is past is open
  shut : (s : NodeState) → node_at c t.node ≡ Some s → is_open s.home.txs t ≡ false
  shut s up = by s.view refl
    where
      member : IsMember c.config c.views t.node s
      member = (up_is_member_law c t.node s acts.cluster up).1

      apart : (u : View) → s.view ≡ Some u → (b : Bool) → (t.born == s.home.txs.born) ≡ b → b ≡ false
      apart u viewed true test =
          let same : t.born ≡ s.home.txs.born = grind (arith, nat_tests, test) in
          let life : life_of s ≡ t.born = ap (life_in s) viewed ∙ sym same in
          let early = past_early v t past in
          let lives = lives_in c acts.cluster v i.there t.node (life_of s) (up_nodes_live_law c t.node s v.epoch acts.cluster up (subst (λ (k : ℕ). k ≤ v.epoch) (sym life) early) i.made) in
          let living : IsLiving v t = record { live = lives.0; born = sym (lives.1 ∙ life) } in
          absurd (living_not_past v t living past)
      apart u viewed false test = refl

      by : (o : Option View) → s.view ≡ o → is_open s.home.txs t ≡ false
      by None none = no_one (is_own s.home.txs t) s.home.txs.txs t.serial (member.sound.idle none)
      by (Some u) viewed = other_life (t.node == s.home.txs.node) (t.born == s.home.txs.born) (with_serial s.home.txs.txs t.serial) (apart u viewed (t.born == s.home.txs.born) refl)

  -- nor at the acting node
  own_shut : t.node ≡ n → is_open w.node.home.txs t ≡ false
  own_shut home = other_life (t.node == w.node.home.txs.node) (t.born == w.node.home.txs.born) (with_serial w.node.home.txs.txs t.serial) (apart (t.born == w.node.home.txs.born) refl)
    where
      apart : (b : Bool) → (t.born == w.node.home.txs.born) ≡ b → b ≡ false
      apart true test =
          let same : t.born ≡ w.node.home.txs.born = grind (arith, nat_tests, test) in
          let living : IsLiving v t = record { live = ap (is_live v.live) home ∙ i.listed; born = same ∙ (i.born ∙ ap (born_of v) (sym home)) } in
          absurd (living_not_past v t living past)
      apart false test = refl

  closed_by : (s : NodeState) → is_open s.home.txs t ≡ false → (h : Home) → StandsIn (last_view c).epoch (Some s) t p h → IsClosed h
  closed_by s none h stands = unopened h (is_open s.home.txs t) (is_unborn s.view s t) (held_by s.home.txs t p) (wait_on (pending_of s.home.txs t) p) none stands

  closed_there : (h : Home) → (o : Option NodeState) → node_at c t.node ≡ o → StandsIn (last_view c).epoch o t p h → IsClosed h
  closed_there h None down stands = unopened h false (nat_lt (last_view c).epoch t.born) None None refl stands
  closed_there h (Some s) up stands = closed_by s (shut s up) h stands

  closed_of : (h : Home) → StandsIn (last_view c).epoch (node_at (land c e n w) t.node) t p h → IsClosed h
  closed_of h stands = by (t.node == n) refl
    where
      by : (b : Bool) → (t.node == n) ≡ b → IsClosed h
      by true test =
          let home : t.node ≡ n = eqb-true t.node n test in
          closed_by w.node (own_shut home) h (at_node c e n acts w t.node (λ o. StandsIn (last_view c).epoch o t p h) home stands)
      by false other = closed_there h (node_at c t.node) refl (at_other c e n acts w t.node (λ o. StandsIn (last_view c).epoch o t p h) other stands)

pub past_are_closed_law : PastAreClosed
unfolding land
past_are_closed_law c e n p v w a t acts i is past = closed_of c e n p v w acts i t past (a.home t) (is.homes.stands t)
