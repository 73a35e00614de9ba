-- A table without a missing report has all of its era, once who is past is buried.
use Rattle.std.proofs.Common.{◌≡◌, ◌⊎◌, inl, inr, refl, ap, sym, subst, ◌∙◌, ℕ, ◌<◌, ◌≤◌, ◌==◌, leb, ltb, not, Bool, true, false, Option, Some, None, arith, eqb-true}
use Rattle.std.proofs.lemmas.Bool.Decides.{nat_tests}
use Rattle.pcl_base.specs.declared.event.Event.{Event}
use Rattle.pcl_base.specs.declared.tx.Mode.{Mode}
use Rattle.pcl_base.specs.declared.tx.TxId.{TxId}
use Rattle.run_rules.specs.Views.{View, owner_of, since_of}
use Rattle.node_rules.specs.LockTable.{LockTable, marked}
use Rattle.node_rules.specs.NodeState.{NodeState, partition}
use Rattle.node_rules.specs.Work.{Work}
use Rattle.cluster_rules.specs.Clusters.{Cluster, node_at}
use Rattle.cluster_laws.specs.Era.Eras.{era_in, life_of}
use Rattle.cluster_laws.proofs.EraParts.Ages.{era_is, eras_are_reached_law}
use Rattle.cluster_laws.proofs.EraParts.Lives.{up_nodes_live_law}
use Rattle.kept_relation.proofs.Purged.{own_table}
use Rattle.page_protocol.specs.Laws.{LaterAreUsed, NamedAreUsed}
use Rattle.page_protocol.specs.State.{pick, Right, NoRight, Flying, Shelf, Returning, Dead, Page, IsClosed}
use Rattle.page_relation.specs.Looks.{shelf_in, shelf_of}
use Rattle.page_relation.specs.Messages.{CountsFor}
use Rattle.page_relation.specs.Relation.{on_shelf}
use Rattle.page_relation.specs.Work.Keeping.{IsWorkOf}
use Rattle.page_relation.specs.Work.Landing.{land, Acts}
use Rattle.page_relation.proofs.WorkParts.Nodes.{at_other}
use Rattle.report_relation.specs.Completing.{IsReady}
use Rattle.report_relation.specs.Bury.Burying.{burial, lower, lowered}
use Rattle.report_relation.specs.Bury.Running.{AreOver}
use Rattle.report_relation.specs.Bury.Past.{past_in}
use Rattle.report_relation.specs.Bury.Whole.{IsKnown}
use Rattle.report_relation.proofs.BuryParts.Ahead.{born_of_listed, born_of_script}
use Rattle.report_relation.proofs.BuryParts.Burials.{buried_closed, buried_none}
use Rattle.report_relation.proofs.BuryParts.Closed.{past_are_closed_law}
use Rattle.report_relation.proofs.BuryParts.Living.{lives_in}
use Rattle.report_relation.proofs.BuryParts.Missing.{unmarked_is_new, unmarked_is_past}

-- a right that counts for an era although what was given back counts for none from it on
pub lowered_out : (era : ℕ) (r : Right) → CountsFor era (lower era r) → (v : ℕ) × (r ≡ Shelf v)
lowered_out era NoRight counts = absurd counts
lowered_out era (Flying g) counts = absurd counts
lowered_out era (Shelf v) counts = (v, refl)
lowered_out era (Returning upto readers) counts = by (ltb era upto) refl counts
  where
    by : (b : Bool) → ltb era upto ≡ b → CountsFor era (pick b (Returning era readers) (Returning upto readers)) → (v : ℕ) × (Returning upto readers ≡ Shelf v)
    by true test counts = absurd (omega (arith, counts))
    by false test counts = absurd (grind (arith, nat_tests, test, counts))
lowered_out era Dead counts = absurd counts

module _ (c : Cluster) (e : Event) (n p : ℕ) (v : View) (t : LockTable) (w : Work) (a : Page) (acts : Acts c n) (ready : IsReady c n (partition c.config p) w v t) (known : IsKnown c e n p v w t) (later_used : LaterAreUsed a) (named_used : NamedAreUsed a) (is : IsWorkOf c e n p w a) where
  abbrev q : ℕ
  q = partition c.config p

  abbrev era : ℕ
  era = since_of v q

  abbrev dead : TxId → Bool
  dead = past_in v

  abbrev pub gone : ℕ → Bool
  gone m = not (marked t m)

  abbrev b : Page
  b = burial a era dead

  pub upto : era ≤ v.epoch
  upto =
      let reached = eras_are_reached_law c q v.epoch acts.cluster in
      let same = era_is c v.epoch v known.owner.there q in
      omega (arith, reached, same)

  pub later : a.era < era
  later = subst (λ (k : ℕ). a.era < k) (ap (λ (o : _). era_in o q) ready.in_view) (own_table c e n p t w a false acts ready.there ready.rebuilt is).later

  -- a node that isn't marked is another one
  other : (m : ℕ) → marked t m ≡ false → m ≡ owner_of v q → ⊥
  other m off same = let bad : true ≡ false = sym known.own ∙ (sym (ap (marked t) (same ∙ known.owner.owner)) ∙ off) in absurd (cc)

  past : (u : TxId) → marked t u.node ≡ false → u.born < era → past_in v u ≡ true
  past u off born = unmarked_is_past t v q u ready.all.none_missing (other u.node off) off born upto

  upto_self : leb era era ≡ true
  upto_self = grind (arith, nat_tests)

  -- the era lists nobody of it
  pub listed : (u : TxId) → marked t u.node ≡ false → b.listed u era ≡ None
  listed u off = buried_none (dead u) (leb era era) (a.listed u era) (by (a.listed u era) refl)
    where
      by : (o : Option Mode) → a.listed u era ≡ o → (o ≡ None) ⊎ ((dead u ≡ true) × (leb era era ≡ true))
      by None none = inl refl
      by (Some m) some = inr (past u off (born_of_listed c e n p w a era era u m known.users later_used is later some), upto_self)

  -- readers that an answer of it names are no more
  pub over : AreOver b era gone
  over m from readers off right less u home named =
      let unmarked : marked t u.node ≡ false = ap (marked t) home ∙ not_so (marked t m) off in
      let born = born_of_script c e n p w a era u known.users is (named_used m from readers right u home named) in
      let is_past = past u unmarked born in
      (closed_still u is_past, λ f after. buried_none (dead u) (leb era f) (a.listed u f) (inr (is_past, from_then f after)))
    where
      not_so : (x : Bool) → not x ≡ true → x ≡ false
      not_so true e = absurd (cc)
      not_so false e = refl

      from_then : (f : ℕ) → era < f → leb era f ≡ true
      from_then f after = grind (arith, nat_tests, after)

      closed_still : (u : TxId) → past_in v u ≡ true → IsClosed (b.home u)
      closed_still u is_past = buried_closed (dead u) era (a.home u) (past_are_closed_law c e n p v w a u acts known.owner is is_past)

  -- no right of it is on a shelf
  no_shelf : (m x : ℕ) → marked t m ≡ false → a.right m ≡ Shelf x → ⊥
  unfolding shelf_of land
  no_shelf m x off right = by (node_at (land c e n w) m) refl (is.nodes.shelves m)
    where
      apart : (m == n) ≡ false
      apart = of (m == n) refl
        where
          of : (y : Bool) → (m == n) ≡ y → y ≡ false
          of true same = absurd (other m off (eqb-true m n same ∙ sym known.owner.owner))
          of false differs = refl

      never : (s : NodeState) → node_at (land c e n w) m ≡ Some s → life_of s < era → ⊥
      never s up young =
          let there : node_at c m ≡ Some s = at_other c e n acts w m (λ o. o ≡ Some s) apart up in
          let early = upto in
          let lives = lives_in c acts.cluster v known.owner.there m (life_of s) (up_nodes_live_law c m s v.epoch acts.cluster there (omega (arith, young, early)) known.owner.made) in
          let new = unmarked_is_new t v q m ready.all.none_missing lives.0 (other m off) off in
          let born = lives.1 in
          omega (arith, new, born, young)

      by : (o : Option NodeState) → node_at (land c e n w) m ≡ o → shelf_in o p ≡ on_shelf (a.right m) → ⊥
      by None down same = let bad : None ≡ Some x = same ∙ ap on_shelf right in absurd (cc)
      by (Some s) up same = never s up (known.readers m s up (λ none. let bad : None ≡ Some x = sym none ∙ (same ∙ ap on_shelf right) in absurd (cc)))

  -- nor counts one
  pub rights : (m : ℕ) → marked t m ≡ false → CountsFor era ((lowered b era gone).right m) → ⊥
  rights m off counts =
      let out = lowered_out era (a.right m) (subst (λ (x : Bool). CountsFor era (pick (not x) (lower era (a.right m)) (a.right m))) off counts) in
      no_shelf m out.0 off out.1
