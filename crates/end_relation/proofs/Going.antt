-- No page differs in an end.
use Rattle.std.proofs.Common.{arith, ◌≡◌, refl, sym, subst, ◌∙◌, ℕ, ◌<◌, ◌==◌, Bool, true, false, List, [], ◌∷◌, Option, Some, None}
use Rattle.std.specs.List.{AllByRecursion}
use Rattle.std.proofs.lemmas.Bool.Decides.{nat_tests}
use Rattle.pcl_base.specs.Limits.{Sizes}
use Rattle.pcl_base.specs.declared.event.Event.{Event}
use Rattle.pcl_base.specs.declared.tx.TxId.{TxId}
use Rattle.node_rules.specs.EndRule.{Ending, endings}
use Rattle.node_rules.specs.LockTable.{LockTable}
use Rattle.node_rules.specs.NodeState.{NodeState, table_of}
use Rattle.node_rules.specs.OwnerRule.{tell_in, tell_end}
use Rattle.node_rules.specs.Work.{Work, Outcome, Goes, Differs, and_then, for_each}
use Rattle.node_laws.proofs.Bases.{base_of}
use Rattle.node_laws.proofs.Ends.{IsEnding}
use Rattle.node_rules.specs.NodeStep.{do_event}
use Rattle.cluster_rules.specs.Clusters.{Cluster}
use Rattle.cluster_laws.proofs.Steps.{up_is_member_law}
use Rattle.page_relation.specs.Work.StepEnds.{start_of}
use Rattle.page_relation.specs.Together.{IsRelated}
use Rattle.page_relation.specs.Work.Landing.{Acts}
use Rattle.page_relation.proofs.WorkParts.Kept.{reached_on}
use Rattle.page_relation.proofs.WorkParts.Started.{acting}
use Rattle.end_relation.specs.Ends.{CanEnd, AbortGoes, CommitGoes}
use Rattle.end_relation.specs.Midway.{OwnEndsGo}
use Rattle.end_relation.specs.Over.{event_of, over_of}
use Rattle.end_relation.proofs.Committed as commits
use Rattle.end_relation.proofs.Events as aborts
use Rattle.end_relation.proofs.Events.{Stood, stands_there, tx, unreleased, unreported, endings_are, event_goes}
use Rattle.end_relation.proofs.Overs.{MayClose}
use Rattle.end_relation.proofs.Telling.{own_owed, is_owned}
use Rattle.end_relation.proofs.Told.{own_owes, untold, tells_one}

module _ (blank : List ℕ) (c : Cluster) (e : Event) (n : ℕ) (s : NodeState) (b : Bool) (t : TxId) (r : IsRelated blank c) (is : CanEnd blank c e n s (event_of b t) t r) (may : MayClose b s t)
    (go : OwnEndsGo blank (base_of s) c e n t) where
  acts : Acts c n
  acts = acting c e n s (event_of b t) r.cluster is.handed

  abbrev Stands : ℕ → List Ending → Work → Type 0
  Stands p es w = Stood blank c e n s b t r is may p es w

  -- one end
  one_goes : (x : Ending) (es : List Ending) (w : Work) → IsEnding s.home.config x → Stands x.page (x ∷ es) w → (q expected found : ℕ) → tell_end t x w ≡ Differs q expected found → ⊥
  unfolding tell_end
  one_goes x es w fits st q expected found differs = by (table_of w.node x.page) refl differs
    where
      low : x.page < c.config.pages
      low = subst (λ (k : Sizes). x.page < k.pages) st.known.midway.config fits.page

      by : (o : Option LockTable) → table_of w.node x.page ≡ o → tell_in t x o w ≡ Differs q expected found → ⊥
      by None none told = absurd (cc)
      by (Some tb) there told =
          let same : (x.page == x.page) ≡ true = grind (arith, nat_tests) in
          let un = unreleased blank c e n s b t r is may x.page low in
          let reports = unreported blank c e n s b t r is may x.page low in
          let owed = own_owed c e n x.page s t acts r.order is.handed.up (tx blank c e n s b t r is may) un x es w st.page same st.known in
          go x tb w st.page q expected found low st.reached st.related
          (record {
            midway = st.known.midway;
            owes =
                own_owes c e n x.page s t acts r.order is.handed.up (tx blank c e n s b t r is may) un reports (is.own x.page low) x w st.page x.kind
                (is_owned c e n x.page s t acts r.order is.handed.up (tx blank c e n s b t r is may) un x.page w tb st.known.midway there) owed.0;
            untold = untold c e n x.page s t acts r.order is.handed.up (tx blank c e n s b t r is may) un reports (is.own x.page low) w st.page tb st.known.midway st.related there owed.2;
            table = there;
          }) differs

  -- a page once one end was told
  next : (x : Ending) (es : List Ending) (w y : Work) → IsEnding s.home.config x → tell_end t x w ≡ Goes y → (p : ℕ) → p < c.config.pages → Stands p (x ∷ es) w → Stands p es y
  next x es w y fits told p low st =
      let to =
      tells_one c e n p s t acts r.order is.handed.up (tx blank c e n s b t r is may) (unreleased blank c e n s b t r is may p low) (unreported blank c e n s b t r is may p low) (is.own p low) x es fits
      blank w y st.page st.reached st.related st.known told in
      record { page = to.page; reached = reached_on blank st.page to.page st.reached to.run; related = to.related; known = to.known }

  -- all of them
  all_go : (es : List Ending) → AllByRecursion (IsEnding s.home.config) es → (w : Work) → ((p : ℕ) → p < c.config.pages → Stands p es w) → (q expected found : ℕ)
      → for_each (tell_end t) es w ≡ Differs q expected found → ⊥
  unfolding for_each
  all_go [] all w st q expected found differs = absurd (cc)
  all_go (x ∷ es) all w st q expected found differs = by (tell_end t x w) refl differs (all_go es all.1)
    where
      low : ℕ → x.page < c.config.pages
      low k = subst (λ (j : Sizes). x.page < j.pages) config all.0.page
        where
          config : s.home.config ≡ c.config
          config = (up_is_member_law c n s r.cluster is.handed.up).1.config

      by : (o : Outcome Work) → tell_end t x w ≡ o → and_then o (for_each (tell_end t) es) ≡ Differs q expected found
          → ((y : Work) → ((p : ℕ) → p < c.config.pages → Stands p es y) → (k l m : ℕ) → for_each (tell_end t) es y ≡ Differs k l m → ⊥) → ⊥
      by (Goes y) told after rest = rest y (λ p high. next x es w y all.0 told p high (st p high)) q expected found after
      by (Differs k l m) told after rest = one_goes x es w all.0 (st x.page (low 0)) k l m told

  pub end_goes : ((p : ℕ) → p < c.config.pages → Stands p (endings s.home t b) (over_of b t c s)) → (q expected found : ℕ) → do_event c.disk (event_of b t) (start_of c s) ≡ Differs q expected found → ⊥
  end_goes st q expected found differs =
      all_go (endings s.home t b) (endings_are blank c e n s b t r is may) (over_of b t c s) st q expected found (sym (event_goes blank c e n s b t r is may) ∙ differs)

pub abort_goes_law : AbortGoes
abort_goes_law blank c e n s t r q expected found is go differs =
    end_goes blank c e n s false t r is (aborts.may_give_up blank c e n s t r is) go
    (λ p low.
    stands_there blank c e n s false t r is (aborts.may_give_up blank c e n s t r is) p low (aborts.passed blank c e n s t r is p low).0 (aborts.passed blank c e n s t r is p low).1
    (aborts.has_now blank c e n s t r is p low) (aborts.has_scripts blank c e n s t r is p low)) q expected found differs

pub commit_goes_law : CommitGoes
commit_goes_law blank c e n s t r q expected found is fit go differs =
    end_goes blank c e n s true t r is (commits.may blank c e n s t r is fit) go
    (λ p low.
    stands_there blank c e n s true t r is (commits.may blank c e n s t r is fit) p low (commits.next_state blank c e n s t r is fit p) (commits.passed blank c e n s t r is fit p low)
    (commits.has_now blank c e n s t r is fit p low) (commits.has_scripts blank c e n s t r is fit p low)) q expected found differs
