-- A release that is taken.
use Rattle.std.proofs.Common.{◌≡◌, refl, ap, sym, subst, ◌∙◌, ℕ, ◌<◌, ◌==◌, not, is_some, Bool, true, false, List, Option, Some, None, slice_index_or, eqb-true}
use Rattle.std.specs.List.{AllByRecursion}
use Rattle.pcl_base.specs.Limits.{Sizes}
use Rattle.pcl_base.specs.declared.event.Event.{Event}
use Rattle.pcl_base.specs.declared.lock.Verdict.TheVariants as verdict
use Rattle.pcl_base.specs.declared.message.Body.{Body}
use Rattle.pcl_base.specs.declared.message.Body.TheVariants as body
use Rattle.pcl_base.specs.declared.message.Change.{Change}
use Rattle.pcl_base.specs.declared.message.Message.{Message}
use Rattle.pcl_base.specs.declared.message.Release.{Release}
use Rattle.pcl_base.specs.declared.reply.Reason.TheVariants as reason
use Rattle.pcl_base.specs.declared.tx.TxId.{TxId}
use Rattle.run_rules.specs.Views.{View}
use Rattle.text_rules.specs.MessageBytes.{IsBody, IsChange}
use Rattle.node_rules.specs.LockRule.{takes_change}
use Rattle.node_rules.specs.LockTable.{LockTable, entry_at, put_entry}
use Rattle.node_rules.specs.NodeState.{NodeState, Deliver, number_of, partition, table_at, table_of}
use Rattle.node_rules.specs.NodeStep.{do_event, judge_in, partition_of, work_off}
use Rattle.node_rules.specs.OwnerRule.{change_if_served, end_in, enter, enter_in, on_release, on_release_in, put_taken, settle_page, with_table, version_of_change as rules_version}
use Rattle.node_rules.specs.Refusals.{refusal, refuse_if}
use Rattle.node_rules.specs.Work.{Work, Goes, Differs, work_of_home}
use Rattle.home_laws.specs.Homes.{IsHome}
use Rattle.node_laws.proofs.Bases.{base_of}
use Rattle.cluster_rules.specs.Clusters.{Cluster, node_at, last_view, version_of_change}
use Rattle.cluster_rules.specs.ClusterStep.{step}
use Rattle.cluster_rules.specs.Links.{link_at}
use Rattle.cluster_laws.specs.Handed.{IsHanded}
use Rattle.cluster_laws.specs.Sound.{IsCluster, IsOnLink}
use Rattle.page_protocol.specs.State.{Ended, Page}
use Rattle.page_protocol.specs.Steps.{Reached, here}
use Rattle.page_relation.specs.Messages.{ChangeHas}
use Rattle.page_relation.specs.Relation.{IsPageOf}
use Rattle.page_relation.specs.Together.{IsParty}
use Rattle.page_relation.specs.Work.Events.{IsEntered, IsUnstopped}
use Rattle.page_relation.specs.Work.Keeping.{IsWorkOf, Leads}
use Rattle.page_relation.specs.Work.Landing.{land, Acts}
use Rattle.page_relation.specs.Work.Letting.{CalledBy}
use Rattle.page_relation.specs.Work.StepEnds.{start_of, Follows}
use Rattle.page_relation.specs.Work.Taken.{taken_of, TakenSays}
use Rattle.page_relation.proofs.WorkParts.Ended.{end_is_landed_law}
use Rattle.page_relation.proofs.WorkParts.Kept.{leads_on, reached_on}
use Rattle.page_relation.proofs.WorkParts.Started.{acting, at_head, deliver_is}
use Rattle.page_relation.proofs.WorkParts.Taking.{taken_is_said_law}
use Rattle.end_relation.specs.Release.Midway.{IsMidway, SettleKeeps, SettleGoes}
use Rattle.end_relation.specs.Release.Owing.{IsUntold}
use Rattle.end_relation.specs.Release.Releasing.{ReleaseIsKept, NoReleaseDiffers}
use Rattle.end_relation.proofs.ReleaseParts.Cases.{rebuilt_ends, served_ends, tabled}
use Rattle.end_relation.proofs.ReleaseParts.Elsewhere.{entry_elsewhere, same_leads, taken_config, taken_elsewhere, taken_tables}
use Rattle.end_relation.proofs.ReleaseParts.Midway.{end_midway, taken_midway}
use Rattle.end_relation.proofs.ReleaseParts.Owners.{HasOwn, has_own}
use Rattle.end_relation.proofs.ReleaseParts.OwnEnds.{none_taken}
use Rattle.end_relation.proofs.ReleaseParts.Putting.{put_ends}
use Rattle.end_relation.proofs.ReleaseParts.Untold.{arrived_ended, arrived_image, arrived_untold}

-- the change at its place, where it is taken, and the end in the entry
abbrev pub release_told : ℕ → TxId → Option Change → LockTable → Work → Work
release_told q t change tb w =
    with_table q (put_entry tb q (end_in t (change_if_served tb.serving change) (entry_at tb q)))
    (put_taken (takes_change (entry_at tb q) t (rules_version (change_if_served tb.serving change))) q change w)

module _ (c : Cluster) (e : Event) (n p : ℕ) (s : NodeState) (w : Work) (tb : LockTable) (a : Page) (blank : List ℕ) (acts : Acts c n) (up : node_at c n ≡ Some s) (own : HasOwn c n p s w tb)
    (reached : Reached blank a) (is : IsWorkOf c e n p w a) (low : p < c.config.pages) (home : IsHome w.node.home) (called : CalledBy n c.disk (work_of_home w)) (entered : IsEntered a) where
  -- at the table of the page
  pub release_leads : (t : TxId) (change : Option Change) → a.home t ≡ Ended (version_of_change change) (a.reached n) → ChangeHas a.hist change → IsUntold c e n p t w a
      → Leads c e n p (λ y b. IsEntered b) a (release_told p t change tb w)
  release_leads t change ended image untold = by tb.serving refl change ended image (takes_change (entry_at tb p) t (rules_version (change_if_served tb.serving change))) refl
    where
      by : (b : Bool) → tb.serving ≡ b → (o : Option Change) → a.home t ≡ Ended (version_of_change o) (a.reached n) → ChangeHas a.hist o → (x : Bool)
          → takes_change (entry_at tb p) t (rules_version (change_if_served b o)) ≡ x
          → Leads c e n p (λ y b. IsEntered b) a (with_table p (put_entry tb p (end_in t (change_if_served b o) (entry_at tb p))) (put_taken x p o w))
      by false unserved o ended image true bad = let no : true ≡ false = sym bad ∙ none_taken (entry_at tb p) t in absurd (cc)
      by false unserved o ended image false late = rebuilt_ends c e n p s w tb a blank acts up own reached is unserved t (version_of_change o) None ended untold entered
      by true serves None ended image true bad = let no : true ≡ false = sym bad ∙ none_taken (entry_at tb p) t in absurd (cc)
      by true serves None ended image false late = served_ends c e n p s w tb a blank acts up own reached is serves t None ended untold late entered
      by true serves (Some x) ended image true taken =
          put_ends c e n p s w tb a blank acts up own reached is low home called serves t x ended
          (tabled c e n p s w tb a blank acts up own reached is).not_past image untold taken
      by true serves (Some x) ended image false late = served_ends c e n p s w tb a blank acts up own reached is serves t (Some x.version) ended untold late entered

-- at the table of another page
pub release_beside : (c : Cluster) (e : Event) (n p q : ℕ) (w : Work) (tb : LockTable) (a : Page) (blank : List ℕ) → Acts c n → p < c.config.pages → Reached blank a → IsWorkOf c e n p w a → IsEntered a
    → IsHome w.node.home → CalledBy n c.disk (work_of_home w) → (q == p) ≡ false → w.node.home.config ≡ c.config → table_at w.node (partition c.config q) ≡ Some tb
    → (t : TxId) (change : Option Change) → Leads c e n p (λ y b. IsEntered b) a (release_told q t change tb w)
release_beside c e n p q w tb a blank acts low reached is entered home called other config there t change =
    same_leads c e n p a put (release_told q t change tb w) acts
    (taken_elsewhere c e n p q w a blank acts low reached is entered home called other taken change)
    (entry_elsewhere c e n p q tb (end_in t (change_if_served tb.serving change) (entry_at tb q)) put other (taken_config taken q change w ∙ config)
    (ap (λ (ts : List (Option LockTable)). slice_index_or ts (partition c.config q) None) (taken_tables taken q change w) ∙ there))
  where
    taken : Bool
    taken = takes_change (entry_at tb q) t (rules_version (change_if_served tb.serving change))

    put : Work
    put = put_taken taken q change w

-- ---- the operation

release_goes_to : (q : ℕ) (r : Release) (tb : LockTable) (w : Work) → r.page ≡ q → table_of w.node q ≡ Some tb → on_release r w ≡ settle_page q (release_told q r.tx r.change tb w)
unfolding on_release enter
release_goes_to q r tb w at there =
    ap (λ (o : Option LockTable). on_release_in r o w) (ap (table_of w.node) at ∙ there)
    ∙ ap (λ (k : ℕ). enter_in (end_in r.tx (change_if_served tb.serving r.change)) k (table_of (put k).node k) (put k)) at
    ∙ ap (λ (o : Option LockTable). enter_in (end_in r.tx (change_if_served tb.serving r.change)) q o (put q)) same
  where
    put : ℕ → Work
    put k = put_taken (takes_change (entry_at tb k) r.tx (rules_version (change_if_served tb.serving r.change))) k r.change w

    same : table_of (put q).node q ≡ Some tb
    same =
        (λ i. slice_index_or (taken_tables (takes_change (entry_at tb q) r.tx (rules_version (change_if_served tb.serving r.change))) q r.change w i)
        (partition (taken_config (takes_change (entry_at tb q) r.tx (rules_version (change_if_served tb.serving r.change))) q r.change w i) q) None)
        ∙ there

pub told_midway : (c : Cluster) (e : Event) (n q : ℕ) (s : NodeState) (t : TxId) (change : Option Change) (tb : LockTable) (w : Work) → q < c.config.pages → IsChange c.config.size change
    → table_of w.node q ≡ Some tb → IsMidway (base_of s) c e n w → IsMidway (base_of s) c e n (release_told q t change tb w)
told_midway c e n q s t change tb w low sized there mid =
    end_midway (base_of s) c e n q tb t (rules_version (change_if_served tb.serving change)) (put_taken taken q change w) inside there_put
    (taken_midway (base_of s) c e n taken q change w inside (subst (λ (k : Sizes). IsChange k.size change) (sym mid.config) sized) mid)
  where
    taken : Bool
    taken = takes_change (entry_at tb q) t (rules_version (change_if_served tb.serving change))

    inside : q < (base_of s).config.pages
    inside = subst (λ (k : Sizes). q < k.pages) (sym mid.config) low

    there_put : table_of (put_taken taken q change w).node q ≡ Some tb
    there_put = (λ i. slice_index_or (taken_tables taken q change w i) (partition (taken_config taken q change w i) q) None) ∙ there

no_table : (r : Release) (w : Work) → table_of w.node r.page ≡ None → on_release r w ≡ Goes w
unfolding on_release
no_table r w none = ap (λ (o : Option LockTable). on_release_in r o w) none

-- ---- the event

deliver_free : (s : NodeState) (v : View) (from : ℕ) (m : Message) → s.view ≡ Some v → refusal s (Deliver from m) ≡ None
unfolding refusal
deliver_free s v from m is = ap (λ (o : Option View). refuse_if (not (is_some o)) reason.NotInView None) is

goes_same : {X : Type 0} (y z : X) → Goes y ≡ Goes z → y ≡ z
goes_same y z eq = cc

module _ (c : Cluster) (e : Event) (n p from : ℕ) (s : NodeState) (m : Message) (r : Release) (blank : List ℕ) (a : Page) (i : IsCluster c)
    (parties : (k l : ℕ) → AllByRecursion (IsParty c k l) (link_at c.links k l)) (h : IsHanded c e n s (Deliver from m)) (is : m.body ≡ body.Release r)
    (judged : judge_in s.view (number_of s) from m.epoch (partition_of s.home.config m.body) ≡ verdict.Taken) (low : p < c.config.pages) (mid : IsMidway (base_of s) c e n (taken_of c s))
    (reached : Reached blank a) (entered : IsEntered a) (related : IsPageOf c p a) where
  acts : Acts c n
  acts = acting c e n s (Deliver from m) i h

  said : TakenSays c e n p a s from m
  said = taken_is_said_law c e n p s from m a i h judged related

  abbrev w : Work
  w = taken_of c s

  works : do_event c.disk (Deliver from m) (start_of c s) ≡ on_release r (taken_of c s)
  works = said.goes_on ∙ ap (λ (b : Body). work_off c.disk from b (taken_of c s)) is

  ended : (x : Work) → do_event c.disk (Deliver from m) (start_of c s) ≡ Goes x → IsUnstopped c n s (Deliver from m) → step c e ≡ land c e n x
  ended x goes whole = end_is_landed_law c e n s (Deliver from m) x h (deliver_free s said.view from m said.in_view) goes (whole x goes)

  message : IsBody c.config (body.Release r)
  message =
      let found = deliver_is c e n s from m h.acts h.event in
      subst (IsBody c.config) is
      (subst (AllByRecursion (IsOnLink c.config (last_view c).epoch from n)) (at_head m (link_at c.links from n) found.1) (i.links.messages from n)).0.message.body

  -- what is told at the table
  told_at : (tb : LockTable) → table_of (taken_of c s).node r.page ≡ Some tb → (b : Bool) → (r.page == p) ≡ b → Leads c e n p (λ y b. IsEntered b) a (release_told r.page r.tx r.change tb (taken_of c s))
  told_at tb there true same =
      let page : r.page ≡ p = eqb-true r.page p same in
      subst (λ (k : ℕ). Leads c e n p (λ y b. IsEntered b) a (release_told k r.tx r.change tb (taken_of c s))) (sym page)
      (release_leads c e n p s (taken_of c s) tb a blank acts h.up
      (has_own c n p s (taken_of c s) tb i h.up mid.base mid.good (subst (λ (k : ℕ). table_of (taken_of c s).node k ≡ Some tb) page there)) reached said.related low mid.good.home.home mid.called entered
      r.tx r.change
      (arrived_ended c e n p from s m r a i h parties said is page judged related)
      (arrived_image c e n p from s m r a i h parties said is page judged related)
      (arrived_untold c e n p from s m r a i h parties said is page judged related))
  told_at tb there false other =
      let own : HasOwn c n r.page s (taken_of c s) tb = has_own c n r.page s (taken_of c s) tb i h.up mid.base mid.good there in
      release_beside c e n p r.page (taken_of c s) tb a blank acts low reached said.related entered mid.good.home.home mid.called other own.config own.there r.tx r.change

  midway_at : (tb : LockTable) → table_of (taken_of c s).node r.page ≡ Some tb → IsMidway (base_of s) c e n (release_told r.page r.tx r.change tb (taken_of c s))
  midway_at tb there = told_midway c e n r.page s r.tx r.change tb (taken_of c s) message.1 message.2 there mid

  -- and then its page is settled
  leads_to : (x : Work) → SettleKeeps (base_of s) c e n p r.page → on_release r (taken_of c s) ≡ Goes x → (o : Option LockTable) → table_of (taken_of c s).node r.page ≡ o
      → Leads c e n p (λ y b. IsEntered b) a x
  leads_to x settle goes None none =
      subst (λ (y : Work). Leads c e n p (λ z b. IsEntered b) a y) (goes_same (taken_of c s) x (sym (no_table r (taken_of c s) none) ∙ goes))
      (record { page = a; run = here; related = said.related; known = entered })
  leads_to x settle goes (Some tb) there =
      let told = told_at tb there (r.page == p) refl in
      let after =
      leads_on c e n p (λ y b. IsMidway (base_of s) c e n y × IsEntered b) a told.page x told.run
      (settle blank (release_told r.page r.tx r.change tb (taken_of c s)) x told.page (reached_on blank a told.page reached told.run) told.related
      (midway_at tb there, told.known)
      (sym (release_goes_to r.page r tb (taken_of c s) refl there) ∙ goes)) in
      record { page = after.page; run = after.run; related = after.related; known = after.known.1 }

  -- nothing differs, where nothing does when its page is settled
  none_differs : (q x y : ℕ) → SettleGoes (base_of s) c e n p → r.page ≡ p → on_release r (taken_of c s) ≡ Differs q x y → (o : Option LockTable) → table_of (taken_of c s).node r.page ≡ o → ⊥
  none_differs q x y settle page differs None none =
      let bad : Goes (taken_of c s) ≡ Differs q x y = sym (no_table r (taken_of c s) none) ∙ differs in absurd (cc)
  none_differs q x y settle page differs (Some tb) there =
      let told = told_at tb there (r.page == p) refl in
      settle blank (release_told r.page r.tx r.change tb (taken_of c s)) told.page q x y (midway_at tb there) told.related told.known (reached_on blank a told.page reached told.run)
      (ap (λ (k : ℕ). settle_page k (release_told r.page r.tx r.change tb (taken_of c s))) (sym page) ∙ sym (release_goes_to r.page r tb (taken_of c s) refl there) ∙ differs)

  pub release_follows : (x : Work) → do_event c.disk (Deliver from m) (start_of c s) ≡ Goes x → IsUnstopped c n s (Deliver from m) → SettleKeeps (base_of s) c e n p r.page
      → Follows p IsEntered a (step c e)
  release_follows x goes whole settle =
      let led = leads_to x settle (sym works ∙ goes) (table_of (taken_of c s).node r.page) refl in
      record { page = led.page; run = led.run; related = subst (λ (d : Cluster). IsPageOf d p led.page) (sym (ended x goes whole)) led.related; known = led.known }

  pub release_goes_on : (q x y : ℕ) → do_event c.disk (Deliver from m) (start_of c s) ≡ Differs q x y → r.page ≡ p → SettleGoes (base_of s) c e n p → ⊥
  release_goes_on q x y differs page settle = none_differs q x y settle page (sym works ∙ differs) (table_of (taken_of c s).node r.page) refl

pub release_is_kept_law : ReleaseIsKept
release_is_kept_law c e n p from s m r x blank a i parties h is judged goes whole low mid settle reached entered related =
    release_follows c e n p from s m r blank a i parties h is judged low mid reached entered related x goes whole settle

pub no_release_differs_law : NoReleaseDiffers
no_release_differs_law c e n from s m r blank a i parties h is judged low mid settle reached entered related q x y differs =
    release_goes_on c e n r.page from s m r blank a i parties h is judged low mid reached entered related q x y differs refl settle
