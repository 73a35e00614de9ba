-- No report comes any more to a table that misses none.
use Rattle.std.proofs.Common.{◌≡◌, ◌⊎◌, inl, inr, refl, ap, sym, subst, ◌∙◌, ℕ, ◌<◌, ◌≤◌, ◌==◌, nat_lt, Bool, true, false, List, [], ◌∷◌, Option, Some, None, arith, eqb-true}
use Rattle.std.specs.List.{AllByRecursion}
use Rattle.std.specs.Prelude.{IfSome}
use Rattle.std.proofs.lemmas.Bool.Decides.{nat_tests}
use Rattle.pcl_base.specs.declared.event.Event.{Event}
use Rattle.pcl_base.specs.declared.message.Body.{Body}
use Rattle.pcl_base.specs.declared.message.Body.TheVariants as body
use Rattle.pcl_base.specs.declared.message.Message.{Message}
use Rattle.run_rules.specs.Views.{View, owner_of, since_of}
use Rattle.node_rules.specs.LockTable.{LockTable, marked}
use Rattle.node_rules.specs.NodeState.{NodeState, partition}
use Rattle.node_rules.specs.Work.{Work}
use Rattle.cluster_rules.specs.Clusters.{Cluster, node_at, view_of_epoch}
use Rattle.cluster_laws.specs.Sound.{IsMember}
use Rattle.cluster_laws.proofs.Steps.{up_is_member_law}
use Rattle.cluster_laws.specs.Era.Counts.{counts_at, counts_in}
use Rattle.cluster_laws.specs.Era.EraLaws.{KnowsEras}
use Rattle.cluster_laws.specs.Era.Eras.{era_at, era_in}
use Rattle.cluster_laws.proofs.EraParts.Ages.{era_is, eras_are_reached_law, eras_have_one_owner_law, owner_is}
use Rattle.cluster_laws.proofs.EraParts.Lives.{members_know_eras_law}
use Rattle.kept_relation.proofs.Purged.{own_table}
use Rattle.cluster_laws.specs.Link.Coming.{coming, is_coming, speaks_of}
use Rattle.cluster_laws.specs.Link.Orders.{is_report}
use Rattle.page_protocol.specs.State.{Page}
use Rattle.page_relation.specs.Tables.{ReachedBy, ReachedIn}
use Rattle.page_relation.specs.Together.{IsParty, PartiesAre}
use Rattle.page_relation.specs.Work.Keeping.{IsWorkOf}
use Rattle.page_relation.specs.Work.Landing.{land, Acts}
use Rattle.page_relation.proofs.WorkParts.Nodes.{at_node, at_other}
use Rattle.report_relation.specs.Completing.{IsReady}
use Rattle.report_relation.proofs.Reaching.{up_have_reached_law}
use Rattle.report_relation.specs.Bury.Whole.{IsAwaited, IsKnown}
use Rattle.report_relation.proofs.BuryParts.Living.{both_parts, counted_alive}
use Rattle.report_relation.proofs.BuryParts.Missing.{counted_era, unmarked_is_new}
use Rattle.report_relation.proofs.BuryParts.Naming.{all_come, two_all}

module _ (c : Cluster) (e : Event) (n p : ℕ) (v : View) (t : LockTable) (w : Work) (a : Page) (acts : Acts c n) (low : partition c.config p < c.config.nodes) (ready : IsReady c n (partition c.config p) w v t) (known : IsKnown c e n p v w t) (is : IsWorkOf c e n p w a) where
  abbrev q : ℕ
  q = partition c.config p

  abbrev era : ℕ
  era = since_of v q

  upto : era ≤ v.epoch
  upto =
      let reached = eras_are_reached_law c q v.epoch acts.cluster in
      let same = era_is c v.epoch v known.owner.there q in
      omega (arith, reached, same)

  rebuilt : (m : ℕ) → marked t m ≡ true → era ≤ a.reached m
  rebuilt m on = subst (λ (k : ℕ). k ≤ a.reached m) (ap (λ (o : Option View). era_in o q) ready.in_view) ((own_table c e n p t w a false acts ready.there ready.rebuilt is).reaches m on)

  reached_in : (m : ℕ) → ReachedIn (land c e n w) q a.era (node_at (land c e n w) m) (a.reached m)
  unfolding land
  reached_in m = is.nodes.eras m

  -- another node that is up has reached the era
  up_reached : (m : ℕ) (s : NodeState) → (m == n) ≡ false → node_at c m ≡ Some s → era ≤ era_at c q s.epoch
  unfolding land era_at
  up_reached m s other up = up_have_reached_law c n q w.node.epoch v t m s acts low ready.all differs up marks
    where
      differs : m ≡ n → ⊥
      differs same = grind (arith, nat_tests, other, same)

      member : IsMember c.config c.views m s
      member = (up_is_member_law c m s acts.cluster up).1

      there : ReachedBy (land c e n w) q a.era s s.view (a.reached m)
      there = subst (λ (o : Option NodeState). ReachedIn (land c e n w) q a.era o (a.reached m)) up (at_other c e n acts w m (λ o. ReachedIn (land c e n w) q a.era o (a.reached m)) other (reached_in m))

      by : (o : Option View) → s.view ≡ o → ReachedBy (land c e n w) q a.era s o (a.reached m) → a.reached m ≤ era_at c q s.epoch
      by None viewed reached = reached.0
      by (Some u) viewed reached =
          let knows : KnowsEras c m s u = members_know_eras_law c m s u member viewed in
          let own : era_at c q s.epoch ≡ since_of u q = knows.eras q in
          let same = reached.0 in
          omega (arith, own, same)

      marks : marked t m ≡ true → era ≤ era_at c q s.epoch
      marks on =
          let far = rebuilt m on in
          let most = by s.view refl there in
          omega (arith, far, most)

  -- a report of an era no later than this one, which counts, isn't to the owner
  none_here : (from epoch : ℕ) → counts_at w.node (Some v) from q epoch ≡ true → epoch ≤ era → era_at c q epoch ≡ epoch → (era_at c q epoch ≡ era → (from ≡ n → ⊥) × (marked t from ≡ false)) → ⊥
  none_here from epoch counts early first awaited =
      let alive = counted_alive w.node v from q epoch (omega (arith, early, upto)) counts in
      let born = alive.1 in
      let same : epoch ≡ era = by (counted_era w.node v from q epoch counts) in
      let of = awaited (first ∙ same) in
      let new = unmarked_is_new t v q from ready.all.none_missing alive.0 (λ own. of.0 (own ∙ known.owner.owner)) of.1 in
      omega (arith, new, born, early)
    where
      by : (v.epoch < epoch) ⊎ (since_of v q ≤ epoch) → epoch ≡ era
      by (inl held) = absurd (omega (arith, held, early, upto))
      by (inr late) = omega (arith, late, early)

  -- nor to another node
  none_there : (from to epoch : ℕ) (u : View) → (to == n) ≡ false → view_of_epoch c.views epoch ≡ Some u → owner_of u q ≡ to → epoch ≤ era → era_at c q epoch ≡ epoch
      → (o : Option NodeState) → node_at c to ≡ o → counts_in o from q epoch ≡ true → ⊥
  none_there from to epoch u other at owns early first None down counts = absurd (cc)
  none_there from to epoch u other at owns early first (Some s) up counts = by s.view refl counts
    where
      far : era ≤ era_at c q s.epoch
      far = up_reached to s other up

      most : era_at c q s.epoch ≤ s.epoch
      most = eras_are_reached_law c q s.epoch acts.cluster

      member : IsMember c.config c.views to s
      member = (up_is_member_law c to s acts.cluster up).1

      owners : era ≤ epoch → ⊥
      owners late =
          let same : era_at c q epoch ≡ era_at c q v.epoch = first ∙ (let is_same : epoch ≡ era = omega (arith, late, early) in is_same) ∙ sym (era_is c v.epoch v known.owner.there q) in
          let here : to ≡ n = sym owns ∙ (sym (owner_is c epoch u at q) ∙ (eras_have_one_owner_law c q epoch v.epoch acts.cluster same ∙ (owner_is c v.epoch v known.owner.there q ∙ known.owner.owner))) in
          absurd (grind (arith, nat_tests, other, here))

      by : (o : Option View) → s.view ≡ o → counts_at s o from q epoch ≡ true → ⊥
      by None viewed counts =
          let after : s.epoch < epoch = grind (arith, nat_tests, counts) in
          omega (arith, after, early, far, most)
      by (Some k) viewed counts = of (counted_era s k from q epoch counts)
        where
          knows : KnowsEras c to s k
          knows = members_know_eras_law c to s k member viewed

          epochs : k.epoch ≡ s.epoch
          epochs = (subst (λ (o : Option View). IfSome o (Rattle.node_laws.specs.Nodes.IsViewOf s)) viewed member.sound.view).epoch

          of : (k.epoch < epoch) ⊎ (since_of k q ≤ epoch) → ⊥
          of (inl held) = let same = epochs in let high = far in let top = most in omega (arith, held, early, same, high, top)
          of (inr late) = let own = knows.eras q in let high = far in owners (omega (arith, late, own, high))

  one : (from to epoch : ℕ) (x : Body) (u : View) → view_of_epoch c.views epoch ≡ Some u → PartiesAre c u from to epoch x → speaks_of c.config p x ≡ true
      → counts_in (node_at (land c e n w) to) from q epoch ≡ true → (to ≡ n → is_report x ≡ true → era_at c q epoch ≡ era → (from ≡ n → ⊥) × (marked t from ≡ false)) → is_report x ≡ true → era < era_at c q epoch
  one from to epoch (body.Request r) u at parties speaks counts awaited report = absurd (cc)
  one from to epoch (body.Grant g) u at parties speaks counts awaited report = absurd (cc)
  one from to epoch (body.Release r) u at parties speaks counts awaited report = absurd (cc)
  one from to epoch (body.Revoke page) u at parties speaks counts awaited report = absurd (cc)
  one from to epoch (body.Return r) u at parties speaks counts awaited report = absurd (cc)
  one from to epoch (body.Report r) u at parties speaks counts awaited report = by (nat_lt era (era_at c q epoch)) refl
    where
      part : r.partition ≡ q
      part = eqb-true r.partition (partition c.config p) speaks

      first : era_at c q epoch ≡ epoch
      first = era_is c epoch u at q ∙ (ap (since_of u) (sym part) ∙ parties.1)

      owns : owner_of u q ≡ to
      owns = ap (owner_of u) (sym part) ∙ parties.0

      place : epoch ≤ era → (y : Bool) → (to == n) ≡ y → ⊥
      place early true same =
          let here : to ≡ n = eqb-true to n same in
          none_here from epoch
          (subst (λ (o : Option View). counts_at w.node o from q epoch ≡ true) ready.in_view (at_node c e n acts w to (λ o. counts_in o from q epoch ≡ true) here counts)) early first (awaited here refl)
      place early false other = none_there from to epoch u other at owns early first (node_at c to) refl (at_other c e n acts w to (λ o. counts_in o from q epoch ≡ true) other counts)

      by : (y : Bool) → nat_lt era (era_at c q epoch) ≡ y → era < era_at c q epoch
      by true test = grind (arith, nat_tests, test)
      by false test =
          let low : era_at c q epoch ≤ era = grind (arith, nat_tests, test) in
          absurd (place (omega (arith, low, first)) (to == n) refl)

  abbrev pub Later : Message → Type 0
  Later m = is_report m.body ≡ true → era < era_at (land c e n w) q m.epoch

  abbrev AwaitedHere : ℕ → ℕ → Message → Type 0
  AwaitedHere from to m = to ≡ n → IsAwaited c n q t era from m

  each : (from to : ℕ) (m : Message) → is_coming c.config p from (node_at (land c e n w) to) m ≡ true → IsParty c from to m × AwaitedHere from to m → Later m
  unfolding land era_at
  each from to m comes both =
      let parts = both_parts (speaks_of c.config p m.body) (counts_in (node_at (land c e n w) to) from (partition c.config p) m.epoch) comes in
      one from to m.epoch m.body both.0.view both.0.made both.0.parties parts.0 parts.1 both.1

  awaited_all : (from to : ℕ) → AllByRecursion (AwaitedHere from to) (coming (land c e n w) p from to)
  awaited_all from to = by (to == n) refl
    where
      all_of : ((m : Message) → AwaitedHere from to m) → (ms : List Message) → AllByRecursion (AwaitedHere from to) ms
      all_of f [] = tt
      all_of f (m ∷ ms) = (f m, all_of f ms)

      weak : (ms : List Message) → AllByRecursion (IsAwaited c n q t era from) ms → AllByRecursion (AwaitedHere from to) ms
      weak [] all = tt
      weak (m ∷ ms) all = (λ here. all.0, weak ms all.1)

      by : (y : Bool) → (to == n) ≡ y → AllByRecursion (AwaitedHere from to) (coming (land c e n w) p from to)
      by true same =
          weak (coming (land c e n w) p from to)
          (subst (λ (k : ℕ). AllByRecursion (IsAwaited c n q t era from) (coming (land c e n w) p from k)) (sym (eqb-true to n same)) (known.awaited from))
      by false other = all_of (λ m here. absurd (grind (arith, nat_tests, other, here))) (coming (land c e n w) p from to)

  pub reports : (from to : ℕ) → AllByRecursion Later (coming (land c e n w) p from to)
  reports from to =
      two_all (λ (m : Message). is_coming c.config p from (node_at (land c e n w) to) m ≡ true) (λ (m : Message). IsParty c from to m × AwaitedHere from to m) Later (each from to)
      (coming (land c e n w) p from to) (all_come c e n p from to w)
      (two_all (IsParty c from to) (AwaitedHere from to) (λ (m : Message). IsParty c from to m × AwaitedHere from to m) (λ m x y. (x, y)) (coming (land c e n w) p from to) (known.owner.parties from to)
      (awaited_all from to))
