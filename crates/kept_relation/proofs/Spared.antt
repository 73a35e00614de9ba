-- Nothing that comes and counts for a partition that a node keeps speaks of the dead.
use Rattle.std.proofs.Common.{◌≡◌, refl, ap, sym, subst, ◌∙◌, ℕ, ◌<◌, ◌≤◌, ◌==◌, ◌&&◌, ◌||◌, not, nat_le, nat_lt, cond, Bool, true, false, List, [], ◌∷◌, Option, Some, None, arith, eqb-true}
use Rattle.std.specs.List.{AllByRecursion, filter}
use Rattle.std.proofs.lemmas.Bool.Decides.{nat_tests}
use Rattle.pcl_base.specs.declared.event.Event.{Event}
use Rattle.pcl_base.specs.declared.lock.Verdict.TheVariants as verdict
use Rattle.pcl_base.specs.declared.message.Body.{Body}
use Rattle.pcl_base.specs.declared.message.Body.TheVariants as body
use Rattle.pcl_base.specs.declared.message.Message.{Message}
use Rattle.pcl_base.specs.declared.tx.TxId.{TxId}
use Rattle.run_rules.specs.Views.{View, born_of, is_live, owner_of, since_of}
use Rattle.node_rules.specs.Judging.{is_past, judge}
use Rattle.node_rules.specs.NodeState.{NodeState, number_of, owner_in, partition}
use Rattle.node_rules.specs.Words.{pick}
use Rattle.node_rules.specs.Work.{Work}
use Rattle.cluster_rules.specs.Clusters.{Cluster, node_at, view_of_epoch}
use Rattle.cluster_rules.specs.Links.{link_at}
use Rattle.cluster_laws.specs.Era.Counts.{counts_at, counts_in, is_dropped}
use Rattle.cluster_laws.specs.Era.Eras.{born_at, born_in, era_at, era_in, live_at, live_in, owner_at}
use Rattle.cluster_laws.proofs.EraParts.Ages.{births_are_reached_law, eras_are_reached_law, eras_have_one_owner_law}
use Rattle.cluster_laws.proofs.EraParts.Counted.{counting_is_of_life_law}
use Rattle.cluster_laws.proofs.EraParts.Lives.{lives_go_on_law}
use Rattle.cluster_laws.specs.Link.Coming.{coming, is_coming, speaks_of}
use Rattle.page_protocol.specs.State.{Page}
use Rattle.page_relation.specs.Messages.{SaysSo, is_answer}
use Rattle.page_relation.specs.Relation.{MessageIs}
use Rattle.page_relation.specs.Together.{IsParty, PartiesAre}
use Rattle.page_relation.specs.Work.Keeping.{IsWorkOf}
use Rattle.page_relation.specs.Work.Landing.{land, Acts}
use Rattle.page_relation.proofs.WorkParts.Nodes.{at_node, at_other}
use Rattle.kept_relation.specs.Emptying.{nobody}
use Rattle.kept_relation.specs.Purging.{IsSpared, SparedIn}
use Rattle.kept_relation.specs.Sparing.{ComingIsSpared, ComingIsSparedEarly, IsNoAnswer, OwnsIn, dead_in}
use Rattle.kept_relation.proofs.Unlisted.{later_life}

-- what passes a test
all_pass : (f : Message → Bool) (ms : List Message) → AllByRecursion (λ (m : Message). f m ≡ true) (filter f ms)
all_pass f [] = tt
all_pass f (m ∷ ms) = by (f m) refl (all_pass f ms)
  where
    by : (b : Bool) → f m ≡ b → AllByRecursion (λ (k : Message). f k ≡ true) (filter f ms) → AllByRecursion (λ (k : Message). f k ≡ true) (cond b (m ∷ filter f ms) (filter f ms))
    by true is rest = (is, rest)
    by false is rest = rest

three_all : (P Q R S : Message → Type 0) → ((m : Message) → P m → Q m → R m → S m) → (ms : List Message) → AllByRecursion P ms → AllByRecursion Q ms → AllByRecursion R ms → AllByRecursion S ms
three_all P Q R S f [] p q r = tt
three_all P Q R S f (m ∷ ms) p q r = (f m p.0 q.0 r.0, three_all P Q R S f ms p.1 q.1 r.1)

first_of : (x y : Bool) → (x && y) ≡ true → x ≡ true
first_of true y e = refl
first_of false y e = absurd (cc)

second : (x y : Bool) → (x && y) ≡ true → y ≡ true
second true y e = e
second false y e = absurd (cc)

-- what counts at a view that doesn't list the sender is of a later epoch
past_of_unlisted : (x y : Bool) → x ≡ false → (not x || y) ≡ true
past_of_unlisted true y e = absurd (cc)
past_of_unlisted false y e = refl

dropped_early : (s : NodeState) (v : View) (from q epoch : ℕ) → is_live v.live from ≡ false → epoch ≤ v.epoch → counts_at s (Some v) from q epoch ≡ false
unfolding judge
dropped_early s v from q epoch off early =
    let now : nat_lt v.epoch epoch ≡ false = grind (arith, nat_tests, early) in
    let past : is_past v (number_of s) from epoch q ≡ true =
    past_of_unlisted (is_live v.live from) (nat_lt epoch (born_of v from) || (nat_lt epoch (born_of v (number_of s)) || nat_lt epoch (since_of v q))) off in
    (λ i. not (is_dropped (pick (now i) verdict.Held (pick (past i) verdict.Dropped verdict.Taken))))

module _ (c : Cluster) (e : Event) (n p : ℕ) (v : View) (gone : ℕ → Bool) (w : Work) (era : ℕ) (acts : Acts c n) (i : OwnsIn c e n p v gone w era) where
  abbrev q : ℕ
  q = partition c.config p

  -- the owner of a message's era
  owner_is_acting : (epoch : ℕ) → era_at c q epoch ≡ era → owner_at c q epoch ≡ n
  owner_is_acting epoch same = eras_have_one_owner_law c q epoch v.epoch acts.cluster (same ∙ sym i.has) ∙ i.owner

  owner_in_view : (epoch : ℕ) (u : View) → view_of_epoch c.views epoch ≡ Some u → owner_at c q epoch ≡ owner_of u q
  unfolding owner_at
  owner_in_view epoch u at = ap (λ (o : Option View). owner_in o q) at

  live_in_view : (m epoch : ℕ) (u : View) → view_of_epoch c.views epoch ≡ Some u → live_at c m epoch ≡ is_live u.live m
  unfolding live_at
  live_in_view m epoch u at = ap (λ (o : Option View). live_in o m) at

  born_in_view : (m epoch : ℕ) (u : View) → view_of_epoch c.views epoch ≡ Some u → born_at c m epoch ≡ born_of u m
  unfolding born_at
  born_in_view m epoch u at = ap (λ (o : Option View). born_in o m) at

  -- a sender that isn't listed any more was born later
  born_later : (from epoch : ℕ) (u : View) → view_of_epoch c.views epoch ≡ Some u → is_live u.live from ≡ true → is_live v.live from ≡ false → v.epoch < epoch → v.epoch < born_of u from
  born_later from epoch u at on off later = by (nat_le (born_of u from) v.epoch) refl
    where
      by : (b : Bool) → nat_le (born_of u from) v.epoch ≡ b → v.epoch < born_of u from
      by true test =
          let early : born_of u from ≤ v.epoch = grind (arith, nat_tests, test) in
          let lives = lives_go_on_law c from epoch v.epoch acts.cluster (live_in_view from epoch u at ∙ on) (subst (λ (k : ℕ). k ≤ v.epoch) (sym (born_in_view from epoch u at)) early) (omega (arith, later)) in
          let bad : true ≡ false = sym lives.live ∙ (live_in_view from v.epoch v i.there ∙ off) in
          absurd (cc)
      by false test = grind (arith, nat_tests, test)

  -- what counts at the acting node
  counts_here : (from to epoch : ℕ) → to ≡ n → counts_in (node_at (land c e n w) to) from q epoch ≡ true → counts_at w.node (Some v) from q epoch ≡ true
  counts_here from to epoch same counts =
      subst (λ (o : Option View). counts_at w.node o from q epoch ≡ true) i.view (at_node c e n acts w to (λ o. counts_in o from q epoch ≡ true) same counts)

  alive_unless : (t : TxId) → (is_live v.live t.node ≡ false → v.epoch < t.born) → dead_in v t ≡ false
  alive_unless t later = by (is_live v.live t.node) refl
    where
      by : (b : Bool) → is_live v.live t.node ≡ b → (not b && nat_le t.born v.epoch) ≡ false
      by true on = refl
      by false off = let after = later off in grind (arith, nat_tests, after)

  -- a release
  release_spared : (from to epoch : ℕ) (t : TxId) (u : View) → view_of_epoch c.views epoch ≡ Some u → is_live u.live from ≡ true → owner_of u q ≡ to → t.node ≡ from → t.born ≡ born_of u from
      → counts_in (node_at (land c e n w) to) from q epoch ≡ true → era_at c q epoch ≡ era → dead_in v t ≡ false
  release_spared from to epoch t u at on owns home born counts same = alive_unless t late
    where
      here : to ≡ n
      here = sym owns ∙ (sym (owner_in_view epoch u at) ∙ owner_is_acting epoch same)

      late : is_live v.live t.node ≡ false → v.epoch < t.born
      late off =
          let off_from : is_live v.live from ≡ false = sym (ap (is_live v.live) home) ∙ off in
          by off_from (nat_le epoch v.epoch) refl
        where
          by : is_live v.live from ≡ false → (b : Bool) → nat_le epoch v.epoch ≡ b → v.epoch < t.born
          by off true test =
              let early : epoch ≤ v.epoch = grind (arith, nat_tests, test) in
              let bad : true ≡ false = sym (counts_here from to epoch here counts) ∙ dropped_early w.node v from q epoch off early in
              absurd (cc)
          by off false test =
              let later : v.epoch < epoch = grind (arith, nat_tests, test) in
              subst (λ (k : ℕ). v.epoch < k) (sym born) (born_later from epoch u at on off later)

  -- a grant
  grant_spared : (from to epoch : ℕ) (u : View) → view_of_epoch c.views epoch ≡ Some u → owner_of u q ≡ from → counts_in (node_at (land c e n w) to) from q epoch ≡ true
      → (from ≡ n → epoch ≤ v.epoch) → era_at c q epoch ≡ era → gone to ≡ false
  grant_spared from to epoch u at owns counts behind same = by (gone to) refl
    where
      early : epoch ≤ v.epoch
      early = behind (sym owns ∙ (sym (owner_in_view epoch u at) ∙ owner_is_acting epoch same))

      apart : is_live v.live to ≡ false → (b : Bool) → (to == n) ≡ b → b ≡ false
      apart off true test =
          let bad : false ≡ true = sym off ∙ (ap (is_live v.live) (eqb-true to n test) ∙ i.listed) in
          absurd (cc)
      apart off false test = refl

      never : is_live v.live to ≡ false → (o : Option NodeState) → node_at c to ≡ o → counts_in o from q epoch ≡ true → ⊥
      never off None down counts = absurd (cc)
      never off (Some s) up counts =
          let made = i.made in
          let life = (counting_is_of_life_law c to s from q epoch acts.cluster up (omega (arith, early, made)) counts).born in
          let later = later_life c n acts v i.there i.made to s up off in
          let reached = births_are_reached_law c to epoch acts.cluster in
          omega (arith, life, later, reached, early)

      by : (b : Bool) → gone to ≡ b → gone to ≡ false
      by true is =
          let off = i.unlisted to is in
          absurd (never off (node_at c to) refl (at_other c e n acts w to (λ o. counts_in o from q epoch ≡ true) (apart off (to == n) refl) counts))
      by false is = is

  -- a report to the era
  report_spared : (from to epoch : ℕ) (u : View) → view_of_epoch c.views epoch ≡ Some u → owner_of u q ≡ to → since_of u q ≡ epoch
      → counts_in (node_at (land c e n w) to) from q epoch ≡ true → era_at c q epoch ≡ era → (t : TxId) → t.node ≡ from → dead_in v t ≡ false
  unfolding era_at
  report_spared from to epoch u at owns since counts same t home = alive_unless t late
    where
      here : to ≡ n
      here = sym owns ∙ (sym (owner_in_view epoch u at) ∙ owner_is_acting epoch same)

      -- a report is of the era that its epoch begins
      first_epoch : era_at c q epoch ≡ epoch
      first_epoch = ap (λ (o : Option View). era_in o q) at ∙ since

      early : epoch ≤ v.epoch
      early =
          let reached = eras_are_reached_law c q v.epoch acts.cluster in
          let has = i.has in
          omega (arith, first_epoch, same, reached, has)

      late : is_live v.live t.node ≡ false → v.epoch < t.born
      late off =
          let off_from : is_live v.live from ≡ false = sym (ap (is_live v.live) home) ∙ off in
          let bad : true ≡ false = sym (counts_here from to epoch here counts) ∙ dropped_early w.node v from q epoch off_from early in
          absurd (cc)

  one_spared : (a : Page) → era ≡ a.era → (from to epoch : ℕ) (x : Body) (u : View) → view_of_epoch c.views epoch ≡ Some u → is_live u.live from ≡ true → PartiesAre c u from to epoch x
      → speaks_of c.config p x ≡ true → counts_in (node_at (land c e n w) to) from q epoch ≡ true → (from ≡ n → epoch ≤ v.epoch)
      → (gone from ≡ true → is_answer x ≡ true → era_at c q epoch ≡ era → ⊥)
      → SaysSo a.era a.hist a.reached a.listed a.right a.home a.sent p from to (era_at c q epoch) x → IsSpared a a.era (dead_in v) gone from to (era_at c q epoch) x
  one_spared a own from to epoch (body.Request r) u at on parties speaks counts behind none says = tt
  one_spared a own from to epoch (body.Grant g) u at on parties speaks counts behind none says =
      λ same. grant_spared from to epoch u at (ap (λ (k : ℕ). owner_of u (partition c.config k)) (sym (eqb-true g.page p speaks)) ∙ parties.0) counts behind (same ∙ sym own)
  one_spared a own from to epoch (body.Release r) u at on parties speaks counts behind none says =
      λ same.
      release_spared from to epoch r.tx u at on (ap (λ (k : ℕ). owner_of u (partition c.config k)) (sym (eqb-true r.page p speaks)) ∙ parties.0) parties.1.node parties.1.born counts (same ∙ sym own)
  one_spared a own from to epoch (body.Revoke page) u at on parties speaks counts behind none says = tt
  one_spared a own from to epoch (body.Return r) u at on parties speaks counts behind none says = λ same. by (gone from) refl same
    where
      by : (b : Bool) → gone from ≡ b → era_at c q epoch ≡ a.era → b ≡ false
      by true is same = absurd (none is refl (same ∙ sym own))
      by false is same = refl
  one_spared a own from to epoch (body.Report r) u at on parties speaks counts behind none says = λ same. let later = says.later in absurd (omega (arith, later, same))

  one_early : (a : Page) (from to epoch : ℕ) (x : Body) (u : View) → view_of_epoch c.views epoch ≡ Some u → is_live u.live from ≡ true → PartiesAre c u from to epoch x
      → speaks_of c.config p x ≡ true → counts_in (node_at (land c e n w) to) from q epoch ≡ true → IsSpared a era (dead_in v) nobody from to (era_at c q epoch) x
  one_early a from to epoch (body.Request r) u at on parties speaks counts = tt
  one_early a from to epoch (body.Grant g) u at on parties speaks counts = λ same. refl
  one_early a from to epoch (body.Release r) u at on parties speaks counts =
      λ same.
      release_spared from to epoch r.tx u at on (ap (λ (k : ℕ). owner_of u (partition c.config k)) (sym (eqb-true r.page p speaks)) ∙ parties.0) parties.1.node parties.1.born counts same
  one_early a from to epoch (body.Revoke page) u at on parties speaks counts = tt
  one_early a from to epoch (body.Return r) u at on parties speaks counts = λ same. refl
  one_early a from to epoch (body.Report r) u at on parties speaks counts =
      let part : r.partition ≡ q = eqb-true r.partition (partition c.config p) speaks in
      λ same. report_spared from to epoch u at (ap (owner_of u) (sym part) ∙ parties.0) (ap (since_of u) (sym part) ∙ parties.1) counts same

pub all_weak : (P Q : Message → Type 0) → ((m : Message) → P m → Q m) → (ms : List Message) → AllByRecursion P ms → AllByRecursion Q ms
all_weak P Q f [] p = tt
all_weak P Q f (m ∷ ms) p = (f m p.0, all_weak P Q f ms p.1)

all_of : (P : Message → Type 0) → ((m : Message) → P m) → (ms : List Message) → AllByRecursion P ms
all_of P f [] = tt
all_of P f (m ∷ ms) = (f m, all_of P f ms)

both_all : (P Q : Message → Type 0) (ms : List Message) → AllByRecursion P ms → AllByRecursion Q ms → AllByRecursion (λ (m : Message). P m × Q m) ms
both_all P Q [] p q = tt
both_all P Q (m ∷ ms) p q = ((p.0, q.0), both_all P Q ms p.1 q.1)

all_come : (c : Cluster) (e : Event) (n p from to : ℕ) (w : Work)
    → AllByRecursion (λ (m : Message). is_coming c.config p from (node_at (land c e n w) to) m ≡ true) (coming (land c e n w) p from to)
unfolding coming land
all_come c e n p from to w = all_pass (is_coming c.config p from (node_at (land c e n w) to)) (link_at (land c e n w).links from to)

all_say : (c : Cluster) (e : Event) (n p from to : ℕ) (w : Work) (a : Page) → IsWorkOf c e n p w a
    → AllByRecursion (MessageIs (land c e n w) p (partition c.config p) a from to) (coming (land c e n w) p from to)
unfolding land
all_say c e n p from to w a is = is.links.say from to

module _ (c : Cluster) (e : Event) (n p : ℕ) (v : View) (gone : ℕ → Bool) (w : Work) (a : Page) (acts : Acts c n) (i : OwnsIn c e n p v gone w a.era) (from to : ℕ) where
  abbrev Party : Message → Type 0
  Party m = IsParty c from to m × MessageIs (land c e n w) p (partition c.config p) a from to m

  abbrev Limits : Message → Type 0
  Limits m = (from ≡ n → m.epoch ≤ v.epoch) × (gone from ≡ true → IsNoAnswer (land c e n w) (partition c.config p) a.era m)

  limits : AllByRecursion Limits (coming (land c e n w) p from to)
  limits =
      both_all (λ (m : Message). from ≡ n → m.epoch ≤ v.epoch) (λ (m : Message). gone from ≡ true → IsNoAnswer (land c e n w) (partition c.config p) a.era m) (coming (land c e n w) p from to)
      (behind (from == n) refl) (silent (gone from) refl)
    where
      behind : (b : Bool) → (from == n) ≡ b → AllByRecursion (λ (m : Message). from ≡ n → m.epoch ≤ v.epoch) (coming (land c e n w) p from to)
      behind true test =
          all_weak (λ (m : Message). m.epoch ≤ v.epoch) (λ (m : Message). from ≡ n → m.epoch ≤ v.epoch) (λ m early same. early) (coming (land c e n w) p from to)
          (subst (λ (k : ℕ). AllByRecursion (λ (m : Message). m.epoch ≤ v.epoch) (coming (land c e n w) p k to)) (sym (eqb-true from n test)) (i.behind to))
      behind false test =
          all_of (λ (m : Message). from ≡ n → m.epoch ≤ v.epoch) (λ m same. absurd (grind (arith, nat_tests, test, same))) (coming (land c e n w) p from to)

      silent : (b : Bool) → gone from ≡ b → AllByRecursion (λ (m : Message). gone from ≡ true → IsNoAnswer (land c e n w) (partition c.config p) a.era m) (coming (land c e n w) p from to)
      silent true test =
          all_weak (IsNoAnswer (land c e n w) (partition c.config p) a.era) (λ (m : Message). gone from ≡ true → IsNoAnswer (land c e n w) (partition c.config p) a.era m) (λ m none is. none)
          (coming (land c e n w) p from to) (i.no_answers from to test)
      silent false test =
          all_of (λ (m : Message). gone from ≡ true → IsNoAnswer (land c e n w) (partition c.config p) a.era m) (λ m is. let bad : true ≡ false = sym is ∙ test in absurd (cc))
          (coming (land c e n w) p from to)

  each : (m : Message) → is_coming c.config p from (node_at (land c e n w) to) m ≡ true → Party m → Limits m → SparedIn (land c e n w) (partition c.config p) a a.era (dead_in v) gone from to m
  unfolding land era_at
  each m comes party limits =
      one_spared c e n p v gone w a.era acts i a refl from to m.epoch m.body party.0.view party.0.made party.0.live party.0.parties (first_of (speaks_of c.config p m.body) (counts_in (node_at (land c e n w) to) from (partition c.config p) m.epoch) comes)
      (second (speaks_of c.config p m.body) (counts_in (node_at (land c e n w) to) from (partition c.config p) m.epoch) comes) limits.0 limits.1 party.1

pub coming_is_spared_law : ComingIsSpared
coming_is_spared_law c e n p v gone w a acts is i from to =
    three_all (λ (m : Message). is_coming c.config p from (node_at (land c e n w) to) m ≡ true) (Party c e n p v gone w a acts i from to) (Limits c e n p v gone w a acts i from to)
    (SparedIn (land c e n w) (partition c.config p) a a.era (dead_in v) gone from to) (each c e n p v gone w a acts i from to) (coming (land c e n w) p from to)
    (all_come c e n p from to w)
    (both_all (IsParty c from to) (MessageIs (land c e n w) p (partition c.config p) a from to) (coming (land c e n w) p from to) (i.parties from to) (all_say c e n p from to w a is))
    (limits c e n p v gone w a acts i from to)

early_each : (c : Cluster) (e : Event) (n p : ℕ) (v : View) (w : Work) (era : ℕ) (a : Page) (acts : Acts c n) (i : OwnsIn c e n p v nobody w era) (from to : ℕ) (m : Message)
    → is_coming c.config p from (node_at (land c e n w) to) m ≡ true → IsParty c from to m → SparedIn (land c e n w) (partition c.config p) a era (dead_in v) nobody from to m
unfolding land era_at
early_each c e n p v w era a acts i from to m comes party =
    one_early c e n p v nobody w era acts i a from to m.epoch m.body party.view party.made party.live party.parties
    (first_of (speaks_of c.config p m.body) (counts_in (node_at (land c e n w) to) from (partition c.config p) m.epoch) comes)
    (second (speaks_of c.config p m.body) (counts_in (node_at (land c e n w) to) from (partition c.config p) m.epoch) comes)

pub coming_is_spared_early_law : ComingIsSparedEarly
coming_is_spared_early_law c e n p v era w a acts is i from to =
    all_weak (λ (m : Message). (is_coming c.config p from (node_at (land c e n w) to) m ≡ true) × IsParty c from to m)
    (SparedIn (land c e n w) (partition c.config p) a era (dead_in v) nobody from to) (λ m both. early_each c e n p v w era a acts i from to m both.0 both.1) (coming (land c e n w) p from to)
    (both_all (λ (m : Message). is_coming c.config p from (node_at (land c e n w) to) m ≡ true) (IsParty c from to) (coming (land c e n w) p from to) (all_come c e n p from to w) (i.parties from to))
