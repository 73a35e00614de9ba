-- Which births are known in a related cluster: those below the epoch of the owner that serves, and of nodes to which a grant comes.
use Rattle.std.proofs.Common.{◌≡◌, refl, sym, ap, subst, ◌∙◌, ℕ, ◌<◌, ◌≤◌, ◌==◌, not, cond, nat_lt, Bool, true, false, List, [], ◌∷◌, Option, Some, None, is_some, arith}
use Rattle.std.specs.Prelude.{IfSome}
use Rattle.std.specs.List.{AllByRecursion, filter}
use Rattle.std.proofs.lemmas.Bool.Decides.{nat_tests}
use Rattle.std.proofs.lemmas.Nat.{mod_below}
use Rattle.pcl_base.specs.Limits.{Sizes}
use Rattle.pcl_base.specs.declared.lock.Verdict.TheVariants as verdict
use Rattle.pcl_base.specs.declared.message.Body.TheVariants as body
use Rattle.pcl_base.specs.declared.message.Grant.{Grant}
use Rattle.pcl_base.specs.declared.message.Message.{Message}
use Rattle.run_rules.specs.Views.{View, owner_of, born_of}
use Rattle.rule_laws.specs.LaterViews.{IsBetween}
use Rattle.rule_laws.proofs.Successors.{taken_is_between_law}
use Rattle.node_rules.specs.InstallRule.{owned_before}
use Rattle.node_rules.specs.Judging.{judge}
use Rattle.node_rules.specs.LockTable.{LockTable}
use Rattle.node_rules.specs.NodeState.{NodeState, number_of, table_at, partition, owner_in}
use Rattle.node_rules.specs.Words.{head_of}
use Rattle.node_laws.specs.Nodes.{IsViewOf}
use Rattle.cluster_rules.specs.Clusters.{Cluster, node_at, last_view}
use Rattle.cluster_rules.specs.Links.{link_at, head_at}
use Rattle.cluster_laws.specs.Sound.{IsMember, IsCluster, IsOnLink}
use Rattle.cluster_laws.proofs.Lists.{both_true}
use Rattle.cluster_laws.proofs.Steps.{up_is_member_law}
use Rattle.cluster_laws.specs.Era.Counts.{is_dropped, counts_in}
use Rattle.cluster_laws.specs.Era.CountLaws.{IsOfView}
use Rattle.cluster_laws.specs.Era.Eras.{era_in, era_at, owner_at, born_at}
use Rattle.cluster_laws.proofs.EraParts.Ages.{eras_never_fall_law, eras_are_reached_law, births_are_reached_law, eras_go_on_law, eras_have_one_owner_law}
use Rattle.cluster_laws.proofs.EraParts.Counted.{counting_is_of_view_law}
use Rattle.cluster_laws.proofs.EraParts.Lives.{members_know_eras_law}
use Rattle.cluster_laws.specs.Link.Coming.{speaks_of, is_coming, coming}
use Rattle.cluster_laws.specs.Link.EpochLaws.{IsInOrder}
use Rattle.page_protocol.specs.State.{Page}
use Rattle.page_relation.specs.Messages.{SaysSo}
use Rattle.page_relation.specs.Relation.{MessageIs, IsPageOf}
use Rattle.page_relation.specs.Tables.{TableIs, TableIn, TableOf, ReachedBy, ReachedIn}
use Rattle.page_relation.specs.Together.{PartiesAre, IsParty}
use Rattle.related_runs.specs.Parties.{HaveParties}
use Rattle.cluster_facts.proofs.WaitingParts.Coming.{head_all}
use Rattle.cluster_facts.specs.Known.Births.{KnownBirth, ServedAreKnown, GrantedAreKnown}

-- ---- numbers
pub below_or_not : (m n : ℕ) → (n ≤ m → ⊥) → m < n
below_or_not m n never = by (nat_lt m n) refl
  where
    by : (b : Bool) → nat_lt m n ≡ b → m < n
    by true e = grind (arith, nat_tests, e)
    by false e = absurd (never (grind (arith, nat_tests, e)))

upto_or_not : (m n : ℕ) → (n < m → ⊥) → m ≤ n
upto_or_not m n never = by (nat_lt n m) refl
  where
    by : (b : Bool) → nat_lt n m ≡ b → m ≤ n
    by true e = absurd (never (grind (arith, nat_tests, e)))
    by false e = grind (arith, nat_tests, e)

-- the first of those that pass a test
head_passes : (P : Message → Type 0) (f : Message → Bool) (ms : List Message) (m : Message) → AllByRecursion P (filter f ms) → head_of ms ≡ Some m → f m ≡ true → P m
head_passes P f [] m all e is = absurd (cc)
head_passes P f (x ∷ ms) m all e is =
    let same : x ≡ m = cc in
    subst P same (by (f x) (ap f same ∙ is) all)
  where
    by : (b : Bool) → b ≡ true → AllByRecursion P (cond b (x ∷ filter f ms) (filter f ms)) → P x
    by true t all = all.0
    by false t all = absurd (cc)

-- ---- eras of a cluster
module _ (c : Cluster) (i : IsCluster c) (q : ℕ) where
  pub member_of : (n : ℕ) (s : NodeState) → node_at c n ≡ Some s → IsMember c.config c.views n s
  member_of n s up = (up_is_member_law c n s i up).1

  -- an epoch whose era is earlier than one that there is comes before it
  pub before_era : (e k x : ℕ) → x ≤ (last_view c).epoch → k ≡ era_at c q x → e ≤ (last_view c).epoch → era_at c q e < k → e < k
  before_era e k x low at made less =
      below_or_not e k
      (λ le.
      let upto = eras_are_reached_law c q x i in
      let here : era_at c q k ≡ era_at c q x = eras_go_on_law c q x k i low (omega (arith, at)) (omega (arith, upto, at)) in
      let on = eras_never_fall_law c q k e i le made in
      omega (arith, here, on, at, less))

  -- a node with a table is in a view, whose owner of the partition it is
  pub record OwnsIn (n : ℕ) (s : NodeState) : Type 0 where
    pub view : View
    pub there : s.view ≡ Some view
    pub owner : owner_at c q s.epoch ≡ n
    pub era : era_at c q s.epoch ≡ era_in s.view q

  pub owns_in : q < c.config.nodes → (n : ℕ) (s : NodeState) (t : LockTable) → IsMember c.config c.views n s → table_at s q ≡ Some t → OwnsIn n s
  owns_in low n s t member at = by s.view refl owned
    where
      owned : owned_before s.view q n ≡ true
      owned =
          ap (λ (k : ℕ). owned_before s.view q k) (sym member.number)
          ∙ sym (member.sound.owned q (subst (λ (k : Sizes). q < k.nodes) (sym member.config) low)) ∙ ap (λ (o : Option LockTable). is_some o) at

      by : (o : Option View) → s.view ≡ o → owned_before o q n ≡ true → OwnsIn n s
      by None e is = absurd (cc)
      by (Some v) e is =
          let knows = members_know_eras_law c n s v member e in
          record {
            view = v;
            there = e;
            owner = knows.owners q ∙ grind (arith, nat_tests, is);
            era = knows.eras q ∙ ap (λ (o : Option View). era_in o q) (sym e);
          }

module _ (c : Cluster) (i : IsCluster c) (p : ℕ) (a : Page) (r : IsPageOf c p a) where
  q : ℕ
  q = partition c.config p

  low : partition c.config p < c.config.nodes
  low = mod_below p c.config.nodes i.limits.some_nodes

  -- each node that is up has reached the era that serves
  reached_era : (n : ℕ) (s : NodeState) → node_at c n ≡ Some s → a.era ≤ era_at c (partition c.config p) s.epoch
  reached_era n s up = by s.view refl (subst (λ (o : Option NodeState). ReachedIn c (partition c.config p) a.era o (a.reached n)) up (r.nodes.eras n))
    where
      by : (o : Option View) → s.view ≡ o → ReachedBy c (partition c.config p) a.era s o (a.reached n) → a.era ≤ era_at c (partition c.config p) s.epoch
      by None e k = k.1
      by (Some v) e k =
          subst (λ (x : ℕ). a.era ≤ x) (k.0 ∙ sym ((members_know_eras_law c n s v (member_of c i (partition c.config p) n s up) e).eras (partition c.config p))) k.1

  table_is : (n : ℕ) (s : NodeState) (t : LockTable) (b : Bool) → node_at c n ≡ Some s → table_at s (partition c.config p) ≡ Some t → t.serving ≡ b → TableIs a p n (era_in s.view (partition c.config p)) b t
  table_is n s t b up at serves =
      subst (λ (x : Bool). TableIs a p n (era_in s.view (partition c.config p)) x t) serves
      (subst (TableIn a p n (era_in s.view (partition c.config p))) at (subst (TableOf a p (partition c.config p) n) up (r.tables.tables n)))

  -- a birth of no later era than the one that serves, whose epoch the owner has reached
  known_by : (birth : ℕ) → birth ≤ (last_view c).epoch → era_at c (partition c.config p) birth ≤ a.era
      → ((n : ℕ) (s : NodeState) (t : LockTable) → node_at c n ≡ Some s → table_at s (partition c.config p) ≡ Some t → t.serving ≡ true → birth ≤ s.epoch) → KnownBirth c (partition c.config p) birth
  known_by birth made upto served =
      record {
        made = made;
        reached = λ n s up. let on = reached_era n s up in omega (arith, upto, on);
        served = served;
        rebuilt = λ n s t up at serves.
            let is : TableIs a p n (era_in s.view (partition c.config p)) false t = table_is n s t false up at serves in
            let later = is.later in
            before_era c i (partition c.config p) birth (era_in s.view (partition c.config p)) s.epoch (member_of c i (partition c.config p) n s up).reached
            (sym (owns_in c i (partition c.config p) low n s t (member_of c i (partition c.config p) n s up) at).era) made (omega (arith, upto, later));
      }

  served_known : (n : ℕ) (s : NodeState) (t : LockTable) (birth : ℕ) → node_at c n ≡ Some s → table_at s (partition c.config p) ≡ Some t → t.serving ≡ true → birth ≤ s.epoch → KnownBirth c (partition c.config p) birth
  served_known n s t birth up at serves le = known_by birth (omega (arith, le, reached)) upto also
    where
      is : TableIs a p n (era_in s.view (partition c.config p)) true t
      is = table_is n s t true up at serves

      reached : s.epoch ≤ (last_view c).epoch
      reached = (member_of c i (partition c.config p) n s up).reached

      upto : era_at c (partition c.config p) birth ≤ a.era
      upto =
          let on = eras_never_fall_law c (partition c.config p) birth s.epoch i le reached in
          let now = is.now in
          let era = (owns_in c i (partition c.config p) low n s t (member_of c i (partition c.config p) n s up) at).era in
          omega (arith, on, now, era)

      also : (m : ℕ) (x : NodeState) (u : LockTable) → node_at c m ≡ Some x → table_at x (partition c.config p) ≡ Some u → u.serving ≡ true → birth ≤ x.epoch
      also m x u there has it =
          let other : TableIs a p m (era_in x.view (partition c.config p)) true u = table_is m x u true there has it in
          let same : Some x ≡ Some s = sym there ∙ ap (node_at c) (other.here ∙ sym is.here) ∙ up in
          let state : x ≡ s = cc in
          subst (λ (y : NodeState). birth ≤ y.epoch) (sym state) le

  module _ (order : IsInOrder c) (parties : HaveParties c) (n : ℕ) (s : NodeState) (v : View) (from : ℕ) (m : Message) (g : Grant) (up : node_at c n ≡ Some s) (there : s.view ≡ Some v)
      (head : head_at c.links from n ≡ Some m) (says : m.body ≡ body.Grant g) (page : g.page ≡ p) (taken : judge v (number_of s) from m.epoch (partition c.config p) ≡ verdict.Taken) where
    member : IsMember c.config c.views n s
    member = member_of c i (partition c.config p) n s up

    on_link : IsOnLink c.config (last_view c).epoch from n m
    on_link = head_all (IsOnLink c.config (last_view c).epoch from n) (link_at c.links from n) m (i.links.messages from n) head

    party : IsParty c from n m
    party = head_all (IsParty c from n) (link_at c.links from n) m (parties from n) head

    counts : counts_in (Some s) from (partition c.config p) m.epoch ≡ true
    counts = subst (λ (o : Option View). counts_in (Some (record s { view = o })) from (partition c.config p) m.epoch ≡ true) (sym there) (ap (λ x. not (is_dropped x)) taken)

    of_view : IsOfView c v n from (partition c.config p) m.epoch
    of_view =
        let between : IsBetween v (number_of s) from m.epoch (partition c.config p) = (taken_is_between_law v (number_of s) from m.epoch (partition c.config p)).0 taken in
        counting_is_of_view_law c n s v from (partition c.config p) m.epoch i up there (ap (λ x. not (is_dropped x)) taken) between.reached

    comes : is_coming c.config p from (node_at c n) m ≡ true
    comes =
        both_true (speaks_of c.config p m.body) (counts_in (node_at c n) from (partition c.config p) m.epoch)
        (ap (speaks_of c.config p) says ∙ ap (λ (k : ℕ). k == p) page ∙ grind (arith, nat_tests))
        (ap (λ (o : Option NodeState). counts_in o from (partition c.config p) m.epoch) up ∙ counts)

    grant_says : era_at c (partition c.config p) m.epoch ≤ a.era
    unfolding coming
    grant_says =
        (subst (SaysSo a.era a.hist a.reached a.listed a.right a.home a.sent p from n (era_at c (partition c.config p) m.epoch)) says
        (head_passes (MessageIs c p (partition c.config p) a from n) (is_coming c.config p from (node_at c n)) (link_at c.links from n) m (r.links.say from n) head comes)).0

    birth_is : born_at c n m.epoch ≡ s.home.txs.born
    birth_is =
        let of : IsViewOf s v = subst (λ (o : Option View). IfSome o (IsViewOf s)) there member.sound.view in
        of_view.receiver.born ∙ ap (born_of v) (sym member.number) ∙ of.born

    birth_low : s.home.txs.born ≤ m.epoch
    birth_low = subst (λ (k : ℕ). k ≤ m.epoch) birth_is (births_are_reached_law c n m.epoch i)

    era_low : era_at c (partition c.config p) s.home.txs.born ≤ era_at c (partition c.config p) m.epoch
    era_low = eras_never_fall_law c (partition c.config p) s.home.txs.born m.epoch i birth_low on_link.epoch

    sender_owns : owner_at c (partition c.config p) m.epoch ≡ from
    unfolding owner_at
    sender_owns =
        let are : PartiesAre c party.view from n m.epoch (body.Grant g) = subst (PartiesAre c party.view from n m.epoch) says party.parties in
        ap (λ (o : Option View). owner_in o (partition c.config p)) party.made ∙ ap (λ (k : ℕ). owner_of party.view (partition c.config k)) (sym page) ∙ are.0

    owner_reached : (k : ℕ) (x : NodeState) (t : LockTable) → node_at c k ≡ Some x → table_at x (partition c.config p) ≡ Some t → t.serving ≡ true → s.home.txs.born ≤ x.epoch
    owner_reached k x t at has serves = upto_or_not s.home.txs.born x.epoch never
      where
        is : TableIs a p k (era_in x.view (partition c.config p)) true t
        is = table_is k x t true at has serves

        owns : OwnsIn c i (partition c.config p) k x
        owns = owns_in c i (partition c.config p) low k x t (member_of c i (partition c.config p) k x at) has

        never : x.epoch < s.home.txs.born → ⊥
        never less =
            let upto : s.home.txs.born ≤ (last_view c).epoch = (let a = birth_low in let b = on_link.epoch in omega (arith, a, b)) in
            let on = eras_never_fall_law c (partition c.config p) x.epoch s.home.txs.born i (omega (arith, less)) upto in
            let now = is.now in
            let era = owns.era in
            let era_low = era_low in
            let says = grant_says in
            let one : era_at c (partition c.config p) m.epoch ≡ era_at c (partition c.config p) x.epoch = omega (arith, on, now, era, era_low, says) in
            let owner : from ≡ k = sym sender_owns ∙ eras_have_one_owner_law c (partition c.config p) m.epoch x.epoch i one ∙ owns.owner in
            let behind = subst (λ (o : Option NodeState). IfSome o (λ (y : NodeState). AllByRecursion (λ (z : Message). z.epoch ≤ y.epoch) (link_at c.links from n))) (ap (node_at c) owner ∙ at) (order.behind from n) in
            let sent : m.epoch ≤ x.epoch = head_all (λ (z : Message). z.epoch ≤ x.epoch) (link_at c.links from n) m behind head in
            let low = birth_low in
            omega (arith, less, sent, low)

    granted_known : KnownBirth c (partition c.config p) s.home.txs.born
    granted_known =
        let low = birth_low in
        let on = on_link.epoch in
        let era = era_low in
        let says = grant_says in
        known_by s.home.txs.born (omega (arith, low, on)) (omega (arith, era, says)) owner_reached

pub served_are_known_law : ServedAreKnown
served_are_known_law c p a n s t birth i r up at serves le = served_known c i p a r n s t birth up at serves le

pub granted_are_known_law : GrantedAreKnown
granted_are_known_law c p a n s v from m g i order parties r up there head says page taken = granted_known c i p a r order parties n s v from m g up there head says page taken
