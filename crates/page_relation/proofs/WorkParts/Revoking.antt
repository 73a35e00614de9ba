-- A revocation that is taken.
use Rattle.std.proofs.Common.{◌≡◌, ◌≢◌, refl, ap, sym, subst, ◌∙◌, ℕ, suc, ◌≤◌, ◌==◌, ◌&&◌, nat_lt, not, cond, Bool, true, false, List, [], ◌∷◌, length, Option, Some, None, is_some, arith, eqb-true}
use Rattle.std.specs.Prelude.{IfSome}
use Rattle.std.specs.List.{AllByRecursion, filter}
use Rattle.std.proofs.lemmas.Bool.Decides.{nat_tests}
use Rattle.pcl_base.specs.declared.event.Event.{Event}
use Rattle.pcl_base.specs.declared.event.Event.TheVariants as event
use Rattle.pcl_base.specs.Limits.{Sizes}
use Rattle.pcl_base.specs.declared.lock.Kind.TheVariants as kind
use Rattle.pcl_base.specs.declared.message.Body.{Body}
use Rattle.pcl_base.specs.declared.message.Body.TheVariants as body
use Rattle.pcl_base.specs.declared.message.Message.{Message}
use Rattle.pcl_base.specs.declared.reply.Reason.TheVariants as reason
use Rattle.pcl_base.specs.declared.tx.TxId.{TxId}
use Rattle.run_rules.specs.Views.{View, owner_of}
use Rattle.node_rules.specs.AccessRule.{Answered, on_revoke, spend_right}
use Rattle.node_rules.specs.DiskCalls.{DiskCall}
use Rattle.node_rules.specs.InstallRule.{owned_before}
use Rattle.node_rules.specs.NodeState.{NodeState, Deliver, number_of, partition}
use Rattle.node_rules.specs.NodeStep.{take_revoke, work_off}
use Rattle.node_rules.specs.Refusals.{refusal, refuse_if}
use Rattle.node_rules.specs.Shelf as rules
use Rattle.node_rules.specs.Shelf.{right_on}
use Rattle.node_rules.specs.Work.{Work, Outcome, Goes, send}
use Rattle.node_laws.proofs.Lists.{all_weaker}
use Rattle.node_rules.specs.Words.{pick}
use Rattle.cluster_rules.specs.Clusters.{Cluster, node_at, last_view, stop_at}
use Rattle.cluster_rules.specs.ClusterStep.{left_of, step}
use Rattle.cluster_rules.specs.Links.{link_at, tail_of}
use Rattle.cluster_laws.specs.Handed.{IsHanded}
use Rattle.cluster_laws.specs.Sound.{IsMember, IsOnLink, IsCluster}
use Rattle.cluster_laws.proofs.Steps.{up_is_member_law}
use Rattle.cluster_laws.specs.Era.Counts.{counts_at, counts_in}
use Rattle.cluster_laws.specs.Era.Eras.{era_at}
use Rattle.cluster_laws.proofs.EraParts.Ages.{eras_never_fall_law, owner_is}
use Rattle.cluster_laws.proofs.EraParts.Counted.{counting_is_of_view_law}
use Rattle.cluster_laws.proofs.EraParts.Lives.{members_know_eras_law, stands}
use Rattle.cluster_laws.specs.Link.Coming.{speaks_of, is_coming, coming, delivers}
use Rattle.cluster_laws.specs.Link.EpochLaws.{IsInOrder}
use Rattle.cluster_laws.specs.Link.Orders.{how_many}
use Rattle.page_laws.specs.Look.Grants.{IsSpent, IsRevoked}
use Rattle.page_laws.proofs.LookParts.Granting.{spending_is_seen_law, revoking_is_seen_law}
use Rattle.page_protocol.specs.Authority.{HaveUsed, spending}
use Rattle.page_protocol.specs.State.{Shelf, Returning, Page}
use Rattle.page_protocol.specs.Steps.{here, then}
use Rattle.page_relation.specs.Messages.{SaysSo, is_answer}
use Rattle.page_relation.specs.Relation.{MessageIs, IsPageOf}
use Rattle.page_relation.specs.Together.{PartiesAre, IsParty}
use Rattle.page_relation.specs.Work.Events.{IsEntered}
use Rattle.page_relation.specs.Work.Landing.{land, Acts}
use Rattle.page_relation.specs.Work.Revoking.{BackIsNotEarlier, RevokeIsKept}
use Rattle.page_relation.specs.Work.Sends.{MaySend}
use Rattle.page_relation.specs.Work.Spending.{spent, MaySpend, IsSpending}
use Rattle.page_relation.specs.Work.StepEnds.{start_of, Follows}
use Rattle.page_relation.specs.Work.Taken.{taken_of, TakenSays}
use Rattle.page_relation.specs.Work.Unseen.{IsUnseen}
use Rattle.page_relation.proofs.WorkParts.Comings.{coming_same}
use Rattle.page_relation.proofs.WorkParts.Ended.{end_is_landed_law, no_calls}
use Rattle.page_relation.proofs.WorkParts.Framing.{standing_self, unseen_is_kept_law, unseen_self, unseen_then}
use Rattle.page_relation.proofs.WorkParts.Quiet.{sends_elsewhere_law}
use Rattle.page_relation.proofs.WorkParts.Sending.{nothing_is_ahead_law, send_is_kept_law}
use Rattle.page_relation.proofs.WorkParts.Spending.{own_page, right_here, shelf_is, spending_is_step_law, spends_elsewhere_law, spent_standing}
use Rattle.page_relation.proofs.WorkParts.Started.{acting, begun_coming, deliver_is, at_head}
use Rattle.page_relation.proofs.WorkParts.Taking.{taken_is_said_law}

-- ---- what comes back

filtered : (P : Message → Type 0) (f : Message → Bool) (ms : List Message) → AllByRecursion (λ m. f m ≡ true → P m) ms → AllByRecursion P (filter f ms)
filtered P f [] all = tt
filtered P f (m ∷ ms) all = by (f m) refl (filtered P f ms all.1)
  where
    by : (b : Bool) → f m ≡ b → AllByRecursion P (filter f ms) → AllByRecursion P (cond b (m ∷ filter f ms) (filter f ms))
    by true is rest = (all.0 is, rest)
    by false is rest = rest

both_right : (a b : Bool) → (a && b) ≡ true → b ≡ true
both_right true b e = e
both_right false b e = absurd (cc)

-- a message that counts at a node is of no earlier era than the node's epoch, or an earlier epoch
counted_era : (c : Cluster) (q a b low k : ℕ) (s : NodeState) → IsCluster c → node_at c a ≡ Some s → low ≤ s.epoch → k ≤ (last_view c).epoch → counts_in (Some s) b q k ≡ true
    → era_at c q low ≤ era_at c q k
counted_era c q a b low k s i up below upto counts = by s.view refl counts
  where
    member : IsMember c.config c.views a s
    member = (up_is_member_law c a s i up).1

    later : s.epoch ≤ k → era_at c q low ≤ era_at c q k
    later le = eras_never_fall_law c q low k i (omega (arith, below, le)) upto

    own : (v : View) → s.view ≡ Some v → counts_at s (Some v) b q k ≡ true → (x : Bool) → nat_lt s.epoch k ≡ x → era_at c q low ≤ era_at c q k
    own v is count true le = later (grind (arith, nat_tests))
    own v is count false le =
        let at = (stands c a s v member is).epoch in
        let within : k ≤ v.epoch = (let most : k ≤ s.epoch = grind (arith, nat_tests, le) in omega (arith, most, at)) in
        let same : era_at c q k ≡ era_at c q s.epoch =
        (counting_is_of_view_law c a s v b q k i up is count within).era ∙ sym ((members_know_eras_law c a s v member is).eras q) in
        subst (λ (x : ℕ). era_at c q low ≤ x) (sym same) (eras_never_fall_law c q low s.epoch i below member.reached)

    by : (o : Option View) → s.view ≡ o → counts_at s o b q k ≡ true → era_at c q low ≤ era_at c q k
    by None is count = later (grind (arith, nat_tests, count))
    by (Some v) is count = own v is count (nat_lt s.epoch k) refl

pub back_is_not_earlier_law : BackIsNotEarlier
unfolding coming
back_is_not_earlier_law c p a b m rest i order there =
    filtered _ (is_coming c.config p b (node_at c a)) (link_at c.links b a)
    (all_weaker (IsOnLink c.config (last_view c).epoch b a) _
    (λ k on comes. by (node_at c a) refl k on.epoch (both_right (speaks_of c.config p k.body) (counts_in (node_at c a) b (partition c.config p) k.epoch) comes))
    (link_at c.links b a) (i.links.messages b a))
  where
    by : (o : Option NodeState) → node_at c a ≡ o → (k : Message) → k.epoch ≤ (last_view c).epoch → counts_in o b (partition c.config p) k.epoch ≡ true
        → era_at c (partition c.config p) m.epoch ≤ era_at c (partition c.config p) k.epoch
    by None up k upto counts = absurd (cc)
    by (Some s) up k upto counts =
        counted_era c (partition c.config p) a b m.epoch k.epoch s i up
        (subst (AllByRecursion (λ (x : Message). x.epoch ≤ s.epoch)) there
        (subst (λ (o : Option NodeState). IfSome o (λ x. AllByRecursion (λ (y : Message). y.epoch ≤ x.epoch) (link_at c.links a b))) up (order.behind a b))).0
        upto counts

-- ---- the answer

none_of_kind : (kind : Body → Bool) (ms : List Message) → AllByRecursion (λ (k : Message). kind k.body ≡ false) ms → how_many kind ms ≡ 0
none_of_kind kind [] all = refl
none_of_kind kind (m ∷ ms) all = by (kind m.body) all.0 (none_of_kind kind ms all.1)
  where
    by : (b : Bool) → b ≡ false → how_many kind ms ≡ 0 → length (cond b (m ∷ filter (λ (k : Message). kind k.body) ms) (filter (λ (k : Message). kind k.body) ms)) ≡ 0
    by true is rest = absurd (cc)
    by false is rest = rest

-- a message of the era that serves is no answer of a node that has its right
no_answer_says : (a : Page) (p n to e v : ℕ) (b : Body) → a.right n ≡ Shelf v → a.era ≤ e → SaysSo a.era a.hist a.reached a.listed a.right a.home a.sent p n to e b → is_answer b ≡ false
no_answer_says a p n to e v (body.Request r) shelf low says = refl
no_answer_says a p n to e v (body.Grant g) shelf low says = refl
no_answer_says a p n to e v (body.Release r) shelf low says = refl
no_answer_says a p n to e v (body.Revoke page) shelf low says = refl
no_answer_says a p n to e v (body.Return r) shelf low says =
    let most = says.0 in
    let now : e ≡ a.era = omega (arith, low, most) in
    let bad : Shelf v ≡ Returning (suc a.era) r.readers = sym shelf ∙ says.1 now in
    absurd (cc)
no_answer_says a p n to e v (body.Report r) shelf low says = refl

two_all : (P Q R : Message → Type 0) → ((m : Message) → P m → Q m → R m) → (ms : List Message) → AllByRecursion P ms → AllByRecursion Q ms → AllByRecursion R ms
two_all P Q R f [] p q = tt
two_all P Q R f (m ∷ ms) p q = (f m p.0 q.0, two_all P Q R f ms p.1 q.1)

says_return : (a : Page) (n p to e : ℕ) (r : rules.Right) (v : ℕ) (page : ℕ) → a.right n ≡ Shelf v → e ≡ a.era
    → let b : Page = spending a n (suc a.era) r.readers in
    SaysSo b.era b.hist b.reached b.listed b.right b.home b.sent p n to e (body.Return (record { page = page; readers = r.readers }))
unfolding spending
says_return a n p to e r v page shelf same = (subst (λ (k : ℕ). k ≤ a.era) (sym same) (omega arith), λ now. right_here a n v r.readers shelf)

spending_entered : (a : Page) (n upto : ℕ) (readers : List TxId) → IsEntered a → IsEntered (spending a n upto readers)
unfolding spending
spending_entered a n upto readers is = is

-- ---- the event

deliver_free : (s : NodeState) (v : View) (from : ℕ) (m : Message) → s.view ≡ Some v → refusal s (Deliver from m) ≡ None
unfolding refusal
deliver_free s v from m is = ap (λ (o : Option View). refuse_if (not (is_some o)) reason.NotInView None) is

-- what a revocation is worked off to
revoked_to : (c : Cluster) (from page : ℕ) (b : Body) (w : Work) (x : Answered) → b ≡ body.Revoke page → on_revoke page w.node.home ≡ x
    → work_off c.disk from b w ≡ Goes (take_revoke from w x)
revoked_to c from page b w x is answers =
    ap (λ (k : Body). work_off c.disk from k w) is ∙ ap (λ (y : Answered). let o : Outcome Work = Goes (take_revoke from w y) in o) answers

-- the answer as it is sent
abbrev answered : ℕ → ℕ → rules.Right → Work → Work
answered from page r w = send from (body.Return (record { page = page; readers = r.readers })) (spent page w)

module _ (c : Cluster) (e : Event) (n p from : ℕ) (s : NodeState) (m : Message) (a : Page) (i : IsCluster c) (order : IsInOrder c) (h : IsHanded c e n s (Deliver from m)) where
  acts : Acts c n
  acts = acting c e n s (Deliver from m) i h

  head : (e ≡ event.Deliver from n) × (link_at c.links from n ≡ m ∷ tail_of (link_at c.links from n))
  head = let is = deliver_is c e n s from m h.acts h.event in (is.0, at_head m (link_at c.links from n) is.1)

  apart : from ≢ n
  apart = (subst (AllByRecursion (IsOnLink c.config (last_view c).epoch from n)) head.1 (i.links.messages from n)).0.others

  not_same : (from == n) ≡ false
  not_same = by (from == n) refl
    where
      by : (b : Bool) → (from == n) ≡ b → b ≡ false
      by true is = absurd (apart (eqb-true from n is))
      by false is = refl

  ends : (x : Work) → TakenSays c e n p a s from m → work_off c.disk from m.body (taken_of c s) ≡ Goes x → x.calls ≡ [] → step c e ≡ land c e n x
  ends x said goes calls =
      end_is_landed_law c e n s (Deliver from m) x h (deliver_free s said.view from m said.in_view) (said.goes_on ∙ goes)
      (ap (λ (cs : List DiskCall). left_of n c.disk cs (stop_at c n)) calls ∙ no_calls n c.disk (stop_at c n))

  -- what comes back is what came before
  back_same : coming (land c e n (taken_of c s)) p n from ≡ coming c p n from
  unfolding coming
  back_same =
      coming_same c e n p acts (start_of c s) (taken_of c s) (standing_self s) refl (λ b. refl) n from
      ∙ begun_coming c e n p s (Deliver from m) i h [] n from
      ∙ ap (λ (b : Bool). filter (is_coming c.config p n (node_at c from)) (pick (b && true) (tail_of (link_at c.links n from)) (link_at c.links n from)))
      (ap (λ (x : Event). delivers x n from) head.0 ∙ not_back (n == from) refl)
    where
      not_back : (b : Bool) → (n == from) ≡ b → (b && from == n) ≡ false
      not_back true is = absurd (apart (sym (eqb-true n from is)))
      not_back false is = refl

  -- no answer comes back while the node has its right
  no_answer_back : (r : rules.Right) → a.right n ≡ Shelf r.version → a.era ≤ era_at c (partition c.config p) m.epoch → IsPageOf c p a
      → how_many is_answer (coming c p n from) ≡ 0
  no_answer_back r shelf low is =
      none_of_kind is_answer (coming c p n from)
      (two_all (MessageIs c p (partition c.config p) a n from) (λ (k : Message). era_at c (partition c.config p) m.epoch ≤ era_at c (partition c.config p) k.epoch) (λ (k : Message). is_answer k.body ≡ false)
      (λ k says back. no_answer_says a p n from (era_at c (partition c.config p) k.epoch) r.version k.body shelf (omega (arith, low, back)) says)
      (coming c p n from) (is.links.say n from) (back_is_not_earlier_law c p from n m (tail_of (link_at c.links from n)) i order head.1))

  -- the page isn't the node's own: the revocation comes from its owner
  not_own : (said : TakenSays c e n p a s from m) → IsParty c from n m → m.body ≡ body.Revoke p → speaks_of c.config p m.body ≡ true
      → owned_before s.view (partition s.home.config p) (number_of s) ≡ false
  not_own said party is speaks =
      ap (λ (o : Option View). owned_before o (partition s.home.config p) (number_of s)) said.in_view
      ∙ ap (λ (k : ℕ). owner_of said.view (partition s.home.config p) == k) member.number
      ∙ ap (λ (k : Sizes). owner_of said.view (partition k p) == n) member.config
      ∙ ap (λ (k : ℕ). k == n) (sym (said.of_view speaks).owner ∙ owner_is c m.epoch party.view party.made (partition c.config p) ∙ owner)
      ∙ not_same
    where
      member : IsMember c.config c.views n s
      member = (up_is_member_law c n s i h.up).1

      owner : owner_of party.view (partition c.config p) ≡ from
      owner = subst (PartiesAre c party.view from n m.epoch) is party.parties

  -- the era of a revocation isn't above the one that serves
  era_low : (said : TakenSays c e n p a s from m) → m.body ≡ body.Revoke p → speaks_of c.config p m.body ≡ true → era_at c (partition c.config p) m.epoch ≤ a.era
  era_low said is speaks =
      subst (SaysSo a.era a.hist a.reached a.listed a.right a.home a.sent p from n (era_at c (partition c.config p) m.epoch)) is (said.head speaks).says

  -- the right may be spent, and the answer sent
  may_spend : (said : TakenSays c e n p a s from m) (r : rules.Right) → IsParty c from n m → m.body ≡ body.Revoke p → speaks_of c.config p m.body ≡ true
      → right_on s.home.shelf p ≡ Some r → HaveUsed a n → MaySpend c n p (taken_of c s) a r
  may_spend said r party is speaks there used =
      record {
        home = (up_is_member_law c n s i h.up).1.sound.home;
        right = there;
        not_own = not_own said party is speaks;
        used = used;
        reached = (let most = era_low said is speaks in let low = said.not_past in let at = said.reached speaks in omega (arith, most, low, at));
      }

  may_answer : (said : TakenSays c e n p a s from m) (r : rules.Right) → IsParty c from n m → m.body ≡ body.Revoke p → speaks_of c.config p m.body ≡ true
      → right_on s.home.shelf p ≡ Some r → a.right n ≡ Shelf r.version → HaveUsed a n → IsPageOf c p a
      → MaySend c e n p (spent p (taken_of c s)) (spending a n (suc a.era) r.readers) from (body.Return (record { page = p; readers = r.readers }))
  may_answer said r party is speaks there shelf used related =
      record {
        other = not_same;
        no_report = refl;
        says = λ comes. says_return a n p from (era_at c (partition c.config p) s.epoch) r r.version p shelf own_era;
        behind = nothing_is_ahead_law c e n p from s.epoch s (spent p (taken_of c s)) acts order h.up (omega arith) tt;
        no_release = λ t k. absurd (cc);
        no_right = λ k. absurd (cc);
        no_answer = λ k.
            ap (how_many is_answer)
            (coming_same c e n p acts (taken_of c s) (spent p (taken_of c s)) (spent_standing p (taken_of c s) seen) refl (λ b. refl) n from ∙ back_same)
            ∙ no_answer_back r shelf not_past related;
      }
    where
      may : MaySpend c n p (taken_of c s) a r
      may = may_spend said r party is speaks there used

      seen : IsSpent kind.Registered p s.home (spent p (taken_of c s)).node.home
      seen = spending_is_seen_law kind.Registered p s.home may.home

      own_era : era_at c (partition c.config p) s.epoch ≡ a.era
      own_era =
          (members_know_eras_law c n s said.view (up_is_member_law c n s i h.up).1 said.in_view).eras (partition c.config p)
          ∙ sym (said.of_view speaks).era ∙ sym (said.reached speaks) ∙ may.reached

      not_past : a.era ≤ era_at c (partition c.config p) m.epoch
      not_past = subst (λ (k : ℕ). a.era ≤ k) (said.reached speaks) said.not_past

  -- the page's own revocation
  own_revoked : (said : TakenSays c e n p a s from m) (r : rules.Right) → IsParty c from n m → m.body ≡ body.Revoke p → right_on s.home.shelf p ≡ Some r → HaveUsed a n → IsPageOf c p a → IsEntered a
      → step c e ≡ land c e n (answered from p r (taken_of c s)) → Follows p IsEntered a (step c e)
  own_revoked said r party is there used related entered ended =
      record {
        page = spending a n (suc a.era) r.readers;
        run = then here spends.step;
        related =
            subst (λ (d : Cluster). IsPageOf d p (spending a n (suc a.era) r.readers)) (sym ended)
            (send_is_kept_law c e n p from (body.Return (record { page = p; readers = r.readers })) (spent p (taken_of c s)) (spending a n (suc a.era) r.readers) acts
            (may_answer said r party is speaks there shelf used related) spends.related);
        known = spending_entered a n (suc a.era) r.readers entered;
      }
    where
      speaks : speaks_of c.config p m.body ≡ true
      speaks = ap (speaks_of c.config p) is ∙ own_page p

      spends : IsSpending c e n p (taken_of c s) a r
      spends = spending_is_step_law c e n p (taken_of c s) a r acts (may_spend said r party is speaks there used) said.related

      shelf : a.right n ≡ Shelf r.version
      shelf = shelf_is c e n p (taken_of c s) a r acts there said.related

  -- that of another page, and one without a right
  same_page : (said : TakenSays c e n p a s from m) (x : Work) → IsUnseen c e n p (taken_of c s) x → IsEntered a → step c e ≡ land c e n x → Follows p IsEntered a (step c e)
  same_page said x unseen entered ended =
      record {
        page = a;
        run = here;
        related = subst (λ (d : Cluster). IsPageOf d p a) (sym ended) (unseen_is_kept_law c e n p (taken_of c s) x a acts unseen said.related);
        known = entered;
      }

  other_revoked : (page : ℕ) (r : rules.Right) → (page == p) ≡ false → IsUnseen c e n p (taken_of c s) (answered from page r (taken_of c s))
  other_revoked page r other =
      unseen_then c e n p (taken_of c s) (spent page (taken_of c s)) (answered from page r (taken_of c s))
      (spends_elsewhere_law c e n p page (taken_of c s) (up_is_member_law c n s i h.up).1.sound.home other)
      (sends_elsewhere_law c e n p from (body.Return (record { page = page; readers = r.readers })) (spent page (taken_of c s)) other)

pub revoke_is_kept_law : RevokeIsKept
revoke_is_kept_law c e n p page from s m a i order party h is judged used entered related = by (right_on s.home.shelf page) refl
  where
    said : TakenSays c e n p a s from m
    said = taken_is_said_law c e n p s from m a i h judged related

    seen : IsRevoked page s.home
    seen = revoking_is_seen_law page s.home

    there : (r : rules.Right) → right_on s.home.shelf page ≡ Some r → step c e ≡ land c e n (answered from page r (taken_of c s))
    there r right =
        ends c e n p from s m a i order h (answered from page r (taken_of c s)) said
        (revoked_to c from page m.body (taken_of c s) (record { answer = Some (record { page = page; readers = r.readers }); home = spend_right kind.Registered page s.home }) is (seen.there r right)) refl

    own : (r : rules.Right) → right_on s.home.shelf page ≡ Some r → (b : Bool) → (page == p) ≡ b → Follows p IsEntered a (step c e)
    own r right true same =
        let at : page ≡ p = eqb-true page p same in
        own_revoked c e n p from s m a i order h said r party (is ∙ ap body.Revoke at) (subst (λ (k : ℕ). right_on s.home.shelf k ≡ Some r) at right) used related entered
        (there r right ∙ ap (λ (k : ℕ). land c e n (answered from k r (taken_of c s))) at)
    own r right false other = same_page c e n p from s m a i order h said (answered from page r (taken_of c s)) (other_revoked c e n p from s m a i order h page r other) entered (there r right)

    by : (o : Option rules.Right) → right_on s.home.shelf page ≡ o → Follows p IsEntered a (step c e)
    by None absent =
        same_page c e n p from s m a i order h said (taken_of c s) (unseen_self c e n p (taken_of c s)) entered
        (ends c e n p from s m a i order h (taken_of c s) said (revoked_to c from page m.body (taken_of c s) (record { answer = None; home = s.home }) is (seen.absent absent)) refl)
    by (Some r) right = own r right (page == p) refl
