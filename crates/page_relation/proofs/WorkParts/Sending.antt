-- Messages that speak of the page and are sent.
use Rattle.std.proofs.Common.{◌≡◌, refl, ap, sym, subst, ◌∙◌, ℕ, suc, ◌+◌, ◌≤◌, ◌==◌, ◌&&◌, cond, Bool, true, false, List, [], ◌∷◌, ◌++◌, append-nil, append_assoc, map, Option, arith, eqb-true}
use Rattle.std.specs.Prelude.{IfSome}
use Rattle.std.specs.List.{AllByRecursion, filter}
use Rattle.pcl_base.specs.declared.event.Event.{Event}
use Rattle.pcl_base.specs.declared.message.Body.{Body}
use Rattle.pcl_base.specs.declared.message.Message.{Message}
use Rattle.node_rules.specs.NodeState.{NodeState, Outgoing, partition, table_at}
use Rattle.node_rules.specs.Words.{pick}
use Rattle.node_rules.specs.Work.{Work, send}
use Rattle.node_laws.proofs.Lists.{all_append, all_filter, all_weaker}
use Rattle.cluster_rules.specs.Clusters.{Cluster, node_at, is_up, sent_by}
use Rattle.cluster_rules.specs.ClusterStep.{is_taken}
use Rattle.cluster_rules.specs.Links.{link_at, tail_of}
use Rattle.cluster_laws.specs.Era.Eras.{era_at}
use Rattle.cluster_laws.specs.Link.Coming.{is_coming, coming, sent_to, delivers}
use Rattle.cluster_laws.specs.Link.Orders.{AreOrdered, how_many, last_epoch}
use Rattle.cluster_laws.proofs.LinkParts.Linked.{sent_have}
use Rattle.cluster_laws.proofs.LinkParts.Ordered.{ordered_at_the_end_law, numbers_at_the_end_law, numbers_with_head_law, some_at_the_end_law}
use Rattle.page_laws.proofs.MomentParts.Entries.{sent_adds_nothing_law}
use Rattle.page_protocol.specs.State.{Page, current}
use Rattle.page_relation.specs.Messages.{SaysSo, AreOnce, is_release, is_right, is_answer}
use Rattle.page_relation.specs.Relation.{MessageIs}
use Rattle.page_relation.specs.Work.Landing.{land, Acts, trace_of}
use Rattle.page_relation.specs.Work.Sends.{message_of, SendIsLinked, SendIsKept, NothingIsAhead}
use Rattle.page_relation.specs.Work.Unseen.{SameTold}
use Rattle.page_relation.proofs.WorkParts.Comings.{landed_coming, test_same}
use Rattle.page_relation.proofs.WorkParts.Framing.{standing_self, life_self, use_self, entry_self, history_stays_law, stored_stays_law, copies_stay_law, homes_stay_law, nodes_stay_law, tables_stay_law, message_same}
use Rattle.page_relation.proofs.WorkParts.Landed.{landing_is_seen_law}
use Rattle.page_relation.proofs.WorkParts.Quiet.{sent_more}
use Rattle.page_relation.proofs.WorkParts.Started.{quiet_told}

-- the message as it goes out
abbrev out_of : Work → ℕ → Body → Outgoing
out_of w to body = record { to = to; message = message_of w body }

-- what comes on a link with it
abbrev added : Cluster → ℕ → ℕ → ℕ → ℕ → Option NodeState → Outgoing → List Message
added c n p x y o out = filter (is_coming c.config p x o) (pick (x == n && is_up c y) (sent_to y (out ∷ [])) [])

picked_more : (b : Bool) (ms ns : List Message) → pick b (ms ++ ns) [] ≡ pick b ms [] ++ pick b ns []
picked_more true ms ns = refl
picked_more false ms ns = refl

coming_more : (c : Cluster) (e : Event) (n p to : ℕ) (body : Body) (w : Work) (x y : ℕ) → Acts c n
    → coming (land c e n (send to body w)) p x y ≡ coming (land c e n w) p x y ++ added c n p x y (node_at (land c e n w) y) (out_of w to body)
coming_more c e n p to body w x y acts =
    landed_coming c e n p (send to body w) x y acts
    ∙ ap (λ (f : Message → Bool). filter f (first ++ pick (x == n && is_up c y) (sent_to y (w.sends ++ out_of w to body ∷ [])) [])) tests
    ∙ ap (λ (ms : List Message). filter test (first ++ pick (x == n && is_up c y) ms [])) (sent_more y w.sends (out_of w to body ∷ []))
    ∙ ap (λ (ms : List Message). filter test (first ++ ms)) (picked_more (x == n && is_up c y) (sent_to y w.sends) (sent_to y (out_of w to body ∷ [])))
    ∙ ap (filter test) (sym (append_assoc first (pick (x == n && is_up c y) (sent_to y w.sends) []) (pick (x == n && is_up c y) (sent_to y (out_of w to body ∷ [])) [])))
    ∙ some_at_the_end_law test (first ++ pick (x == n && is_up c y) (sent_to y w.sends) []) (pick (x == n && is_up c y) (sent_to y (out_of w to body ∷ [])) [])
    ∙ ap (λ (ms : List Message). ms ++ filter test (pick (x == n && is_up c y) (sent_to y (out_of w to body ∷ [])) [])) (sym (landed_coming c e n p w x y acts))
  where
    test : Message → Bool
    test = is_coming c.config p x (node_at (land c e n w) y)

    first : List Message
    first = pick (delivers e x y && is_taken w.replies) (tail_of (link_at c.links x y)) (link_at c.links x y)

    tests : is_coming c.config p x (node_at (land c e n (send to body w)) y) ≡ test
    tests = (λ i m. test_same c e n p acts w (send to body w) (standing_self w.node) x y m i)

-- one message passes a test or doesn't
one_of : (f : Message → Bool) (P : List Message → Type 0) (m : Message) → P [] → (f m ≡ true → P (m ∷ [])) → P (filter f (m ∷ []))
one_of f P m none some = by (f m) refl
  where
    by : (b : Bool) → f m ≡ b → P (cond b (m ∷ []) [])
    by true is = some is
    by false is = none

-- what was added to each link
added_has : (c : Cluster) (e : Event) (n p to : ℕ) (body : Body) (w : Work) (x y : ℕ) (P : List Message → Type 0) → Acts c n → (to == n) ≡ false → P []
    → (x ≡ n → y ≡ to → is_coming c.config p n (node_at c to) (message_of w body) ≡ true → P (message_of w body ∷ [])) → P (added c n p x y (node_at (land c e n w) y) (out_of w to body))
unfolding sent_to
added_has c e n p to body w x y P acts other none some = by (x == n) (is_up c y) (to == y) refl refl
  where
    test : Message → Bool
    test = is_coming c.config p x (node_at (land c e n w) y)

    by : (u v t : Bool) → (x == n) ≡ u → (to == y) ≡ t → P (filter test (pick (u && v) (pick t (message_of w body ∷ []) []) []))
    by true true true is at =
        let from : x ≡ n = eqb-true x n is in
        let same : to ≡ y = eqb-true to y at in
        let there : node_at (land c e n w) y ≡ node_at c to =
        ap (node_at (land c e n w)) (sym same) ∙ (landing_is_seen_law c e n w acts).others to other in
        one_of test P (message_of w body) none
        (λ comes. some from (sym same)
        (sym (ap (λ (o : Option NodeState). is_coming c.config p x o (message_of w body)) there ∙ ap (λ (k : ℕ). is_coming c.config p k (node_at c to) (message_of w body)) from) ∙ comes))
    by true true false is at = none
    by true false t is at = none
    by false v t is at = none

last_below : (low k : ℕ) (ms : List Message) → low ≤ k → AllByRecursion (λ (m : Message). m.epoch ≤ k) ms → last_epoch low ms ≤ k
last_below low k [] below all = below
last_below low k (m ∷ ms) below all = last_below m.epoch k ms all.0 all.1

-- how many there are of a kind with one more
kind_more : (kind : Body → Bool) (m : Message) (ms : List Message) → how_many kind ms ≤ 1 → (kind m.body ≡ true → how_many kind ms ≡ 0) → how_many kind (ms ++ m ∷ []) ≤ 1
kind_more kind m ms most none = by (kind m.body) refl
  where
    both : how_many kind (ms ++ m ∷ []) ≡ how_many kind ms + how_many kind (m ∷ [])
    both = numbers_at_the_end_law kind ms (m ∷ [])

    last : how_many kind (m ∷ []) ≡ pick (kind m.body) 1 0 + 0
    last = numbers_with_head_law kind m []

    by : (b : Bool) → kind m.body ≡ b → how_many kind (ms ++ m ∷ []) ≤ 1
    by true is =
        let zero_before = none is in
        let one_last : how_many kind (m ∷ []) ≡ 1 = last ∙ ap (λ (b : Bool). pick b 1 0 + 0) is in
        omega (arith, both, zero_before, one_last)
    by false is =
        let none_last : how_many kind (m ∷ []) ≡ 0 = last ∙ ap (λ (b : Bool). pick b 1 0 + 0) is in
        omega (arith, both, most, none_last)

-- what a message says by the eras of the views, which stay
says_landed : (c : Cluster) (e : Event) (n p q : ℕ) (w : Work) (a : Page) (to : ℕ) (m : Message)
    → SaysSo a.era a.hist a.reached a.listed a.right a.home a.sent p n to (era_at c q m.epoch) m.body → MessageIs (land c e n w) p q a n to m
unfolding land era_at
says_landed c e n p q w a to m says = says

pub send_is_linked_law : SendIsLinked
send_is_linked_law c e n p to body w a acts may is =
    record {
      say = λ x y. subst (AllByRecursion (MessageIs (land c e n z) p q a x y)) (sym (coming_more c e n p to body w x y acts))
          (all_append (MessageIs (land c e n z) p q a x y) (coming (land c e n w) p x y) (added c n p x y (node_at (land c e n w) y) (out_of w to body))
          (message_same c e n p q w z a x y (coming (land c e n w) p x y) (is.say x y))
          (says x y));
      ordered = λ x y. subst (AreOrdered 0) (sym (coming_more c e n p to body w x y acts)) (ordered x y);
      once = λ x y. subst AreOnce (sym (coming_more c e n p to body w x y acts)) (once x y);
    }
  where
    q : ℕ
    q = partition c.config p

    z : Work
    z = send to body w

    m : Message
    m = message_of w body

    said : (x y : ℕ) → x ≡ n → y ≡ to → is_coming c.config p n (node_at c to) m ≡ true → MessageIs (land c e n w) p q a x y m
    said x y from at comes =
        subst (λ (k : ℕ). MessageIs (land c e n w) p q a k y m) (sym from)
        (subst (λ (k : ℕ). MessageIs (land c e n w) p q a n k m) (sym at) (says_landed c e n p q w a to m (may.says comes)))

    says : (x y : ℕ) → AllByRecursion (MessageIs (land c e n z) p q a x y) (added c n p x y (node_at (land c e n w) y) (out_of w to body))
    says x y =
        added_has c e n p to body w x y (AllByRecursion (MessageIs (land c e n z) p q a x y)) acts may.other tt
        (λ from at comes. message_same c e n p q w z a x y (m ∷ []) (said x y from at comes, tt))

    behind : (x y : ℕ) → x ≡ n → y ≡ to → AllByRecursion (λ (k : Message). k.epoch ≤ w.node.epoch) (coming (land c e n w) p x y)
    behind x y from at =
        subst (λ (k : ℕ). AllByRecursion (λ (h : Message). h.epoch ≤ w.node.epoch) (coming (land c e n w) p k y)) (sym from)
        (subst (λ (k : ℕ). AllByRecursion (λ (h : Message). h.epoch ≤ w.node.epoch) (coming (land c e n w) p n k)) (sym at) may.behind)

    ordered : (x y : ℕ) → AreOrdered 0 (coming (land c e n w) p x y ++ added c n p x y (node_at (land c e n w) y) (out_of w to body))
    ordered x y =
        added_has c e n p to body w x y (λ ns. AreOrdered 0 (coming (land c e n w) p x y ++ ns)) acts may.other
        (subst (AreOrdered 0) (sym (append-nil (coming (land c e n w) p x y))) (is.ordered x y))
        (λ from at comes.
        ordered_at_the_end_law 0 (coming (land c e n w) p x y) (m ∷ []) (is.ordered x y) (
          subst (λ (b : Bool). pick b (suc (last_epoch 0 (coming (land c e n w) p x y))) (last_epoch 0 (coming (land c e n w) p x y)) ≤ w.node.epoch) (sym may.no_report)
              (last_below 0 w.node.epoch (coming (land c e n w) p x y) (omega arith) (behind x y from at)),
          tt,
        ))

    at_link : (x y : ℕ) → x ≡ n → y ≡ to → coming (land c e n w) p x y ≡ coming (land c e n w) p n to
    at_link x y from at = ap (λ (k : ℕ). coming (land c e n w) p k y) from ∙ ap (coming (land c e n w) p n) at

    kind : (k : Body → Bool) (x y : ℕ) → how_many k (coming (land c e n w) p x y) ≤ 1 → (k body ≡ true → how_many k (coming (land c e n w) p n to) ≡ 0)
        → how_many k (coming (land c e n w) p x y ++ added c n p x y (node_at (land c e n w) y) (out_of w to body)) ≤ 1
    kind k x y most none =
        added_has c e n p to body w x y (λ ns. how_many k (coming (land c e n w) p x y ++ ns) ≤ 1) acts may.other
        (subst (λ (ms : List Message). how_many k ms ≤ 1) (sym (append-nil (coming (land c e n w) p x y))) most)
        (λ from at comes. kind_more k m (coming (land c e n w) p x y) most (λ it. ap (how_many k) (at_link x y from at) ∙ none it))

    once : (x y : ℕ) → AreOnce (coming (land c e n w) p x y ++ added c n p x y (node_at (land c e n w) y) (out_of w to body))
    once x y =
        record {
          releases = λ t. kind (is_release t) x y ((is.once x y).releases t) (may.no_release t);
          rights = kind is_right x y (is.once x y).rights may.no_right;
          answers = kind is_answer x y (is.once x y).answers may.no_answer;
        }

pub send_is_kept_law : SendIsKept
unfolding land
send_is_kept_law c e n p to body w a acts may is =
    record {
      history = history_stays_law c e n p w (send to body w) a.hist (current a) told is.history;
      stored = stored_stays_law c e n p w (send to body w) a.disk a.log (λ disk log old. old) is.stored;
      copies = copies_stay_law c e n p w (send to body w) a.slot a.owner a.dirty acts refl is.copies;
      homes = homes_stay_law c e n p w (send to body w) (current a) a acts (standing_self w.node) (life_self w.node.home) (use_self p w.node.home) told is.homes;
      nodes = nodes_stay_law c e n p (partition c.config p) a.era w (send to body w) a.right a.reached acts (standing_self w.node) refl is.nodes;
      tables = tables_stay_law c e n p (partition c.config p) w (send to body w) a acts (standing_self w.node) (entry_self p (table_at w.node (partition c.config p))) is.tables;
      links = send_is_linked_law c e n p to body w a acts may is.links;
    }
  where
    told : SameTold c.config p (trace_of c e n w) (trace_of c e n (send to body w))
    told =
        quiet_told c.config p (trace_of c e n w) (trace_of c e n (send to body w))
        (sent_adds_nothing_law c.trace e w.replies (map (sent_by n) w.sends) (map (sent_by n) (w.sends ++ out_of w to body ∷ [])))

-- what was on a link, without its head or with it
less_all : (P : Message → Type 0) (b : Bool) (ms : List Message) → AllByRecursion P ms → AllByRecursion P (pick b (tail_of ms) ms)
less_all P true [] all = tt
less_all P true (m ∷ ms) all = all.1
less_all P false ms all = all

sent_all : (P : Message → Type 0) (b : Bool) (ms : List Message) → AllByRecursion P ms → AllByRecursion P (pick b ms [])
sent_all P true ms all = all
sent_all P false ms all = tt

pub nothing_is_ahead_law : NothingIsAhead
nothing_is_ahead_law c e n p to epoch s w acts order up rises sends =
    subst (AllByRecursion P) (sym (landed_coming c e n p w n to acts))
    (all_filter P (is_coming c.config p n (node_at (land c e n w) to)) (before ++ after)
    (all_append P before after
    (less_all P (delivers e n to && is_taken w.replies) (link_at c.links n to)
    (all_weaker (λ (m : Message). m.epoch ≤ s.epoch) P (λ m low. omega (arith, low, rises)) (link_at c.links n to)
    (subst (λ (o : Option NodeState). IfSome o (λ k. AllByRecursion (λ m. m.epoch ≤ k.epoch) (link_at c.links n to))) up (order.behind n to))))
    (sent_all P (n == n && is_up c to) (sent_to to w.sends)
    (sent_have (λ o. o.message.epoch ≤ epoch) P to w.sends (λ o low same. low) sends))))
  where
    P : Message → Type 0
    P m = m.epoch ≤ epoch

    before : List Message
    before = pick (delivers e n to && is_taken w.replies) (tail_of (link_at c.links n to)) (link_at c.links n to)

    after : List Message
    after = pick (n == n && is_up c to) (sent_to to w.sends) []
