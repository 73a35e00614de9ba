-- A step as it starts.
use Rattle.std.proofs.Common.{◌≡◌, refl, ap, sym, subst, ◌∙◌, ℕ, ◌+◌, ◌≤◌, ◌==◌, ◌&&◌, cond, Bool, true, false, List, [], ◌∷◌, ◌++◌, append-nil, Option, Some, None, is_some, option_map, arith}
use Rattle.std.specs.List.{AllByRecursion, filter}
use Rattle.std.proofs.lemmas.Bool.Decides.{nat_tests}
use Rattle.pcl_base.specs.Limits.{Sizes}
use Rattle.pcl_base.specs.declared.event.Event.{Event}
use Rattle.pcl_base.specs.declared.event.Event.TheVariants as event
use Rattle.pcl_base.specs.declared.message.Body.{Body}
use Rattle.pcl_base.specs.declared.message.Message.{Message}
use Rattle.pcl_base.specs.declared.reply.Reply.{Reply}
use Rattle.pcl_base.specs.declared.trace.Entry.{Entry}
use Rattle.pcl_base.specs.declared.tx.TxId.{TxId}
use Rattle.run_rules.specs.Script.{Asks}
use Rattle.run_rules.specs.Views.{View}
use Rattle.node_rules.specs.NodeState.{NodeState, NodeEvent, Deliver, Install, partition}
use Rattle.node_rules.specs.Words.{pick, head_of}
use Rattle.node_rules.specs.Work.{Work}
use Rattle.cluster_rules.specs.Clusters.{Cluster, node_at, is_up, last_view, view_of_epoch}
use Rattle.cluster_rules.specs.ClusterStep.{is_taken, named}
use Rattle.cluster_rules.specs.Links.{link_at, head_at, tail_of}
use Rattle.cluster_laws.specs.Handed.{IsHanded, handed_to}
use Rattle.cluster_laws.specs.Sound.{IsCluster}
use Rattle.cluster_laws.proofs.Steps.{up_is_member_law}
use Rattle.cluster_laws.specs.Era.Eras.{era_at, owner_at}
use Rattle.cluster_laws.specs.Link.Coming.{is_coming, coming, sent_to, delivers}
use Rattle.cluster_laws.specs.Link.Orders.{AreOrdered, how_many}
use Rattle.cluster_laws.proofs.LinkParts.Ordered.{ordered_without_head_law, some_without_head_law, numbers_with_head_law}
use Rattle.page_laws.specs.Moment.Looks.{HasPage, Adds, with_entry}
use Rattle.page_laws.specs.Moment.Tells.{TellsSame, TellsAsked}
use Rattle.page_laws.proofs.MomentParts.Entries.{event_adds_law}
use Rattle.page_laws.proofs.MomentParts.Growing.{nothing_tells_law, ask_tells_law}
use Rattle.page_protocol.specs.State.{Page, current}
use Rattle.page_relation.specs.Homes.{StandsIn, KindIn, ImageIn, runs_in}
use Rattle.page_relation.specs.Looks.{slot_in, slot_of, dirty_in, dirty_of, shelf_in, shelf_of}
use Rattle.page_relation.specs.Messages.{is_release, is_right, is_answer, AreOnce}
use Rattle.page_relation.specs.Relation.{HistoryIs, CopiesAre, HomesAre, NodesAre, TablesAre, LinksAre, MessageIs, IsPageOf}
use Rattle.page_relation.specs.Tables.{TableOf, EraIs, ReachedIn, serves_in}
use Rattle.page_laws.specs.Storage.Looks.{IsStored}
use Rattle.page_laws.specs.Written.Written.{DiffersWithin}
use Rattle.page_relation.specs.Work.Landing.{land, Acts, trace_of}
use Rattle.page_relation.specs.Work.StepEnds.{start_of, StartIsRelated, HeadIsSaid}
use Rattle.page_relation.specs.Work.Unseen.{SameTold}
use Rattle.page_relation.proofs.WorkParts.Comings.{landed_coming}
use Rattle.page_relation.proofs.WorkParts.Framing.{reached_landed}
use Rattle.page_relation.proofs.WorkParts.Nodes.{of_node}

-- ---- what an event tells by itself

pub quiet_told : (c : Sizes) (p : ℕ) (before after : List Entry) → Adds before [] after → SameTold c p before after
quiet_told c p before after adds =
    let same : TellsSame c before after = nothing_tells_law c before after adds in record { accesses = λ t. same.accesses t p; now_same = same.now_same }

asked_told : (c : Sizes) (p : ℕ) (before after : List Entry) (u : TxId) (w : Option (ℕ × List ℕ)) → Adds before (Asks u w ∷ []) after → SameTold c p before after
asked_told c p before after u w adds =
    let same : TellsAsked c before after u w = ask_tells_law c before after u w adds in record { accesses = λ t. same.accesses t p; now_same = same.now_same }

pub event_told : (c : Sizes) (p : ℕ) (trace : List Entry) (e : Event) → SameTold c p trace (with_entry trace e [] [])
event_told c p trace (event.Read t q) = asked_told c p trace (with_entry trace (event.Read t q) [] []) t None (event_adds_law trace (event.Read t q) [])
event_told c p trace (event.Write t q place bytes) =
    asked_told c p trace (with_entry trace (event.Write t q place bytes) [] []) t (Some (place, bytes)) (event_adds_law trace (event.Write t q place bytes) [])
event_told c p trace (event.Begin n) = quiet_told c p trace (with_entry trace (event.Begin n) [] []) (event_adds_law trace (event.Begin n) [])
event_told c p trace (event.Commit t) = quiet_told c p trace (with_entry trace (event.Commit t) [] []) (event_adds_law trace (event.Commit t) [])
event_told c p trace (event.Abort t) = quiet_told c p trace (with_entry trace (event.Abort t) [] []) (event_adds_law trace (event.Abort t) [])
event_told c p trace (event.Deliver from to) = quiet_told c p trace (with_entry trace (event.Deliver from to) [] []) (event_adds_law trace (event.Deliver from to) [])
event_told c p trace (event.Evict n q) = quiet_told c p trace (with_entry trace (event.Evict n q) [] []) (event_adds_law trace (event.Evict n q) [])
event_told c p trace (event.Flush n q) = quiet_told c p trace (with_entry trace (event.Flush n q) [] []) (event_adds_law trace (event.Flush n q) [])
event_told c p trace (event.Crash n) = quiet_told c p trace (with_entry trace (event.Crash n) [] []) (event_adds_law trace (event.Crash n) [])
event_told c p trace (event.View live owners) = quiet_told c p trace (with_entry trace (event.View live owners) [] []) (event_adds_law trace (event.View live owners) [])
event_told c p trace (event.Install n) = quiet_told c p trace (with_entry trace (event.Install n) [] []) (event_adds_law trace (event.Install n) [])
event_told c p trace event.Reopen = quiet_told c p trace (with_entry trace event.Reopen [] []) (event_adds_law trace event.Reopen [])
event_told c p trace (event.Arm n call kept) = quiet_told c p trace (with_entry trace (event.Arm n call kept) [] []) (event_adds_law trace (event.Arm n call kept) [])
event_told c p trace (event.Cut n) = quiet_told c p trace (with_entry trace (event.Cut n) [] []) (event_adds_law trace (event.Cut n) [])

-- ---- messages without the first one

fewer : (is : Body → Bool) (ms : List Message) → how_many is (tail_of ms) ≤ how_many is ms
fewer is [] = omega arith
fewer is (m ∷ ms) = let both = numbers_with_head_law is m ms in omega (arith, both)

once_without : (ms : List Message) → AreOnce ms → AreOnce (tail_of ms)
once_without ms is =
    record {
      releases = λ t. let less = fewer (is_release t) ms in let most = is.releases t in omega (arith, less, most);
      rights = (let less = fewer is_right ms in let most = is.rights in omega (arith, less, most));
      answers = (let less = fewer is_answer ms in let most = is.answers in omega (arith, less, most));
    }

all_without : (P : Message → Type 0) (ms : List Message) → AllByRecursion P ms → AllByRecursion P (tail_of ms)
all_without P [] all = tt
all_without P (m ∷ ms) all = all.1

-- what holds of those that pass a test, once the first of all is gone
some_without : (P : List Message → Type 0) → ((ms : List Message) → P ms → P (tail_of ms)) → (f : Message → Bool) (ms : List Message) → P (filter f ms) → P (filter f (tail_of ms))
some_without P less f [] all = all
some_without P less f (m ∷ ms) all = subst P (sym (some_without_head_law f m ms)) (by (f m))
  where
    by : (b : Bool) → P (pick b (tail_of (filter f (m ∷ ms))) (filter f (m ∷ ms)))
    by true = less (filter f (m ∷ ms)) all
    by false = all

-- ---- the node as it was, with some replies

pub acting : (c : Cluster) (e : Event) (n : ℕ) (s : NodeState) (ev : NodeEvent) → IsCluster c → IsHanded c e n s ev → Acts c n
acting c e n s ev i h = record { cluster = i; known = (up_is_member_law c n s i h.up).0 }

module _ (c : Cluster) (e : Event) (n p : ℕ) (s : NodeState) (ev : NodeEvent) (i : IsCluster c) (h : IsHanded c e n s ev) (rs : List Reply) where
  abbrev pub begun : Work
  begun = record (start_of c s) { replies = rs }

  same_node : (m : ℕ) → node_at (land c e n begun) m ≡ node_at c m
  same_node m = of_node c e n (acting c e n s ev i h) begun m (λ o. o ≡ node_at c m) (λ is. sym (ap (node_at c) is ∙ h.up)) (λ other. refl)

  -- what comes is what came, or is without the head
  pub begun_coming : (x y : ℕ) → coming (land c e n begun) p x y
      ≡ filter (is_coming c.config p x (node_at c y)) (pick (delivers e x y && is_taken rs) (tail_of (link_at c.links x y)) (link_at c.links x y))
  unfolding sent_to
  begun_coming x y =
      landed_coming c e n p begun x y (acting c e n s ev i h)
      ∙ ap (λ (o : Option NodeState). filter (is_coming c.config p x o) (ms ++ pick (x == n && is_up c y) (sent_to y []) [])) (same_node y)
      ∙ ap (λ (ns : List Message). filter (is_coming c.config p x (node_at c y)) (ms ++ ns)) (none (x == n && is_up c y))
      ∙ ap (filter (is_coming c.config p x (node_at c y))) (append-nil ms)
    where
      ms : List Message
      ms = pick (delivers e x y && is_taken rs) (tail_of (link_at c.links x y)) (link_at c.links x y)

      none : (t : Bool) → pick t (sent_to y []) [] ≡ []
      none true = refl
      none false = refl

  less_comes : (P : List Message → Type 0) → ((ms : List Message) → P ms → P (tail_of ms)) → (x y : ℕ) → P (coming c p x y) → P (coming (land c e n begun) p x y)
  unfolding coming
  less_comes P less x y all = subst P (sym (begun_coming x y)) (by (delivers e x y && is_taken rs))
    where
      by : (b : Bool) → P (filter (is_coming c.config p x (node_at c y)) (pick b (tail_of (link_at c.links x y)) (link_at c.links x y)))
      by true = some_without P less (is_coming c.config p x (node_at c y)) (link_at c.links x y) all
      by false = all

  begun_history : (a : Page) → SameTold c.config p c.trace (trace_of c e n begun) → HistoryIs c p a.hist (current a) → HistoryIs (land c e n begun) p a.hist (current a)
  unfolding land
  begun_history a told is = record { now_same = subst (λ o. HasPage o p (current a)) (sym told.now_same) is.now_same; below = is.below; sizes = is.sizes }

  begun_stored : (a : Page) → IsStored c.config c.disk p a.disk a.log → IsStored (land c e n begun).config (land c e n begun).disk p a.disk a.log
  unfolding land
  begun_stored a is = is

  begun_copies : (a : Page) → CopiesAre c p a.slot a.owner a.dirty → CopiesAre (land c e n begun) p a.slot a.owner a.dirty
  unfolding slot_of dirty_of
  begun_copies a is =
      record {
        slot_same = λ m. ap (λ o. slot_in o p) (same_node m) ∙ is.slot_same m;
        dirty_same = λ m. ap (λ o. dirty_in o p) (same_node m) ∙ is.dirty_same m;
      }

  begun_homes : (a : Page) → SameTold c.config p c.trace (trace_of c e n begun) → HomesAre c p (current a) a → HomesAre (land c e n begun) p (current a) a
  unfolding land
  begun_homes a told is =
      record {
        stands = λ t. subst (λ o. StandsIn (last_view c).epoch o t p (a.home t)) (sym (same_node t.node)) (is.stands t);
        kinds = λ t. subst (λ o. KindIn o t p) (sym (same_node t.node)) (is.kinds t);
        scripts = λ t. is.scripts t ∙ sym (told.accesses t);
        images = λ t. subst (λ o. ImageIn o t p (a.home t) (a.image t)) (sym (same_node t.node)) (is.images t);
        written = λ t holds. subst (λ o. DiffersWithin (runs_in o t p) (current a).bytes (a.image t)) (sym (same_node t.node)) (is.written t holds);
      }

  begun_nodes : (q : ℕ) (a : Page) → NodesAre c p q a.era a.right a.reached → NodesAre (land c e n begun) p q a.era a.right a.reached
  unfolding shelf_of
  begun_nodes q a is =
      record {
        shelves = λ m. ap (λ o. shelf_in o p) (same_node m) ∙ is.shelves m;
        eras = λ m.
            (reached_landed c e n begun q a.era (a.reached m) (node_at (land c e n begun) m)).1
            (subst (λ o. ReachedIn c q a.era o (a.reached m)) (sym (same_node m)) (is.eras m));
      }

  begun_era : (q : ℕ) (a : Page) → EraIs c q a.era a.owner → EraIs (land c e n begun) q a.era a.owner
  unfolding land era_at owner_at
  begun_era q a is = record { epoch = is.epoch; low = is.low; made = is.made; era_there = is.era_there; owner_there = is.owner_there }

  begun_tables : (q : ℕ) (a : Page) → TablesAre c p q a → TablesAre (land c e n begun) p q a
  begun_tables q a is =
      record {
        tables = λ m. subst (TableOf a p q m) (sym (same_node m)) (is.tables m);
        serving = λ on. ap (λ o. serves_in o q) (same_node a.owner) ∙ is.serving on;
        era = begun_era q a is.era;
      }

  begun_messages : (q : ℕ) (a : Page) (x y : ℕ) (ms : List Message) → AllByRecursion (MessageIs c p q a x y) ms → AllByRecursion (MessageIs (land c e n begun) p q a x y) ms
  unfolding land era_at
  begun_messages q a x y ms all = all

  begun_links : (q : ℕ) (a : Page) → LinksAre c p q a → LinksAre (land c e n begun) p q a
  begun_links q a is =
      record {
        say = λ x y.
            begun_messages q a x y (coming (land c e n begun) p x y)
            (less_comes (AllByRecursion (MessageIs c p q a x y)) (all_without (MessageIs c p q a x y)) x y (is.say x y));
        ordered = λ x y. less_comes (AreOrdered 0) (ordered_without_head_law 0) x y (is.ordered x y);
        once = λ x y. less_comes AreOnce once_without x y (is.once x y);
      }

  pub begun_is_related : (a : Page) → SameTold c.config p c.trace (trace_of c e n begun) → IsPageOf c p a → IsPageOf (land c e n begun) p a
  unfolding land
  begun_is_related a told is =
      record {
        history = begun_history a told is.history;
        stored = begun_stored a is.stored;
        copies = begun_copies a is.copies;
        homes = begun_homes a told is.homes;
        nodes = begun_nodes (partition c.config p) a is.nodes;
        tables = begun_tables (partition c.config p) a is.tables;
        links = begun_links (partition c.config p) a is.links;
      }

pub start_is_related_law : StartIsRelated
start_is_related_law c e n p s ev a i h is = begun_is_related c e n p s ev i h [] a (event_told c.config p c.trace e) is

-- ---- the head that was delivered

pub deliver_is : (c : Cluster) (e : Event) (n : ℕ) (s : NodeState) (from : ℕ) (m : Message) → head_of (named e) ≡ Some n → handed_to c s e ≡ Some (Deliver from m)
    → (e ≡ event.Deliver from n) × (head_at c.links from n ≡ Some m)
deliver_is c (event.Deliver x y) n s from m acts h = by (is_some s.view) (head_at c.links x y) refl h
  where
    by : (b : Bool) (o : Option Message) → head_at c.links x y ≡ o → pick b (option_map (Deliver x) o) None ≡ Some (Deliver from m) → (event.Deliver x y ≡ event.Deliver from n) × (head_at c.links from n ≡ Some m)
    by false o is g = absurd (cc)
    by true None is g = absurd (cc)
    by true (Some k) is g =
        let sender : x ≡ from = cc in
        let message : k ≡ m = cc in
        let receiver : y ≡ n = cc in (
          ap (λ (a : ℕ). event.Deliver a y) sender ∙ ap (event.Deliver from) receiver,
          sym (ap (λ (a : ℕ). head_at c.links a y) sender ∙ ap (head_at c.links from) receiver) ∙ is ∙ ap (λ (k : Message). Some k) message,
        )
deliver_is c (event.Begin k) n s from m acts h = absurd (cc)
deliver_is c (event.Read t q) n s from m acts h = absurd (cc)
deliver_is c (event.Write t q place bytes) n s from m acts h = absurd (cc)
deliver_is c (event.Commit t) n s from m acts h = absurd (cc)
deliver_is c (event.Abort t) n s from m acts h = absurd (cc)
deliver_is c (event.Evict k q) n s from m acts h = absurd (cc)
deliver_is c (event.Flush k q) n s from m acts h = absurd (cc)
deliver_is c (event.Crash k) n s from m acts h = absurd (cc)
deliver_is c (event.View live owners) n s from m acts h = absurd (cc)
deliver_is c (event.Install k) n s from m acts h = absurd (no_deliver (view_of_epoch c.views (s.epoch + 1)) h)
  where
    no_deliver : (o : Option View) → option_map Install o ≡ Some (Deliver from m) → ⊥
    no_deliver None g = absurd (cc)
    no_deliver (Some v) g = absurd (cc)
deliver_is c event.Reopen n s from m acts h = absurd (cc)
deliver_is c (event.Arm k call kept) n s from m acts h = absurd (cc)
deliver_is c (event.Cut k) n s from m acts h = absurd (cc)

pub at_head : (m : Message) (ms : List Message) → head_of ms ≡ Some m → ms ≡ m ∷ tail_of ms
at_head m [] h = absurd (cc)
at_head m (x ∷ xs) h = let same : x ≡ m = cc in ap (λ (y : Message). y ∷ xs) same

delivers_self : (a b : ℕ) → delivers (event.Deliver a b) a b ≡ true
delivers_self a b = let x : (a == a) ≡ true = grind (arith, nat_tests) in let y : (b == b) ≡ true = grind (arith, nat_tests) in (λ i. x i && y i)

pub head_is_said_law : HeadIsSaid
unfolding coming
head_is_said_law c e n p s from m a i h is comes =
    record {
      says = (subst (AllByRecursion (MessageIs c p (partition c.config p) a from n)) before (is.links.say from n)).0;
      no_release = λ t kind. none (is_release t) kind ((is.links.once from n).releases t);
      no_right = λ kind. none is_right kind (is.links.once from n).rights;
      no_answer = λ kind. none is_answer kind (is.links.once from n).answers;
    }
  where
    f : Message → Bool
    f = is_coming c.config p from (node_at c n)

    head : (e ≡ event.Deliver from n) × (head_at c.links from n ≡ Some m)
    head = deliver_is c e n s from m h.acts h.event

    rest : List Message
    rest = filter f (tail_of (link_at c.links from n))

    before : coming c p from n ≡ m ∷ rest
    before = ap (filter f) (at_head m (link_at c.links from n) head.1) ∙ ap (λ (b : Bool). cond b (m ∷ rest) rest) comes

    after : coming (land c e n (start_of c s)) p from n ≡ rest
    after =
        begun_coming c e n p s (Deliver from m) i h [] from n
        ∙ ap (λ (b : Bool). filter f (pick (b && true) (tail_of (link_at c.links from n)) (link_at c.links from n))) (ap (λ (x : Event). delivers x from n) head.0 ∙ delivers_self from n)

    none : (kind : Body → Bool) → kind m.body ≡ true → how_many kind (coming c p from n) ≤ 1 → how_many kind (coming (land c e n (start_of c s)) p from n) ≡ 0
    none kind it most =
        let both : how_many kind (m ∷ rest) ≡ pick true 1 0 + how_many kind rest = numbers_with_head_law kind m rest ∙ ap (λ (b : Bool). pick b 1 0 + how_many kind rest) it in
        let all : how_many kind (m ∷ rest) ≤ 1 = subst (λ (ms : List Message). how_many kind ms ≤ 1) before most in
        let zero_left : how_many kind rest ≡ 0 = omega (arith, both, all) in
        ap (how_many kind) after ∙ zero_left
