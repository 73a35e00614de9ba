-- A transaction that begins changes nothing of any page.
use Rattle.std.proofs.Common.{◌≡◌, refl, ap, sym, subst, ◌∙◌, ℕ, ◌+◌, ◌==◌, ◌&&◌, ◌||◌, not, nat_lt, Bool, true, false, List, [], ◌∷◌, ◌++◌, Option, Some, None, is_some, arith, eqb-true}
use Rattle.std.proofs.lemmas.Bool.Decides.{nat_tests}
use Rattle.pcl_base.specs.declared.event.Event.{Event}
use Rattle.pcl_base.specs.declared.lock.Pending.{Pending}
use Rattle.pcl_base.specs.declared.reply.Reason.{Reason}
use Rattle.pcl_base.specs.declared.reply.Reason.TheVariants as reason
use Rattle.pcl_base.specs.declared.reply.Reply.TheVariants as reply
use Rattle.pcl_base.specs.declared.tx.TxId.{TxId}
use Rattle.run_rules.specs.Views.{View}
use Rattle.node_rules.specs.NodeState.{NodeState, Begin, partition, table_at}
use Rattle.node_rules.specs.NodeStep.{do_event, open_tx}
use Rattle.node_rules.specs.OpenTxs.{OpenTx, OpenTxs, name_of, begin, is_own, with_serial, open_at, is_open, pages_of_open, waiting_of_open, pending_of, lock_on, held_by}
use Rattle.node_rules.specs.Refusals.{refusal, refusal_in_view}
use Rattle.node_rules.specs.Words.{pick}
use Rattle.node_rules.specs.Work.{Work, Goes, with_home}
use Rattle.node_laws.proofs.Events.{not_refused}
use Rattle.home_laws.specs.Homes.{AreSerials}
use Rattle.home_laws.proofs.Serials.{serials_below, serial_pushed}
use Rattle.cluster_rules.specs.Clusters.{Cluster, last_view, stop_at}
use Rattle.cluster_rules.specs.ClusterStep.{step}
use Rattle.cluster_laws.specs.Sound.{IsMember}
use Rattle.cluster_laws.proofs.Steps.{up_is_member_law}
use Rattle.page_protocol.specs.State.{Home, Fresh, Page, current, IsFresh}
use Rattle.page_protocol.specs.State as machine
use Rattle.page_laws.specs.Written.Written.{DiffersWithin}
use Rattle.page_relation.specs.Homes.{wait_on, StandsIn, KindIn, ImageIn, is_unborn, runs_in}
use Rattle.page_relation.specs.Relation.{HomesAre, IsPageOf}
use Rattle.page_relation.specs.Work.Events.{BeginIsKept}
use Rattle.page_relation.specs.Work.Keeping.{IsWorkOf}
use Rattle.page_relation.specs.Work.Landing.{land, Acts}
use Rattle.page_relation.specs.Work.StepEnds.{start_of}
use Rattle.page_relation.specs.Work.Unseen.{SameStanding}
use Rattle.page_relation.proofs.WorkParts.Ended.{end_is_landed_law, no_calls, refused_is_kept_law}
use Rattle.page_relation.proofs.WorkParts.Framing.{entry_self, history_stays_law, stored_stays_law, copies_stay_law, nodes_stay_law, tables_stay_law, links_stay_law, unseen_is_kept_law}
use Rattle.page_relation.proofs.WorkParts.Nodes.{stands_as, kept_node, kind_same}
use Rattle.page_relation.proofs.WorkParts.Quiet.{quiet_replies_law}
use Rattle.page_relation.proofs.WorkParts.Started.{acting, start_is_related_law}

-- ---- the open transactions

abbrev new_tx : OpenTxs → OpenTx
new_tx s = record { serial = s.last + 1; pages = []; waiting = None }

-- the next serial is no open one's
next_is_free : (low last : ℕ) (xs : List OpenTx) → AreSerials low last xs → with_serial xs (last + 1) ≡ None
unfolding with_serial
next_is_free low last [] are = refl
next_is_free low last (x ∷ xs) are = by (x.serial == last + 1) refl (next_is_free x.serial last xs are.1)
  where
    by : (b : Bool) → (x.serial == last + 1) ≡ b → with_serial xs (last + 1) ≡ None → pick b (Some x) (with_serial xs (last + 1)) ≡ None
    by true is rest = absurd (let most = serials_below x.serial last xs are.1 in grind (arith, nat_tests))
    by false is rest = rest

pushed_there : (xs : List OpenTx) (y : OpenTx) (k : ℕ) → (y.serial == k) ≡ false → with_serial (xs ++ y ∷ []) k ≡ with_serial xs k
unfolding with_serial
pushed_there [] y k other = ap (λ (b : Bool). pick b (Some y) None) other
pushed_there (x ∷ xs) y k other = ap (λ (o : Option OpenTx). pick (x.serial == k) (Some x) o) (pushed_there xs y k other)

pushed_here : (xs : List OpenTx) (y : OpenTx) (k : ℕ) → (y.serial == k) ≡ true → with_serial xs k ≡ None → with_serial (xs ++ y ∷ []) k ≡ Some y
unfolding with_serial
pushed_here [] y k is none = ap (λ (b : Bool). pick b (Some y) None) is
pushed_here (x ∷ xs) y k is none = by (x.serial == k) none (λ free. pushed_here xs y k is free)
  where
    by : (b : Bool) → pick b (Some x) (with_serial xs k) ≡ None → (with_serial xs k ≡ None → with_serial (xs ++ y ∷ []) k ≡ Some y) → pick b (Some x) (with_serial (xs ++ y ∷ []) k) ≡ Some y
    by true h rest = absurd (cc)
    by false h rest = rest h

begun : {X : Type 0} (f : Option OpenTx → X) (s : OpenTxs) (t : TxId) → f (Some (new_tx s)) ≡ f None → f (open_at (begin s) t) ≡ f (open_at s t)
unfolding begin
begun f s t e = by_own (is_own s t) (serial_pushed f (new_tx s) t.serial s.txs e)
  where
    by_own : (b : Bool) → f (with_serial (s.txs ++ new_tx s ∷ []) t.serial) ≡ f (with_serial s.txs t.serial)
        → f (pick b (with_serial (s.txs ++ new_tx s ∷ []) t.serial) None) ≡ f (pick b (with_serial s.txs t.serial) None)
    by_own true h = h
    by_own false h = refl

held_begun : (s : OpenTxs) (t : TxId) (p : ℕ) → held_by (begin s) t p ≡ held_by s t p
unfolding lock_on
held_begun s t p = begun (λ o. lock_on (pages_of_open o) p) s t refl

waits_begun : (s : OpenTxs) (t : TxId) → pending_of (begin s) t ≡ pending_of s t
waits_begun s t = begun waiting_of_open s t refl

-- an open transaction that isn't the new one is open as before
open_there : (s : OpenTxs) (t : TxId) → (t.born == s.born && s.last + 1 == t.serial) ≡ false → is_open (begin s) t ≡ is_open s t
unfolding begin
open_there s t other = by (t.node == s.node) (t.born == s.born) other
  where
    by : (a b : Bool) → (b && s.last + 1 == t.serial) ≡ false → is_some (pick (a && b) (with_serial (s.txs ++ new_tx s ∷ []) t.serial) None) ≡ is_some (pick (a && b) (with_serial s.txs t.serial) None)
    by true true e = ap (λ (o : Option OpenTx). is_some o) (pushed_there s.txs (new_tx s) t.serial e)
    by true false e = refl
    by false b e = refl

open_here : (s : OpenTxs) (t : TxId) (low : ℕ) → AreSerials low s.last s.txs → (t.node == s.node) ≡ true → (t.born == s.born) ≡ true → (s.last + 1 == t.serial) ≡ true
    → (is_open (begin s) t ≡ true) × (is_open s t ≡ false)
unfolding begin
open_here s t low are node born serial =
    let free : with_serial s.txs t.serial ≡ None = ap (with_serial s.txs) (sym (eqb-true (s.last + 1) t.serial serial)) ∙ next_is_free low s.last s.txs are in (
      (λ i. is_some (pick (node i && born i) (pushed_here s.txs (new_tx s) t.serial serial free i) None)),
      (λ i. is_some (pick (node i && born i) (free i) None)),
    )

none_open : (o : Option OpenTx) (p : ℕ) → is_some o ≡ false → (lock_on (pages_of_open o) p ≡ None) × (waiting_of_open o ≡ None)
unfolding lock_on
none_open None p e = (refl, refl)
none_open (Some x) p e = absurd (cc)

fresh_is : (h : Home) → IsFresh h → h ≡ Fresh
fresh_is Fresh f = refl
fresh_is (machine.Asking m v) f = absurd f
fresh_is (machine.Holding m) f = absurd f
fresh_is machine.HoldingAsks f = absurd f
fresh_is machine.Reading f = absurd f
fresh_is machine.ReadingAsks f = absurd f
fresh_is (machine.Ended v e) f = absurd f
fresh_is machine.Gone f = absurd f

-- ---- the node

abbrev opened : Work → Work
opened w = with_home w (record (w.node.home) { txs = begin w.node.home.txs })

later : (last serial : ℕ) → (last + 1 == serial) ≡ false → nat_lt (last + 1) serial ≡ nat_lt last serial
later last serial other = by (nat_lt (last + 1) serial) (nat_lt last serial) refl refl
  where
    by : (a b : Bool) → nat_lt (last + 1) serial ≡ a → nat_lt last serial ≡ b → a ≡ b
    by true true f g = refl
    by true false f g = absurd (grind (arith, nat_tests))
    by false true f g = absurd (grind (arith, nat_tests))
    by false false f g = refl

unborn_there : (s : OpenTxs) (t : TxId) → (t.born == s.born && s.last + 1 == t.serial) ≡ false
    → (nat_lt s.born t.born || (t.born == s.born && nat_lt (s.last + 1) t.serial)) ≡ (nat_lt s.born t.born || (t.born == s.born && nat_lt s.last t.serial))
unborn_there s t other = ap (λ (b : Bool). nat_lt s.born t.born || b) (by (t.born == s.born) other)
  where
    by : (b : Bool) → (b && s.last + 1 == t.serial) ≡ false → (b && nat_lt (s.last + 1) t.serial) ≡ (b && nat_lt s.last t.serial)
    by true e = later s.last t.serial e
    by false e = refl

next_unborn : (last serial : ℕ) → (last + 1 == serial) ≡ true → nat_lt last serial ≡ true
next_unborn last serial e = grind (arith, nat_tests)

and_parts : (a b : Bool) → (a && b) ≡ true → (a ≡ true) × (b ≡ true)
and_parts true true e = (refl, refl)
and_parts true false e = absurd (cc)
and_parts false b e = absurd (cc)

or_true : (a : Bool) → (a || true) ≡ true
or_true true = refl
or_true false = refl

next_is_unborn : (s : OpenTxs) (t : TxId) → (t.born == s.born) ≡ true → (s.last + 1 == t.serial) ≡ true → (nat_lt s.born t.born || (t.born == s.born && nat_lt s.last t.serial)) ≡ true
next_is_unborn s t born serial =
    let both : (t.born == s.born && nat_lt s.last t.serial) ≡ true = (λ i. born i && next_unborn s.last t.serial serial i) in
    ap (λ (b : Bool). nat_lt s.born t.born || b) both ∙ or_true (nat_lt s.born t.born)

-- where a transaction stands once another one, or itself, was begun
begun_stands : (last p low : ℕ) (s : NodeState) (v : View) (t : TxId) (h : Home) → s.view ≡ Some v → AreSerials low s.home.txs.last s.home.txs.txs → (t.node == s.home.txs.node) ≡ true
    → StandsIn last (Some s) t p h → StandsIn last (Some (record s { home = record (s.home) { txs = begin s.home.txs } })) t p h
unfolding begin
begun_stands last p low s v t h view are node old = by (t.born == s.home.txs.born && s.home.txs.last + 1 == t.serial) refl
  where
    x : NodeState
    x = record s { home = record (s.home) { txs = begin s.home.txs } }

    before : is_unborn s.view s t ≡ (nat_lt s.home.txs.born t.born || (t.born == s.home.txs.born && nat_lt s.home.txs.last t.serial))
    before = ap (λ (o : Option View). is_unborn o s t) view

    after : is_unborn x.view x t ≡ (nat_lt s.home.txs.born t.born || (t.born == s.home.txs.born && nat_lt (s.home.txs.last + 1) t.serial))
    after = ap (λ (o : Option View). is_unborn o x t) view

    held : held_by x.home.txs t p ≡ held_by s.home.txs t p
    held = held_begun s.home.txs t p

    waits : wait_on (pending_of x.home.txs t) p ≡ wait_on (pending_of s.home.txs t) p
    waits = ap (λ (o : Option Pending). wait_on o p) (waits_begun s.home.txs t)

    by : (b : Bool) → (t.born == s.home.txs.born && s.home.txs.last + 1 == t.serial) ≡ b → StandsIn last (Some x) t p h
    by false other =
        stands_as h (is_open s.home.txs t) (is_open x.home.txs t) (is_unborn s.view s t) (is_unborn x.view x t) (held_by s.home.txs t p) (held_by x.home.txs t p)
        (wait_on (pending_of s.home.txs t) p) (wait_on (pending_of x.home.txs t) p) (open_there s.home.txs t other)
        (after ∙ unborn_there s.home.txs t other ∙ sym before) held waits old
    by true new =
        let parts = and_parts (t.born == s.home.txs.born) (s.home.txs.last + 1 == t.serial) new in
        let opens = open_here s.home.txs t low are node parts.0 parts.1 in
        let none = none_open (open_at s.home.txs t) p opens.1 in
        let unborn : is_unborn s.view s t ≡ true =
        before ∙ next_is_unborn s.home.txs t parts.0 parts.1 in
        let fresh : IsFresh h =
        stands_as h (is_open s.home.txs t) false (is_unborn s.view s t) true (held_by s.home.txs t p) (held_by s.home.txs t p) (wait_on (pending_of s.home.txs t) p)
        (wait_on (pending_of s.home.txs t) p) (sym opens.1) (sym unborn) refl refl old in
        stands_as h true (is_open x.home.txs t) (is_unborn x.view x t) (is_unborn x.view x t) None (held_by x.home.txs t p) None (wait_on (pending_of x.home.txs t) p) opens.0 refl
        (held ∙ none.0) (waits ∙ ap (λ (o : Option Pending). wait_on o p) none.1) (None, fresh_is h fresh)

opened_standing : (w : Work) → SameStanding w.node (opened w).node
unfolding begin
opened_standing w = record { config = refl; number = refl; epoch = refl; view = refl }

opened_homes : (c : Cluster) (e : Event) (n p : ℕ) (w : Work) (v : View) (a : Page) (low : ℕ) → Acts c n → w.node.view ≡ Some v → w.node.home.txs.node ≡ n
    → AreSerials low w.node.home.txs.last w.node.home.txs.txs → HomesAre (land c e n w) p (current a) a → HomesAre (land c e n (opened w)) p (current a) a
unfolding land
opened_homes c e n p w v a low acts view number are is =
    record {
      stands = λ t.
          kept_node c e n acts w (opened w) t.node (λ o. StandsIn (last_view c).epoch o t p (a.home t))
          (λ at old. begun_stands (last_view c).epoch p low w.node v t (a.home t) view are (ours t at) old) (is.stands t);
      kinds = λ t.
          kept_node c e n acts w (opened w) t.node (λ o. KindIn o t p)
          (λ at old. kind_same w.node (opened w).node (opened_standing w) p t (held_begun w.node.home.txs t p) old) (is.kinds t);
      scripts = is.scripts;
      images = λ t. kept_node c e n acts w (opened w) t.node (λ o. ImageIn o t p (a.home t) (a.image t)) (λ at old. old) (is.images t);
      written = λ t holds.
          kept_node c e n acts w (opened w) t.node (λ o. DiffersWithin (runs_in o t p) (current a).bytes (a.image t)) (λ at old. old) (is.written t holds);
    }
  where
    ours : (t : TxId) → t.node ≡ n → (t.node == w.node.home.txs.node) ≡ true
    ours t at = let same : t.node ≡ w.node.home.txs.node = at ∙ sym number in grind (arith, nat_tests, same)

opened_is_related : (c : Cluster) (e : Event) (n p : ℕ) (w : Work) (v : View) (a : Page) (low : ℕ) → Acts c n → w.node.view ≡ Some v → w.node.home.txs.node ≡ n
    → AreSerials low w.node.home.txs.last w.node.home.txs.txs → IsWorkOf c e n p w a → IsWorkOf c e n p (opened w) a
unfolding land
opened_is_related c e n p w v a low acts view number are is =
    record {
      history = history_stays_law c e n p w (opened w) a.hist (current a) (record { accesses = λ t. refl; now_same = refl }) is.history;
      stored = stored_stays_law c e n p w (opened w) a.disk a.log (λ disk log old. old) is.stored;
      copies = copies_stay_law c e n p w (opened w) a.slot a.owner a.dirty acts refl is.copies;
      homes = opened_homes c e n p w v a low acts view number are is.homes;
      nodes = nodes_stay_law c e n p (partition c.config p) a.era w (opened w) a.right a.reached acts (opened_standing w) refl is.nodes;
      tables = tables_stay_law c e n p (partition c.config p) w (opened w) a acts (opened_standing w) (entry_self p (table_at w.node (partition c.config p))) is.tables;
      links = links_stay_law c e n p (partition c.config p) w (opened w) a acts (opened_standing w) refl (λ b. refl) is.links;
    }

-- ---- the event

begin_goes : (c : Cluster) (s : NodeState) → do_event c.disk Begin (start_of c s) ≡ Goes (open_tx (start_of c s))
unfolding do_event
begin_goes c s = refl

in_view : (s : NodeState) → refusal s Begin ≡ None → (v : View) × (s.view ≡ Some v)
unfolding refusal
in_view s free = by s.view refl (not_refused (not (is_some s.view)) reason.NotInView (refusal_in_view s Begin) free).0
  where
    by : (o : Option View) → s.view ≡ o → not (is_some o) ≡ false → (v : View) × (s.view ≡ Some v)
    by (Some v) is e = (v, is)
    by None is e = absurd (cc)

pub begin_is_kept_law : BeginIsKept
begin_is_kept_law c e n p s a i h is = by (refusal s Begin) refl
  where
    acts : Acts c n
    acts = acting c e n s Begin i h

    w : Work
    w = start_of c s

    member : IsMember c.config c.views n s
    member = (up_is_member_law c n s i h.up).1

    by : (o : Option Reason) → refusal s Begin ≡ o → IsPageOf (step c e) p a
    by (Some r) refused = refused_is_kept_law c e n p s Begin r a i h refused is
    by None free =
        let view = in_view s free in
        subst (λ (d : Cluster). IsPageOf d p a) (sym (end_is_landed_law c e n s Begin (open_tx w) h free (begin_goes c s) (no_calls n c.disk (stop_at c n))))
        (unseen_is_kept_law c e n p (opened w) (open_tx w) a acts
        (quiet_replies_law c e n p (reply.Begun (name_of s.home.txs (s.home.txs.last + 1))) (opened w) refl refl)
        (opened_is_related c e n p w view.0 a 0 acts view.1 member.number member.sound.home.txs.serials (start_is_related_law c e n p s Begin a i h is)))
