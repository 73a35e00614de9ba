-- A grant that arrives, whole.
use Rattle.std.proofs.Common.{◌≡◌, refl, ap, sym, subst, ◌∙◌, ℕ, ◌<◌, ◌==◌, eqb, Bool, true, false, List, Some, None, eqb-true, arith}
use Rattle.std.proofs.lemmas.Bool.Decides.{nat_tests}
use Rattle.pcl_base.specs.declared.event.Event.{Event}
use Rattle.pcl_base.specs.declared.lock.Kind.TheVariants as kind
use Rattle.pcl_base.specs.declared.message.Body.TheVariants as body
use Rattle.pcl_base.specs.declared.message.CopyPart.{CopyPart}
use Rattle.pcl_base.specs.declared.message.CopyPart.TheVariants as copy
use Rattle.pcl_base.specs.declared.message.Grant.{Grant}
use Rattle.pcl_base.specs.declared.message.Message.{Message}
use Rattle.node_rules.specs.AccessRule.{Granted, granted, image_of, kind_of, readers_after, shelf_after}
use Rattle.node_rules.specs.NodeState.{NodeState, Deliver, partition, table_of}
use Rattle.node_rules.specs.NodeStep.{do_event, work_off}
use Rattle.node_rules.specs.OpenTxs.{pending_of, waits_as}
use Rattle.node_rules.specs.OwnerRule.{told}
use Rattle.node_rules.specs.Shelf.{right_on}
use Rattle.node_rules.specs.Work.{Differs, Goes, Outcome, Work, work_of_home}
use Rattle.cluster_rules.specs.Clusters.{Cluster}
use Rattle.cluster_rules.specs.ClusterStep.{step}
use Rattle.cluster_laws.specs.Era.Eras.{era_at}
use Rattle.cluster_laws.specs.Link.Coming.{speaks_of}
use Rattle.page_laws.specs.Look.Ends.{version_of_right}
use Rattle.page_laws.specs.Look.Grants.{lock_granted, with_shelf}
use Rattle.page_protocol.specs.Homes.{keeping_right}
use Rattle.page_protocol.specs.State.{Flying, Image, In, Page, Right, Sent, Shelf, updn}
use Rattle.page_protocol.specs.State as machine
use Rattle.page_protocol.specs.Steps.{Reached, Step, here, keeps_right, then}
use Rattle.page_relation.specs.Looks.{shelf_in, shelf_of}
use Rattle.page_relation.specs.Messages.{IsSent, SaysSo, is_right, sent_of, word_of}
use Rattle.page_relation.specs.Relation.{IsPageOf, on_shelf}
use Rattle.page_relation.specs.Work.Events.{IsEntered}
use Rattle.page_relation.specs.Work.Keeping.{IsWorkOf, Leads}
use Rattle.page_relation.specs.Work.StepEnds.{Follows, start_of}
use Rattle.page_relation.specs.Work.Taken.{taken_of}
use Rattle.page_relation.specs.Work.Unseen.{IsUnseen}
use Rattle.page_relation.proofs.WorkParts.Framing.{unseen_is_kept_law}
use Rattle.page_relation.proofs.WorkParts.Kept.{reached_on}
use Rattle.page_relation.proofs.WorkParts.Nodes.{at_node}
use Rattle.page_relation.proofs.WorkParts.Storing.{IsHere, own_page}
use Rattle.settle_relation.specs.Grant.Arriving.{GrantComes, GrantGoesOn, GrantIsKept}
use Rattle.settle_relation.specs.Grant.Carrying.{HasOwnImage}
use Rattle.settle_relation.proofs.GrantParts.Accepting.{MayAccept, carry_goes, carry_leads}
use Rattle.settle_relation.proofs.GrantParts.Arrived.{GrantIs, done, got, grant_differs, ignored, kept, read_by}
use Rattle.settle_relation.proofs.GrantParts.Coming.{no_right_comes}
use Rattle.settle_relation.proofs.GrantParts.Facts.{right_ok}
use Rattle.settle_relation.proofs.GrantParts.Holding.{held}
use Rattle.settle_relation.proofs.GrantParts.Reaching.{acts, asked_now, away, comes_to, ended, follows, is_ready, member, mine, other_unseen, ready_on, said, same_state, unseen_shelf}
use Rattle.settle_relation.proofs.GrantParts.Shelving.{readers_here, shelf_got, shelf_kept}
use Rattle.settle_relation.proofs.GrantParts.Taking.{MayTakeRight, right_goes, right_leads}

-- an image that a grant brings is what it says
image_said : (x : CopyPart) (bytes : List ℕ) → image_of x ≡ Some bytes → word_of x ≡ Image bytes
image_said copy.Current bytes e = absurd (cc)
image_said (copy.Image old) bytes e = (let same : old ≡ bytes = cc in ap Image same)
image_said copy.OnDisk bytes e = absurd (cc)

no_image_said : (x : CopyPart) (bytes : List ℕ) → image_of x ≡ None → word_of x ≡ Image bytes → ⊥
no_image_said copy.Current bytes none e = cc
no_image_said (copy.Image old) bytes none e = cc
no_image_said copy.OnDisk bytes none e = cc

one_right : (right : ℕ → Right) (n m : ℕ) (x : Right) → m ≡ n → updn right m x n ≡ x
one_right right n m x is = ap (λ (b : Bool). machine.pick b x (right n)) (let e : eqb n m ≡ true = grind (arith, nat_tests, is) in e)

other_right : (right : ℕ → Right) (n m k : ℕ) (x : Right) → m ≡ n → (k == n) ≡ false → updn right m x k ≡ right k
other_right right n m k x is other = ap (λ (b : Bool). machine.pick b x (right k)) (let e : eqb k m ≡ false = grind (arith, nat_tests, is, other) in e)

module _ (c : Cluster) (e : Event) (n from : ℕ) (s : NodeState) (m : Message) (g : Grant) (blank : List ℕ) (a : Page) (comes : GrantComes c e n from s m g) (low : g.page < c.config.pages)
    (reached : Reached blank a) (entered : IsEntered a) (related : IsPageOf c g.page a) where
  speaks : speaks_of c.config g.page m.body ≡ true
  speaks = ap (speaks_of c.config g.page) comes.body ∙ own_page g.page

  -- it is of the era that serves, which the node has reached
  says : SaysSo a.era a.hist a.reached a.listed a.right a.home a.sent g.page from n (era_at c (partition c.config g.page) m.epoch) (body.Grant g)
  says =
      subst (SaysSo a.era a.hist a.reached a.listed a.right a.home a.sent g.page from n (era_at c (partition c.config g.page) m.epoch)) comes.body
      ((said c e n g.page from s m g a comes related).head speaks).says

  now : era_at c (partition c.config g.page) m.epoch ≡ a.era
  now =
      let most = says.0 in
      let least = (said c e n g.page from s m g a comes related).not_past in
      let at = (said c e n g.page from s m g a comes related).reached speaks in
      omega (arith, most, least, at)

  takes : a.reached n ≡ a.era
  takes = (said c e n g.page from s m g a comes related).reached speaks ∙ now

  sent : IsSent g.right a.sent (a.right n) (sent_of g)
  sent = says.1 now

  here_is : (x : Work) (b : Page) → Reached blank b → IsEntered b → IsWorkOf c e n g.page x b → IsHere c e n g.page x b
  here_is x b reach enters is = record { acts = acts c e n g.page from s m g a comes related; low = low; blank = blank; reached = reach; related = is; entered = enters }

  -- what is granted, by whether it is a right
  as_kind : (b : Bool) → g.right ≡ b → (o : Outcome Granted) → granted g.tx (lock_granted g false) g.version (image_of g.copy) (work_of_home (read_by g (taken_of c s))) ≡ o
      → granted g.tx (record { page = g.page; mode = g.mode; kind = kind_of false b }) g.version (image_of g.copy) (work_of_home (read_by g (taken_of c s))) ≡ o
  as_kind b is o goes =
      subst (λ (x : Bool). granted g.tx (record { page = g.page; mode = g.mode; kind = kind_of false x }) g.version (image_of g.copy) (work_of_home (read_by g (taken_of c s))) ≡ o) is goes

  -- ---- without a right
  module _ (none : g.right ≡ false) where
    got_same : version_of_right (right_on (shelf_after g s.home.shelf) g.page) ≡ version_of_right (right_on s.home.shelf g.page)
    got_same = ap (λ rs. version_of_right (right_on rs g.page)) (shelf_kept g s.home.shelf none)

    lock_kept : Leads c e n g.page (λ x b. IsEntered b) a (got g (taken_of c s))
    lock_kept =
        same_state c e n g.page from s m g a comes related entered (got g (taken_of c s))
        (unseen_shelf c e n g.page (shelf_after g s.home.shelf) (taken_of c s) got_same)

    lock_here : IsHere c e n g.page (read_by g (taken_of c s)) a
    lock_here =
        here_is (read_by g (taken_of c s)) a reached entered
        (unseen_is_kept_law c e n g.page (taken_of c s) (read_by g (taken_of c s)) a (acts c e n g.page from s m g a comes related)
        (unseen_shelf c e n g.page (readers_after g (shelf_after g s.home.shelf)) (taken_of c s) (readers_here g (shelf_after g s.home.shelf) ∙ got_same))
        (said c e n g.page from s m g a comes related).related)

    lock_may : table_of s g.page ≡ None → waits_as (pending_of s.home.txs g.tx) g.page g.mode ≡ true
        → MayAccept c e n g.page (sent_of g) kind.Registered (image_of g.copy) (read_by g (taken_of c s)) a
    lock_may table waits =
        record {
          mine = mine c e n g.page from s m g a comes related waits;
          ready = ready_on g.page g.tx g.mode s.home (readers_after g (shelf_after g s.home.shelf)) (is_ready c e n g.page from s m g a comes related waits);
          asked = asked_now c e n g.page from s m g a comes related waits;
          called = refl;
          config = (member c e n g.page from s m g a comes related).config;
          kind = sym (away c e n g.page from s m g a comes related table);
          registered = refl;
          sent = subst (λ (b : Bool). IsSent b a.sent (a.right n) (sent_of g)) none sent;
          takes = takes;
          image_is = image_said g.copy;
          entered = entered;
        }

  -- ---- with one
  module _ (some : g.right ≡ true) where
    flying : a.right n ≡ Flying (sent_of g)
    flying = subst (λ (b : Bool). IsSent b a.sent (a.right n) (sent_of g)) some sent

    home_node : g.tx.node ≡ n
    home_node = (right_ok blank a reached n (sent_of g) flying).0

    keeps : Step a (keeping_right a (sent_of g))
    keeps = keeps_right (sent_of g) (ap a.right home_node ∙ flying) (ap a.reached home_node ∙ takes)

    next_reached : Reached blank (keeping_right a (sent_of g))
    next_reached = reached_on blank a (keeping_right a (sent_of g)) reached (then here keeps)

    next_entered : IsEntered (keeping_right a (sent_of g))
    unfolding keeping_right
    next_entered = entered

    -- no right of the page is on the shelf yet
    no_shelf : version_of_right (right_on s.home.shelf g.page) ≡ None
    unfolding shelf_of
    no_shelf = at (said c e n g.page from s m g a comes related).related ∙ ap on_shelf flying
      where
        at : IsWorkOf c e n g.page (taken_of c s) a → version_of_right (right_on s.home.shelf g.page) ≡ on_shelf (a.right n)
        at is = at_node c e n (acts c e n g.page from s m g a comes related) (taken_of c s) n (λ o. shelf_in o g.page ≡ on_shelf (a.right n)) refl (is.nodes.shelves n)

    right_held : IsWorkOf c e n g.page (got g (taken_of c s)) (keeping_right a (sent_of g))
    unfolding keeping_right
    right_held =
        held c e n g.page (taken_of c s) (with_shelf (shelf_after g s.home.shelf) (work_of_home (taken_of c s))) a g.version (sent_of g) (acts c e n g.page from s m g a comes related) flying takes
        (updn a.right g.tx.node (Shelf g.version)) (one_right a.right n g.tx.node (Shelf g.version) home_node)
        (λ k other. other_right a.right n g.tx.node k (Shelf g.version) home_node other) (record { config = refl; node = refl; born = refl; last = refl; alive = λ t. refl })
        (record { held = λ t. refl; waits = λ t. refl; bytes = λ t. refl; runs = λ t. refl }) (λ q. refl) (shelf_got g s.home.shelf some no_shelf) refl
        (no_right_comes c e n g.page from s m a comes.cluster comes.handed comes.parties (said c e n g.page from s m g a comes related) speaks (ap is_right comes.body ∙ some) now)
        (said c e n g.page from s m g a comes related).related

    right_kept : Leads c e n g.page (λ x b. IsEntered b) a (got g (taken_of c s))
    right_kept = record { page = keeping_right a (sent_of g); run = then here keeps; related = right_held; known = next_entered }

    right_here : IsHere c e n g.page (read_by g (taken_of c s)) (keeping_right a (sent_of g))
    right_here =
        here_is (read_by g (taken_of c s)) (keeping_right a (sent_of g)) next_reached next_entered
        (unseen_is_kept_law c e n g.page (got g (taken_of c s)) (read_by g (taken_of c s)) (keeping_right a (sent_of g)) (acts c e n g.page from s m g a comes related)
        (unseen_shelf c e n g.page (readers_after g (shelf_after g s.home.shelf)) (got g (taken_of c s)) (readers_here g (shelf_after g s.home.shelf))) right_held)

    right_may : table_of s g.page ≡ None → waits_as (pending_of s.home.txs g.tx) g.page g.mode ≡ true
        → MayTakeRight c e n g.page (sent_of g) (image_of g.copy) (read_by g (taken_of c s)) a
    right_may table waits =
        record {
          blank = blank;
          reached = reached;
          flying = flying;
          takes = takes;
          ready = ready_on g.page g.tx g.mode s.home (readers_after g (shelf_after g s.home.shelf)) (is_ready c e n g.page from s m g a comes related waits);
          asked = asked_now c e n g.page from s m g a comes related waits;
          called = refl;
          config = (member c e n g.page from s m g a comes related).config;
          away = away c e n g.page from s m g a comes related table;
          image_is = image_said g.copy;
          entered = entered;
        }

  -- ---- the step
  kept_leads : (b : Bool) → g.right ≡ b → Leads c e n g.page (λ x b. IsEntered b) a (got g (taken_of c s))
  kept_leads true some = right_kept some
  kept_leads false none = lock_kept none

  done_leads : (b : Bool) → g.right ≡ b → table_of s g.page ≡ None → waits_as (pending_of s.home.txs g.tx) g.page g.mode ≡ true → (y : Granted)
      → granted g.tx (lock_granted g false) g.version (image_of g.copy) (work_of_home (read_by g (taken_of c s))) ≡ Goes y
      → Leads c e n g.page (λ x b. IsEntered b) a (told (read_by g (taken_of c s)) y)
  done_leads true some table waits y goes =
      right_leads c e n g.page (sent_of g) (image_of g.copy) (read_by g (taken_of c s)) a (right_may some table waits) (right_here some) y (as_kind true some (Goes y) goes)
  done_leads false none table waits y goes =
      carry_leads c e n g.page (sent_of g) kind.Registered (image_of g.copy) (read_by g (taken_of c s)) a (lock_here none) (lock_may none table waits) y (as_kind false none (Goes y) goes)

  own_leads : (w : Work) → GrantIs g (taken_of c s) w → Leads c e n g.page (λ x b. IsEntered b) a w
  own_leads w (ignored same) =
      same_state c e n g.page from s m g a comes related entered w
      (subst (IsUnseen c e n g.page (taken_of c s)) (sym same) (unseen_shelf c e n g.page s.home.shelf (taken_of c s) refl))
  own_leads w (kept table same) = subst (Leads c e n g.page (λ x b. IsEntered b) a) (sym same) (kept_leads g.right refl)
  own_leads w (done table waits y goes same) = subst (Leads c e n g.page (λ x b. IsEntered b) a) (sym same) (done_leads g.right refl table waits y goes)

  pub own_kept : (w : Work) → do_event c.disk (Deliver from m) (start_of c s) ≡ Goes w → Follows g.page IsEntered a (step c e)
  own_kept w goes =
      let is = comes_to c e n g.page from s m g a comes related w goes in
      follows c e n g.page from s m g a comes related w (own_leads w is) (ended c e n g.page from s m g a comes related w goes is)

  own_image : HasOwnImage g.page (sent_of g) (image_of g.copy) (read_by g (taken_of c s))
  own_image bytes none word = absurd (no_image_said g.copy bytes none word)

  differs_not : (b : Bool) → g.right ≡ b → table_of s g.page ≡ None → waits_as (pending_of s.home.txs g.tx) g.page g.mode ≡ true → (q expected found : ℕ)
      → granted g.tx (lock_granted g false) g.version (image_of g.copy) (work_of_home (read_by g (taken_of c s))) ≡ Differs q expected found → ⊥
  differs_not true some table waits q expected found differs =
      right_goes c e n g.page (sent_of g) (image_of g.copy) (read_by g (taken_of c s)) a (right_may some table waits) (right_here some) own_image q expected found
      (as_kind true some (Differs q expected found) differs)
  differs_not false none table waits q expected found differs =
      carry_goes c e n g.page (sent_of g) kind.Registered (image_of g.copy) (read_by g (taken_of c s)) a (lock_here none) (lock_may none table waits) own_image q expected found
      (as_kind false none (Differs q expected found) differs)

  pub never : (q expected found : ℕ) → do_event c.disk (Deliver from m) (start_of c s) ≡ Differs q expected found → ⊥
  never q expected found differs =
      let is = grant_differs g (taken_of c s) q expected found
      (sym ((said c e n g.page from s m g a comes related).goes_on ∙ ap (λ b. work_off c.disk from b (taken_of c s)) comes.body) ∙ differs) in
      differs_not g.right refl is.0 is.1 q expected found is.2

pub grant_is_kept_law : GrantIsKept
grant_is_kept_law c e n p from s m g w blank a comes goes low reached entered related = by (g.page == p) refl
  where
    by : (b : Bool) → (g.page == p) ≡ b → Follows p IsEntered a (step c e)
    by true same =
        let at : g.page ≡ p = eqb-true g.page p same in
        subst (λ (k : ℕ). Follows k IsEntered a (step c e)) at
        (own_kept c e n from s m g blank a comes (subst (λ (k : ℕ). k < c.config.pages) (sym at) low) reached entered (subst (λ (k : ℕ). IsPageOf c k a) (sym at) related) w goes)
    by false other =
        let is = comes_to c e n p from s m g a comes related w goes in
        follows c e n p from s m g a comes related w (same_state c e n p from s m g a comes related entered w (other_unseen c e n p from s m g a comes related other w is))
        (ended c e n p from s m g a comes related w goes is)

pub grant_goes_on_law : GrantGoesOn
grant_goes_on_law c e n from s m g blank a q expected found comes low reached entered related differs =
    never c e n from s m g blank a comes low reached entered related q expected found differs
