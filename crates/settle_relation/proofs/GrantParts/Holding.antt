-- A right that comes to its node's shelf.
use Rattle.std.proofs.Common.{◌≡◌, ◌≢◌, refl, ap, sym, subst, ◌∙◌, ℕ, suc, ◌<◌, ◌≤◌, ◌==◌, Bool, true, false, List, [], ◌∷◌, Option, Some, None, arith, eqb-true}
use Rattle.std.specs.List.{AllByRecursion}
use Rattle.std.proofs.lemmas.Bool.Decides.{nat_tests}
use Rattle.pcl_base.specs.declared.event.Event.{Event}
use Rattle.pcl_base.specs.declared.message.Body.{Body}
use Rattle.pcl_base.specs.declared.message.Body.TheVariants as body
use Rattle.pcl_base.specs.declared.message.Message.{Message}
use Rattle.pcl_base.specs.declared.message.Report.{Report}
use Rattle.node_rules.specs.DiskCalls.{DiskCall, all_done}
use Rattle.node_rules.specs.LockTable.{LockTable}
use Rattle.node_rules.specs.NodeState.{NodeState, partition, table_at}
use Rattle.node_rules.specs.Shelf.{right_on}
use Rattle.node_rules.specs.Work.{HomeWork, Work, with_home_work}
use Rattle.cluster_rules.specs.Clusters.{Cluster, node_at}
use Rattle.cluster_laws.specs.Era.Eras.{era_at, era_in}
use Rattle.cluster_laws.specs.Link.Coming.{coming}
use Rattle.page_laws.specs.Look.Ends.{version_of_right}
use Rattle.page_laws.specs.Look.Parts.{SameCopies, SameLife}
use Rattle.page_protocol.specs.State.{Flying, NoRight, Page, Returning, Right, Sent, Shelf}
use Rattle.page_protocol.specs.State as machine
use Rattle.page_relation.specs.Looks.{shelf_in, shelf_of}
use Rattle.page_relation.specs.Messages.{CountsFor, IsSent, ReportIs, SaysSo, is_right, sent_of}
use Rattle.page_relation.specs.Relation.{HomesAre, LinksAre, MessageIs, NodesAre, TablesAre, on_shelf}
use Rattle.page_relation.specs.Tables.{TableIn, TableIs, TableOf, ReachedIn}
use Rattle.page_laws.specs.Storage.Looks.{IsStored}
use Rattle.page_relation.specs.Work.Keeping.{IsWorkOf}
use Rattle.page_relation.specs.Work.Landing.{land, Acts}
use Rattle.page_relation.specs.Work.Unseen.{SameStanding, SameUse}
use Rattle.page_relation.proofs.WorkParts.Comings.{coming_same}
use Rattle.page_relation.proofs.WorkParts.Framing.{entry_self, history_stays_law, stored_stays_law, copies_stay_law, homes_stay_law, tables_stay_law, links_stay_law, reached_landed, reached_same}
use Rattle.page_relation.proofs.WorkParts.Nodes.{changed_node, kept_node}

-- the message isn't a right of this era
abbrev pub NoRightNow : Cluster → ℕ → ℕ → Message → Type 0
NoRightNow c q era m = is_right m.body ≡ true → era_at c q m.epoch ≡ era → ⊥

two_all : (P Q R : Message → Type 0) → ((m : Message) → P m → Q m → R m) → (ms : List Message) → AllByRecursion P ms → AllByRecursion Q ms → AllByRecursion R ms
two_all P Q R f [] p q = tt
two_all P Q R f (m ∷ ms) p q = (f m p.0 q.0, two_all P Q R f ms p.1 q.1)

module _ (a : Page) (n v : ℕ) (g : Sent) (flying : a.right n ≡ Flying g) (takes : a.reached n ≡ a.era) (right : ℕ → Right) (right_here : right n ≡ Shelf v)
    (right_there : (m : ℕ) → (m == n) ≡ false → right m ≡ a.right m) where
  abbrev next : Page
  next = record a { right = right }

  -- a right that is another one than this is as before
  right_by : (m : ℕ) (P : Right → Type 0) → (m ≡ n → P (Shelf v)) → P (a.right m) → P (right m)
  right_by m P own old = by (m == n) refl
    where
      by : (b : Bool) → (m == n) ≡ b → P (right m)
      by true same = let is : m ≡ n = eqb-true m n same in subst P (sym (ap right is ∙ right_here)) (own is)
      by false other = subst P (sym (right_there m other)) old

  -- it counts for no later era than before
  counted : (m e : ℕ) → a.era < e → e ≤ a.reached m → CountsFor e (right m) → CountsFor e (a.right m)
  counted m e later reaches counts = by (m == n) refl
    where
      by : (b : Bool) → (m == n) ≡ b → CountsFor e (a.right m)
      by true same =
          let is : a.reached m ≡ a.era = ap a.reached (eqb-true m n same) ∙ takes in
          absurd (omega (arith, later, reaches, is))
      by false other = subst (CountsFor e) (right_there m other) counts

  table_held : (p m e : ℕ) (b : Bool) (t : LockTable) → TableIs a p m e b t → TableIs next p m e b t
  table_held p m e true t is =
      record {
        serves = is.serves;
        here = is.here;
        now = is.now;
        version = is.version;
        holders = is.holders;
        rights = λ k out. is.rights k (not_none k out);
        waiting = is.waiting;
        writers = is.writers;
      }
    where
      not_none : (k : ℕ) → right k ≢ NoRight → a.right k ≢ NoRight
      not_none k out none = by (k == n) refl
        where
          by : (b : Bool) → (k == n) ≡ b → ⊥
          by true same = (let bad : Flying g ≡ NoRight = sym flying ∙ ap a.right (sym (eqb-true k n same)) ∙ none in absurd (cc))
          by false other = out (right_there k other ∙ none)
  table_held p m e false t is =
      record {
        later = is.later;
        reaches = is.reaches;
        holders = is.holders;
        rights = λ k on counts. is.rights k on (counted k e is.later (is.reaches k on) counts);
        waiting = is.waiting;
        writers = is.writers;
      }

  table_in_held : (p m e : ℕ) (o : Option LockTable) → TableIn a p m e o → TableIn next p m e o
  table_in_held p m e None is = tt
  table_in_held p m e (Some t) is = table_held p m e t.serving t is

  node_held : (p q m : ℕ) (o : Option NodeState) → TableOf a p q m o → TableOf next p q m o
  node_held p q m None is = tt
  node_held p q m (Some s) is = table_in_held p m (era_in s.view q) (table_at s q) is

  tables_held : (d : Cluster) (p q : ℕ) → TablesAre d p q a → TablesAre d p q next
  tables_held d p q is = record { tables = λ m. node_held p q m (node_at d m) (is.tables m); serving = is.serving; era = is.era }

  -- messages
  sent_held : (x : Sent) (b : Bool) (to : ℕ) → (to ≡ n → b ≡ true → ⊥) → IsSent b a.sent (a.right to) x → IsSent b a.sent (right to) x
  sent_held x true to none is = right_by to (λ r. r ≡ Flying x) (λ at. absurd (none at refl)) is
  sent_held x false to none is = is

  report_held : (p from e : ℕ) (r : Report) → ReportIs a.era a.reached a.listed a.right a.home p from e r → ReportIs a.era a.reached a.listed right a.home p from e r
  report_held p from e r is =
      record {
        later = is.later;
        reaches = is.reaches;
        locks = is.locks;
        rights = λ counts. is.rights (counted from e is.later is.reaches counts);
        waits = is.waits;
      }

  says_held : (p from to e : ℕ) (b : Body) → (to ≡ n → is_right b ≡ true → e ≡ a.era → ⊥) → SaysSo a.era a.hist a.reached a.listed a.right a.home a.sent p from to e b
      → SaysSo a.era a.hist a.reached a.listed right a.home a.sent p from to e b
  says_held p from to e (body.Request r) none is = is
  says_held p from to e (body.Grant x) none is = (is.0, λ now. sent_held (sent_of x) x.right to (λ at on. none at on now) (is.1 now))
  says_held p from to e (body.Release r) none is = is
  says_held p from to e (body.Revoke page) none is = is
  says_held p from to e (body.Return r) none is = (
    is.0,
    λ now. right_by from (λ x. x ≡ Returning (suc a.era) r.readers)
        (λ at. let bad : Flying g ≡ Returning (suc a.era) r.readers = sym flying ∙ ap a.right (sym at) ∙ is.1 now in absurd (cc)) (is.1 now),
  )
  says_held p from to e (body.Report r) none is = report_held p from e r is

  links_held : (d : Cluster) (p q : ℕ) → ((from : ℕ) → AllByRecursion (NoRightNow d q a.era) (coming d p from n)) → LinksAre d p q a → LinksAre d p q next
  links_held d p q none is =
      record {
        say = λ from to. by from to (to == n) refl;
        ordered = is.ordered;
        once = is.once;
      }
    where
      by : (from to : ℕ) (b : Bool) → (to == n) ≡ b → AllByRecursion (MessageIs d p q next from to) (coming d p from to)
      by from to true same =
          let at : to ≡ n = eqb-true to n same in
          two_all (MessageIs d p q a from to) (NoRightNow d q a.era) (MessageIs d p q next from to)
          (λ m says no. says_held p from to (era_at d q m.epoch) m.body (λ here. no) says) (coming d p from to) (is.say from to)
          (subst (λ (k : ℕ). AllByRecursion (NoRightNow d q a.era) (coming d p from k)) (sym at) (none from))
      by from to false other =
          two_all (MessageIs d p q a from to) (MessageIs d p q a from to) (MessageIs d p q next from to)
          (λ m says same. says_held p from to (era_at d q m.epoch) m.body (λ at. let is : (to == n) ≡ true = grind (arith, nat_tests, at) in absurd (cc)) says) (coming d p from to)
          (is.say from to) (is.say from to)

module _ (c : Cluster) (e : Event) (n p : ℕ) (w : Work) (k : HomeWork) (a : Page) (v : ℕ) (g : Sent) (acts : Acts c n) (flying : a.right n ≡ Flying g) (takes : a.reached n ≡ a.era)
    (right : ℕ → Right) (right_here : right n ≡ Shelf v) (right_there : (m : ℕ) → (m == n) ≡ false → right m ≡ a.right m) (life : SameLife w.node.home k.home)
    (uses : SameUse p w.node.home k.home) (copies : SameCopies w.node.home k.home) (shelf : version_of_right (right_on k.home.shelf p) ≡ Some v) (calls : k.calls ≡ w.calls) where
  abbrev x : Work
  x = with_home_work w k

  abbrev after : Page
  after = record a { right = right }

  standing : SameStanding w.node x.node
  standing = record { config = life.config; number = life.node; epoch = refl; view = refl }

  nodes_held : NodesAre (land c e n w) p (partition c.config p) a.era a.right a.reached → NodesAre (land c e n x) p (partition c.config p) a.era right a.reached
  unfolding shelf_of
  nodes_held is =
      record {
        shelves = λ m.
            changed_node c e n acts w x m (λ o. shelf_in o p ≡ on_shelf (a.right m)) (λ o. shelf_in o p ≡ on_shelf (right m))
            (λ at old. shelf ∙ sym (ap on_shelf (ap right at ∙ right_here)))
            (λ o other old. old ∙ sym (ap on_shelf (right_there m other)))
            (is.shelves m);
        eras = λ m.
            (reached_landed c e n x (partition c.config p) a.era (a.reached m) (node_at (land c e n x) m)).1
            (kept_node c e n acts w x m (λ o. ReachedIn c (partition c.config p) a.era o (a.reached m))
            (λ at old. reached_same c (partition c.config p) a.era (a.reached m) w.node x.node standing old)
            ((reached_landed c e n w (partition c.config p) a.era (a.reached m) (node_at (land c e n w) m)).0 (is.eras m)));
      }

  no_right_landed : (ms : List Message) → AllByRecursion (NoRightNow c (partition c.config p) a.era) ms → AllByRecursion (NoRightNow (land c e n x) (partition c.config p) a.era) ms
  unfolding land era_at
  no_right_landed ms all = all

  -- the relation with the right on the shelf
  pub held : ((from : ℕ) → AllByRecursion (NoRightNow c (partition c.config p) a.era) (coming (land c e n w) p from n)) → IsWorkOf c e n p w a → IsWorkOf c e n p x after
  unfolding land
  held none is =
      record {
        history = history_stays_law c e n p w x a.hist (machine.current a) (record { accesses = λ u. refl; now_same = refl }) is.history;
        stored =
            stored_stays_law c e n p w x a.disk a.log (λ disk log old. subst (λ (ds : List DiskCall). IsStored c.config (all_done n c.disk ds) p disk log) (sym calls) old) is.stored;
        copies = copies_stay_law c e n p w x a.slot a.owner a.dirty acts (copies p) is.copies;
        homes = homes_on (homes_stay_law c e n p w x (machine.current a) a acts standing life uses (record { accesses = λ u. refl; now_same = refl }) is.homes);
        nodes = nodes_held is.nodes;
        tables =
            tables_held a n v g flying takes right right_here right_there (land c e n x) p (partition c.config p)
            (tables_stay_law c e n p (partition c.config p) w x a acts standing (entry_self p (table_at w.node (partition c.config p))) is.tables);
        links =
            links_held a n v g flying takes right right_here right_there (land c e n x) p (partition c.config p)
            (λ from.
            no_right_landed (coming (land c e n x) p from n)
            (subst (AllByRecursion (NoRightNow c (partition c.config p) a.era)) (sym (coming_same c e n p acts w x standing refl (λ b. refl) from n)) (none from)))
            (links_stay_law c e n p (partition c.config p) w x a acts standing refl (λ b. refl) is.links);
      }
    where
      homes_on : HomesAre (land c e n x) p (machine.current a) a → HomesAre (land c e n x) p (machine.current after) after
      homes_on old = record { stands = old.stands; kinds = old.kinds; scripts = old.scripts; images = old.images; written = old.written }
