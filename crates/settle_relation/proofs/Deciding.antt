-- A decision that is carried out.
use Rattle.std.proofs.Common.{◌≡◌, refl, ap, sym, subst, ◌∙◌, ℕ, zero, suc, ◌<◌, ◌==◌, Bool, true, false, List, [], ◌∷◌, length, slice_index_or, slice_set, Option, Some, None, arith}
use Rattle.std.specs.List.{AllByRecursion}
use Rattle.std.proofs.lemmas.Bool.Decides.{nat_tests}
use Rattle.pcl_base.specs.declared.event.Event.{Event}
use Rattle.pcl_base.specs.declared.message.Body.{Body}
use Rattle.pcl_base.specs.declared.message.Body.TheVariants as body
use Rattle.pcl_base.specs.declared.message.Message.{Message}
use Rattle.pcl_base.specs.declared.message.Report.{Report}
use Rattle.pcl_base.specs.declared.tx.Mode.{Mode}
use Rattle.pcl_base.specs.declared.tx.TxId.{TxId}
use Rattle.node_rules.specs.LockRule.{LockEntry}
use Rattle.node_rules.specs.LockTable.{LockTable, entry_at, put_entry, marked}
use Rattle.node_rules.specs.NodeState.{NodeState, partition, table_at, is_serving}
use Rattle.node_rules.specs.Words.{pick}
use Rattle.node_rules.specs.Work.{Work}
use Rattle.node_laws.proofs.Lists.{set_same}
use Rattle.cluster_rules.specs.Clusters.{Cluster}
use Rattle.page_laws.proofs.EntryParts.Tabled.{tables_are_seen_law}
use Rattle.cluster_laws.specs.Era.Eras.{era_at, owner_at, era_in}
use Rattle.cluster_laws.specs.Link.Coming.{coming}
use Rattle.page_protocol.specs.State.{Sent, Right, Returning, Page, current}
use Rattle.page_relation.specs.Messages.{sent_of, IsSent, ReportIs, SaysSo, is_answer}
use Rattle.page_relation.specs.Relation.{HomesAre, NodesAre, TablesAre, LinksAre, MessageIs}
use Rattle.page_relation.specs.Tables.{IsServed, TableIs, TableIn, TableOf, serves_in, EraIs}
use Rattle.page_relation.specs.Work.Landing.{land, Acts}
use Rattle.page_relation.specs.Work.Unseen.{SameStanding}
use Rattle.page_relation.proofs.WorkParts.Comings.{coming_same}
use Rattle.page_relation.proofs.WorkParts.Framing.{life_self, use_self, history_stays_law, stored_stays_law, copies_stay_law, homes_stay_law, nodes_stay_law, links_stay_law}
use Rattle.page_relation.proofs.WorkParts.Nodes.{changed_node, kept_node}
use Rattle.settle_relation.specs.Deciding.{rewound, decided, IsDecided, StillAnswers, ServesWith, DecidingIsRelated}

-- what is put where something was, is there
pub put_there : (xs : List (Option LockTable)) (i : ℕ) (x : LockTable) (y : Option LockTable) → slice_index_or xs i None ≡ Some x → slice_index_or (slice_set xs i y) i None ≡ y
put_there xs i x y is = set_same None xs i y (low xs i is)
  where
    low : (xs : List (Option LockTable)) (i : ℕ) → slice_index_or xs i None ≡ Some x → i < length xs
    low [] i is = absurd (cc)
    low (z ∷ zs) zero is = omega arith
    low (z ∷ zs) (suc i) is = let rest = low zs i is in omega (arith, rest)

own_page : (p : ℕ) → (p == p) ≡ true
own_page p = grind (arith, nat_tests)

-- the entry that was put is the page's
pub put_here : (t : LockTable) (p : ℕ) (x : LockEntry) → entry_at (put_entry t p x) p ≡ x
put_here t p x = (tables_are_seen_law t).put p x p ∙ ap (λ (b : Bool). pick b x (entry_at t p)) (own_page p)

module _ (a : Page) (listed : TxId → ℕ → Option Mode) (sent : List Sent) (right : ℕ → Right) (is : IsDecided a listed sent right) where
  abbrev next : Page
  next = decided a listed sent right

  -- ---- what messages say

  sent_next : (g : Sent) (b : Bool) (to : ℕ) → IsSent b a.sent (a.right to) g → IsSent b sent (right to) g
  sent_next g true to old = is.flying to g old
  sent_next g false to old = is.sent_on g old

  report_next : (p from e : ℕ) (r : Report) → ReportIs a.era a.reached a.listed a.right a.home p from e r → ReportIs a.era a.reached listed right a.home p from e r
  report_next p from e r old =
      record {
        later = old.later;
        reaches = old.reaches;
        locks = λ t at. old.locks t at ∙ sym (is.later t e old.later);
        rights = λ counts. old.rights (is.counts from e old.later counts);
        waits = old.waits;
      }

  says_next : (p from to e : ℕ) (b : Body) → (is_answer b ≡ true → (readers : List TxId) → a.right from ≡ Returning (suc a.era) readers → right from ≡ Returning (suc a.era) readers)
      → SaysSo a.era a.hist a.reached a.listed a.right a.home a.sent p from to e b → SaysSo a.era a.hist a.reached listed right a.home sent p from to e b
  says_next p from to e (body.Request r) back old = old
  says_next p from to e (body.Grant g) back old = (old.0, λ now. sent_next (sent_of g) g.right to (old.1 now))
  says_next p from to e (body.Release r) back old = old
  says_next p from to e (body.Revoke page) back old = old
  says_next p from to e (body.Return r) back old = (old.0, λ now. back refl r.readers (old.1 now))
  says_next p from to e (body.Report r) back old = report_next p from e r old

  -- ---- what tables have

  rebuilt_next : (p m e : ℕ) (t : LockTable) → TableIs a p m e false t → TableIs next p m e false t
  rebuilt_next p m e t old =
      record {
        later = old.later;
        reaches = old.reaches;
        holders = λ u. old.holders u ∙ ap (λ (o : Option Mode). pick (marked t u.node) o None) (sym (is.later u e old.later));
        rights = λ k on counts. old.rights k on (is.counts k e old.later counts);
        waiting = old.waiting;
        writers = old.writers;
      }

  -- a node that isn't the owner serves nothing
  other_next : (p q n m : ℕ) (o : Option NodeState) → n ≡ a.owner → (m == n) ≡ false → TableOf a p q m o → TableOf next p q m o
  other_next p q n m None here other old = tt
  other_next p q n m (Some s) here other old = of (table_at s q) old
    where
      by : (t : LockTable) (b : Bool) → TableIs a p m (era_in s.view q) b t → TableIs next p m (era_in s.view q) b t
      by t true served =
          let at = served.here in
          absurd (grind (arith, nat_tests, other, at, here))
      by t false rebuilt = rebuilt_next p m (era_in s.view q) t rebuilt

      of : (k : Option LockTable) → TableIn a p m (era_in s.view q) k → TableIn next p m (era_in s.view q) k
      of None old = tt
      of (Some t) old = by t t.serving old

two_all : (P Q R : Message → Type 0) → ((m : Message) → P m → Q m → R m) → (ms : List Message) → AllByRecursion P ms → AllByRecursion Q ms → AllByRecursion R ms
two_all P Q R f [] p q = tt
two_all P Q R f (m ∷ ms) p q = (f m p.0 q.0, two_all P Q R f ms p.1 q.1)

-- the same eras
pub era_landed : (c : Cluster) (e : Event) (n : ℕ) (w x : Work) (q era owner : ℕ) → EraIs (land c e n w) q era owner → EraIs (land c e n x) q era owner
unfolding land era_at owner_at
era_landed c e n w x q era owner is = record { epoch = is.epoch; low = is.low; made = is.made; era_there = is.era_there; owner_there = is.owner_there }

module _ (c : Cluster) (e : Event) (n p : ℕ) (t u : LockTable) (x : LockEntry) (w : Work) (a : Page) (listed : TxId → ℕ → Option Mode) (sent : List Sent) (right : ℕ → Right) (acts : Acts c n) (dec : IsDecided a listed sent right) where
  abbrev b : Page
  b = decided a listed sent right

  abbrev q : ℕ
  q = partition c.config p

  abbrev z : Work
  z = rewound q t p x w

  standing : SameStanding w.node z.node
  standing = record { config = refl; number = refl; epoch = refl; view = refl }

  homes_decided : HomesAre (land c e n w) p (current a) a → HomesAre (land c e n z) p (current b) b
  homes_decided is =
      let k : HomesAre (land c e n z) p (current a) a =
      homes_stay_law c e n p w z (current a) a acts standing (life_self w.node.home) (use_self p w.node.home) (record { accesses = λ v. refl; now_same = refl }) is in
      record { stands = k.stands; kinds = k.kinds; scripts = k.scripts; images = k.images; written = k.written }

  nodes_decided : NodesAre (land c e n w) p q a.era a.right a.reached → NodesAre (land c e n z) p q b.era b.right b.reached
  nodes_decided is =
      let k : NodesAre (land c e n z) p q a.era a.right a.reached = nodes_stay_law c e n p q a.era w z a.right a.reached acts standing refl is in
      record { shelves = λ m. k.shelves m ∙ sym (dec.shelves m); eras = k.eras }

  tables_decided : ServesWith n q t u w a b x → TablesAre (land c e n w) p q a → TablesAre (land c e n z) p q b
  tables_decided s is =
      record {
        tables = λ m.
            changed_node c e n acts w z m (λ o. TableOf a p q m o) (λ o. TableOf b p q m o) (λ at old. ours m at) (λ o other old. other_next a listed sent right dec p q n m o s.here other old)
            (is.tables m);
        serving = λ on. kept_node c e n acts w z a.owner (λ o. serves_in o q ≡ true) (λ at old. ap is_serving there ∙ s.serving) (is.serving on);
        era = era_landed c e n w z q a.era a.owner is.era;
      }
    where
      there : table_at z.node q ≡ Some (put_entry t p x)
      there = put_there w.node.tables q u (Some (put_entry t p x)) s.there

      served : (m : ℕ) → m ≡ n → IsServed b.served b.owner b.era b.entry b.listed b.right b.reached b.home m (era_in w.node.view q) x
      served m at =
          record {
            serves = s.served;
            here = at ∙ s.here;
            now = s.now;
            version = s.entry.version;
            holders = s.entry.holders;
            rights = s.entry.rights;
            waiting = s.waiting;
            writers = s.writers;
          }

      ours : (m : ℕ) → m ≡ n → TableOf b p q m (Some z.node)
      ours m at =
          subst (λ (o : Option LockTable). TableIn b p m (era_in w.node.view q) o) (sym there)
          (subst (λ (on : Bool). TableIs b p m (era_in w.node.view q) on (put_entry t p x)) (sym s.serving)
          (subst (IsServed b.served b.owner b.era b.entry b.listed b.right b.reached b.home m (era_in w.node.view q)) (sym (put_here t p x)) (served m at)))

  links_decided : ((from to : ℕ) → AllByRecursion (StillAnswers a right from) (coming (land c e n w) p from to)) → LinksAre (land c e n w) p q a → LinksAre (land c e n z) p q b
  links_decided back is =
      let k : LinksAre (land c e n z) p q a = links_stay_law c e n p q w z a acts standing refl (λ m. refl) is in
      record {
        say = λ from to.
            two_all (MessageIs (land c e n z) p q a from to) (StillAnswers a right from) (MessageIs (land c e n z) p q b from to)
            (λ m says still. says_next a listed sent right dec p from to (era_at (land c e n z) q m.epoch) m.body still says) (coming (land c e n z) p from to) (k.say from to)
            (same from to);
        ordered = k.ordered;
        once = k.once;
      }
    where
      same : (from to : ℕ) → AllByRecursion (StillAnswers a right from) (coming (land c e n z) p from to)
      same from to = subst (AllByRecursion (StillAnswers a right from)) (sym (coming_same c e n p acts w z standing refl (λ m. refl) from to)) (back from to)

pub deciding_is_related_law : DecidingIsRelated
unfolding land
deciding_is_related_law c e n p t u x w a listed sent right acts dec back s is =
    record {
      history = history_stays_law c e n p w (rewound (partition c.config p) t p x w) a.hist (current a) (record { accesses = λ v. refl; now_same = refl }) is.history;
      stored = stored_stays_law c e n p w (rewound (partition c.config p) t p x w) a.disk a.log (λ disk log old. old) is.stored;
      copies = copies_stay_law c e n p w (rewound (partition c.config p) t p x w) a.slot a.owner a.dirty acts refl is.copies;
      homes = homes_decided c e n p t u x w a listed sent right acts dec is.homes;
      nodes = nodes_decided c e n p t u x w a listed sent right acts dec is.nodes;
      tables = tables_decided c e n p t u x w a listed sent right acts dec s is.tables;
      links = links_decided c e n p t u x w a listed sent right acts dec back is.links;
    }
