-- What of the relation stays where rights that were given back count for fewer eras.
use Rattle.std.proofs.Common.{◌≡◌, ◌≢◌, refl, ap, sym, ◌∙◌, ℕ, suc, ◌<◌, ltb, Bool, true, false, List, [], ◌∷◌, Option, Some, None, arith}
use Rattle.std.specs.List.{AllByRecursion}
use Rattle.std.proofs.lemmas.Bool.Decides.{nat_tests}
use Rattle.pcl_base.specs.declared.message.Body.{Body}
use Rattle.pcl_base.specs.declared.message.Body.TheVariants as body
use Rattle.pcl_base.specs.declared.message.Message.{Message}
use Rattle.pcl_base.specs.declared.tx.TxId.{TxId}
use Rattle.node_rules.specs.LockTable.{LockTable}
use Rattle.node_rules.specs.NodeState.{NodeState, partition, table_at}
use Rattle.cluster_rules.specs.Clusters.{Cluster, node_at}
use Rattle.cluster_laws.specs.Era.Eras.{era_at, era_in}
use Rattle.cluster_laws.specs.Link.Coming.{coming}
use Rattle.page_protocol.specs.State.{pick, Sent, Right, NoRight, Flying, Shelf, Returning, Dead, Page}
use Rattle.page_relation.specs.Messages.{CountsFor, IsSent, SaysSo, sent_of}
use Rattle.page_relation.specs.Relation.{LinksAre, MessageIs, NodesAre, TablesAre, on_shelf}
use Rattle.page_relation.specs.Tables.{TableIn, TableIs, TableOf}
use Rattle.report_relation.specs.Bury.Burying.{LoweringIsRelated, lower, lowered}

-- what is so of a right, whether it was given back for fewer eras or not
either_right : (P : Right → Type 0) (g : Bool) (low : ℕ) (r : Right) → P r → ((upto : ℕ) (readers : List TxId) → r ≡ Returning upto readers → low < upto → P (Returning low readers)) → P (pick g (lower low r) r)
either_right P true low NoRight kept fewer = kept
either_right P true low (Flying g) kept fewer = kept
either_right P true low (Shelf v) kept fewer = kept
either_right P true low (Returning upto readers) kept fewer = by (ltb low upto) refl
  where
    by : (b : Bool) → ltb low upto ≡ b → P (pick b (Returning low readers) (Returning upto readers))
    by true test = fewer upto readers refl (grind (arith, nat_tests, test))
    by false test = kept
either_right P true low Dead kept fewer = kept
either_right P false low r kept fewer = kept

-- and the other way round
back_right : (P : Right → Type 0) (g : Bool) (low : ℕ) (r : Right) → ((upto : ℕ) (readers : List TxId) → low < upto → P (Returning low readers) → P (Returning upto readers)) → P (pick g (lower low r) r) → P r
back_right P true low NoRight more now = now
back_right P true low (Flying g) more now = now
back_right P true low (Shelf v) more now = now
back_right P true low (Returning upto readers) more now = by (ltb low upto) refl now
  where
    by : (b : Bool) → ltb low upto ≡ b → P (pick b (Returning low readers) (Returning upto readers)) → P (Returning upto readers)
    by true test now = more upto readers (grind (arith, nat_tests, test)) now
    by false test now = now
back_right P true low Dead more now = now
back_right P false low r more now = now

module _ (a : Page) (low : ℕ) (gone : ℕ → Bool) (before : a.era < low) where
  abbrev b : Page
  b = lowered a low gone

  counts_back : (m f : ℕ) → CountsFor f (b.right m) → CountsFor f (a.right m)
  counts_back m f is = back_right (CountsFor f) (gone m) low (a.right m) (λ upto readers fewer counts. omega (arith, fewer, counts)) is

  out_back : (m : ℕ) → b.right m ≢ NoRight → a.right m ≢ NoRight
  out_back m is = back_right (λ r. r ≢ NoRight) (gone m) low (a.right m) (λ upto readers fewer out same. absurd (cc)) is

  sent_on : (g : Sent) (x : Bool) (to : ℕ) → IsSent x a.sent (a.right to) g → IsSent x b.sent (b.right to) g
  sent_on g true to old = either_right (λ r. r ≡ Flying g) (gone to) low (a.right to) old (λ upto readers is fewer. let bad : Returning upto readers ≡ Flying g = sym is ∙ old in absurd (cc))
  sent_on g false to old = old

  says_on : (p from to f : ℕ) (x : Body)
      → SaysSo a.era a.hist a.reached a.listed a.right a.home a.sent p from to f x → SaysSo b.era b.hist b.reached b.listed b.right b.home b.sent p from to f x
  says_on p from to f (body.Request r) old = old
  says_on p from to f (body.Grant g) old = (old.0, λ now. sent_on (sent_of g) g.right to (old.1 now))
  says_on p from to f (body.Release r) old = old
  says_on p from to f (body.Revoke page) old = old
  says_on p from to f (body.Return r) old = (
    old.0,
    λ now.
        either_right (λ k. k ≡ Returning (suc a.era) r.readers) (gone from) low (a.right from) (old.1 now)
        (λ upto readers is fewer.
        let same : Returning upto readers ≡ Returning (suc a.era) r.readers = sym is ∙ old.1 now in
        let at : upto ≡ suc a.era = cc in
        absurd (omega (arith, at, fewer, before))),
  )
  says_on p from to f (body.Report r) old =
      record { later = old.later; reaches = old.reaches; locks = old.locks; rights = λ counts. old.rights (counts_back from f counts); waits = old.waits }

  links_on : (d : Cluster) (p q : ℕ) → LinksAre d p q a → LinksAre d p q b
  links_on d p q is = record { say = λ from to. all (coming d p from to) from to (is.say from to); ordered = is.ordered; once = is.once }
    where
      all : (ms : List Message) (from to : ℕ) → AllByRecursion (MessageIs d p q a from to) ms → AllByRecursion (MessageIs d p q b from to) ms
      all [] from to says = tt
      all (m ∷ ms) from to says = (says_on p from to (era_at d q m.epoch) m.body says.0, all ms from to says.1)

  nodes_on : (d : Cluster) (p q : ℕ) → NodesAre d p q a.era a.right a.reached → NodesAre d p q b.era b.right b.reached
  nodes_on d p q is =
      record {
        shelves = λ m.
            is.shelves m
            ∙ either_right (λ r. on_shelf (a.right m) ≡ on_shelf r) (gone m) low (a.right m) refl (λ upto readers at fewer. ap on_shelf at);
        eras = is.eras;
      }

  table_on : (p m f : ℕ) (on : Bool) (t : LockTable) → TableIs a p m f on t → TableIs b p m f on t
  table_on p m f true t old =
      record {
        serves = old.serves;
        here = old.here;
        now = old.now;
        version = old.version;
        holders = old.holders;
        rights = λ k out. old.rights k (out_back k out);
        waiting = old.waiting;
        writers = old.writers;
      }
  table_on p m f false t old =
      record {
        later = old.later;
        reaches = old.reaches;
        holders = old.holders;
        rights = λ k on counts. old.rights k on (counts_back k f counts);
        waiting = old.waiting;
        writers = old.writers;
      }

  table_of : (p q m : ℕ) (o : Option NodeState) → TableOf a p q m o → TableOf b p q m o
  table_of p q m None old = tt
  table_of p q m (Some s) old = in_table (table_at s q) old
    where
      in_table : (k : Option LockTable) → TableIn a p m (era_in s.view q) k → TableIn b p m (era_in s.view q) k
      in_table None old = tt
      in_table (Some t) old = table_on p m (era_in s.view q) t.serving t old

  tables_on : (d : Cluster) (p q : ℕ) → TablesAre d p q a → TablesAre d p q b
  tables_on d p q is = record { tables = λ m. table_of p q m (node_at d m) (is.tables m); serving = is.serving; era = is.era }

pub lowering_is_related_law : LoweringIsRelated
lowering_is_related_law d p low gone a before is =
    record {
      history = is.history;
      stored = is.stored;
      copies = is.copies;
      homes = record { stands = is.homes.stands; kinds = is.homes.kinds; scripts = is.homes.scripts; images = is.homes.images; written = is.homes.written };
      nodes = nodes_on a low gone before d p (partition d.config p) is.nodes;
      tables = tables_on a low gone before d p (partition d.config p) is.tables;
      links = links_on a low gone before d p (partition d.config p) is.links;
    }
