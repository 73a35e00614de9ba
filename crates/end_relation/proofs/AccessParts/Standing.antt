-- A home in which one transaction stands elsewhere.
use Rattle.std.proofs.Common.{◌≡◌, refl, ap, sym, subst, ◌∙◌, ℕ, ◌==◌, false, List, Some, arith}
use Rattle.std.proofs.lemmas.Bool.Decides.{nat_tests}
use Rattle.pcl_base.specs.declared.event.Event.{Event}
use Rattle.pcl_base.specs.declared.tx.Mode.TheVariants.{Exclusive}
use Rattle.pcl_base.specs.declared.tx.TxId.{TxId}
use Rattle.node_rules.specs.BufferRule.{private_bytes}
use Rattle.node_rules.specs.NodeState.{HomeState, Run, runs_at, partition, table_at}
use Rattle.node_rules.specs.OpenTxs.{held_by, pending_of}
use Rattle.node_rules.specs.Work.{Work, with_home}
use Rattle.cluster_rules.specs.Clusters.{Cluster, last_view}
use Rattle.page_laws.specs.Look.Parts.{SameLife, SamePrivates}
use Rattle.page_protocol.specs.State.{Home, Holding, Page, current, upd}
use Rattle.page_protocol.specs.State as machine
use Rattle.page_protocol.proofs.Basics.{by_test, same_tx_true}
use Rattle.page_relation.specs.Homes.{wait_on, StandsIn, KindIn, image_of}
use Rattle.page_laws.specs.Written.Written.{DiffersWithin}
use Rattle.page_relation.specs.Work.Keeping.{IsWorkOf}
use Rattle.page_relation.specs.Work.Landing.{land, Acts}
use Rattle.page_relation.specs.Work.Unseen.{SameStanding, SameCopy, SameRight}
use Rattle.page_relation.proofs.WorkParts.Framing.{entry_self}
use Rattle.page_relation.proofs.WorkParts.Nodes.{kind_same}
use Rattle.end_relation.specs.Access.Altered.{altered, MayBecome, IsAltered}
use Rattle.end_relation.proofs.AccessParts.Altered.{altered_is_related_law}
use Rattle.end_relation.proofs.AccessParts.Looking.{may_one, stands_like}

-- what is known of it
pub record StandsElsewhere (c : Cluster) (p : ℕ) (w : Work) (g : HomeState) (a : Page) (t : TxId) (h : Home) : Type 0 where
  pub may : MayBecome (a.home t) h
  pub life : SameLife w.node.home g
  pub held : (u : TxId) → machine.same_tx u t ≡ false → held_by g.txs u p ≡ held_by w.node.home.txs u p
  pub waits : (u : TxId) → machine.same_tx u t ≡ false → wait_on (pending_of g.txs u) p ≡ wait_on (pending_of w.node.home.txs u) p
  pub privates : SamePrivates w.node.home g
  pub copy : SameCopy p w.node.home g
  pub right : SameRight p w.node.home g
  pub stands : StandsIn (last_view c).epoch (Some (with_home w g).node) t p h
  pub kind : KindIn (Some w.node) t p → KindIn (Some (with_home w g).node) t p
  pub image : (bytes : List ℕ) → image_of h bytes ≡ image_of (a.home t) bytes
  pub reads : h ≡ Holding Exclusive → ⊥

module _ (c : Cluster) (e : Event) (n p : ℕ) (acts : Acts c n) (w : Work) (a : Page) (related : IsWorkOf c e n p w a) (t : TxId) (mine : t.node ≡ n) (g : HomeState) (h : Home)
    (is : StandsElsewhere c p w g a t h) where
  abbrev x : Work
  x = with_home w g

  x_standing : SameStanding w.node x.node
  x_standing = record { config = is.life.config; number = is.life.node; epoch = refl; view = refl }

  one_altered : IsAltered c e n p w x a (upd a.home t h) a.script a.image
  unfolding land
  one_altered =
      record {
        may = may_one a t h is.may;
        standing = x_standing;
        copy = is.copy;
        right = is.right;
        table = entry_self p (table_at w.node (partition c.config p));
        stored = λ disk log old. old;
        now_same = refl;
        taken = refl;
        sends = λ b. refl;
        away = λ u other.
            (by_test (machine.same_tx u t) (λ k. k ≡ a.home u) h (a.home u) (λ same. absurd (not_here u other (same_tx_true u t same))) (λ off. refl), refl);
        stands = λ u at old.
            by_test (machine.same_tx u t) (StandsIn (last_view c).epoch (Some x.node) u p) h (a.home u)
            (λ same. subst (λ (v : TxId). StandsIn (last_view c).epoch (Some x.node) v p h) (sym (same_tx_true u t same)) is.stands)
            (λ off. stands_like w.node x.node (last_view c).epoch p u (a.home u) x_standing is.life (is.held u off) (is.waits u off) old);
        kinds = λ u at old.
            by_test (machine.same_tx u t) (λ (k : Home). KindIn (Some x.node) u p) h (a.home u)
            (λ same.
            subst (λ (v : TxId). KindIn (Some x.node) v p) (sym (same_tx_true u t same)) (is.kind (subst (λ (v : TxId). KindIn (Some w.node) v p) (same_tx_true u t same) old)))
            (λ off. kind_same w.node x.node x_standing p u (is.held u off) old);
        told = related.homes.scripts;
        private = λ u at old.
            by_test (machine.same_tx u t) (λ k. private_bytes g.pool u p ≡ image_of k (a.image u)) h (a.home u)
            (λ same. is.privates.bytes u p ∙ old ∙ sym (subst (λ (v : TxId). image_of h (a.image u) ≡ image_of (a.home v) (a.image u)) (sym (same_tx_true u t same)) (is.image (a.image u))))
            (λ off. is.privates.bytes u p ∙ old);
        written = λ u at exclusive old.
            by_test (machine.same_tx u t) (λ k. k ≡ Holding Exclusive → DiffersWithin (runs_at g.written u p) (current a).bytes (a.image u)) h (a.home u)
            (λ same holds. absurd (is.reads holds))
            (λ off holds. subst (λ (rs : List Run). DiffersWithin rs (current a).bytes (a.image u)) (sym (is.privates.runs u p)) (old holds)) exclusive;
      }
    where
      not_here : (u : TxId) → (u.node == n) ≡ false → u ≡ t → ⊥
      not_here u other same = absurd (let at : u.node ≡ n = ap (λ (v : TxId). v.node) same ∙ mine in grind (arith, nat_tests, other, at))

  pub one_related : IsWorkOf c e n p x (altered a (upd a.home t h) a.script a.image)
  one_related = altered_is_related_law c e n p w x a (upd a.home t h) a.script a.image acts one_altered related
