-- What a partition needs before its purge stays through redo.
use Rattle.std.proofs.Common.{◌≡◌, ap, sym, subst, ℕ, Bool, List}
use Rattle.std.specs.List.{AllByRecursion, filter}
use Rattle.pcl_base.specs.declared.event.Event.{Event}
use Rattle.pcl_base.specs.declared.tx.TxId.{TxId}
use Rattle.run_rules.specs.Views.{View}
use Rattle.node_rules.specs.NodeState.{Outgoing, partition}
use Rattle.node_rules.specs.Work.{Work}
use Rattle.cluster_rules.specs.Clusters.{Cluster}
use Rattle.cluster_rules.specs.ClusterStep.{is_taken}
use Rattle.cluster_laws.specs.Link.Coming.{coming, sent_to}
use Rattle.page_protocol.specs.State.{Page}
use Rattle.page_relation.specs.Work.Landing.{land, Acts}
use Rattle.page_relation.specs.Work.Unseen.{speaks}
use Rattle.page_relation.proofs.WorkParts.Comings.{coming_same}
use Rattle.kept_relation.specs.Clearing.{ClearStays, IsClear}
use Rattle.kept_relation.specs.Emptying.{dead_below, gone_below}
use Rattle.kept_relation.specs.Purging.{AreSpared, SparedIn}
use Rattle.kept_relation.specs.Redoing.{IsSince, SameClaims}
use Rattle.kept_relation.proofs.Purged.{spared_landed}

-- a state with the locks, rights, transactions and era of another
mixed : Page → Page → Page
mixed a b = record b { listed = a.listed; home = a.home; right = a.right; era = a.era }

mixed_is : (a b : Page) → SameClaims a b → mixed a b ≡ b
unfolding mixed
mixed_is a b same =
    (λ i. record b { listed = sym same.listed i; home = sym same.home i; right = sym same.right i; era = sym same.era i })

module _ (c : Cluster) (e : Event) (n p : ℕ) (acts : Acts c n) (w x : Work) (a b : Page) (dead : TxId → Bool) (gone : ℕ → Bool) (is : IsSince w x a b) where
  spared_stay : AreSpared c e n p w a a.era dead gone → AreSpared c e n p x a a.era dead gone
  spared_stay spared from to =
      spared_landed c e n (partition c.config p) w x a a.era dead gone from to (coming (land c e n x) p from to)
      (subst (AllByRecursion (SparedIn (land c e n w) (partition c.config p) a a.era dead gone from to)) (sym (same from to)) (spared from to))
    where
      same : (from to : ℕ) → coming (land c e n x) p from to ≡ coming (land c e n w) p from to
      same from to =
          coming_same c e n p acts w x is.standing (ap is_taken is.replies) (λ m. ap (λ (os : List Outgoing). filter (speaks c.config p) (sent_to m os)) is.sends) from to

mixed_clear : (c : Cluster) (e : Event) (n p : ℕ) (v : View) (lost : List ℕ) (k : ℕ) (dead : TxId → Bool) (gone : ℕ → Bool) (w x : Work) (a b : Page) → Acts c n → IsSince w x a b
    → IsClear c e n p v lost k dead gone w a → IsClear c e n p v lost k dead gone x (mixed a b)
unfolding mixed
mixed_clear c e n p v lost k dead gone w x a b acts since is =
    record {
      are = record { named = is.are.named; closed = is.are.closed; unlisted = is.are.unlisted };
      shelves = is.shelves;
      readers = is.readers;
      lost_too = is.lost_too;
      fits = record { spared = is.fits.spared; listed = is.fits.listed; rights = is.fits.rights };
      spared = spared_stay c e n p acts w x a b (dead_below k dead) (gone_below k gone) since is.spared;
    }

pub clear_stays_law : ClearStays
clear_stays_law c e n p v lost k dead gone w x a b acts since is =
    subst (IsClear c e n p v lost k dead gone x) (mixed_is a b since.claims) (mixed_clear c e n p v lost k dead gone w x a b acts since is)
