-- The owner of a partition in an era.
use Rattle.std.proofs.Common.{◌≡◌, refl, ap, sym, subst, ◌∙◌, ℕ, ◌<◌, true, Option, Some, None, is_some, arith, eqb-true, mod-lt}
use Rattle.pcl_base.specs.Limits.{Sizes}
use Rattle.run_rules.specs.Views.{View, owner_of}
use Rattle.node_rules.specs.InstallRule.{owned_before}
use Rattle.node_rules.specs.LockTable.{LockTable}
use Rattle.node_rules.specs.NodeState.{NodeState, number_of, partition, table_at, table_of}
use Rattle.node_rules.specs.Work.{Work}
use Rattle.node_laws.proofs.Bases.{base_of}
use Rattle.node_laws.proofs.Works.{IsBase, IsGood, has_table}
use Rattle.cluster_rules.specs.Clusters.{Cluster, node_at}
use Rattle.cluster_laws.specs.Sound.{IsMember, IsCluster}
use Rattle.cluster_laws.proofs.Steps.{up_is_member_law}
use Rattle.cluster_laws.specs.Era.Eras.{era_at, era_in, owner_at}
use Rattle.cluster_laws.proofs.EraParts.Ages.{eras_have_one_owner_law}
use Rattle.cluster_laws.proofs.EraParts.Lives.{members_know_eras_law}

-- what a node knows of a partition that is its own
pub record IsOwner (c : Cluster) (q n : ℕ) (s : NodeState) : Type 0 where
  pub view : View
  pub in_view : s.view ≡ Some view
  pub owner_there : owner_at c q s.epoch ≡ n
  pub era_there : era_at c q s.epoch ≡ era_in s.view q

owner_by : (c : Cluster) (q n : ℕ) (s : NodeState) → IsCluster c → node_at c n ≡ Some s → (o : Option View) → s.view ≡ o → owned_before o q (number_of s) ≡ true → IsOwner c q n s
owner_by c q n s i up None is owned = absurd (cc)
owner_by c q n s i up (Some v) is owned =
    let member : IsMember c.config c.views n s = (up_is_member_law c n s i up).1 in
    let knows = members_know_eras_law c n s v member is in
    record {
      view = v;
      in_view = is;
      owner_there = knows.owners q ∙ eqb-true (owner_of v q) (number_of s) owned ∙ member.number;
      era_there = knows.eras q ∙ sym (ap (λ (o : Option View). era_in o q) is);
    }

pub owner_is_known : (c : Cluster) (q n : ℕ) (s : NodeState) → IsCluster c → node_at c n ≡ Some s → owned_before s.view q (number_of s) ≡ true → IsOwner c q n s
owner_is_known c q n s i up owned = owner_by c q n s i up s.view refl owned

-- a node that has a table of the partition is its owner
pub has_table_owns : (c : Cluster) (q n : ℕ) (s : NodeState) (tb : LockTable) → IsCluster c → node_at c n ≡ Some s → q < c.config.nodes → table_at s q ≡ Some tb → IsOwner c q n s
has_table_owns c q n s tb i up low there =
    let member : IsMember c.config c.views n s = (up_is_member_law c n s i up).1 in
    owner_is_known c q n s i up
    (sym (member.sound.owned q (subst (λ (k : Sizes). q < k.nodes) (sym member.config) low)) ∙ ap (λ (o : Option LockTable). is_some o) there)

-- two owners of one era are one
pub one_owner : (c : Cluster) (q m n : ℕ) (r s : NodeState) → IsCluster c → IsOwner c q m r → IsOwner c q n s → era_in r.view q ≡ era_in s.view q → m ≡ n
one_owner c q m n r s i first second same =
    sym first.owner_there
    ∙ eras_have_one_owner_law c q r.epoch s.epoch i (first.era_there ∙ same ∙ sym second.era_there)
    ∙ second.owner_there

pub partition_low : (c : Cluster) (n p : ℕ) (s : NodeState) → IsCluster c → node_at c n ≡ Some s → partition c.config p < c.config.nodes
partition_low c n p s i up = let low = (up_is_member_law c n s i up).0 in mod-lt p (omega (arith, low))

-- what is known of the own table inside a step
pub record HasOwn (c : Cluster) (n p : ℕ) (s : NodeState) (w : Work) (tb : LockTable) : Type 0 where
  pub owner : IsOwner c (partition c.config p) n s
  pub view_same : w.node.view ≡ s.view
  pub config : w.node.home.config ≡ c.config
  pub there : table_at w.node (partition c.config p) ≡ Some tb

pub has_own : (c : Cluster) (n p : ℕ) (s : NodeState) (w : Work) (tb : LockTable) → IsCluster c → node_at c n ≡ Some s → IsBase (base_of s) → IsGood (base_of s) w
    → table_of w.node p ≡ Some tb → HasOwn c n p s w tb
has_own c n p s w tb i up base good there =
    record { owner = owner_is_known c (partition c.config p) n s i up owned; view_same = good.view; config = config; there = at_own }
  where
    member : IsMember c.config c.views n s
    member = (up_is_member_law c n s i up).1

    config : w.node.home.config ≡ c.config
    config = good.home.config ∙ member.config

    at_own : table_at w.node (partition c.config p) ≡ Some tb
    at_own = ap (λ (k : Sizes). table_at w.node (partition k p)) (sym config) ∙ there

    owned : owned_before s.view (partition c.config p) (number_of s) ≡ true
    owned =
        (has_table (base_of s) base (partition c.config p) tb w (subst (λ (k : Sizes). partition c.config p < k.nodes) (sym member.config) (partition_low c n p s i up)) at_own good).0
