-- The work of an install before its partitions: what its node has as before.
use Rattle.std.proofs.Common.{◌≡◌, refl, ap, sym, ◌∙◌, ℕ, ◌==◌, nat_lt, Bool, true, false, List, [], ◌∷◌, length, Some, None, is_some, arith}
use Rattle.std.proofs.lemmas.Bool.Decides.{nat_tests}
use Rattle.pcl_base.specs.declared.reply.Reply.TheVariants as reply
use Rattle.pcl_base.specs.declared.tx.TxId.{TxId}
use Rattle.text_rules.specs.LogRecord.{whole_len}
use Rattle.run_rules.specs.Views.{View, born_of}
use Rattle.node_rules.specs.InstallRule.{begin_life, born_at, in_view, own_log, trim_if}
use Rattle.node_rules.specs.NodeState.{NodeState, number_of}
use Rattle.node_rules.specs.OpenTxs.{OpenTx, OpenTxs, is_open, is_own, name_of, with_serial}
use Rattle.node_rules.specs.Words.{pick}
use Rattle.node_rules.specs.Work.{Work, reply, with_node}
use Rattle.cluster_rules.specs.Clusters.{Cluster}
use Rattle.page_relation.specs.Work.StepEnds.{start_of}
use Rattle.install_relation.specs.Unseen.{entered}

-- the tables, the shelf and the open transactions, and nothing was sent
pub record EntersAs (s : NodeState) (w : Work) : Type 0 where
  pub tables : w.node.tables ≡ s.tables
  pub shelf : w.node.home.shelf ≡ s.home.shelf
  pub txs : w.node.home.txs.txs ≡ s.home.txs.txs
  pub number : w.node.home.txs.node ≡ s.home.txs.node
  pub sends : w.sends ≡ []

module _ (c : Cluster) (s : NodeState) (v : View) where
  abbrev answered : Work
  answered = reply (reply.Installed v.epoch) (with_node (start_of c s) (in_view v s))

  trims : (x : Bool) (keep : ℕ) → EntersAs s (trim_if x keep (with_node answered (born_at v.epoch (in_view v s))))
  trims true keep = record { tables = refl; shelf = refl; txs = refl; number = refl; sends = refl }
  trims false keep = record { tables = refl; shelf = refl; txs = refl; number = refl; sends = refl }

  begins : (x : Bool) → EntersAs s (begin_life x c.disk v answered)
  begins false = record { tables = refl; shelf = refl; txs = refl; number = refl; sends = refl }
  begins true =
      let born : Work = with_node answered (born_at v.epoch (in_view v s)) in
      trims (nat_lt (whole_len born.node.home.config (own_log c.disk born)) (length (own_log c.disk born))) (whole_len born.node.home.config (own_log c.disk born))

  pub enters_as : EntersAs s (entered c.disk v s (start_of c s))
  enters_as = begins (born_of v (number_of s) == v.epoch)

-- where a node isn't born its birth stays
pub enters_on : (c : Cluster) (s : NodeState) (v : View) → (born_of v (number_of s) == v.epoch) ≡ false → (entered c.disk v s (start_of c s)).node.home.txs.born ≡ s.home.txs.born
enters_on c s v old = ap (λ (x : Bool). (begin_life x c.disk v (answered c s v)).node.home.txs.born) old

-- ---- no transaction is open

first_open : (s : OpenTxs) (x : OpenTx) (xs : List OpenTx) → s.txs ≡ x ∷ xs → is_open s (name_of s x.serial) ≡ true
unfolding with_serial
first_open s x xs same =
    ap (λ (b : Bool). is_some (pick b (with_serial s.txs x.serial) None)) own
    ∙ ap (λ (ys : List OpenTx). is_some (with_serial ys x.serial)) same
    ∙ ap (λ (b : Bool). is_some (pick b (Some x) (with_serial xs x.serial))) (let e : (x.serial == x.serial) ≡ true = grind (arith, nat_tests) in e)
  where
    own : is_own s (name_of s x.serial) ≡ true
    own = grind (arith, nat_tests)

pub none_left : (s : OpenTxs) → ((t : TxId) → is_open s t ≡ false) → s.txs ≡ []
none_left s none = by s.txs refl
  where
    by : (xs : List OpenTx) → s.txs ≡ xs → xs ≡ []
    by [] is = refl
    by (x ∷ xs) is = (let bad : false ≡ true = sym (none (name_of s x.serial)) ∙ first_open s x xs is in absurd (cc))

-- no item where there are none
pub empty_of : {X : Type 0} (xs : List X) → length xs ≡ 0 → xs ≡ []
empty_of [] e = refl
empty_of (x ∷ xs) e = absurd (cc)
