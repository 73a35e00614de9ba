-- What is known of a page when its partition has its turn in an install.
use Rattle.std.proofs.Common.{◌≡◌, inl, inr, refl, ap, sym, subst, ◌∙◌, ℕ, ◌<◌, ◌==◌, nat_lt, Bool, true, false, List, [], length, Option, Some, None, is_some}
use Rattle.std.specs.List.{AllByRecursion, filter}
use Rattle.std.proofs.lemmas.Nat.{mod_below}
use Rattle.pcl_base.specs.Limits.{Sizes}
use Rattle.pcl_base.specs.declared.event.Event.{Event}
use Rattle.pcl_base.specs.declared.message.Message.{Message}
use Rattle.pcl_base.specs.declared.reply.Reply.TheVariants as reply
use Rattle.text_rules.specs.LogRecord.{whole_len}
use Rattle.run_rules.specs.Disk.{Disk, log_at}
use Rattle.run_rules.specs.Views.{View, owner_of, since_of, born_of}
use Rattle.node_rules.specs.InstallRule.{begin_life, born_at, in_view, owned_before, trim_if}
use Rattle.node_rules.specs.NodeState.{NodeState, Install, Outgoing, number_of, partition, table_at}
use Rattle.node_rules.specs.OpenTxs.{OpenTx}
use Rattle.node_rules.specs.Shelf.{Right, right_on}
use Rattle.node_rules.specs.Words.{pick}
use Rattle.node_rules.specs.Work.{Work, reply, with_node}
use Rattle.cluster_rules.specs.Clusters.{Cluster}
use Rattle.cluster_laws.specs.Link.Coming.{speaks_of, sent_to}
use Rattle.page_laws.specs.Look.Ends.{version_of_right}
use Rattle.page_protocol.specs.State.{Page}
use Rattle.page_relation.specs.Work.Keeping.{IsWorkOf}
use Rattle.page_relation.specs.Work.Landing.{Acts}
use Rattle.page_relation.specs.Work.StepEnds.{start_of}
use Rattle.page_relation.specs.Work.Unseen.{speaks}
use Rattle.page_relation.proofs.WorkParts.Framing.{unseen_is_kept_law}
use Rattle.page_relation.proofs.WorkParts.Started.{start_is_related_law}
use Rattle.settle_relation.specs.Midway.{IsMidway}
use Rattle.kept_relation.specs.Turn.Standing.{HasNext, as_before}
use Rattle.kept_relation.specs.Turn.Telling.{GoesOn, Begins, HasNone, HasTable}
use Rattle.kept_relation.proofs.TurnParts.Unborn.{none_open}
use Rattle.install_relation.specs.Installing.{IsWaiting, numbers_at}
use Rattle.install_relation.specs.Taking.{MayTurnTo, Gets}
use Rattle.install_relation.specs.Unseen.{KeepsBirth, entered}
use Rattle.install_relation.specs.Whole.{IsInstallOf}
use Rattle.install_relation.proofs.Before.{unseen_before_law, entering_is_unseen_law}
use Rattle.install_relation.proofs.Begun.{member, acts, epoch, has_next, installs, empty_of}
use Rattle.install_relation.proofs.Good.{here_old}
use Rattle.install_relation.proofs.Signs.{none_sent, none_left, no_right, no_table}

-- what the beginning of a life leaves
module _ (d : Disk) (v : View) (w : Work) where
  begun_txs : (x : Bool) → (begin_life x d v w).node.home.txs.txs ≡ w.node.home.txs.txs
  begun_txs false = refl
  begun_txs true = by (nat_lt (whole_len w.node.home.config (log_at d (number_of w.node))) (length (log_at d (number_of w.node))))
    where
      by : (b : Bool) → (trim_if b (whole_len w.node.home.config (log_at d (number_of w.node))) (with_node w (born_at v.epoch w.node))).node.home.txs.txs ≡ w.node.home.txs.txs
      by true = refl
      by false = refl

  begun_sends : (x : Bool) → (begin_life x d v w).sends ≡ w.sends
  begun_sends false = refl
  begun_sends true = by (nat_lt (whole_len w.node.home.config (log_at d (number_of w.node))) (length (log_at d (number_of w.node))))
    where
      by : (b : Bool) → (trim_if b (whole_len w.node.home.config (log_at d (number_of w.node))) (with_node w (born_at v.epoch w.node))).sends ≡ w.sends
      by true = refl
      by false = refl

  begun_shelf : (x : Bool) → (begin_life x d v w).node.home.shelf ≡ w.node.home.shelf
  begun_shelf false = refl
  begun_shelf true = by (nat_lt (whole_len w.node.home.config (log_at d (number_of w.node))) (length (log_at d (number_of w.node))))
    where
      by : (b : Bool) → (trim_if b (whole_len w.node.home.config (log_at d (number_of w.node))) (with_node w (born_at v.epoch w.node))).node.home.shelf ≡ w.node.home.shelf
      by true = refl
      by false = refl

module _ (c : Cluster) (e : Event) (n p : ℕ) (s : NodeState) (v : View) (blank : List ℕ) (a : Page) (i : IsInstallOf c e n p s v blank a) (w : Work) (m : IsWaiting c e n p s v (partition c.config p) w) where
  abbrev q : ℕ
  q = partition c.config p

  abbrev midway : IsMidway (numbers_at s v q) c e n w
  midway = m.installing.midway

  abbrev first : Work
  first = entered c.disk v s (start_of c s)

  abbrev answered : Work
  answered = reply (reply.Installed v.epoch) (with_node (start_of c s) (in_view v s))

  pub low : q < c.config.nodes
  low = mod_below p c.config.nodes i.install.cluster.limits.some_nodes

  pub act : Acts c n
  act = acts c e n s v i.install

  pub has : HasNext c n s v w.node
  has = has_next c e n s v i.install q w midway

  born_is : w.node.home.txs.born ≡ pick (born_of v (number_of s) == v.epoch) v.epoch s.home.txs.born
  born_is = midway.good.home.born

  -- where it begins its life, no transaction is open
  none_first : (born_of v (number_of s) == v.epoch) ≡ true → first.node.home.txs.txs ≡ []
  none_first new = begun_txs c.disk v answered (born_of v (number_of s) == v.epoch) ∙ empty_of s.home.txs.txs ((installs c e n s v i.install).first new)

  none_now : (born_of v (number_of s) == v.epoch) ≡ true → w.node.home.txs.txs ≡ []
  none_now new =
      none_left w.node.home.txs
      (λ t. m.unseen.life.alive t ∙ ap (λ (o : Option OpenTx). is_some o) (none_open first.node.home.txs t (none_first new)))

  same_birth : (born_of v (number_of s) == v.epoch) ≡ false → w.node.home.txs.born ≡ s.home.txs.born
  same_birth old = born_is ∙ ap (λ (b : Bool). pick b v.epoch s.home.txs.born) old

  births : KeepsBirth s first w
  births = by (born_of v (number_of s) == v.epoch) refl
    where
      by : (x : Bool) → (born_of v (number_of s) == v.epoch) ≡ x → KeepsBirth s first w
      by true new = inr (none_first new, none_now new)
      by false old = inl (sym m.unseen.life.born ∙ same_birth old)

  -- the relation with the old view
  pub before_related : IsWorkOf c e n p (as_before s w) a
  before_related =
      unseen_is_kept_law c e n p (as_before s first) (as_before s w) a act (unseen_before_law c e n p s first w births m.unseen)
      (unseen_is_kept_law c e n p (start_of c s) (as_before s first) a act
      (entering_is_unseen_law c e n p s v (member c e n s v i.install).config (member c e n s v i.install).number)
      (start_is_related_law c e n p s (Install v) a i.install.cluster i.install.handed i.related))

  -- nothing was sent of the page
  none : AllByRecursion (λ (o : Outgoing). speaks_of c.config p o.message.body ≡ false) w.sends
  unfolding sent_to
  none =
      none_sent c.config p w.sends
      (λ b. m.unseen.sends b ∙ ap (λ (os : List Outgoing). filter (speaks c.config p) (sent_to b os)) (begun_sends c.disk v answered (born_of v (number_of s) == v.epoch)) ∙ nothing b)
    where
      nothing : (b : ℕ) → filter (speaks c.config p) (sent_to b []) ≡ (let ms : List Message = [] in ms)
      nothing b = refl

  pub may_turn : since_of v q ≡ v.epoch → MayTurnTo c n p s v w a blank
  may_turn new =
      record {
        has = has;
        order = i.order;
        parties = i.parties;
        none = none;
        home = midway.good.home.home;
        heard = i.heard;
        used = i.used;
        reached = i.reached;
        new = new;
      }

  -- a table just where the node owned the partition
  room : q < s.home.config.nodes
  room = subst (λ (k : Sizes). q < k.nodes) (sym (member c e n s v i.install).config) low

  owned_table : is_some (table_at w.node q) ≡ owned_before s.view q (number_of s)
  owned_table = midway.good.tables.owned q room ∙ here_old s.view v (number_of s) q

  pub table_none : owned_before s.view q (number_of s) ≡ false → table_at w.node q ≡ None
  table_none not = no_table (table_at w.node q) (owned_table ∙ not)

  pub place : q < length w.node.tables
  place = subst (λ (k : ℕ). q < k) (sym midway.good.tables.places) room

  pub number : number_of s ≡ n
  number = (member c e n s v i.install).number

  as_owned : (x : Bool) → owned_before s.view q n ≡ x → owned_before s.view q (number_of s) ≡ x
  as_owned x is = ap (λ (k : ℕ). owned_before s.view q k) number ∙ is

  pub goes_on : (old : View) → s.view ≡ Some old → GoesOn s old w
  goes_on old own = record { own = own; born = same_birth ((installs c e n s v i.install).goes_on old own) }

  pub begins : s.view ≡ None → Begins c p s w
  begins none =
      let new = (installs c e n s v i.install).begins none in
      record {
        none = none;
        empty = none_now new;
        born = born_is ∙ ap (λ (b : Bool). pick b v.epoch s.home.txs.born) new ∙ epoch c e n s v i.install;
        free = table_none (ap (λ (o : Option View). owned_before o q (number_of s)) none);
      }

  -- it gets the partition
  not_owned : (since_of v q == v.epoch) ≡ true → (owner_of v q == n) ≡ true → (b : Bool) → owned_before s.view q n ≡ b → owned_before s.view q n ≡ false
  not_owned new owns false is = is
  not_owned new owns true is =
      let moved = (installs c e n s v i.install).moves q room new (as_owned true is) in
      (let bad : true ≡ false = sym owns ∙ ap (λ (k : ℕ). owner_of v q == k) (sym number) ∙ moved in absurd (cc))

  pub gets : (since_of v q == v.epoch) ≡ true → (owner_of v q == n) ≡ true → Gets c n p s v w
  gets new owns =
      let not = not_owned new owns (owned_before s.view q n) refl in
      record { owner = owns; not_own = not; free = table_none (as_owned false not); place = place }

  -- a node in no view has nothing on its shelf
  pub bare : s.view ≡ None → right_on w.node.home.shelf p ≡ None
  bare none =
      no_right (right_on w.node.home.shelf p)
      (m.unseen.page.right ∙ ap (λ (rs : List Right). version_of_right (right_on rs p)) (begun_shelf c.disk v answered (born_of v (number_of s) == v.epoch)) ∙ i.quiet n s i.install.handed.up none)

  -- what it had where another node gets it
  pub has_none : owned_before s.view q n ≡ false → HasNone c n p s w
  has_none not = record { not_own = not; free = table_none (as_owned false not) }

  pub has_table : owned_before s.view q n ≡ true → HasTable c n p s w
  has_table owned = record { owned = owned; place = place }
