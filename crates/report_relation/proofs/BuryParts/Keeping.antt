-- What is known of a partition whose table the acting node keeps.
use Rattle.std.proofs.Common.{◌≡◌, refl, ap, sym, subst, ◌∙◌, ℕ, ◌<◌, ◌≤◌, ◌==◌, not, nat_le, Bool, true, false, List, Option, Some, None, arith, eqb-true}
use Rattle.std.specs.List.{AllByRecursion}
use Rattle.std.proofs.lemmas.Bool.Decides.{nat_tests}
use Rattle.pcl_base.specs.declared.event.Event.{Event}
use Rattle.pcl_base.specs.declared.message.Body.{Body}
use Rattle.pcl_base.specs.declared.message.Body.TheVariants as body
use Rattle.pcl_base.specs.declared.message.Message.{Message}
use Rattle.pcl_base.specs.declared.tx.TxId.{TxId}
use Rattle.run_rules.specs.Views.{View, is_live, owner_of, since_of}
use Rattle.node_rules.specs.LockRule.{mode_of}
use Rattle.node_rules.specs.LockTable.{LockTable, entry_at}
use Rattle.node_rules.specs.NodeState.{NodeState, partition}
use Rattle.node_rules.specs.Work.{Work}
use Rattle.cluster_rules.specs.Clusters.{Cluster, node_at, view_of_epoch}
use Rattle.cluster_laws.specs.Era.Counts.{counts_at, counts_in}
use Rattle.cluster_laws.specs.Era.Eras.{born_at, era_at, life_of}
use Rattle.cluster_laws.proofs.EraParts.Ages.{births_are_reached_law, born_is, era_is, eras_have_one_owner_law, live_is, owner_is}
use Rattle.cluster_laws.proofs.EraParts.Lives.{lives_go_on_law, up_nodes_live_law}
use Rattle.kept_relation.specs.Known.{dead_of, gone_in}
use Rattle.kept_relation.specs.Sparing.{IsNoAnswer, OwnsIn}
use Rattle.cluster_laws.specs.Link.Coming.{coming, is_coming, speaks_of}
use Rattle.page_protocol.specs.Laws.{NamedAreUsed}
use Rattle.page_protocol.specs.State.{has, Returning, Shelf, Page}
use Rattle.page_relation.specs.Looks.{shelf_in, shelf_of}
use Rattle.page_relation.specs.Messages.{is_answer}
use Rattle.page_relation.specs.Relation.{on_shelf}
use Rattle.page_relation.specs.Together.{IsParty, PartiesAre}
use Rattle.related_runs.specs.Parties.{IsLiving}
use Rattle.page_relation.specs.Work.Keeping.{IsWorkOf}
use Rattle.page_relation.specs.Work.Landing.{land, Acts}
use Rattle.page_relation.proofs.WorkParts.Nodes.{at_node, at_other}
use Rattle.report_relation.specs.Bury.Kept.{AnswerIsOld, IsKept}
use Rattle.report_relation.specs.Bury.Past.{past_in}
use Rattle.report_relation.proofs.BuryParts.Ahead.{born_of_script}
use Rattle.report_relation.proofs.BuryParts.Living.{both_parts, counted_alive, lives_in, past_of}
use Rattle.report_relation.proofs.BuryParts.Naming.{all_come, two_all}

pub not_so : (x : Bool) → not x ≡ true → x ≡ false
not_so true e = absurd (cc)
not_so false e = refl

module _ (c : Cluster) (e : Event) (n p : ℕ) (old v : View) (t : LockTable) (w : Work) (a : Page) (acts : Acts c n) (known : IsKept c e n p old v w t) where
  abbrev q : ℕ
  q = partition c.config p

  abbrev before : ℕ → Bool
  before = is_live old.live

  abbrev pub gone : ℕ → Bool
  gone = gone_in before v

  abbrev pub dead : TxId → Bool
  dead = dead_of before v

  pub off_of : (m : ℕ) → gone m ≡ true → is_live v.live m ≡ false
  off_of m there = not_so (is_live v.live m) (both_parts (before m) (not (is_live v.live m)) there).1

  -- who isn't listed and was born by then is past
  pub past_off : (u : TxId) → is_live v.live u.node ≡ false → u.born ≤ v.epoch → past_in v u ≡ true
  past_off u off early = past_of v u early (λ lives. let bad : true ≡ false = sym lives.live ∙ off in absurd (cc))

  pub dead_past : (u : TxId) → dead u ≡ true → past_in v u ≡ true
  dead_past u is =
      let parts = both_parts (gone u.node) (nat_le u.born v.epoch) is in
      let test = parts.1 in
      past_off u (off_of u.node parts.0) (grind (arith, nat_tests, test))

  pub dead_named : (u : TxId) → dead u ≡ true → gone u.node ≡ true
  dead_named u is = (both_parts (gone u.node) (nat_le u.born v.epoch) is).0

  -- whom the table lists was live, and born by then
  pub held_before : (u : TxId) → (mode_of (entry_at t p).holders u ≡ None → ⊥) → (before u.node ≡ true) × (u.born ≤ v.epoch)
  held_before u holds =
      let lives : IsLiving old u = known.holders u holds in
      let born = births_are_reached_law c u.node old.epoch acts.cluster in
      let same : born_at c u.node old.epoch ≡ u.born = born_is c old.epoch old known.earlier u.node ∙ sym lives.born in
      let rises = known.rises in
      (lives.live, omega (arith, born, same, rises))

  -- readers that an answer of a node names that isn't listed are past
  pub named_past : NamedAreUsed a → IsWorkOf c e n p w a → (m upto : ℕ) (readers : List TxId) → is_live v.live m ≡ false → a.right m ≡ Returning upto readers → (u : TxId) → u.node ≡ m → has u readers ≡ true
      → past_in v u ≡ true
  named_past used is m upto readers off right u home named =
      let born = born_of_script c e n p w a v.epoch u known.users is (used m upto readers right u home named) in
      past_off u (ap (is_live v.live) home ∙ off) (omega (arith, born))

  -- a node that isn't listed is another one, with nothing on its shelf
  pub other_of : (m : ℕ) → is_live v.live m ≡ false → (m == n) ≡ false
  other_of m off = by (m == n) refl
    where
      by : (b : Bool) → (m == n) ≡ b → b ≡ false
      by true test = let bad : false ≡ true = sym off ∙ (ap (is_live v.live) (eqb-true m n test) ∙ known.owner.listed) in absurd (cc)
      by false test = refl

  pub no_shelf : IsWorkOf c e n p w a → (m x : ℕ) → is_live v.live m ≡ false → a.right m ≡ Shelf x → ⊥
  unfolding shelf_of land
  no_shelf is m x off right = by (node_at (land c e n w) m) refl (is.nodes.shelves m)
    where
      never : (s : NodeState) → node_at (land c e n w) m ≡ Some s → life_of s < v.epoch → ⊥
      never s up young =
          let there : node_at c m ≡ Some s = at_other c e n acts w m (λ o. o ≡ Some s) (other_of m off) up in
          let lives = lives_in c acts.cluster v known.owner.there m (life_of s) (up_nodes_live_law c m s v.epoch acts.cluster there (omega (arith, young)) known.owner.made) in
          let bad : true ≡ false = sym lives.0 ∙ off in
          absurd (cc)

      by : (o : Option NodeState) → node_at (land c e n w) m ≡ o → shelf_in o p ≡ on_shelf (a.right m) → ⊥
      by None down same = let bad : None ≡ Some x = same ∙ ap on_shelf right in absurd (cc)
      by (Some s) up same = never s up (known.readers m s up (λ none. let bad : None ≡ Some x = sym none ∙ (same ∙ ap on_shelf right) in absurd (cc)))

  -- ---- no answer of such a node comes for the era

  counts_here : (from to epoch : ℕ) → to ≡ n → counts_in (node_at (land c e n w) to) from q epoch ≡ true → counts_at w.node (Some v) from q epoch ≡ true
  counts_here from to epoch same counts =
      subst (λ (o : Option View). counts_at w.node o from q epoch ≡ true) known.owner.view (at_node c e n acts w to (λ o. counts_in o from q epoch ≡ true) same counts)

  no_answer : (from to epoch : ℕ) (x : Body) (u : View) → view_of_epoch c.views epoch ≡ Some u → is_live u.live from ≡ true → PartiesAre c u from to epoch x → speaks_of c.config p x ≡ true
      → counts_in (node_at (land c e n w) to) from q epoch ≡ true → is_live v.live from ≡ false → (is_answer x ≡ true → born_at c from epoch < v.epoch) → is_answer x ≡ true → era_at c q epoch ≡ since_of v q → ⊥
  no_answer from to epoch (body.Request r) u at on parties speaks counts off aged is same = absurd (cc)
  no_answer from to epoch (body.Grant g) u at on parties speaks counts off aged is same = absurd (cc)
  no_answer from to epoch (body.Release r) u at on parties speaks counts off aged is same = absurd (cc)
  no_answer from to epoch (body.Revoke page) u at on parties speaks counts off aged is same = absurd (cc)
  no_answer from to epoch (body.Report r) u at on parties speaks counts off aged is same = absurd (cc)
  no_answer from to epoch (body.Return r) u at on parties speaks counts off aged is same = by (nat_le epoch v.epoch) refl
    where
      owns : owner_of u q ≡ to
      owns = ap (λ (k : ℕ). owner_of u (partition c.config k)) (sym (eqb-true r.page p speaks)) ∙ parties.0

      here : to ≡ n
      here =
          sym owns
          ∙ (sym (owner_is c epoch u at q)
          ∙ (eras_have_one_owner_law c q epoch v.epoch acts.cluster (same ∙ sym (era_is c v.epoch v known.owner.there q)) ∙ (owner_is c v.epoch v known.owner.there q ∙ known.owner.owner)))

      by : (b : Bool) → nat_le epoch v.epoch ≡ b → ⊥
      by true test =
          let alive = counted_alive w.node v from q epoch (grind (arith, nat_tests, test)) (counts_here from to epoch here counts) in
          let bad : true ≡ false = sym alive.0 ∙ off in
          absurd (cc)
      by false test =
          let after : v.epoch < epoch = grind (arith, nat_tests, test) in
          let born = aged is in
          let lives = lives_in c acts.cluster v known.owner.there from (born_at c from epoch)
          (lives_go_on_law c from epoch v.epoch acts.cluster (live_is c epoch u at from ∙ on) (omega (arith, born)) (omega (arith, after))) in
          let bad : true ≡ false = sym lives.0 ∙ off in
          absurd (cc)

  each : (from to : ℕ) → is_live v.live from ≡ false → (m : Message) → is_coming c.config p from (node_at (land c e n w) to) m ≡ true → IsParty c from to m × AnswerIsOld c from v.epoch m
      → IsNoAnswer (land c e n w) q (since_of v q) m
  unfolding land era_at
  each from to off m comes both =
      let parts = both_parts (speaks_of c.config p m.body) (counts_in (node_at (land c e n w) to) from (partition c.config p) m.epoch) comes in
      no_answer from to m.epoch m.body both.0.view both.0.made both.0.live both.0.parties parts.0 parts.1 off both.1

  pub no_answers : (from to : ℕ) → is_live v.live from ≡ false → AllByRecursion (IsNoAnswer (land c e n w) q (since_of v q)) (coming (land c e n w) p from to)
  no_answers from to off =
      two_all (λ (m : Message). is_coming c.config p from (node_at (land c e n w) to) m ≡ true) (λ (m : Message). IsParty c from to m × AnswerIsOld c from v.epoch m)
      (IsNoAnswer (land c e n w) q (since_of v q)) (each from to off) (coming (land c e n w) p from to) (all_come c e n p from to w)
      (two_all (IsParty c from to) (AnswerIsOld c from v.epoch) (λ (m : Message). IsParty c from to m × AnswerIsOld c from v.epoch m) (λ m x y. (x, y)) (coming (land c e n w) p from to)
      (known.owner.parties from to) (known.answers from to off))

  -- so the node owns the era, for those that are gone and for nobody
  pub owns_in : (some : ℕ → Bool) → ((m : ℕ) → some m ≡ true → is_live v.live m ≡ false) → OwnsIn c e n p v some w (since_of v q)
  owns_in some unlisted =
      record {
        there = known.owner.there;
        made = known.owner.made;
        listed = known.owner.listed;
        number = known.owner.number;
        view = known.owner.view;
        has = era_is c v.epoch v known.owner.there q;
        owner = owner_is c v.epoch v known.owner.there q ∙ known.owner.owner;
        unlisted = unlisted;
        parties = known.owner.parties;
        behind = known.behind;
        no_answers = λ from to there. no_answers from to (unlisted from there);
      }
