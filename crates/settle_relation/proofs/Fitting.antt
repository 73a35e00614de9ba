-- What a grant of an owner says of the copy.
use Rattle.std.proofs.Common.{◌≡◌, refl, ap, sym, subst, ◌∙◌, ℕ, ◌≤◌, ◌==◌, nat_lt, Bool, true, false, List, [], ◌∷◌, length, Option, Some, None, is_some, arith, eqb-true}
use Rattle.std.proofs.lemmas.Bool.Decides.{nat_tests}
use Rattle.pcl_base.specs.declared.event.Event.{Event}
use Rattle.pcl_base.specs.declared.lock.Held.{Held}
use Rattle.pcl_base.specs.declared.trace.CopyKind.TheVariants as copy
use Rattle.pcl_base.specs.declared.tx.Mode.{Mode}
use Rattle.pcl_base.specs.declared.tx.TxId.{TxId}
use Rattle.run_rules.specs.Views.{View}
use Rattle.node_rules.specs.BufferRule as buffer
use Rattle.node_rules.specs.BufferRule.{bytes_of_copy, copy_at, version_of_copy}
use Rattle.node_rules.specs.CopyRule.{is_version, copy_for}
use Rattle.node_rules.specs.NodeState.{NodeState, partition}
use Rattle.node_rules.specs.OpenTxs.{OpenTx, OpenTxs, held_by, is_open, is_own, pending_of, with_serial}
use Rattle.node_rules.specs.OwnerRule.{copy_part}
use Rattle.node_rules.specs.Words.{pick}
use Rattle.node_rules.specs.Work.{Work}
use Rattle.cluster_rules.specs.Clusters.{Cluster, node_at, last_view}
use Rattle.cluster_laws.proofs.Steps.{up_is_member_law}
use Rattle.page_protocol.specs.Authority.{Told, WordFits}
use Rattle.page_protocol.specs.Bytes.{Copy}
use Rattle.page_protocol.specs.State.{Home, Fresh, Asking, Holding, HoldingAsks, Reading, ReadingAsks, Ended, Gone, Image, OnDisk, Page, IsClosed, IsFresh, version_of}
use Rattle.page_relation.specs.Homes.{Stands, StandsIn, is_unborn, wait_on}
use Rattle.page_relation.specs.Looks.{copy_in, slot_in, slot_of}
use Rattle.page_relation.specs.Messages.{HasAsked, IsTold, word_of}
use Rattle.page_relation.specs.Tables.{ReachedBy, ReachedIn}
use Rattle.page_relation.specs.Work.Keeping.{IsWorkOf}
use Rattle.page_relation.specs.Work.Landing.{land, Acts}
use Rattle.page_relation.proofs.WorkParts.Framing.{reached_landed}
use Rattle.page_relation.proofs.WorkParts.Nodes.{at_node, at_other}
use Rattle.settle_relation.specs.Fitting.{word_sent, word_own, WordsFit}

-- ---- who isn't open told nothing that binds

told_closed : (v : ℕ) (h : Home) → IsClosed h → Told v h
told_closed v Fresh i = tt
told_closed v (Asking m h) i = absurd i
told_closed v (Holding m) i = tt
told_closed v HoldingAsks i = tt
told_closed v Reading i = tt
told_closed v ReadingAsks i = tt
told_closed v (Ended x f) i = tt
told_closed v Gone i = tt

told_told : (v : ℕ) (have : Option ℕ) (h : Home) → have ≡ Some v → IsTold have h → Told v h
told_told v have Fresh same i = tt
told_told v have (Asking m h) same i = i ∙ same
told_told v have (Holding m) same i = tt
told_told v have HoldingAsks same i = tt
told_told v have Reading same i = tt
told_told v have ReadingAsks same i = tt
told_told v have (Ended x f) same i = tt
told_told v have Gone same i = tt

fresh_closed : (h : Home) → IsFresh h → IsClosed h
fresh_closed Fresh i = tt
fresh_closed (Asking m h) i = i
fresh_closed (Holding m) i = i
fresh_closed HoldingAsks i = i
fresh_closed Reading i = i
fresh_closed ReadingAsks i = i
fresh_closed (Ended x f) i = tt
fresh_closed Gone i = tt

-- one that isn't open at its node
not_open : (o u : Bool) (l : Option Held) (m : Option Mode) (h : Home) → o ≡ false → Stands o u l m h → IsClosed h
not_open true u l m h none i = absurd (cc)
not_open false true l m h none i = fresh_closed h i
not_open false false l m h none i = i

nobody_open : (s : OpenTxs) (t : TxId) → length s.txs ≡ 0 → is_open s t ≡ false
unfolding with_serial
nobody_open s t none = by (is_own s t) s.txs none
  where
    by : (b : Bool) (xs : List OpenTx) → length xs ≡ 0 → is_some (pick b (with_serial xs t.serial) None) ≡ false
    by false xs e = refl
    by true [] e = refl
    by true (x ∷ xs) e = absurd (omega (arith, e))

module _ (c : Cluster) (e : Event) (n p : ℕ) (w : Work) (a : Page) (t : TxId) (acts : Acts c n) (is : IsWorkOf c e n p w a) where
  -- what one of another node told
  told_there : (v : ℕ) (have : Option ℕ) → (t.node == n) ≡ false → have ≡ Some v → HasAsked (a.reached t.node) a.era (a.home t) have → a.reached t.node ≤ a.era → Told v (a.home t)
  unfolding land
  told_there v have away same asked low =
      by (node_at c t.node) refl (at_other c e n acts w t.node (λ o. StandsIn (last_view c).epoch o t p (a.home t)) away (is.homes.stands t))
      (at_other c e n acts w t.node (λ o. ReachedIn c (partition c.config p) a.era o (a.reached t.node)) away
      ((reached_landed c e n w (partition c.config p) a.era (a.reached t.node) (node_at (land c e n w) t.node)).0 (is.nodes.eras t.node)))
    where
      of : (s : NodeState) (o : Option View) → s.view ≡ o → node_at c t.node ≡ Some s → StandsIn (last_view c).epoch (Some s) t p (a.home t)
          → ReachedBy c (partition c.config p) a.era s o (a.reached t.node) → Told v (a.home t)
      of s None none up stands reached =
          told_closed v (a.home t)
          (not_open (is_open s.home.txs t) (is_unborn s.view s t) (held_by s.home.txs t p) (wait_on (pending_of s.home.txs t) p) (a.home t)
          (nobody_open s.home.txs t ((up_is_member_law c t.node s acts.cluster up).1.sound.idle none)) stands)
      of s (Some u) some up stands reached =
          let more = reached.1 in
          let now : a.reached t.node ≡ a.era = omega (arith, low, more) in
          told_told v have (a.home t) same (asked.told now)

      by : (o : Option NodeState) → node_at c t.node ≡ o → StandsIn (last_view c).epoch o t p (a.home t) → ReachedIn c (partition c.config p) a.era o (a.reached t.node)
          → Told v (a.home t)
      by None down stands reached = told_closed v (a.home t) (not_open false (nat_lt (last_view c).epoch t.born) None None (a.home t) refl stands)
      by (Some s) up stands reached = of s s.view refl up stands reached

  -- the owner's copy, or the disk
  image_fits : (v : ℕ) (d : Bool) (o : Option buffer.Copy) → v ≡ a.entry → is_version (version_of_copy o) v ≡ d → copy_in o ≡ a.slot a.owner
      → WordFits a t (pick d (Image (bytes_of_copy o)) OnDisk)
  image_fits v true None now is there = absurd (cc)
  image_fits v true (Some x) now is there =
      sym there ∙ ap (λ (k : ℕ). let o : Option Copy = Some (record { version = k; bytes = x.bytes }) in o) (eqb-true x.version v is ∙ now)
  image_fits v false None now is there = λ at. let bad : None ≡ Some a.entry = ap version_of there ∙ at in absurd (cc)
  image_fits v false (Some x) now is there = λ at.
      let same : Some x.version ≡ Some a.entry = ap version_of there ∙ at in
      let one : x.version ≡ a.entry = cc in
      absurd (grind (arith, nat_tests, is, one, now))

  slot_there : n ≡ a.owner → copy_in (copy_at w.node.home.pool p) ≡ a.slot a.owner
  unfolding slot_of
  slot_there here = at_node c e n acts w a.owner (λ o. slot_in o p ≡ a.slot a.owner) (sym here) (is.copies.slot_same a.owner)

  own_fits : (v : ℕ) → n ≡ a.owner → v ≡ a.entry → WordFits a t (word_own w.node.home.pool p v)
  own_fits v here now = image_fits v (is_version (version_of_copy (copy_at w.node.home.pool p)) v) (copy_at w.node.home.pool p) now refl (slot_there here)

  sent_fits : (v : ℕ) (have : Option ℕ) → n ≡ a.owner → v ≡ a.entry → (t.node == n) ≡ false → HasAsked (a.reached t.node) a.era (a.home t) have
      → WordFits a t (word_sent w.node.home.pool p have v)
  unfolding copy_for
  sent_fits v have here now away asked = by (is_version have v) refl
    where
      current : (have : Option ℕ) → is_version have v ≡ true → have ≡ Some v
      current None is = absurd (cc)
      current (Some k) is = ap Some (eqb-true k v is)

      brought : (d : Bool) → is_version (version_of_copy (copy_at w.node.home.pool p)) v ≡ d
          → WordFits a t (word_of (copy_part (pick d copy.Image copy.OnDisk) (bytes_of_copy (copy_at w.node.home.pool p))))
      brought true is = image_fits v true (copy_at w.node.home.pool p) now is (slot_there here)
      brought false is = image_fits v false (copy_at w.node.home.pool p) now is (slot_there here)

      by : (d : Bool) → is_version have v ≡ d
          → WordFits a t (word_of (copy_part (pick d copy.Current (pick (is_version (version_of_copy (copy_at w.node.home.pool p)) v) copy.Image copy.OnDisk)) (bytes_of_copy (copy_at w.node.home.pool p))))
      by true is = λ low. subst (λ (k : ℕ). Told k (a.home t)) now (told_there v have away (current have is) asked low)
      by false is = brought (is_version (version_of_copy (copy_at w.node.home.pool p)) v) refl

pub words_fit_law : WordsFit
words_fit_law c e n p v t w a acts here now is = (
  λ have away asked. sent_fits c e n p w a t acts is v have here now away asked,
  own_fits c e n p w a t acts is v here now,
)
