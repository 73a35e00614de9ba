-- What is granted in an access of a node's own transaction stands at its home.
use Rattle.std.proofs.Common.{◌≡◌, refl, sym, ap, subst, ◌∙◌, ℕ, ◌==◌, Bool, true, false, List, [], ◌∷◌, ◌++◌, Option, Some, None, is_some}
use Rattle.std.specs.Prelude.{IfSome, ⊤}
use Rattle.pcl_base.specs.declared.lock.Held.{Held}
use Rattle.pcl_base.specs.declared.lock.Kind.TheVariants as kind
use Rattle.pcl_base.specs.declared.reply.Reply.{Reply}
use Rattle.pcl_base.specs.declared.reply.Reply.TheVariants as reply
use Rattle.pcl_base.specs.declared.tx.Mode.{Mode}
use Rattle.pcl_base.specs.declared.tx.Mode.TheVariants.{Shared}
use Rattle.pcl_base.specs.declared.tx.TxId.{TxId}
use Rattle.text_rules.specs.MessageBytes.{IsPage}
use Rattle.node_rules.specs.Words.{pick, covers}
use Rattle.node_rules.specs.AccessRule.{Access, Accessed, Granted, mode_of_write, version_or, perform, under_right, waiting, next_of, is_held, is_allowed, take_frames, access, now_done}
use Rattle.node_rules.specs.BufferRule.{Copy, copy_at, find, version_of_copy}
use Rattle.node_rules.specs.LockRule.{ask}
use Rattle.node_rules.specs.NodeState.{HomeState, number_of, page_owner}
use Rattle.node_rules.specs.OpenTxs.{OpenTxs, is_open, held_by, pending_of, mode_held, waits_on, wait, add}
use Rattle.node_rules.specs.OwnerRule.{enter, waits_first, go_on, after_access, do_access}
use Rattle.node_rules.specs.Work.{HomeWork, Work, work_of_home, with_home_work}
use Rattle.home_laws.specs.Homes.{IsHome}
use Rattle.home_laws.specs.Refused.{access_refusal}
use Rattle.home_laws.proofs.Accessed.{access_sound}
use Rattle.home_laws.proofs.Allowed.{MayAccess, allowed}
use Rattle.home_laws.proofs.Frames.{frames_home}
use Rattle.step_laws.proofs.Outcomes.{On, on_so}
use Rattle.node_laws.proofs.Grants.{access_good}
use Rattle.node_laws.proofs.Works.{Base, IsHomeWork}
use Rattle.page_laws.specs.Look.Accesses.{HasLock, IsOneOf}
use Rattle.page_laws.proofs.LookParts.Accessing.{locking_is_seen_law, access_is_seen_law}
use Rattle.related_runs.specs.Granted.{StandsAt, Given}
use Rattle.related_runs.proofs.Standing.{IsDone, performed}
use Rattle.related_runs.proofs.Told.{IsTold, AreTold, Fine, fine_weaker, Past, enter_fine}

covered : (o : Option Held) (m : Mode) → covers (mode_held o) m ≡ true → is_some o ≡ true
covered None m e = absurd (cc)
covered (Some l) m e = refl

there_version : (o : Option Copy) → is_some o ≡ true → version_of_copy o ≡ Some (version_or (version_of_copy o))
there_version None e = absurd (cc)
there_version (Some x) e = refl

-- an access that is done at once, at a home that is sound then
module _ (a : Access) (x : HomeWork) (write : Option (ℕ × List ℕ)) (sound : IsHome (perform a.tx a.page write x).work.home)
    (holds : is_some (held_by x.home.txs a.tx a.page) ≡ true) (idle : pending_of x.home.txs a.tx ≡ None) where
  out : Granted
  out = perform a.tx a.page write x

  done : IsDone a.tx a.page x (perform a.tx a.page write x)
  done = performed a.tx a.page write x

  held_after : is_some (held_by (perform a.tx a.page write x).work.home.txs a.tx a.page) ≡ true
  held_after = subst (λ (s : OpenTxs). is_some (held_by s a.tx a.page) ≡ true) (sym done.txs) holds

  version : find (perform a.tx a.page write x).work.home.pool a.page ≡ Some (version_or (find x.home.pool a.page))
  version =
      there_version (copy_at (perform a.tx a.page write x).work.home.pool a.page) (sound.held a.tx a.page held_after).1
      ∙ ap (λ (o : Option ℕ). (let v : Option ℕ = Some (version_or o) in v)) (done.copies a.page)

  done_told : IsTold (λ q v. ⊤) (perform a.tx a.page write x).work.home (perform a.tx a.page write x).reply
  done_told = (
    subst (λ (o : Option Given). IfSome o (λ (g : Given). StandsAt (perform a.tx a.page write x).work.home g.tx g.page g.version × ⊤)) (sym done.given) (
      record {
        holds = held_after;
        waits = subst (λ (s : OpenTxs). waits_on (pending_of s a.tx) a.page ≡ false) (sym done.txs) (ap (λ o. waits_on o a.page) idle);
        version = version;
      },
      tt,
    ),
    done.commit,
  )

-- what an access comes to: it is done and stands, or waits
pub data Comes (a : Access) (owned : Bool) (last : ℕ) (x : Accessed) : Type 0 where
  at_once : (g : Granted) → x ≡ now_done g → IsTold (λ q v. ⊤) g.work.home g.reply → g.work.home.txs.last ≡ last → Comes a owned last x
  later : (have : Option ℕ) (w : HomeWork) → x ≡ record { next = next_of a owned have; work = w } → w.home.txs.last ≡ last → Comes a owned last x

module _ (a : Access) (owned : Bool) (w : HomeWork) (is : IsHome w.home) (may : access_refusal a w.home ≡ None) where
  taken : HomeWork
  taken = take_frames a w

  txs : (take_frames a w).home.txs ≡ w.home.txs
  txs = ap (λ (h : HomeState). h.txs) (frames_home a w)

  allow : MayAccess a w.home
  allow = allowed a w.home may

  one : IsOneOf a owned w (take_frames a w) (access a owned w)
  one = access_is_seen_law a owned w is may

  sound_as : (g : Granted) → access a owned w ≡ now_done g → IsHome g.work.home
  sound_as g e = subst (λ (x : Accessed). IsHome x.work.home) e (access_sound a owned w is may)

  idle : pending_of (take_frames a w).home.txs a.tx ≡ None
  idle = ap (λ (s : OpenTxs). pending_of s a.tx) txs ∙ allow.idle

  under : HomeWork
  under = record (take_frames a w) { home = under_right a.tx a.page (take_frames a w).home }

  right_lock : Held
  right_lock = record { page = a.page; mode = Shared; kind = kind.Right }

  has : HasLock a.tx (record { page = a.page; mode = Shared; kind = kind.Right }) (take_frames a w).home.txs (add (take_frames a w).home.txs a.tx (record { page = a.page; mode = Shared; kind = kind.Right }))
  has =
      locking_is_seen_law (take_frames a w).home.txs a.tx (record { page = a.page; mode = Shared; kind = kind.Right })
      (ap (λ (s : OpenTxs). is_open s a.tx) txs ∙ allow.there)

  held_done : is_held a w.home ≡ true → Comes a owned w.home.txs.last (access a owned w)
  held_done e =
      let same = one.held e in
      at_once (perform a.tx a.page a.write (take_frames a w)) same
      (done_told a (take_frames a w) a.write (sound_as (perform a.tx a.page a.write (take_frames a w)) same)
      (ap (λ (s : OpenTxs). is_some (held_by s a.tx a.page)) txs ∙ covered (held_by w.home.txs a.tx a.page) (mode_of_write a.write) e) idle)
      (ap (λ (s : OpenTxs). s.last) ((performed a.tx a.page a.write (take_frames a w)).txs ∙ txs))

  still_idle : (b : Bool) → pick b None (pending_of (take_frames a w).home.txs a.tx) ≡ None
  still_idle true = refl
  still_idle false = idle

  right_done : is_held a w.home ≡ false → is_allowed a owned w.home ≡ true → Comes a owned w.home.txs.last (access a owned w)
  right_done e f =
      let same = one.allowed e f in
      at_once (perform a.tx a.page None (record (take_frames a w) { home = under_right a.tx a.page (take_frames a w).home })) same
      (done_told a (record (take_frames a w) { home = under_right a.tx a.page (take_frames a w).home }) None
      (sound_as (perform a.tx a.page None (record (take_frames a w) { home = under_right a.tx a.page (take_frames a w).home })) same)
      (ap is_some has.here) (has.waits ∙ still_idle (waits_on (pending_of (take_frames a w).home.txs a.tx) a.page)))
      (ap (λ (s : OpenTxs). s.last) (performed a.tx a.page None (record (take_frames a w) { home = under_right a.tx a.page (take_frames a w).home })).txs
      ∙ has.named.2 ∙ ap (λ (s : OpenTxs). s.last) txs)

  waits_then : is_held a w.home ≡ false → is_allowed a owned w.home ≡ false → Comes a owned w.home.txs.last (access a owned w)
  unfolding wait
  waits_then e f =
      later (find w.home.pool a.page) (record (take_frames a w) { home = waiting a (take_frames a w).home }) (one.waits e f) (ap (λ (s : OpenTxs). s.last) txs)

  pub comes : Comes a owned w.home.txs.last (access a owned w)
  comes = by (is_held a w.home) refl (is_allowed a owned w.home) refl
    where
      by : (b : Bool) → is_held a w.home ≡ b → (d : Bool) → is_allowed a owned w.home ≡ d → Comes a owned w.home.txs.last (access a owned w)
      by true e d f = held_done e
      by false e true f = right_done e f
      by false e false f = waits_then e f

module _ (b : Base) where
  -- a reply before all others
  waits_told : (last : ℕ) (D : ℕ → ℕ → Type 0) (t : TxId) (p : ℕ) (w : Work) → AreTold [] last D w.node.home w.replies
      → AreTold [] last D (waits_first t p w).node.home (waits_first t p w).replies
  waits_told last D t p w are = by (is_some (pending_of w.node.home.txs t))
    where
      by : (x : Bool) → AreTold [] last D (pick x (record w { replies = reply.Waits t p ∷ w.replies }) w).node.home (pick x (record w { replies = reply.Waits t p ∷ w.replies }) w).replies
      by true =
          record { rest = reply.Waits t p ∷ are.rest; joined = ap (λ (rs : List Reply). reply.Waits t p ∷ rs) are.joined; told = ((tt, refl), are.told); last_same = are.last_same }
      by false = are

  -- an access that isn't refused
  pub access_told : (a : Access) (w : Work) → IsPage b.config a.page → access_refusal a w.node.home ≡ None → w.replies ≡ [] → IsHomeWork b (work_of_home w)
      → On (λ (y : Work). AreTold [] w.node.home.txs.last (λ q v. ⊤) y.node.home y.replies) (do_access a w)
  unfolding do_access
  access_told a w low may silent part =
      of (access a owned (work_of_home w)) (comes a owned (work_of_home w) part.home.home may) (access_good b a owned (work_of_home w) may low part)
    where
      last : ℕ
      last = w.node.home.txs.last

      owned : Bool
      owned = page_owner w.node a.page == number_of w.node

      asked : (y : Bool) (have : Option ℕ) (x : HomeWork) → x.home.txs.last ≡ last → IsHomeWork b x
          → On (λ (z : Work). AreTold [] last (λ q v. ⊤) z.node.home z.replies) (go_on a.tx a.page (next_of a y have) (with_home_work w x))
      asked false have x same is =
          record { rest = reply.Waits a.tx a.page ∷ []; joined = ap (λ (rs : List Reply). rs ++ reply.Waits a.tx a.page ∷ []) silent; told = ((tt, refl), tt); last_same = same }
      asked true have x same is =
          on_so (Fine [] last b (Past [] last b a.page low (λ q. ⊥))) (λ (z : Work). AreTold [] last (λ q v. ⊤) z.node.home z.replies)
          (enter (λ e. ask e (record { tx = a.tx; mode = mode_of_write a.write; have = have })) a.page (with_home_work w x)) (waits_first a.tx a.page)
          (enter_fine [] last b a.page low (λ q. ⊥) (λ none. none) (λ e. ask e (record { tx = a.tx; mode = mode_of_write a.write; have = have })) (with_home_work w x)
          (record { home = is.home; stored = is.stored }, record { rest = []; joined = silent; told = tt; last_same = same }))
          (λ z f. waits_told last (λ q v. ⊤) a.tx a.page z (fine_weaker [] last b (Past [] last b a.page low (λ q. ⊥)) (λ q v. ⊤) (λ p v d. tt) z f).1)

      of : (x : Accessed) → Comes a owned last x → IsHomeWork b x.work → On (λ (z : Work). AreTold [] last (λ q v. ⊤) z.node.home z.replies) (after_access a w x)
      of x (at_once g same told last_same) is =
          subst (λ (y : Accessed). On (λ (z : Work). AreTold [] last (λ q v. ⊤) z.node.home z.replies) (after_access a w y)) (sym same)
          (record { rest = g.reply ∷ []; joined = ap (λ (rs : List Reply). rs ++ g.reply ∷ []) silent; told = (told, tt); last_same = last_same })
      of x (later have y same last_same) is =
          subst (λ (z : Accessed). On (λ (z : Work). AreTold [] last (λ q v. ⊤) z.node.home z.replies) (after_access a w z)) (sym same)
          (asked owned have y last_same (subst (λ (z : Accessed). IsHomeWork b z.work) same is))
