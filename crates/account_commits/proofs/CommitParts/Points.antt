-- What the entry of a commit makes of the versions of a ledger: those of its commit point, and no more.
use Rattle.std.proofs.Common.{◌≡◌, refl, ap, ◌∙◌, ℕ, true, List, [], ◌∷◌, ◌++◌, None}
use Rattle.std.specs.List.{filter, fold, flat_map}
use Rattle.pcl_base.specs.declared.reply.Reply.{Reply}
use Rattle.pcl_base.specs.declared.reply.Reply.TheVariants as reply
use Rattle.pcl_base.specs.declared.trace.Entry.{Entry}
use Rattle.pcl_base.specs.declared.tx.TxId.{TxId}
use Rattle.run_rules.specs.Account.{heard}
use Rattle.run_rules.specs.Ledger.{Ledger}
use Rattle.run_rules.specs.Script.{Commits, told, kept}
use Rattle.run_rules.specs.Taking.{one_more}
use Rattle.run_rules.specs.Words.{same_tx}
use Rattle.home_laws.proofs.Tests.{tx_equal}
use Rattle.node_rules.specs.NodeState.{Commit}
use Rattle.account_relation.specs.Replies.{is_behind, is_committed, AreBehind, AreAnswers, answered, granted}
use Rattle.account_versions.proofs.TraceParts.Cores.{Core, core_of, core_after, cores_after, cores_joined, moments_core, heard_core}

-- granted accesses and served partitions behind a commit leave the versions
behind_one : (r : Reply) (k : Core) → is_behind r ≡ true → (cores_after k (told r)).versions ≡ k.versions
behind_one (reply.Begun u) k is = refl
behind_one (reply.Committed u) k is = absurd (cc)
behind_one (reply.Aborted u) k is = refl
behind_one (reply.Value u p v bytes) k is = refl
behind_one (reply.Done u p v) k is = refl
behind_one (reply.Waits u p) k is = refl
behind_one reply.Taken k is = refl
behind_one reply.Held k is = refl
behind_one reply.Dropped k is = refl
behind_one reply.Evicted k is = refl
behind_one reply.Flushed k is = refl
behind_one reply.Crashed k is = refl
behind_one reply.Armed k is = refl
behind_one (reply.Cut n) k is = refl
behind_one (reply.Viewed n) k is = refl
behind_one (reply.Installed n) k is = refl
behind_one (reply.Reopened n) k is = refl
behind_one (reply.Serving q) k is = refl
behind_one (reply.Refused x) k is = refl

behind_all : (rs : List Reply) (k : Core) → AreBehind rs → (cores_after k (flat_map told rs)).versions ≡ k.versions
behind_all [] k all = refl
behind_all (r ∷ rs) k all =
    ap (λ (j : Core). j.versions) (cores_joined k (told r) (flat_map told rs)) ∙ behind_all rs (cores_after k (told r)) all.1 ∙ behind_one r k all.0

-- the versions after the commit point of t
abbrev pub committed : TxId → Ledger → List ℕ
committed t l = fold one_more l.versions (filter (λ x. same_tx x.tx t) l.done)

replied : (t : TxId) (rs : List Reply) (l : Ledger) → AreAnswers (Commit t) rs → (cores_after (core_of l) (flat_map told rs)).versions ≡ committed t l
replied t rs l (granted asks behind) = absurd (cc)
replied t rs l (answered first rest is own behind) = ap (λ (xs : List Reply). (cores_after (core_of l) (flat_map told xs)).versions) is ∙ by first own
  where
    by : (r : Reply) → is_committed t r ≡ true → (cores_after (core_of l) (told r ++ flat_map told rest)).versions ≡ committed t l
    by (reply.Committed u) own = behind_all rest (core_after (core_of l) (Commits u)) behind ∙ ap (λ (v : TxId). committed v l) (tx_equal u t own)
    by (reply.Begun u) own = absurd (cc)
    by (reply.Aborted u) own = absurd (cc)
    by (reply.Value u p v bytes) own = absurd (cc)
    by (reply.Done u p v) own = absurd (cc)
    by (reply.Waits u p) own = absurd (cc)
    by reply.Taken own = absurd (cc)
    by reply.Held own = absurd (cc)
    by reply.Dropped own = absurd (cc)
    by reply.Evicted own = absurd (cc)
    by reply.Flushed own = absurd (cc)
    by reply.Crashed own = absurd (cc)
    by reply.Armed own = absurd (cc)
    by (reply.Cut n) own = absurd (cc)
    by (reply.Viewed n) own = absurd (cc)
    by (reply.Installed n) own = absurd (cc)
    by (reply.Reopened n) own = absurd (cc)
    by (reply.Serving q) own = absurd (cc)
    by (reply.Refused x) own = absurd (cc)

-- an entry with the replies of a commit, which no stop ended
pub point_heard : (t : TxId) (x : Entry) (l : Ledger) → x.halted ≡ None → AreAnswers (Commit t) x.replies → (heard x l).versions ≡ committed t l
point_heard t x l whole answers =
    ap (λ (k : Core). k.versions) (heard_core x l ∙ moments_core x (core_of l) ∙ ap (λ h. cores_after (cores_after (core_of l) (flat_map told x.replies)) (kept h)) whole) ∙ replied t x.replies l answers
