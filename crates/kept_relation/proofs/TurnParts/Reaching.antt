-- A node that has reached a later era: what the tables and the messages say stays.
use Rattle.std.proofs.Common.{◌≡◌, refl, ap, sym, subst, ℕ, ◌≤◌, ◌==◌, Bool, true, false, List, Option, eqb-true, arith}
use Rattle.std.proofs.lemmas.Bool.Decides.{nat_tests}
use Rattle.std.specs.List.{AllByRecursion}
use Rattle.pcl_base.specs.declared.lock.Waiter.{Waiter}
use Rattle.pcl_base.specs.declared.message.Body.{Body}
use Rattle.pcl_base.specs.declared.message.Body.TheVariants as body
use Rattle.pcl_base.specs.declared.tx.Mode.{Mode}
use Rattle.pcl_base.specs.declared.tx.TxId.{TxId}
use Rattle.node_rules.specs.LockRule.{LockEntry}
use Rattle.node_rules.specs.LockTable.{LockTable}
use Rattle.node_laws.proofs.Lists.{all_weaker}
use Rattle.page_protocol.specs.State.{Right, Sent, Home, pick, updn}
use Rattle.page_relation.specs.Messages.{HasAsked, WaitIs, SaysSo}
use Rattle.page_relation.specs.Tables.{WaiterIs, IsServed, IsRebuilt}

-- what a node has reached, and the others
pub reached_here : (r : ℕ → ℕ) (n e m : ℕ) → m ≡ n → updn r n e m ≡ e
reached_here r n e m is = ap (λ (b : Bool). pick b e (r m)) (let same : (m == n) ≡ true = grind (arith, nat_tests, is) in same)

pub reached_there : (r : ℕ → ℕ) (n e m : ℕ) → (m == n) ≡ false → updn r n e m ≡ r m
reached_there r n e m other = ap (λ (b : Bool). pick b e (r m)) other

pub reached_up : (r : ℕ → ℕ) (n e m : ℕ) → r n ≤ e → r m ≤ updn r n e m
reached_up r n e m le = by (m == n) refl
  where
    by : (b : Bool) → (m == n) ≡ b → r m ≤ updn r n e m
    by true same =
        let is : m ≡ n = eqb-true m n same in
        let now = reached_here r n e m is in
        let low : r m ≤ e = subst (λ (k : ℕ). r k ≤ e) (sym is) le in
        omega (arith, now, low)
    by false other = let now = reached_there r n e m other in omega (arith, now)

module _ (r k : ℕ → ℕ) (home : TxId → Home) (up : (m : ℕ) → r m ≤ k m) (told : (t : TxId) (e : ℕ) (have : Option ℕ) → HasAsked (r t.node) e (home t) have → HasAsked (k t.node) e (home t) have) where
  pub waiters_reach : (e : ℕ) (ws : List Waiter) → AllByRecursion (WaiterIs r home e) ws → AllByRecursion (WaiterIs k home e) ws
  waiters_reach e ws all = all_weaker (WaiterIs r home e) (WaiterIs k home e) (λ x. told x.tx e x.have) ws all

  -- the entry of a table that serves, and of one that is rebuilt
  pub served_reach : (served : Bool) (owner era entry : ℕ) (listed : TxId → ℕ → Option Mode) (right : ℕ → Right) (n e : ℕ) (x : LockEntry)
      → IsServed served owner era entry listed right r home n e x → IsServed served owner era entry listed right k home n e x
  served_reach served owner era entry listed right n e x is =
      record {
        serves = is.serves;
        here = is.here;
        now = is.now;
        version = is.version;
        holders = is.holders;
        rights = is.rights;
        waiting = waiters_reach era x.waiting is.waiting;
        writers = is.writers;
      }

  pub rebuilt_reach : (era : ℕ) (listed : TxId → ℕ → Option Mode) (right : ℕ → Right) (e : ℕ) (t : LockTable) (x : LockEntry)
      → IsRebuilt era listed right r home e t x → IsRebuilt era listed right k home e t x
  rebuilt_reach era listed right e t x is =
      record {
        later = is.later;
        reaches = λ m on. (let one = is.reaches m on in let two = up m in omega (arith, one, two));
        holders = is.holders;
        rights = is.rights;
        waiting = waiters_reach e x.waiting is.waiting;
        writers = is.writers;
      }

  -- the messages
  pub says_reach : (era : ℕ) (hist : ℕ → List ℕ) (listed : TxId → ℕ → Option Mode) (right : ℕ → Right) (sent : List Sent) (p a b e : ℕ) (m : Body)
      → SaysSo era hist r listed right home sent p a b e m → SaysSo era hist k listed right home sent p a b e m
  says_reach era hist listed right sent p a b e (body.Request x) is = told x.tx e x.have is
  says_reach era hist listed right sent p a b e (body.Grant g) is = is
  says_reach era hist listed right sent p a b e (body.Release x) is = is
  says_reach era hist listed right sent p a b e (body.Revoke page) is = is
  says_reach era hist listed right sent p a b e (body.Return x) is = is
  says_reach era hist listed right sent p a b e (body.Report x) is =
      record {
        later = is.later;
        reaches = (let one = is.reaches in let two = up a in omega (arith, one, two));
        locks = is.locks;
        rights = is.rights;
        waits = all_weaker (WaitIs r home p e) (WaitIs k home p e) (λ w old here. told w.tx e w.have (old here)) x.waits is.waits;
      }
