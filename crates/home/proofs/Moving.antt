-- A partition comes or goes: what holds of the home and its memory then.
use Rattle.std.proofs.Common.{◌≡◌, ◌==◌, not, Bool, true, false, ℕ, List, [], ◌∷◌, map, refl, ap, sym, subst, ◌∙◌}
use Rattle.std.proofs.lemmas.List.Elements.{All-filter}
use Rattle.std.specs.Prelude.{Result, Ok, Err, OnOk, OnErr}
use Rattle.std.specs.List.{fold}
use Rattle.pcl_base.specs.Limits.{Sizes}
use Rattle.pcl_base.specs.declared.tx.TxId.{TxId}
use Rattle.pcl_base.specs.declared.lock.Kind.{Kind}
use Rattle.pcl_base.specs.declared.lock.Kind.TheVariants.{Own, Registered}
use Rattle.pcl_base.specs.declared.lock.Held.{Held}
use Rattle.node_rules.specs.Words.{pick}
use Rattle.node_rules.specs.OpenTxs.{OpenTx, OpenTxs, name_of, change_open, change_tx, with_lock, add}
use Rattle.node_rules.specs.BufferRule.{Pool}
use Rattle.node_rules.specs.NodeState.{HomeState, partition}
use Rattle.node_rules.specs.Work.{with_pool}
use Rattle.node_rules.specs.InstallRule.{all_kinds, take_over}
use Rattle.home_laws.specs.Homes.{AreSerials}
use Rattle.home_laws.specs.EndLaws.{given_up}
use Rattle.home.specs.Ends.{listed}
use Rattle.home.specs.Parts.{PartsView, HasMemory, IsPrepared}
use Rattle.home.specs.Moves.{MoveListView, ListsRights, ListsTxs, Lists, with_kinds}
use Rattle.home.proofs.Turning.{names_change, waits_stay}

-- the open transactions, all of whom were named
pub turned_txs : (c : Sizes) (q : ℕ) (k : Kind) (s r : OpenTxs) (names : List TxId) → AreSerials 0 s.last s.txs → names ≡ map (λ (x : OpenTx). name_of s x.serial) s.txs
    → r ≡ fold (λ z t. change_tx (with_kinds c q k) z t) s names → r ≡ record s { txs = map (with_kinds c q k) s.txs }
turned_txs c q k s r names rise are changed =
    changed ∙ ap (λ l. fold (λ z t. change_tx (with_kinds c q k) z t) s l) are ∙ names_change (with_kinds c q k) (λ x. refl) s rise

-- the memory stays
pub turned_prepared : (q : ℕ) (k : Kind) (v : PartsView) → IsPrepared v → IsPrepared (record v { home = all_kinds q k v.home })
turned_prepared q k v prepared =
    let now : PartsView = record v { home = all_kinds q k v.home } in
    (subst (λ n. HasMemory n now) (sym (waits_stay v.home.config q k v.home.txs.txs)) (record { rights = prepared.0.rights; places = prepared.0.places; replies = prepared.0.replies }), prepared.1)

pub pool_prepared : (v : PartsView) (b : Pool) → IsPrepared v → IsPrepared (record v { home = with_pool v.home b })
pool_prepared v b prepared = (record { rights = prepared.0.rights; places = prepared.0.places; replies = prepared.0.replies }, prepared.1)

-- the names of the transactions stay
names_stay : (s : OpenTxs) (c : Sizes) (q : ℕ) (k : Kind) (xs : List OpenTx)
    → map (λ (x : OpenTx). name_of s x.serial) (map (with_kinds c q k) xs) ≡ map (λ (x : OpenTx). name_of s x.serial) xs
names_stay s c q k [] = refl
names_stay s c q k (x ∷ xs) = ap (λ l. name_of s x.serial ∷ l) (names_stay s c q k xs)

txs_listed : (l : MoveListView) (q : ℕ) (k : Kind) (h : HomeState) → ListsTxs l h.txs → ListsTxs l (all_kinds q k h).txs
txs_listed l q k h is = is ∙ sym (names_stay h.txs h.config q k h.txs.txs)

-- a list serves after a move too
pub take_over_listed : (l : MoveListView) (q : ℕ) (h : HomeState) → Lists l h → Lists l (take_over q h)
take_over_listed l q h lists =
    record {
      txs = txs_listed l q Own h lists.txs;
      rights = All-filter (λ r. not (partition h.config r.page == q)) (λ r. listed l.pages r.page ≡ true) h.shelf lists.rights;
    }

pub given_up_listed : (l : MoveListView) (q : ℕ) (h : HomeState) → Lists l h → Lists l (given_up q h)
given_up_listed l q h lists = record { txs = txs_listed l q Registered h lists.txs; rights = lists.rights }

-- a list that serves at a home that is seen otherwise
pub seen_listed : (l : MoveListView) (h g : HomeState) → h ≡ g → Lists l g → Lists l h
seen_listed l h g same lists = subst (Lists l) (sym same) lists

-- and after a grant
names_changed : (s : OpenTxs) (f : OpenTx → OpenTx) → ((x : OpenTx) → (f x).serial ≡ x.serial) → (xs : List OpenTx) (n : ℕ)
    → map (λ (x : OpenTx). name_of s x.serial) (change_open f xs n) ≡ map (λ (x : OpenTx). name_of s x.serial) xs
unfolding change_open
names_changed s f keeps [] n = refl
names_changed s f keeps (x ∷ xs) n =
    ap (λ m. name_of s m ∷ map (λ (y : OpenTx). name_of s y.serial) (change_open f xs n)) (by_test (x.serial == n))
    ∙ ap (λ l. name_of s x.serial ∷ l) (names_changed s f keeps xs n)
  where
    by_test : (b : Bool) → (pick b (f x) x).serial ≡ x.serial
    by_test true = keeps x
    by_test false = refl

lock_listed : (l : MoveListView) (s : OpenTxs) (t : TxId) (lock : Held) → ListsTxs l s → ListsTxs l (add s t lock)
unfolding add
lock_listed l s t lock is = is ∙ sym (names_changed s (with_lock lock) (λ x. refl) s.txs t.serial)

pub granted_listed : {T E : Type 0} (l : MoveListView) (t : TxId) (lock : Held) (r : Result T E) (old new : PartsView) → OnOk r (new.home.txs ≡ add old.home.txs t lock) → new.home.shelf ≡ old.home.shelf
    → OnErr r (new ≡ old) → Lists l old.home → Lists l new.home
granted_listed l t lock (Ok x) old new txs shelf same lists =
    record {
      txs = subst (ListsTxs l) (sym txs) (lock_listed l old.home.txs t lock lists.txs);
      rights = subst (ListsRights l) (sym shelf) lists.rights;
    }
granted_listed l t lock (Err e) old new txs shelf same lists = subst (λ (v : PartsView). Lists l v.home) (sym same) lists
