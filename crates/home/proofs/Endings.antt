-- What is told at the end of a transaction, lock by lock.
use Rattle.std.proofs.Common.{◌≡◌, ℕ, suc, ◌+◌, ◌<◌, ◌≤◌, ◌==◌, Bool, true, false, List, [], ◌∷◌, ◌++◌, length, drop, get_or, map, Option, Some, None, is_some, refl, ap, sym, ◌∙◌, arith}
use Rattle.std.proofs.Math.Seq.{drop-cons}
use Rattle.std.proofs.Math.ListN.{drop_of_length-le}
use Rattle.std.proofs.lemmas.List.{map-append, append_assoc, append-nil}
use Rattle.std.specs.List.{All}
use Rattle.std.proofs.lemmas.List.Elements.{All-head, All-tail}
use Rattle.pcl_base.specs.declared.tx.TxId.{TxId}
use Rattle.pcl_base.specs.declared.lock.Held.{Held}
use Rattle.pcl_base.specs.declared.lock.Kind.TheVariants as kind
use Rattle.pcl_base.specs.declared.lock.Pending.{Pending}
use Rattle.node_rules.specs.Words.{pick}
use Rattle.node_rules.specs.OpenTxs.{lock_on, waits_on, end_pages, locks_of, pending_of}
use Rattle.node_rules.specs.NodeState.{HomeState}
use Rattle.node_rules.specs.EndRule.{Ending, ending, endings, kind_at_end}
use Rattle.home_laws.specs.Homes.{AreOnce}
use Rattle.home_laws.proofs.Words.{swap_test}
use Rattle.home.specs.Ends.{lock_end, waited_end}
use Rattle.home.proofs.Discarded.{once_found}

-- the page that is waited for, where it isn't held
abbrev waited : List Held → Option Pending → List ℕ
waited hs None = []
waited hs (Some w) = pick (is_some (lock_on hs w.page)) [] (w.page ∷ [])

-- the pages at an end: those of the locks, and the one that is waited for
ends_case : (h : Held) (hs : List Held) (w : Pending) (b : Bool) → (w.page == h.page) ≡ b → (h.page == w.page) ≡ b
    → end_pages hs None ≡ map (λ g. g.page) hs ++ [] → end_pages hs (Some w) ≡ map (λ g. g.page) hs ++ waited hs (Some w)
    → end_pages hs (pick b None (Some w)) ≡ map (λ g. g.page) hs ++ waited (h ∷ hs) (Some w)
unfolding lock_on
ends_case h hs w true e f none some = none ∙ ap (λ c. map (λ g. g.page) hs ++ pick (is_some (pick c (Some h) (lock_on hs w.page))) [] (w.page ∷ [])) (sym f)
ends_case h hs w false e f none some = some ∙ ap (λ c. map (λ g. g.page) hs ++ pick (is_some (pick c (Some h) (lock_on hs w.page))) [] (w.page ∷ [])) (sym f)

end_pages_are : (hs : List Held) (w : Option Pending) → end_pages hs w ≡ map (λ g. g.page) hs ++ waited hs w
unfolding end_pages lock_on
end_pages_are [] None = refl
end_pages_are [] (Some w) = refl
end_pages_are (h ∷ hs) None = ap (λ l. h.page ∷ l) (end_pages_are hs None)
end_pages_are (h ∷ hs) (Some w) =
    ap (λ l. h.page ∷ l) (ends_case h hs w (w.page == h.page) refl (swap_test h.page w.page) (end_pages_are hs None) (end_pages_are hs (Some w)))

-- what is told of locks that are found by their pages
lock_ends : (h : HomeState) (t : TxId) (gs : List Held) → All (λ g. lock_on (locks_of h.txs t) g.page ≡ Some g) gs
    → map (ending h t false) (map (λ g. g.page) gs) ≡ map (lock_end (pending_of h.txs t)) gs
lock_ends h t [] found = refl
lock_ends h t (g ∷ gs) found =
    λ i. here i ∷ lock_ends h t gs (All-tail (λ x. lock_on (locks_of h.txs t) x.page ≡ Some x) g gs found) i
  where
    here : ending h t false g.page ≡ lock_end (pending_of h.txs t) g
    here =
        ap (λ o. let e : Ending = record { page = g.page; kind = kind_at_end o (waits_on (pending_of h.txs t) g.page); change = None } in e)
        (All-head (λ x. lock_on (locks_of h.txs t) x.page ≡ Some x) g gs found)

-- what is told of the page that is waited for
last_end : (h : HomeState) (t : TxId) (w : Option Pending) → map (ending h t false) (waited (locks_of h.txs t) w) ≡ waited_end (locks_of h.txs t) w
last_end h t None = refl
last_end h t (Some w) = by_lock (lock_on (locks_of h.txs t) w.page) refl
  where
    by_lock : (o : Option Held) → lock_on (locks_of h.txs t) w.page ≡ o
        → map (ending h t false) (pick (is_some o) [] (w.page ∷ [])) ≡ pick (is_some o) [] (record { page = w.page; kind = kind.Registered; change = None } ∷ [])
    by_lock None none =
        ap (λ p. let e : Ending = record { page = w.page; kind = kind_at_end p (waits_on (pending_of h.txs t) w.page); change = None } in e ∷ []) none
    by_lock (Some g) some = refl

-- all that is told where nothing was committed
pub endings_are : (h : HomeState) (t : TxId) → AreOnce (locks_of h.txs t)
    → endings h t false ≡ map (lock_end (pending_of h.txs t)) (locks_of h.txs t) ++ waited_end (locks_of h.txs t) (pending_of h.txs t)
unfolding endings
endings_are h t once =
    let locks = locks_of h.txs t in
    let w = pending_of h.txs t in
    ap (map (ending h t false)) (end_pages_are locks w)
    ∙ (map-append (ending h t false) (map (λ (g : Held). g.page) locks) (waited locks w)
    ∙ (λ i. lock_ends h t locks (λ k d within. once_found locks k d once within) i ++ last_end h t w i))

-- one lock more
pub ends_next : (w : Option Pending) (hs : List Held) (i : ℕ) (d : Held) (es fs : List Ending) (all : List Ending) → i < length hs → fs ≡ es ++ lock_end w (get_or hs i d) ∷ []
    → es ++ map (lock_end w) (drop i hs) ≡ all → fs ++ map (lock_end w) (drop (i + 1) hs) ≡ all
ends_next w hs i d es fs all within pushed rest =
    let more : i + 1 ≡ suc i = omega arith in
    ap (λ l. l ++ map (lock_end w) (drop (i + 1) hs)) pushed
    ∙ (ap (λ n. (es ++ lock_end w (get_or hs i d) ∷ []) ++ map (lock_end w) (drop n hs)) more
    ∙ (append_assoc es (lock_end w (get_or hs i d) ∷ []) (map (lock_end w) (drop (suc i) hs))
    ∙ (ap (λ l. es ++ map (lock_end w) l) (sym (drop-cons hs i d within)) ∙ rest)))

-- all locks
pub ends_over : (w : Option Pending) (hs : List Held) (i : ℕ) (es : List Ending) → length hs ≤ i → es ++ map (lock_end w) (drop i hs) ≡ map (lock_end w) hs → es ≡ map (lock_end w) hs
ends_over w hs i es over rest = sym (append-nil es) ∙ (ap (λ l. es ++ map (lock_end w) l) (sym (drop_of_length-le hs over)) ∙ rest)

-- what was made of the locks, and then of the page that is waited for, is all
pub ends_whole : (h g : HomeState) (t : TxId) (hs : List Held) (w : Option Pending) (i : ℕ) (es xs : List Ending) → g ≡ h → AreOnce (locks_of h.txs t)
    → hs ≡ locks_of g.txs t → w ≡ pending_of g.txs t → length hs ≤ i → es ++ map (lock_end w) (drop i hs) ≡ map (lock_end w) hs → waited_end hs w ≡ xs
    → es ++ xs ≡ endings h t false
ends_whole h g t hs w i es xs same once locks waits over rest last =
    let locks_are = locks ∙ ap (λ (k : HomeState). locks_of k.txs t) same in
    let waits_are = waits ∙ ap (λ (k : HomeState). pending_of k.txs t) same in
    ap (λ l. l ++ xs) (ends_over w hs i es over rest)
    ∙ (ap (λ l. map (lock_end w) hs ++ l) (sym last)
    ∙ ((λ j. map (lock_end (waits_are j)) (locks_are j) ++ waited_end (locks_are j) (waits_are j))
    ∙ sym (endings_are h t once)))

-- nothing more is told where nothing is waited for, or of a page that is held
pub none_waits : (hs : List Held) (w : Option Pending) → w ≡ None → waited_end hs w ≡ []
none_waits hs w none = ap (waited_end hs) none

pub waits_held : (hs : List Held) (w : Option Pending) (x : Pending) → w ≡ Some x → is_some (lock_on hs x.page) ≡ true → waited_end hs w ≡ []
waits_held hs w x some held =
    ap (waited_end hs) some ∙ ap (λ b. pick b [] (let e : Ending = record { page = x.page; kind = kind.Registered; change = None } in e ∷ [])) held

pub waits_free : (hs : List Held) (w : Option Pending) (x : Pending) → w ≡ Some x → is_some (lock_on hs x.page) ≡ false
    → waited_end hs w ≡ (let e : Ending = record { page = x.page; kind = kind.Registered; change = None } in e ∷ [])
waits_free hs w x some free =
    ap (waited_end hs) some ∙ ap (λ b. pick b [] (let e : Ending = record { page = x.page; kind = kind.Registered; change = None } in e ∷ [])) free
