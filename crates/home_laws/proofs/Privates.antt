-- The private copies when some of them are given up.
use Rattle.std.proofs.Common.{◌≡◌, ℕ, ◌==◌, ◌&&◌, not, cond, Bool, true, false, List, [], ◌∷◌, Some, None, IfSome, refl, ap, ◌∙◌}
use Rattle.std.proofs.lemmas.List.Elements.{All-head, All-tail}
use Rattle.std.specs.List.{filter, All}
use Rattle.pcl_base.specs.declared.tx.TxId.{TxId}
use Rattle.node_rules.specs.Words.{pick, same_tx}
use Rattle.node_rules.specs.BufferRule.{Pool, PrivateCopy, is_private, private_in, private_at, discard}
use Rattle.node_rules.specs.EndRule.{discard_all}
use Rattle.home_laws.proofs.Words.{and_true, not_both, equal, same_equal}

-- whether a private copy is of a transaction
abbrev pub is_of_tx : TxId → PrivateCopy → Bool
is_of_tx t x = same_tx x.tx t

-- the private copy that is found is of the transaction and the page
pub private_is_of : (xs : List PrivateCopy) (t : TxId) (p : ℕ) → IfSome (private_in xs t p) (λ x. is_private t p x ≡ true)
unfolding private_in
private_is_of [] t p = tt
private_is_of (x ∷ xs) t p = by_name (is_private t p x) refl (private_is_of xs t p)
  where
    by_name : (b : Bool) → is_private t p x ≡ b → IfSome (private_in xs t p) (λ x. is_private t p x ≡ true) → IfSome (pick b (Some x) (private_in xs t p)) (λ x. is_private t p x ≡ true)
    by_name true e rest = e
    by_name false e rest = rest

-- what holds of all private copies holds of the one that is found
pub private_among : (P : PrivateCopy → Type 0) (xs : List PrivateCopy) (t : TxId) (p : ℕ) → All P xs → IfSome (private_in xs t p) P
unfolding private_in
private_among P [] t p a = tt
private_among P (x ∷ xs) t p a = by_name (is_private t p x) (All-head P x xs a) (private_among P xs t p (All-tail P x xs a))
  where
    by_name : (b : Bool) → P x → IfSome (private_in xs t p) P → IfSome (pick b (Some x) (private_in xs t p)) P
    by_name true h rest = h
    by_name false h rest = rest

-- a private copy of a transaction and a page that pass a test stays
pub private_stays : (test : PrivateCopy → Bool) (xs : List PrivateCopy) (t : TxId) (p : ℕ) → ((x : PrivateCopy) → is_private t p x ≡ true → test x ≡ true) → private_in (filter test xs) t p ≡ private_in xs t p
unfolding private_in
private_stays test [] t p keeps = refl
private_stays test (x ∷ xs) t p keeps = by_name (is_private t p x) refl (test x) refl (private_stays test xs t p keeps)
  where
    by_name : (b : Bool) → is_private t p x ≡ b → (c : Bool) → test x ≡ c → private_in (filter test xs) t p ≡ private_in xs t p
        → private_in (cond c (x ∷ filter test xs) (filter test xs)) t p ≡ pick b (Some x) (private_in xs t p)
    by_name true e true k rest = ap (λ b. pick b (Some x) (private_in (filter test xs) t p)) e
    by_name true e false k rest = absurd (not_both (test x) (keeps x e) k)
    by_name false e true k rest = ap (λ b. pick b (Some x) (private_in (filter test xs) t p)) e ∙ rest
    by_name false e false k rest = rest

-- one that fails it is gone
pub private_gone : (test : PrivateCopy → Bool) (xs : List PrivateCopy) (t : TxId) (p : ℕ) → ((x : PrivateCopy) → is_private t p x ≡ true → test x ≡ false) → private_in (filter test xs) t p ≡ None
unfolding private_in
private_gone test [] t p fails = refl
private_gone test (x ∷ xs) t p fails = by_name (is_private t p x) refl (test x) refl (private_gone test xs t p fails)
  where
    by_name : (b : Bool) → is_private t p x ≡ b → (c : Bool) → test x ≡ c → private_in (filter test xs) t p ≡ None → private_in (cond c (x ∷ filter test xs) (filter test xs)) t p ≡ None
    by_name true e true k rest = absurd (not_both (test x) k (fails x e))
    by_name true e false k rest = rest
    by_name false e true k rest = ap (λ b. pick b (Some x) (private_in (filter test xs) t p)) e ∙ rest
    by_name false e false k rest = rest

-- the names of a private copy
named : (t : TxId) (p : ℕ) (x : PrivateCopy) → is_private t p x ≡ true → (x.tx ≡ t) × (x.page ≡ p)
named t p x e = let both = and_true (same_tx x.tx t) (x.page == p) e in (same_equal x.tx t both.0, equal x.page p both.1)

-- one private copy is given up
pub discarded : (b : Pool) (t : TxId) (p : ℕ) → private_at (discard b t p) t p ≡ None
unfolding discard
discarded b t p = private_gone (λ x. not (is_private t p x)) b.privates t p (λ x e. ap not e)

pub undiscarded : (b : Pool) (t u : TxId) (p q : ℕ) → (same_tx u t && q == p) ≡ false → private_at (discard b t p) u q ≡ private_at b u q
unfolding discard
undiscarded b t u p q other =
    private_stays (λ x. not (is_private t p x)) b.privates u q
    (λ x e. let n = named u q x e in ap not ((λ i. same_tx (n.0 i) t && n.1 i == p) ∙ other))

-- all those of a transaction are given up
pub all_discarded : (b : Pool) (t u : TxId) (q : ℕ) → same_tx u t ≡ true → private_at (discard_all b t) u q ≡ None
all_discarded b t u q same =
    private_gone (λ x. not (same_tx x.tx t)) b.privates u q
    (λ x e. let n = named u q x e in ap not (ap (λ v. same_tx v t) n.0 ∙ same))

pub not_discarded : (b : Pool) (t u : TxId) (q : ℕ) → same_tx u t ≡ false → private_at (discard_all b t) u q ≡ private_at b u q
not_discarded b t u q other =
    private_stays (λ x. not (same_tx x.tx t)) b.privates u q
    (λ x e. let n = named u q x e in ap not (ap (λ v. same_tx v t) n.0 ∙ other))
