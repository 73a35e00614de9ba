-- Who reads under a right, and which places are noted, once a transaction ended.
use Rattle.std.proofs.Common.{◌≡◌, ℕ, ◌+◌, ◌≤◌, ◌==◌, ◌&&◌, ◌||◌, not, cond, Bool, true, false, List, [], ◌∷◌, Some, refl, ap, sym, subst, ◌∙◌, arith}
use Rattle.std.proofs.lemmas.Bool.Decides.{nat_tests}
use Rattle.std.proofs.lemmas.List.Elements.{All-filter, All-weaker, filter_passes}
use Rattle.std.specs.List.{filter, fold, All}
use Rattle.pcl_base.specs.declared.tx.TxId.{TxId}
use Rattle.node_rules.specs.Words.{pick, same_tx, among}
use Rattle.node_rules.specs.Shelf.{Right, right_on, readers_of, end_reader, change_right}
use Rattle.node_rules.specs.NodeState.{Written, Run, runs_at}
use Rattle.home_laws.proofs.Words.{and_true, not_both, same_equal}
use Rattle.home_laws.proofs.Serials.{one_if}
use Rattle.home_laws.proofs.Slots.{length_if}
use Rattle.home_laws.proofs.Unpins.{times}

-- the readers that stay without a transaction
abbrev pub without : TxId → List TxId → List TxId
without t us = filter (λ u. not (same_tx u t)) us

-- the readers of a right once one ended
ended_case : (t : TxId) (p q : ℕ) (r : Right) (rs : List Right) (b c : Bool) → (r.page == q) ≡ b → (r.page == p) ≡ c
    → readers_of (right_on (end_reader rs q t) p) ≡ cond (q == p) (without t (readers_of (right_on rs p))) (readers_of (right_on rs p))
    → readers_of (right_on (pick b (record r { readers = without t r.readers }) r ∷ end_reader rs q t) p) ≡ cond (q == p) (without t (readers_of (pick c (Some r) (right_on rs p)))) (readers_of (pick c (Some r) (right_on rs p)))
unfolding right_on
ended_case t p q r rs true true e f rest =
    let same : (q == p) ≡ true = grind (arith, nat_tests) in
    ap (λ c. readers_of (pick c (Some (record r { readers = without t r.readers })) (right_on (end_reader rs q t) p))) f ∙ sym (ap (λ c. cond c (without t r.readers) r.readers) same)
ended_case t p q r rs true false e f rest = ap (λ c. readers_of (pick c (Some (record r { readers = without t r.readers })) (right_on (end_reader rs q t) p))) f ∙ rest
ended_case t p q r rs false true e f rest =
    let other : (q == p) ≡ false = grind (arith, nat_tests) in
    ap (λ c. readers_of (pick c (Some r) (right_on (end_reader rs q t) p))) f ∙ sym (ap (λ c. cond c (without t r.readers) r.readers) other)
ended_case t p q r rs false false e f rest = ap (λ c. readers_of (pick c (Some r) (right_on (end_reader rs q t) p))) f ∙ rest

pub readers_ended : (rs : List Right) (t : TxId) (p q : ℕ) → readers_of (right_on (end_reader rs q t) p) ≡ cond (q == p) (without t (readers_of (right_on rs p))) (readers_of (right_on rs p))
unfolding right_on end_reader change_right
readers_ended [] t p q = one (q == p)
  where
    one : (b : Bool) → [] ≡ cond b (without t []) []
    one true = refl
    one false = refl
readers_ended (r ∷ rs) t p q = ended_case t p q r rs (r.page == q) (r.page == p) refl refl (readers_ended rs t p q)

-- the rights once a transaction ended at some pages
abbrev pub ended_at : List ℕ → TxId → List Right → List Right
ended_at ps t rs = fold (λ rs p. end_reader rs p t) rs ps

all_case : (P : TxId → Type 0) (b : Bool) (t : TxId) (us : List TxId) → All P us → All P (cond b (without t us) us)
all_case P true t us a = All-filter (λ u. not (same_tx u t)) P us a
all_case P false t us a = a

-- what holds of all readers holds of those that stay
pub readers_stay : (P : TxId → Type 0) (ps : List ℕ) (t : TxId) (rs : List Right) (p : ℕ) → All P (readers_of (right_on rs p)) → All P (readers_of (right_on (ended_at ps t rs) p))
readers_stay P [] t rs p a = a
readers_stay P (q ∷ ps) t rs p a =
    readers_stay P ps t (end_reader rs q t) p (subst (All P) (sym (readers_ended rs t p q)) (all_case P (q == p) t (readers_of (right_on rs p)) a))

-- the transaction is no reader of a page at which it ended
gone_case : (ps : List ℕ) (t : TxId) (rs : List Right) (p q : ℕ) (b : Bool) → (q == p) ≡ b → 1 ≤ one_if b + times p ps
    → (1 ≤ times p ps → All (λ u. same_tx u t ≡ false) (readers_of (right_on (ended_at ps t (end_reader rs q t)) p)))
    → All (λ u. same_tx u t ≡ false) (readers_of (right_on (ended_at ps t (end_reader rs q t)) p))
gone_case ps t rs p q true e l rest =
    let here : readers_of (right_on (end_reader rs q t) p) ≡ without t (readers_of (right_on rs p)) = readers_ended rs t p q ∙ ap (λ c. cond c (without t (readers_of (right_on rs p))) (readers_of (right_on rs p))) e in
    let passed = All-weaker (λ u. not (same_tx u t) ≡ true) (λ u. same_tx u t ≡ false) (λ u h. no_more (same_tx u t) h) (without t (readers_of (right_on rs p))) (filter_passes (λ u. not (same_tx u t)) (readers_of (right_on rs p))) in
    readers_stay (λ u. same_tx u t ≡ false) ps t (end_reader rs q t) p (subst (All (λ u. same_tx u t ≡ false)) (sym here) passed)
  where
    no_more : (b : Bool) → not b ≡ true → b ≡ false
    no_more true h = absurd (cc)
    no_more false h = refl
gone_case ps t rs p q false e l rest = rest (omega arith)

pub reader_gone : (ps : List ℕ) (t : TxId) (rs : List Right) (p : ℕ) → 1 ≤ times p ps → All (λ u. same_tx u t ≡ false) (readers_of (right_on (ended_at ps t rs) p))
reader_gone [] t rs p l = absurd (omega arith)
reader_gone (q ∷ ps) t rs p l =
    let count = length_if (q == p) q (filter (λ x. x == p) ps) in
    gone_case ps t rs p q (q == p) refl (omega (arith, count)) (reader_gone ps t (end_reader rs q t) p)

-- others read on
among_case : (t u : TxId) (v : TxId) (vs : List TxId) (b c : Bool) → same_tx v t ≡ b → same_tx v u ≡ c → same_tx u t ≡ false → (c || among vs u) ≡ true
    → (among vs u ≡ true → among (without t vs) u ≡ true) → among (cond (not b) (v ∷ without t vs) (without t vs)) u ≡ true
unfolding among
among_case t u v vs true true e f other here rest =
    absurd (not_both (same_tx u t) (ap (λ w. same_tx w t) (sym (same_equal v u f)) ∙ e) other)
among_case t u v vs true false e f other here rest = rest here
among_case t u v vs false true e f other here rest = ap (λ c. c || among (without t vs) u) f
among_case t u v vs false false e f other here rest = ap (λ c. c || among (without t vs) u) f ∙ rest here

pub among_without : (t u : TxId) (vs : List TxId) → same_tx u t ≡ false → among vs u ≡ true → among (without t vs) u ≡ true
unfolding among
among_without t u [] other here = here
among_without t u (v ∷ vs) other here = among_case t u v vs (same_tx v t) (same_tx v u) refl refl other here (among_without t u vs other)

stay_case : (b : Bool) (t u : TxId) (vs : List TxId) → same_tx u t ≡ false → among vs u ≡ true → among (cond b (without t vs) vs) u ≡ true
stay_case true t u vs other here = among_without t u vs other here
stay_case false t u vs other here = here

pub others_read : (ps : List ℕ) (t u : TxId) (rs : List Right) (p : ℕ) → same_tx u t ≡ false → among (readers_of (right_on rs p)) u ≡ true → among (readers_of (right_on (ended_at ps t rs) p)) u ≡ true
others_read [] t u rs p other here = here
others_read (q ∷ ps) t u rs p other here =
    others_read ps t u (end_reader rs q t) p other
    (ap (λ vs. among vs u) (readers_ended rs t p q) ∙ stay_case (q == p) t u (readers_of (right_on rs p)) other here)

-- the places of a transaction are noted no more, those of others are
noted_case : (t u : TxId) (p : ℕ) (w : Written) (ws : List Written) (b c : Bool) → same_tx w.tx t ≡ b → (same_tx w.tx u && w.page == p) ≡ c
    → runs_at (filter (λ x. not (same_tx x.tx t)) ws) u p ≡ pick (same_tx u t) [] (runs_at ws u p)
    → runs_at (cond (not b) (w ∷ filter (λ x. not (same_tx x.tx t)) ws) (filter (λ x. not (same_tx x.tx t)) ws)) u p ≡ pick (same_tx u t) [] (pick c w.runs (runs_at ws u p))
unfolding runs_at
noted_case t u p w ws true true e f rest =
    let both = and_true (same_tx w.tx u) (w.page == p) f in
    let same : same_tx u t ≡ true = ap (λ v. same_tx v t) (sym (same_equal w.tx u both.0)) ∙ e in
    rest ∙ ap (λ d. pick d [] (runs_at ws u p)) same ∙ sym (ap (λ d. pick d [] w.runs) same)
noted_case t u p w ws true false e f rest = rest
noted_case t u p w ws false true e f rest =
    let both = and_true (same_tx w.tx u) (w.page == p) f in
    let other : same_tx u t ≡ false = ap (λ v. same_tx v t) (sym (same_equal w.tx u both.0)) ∙ e in
    ap (λ d. pick d w.runs (runs_at (filter (λ x. not (same_tx x.tx t)) ws) u p)) f ∙ sym (ap (λ d. pick d [] w.runs) other)
noted_case t u p w ws false false e f rest = ap (λ d. pick d w.runs (runs_at (filter (λ x. not (same_tx x.tx t)) ws) u p)) f ∙ rest

pub runs_ended : (ws : List Written) (t u : TxId) (p : ℕ) → runs_at (filter (λ x. not (same_tx x.tx t)) ws) u p ≡ pick (same_tx u t) [] (runs_at ws u p)
unfolding runs_at
runs_ended [] t u p = one (same_tx u t)
  where
    one : (b : Bool) → [] ≡ (let x : List Run = pick b [] [] in x)
    one true = refl
    one false = refl
runs_ended (w ∷ ws) t u p = noted_case t u p w ws (same_tx w.tx t) (same_tx w.tx u && w.page == p) refl refl (runs_ended ws t u p)
