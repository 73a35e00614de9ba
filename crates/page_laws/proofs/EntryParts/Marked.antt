-- Revocations, one after the other.
use Rattle.std.proofs.Common.{◌≡◌, ℕ, ◌==◌, ◌||◌, Bool, true, false, List, [], ◌∷◌, map, refl, sym, ap, subst, ◌∙◌}
use Rattle.pcl_base.specs.declared.lock.RightMark.{RightMark}
use Rattle.pcl_base.specs.declared.lock.Decision.{Decision}
use Rattle.pcl_base.specs.declared.lock.Decision.TheVariants.{Revoke}
use Rattle.node_rules.specs.Words.{pick}
use Rattle.node_rules.specs.LockRule.{LockEntry, has_right, revocations, all_revoked}
use Rattle.page_laws.specs.Entry.Decisions.{Settles, rests, revokes}
use Rattle.page_laws.proofs.EntryParts.Words.{number_self, or_last}

-- revocations, one after the other: the rights change from list to list
pub record IsMarkedIn (n : ℕ) (rs later : List RightMark) : Type 0 where
  pub there : has_right rs n ≡ true
  pub first : revocations rs ≡ Revoke n ∷ revocations later
  pub nodes : map (λ r. r.node) later ≡ map (λ r. r.node) rs

pub data Marks : List RightMark → List Decision → List RightMark → Type 0 where
  done : (rs : List RightMark) → Marks rs [] rs
  more : (rs middle after : List RightMark) (n : ℕ) (ds : List Decision) → IsMarkedIn n rs middle → Marks middle ds after → Marks rs (Revoke n ∷ ds) after

past_revoked : (r : RightMark) (n : ℕ) (rs later : List RightMark) → r.revoked ≡ true → IsMarkedIn n rs later → IsMarkedIn n (r ∷ rs) (r ∷ later)
unfolding revocations
past_revoked r n rs later q m =
    record {
      there = or_last (r.node == n) (has_right rs n) m.there;
      first = ap (λ b. pick b (revocations rs) (Revoke r.node ∷ revocations rs)) q ∙ (m.first ∙ ap (λ ds. Revoke n ∷ ds) (sym (ap (λ b. pick b (revocations later) (Revoke r.node ∷ revocations later)) q)));
      nodes = ap (λ ns. r.node ∷ ns) m.nodes;
    }

past_all : (r : RightMark) (rs after : List RightMark) (ds : List Decision) → r.revoked ≡ true → Marks rs ds after → Marks (r ∷ rs) ds (r ∷ after)
past_all r rs after ds q (done _) = done (r ∷ rs)
past_all r rs after ds q (more _ middle _ n es m next) = more (r ∷ rs) (r ∷ middle) (r ∷ after) n es (past_revoked r n rs middle q m) (past_all r middle after es q next)

pub marks_all : (rs : List RightMark) → Marks rs (revocations rs) (all_revoked rs)
unfolding revocations
marks_all [] = done []
marks_all (r ∷ rs) = by r.revoked refl (marks_all rs)
  where
    marked : RightMark
    marked = record { node = r.node; revoked = true }

    by : (b : Bool) → r.revoked ≡ b → Marks rs (revocations rs) (all_revoked rs) → Marks (r ∷ rs) (pick b (revocations rs) (Revoke r.node ∷ revocations rs)) (marked ∷ all_revoked rs)
    by true q next =
        let same : r ≡ marked = (λ i. record { node = r.node; revoked = q i }) in
        subst (λ (x : RightMark). Marks (x ∷ rs) (revocations rs) (marked ∷ all_revoked rs)) (sym same) (past_all marked rs (all_revoked rs) (revocations rs) refl next)
    by false q next =
        more (r ∷ rs) (marked ∷ rs) (marked ∷ all_revoked rs) r.node (revocations rs)
        (record { there = ap (λ b. b || has_right rs r.node) (number_self r.node); first = ap (λ b. pick b (revocations rs) (Revoke r.node ∷ revocations rs)) q; nodes = refl })
        (past_all marked rs (all_revoked rs) (revocations rs) refl next)

pub revoking : (owner : ℕ) (e : LockEntry) (rs after : List RightMark) (ds : List Decision) → Marks rs ds after → Settles owner (record e { rights = rs }) ds (record e { rights = after })
revoking owner e rs after ds (done _) = rests (record e { rights = rs })
revoking owner e rs after ds (more _ middle _ n es m next) =
    revokes (record e { rights = rs }) (record e { rights = middle }) (record e { rights = after }) n es
    (record { there = m.there; first = m.first; version = refl; holders = refl; rights = m.nodes; waiting = refl })
    (revoking owner e middle after es next)
