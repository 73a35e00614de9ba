-- A private copy that is filled from the page's copy before a write.
use Rattle.std.proofs.Common.{◌≡◌, refl, ap, sym, ◌∙◌, ℕ, true, false, List, Option, Some, None, is_some}
use Rattle.std.specs.Prelude.{option_map}
use Rattle.pcl_base.specs.declared.tx.TxId.{TxId}
use Rattle.text_rules.specs.ChangedRanges.{put}
use Rattle.node_rules.specs.AccessRule.{Granted, bytes_or, on_pool}
use Rattle.node_rules.specs.BufferRule.{PrivateCopy, bytes_of_copy, bytes_of_private, change_private, copy_at, fill, has_private, private_bytes, private_in}
use Rattle.node_rules.specs.Work.{HomeWork}
use Rattle.home_laws.proofs.PrivateLooks.{changed_here, changed_there, with_bytes}
use Rattle.page_laws.specs.Look.Accesses.{IsWritten}
use Rattle.page_laws.specs.Look.Parts.{is_place}

-- the work with the private copy filled
abbrev pub full : TxId → ℕ → HomeWork → HomeWork
full t p v = on_pool (λ b. fill b t p) v

changed_bytes : (f : Option (List ℕ) → Option (List ℕ)) (xs : List PrivateCopy) (t : TxId) (p : ℕ) → is_some (private_in xs t p) ≡ true
    → bytes_of_private (private_in (change_private f xs t p) t p) ≡ f (bytes_of_private (private_in xs t p))
changed_bytes f xs t p there = ap bytes_of_private (changed_here f xs t p) ∙ by (private_in xs t p) there
  where
    by : (o : Option PrivateCopy) → is_some o ≡ true → bytes_of_private (option_map (with_bytes f) o) ≡ f (bytes_of_private o)
    by None e = absurd (cc)
    by (Some x) e = refl

pub full_here : (t : TxId) (p : ℕ) (v : HomeWork) → has_private v.home.pool t p ≡ true → private_bytes (full t p v).home.pool t p ≡ Some (bytes_of_copy (copy_at v.home.pool p))
unfolding fill
full_here t p v there = changed_bytes (λ old. Some (bytes_of_copy (copy_at v.home.pool p))) v.home.pool.privates t p there

pub full_there : (t u : TxId) (p q : ℕ) (v : HomeWork) → is_place t p u q ≡ false → private_bytes (full t p v).home.pool u q ≡ private_bytes v.home.pool u q
unfolding fill
full_there t u p q v other = ap bytes_of_private (changed_there (λ old. Some (bytes_of_copy (copy_at v.home.pool p))) v.home.pool.privates t u p q other)

pub full_copy : (t : TxId) (p q : ℕ) (v : HomeWork) → copy_at (full t p v).home.pool q ≡ copy_at v.home.pool q
unfolding fill
full_copy t p q v = refl

-- A write is the same from the work in which its private copy was filled.
pub full_written : (t : TxId) (p : ℕ) (write : ℕ × List ℕ) (v : HomeWork) (g : Granted) → has_private v.home.pool t p ≡ true → private_bytes v.home.pool t p ≡ None
    → IsWritten t p write v g → IsWritten t p write (full t p v) g
unfolding fill
full_written t p write v g there none is =
    record {
      reply = is.reply;
      life = record { config = is.life.config; node = is.life.node; born = is.life.born; last = is.life.last; alive = is.life.alive };
      locks = record { held = is.locks.held; waits = is.locks.waits };
      rights = is.rights;
      copies = is.copies;
      pages = is.pages;
      bytes =
          is.bytes
          ∙ ap (λ (o : Option (List ℕ)). Some (put write.0 write.1 (bytes_or o (bytes_of_copy (copy_at v.home.pool p))))) none
          ∙ sym (ap (λ (o : Option (List ℕ)). Some (put write.0 write.1 (bytes_or o (bytes_of_copy (copy_at v.home.pool p))))) (full_here t p v there));
      runs = is.runs;
      other_bytes = λ u q other. is.other_bytes u q other ∙ sym (full_there t u p q v other);
      other_runs = is.other_runs;
    }
