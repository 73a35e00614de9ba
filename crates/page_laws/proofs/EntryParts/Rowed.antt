-- The rows of decisions.
use Rattle.std.proofs.Common.{◌≡◌, true, false, List, [], ◌∷◌, Some, None, refl, sym, ap, ◌∙◌, arith, inl, inr}
use Rattle.pcl_base.specs.declared.tx.TxId.{TxId}
use Rattle.pcl_base.specs.declared.tx.Mode.TheVariants.{Shared, Exclusive}
use Rattle.pcl_base.specs.declared.lock.Holder.{Holder}
use Rattle.node_rules.proofs.Opened.{node_rules}
use Rattle.node_rules.specs.LockRule.{LockEntry, mode_of}
use Rattle.node_rules.specs.LockRows.{a, b, c, to_read, to_write, may, revoked, at_five}
use Rattle.rule_laws.proofs.Lists.{contains_here, contains_there, contains_none}
use Rattle.page_laws.specs.Entry.Decisions.{NoWriterWaits}
use Rattle.page_laws.specs.Entry.Rows.{NotBesideAReader, NotBesideARight, NotBesideAWriter, NotUnasked, NoRightBeforeAWriter, NoRightToTheOwner, NotRevokedTwice, OneAfterTheOther, RevokedOnce, WaitsInVain}
use Rattle.page_laws.proofs.EntryParts.Decided.{settling_decides_law}

nobody_waits_to_write : (e : LockEntry) → e.holders ≡ [] → NoWriterWaits e
unfolding mode_of
nobody_waits_to_write e none t x = let bad : None ≡ Some Exclusive = sym (ap (λ (hs : List Holder). mode_of hs t) none) ∙ x in absurd (cc)

pub made_row : OneAfterTheOther
unfolding node_rules
made_row = settling_decides_law 0 (at_five [] [] (to_read a ∷ to_read b ∷ [])) (nobody_waits_to_write (at_five [] [] (to_read a ∷ to_read b ∷ [])) refl)

pub revoked_row : RevokedOnce
unfolding node_rules
revoked_row = settling_decides_law 0 (at_five [] (revoked 2 ∷ may 1 ∷ []) (to_write a ∷ [])) (nobody_waits_to_write (at_five [] (revoked 2 ∷ may 1 ∷ []) (to_write a ∷ [])) refl)

pub beside_a_reader_row : NotBesideAReader
unfolding mode_of
beside_a_reader_row have later l =
    elim (l.free.others a) [
      | inl none ↦ let bad : Some Shared ≡ None = none in absurd (cc)
      | inr same ↦ let bad : 0 ≡ 1 = ap (λ (t : TxId). t.node) same in absurd (omega (arith, bad))
    ]

pub beside_a_right_row : NotBesideARight
beside_a_right_row have later l = let bad = l.free.rights in absurd (cc)

pub beside_a_writer_row : NotBesideAWriter
unfolding mode_of
beside_a_writer_row have later l = l.no_writer a refl

pub unasked_row : NotUnasked
unasked_row have later l = contains_none _ l.waited

pub before_a_writer_row : NoRightBeforeAWriter
before_a_writer_row have later l =
    let same : c ≡ b = l.readers (to_write c) (contains_there (to_read b) (to_write c) (to_write c ∷ []) (contains_here (to_write c) [])) refl in
    let bad : 2 ≡ 1 = ap (λ (t : TxId). t.node) same in
    absurd (omega (arith, bad))

pub to_the_owner_row : NoRightToTheOwner
to_the_owner_row have later l = l.away refl

pub revoked_twice_row : NotRevokedTwice
unfolding node_rules
revoked_twice_row later l = let bad = l.first in absurd (cc)

pub in_vain_row : WaitsInVain
unfolding mode_of
in_vain_row i = let bad : true ≡ false = i b refl in absurd (cc)
