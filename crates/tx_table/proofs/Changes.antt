-- The links and the numbers of the open transactions, under changes.
use Rattle.std.proofs.Common.{◌≡◌, ℕ, ◌+◌, ◌-◌, ◌^◌, ◌<◌, ◌≤◌, nat_eq, true, Option, Some, None, Result, Ok, Err, List, [], ◌∷◌, ◌++◌, map, refl, ap, sym, ◌∙◌, arith}
use Rattle.std.specs.Result.{IfOk, OnErr}
use Rattle.std.specs.Option.{OnSome}
use Rattle.std.specs.Map.{lookup, set_value, remove_entry, values_of}
use Rattle.pcl_base.specs.declared.tx.TxId.{TxId}
use Rattle.node_rules.specs.OpenTxs.{OpenTx, OpenTxs, open_at, is_open, with_serial}
use Rattle.tx_table.specs.Links.{IsLinked}
use Rattle.tx_table.specs.Counts.{total, locks_in, waits_in, lock_count, wait_count, IsCounted}
use Rattle.tx_table.proofs.Serials.{linked_pushed, values_pushed, with_serial_lookup, open_found, linked_set, linked_removed, serial_found}
use Rattle.tx_table.proofs.Counting.{total_pushed, total_set, total_gone, total_least}

-- a transaction that is open stands under its serial
pub open_there : (low last : ℕ) (es : List (ℕ × OpenTx)) (s : OpenTxs) (t : TxId) → IsLinked low last es → values_of es ≡ s.txs → is_open s t ≡ true
    → open_at s t ≡ lookup (nat_eq t.serial) es
open_there low last es s t linked same there =
    open_found s t there ∙ (ap (λ xs. with_serial xs t.serial) (sym same) ∙ with_serial_lookup low last t.serial es linked)

-- a new transaction holds nothing and waits for nothing
pub counted_pushed : (last held waiting : ℕ) (o : OpenTx) (es : List (ℕ × OpenTx)) → IsCounted last es held waiting
    → o ≡ record { serial = last + 1; pages = []; waiting = None } → IsCounted (last + 1) (es ++ (last + 1, o) ∷ []) held waiting
counted_pushed last held waiting o es kept new =
    let values = values_pushed (last + 1) o es in
    let locks : total locks_in (values_of (es ++ (last + 1, o) ∷ [])) ≡ total locks_in (values_of es) + locks_in o = ap (total locks_in) values ∙ total_pushed locks_in o (values_of es) in
    let waits : total waits_in (values_of (es ++ (last + 1, o) ∷ [])) ≡ total waits_in (values_of es) + waits_in o = ap (total waits_in) values ∙ total_pushed waits_in o (values_of es) in
    let no_locks : locks_in o ≡ 0 = ap locks_in new in
    let no_waits : waits_in o ≡ 0 = ap waits_in new in
    record {
      linked = linked_pushed 0 last o es (omega arith) kept.linked (ap (λ (x : OpenTx). x.serial) new);
      locks = omega (arith, locks, no_locks, kept.locks);
      waits = omega (arith, waits, no_waits, kept.waits);
      small = kept.small;
    }

-- the transaction of a serial is another
pub counted_set : (last s held waiting later_held later_waiting : ℕ) (v w : OpenTx) (es : List (ℕ × OpenTx)) → IsCounted last es held waiting
    → lookup (nat_eq s) es ≡ Some v → w.serial ≡ v.serial → later_held + locks_in v ≡ held + locks_in w → later_waiting + waits_in v ≡ waiting + waits_in w
    → later_held + later_waiting < 2 ^ 64 → IsCounted last (set_value (nat_eq s) es w) later_held later_waiting
counted_set last s held waiting later_held later_waiting v w es kept there serial locks waits small =
    let all_locks = total_set locks_in s v w es there in
    let all_waits = total_set waits_in s v w es there in
    record {
      linked = linked_set 0 last s w es (serial ∙ serial_found 0 last s v es kept.linked there) kept.linked;
      locks = omega (arith, all_locks, locks, kept.locks);
      waits = omega (arith, all_waits, waits, kept.waits);
      small = small;
    }

-- the transaction of a serial is taken out
pub counted_gone : (last s held waiting later_held later_waiting : ℕ) (v : OpenTx) (es : List (ℕ × OpenTx)) → IsCounted last es held waiting
    → lookup (nat_eq s) es ≡ Some v → later_held + locks_in v ≡ held → later_waiting + waits_in v ≡ waiting
    → IsCounted last (remove_entry (nat_eq s) es) later_held later_waiting
counted_gone last s held waiting later_held later_waiting v es kept there locks waits =
    let all_locks = total_gone locks_in s v es there in
    let all_waits = total_gone waits_in s v es there in
    let small = kept.small in
    record {
      linked = linked_removed 0 last s es kept.linked;
      locks = omega (arith, all_locks, locks, kept.locks);
      waits = omega (arith, all_waits, waits, kept.waits);
      small = omega (arith, small, locks, waits);
    }

-- the numbers count what each transaction has
pub locks_least : (last s held waiting : ℕ) (v : OpenTx) (es : List (ℕ × OpenTx)) → IsCounted last es held waiting → lookup (nat_eq s) es ≡ Some v → locks_in v ≤ held
locks_least last s held waiting v es kept there =
    let least = total_least locks_in s v es there in
    omega (arith, least, kept.locks)

pub waits_least : (last s held waiting : ℕ) (v : OpenTx) (es : List (ℕ × OpenTx)) → IsCounted last es held waiting → lookup (nat_eq s) es ≡ Some v → waits_in v ≤ waiting
waits_least last s held waiting v es kept there =
    let least = total_least waits_in s v es there in
    omega (arith, least, kept.waits)

-- growth within the room fits
pub grown_fits : (last s held waiting room : ℕ) (v w : OpenTx) (es : List (ℕ × OpenTx)) (xs : List OpenTx) → IsCounted last es held waiting → lookup (nat_eq s) es ≡ Some v
    → values_of es ≡ xs → locks_in w + waits_in w ≤ locks_in v + waits_in v + room → room + (lock_count xs + wait_count xs) ≡ 2 ^ 64 - 1
    → held - locks_in v + locks_in w + (waiting - waits_in v + waits_in w) < 2 ^ 64
grown_fits last s held waiting room v w es xs kept there same grown left =
    let locks = locks_least last s held waiting v es kept there in
    let waits = waits_least last s held waiting v es kept there in
    let held_is : held ≡ lock_count xs = kept.locks ∙ ap lock_count same in
    let waiting_is : waiting ≡ wait_count xs = kept.waits ∙ ap wait_count same in
    omega (arith, locks, waits, held_is, waiting_is, grown, left)

-- a list made of the serials alone
pub serials_of : {X : Type 0} (f : ℕ → X) (low last : ℕ) (es : List (ℕ × OpenTx)) → IsLinked low last es → map (λ e. f e.0) es ≡ map (λ x. f x.serial) (values_of es)
serials_of f low last [] linked = refl
serials_of f low last (e ∷ es) linked = λ i. f (sym linked.2 i) ∷ serials_of f e.0 last es linked.3 i

-- what is said of what is there
pub if_ok : {X E : Type 0} (P Q : X → Type 0) (r : Result X E) → ((x : X) → P x → Q x) → IfOk r P → IfOk r Q
if_ok P Q (Ok x) f p = f x p
if_ok P Q (Err e) f p = p

pub on_any_err : {X E : Type 0} (r : Result X E) (P : Type 0) → P → OnErr r P
on_any_err (Ok x) P p = tt
on_any_err (Err e) P p = p

pub on_any_some : {X : Type 0} (o : Option X) (P : Type 0) → P → OnSome o P
on_any_some None P p = tt
on_any_some (Some x) P p = p
