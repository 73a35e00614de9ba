-- A message that was written is read again.
use Rattle.std.proofs.Common.{◌≡◌, ◌∙◌, true, nat_le, ℕ, ◌-◌, ◌<◌, ◌≤◌, ◌^◌, List, [], ◌∷◌, ◌++◌, length, Ok, refl, ap, sym, arith, append_assoc, append-nil}
use Rattle.std.specs.Int.{w32, w64, to_be_bytes}
use Rattle.std.proofs.lemmas.Bool.{le-leb}
use Rattle.std.specs.List.{AllByRecursion}
use Rattle.pcl_base.specs.Limits.{Sizes, InLimits}
use Rattle.pcl_base.specs.declared.message.Message.{Message}
use Rattle.pcl_base.specs.declared.message.Body.{Body}
use Rattle.pcl_base.specs.declared.message.Body.TheVariants.{Request as a_request, Grant as a_grant, Release as a_release, Revoke as a_revocation, Return as a_return, Report as a_report}
use Rattle.pcl_base.specs.declared.message.Report.{Report}
use Rattle.pcl_base.specs.declared.message.ReportWait.{ReportWait}
use Rattle.pcl_base.specs.declared.message.ReportLock.{ReportLock}
use Rattle.pcl_base.specs.declared.message.ReportRight.{ReportRight}
use Rattle.text_rules.specs.FieldBytes.{whole}
use Rattle.text_rules.specs.MessageBytes.{tx_bytes, mode_byte, flag_byte, version_bytes, copy_bytes, change_bytes, list_bytes, wait_bytes, lock_bytes, right_bytes, body_bytes, message_bytes, IsTx, IsPageOf, IsBody, IsMessage}
use Rattle.text_rules.specs.ReadMessage.{tx_field, report_field, wait_field, lock_field, right_item, body_field, message_field, placed, decoded}
use Rattle.messages.specs.Laws.{ReadAgain, IsTxOfTypes, IsVersionOfType, IsBodyOfTypes}
use Rattle.messages.proofs.Again.{number_8, number_1, counted_4, byte_again, tx_again, page_again, page_of_again, mode_again, version_again, right_again, copy_again, change_again, list_again}

-- two facts of each item at once
both : {X : Type 0} (P Q : X → Type 0) (xs : List X) → AllByRecursion P xs → AllByRecursion Q xs → AllByRecursion (λ x. P x × Q x) xs
both P Q [] ps qs = tt
both P Q (x ∷ xs) ps qs = ((ps.0, qs.0), both P Q xs ps.1 qs.1)

-- the items of a report
wait_again : (c : Sizes) (q : ℕ) → InLimits c → (w : ReportWait) → ((IsTx c w.tx × IsPageOf c q w.page) × (IsTxOfTypes w.tx × IsVersionOfType w.have)) → (rest : List ℕ) → wait_field c q (wait_bytes w ++ rest) ≡ Ok (w, rest)
wait_again c q limits w h rest =
    rw (tx_again c w.tx (to_be_bytes w32 w.page ++ mode_byte w.mode ∷ (version_bytes w.have ++ rest)) h.0.0 h.1.0)
    (rw (page_of_again c q w.page (mode_byte w.mode ∷ (version_bytes w.have ++ rest)) limits h.0.1)
    (rw (mode_again w.mode (version_bytes w.have ++ rest)) (rw (version_again w.have rest h.1.1) refl)))

lock_again : (c : Sizes) (q : ℕ) → InLimits c → (l : ReportLock) → ((IsTx c l.tx × IsPageOf c q l.page) × IsTxOfTypes l.tx) → (rest : List ℕ) → lock_field c q (lock_bytes l ++ rest) ≡ Ok (l, rest)
lock_again c q limits l h rest =
    rw (tx_again c l.tx (to_be_bytes w32 l.page ++ mode_byte l.mode ∷ rest) h.0.0 h.1)
    (rw (page_of_again c q l.page (mode_byte l.mode ∷ rest) limits h.0.1) (rw (mode_again l.mode rest) refl))

right_item_again : (c : Sizes) (q : ℕ) → InLimits c → (t : ReportRight) → (IsPageOf c q t.page × (t.version < 2 ^ 64)) → (rest : List ℕ) → right_item c q (right_bytes t ++ rest) ≡ Ok (t, rest)
right_item_again c q limits t h rest =
    rw (page_of_again c q t.page (to_be_bytes w64 t.version ++ rest) limits h.0) (rw (number_8 t.version rest h.1) refl)

-- the kind of a body
kind_of : Body → ℕ
kind_of (a_request r) = 1
kind_of (a_grant g) = 2
kind_of (a_release r) = 3
kind_of (a_revocation page) = 4
kind_of (a_return r) = 5
kind_of (a_report r) = 6

-- the bytes of a body behind its kind
fields_of : Body → List ℕ
fields_of (a_request r) = tx_bytes r.tx ++ to_be_bytes w32 r.page ++ mode_byte r.mode ∷ version_bytes r.have
fields_of (a_grant g) = tx_bytes g.tx ++ to_be_bytes w32 g.page ++ mode_byte g.mode ∷ flag_byte g.right ∷ to_be_bytes w64 g.version ++ copy_bytes g.copy
fields_of (a_release r) = tx_bytes r.tx ++ to_be_bytes w32 r.page ++ change_bytes r.change
fields_of (a_revocation page) = to_be_bytes w32 page
fields_of (a_return r) = to_be_bytes w32 r.page ++ list_bytes tx_bytes r.readers
fields_of (a_report r) = r.partition ∷ list_bytes wait_bytes r.waits ++ list_bytes lock_bytes r.locks ++ list_bytes right_bytes r.rights

-- lists in a row
four : {X : Type 0} (a b c d : List X) → a ++ b ++ c ++ d ≡ a ++ (b ++ (c ++ d))
four a b c d = append_assoc (a ++ b) c d ∙ append_assoc a b (c ++ d)

-- a report
report_again : (c : Sizes) (r : Report) (rest : List ℕ) → InLimits c → IsBody c (a_report r) → IsBodyOfTypes (a_report r) → report_field c (fields_of (a_report r) ++ rest) ≡ Ok (a_report r, rest)
unfolding fields_of
report_again c r rest limits is fits =
    let locks : List ℕ = list_bytes lock_bytes r.locks ++ (list_bytes right_bytes r.rights ++ rest) in
    ap (λ v. report_field c (r.partition ∷ v)) (four (list_bytes wait_bytes r.waits) (list_bytes lock_bytes r.locks) (list_bytes right_bytes r.rights) rest)
    ∙ rw (byte_again 0 (c.nodes - 1) r.partition (list_bytes wait_bytes r.waits ++ locks) (omega arith) (omega (arith, is.0)))
    (rw (list_again (wait_field c r.partition) wait_bytes _ (wait_again c r.partition limits) r.waits is.1 (both _ _ r.waits is.2 fits.0) locks)
    (rw (list_again (lock_field c r.partition) lock_bytes _ (lock_again c r.partition limits) r.locks is.3 (both _ _ r.locks is.4 fits.1) (list_bytes right_bytes r.rights ++ rest))
    (rw (list_again (right_item c r.partition) right_bytes _ (right_item_again c r.partition limits) r.rights is.5 (both _ _ r.rights is.6 fits.2) rest) refl)))

-- each body
body_again : (c : Sizes) (b : Body) (rest : List ℕ) → InLimits c → IsBody c b → IsBodyOfTypes b → body_field c (kind_of b) (fields_of b ++ rest) ≡ Ok (b, rest)
unfolding kind_of fields_of
body_again c (a_request r) rest limits is fits =
    rw (tx_again c r.tx (to_be_bytes w32 r.page ++ mode_byte r.mode ∷ (version_bytes r.have ++ rest)) is.0 fits.0)
    (rw (page_again c r.page (mode_byte r.mode ∷ (version_bytes r.have ++ rest)) limits is.1)
    (rw (mode_again r.mode (version_bytes r.have ++ rest)) (rw (version_again r.have rest fits.1) refl)))
body_again c (a_grant g) rest limits is fits =
    let copy : List ℕ = copy_bytes g.copy ++ rest in
    let version : List ℕ = to_be_bytes w64 g.version ++ copy in
    rw (tx_again c g.tx (to_be_bytes w32 g.page ++ mode_byte g.mode ∷ flag_byte g.right ∷ version) is.0 fits.0)
    (rw (page_again c g.page (mode_byte g.mode ∷ flag_byte g.right ∷ version) limits is.1)
    (rw (mode_again g.mode (flag_byte g.right ∷ version))
    (rw (right_again g.mode g.right version is.2) (rw (number_8 g.version copy fits.1) (rw (copy_again c.size g.copy rest is.3) refl)))))
body_again c (a_release r) rest limits is fits =
    rw (tx_again c r.tx (to_be_bytes w32 r.page ++ (change_bytes r.change ++ rest)) is.0 fits.0)
    (rw (page_again c r.page (change_bytes r.change ++ rest) limits is.1) (rw (change_again c.size r.change rest is.2 fits.1) refl))
body_again c (a_revocation page) rest limits is fits = rw (page_again c page rest limits is) refl
body_again c (a_return r) rest limits is fits =
    rw (page_again c r.page (list_bytes tx_bytes r.readers ++ rest) limits is.0)
    (rw (list_again (tx_field c) tx_bytes (λ t. IsTx c t × IsTxOfTypes t) (λ t h after. tx_again c t after h.0 h.1) r.readers is.1 (both (IsTx c) IsTxOfTypes r.readers is.2 fits) rest) refl)
body_again c (a_report r) rest limits is fits = report_again c r rest limits is fits

-- a message, byte for byte
kind_is : (b : Body) → body_bytes b ≡ kind_of b ∷ fields_of b
unfolding kind_of fields_of
kind_is (a_request r) = refl
kind_is (a_grant g) = refl
kind_is (a_release r) = refl
kind_is (a_revocation page) = refl
kind_is (a_return r) = refl
kind_is (a_report r) = refl

kind_fits : (b : Body) → (1 ≤ kind_of b) × (kind_of b ≤ 6)
unfolding kind_of
kind_fits (a_request r) = (omega arith, omega arith)
kind_fits (a_grant g) = (omega arith, omega arith)
kind_fits (a_release r) = (omega arith, omega arith)
kind_fits (a_revocation page) = (omega arith, omega arith)
kind_fits (a_return r) = (omega arith, omega arith)
kind_fits (a_report r) = (omega arith, omega arith)

-- a message with what follows it
message_again : (c : Sizes) (m : Message) (rest : List ℕ) → InLimits c → IsMessage c m → m.epoch < 2 ^ 32 → IsBodyOfTypes m.body → message_field c (to_be_bytes w32 m.epoch ++ kind_of m.body ∷ (fields_of m.body ++ rest)) ≡ Ok (m, rest)
message_again c m rest limits good epoch fits =
    let kind : nat_le 1 (kind_of m.body) ≡ true = le-leb _ _ (kind_fits m.body).0 in
    let known : nat_le (kind_of m.body) 6 ≡ true = le-leb _ _ (kind_fits m.body).1 in
    rw (counted_4 m.epoch (kind_of m.body ∷ (fields_of m.body ++ rest)) good.epoch epoch)
    (rw (number_1 (kind_of m.body) (fields_of m.body ++ rest))
    (rw kind (rw known (rw (body_again c m.body rest limits good.body fits) refl))))

pub read_again : ReadAgain
read_again c m limits good epoch fits =
    let bytes : message_bytes m ≡ to_be_bytes w32 m.epoch ++ kind_of m.body ∷ (fields_of m.body ++ []) =
    ap (λ v. to_be_bytes w32 m.epoch ++ v) (kind_is m.body ∙ ap (λ v. kind_of m.body ∷ v) (sym (append-nil (fields_of m.body)))) in
    let all : List ℕ = to_be_bytes w32 m.epoch ++ kind_of m.body ∷ (fields_of m.body ++ []) in
    ap (decoded c) bytes ∙ ap (λ r. placed (length all) (whole r)) (message_again c m [] limits good epoch fits)
