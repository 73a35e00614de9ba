-- Which reports a step sends.
use Rattle.std.proofs.Common.{◌≡◌, ◌⊎◌, inl, inr, refl, ℕ, ◌+◌, ◌==◌, Bool, true, false, List, [], ◌∷◌, ◌++◌, arith}
use Rattle.pcl_base.specs.declared.message.Body.{Body}
use Rattle.pcl_base.specs.declared.message.Body.TheVariants as body
use Rattle.node_rules.specs.NodeState.{Outgoing}
use Rattle.node_rules.specs.Words.{pick}
use Rattle.cluster_facts.specs.Reports.Reported.{IsReportOf}
use Rattle.cluster_facts.proofs.ReportsParts.Walking.{is_decided}

abbrev pub is_request : Body → Bool
is_request (body.Request r) = true
is_request _ = false

-- how many reports of a partition there are
abbrev pub one_report : ℕ → Body → ℕ
one_report q (body.Report r) = pick (r.partition == q) 1 0
one_report q _ = 0

abbrev pub reports_of : ℕ → List Outgoing → ℕ
reports_of q [] = 0
reports_of q (o ∷ os) = one_report q o.message.body + reports_of q os

-- a report of a partition goes out to a node
abbrev pub HasOut : ℕ → ℕ → List Outgoing → Type 0
HasOut to q [] = ⊥
HasOut to q (o ∷ os) = ((o.to ≡ to) × IsReportOf q o.message.body) ⊎ HasOut to q os

pub reports_last : (q : ℕ) (os : List Outgoing) (o : Outgoing) → reports_of q (os ++ o ∷ []) ≡ reports_of q os + one_report q o.message.body
reports_last q [] o = let none : reports_of q [] ≡ 0 = refl in let one : reports_of q (o ∷ []) ≡ one_report q o.message.body + 0 = refl in omega (arith, none, one)
reports_last q (x ∷ os) o = let rest = reports_last q os o in omega (arith, rest)

pub out_more : (to q : ℕ) (os xs : List Outgoing) → HasOut to q os → HasOut to q (os ++ xs)
out_more to q [] xs has = absurd has
out_more to q (o ∷ os) xs (inl here) = inl here
out_more to q (o ∷ os) xs (inr rest) = inr (out_more to q os xs rest)

pub out_last : (to q : ℕ) (os : List Outgoing) (o : Outgoing) → o.to ≡ to → IsReportOf q o.message.body → HasOut to q (os ++ o ∷ [])
out_last to q [] o at is = inl (at, is)
out_last to q (x ∷ os) o at is = inr (out_last to q os o at is)

pub none_decided : (q : ℕ) (b : Body) → is_decided b ≡ true → one_report q b ≡ 0
none_decided q (body.Grant g) is = refl
none_decided q (body.Revoke p) is = refl
none_decided q (body.Request r) is = refl
none_decided q (body.Release r) is = refl
none_decided q (body.Return r) is = refl
none_decided q (body.Report r) is = absurd (cc)

pub unasked : (b : Body) → is_decided b ≡ true → is_request b ≡ false
unasked (body.Grant g) is = refl
unasked (body.Revoke p) is = refl
unasked (body.Request r) is = absurd (cc)
unasked (body.Release r) is = refl
unasked (body.Return r) is = refl
unasked (body.Report r) is = refl
