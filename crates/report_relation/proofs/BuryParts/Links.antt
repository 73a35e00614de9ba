-- What is on the links as if a report had been taken.
use Rattle.std.proofs.Common.{◌≡◌, inl, inr, refl, ap, sym, subst, ◌∙◌, ℕ, suc, ◌<◌, ◌≤◌, ◌==◌, ◌&&◌, cond, Bool, true, false, List, [], ◌∷◌, ◌++◌, arith}
use Rattle.std.specs.List.{AllByRecursion, filter}
use Rattle.pcl_base.specs.declared.event.Event.{Event}
use Rattle.pcl_base.specs.declared.message.Message.{Message}
use Rattle.node_rules.specs.Words.{pick}
use Rattle.node_rules.specs.Work.{Work}
use Rattle.cluster_rules.specs.Clusters.{Cluster, is_up, node_at}
use Rattle.cluster_rules.specs.ClusterStep.{is_taken}
use Rattle.cluster_rules.specs.Links.{link_at, tail_of}
use Rattle.cluster_laws.specs.Link.Coming.{Stands, coming, delivers, is_coming, sent_to}
use Rattle.cluster_laws.specs.Link.Orders.{AreOrdered, is_report}
use Rattle.cluster_laws.proofs.LinkParts.Ordered.{ordered_from_lower_law}
use Rattle.page_relation.specs.Work.Landing.{land, Acts}
use Rattle.page_relation.proofs.WorkParts.Comings.{landed_coming}

-- ---- lists

pub all_of_filter : (P : Message → Type 0) (f : Message → Bool) (ms : List Message) → AllByRecursion P ms → AllByRecursion P (filter f ms)
all_of_filter P f [] all = tt
all_of_filter P f (m ∷ ms) all = by (f m) (all_of_filter P f ms all.1)
  where
    by : (b : Bool) → AllByRecursion P (filter f ms) → AllByRecursion P (cond b (m ∷ filter f ms) (filter f ms))
    by true rest = (all.0, rest)
    by false rest = rest

all_of_tail : (P : Message → Type 0) (ms : List Message) → AllByRecursion P ms → AllByRecursion P (tail_of ms)
all_of_tail P [] all = tt
all_of_tail P (m ∷ ms) all = all.1

all_and_none : (P : Message → Type 0) (ms : List Message) → AllByRecursion P ms → AllByRecursion P (ms ++ [])
all_and_none P [] all = tt
all_and_none P (m ∷ ms) all = (all.0, all_and_none P ms all.1)

pub all_standing : (P : Message → Type 0) (ms : List Message) → ((m : Message) → Stands ms m → P m) → AllByRecursion P ms
all_standing P [] f = tt
all_standing P (m ∷ ms) f = (f m (inl refl), all_standing P ms (λ k in_ms. f k (inr in_ms)))

-- the reports behind a message are of later epochs
pub later_behind : (f : Message → Bool) (low : ℕ) (ms : List Message) → AreOrdered low (filter f ms) → AllByRecursion (λ (k : Message). f k ≡ true → is_report k.body ≡ true → low < k.epoch) ms
later_behind f low [] o = tt
later_behind f low (m ∷ ms) o = by (f m) refl o (λ rest. later_behind f low ms rest)
  where
    above : (b : Bool) → b ≡ true → pick b (suc low) low ≤ m.epoch → low < m.epoch
    above true is le = omega (arith, le)
    above false is le = absurd (cc)

    upto : (b : Bool) → pick b (suc low) low ≤ m.epoch → low ≤ m.epoch
    upto true le = omega (arith, le)
    upto false le = le

    by : (b : Bool) → f m ≡ b → AreOrdered low (cond b (m ∷ filter f ms) (filter f ms))
        → (AreOrdered low (filter f ms) → AllByRecursion (λ (k : Message). f k ≡ true → is_report k.body ≡ true → low < k.epoch) ms)
        → AllByRecursion (λ (k : Message). f k ≡ true → is_report k.body ≡ true → low < k.epoch) (m ∷ ms)
    by true is o rest = (λ same report. above (is_report m.body) report o.0, rest (ordered_from_lower_law m.epoch low (filter f ms) (upto (is_report m.body) o.0) o.1))
    by false is o rest = (λ same report. let bad : true ≡ false = sym same ∙ is in absurd (cc), rest o)

-- behind a head that passes
pub behind_head : (f : Message → Bool) (m : Message) (ms : List Message) → f m ≡ true → AreOrdered 0 (filter f (m ∷ ms)) → AreOrdered m.epoch (filter f ms)
behind_head f m ms is o = by (f m) is o
  where
    by : (b : Bool) → b ≡ true → AreOrdered 0 (cond b (m ∷ filter f ms) (filter f ms)) → AreOrdered m.epoch (filter f ms)
    by true e o = o.1
    by false e o = absurd (cc)

-- ---- what comes where nothing was sent

module _ (c : Cluster) (e : Event) (n p : ℕ) (w : Work) (acts : Acts c n) (quiet : w.sends ≡ []) where
  nothing_sent : (b : Bool) (to : ℕ) → pick b (sent_to to w.sends) [] ≡ []
  unfolding sent_to
  nothing_sent true to = ap (sent_to to) quiet
  nothing_sent false to = refl

  -- what is so of the link, but for a head that was taken
  pub all_coming : (P : Message → Type 0) (from to : ℕ) → ((b : Bool) → (delivers e from to && is_taken w.replies) ≡ b → AllByRecursion P (pick b (tail_of (link_at c.links from to)) (link_at c.links from to)))
      → AllByRecursion P (coming (land c e n w) p from to)
  all_coming P from to all =
      subst (AllByRecursion P) (sym (landed_coming c e n p w from to acts))
      (all_of_filter P (is_coming c.config p from (node_at (land c e n w) to))
      (pick (delivers e from to && is_taken w.replies) (tail_of (link_at c.links from to)) (link_at c.links from to) ++ pick (from == n && is_up c to) (sent_to to w.sends) [])
      (subst (λ (ms : List Message). AllByRecursion P (pick (delivers e from to && is_taken w.replies) (tail_of (link_at c.links from to)) (link_at c.links from to) ++ ms))
      (sym (nothing_sent (from == n && is_up c to) to))
      (all_and_none P (pick (delivers e from to && is_taken w.replies) (tail_of (link_at c.links from to)) (link_at c.links from to)) (all (delivers e from to && is_taken w.replies) refl))))

  -- so what is so of the whole link
  pub all_linked : (P : Message → Type 0) (from to : ℕ) → AllByRecursion P (link_at c.links from to) → AllByRecursion P (coming (land c e n w) p from to)
  all_linked P from to all = all_coming P from to (λ b is. by b)
    where
      by : (b : Bool) → AllByRecursion P (pick b (tail_of (link_at c.links from to)) (link_at c.links from to))
      by true = all_of_tail P (link_at c.links from to) all
      by false = all
