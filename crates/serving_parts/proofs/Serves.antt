-- What may be served of a front, and then of what is left behind it.
use Rattle.std.proofs.Common.{◌≡◌, refl, sym, ap, subst, ◌∙◌, inl, inr, ℕ, zero, suc, ◌+◌, List, [], ◌∷◌, ◌++◌, append-nil, Option, Some, None, Result, Err}
use Rattle.run_rules.specs.Disk.{Disk}
use Rattle.node_rules.specs.NodeState.{NodeState, NodeEvent, number_of}
use Rattle.node_rules.specs.NodeStep.{Plan, nodestep}
use Rattle.node_rules.specs.Work.{Outcome, Goes, Differs}
use Rattle.frame_rules.specs.Frames.{Frame}
use Rattle.frame_rules.specs.ReadFrame.{BadFrame, Front, Bad, front_of}
use Rattle.frame_rules.specs.WrittenFrames.{bad_frame_text, long_text}
use Rattle.frame_rules.specs.Serving.{Progress, Going, Ended, Served, ends, at_end, joined, and_on, from_progress, by_front, by_frame, by_step, by_plan, serve_from}
use Rattle.frame_rules.specs.Halting.{MayFront, MayFrame, MayStep, MayPlan, MayGoOn, MayServe}
use Rattle.serving_parts.specs.Frames.{IsWhole, IsBad}
use Rattle.serving_parts.proofs.Alikes.{closed, closed_progress}

-- the end of the input
pub due_none : (most number : ℕ) (n : NodeState) (d : Disk) → serve_from most number [] n d ≡ at_end d
unfolding serve_from
due_none zero number n d = refl
due_none (suc most) number n d = refl

pub may_none : (most number : ℕ) (n : NodeState) (d : Disk) → MayServe most number [] n d (at_end d)
unfolding serve_from MayServe
may_none zero number n d = refl
may_none (suc most) number n d = refl

-- a byte where no frame more may be read
pub due_long : (number b : ℕ) (n : NodeState) (d : Disk) → serve_from zero number (b ∷ []) n d ≡ ends d (long_text number) 7
unfolding serve_from
due_long number b n d = refl

pub may_long : (number b : ℕ) (n : NodeState) (d : Disk) → MayServe zero number (b ∷ []) n d (ends d (long_text number) 7)
unfolding serve_from MayServe
may_long number b n d = refl

-- a bad front
due_front : (most number : ℕ) (bytes : List ℕ) (n : NodeState) (d : Disk) (f : Front) → front_of bytes ≡ f
    → serve_from (suc most) number bytes n d ≡ by_front number n d f (serve_from most (number + 1))
unfolding serve_from
due_front most number bytes n d f is = ap (λ x. by_front number n d x (serve_from most (number + 1))) is

may_front : (most number : ℕ) (bytes : List ℕ) (n : NodeState) (d : Disk) (f : Front) (s : Served) → front_of bytes ≡ f
    → MayFront number n d f (MayServe most (number + 1)) s → MayServe (suc most) number bytes n d s
unfolding MayServe
may_front most number bytes n d f s is may = subst (λ x. MayFront number n d x (MayServe most (number + 1)) s) (sym is) may

-- one frame of a node before so many others
module _ (most number : ℕ) (n : NodeState) (d : Disk) (taken : List ℕ) where
  -- a whole frame, and what is left behind it
  pub due_whole : (rest : List ℕ) (r : Result Frame BadFrame) → IsWhole n.home.config (number_of n) taken r
      → serve_from (suc most) number (taken ++ rest) n d ≡ and_on (by_frame number n d r) (serve_from most (number + 1) rest)
  due_whole rest r w =
      due_front most number (taken ++ rest) n d _ (w.front rest)
      ∙ ap (λ x. and_on (by_frame number n d x) (serve_from most (number + 1) rest)) w.told

  pub may_whole : (rest : List ℕ) (r : Result Frame BadFrame) (first s : Served) → IsWhole n.home.config (number_of n) taken r → MayFrame number n d r first
      → MayGoOn first.written first.progress (MayServe most (number + 1) rest) s → MayServe (suc most) number (taken ++ rest) n d s
  may_whole rest r first s w may on =
      may_front most number (taken ++ rest) n d _ s (w.front rest) (first, subst (λ x. MayFrame number n d x first) (sym w.told) may, on)

  -- where it lets serving go on
  pub due_on : (rest : List ℕ) (r : Result Frame BadFrame) (written : List ℕ) (later : NodeState) (after : Disk) → IsWhole n.home.config (number_of n) taken r
      → by_frame number n d r ≡ record { written = written; progress = Going later after }
      → serve_from (suc most) number (taken ++ rest) n d ≡ joined written (serve_from most (number + 1) rest later after)
  due_on rest r written later after w is = due_whole rest r w ∙ ap (λ x. and_on x (serve_from most (number + 1) rest)) is

  pub may_on : (rest : List ℕ) (r : Result Frame BadFrame) (written : List ℕ) (later : NodeState) (after : Disk) (s : Served) → IsWhole n.home.config (number_of n) taken r
      → MayFrame number n d r (record { written = written; progress = Going later after }) → MayServe most (number + 1) rest later after s
      → MayServe (suc most) number (taken ++ rest) n d (joined written s)
  may_on rest r written later after s w may on =
      may_whole rest r (record { written = written; progress = Going later after }) (joined written s) w may (s, on, refl)

  -- where nothing is left behind it
  close_on : (written : List ℕ) (p : Progress) → MayGoOn written p (MayServe most (number + 1) []) (record { written = written; progress = closed_progress p })
  close_on written (Going later after) = (
    at_end after,
    may_none most (number + 1) later after,
    ap (λ w. record { written = w; progress = Ended 0 after }) (sym (append-nil written)),
  )
  close_on written (Ended status after) = refl

  closes : (written : List ℕ) (p : Progress) → joined written (from_progress p (serve_from most (number + 1) [])) ≡ record { written = written; progress = closed_progress p }
  closes written (Going later after) =
      ap (joined written) (due_none most (number + 1) later after) ∙ ap (λ w. record { written = w; progress = Ended 0 after }) (append-nil written)
  closes written (Ended status after) = ap (λ w. record { written = w; progress = Ended status after }) (append-nil written)

  pub may_closed : (r : Result Frame BadFrame) (first : Served) → IsWhole n.home.config (number_of n) taken r → MayFrame number n d r first
      → MayServe (suc most) number taken n d (closed first)
  may_closed r first w may =
      subst (λ bytes. MayServe (suc most) number bytes n d (closed first)) (append-nil taken)
      (may_whole [] r first (closed first) w may (close_on first.written first.progress))

  pub due_closed : (r : Result Frame BadFrame) → IsWhole n.home.config (number_of n) taken r → serve_from (suc most) number taken n d ≡ closed (by_frame number n d r)
  due_closed r w =
      let first = by_frame number n d r in
      ap (λ bytes. serve_from (suc most) number bytes n d) (sym (append-nil taken)) ∙ due_whole [] r w ∙ closes first.written first.progress

  -- a bad frame
  pub due_bad : (bad : BadFrame) → IsBad n.home.config (number_of n) taken bad → serve_from (suc most) number taken n d ≡ ends d (bad_frame_text number bad) 3
  due_bad bad (inl front) = due_front most number taken n d (Bad bad) front
  due_bad bad (inr whole) = due_closed (Err bad) whole

  pub may_bad : (bad : BadFrame) → IsBad n.home.config (number_of n) taken bad → MayServe (suc most) number taken n d (ends d (bad_frame_text number bad) 3)
  may_bad bad (inl front) = may_front most number taken n d (Bad bad) (ends d (bad_frame_text number bad) 3) front refl
  may_bad bad (inr whole) = may_closed (Err bad) (ends d (bad_frame_text number bad) 3) whole refl

-- where the rules let a step go on, it may
plan_may : (n later : NodeState) (d after : Disk) (written : List ℕ) (o : Outcome Plan) → by_plan n d o ≡ record { written = written; progress = Going later after }
    → MayPlan n d o (record { written = written; progress = Going later after })
plan_may n later d after written (Goes p) is = inl (sym is)
plan_may n later d after written (Differs page expected found) is =
    let bad : Ended 10 d ≡ Going later after = ap (λ (x : Served). x.progress) is in absurd (cc)

pub step_may : (n later : NodeState) (d after : Disk) (written : List ℕ) (asked : Option NodeEvent) → by_step n d asked ≡ record { written = written; progress = Going later after }
    → MayStep n d asked (record { written = written; progress = Going later after })
step_may n later d after written (Some event) is = plan_may n later d after written (nodestep n event d) is
step_may n later d after written None is = sym is
