-- What is served alike.
use Rattle.std.proofs.Common.{◌≡◌, refl, ap, ℕ, List, ◌++◌, Some}
use Rattle.std.specs.Prelude.{◌≢◌}
use Rattle.frame_rules.specs.Serving.{Progress, Going, Ended, Served, joined}
use Rattle.serving_parts.specs.Outcome.{Alike, status_in}

-- what is the same is alike
pub alike_same : (s t : Served) → s ≡ t → Alike s t
alike_same s t same =
    record {
      written = ap (λ (x : Served). x.written) same;
      status = ap (λ (x : Served). status_in x.progress) same;
      same = λ other. same;
    }

-- behind the same bytes
pub alike_joined : (w : List ℕ) (s t : Served) → Alike s t → Alike (joined w s) (joined w t)
alike_joined w s t a =
    record { written = ap (λ x. w ++ x) a.written; status = a.status; same = λ other. ap (joined w) (a.same other) }

-- serving ends with 0 where it would go on
abbrev pub closed_progress : Progress → Progress
closed_progress (Going n d) = Ended 0 d
closed_progress (Ended status d) = Ended status d

abbrev pub closed : Served → Served
closed s = record { written = s.written; progress = closed_progress s.progress }

closed_status : (p q : Progress) → status_in p ≡ status_in q → status_in (closed_progress p) ≡ status_in (closed_progress q)
closed_status (Going n d) (Going m e) same = refl
closed_status (Going n d) (Ended status e) same = absurd (cc)
closed_status (Ended status d) (Going m e) same = absurd (cc)
closed_status (Ended status d) (Ended other e) same = same

still_other : (p : Progress) → status_in (closed_progress p) ≢ Some 10 → status_in p ≢ Some 10
still_other (Going n d) other = λ e. cc
still_other (Ended status d) other = other

pub alike_closed : (s t : Served) → Alike s t → Alike (closed s) (closed t)
alike_closed s t a =
    record {
      written = a.written;
      status = closed_status s.progress t.progress a.status;
      same = λ other. ap closed (a.same (still_other t.progress other));
    }
