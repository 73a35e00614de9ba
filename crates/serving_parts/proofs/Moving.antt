-- Serving that has come from one link to another, and goes on from there or ends.
use Rattle.std.proofs.Common.{◌≡◌, refl, sym, ap, subst, ◌∙◌, inl, inr, ℕ, ◌≤◌, List, [], ◌++◌, append_assoc, Option, arith}
use Rattle.std.specs.Io.KnownBytes.{Appends}
use Rattle.std.proofs.KnownBytes.{Consumes-nil, Consumes-trans, Appends-nil, Appends-trans}
use Rattle.pcl_base.specs.Faults.{Rose}
use Rattle.run_rules.specs.Disk.{Disk}
use Rattle.frame_rules.specs.Serving.{Served, joined}
use Rattle.node_frames.specs.Written.{AppendsPart}
use Rattle.serving_parts.specs.declared.end.End.{End}
use Rattle.serving_parts.specs.declared.end.End.TheVariants.{Decided, Source, Sink, Memory}
use Rattle.serving_parts.specs.Sides.{Sides}
use Rattle.serving_parts.specs.Outcome.{Link, MayBe, due, Alike, ServesBy, IsOver, IsUnread, WritesPart}
use Rattle.serving_parts.specs.Turns.{EndCause, EndOver, Ran, Reached, Moves}
use Rattle.serving_parts.proofs.Alikes.{alike_joined}

-- a count that rose later
pub risen_later : (a b c : ℕ) → a ≤ b → Rose b c → Rose a c
risen_later a b c later (inl less) = inl (omega (arith, later, less))
risen_later a b c later (inr last) = inr last

-- a beginning behind what was appended
pub part_behind : (a b c : Option (List ℕ)) (xs ys : List ℕ) → Appends a b xs → AppendsPart b c ys → AppendsPart a c (xs ++ ys)
part_behind a b c xs ys whole (part, rest, all, text) = (
  xs ++ part,
  rest,
  ap (λ l. xs ++ l) all ∙ sym (append_assoc xs part rest),
  Appends-trans a b c xs part whole text,
)

-- a beginning of the first of two
pub part_before : (a b : Option (List ℕ)) (xs ys : List ℕ) → AppendsPart a b xs → AppendsPart a b (xs ++ ys)
part_before a b xs ys (part, rest, all, text) = (part, rest ++ ys, ap (λ l. l ++ ys) all ∙ append_assoc part rest ys, text)

-- nothing is a beginning, and all is
pub nothing_part : (a : Option (List ℕ)) (xs : List ℕ) → AppendsPart a a xs
nothing_part a xs = ([], xs, refl, Appends-nil a)

joined_twice : (v w : List ℕ) (s : Served) → joined v (joined w s) ≡ joined (v ++ w) s
joined_twice v w s = ap (λ x. record { written = x; progress = s.progress }) (sym (append_assoc v w s.written))

-- nothing was taken
pub moves_none : (k : Link) (s : Sides) → Moves k k s s
moves_none k s =
    record {
      taken = [];
      consumed = Consumes-nil s.left;
      source = omega arith;
      sink = omega arith;
      counts = λ c. omega arith;
      reached =
          λ d tells.
          record {
            after = d;
            tells = tells;
            written = [];
            text = Appends-nil s.outs.written;
            may = λ rest s m. m;
            exact = λ rest. refl;
            calm = λ calm. calm;
          };
    }

module _ (k mid : Link) (a b c : Sides) (xs ys : List ℕ) (d : Disk) (r : Reached k mid a b xs d) where
  reached_then : (later : Link) → Reached mid later b c ys r.after → Reached k later a c (xs ++ ys) d
  reached_then later q =
      record {
        after = q.after;
        tells = q.tells;
        written = r.written ++ q.written;
        text = Appends-trans _ _ _ _ _ r.text q.text;
        may =
            λ rest s m.
            subst (λ bytes. MayBe k d bytes (joined (r.written ++ q.written) s)) (sym (append_assoc xs ys rest))
            (subst (λ x. MayBe k d (xs ++ (ys ++ rest)) x) (joined_twice r.written q.written s)
            (r.may (ys ++ rest) (joined q.written s) (q.may rest s m)));
        exact =
            λ rest.
            ap (λ bytes. due k d bytes) (append_assoc xs ys rest)
            ∙ r.exact (ys ++ rest)
            ∙ ap (λ x. joined r.written x) (q.exact rest)
            ∙ joined_twice r.written q.written (due later q.after rest);
        calm = λ calm. q.calm (r.calm calm);
      }

  serves_then : (s : Served) → ServesBy mid r.after b ys s → ServesBy k d a (xs ++ ys) (joined r.written s)
  serves_then s v =
      record {
        may = r.may ys s v.may;
        exact =
            λ calm.
            subst (λ x. Alike (joined r.written s) x) (sym (r.exact ys)) (alike_joined r.written s (due mid r.after ys) (v.exact (r.calm calm)));
      }

  over_then : (status : ℕ) → IsOver mid r.after b c ys status → IsOver k d a c (xs ++ ys) status
  over_then status o =
      record {
        s = joined r.written o.s;
        serves = serves_then o.s o.serves;
        after = o.after;
        end = o.end;
        text = Appends-trans _ _ _ _ _ r.text o.text;
        left = o.left;
      }

module _ (k mid : Link) (a b c : Sides) (xs ys : List ℕ) (d : Disk) (r : Reached k mid a b xs d) where
  unread_then : IsUnread mid r.after b c ys → IsUnread k d a c (xs ++ ys)
  unread_then u =
      record {
        front = xs ++ u.front;
        part = u.part;
        all = ap (λ l. xs ++ l) u.all ∙ sym (append_assoc xs u.front u.part);
        nothing = u.nothing;
        over = over_then k mid a b c xs u.front d r 0 u.over;
      }

  part_then : WritesPart mid r.after b c ys → WritesPart k d a c (xs ++ ys)
  part_then w =
      record {
        front = xs ++ w.front;
        part = w.part;
        all = ap (λ l. xs ++ l) w.all ∙ sym (append_assoc xs w.front w.part);
        s = joined r.written w.s;
        serves = serves_then k mid a b c xs w.front d r w.s w.serves;
        text = part_behind _ _ _ _ _ r.text w.text;
      }

  end_then : (end : End) → EndOver mid r.after b c ys end → EndOver k d a c (xs ++ ys) end
  end_then (Decided status) o = over_then k mid a b c xs ys d r status o
  end_then Source u = unread_then u
  end_then Sink w = part_then w
  end_then Memory w = part_then w

cause_then : (k mid : Link) (a b c : Sides) (end : End) → Moves k mid a b → EndCause b c end → EndCause a c end
cause_then k mid a b c (Decided status) m cause = (
  cause.0,
  cause.1,
  λ six. let rose = cause.2 six in (rose.0, risen_later _ _ _ (m.counts rose.0) rose.1),
)
cause_then k mid a b c Source m cause = risen_later _ _ _ m.source cause
cause_then k mid a b c Sink m cause = risen_later _ _ _ m.sink cause
cause_then k mid a b c Memory m cause = tt

-- serving goes on and then goes on, or ends
pub moves_then : (k mid later : Link) (a b c : Sides) → Moves k mid a b → Moves mid later b c → Moves k later a c
moves_then k mid later a b c m q =
    record {
      taken = m.taken ++ q.taken;
      consumed = Consumes-trans _ _ _ _ _ m.consumed q.consumed;
      source = omega (arith, m.source, q.source);
      sink = omega (arith, m.sink, q.sink);
      counts = λ call. omega (arith, m.counts call, q.counts call);
      reached =
          λ d tells.
          let r = m.reached d tells in
          reached_then k mid a b c m.taken q.taken d r later (q.reached r.after r.tells);
    }

pub ran_then : (k mid : Link) (a b c : Sides) (end : End) → Moves k mid a b → Ran mid b c end → Ran k a c end
ran_then k mid a b c end m q =
    record {
      taken = m.taken ++ q.taken;
      consumed = Consumes-trans _ _ _ _ _ m.consumed q.consumed;
      cause = cause_then k mid a b c end m q.cause;
      over =
          λ d tells.
          let r = m.reached d tells in
          end_then k mid a b c m.taken q.taken d r end (q.over r.after r.tells);
    }
