-- What is due to the bytes behind a header, byte by byte.
use Rattle.std.proofs.Common.{◌≡◌, refl, sym, ap, subst, ◌∙◌, ℕ, ◌+◌, ◌<◌, ◌≤◌, ◌==◌, Bool, true, false, List, [], ◌∷◌, ◌++◌, append_assoc, append-nil, length, Option, Some, None, inl, inr, arith}
use Rattle.std.proofs.lemmas.Bool.{eqb-true}
use Rattle.std.proofs.lemmas.Bool.Decides.{nat_tests}
use Rattle.std.proofs.lemmas.List.{length-append}
use Rattle.pcl_base.specs.declared.event.Event.{Event}
use Rattle.text_rules.specs.ReadEvent.{event_of}
use Rattle.text_rules.specs.ScheduleLine.{line_of}
use Rattle.text_rules.specs.BadLine.{bad_at, event_forms}
use Rattle.text_rules.specs.TraceText.{ended}
use Rattle.line_laws.proofs.EventLines.{event_back}
use Rattle.node_rules.specs.Words.{pick}
use Rattle.cluster_rules.specs.Clusters.{Cluster}
use Rattle.cluster_rules.specs.ClusterStep.{step}
use Rattle.replay_rules.specs.Due.{Reading, Told, most_lines, most_bytes, only_text, silent, joined, bad, long, with_event, judged_by, judged, grown, fed, ended_by, read_from, at_end}
use Rattle.replay_rules.specs.Due.Place.{Going, Stopped}
use Rattle.replay_rules.specs.RunOfInput.{HasNoNewline, TooMany}
use Rattle.replay_laws.proofs.LineSizes.{none-append, event_fits}
use Rattle.replay_laws.proofs.Reading.{rest_of, rest-cons, rest-stopped}
use Rattle.replay_laws.proofs.Courses.{Goes, goes_same, goes_stopped, goes_event, goes_bad, goes_ended, IsSomething}

-- where reading stands between two bytes
pub record Stands (r : Reading) : Type 0 where
  pub few : r.lines ≤ most_lines
  pub full : r.lines ≡ most_lines → r.part ≡ []
  pub one : HasNoNewline r.part
  pub short : length r.part < most_bytes

-- both sides of a test
pub by_test : (b : Bool) (P : Bool → Type 0) → (b ≡ true → P true) → (b ≡ false → P false) → P b
by_test true P f g = f refl
by_test false P f g = g refl

-- something stands before other bytes
pub some_more : (a : List ℕ) (b : ℕ) (bs : List ℕ) → IsSomething (a ++ b ∷ bs)
some_more a b bs e =
    let l = length-append a (b ∷ bs) in
    let none : length (a ++ b ∷ bs) ≡ 0 = ap length e in
    absurd (omega (arith, l, none))

pub one_more : (part : List ℕ) (b : ℕ) → HasNoNewline part → (b == 10) ≡ false → HasNoNewline (part ++ b ∷ [])
one_more part b one other = none-append part (b ∷ []) one (other, tt)

pub not_most : (n : ℕ) → (n == most_lines) ≡ false → n ≤ most_lines → n < most_lines
not_most n other le = grind (arith, nat_tests, other, le)

pub longer : (part : List ℕ) (b : ℕ) → length (part ++ b ∷ []) ≡ length part + 1
longer part b = length-append part (b ∷ [])

-- a stop is the last that is due
pub stop_last : (t : Bool) (text : List ℕ) (status : ℕ) (bs : List ℕ)
    → joined (only_text text (Stopped status)) (rest_of t (Stopped status) bs) ≡ only_text text (Stopped status)
stop_last t text status bs =
    ap (joined (only_text text (Stopped status))) (rest-stopped t status bs) ∙ ap (λ x. only_text x (Stopped status)) (append-nil text)

pub bad_last : (t : Bool) (r : Reading) (o : Option (ℕ × _)) (bs : List ℕ) → joined (bad r o) (rest_of t (bad r o).place bs) ≡ bad r o
bad_last t r o bs = stop_last t (bad r o).text 3 bs

-- what a whole line gives
abbrev Line : Bool → Reading → Cluster → Option Event → List ℕ → Told
Line t r c o bs = joined (with_event t r c o) (rest_of t (with_event t r c o).place bs)

judged_is : (t : Bool) (r : Reading) (c : Cluster) (o : Option Event) → r.cluster ≡ Some c → event_of r.part ≡ o → judged t r ≡ with_event t r c o
unfolding judged
judged_is t r c o here read = ap (judged_by t r) here ∙ ap (with_event t r c) read

line_is : (t : Bool) (r : Reading) (c : Cluster) (o : Option Event) (bs : List ℕ) → r.cluster ≡ Some c → event_of r.part ≡ o
    → joined (judged t r) (rest_of t (judged t r).place bs) ≡ Line t r c o bs
line_is t r c o bs here read = ap (λ x. joined x (rest_of t x.place bs)) (judged_is t r c o here read)

-- the reading of the bytes behind
abbrev Further : List ℕ → Type 0
Further bs = (r : Reading) (c : Cluster) → r.cluster ≡ Some c → Stands r → Goes r.lines c (r.part ++ bs) (λ t. rest_of t (Going r) bs)

-- a line that a newline ends
by_newline : (r : Reading) (c : Cluster) (bs : List ℕ) (o : Option Event) → r.cluster ≡ Some c → Stands r → r.lines < most_lines → event_of r.part ≡ o
    → Further bs → Goes r.lines c (r.part ++ 10 ∷ bs) (λ t. joined (judged t r) (rest_of t (judged t r).place bs))
by_newline r c bs None here s room read go =
    goes_same r.lines c (r.part ++ 10 ∷ bs) (λ t. joined (judged t r) (rest_of t (judged t r).place bs)) (λ t. bad r (bad_at true event_forms r.part))
    (λ t. line_is t r c None bs here read ∙ bad_last t r (bad_at true event_forms r.part) bs)
    (goes_bad r c (r.part ++ 10 ∷ bs) r.part true room (some_more r.part 10 bs) (bs, inl (refl, s.short)) s.one (λ h. read))
by_newline r c bs (Some e) here s room read go =
    let next : Reading = record { lines = r.lines + 1; part = []; cluster = Some (step c e) } in
    let front : r.part ++ 10 ∷ bs ≡ ended (line_of e) ++ bs =
    ap (λ l. l ++ 10 ∷ bs) (sym (event_back r.part e read).1) ∙ sym (append_assoc (line_of e) (10 ∷ []) bs) in
    goes_same r.lines c (r.part ++ 10 ∷ bs) (λ t. joined (judged t r) (rest_of t (judged t r).place bs)) (λ t. Line t r c (Some e) bs)
    (λ t. line_is t r c (Some e) bs here read)
    (goes_event r.lines c e (r.part ++ 10 ∷ bs) bs (λ t. rest_of t (Going next) bs) (event_back r.part e read).0 front
    (go next (step c e) refl (record { few = omega (arith, room); full = λ h. refl; one = tt; short = omega arith })))

-- a line of the most bytes
by_length : (r : Reading) (c : Cluster) (bs : List ℕ) (o : Option Event) → r.cluster ≡ Some c → r.lines < most_lines → HasNoNewline r.part
    → length r.part ≡ most_bytes → IsSomething (r.part ++ bs) → event_of r.part ≡ o
    → Goes r.lines c (r.part ++ bs) (λ t. joined (judged t r) (rest_of t (judged t r).place bs))
by_length r c bs None here room one len some read =
    goes_same r.lines c (r.part ++ bs) (λ t. joined (judged t r) (rest_of t (judged t r).place bs)) (λ t. bad r (bad_at true event_forms r.part))
    (λ t. line_is t r c None bs here read ∙ bad_last t r (bad_at true event_forms r.part) bs)
    (goes_bad r c (r.part ++ bs) r.part true room some (bs, inr (refl, len)) one (λ h. read))
by_length r c bs (Some e) here room one len some read =
    let back = event_back r.part e read in
    let most = (event_fits e back.0).0 in
    let same : length (line_of e) ≡ length r.part = ap length back.1 in
    absurd (omega (arith, most, same, len))

-- a byte that ends no line
by_byte : (r : Reading) (c : Cluster) (b : ℕ) (bs : List ℕ) → r.cluster ≡ Some c → Stands r → r.lines < most_lines → (b == 10) ≡ false
    → Further bs
    → (let more : Reading = record r { part = r.part ++ b ∷ [] } in
    Goes r.lines c (r.part ++ b ∷ bs) (λ t. joined (grown t more) (rest_of t (grown t more).place bs)))
by_byte r c b bs here s room other go =
    let more : Reading = record r { part = r.part ++ b ∷ [] } in
    let regroup : more.part ++ bs ≡ r.part ++ b ∷ bs = append_assoc r.part (b ∷ []) bs in
    let one : HasNoNewline more.part = one_more r.part b s.one other in
    let some : IsSomething (more.part ++ bs) = λ e. some_more r.part b bs (sym regroup ∙ e) in
    subst (λ bytes. Goes r.lines c bytes (λ t. joined (grown t more) (rest_of t (grown t more).place bs))) regroup
    (by_test (length more.part == most_bytes)
    (λ test. Goes r.lines c (more.part ++ bs) (λ t. let x : Told = pick test (judged t more) (silent (Going more)) in joined x (rest_of t x.place bs)))
    (λ full. by_length more c bs (event_of more.part) here room one (eqb-true (length more.part) most_bytes full) some refl)
    (λ short. go more c here (record {
      few = s.few;
      full = λ h. absurd (omega (arith, h, room));
      one = one;
      short = let l = longer r.part b in let k = s.short in grind (arith, nat_tests, l, k, short);
    })))

-- one byte more
by_fed : (r : Reading) (c : Cluster) (b : ℕ) (bs : List ℕ) → r.cluster ≡ Some c → Stands r → Further bs
    → Goes r.lines c (r.part ++ b ∷ bs) (λ t. joined (fed t r b) (rest_of t (fed t r b).place bs))
unfolding fed
by_fed r c b bs here s go =
    let more : Reading = record r { part = r.part ++ b ∷ [] } in
    by_test (r.lines == most_lines)
    (λ test. Goes r.lines c (r.part ++ b ∷ bs)
    (λ t. let x : Told = pick test (long r) (pick (b == 10) (judged t r) (grown t more)) in joined x (rest_of t x.place bs)))
    (λ full. goes_same r.lines c (r.part ++ b ∷ bs) (λ t. joined (long r) (rest_of t (Stopped 7) bs)) (λ t. long r)
    (λ t. stop_last t (long r).text 7 bs)
    (goes_stopped r.lines c (r.part ++ b ∷ bs) (r.part ++ b ∷ bs) TooMany refl s.few (eqb-true r.lines most_lines full, some_more r.part b bs)))
    (λ room. by_test (b == 10)
    (λ test. Goes r.lines c (r.part ++ b ∷ bs)
    (λ t. let x : Told = pick test (judged t r) (grown t more) in joined x (rest_of t x.place bs)))
    (λ newline. subst (λ x. Goes r.lines c (r.part ++ x ∷ bs) (λ t. joined (judged t r) (rest_of t (judged t r).place bs))) (sym (eqb-true b 10 newline))
    (by_newline r c bs (event_of r.part) here s (not_most r.lines room s.few) refl go))
    (λ other. by_byte r c b bs here s (not_most r.lines room s.few) other go))

-- all bytes, and the end
pub goes : (bs : List ℕ) (r : Reading) (c : Cluster) → r.cluster ≡ Some c → Stands r → Goes r.lines c (r.part ++ bs) (λ t. rest_of t (Going r) bs)
unfolding read_from at_end
goes [] r c here s =
    goes_same r.lines c (r.part ++ []) (λ t. rest_of t (Going r) []) (λ t. ended_by t r (Some c))
    (λ t. ap (ended_by t r) here)
    (goes_ended r c r.part (r.part ++ []) s.few s.full (append-nil r.part) s.one s.short)
goes (b ∷ bs) r c here s =
    goes_same r.lines c (r.part ++ b ∷ bs) (λ t. rest_of t (Going r) (b ∷ bs)) (λ t. joined (fed t r b) (rest_of t (fed t r b).place bs))
    (λ t. rest-cons t (Going r) b bs)
    (by_fed r c b bs here s (goes bs))
