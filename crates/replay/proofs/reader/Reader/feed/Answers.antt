use Rattle.std.proofs.Common.{◌≡◌, ℕ, ◌==◌, true, false, List, [], ◌∷◌, ◌++◌, length, None, sym, ap, subst, ◌∙◌, arith}
use Rattle.std.specs.Prelude.{IfOk}
use Rattle.std.proofs.lemmas.Bool.Decides.{nat_tests}
use Rattle.replay_rules.specs.Due.{fed, judged}
use Rattle.replay.specs.ReaderView.{ReaderView, reader_of}
use Rattle.replay.specs.Told.{Feeds, Tells}
use Rattle.replay.proofs.Telling.{long_feeds, longest_feeds, part_feeds}
use Rattle.replay.proofs.reader.Reader.feed.Goals as goal

pub returns-then-self-eq-MOST_LINES-clause-told : goal.returns-then-self-eq-MOST_LINES-clause-told
returns-then-self-eq-MOST_LINES-clause-told c =
    let test = c.if-self-eq-MOST_LINES.true in
    let full : (c.self.inside.lines == 200000) ≡ true = grind (arith, nat_tests, test) in
    let here : (c.args.self.now.reading.lines == 200000) ≡ true = subst (λ (v : ReaderView). (v.reading.lines == 200000) ≡ true) c.self.view_is full in
    long_feeds c.args.self.now c.stop.new.self c.args.byte c.args.text.now c.stop.new.text c.stop.result here c.stop.ensures.text c.stop.ensures.status c.stop.ensures.same

pub returns-then-len-eq-MOST_BYTES-clause-told : goal.returns-then-len-eq-MOST_BYTES-clause-told
returns-then-len-eq-MOST_BYTES-clause-told c =
    let b = c.args.byte in
    let view : List ℕ → ReaderView = λ part. reader_of c.self.inside.totals c.self.inside.lines part c.self.inside.cluster c.self.inside.counter in
    let lines = c.if-self-eq-MOST_LINES.false in
    let room : (c.self.inside.lines == 200000) ≡ false = grind (arith, nat_tests, lines) in
    let ten = c.if-byte-eq10.false in
    let other : (b == 10) ≡ false = grind (arith, nat_tests, ten) in
    let items = c.in_ok-push.ensures.items in
    let count : length (c.self.inside.part.items ++ b ∷ []) ≡ c.len.result = ap length (sym items) ∙ (sym c.push.new.self.ok.0 ∙ sym c.len.ensures) in
    let most = c.if-len-eq-MOST_BYTES.true in
    let long : (length (c.self.inside.part.items ++ b ∷ []) == 8235) ≡ true = grind (arith, nat_tests, count, most) in
    let call = c.judge-then-len-eq-MOST_BYTES in
    let told =
    subst (λ part. IfOk call.result (λ s. Tells (judged (view part).totals (view part).reading) (view part) c.args.text.now call.new.text s call.new.self)) items call.ensures.told in
    subst (λ (v : ReaderView). IfOk call.result (λ s. Feeds (fed v.totals v.reading b) v b c.args.text.now call.new.text s call.new.self)) c.self.view_is
    (longest_feeds (view c.self.inside.part.items) call.new.self b c.args.text.now call.new.text call.result room other long told)

pub returns-clause-told : goal.returns-clause-told
returns-clause-told c =
    let b = c.args.byte in
    let view : List ℕ → ReaderView = λ part. reader_of c.self.inside.totals c.self.inside.lines part c.self.inside.cluster c.self.inside.counter in
    let v : ReaderView = view c.self.inside.part.items in
    let lines = c.if-self-eq-MOST_LINES.false in
    let room : (c.self.inside.lines == 200000) ≡ false = grind (arith, nat_tests, lines) in
    let ten = c.if-byte-eq10.false in
    let other : (b == 10) ≡ false = grind (arith, nat_tests, ten) in
    let items = c.in_ok-push.ensures.items in
    let count : length (c.self.inside.part.items ++ b ∷ []) ≡ c.len.result = ap length (sym items) ∙ (sym c.push.new.self.ok.0 ∙ sym c.len.ensures) in
    let fewer = c.if-len-eq-MOST_BYTES.false in
    let short : (length (c.self.inside.part.items ++ b ∷ []) == 8235) ≡ false = grind (arith, nat_tests, count, fewer) in
    let fed_here : Feeds (fed v.totals v.reading b) v b c.args.text.now c.args.text.now None (view c.push.new.self.items) =
    subst (λ part. Feeds (fed v.totals v.reading b) v b c.args.text.now c.args.text.now None (view part)) (sym items) (part_feeds v b c.args.text.now room other short) in
    subst (λ (x : ReaderView). Feeds (fed x.totals x.reading b) x b c.args.text.now c.args.text.now None (view c.push.new.self.items)) c.self.view_is fed_here
