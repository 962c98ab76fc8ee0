use Rattle.std.proofs.Common.{Bor, List, rules, Err, Ok, Vec, Global, inl, map, take, refl, sym, ap, subst, ◌∷◌, ◌++◌, [], ℕ, ◌≡◌, ◌<◌, arith, length, get_or}
use Rattle.std.proofs.lemmas.List.{map-append, take_all, length-map}
use Rattle.std.proofs.lemmas.Result.{err_from_is_err_and}
use Rattle.sqlite.specs.Held.{state}
use Rattle.sqlite.specs.Order.{Row}
use Rattle.store_tables.specs.Answered.{rows_of}
use Rattle.sql_store.specs.Reading.{AreAnswersOf, IsAnswerOf, LooksUp}
use Rattle.sql_store.proofs.Sequences.{weaker_reads}
use Rattle.sql_store.proofs.Asked.{Asked, quiet_mid, one_asked, none_asked, next_text, text_at, no_text, given_up, all_asked}
use Rattle.sql_store.proofs.Outside.{stays_self, stays_then, stays_any, stays_err}
use Rattle.sql_store.proofs.Failing.{failed_by, lacks_memory, failed_at, tracks_self, tracks_then}
use Rattle.sql_store.proofs.asking.answers.Goals as goal

abbrev texts_of : List (Bor (List ℕ)) → List (List ℕ)
texts_of qs = map (λ (b : Bor (List ℕ)). b.now) qs

pub loop-query-init : goal.loop-query-init
loop-query-init g c =
    let none : c.new-answers.result.items ≡ [] = search rules in
    record { asked = λ tables texts quiet. inl (refl, refl, ap rows_of none); outside = stays_self (state g.A.Store c.args.conn.now) tt; track = tracks_self (state g.A.Store c.args.conn.now) }

pub returns-in_err-answer-clause-looks : goal.returns-in_err-answer-clause-looks
returns-in_err-answer-clause-looks g c tables texts quiet =
    let at = g.A.Store in
    let qs = c.args.queries.now in
    let i = c.loop-query.query-index in
    let q = get_or qs i no_text in
    let shown = rows_of c.loop-query.answers.items in
    let so_far = c.loop-query.invariant.asked tables texts quiet in
    let p = err_from_is_err_and c.from_residual.result c.from_residual.ensures.1 in
    let still = quiet_mid tables at c.args.conn.now quiet (texts_of (take i qs)) c.loop-query.conn c.answer.new.conn shown q.now so_far in
    let one = c.in_err-answer.ensures.looks tables (text_at qs i no_text c.loop-query-test.true texts) still in
    subst (LooksUp {T = Vec (Vec Row Global) Global} (state at c.args.conn.now) (state at c.answer.new.conn) (λ d all. AreAnswersOf tables d (texts_of qs) (rows_of all.items))) (sym p.1)
    (none_asked tables at c.args.conn.now quiet (texts_of (take i qs)) c.loop-query.conn c.answer.new.conn shown q.now so_far (λ d (all : Vec (Vec Row Global) Global). AreAnswersOf tables d (texts_of qs) (rows_of all.items)) c.in_err-answer.field-0.0 p.0
    (weaker_reads (state at c.loop-query.conn) (state at c.answer.new.conn) (λ d (rows : Vec Row Global). IsAnswerOf tables d q.now rows.items) (λ d _. Unit {0}) (Err c.in_err-answer.field-0.0) (λ d x h. tt) one))

pub returns-in_err-push-clause-looks : goal.returns-in_err-push-clause-looks
returns-in_err-push-clause-looks g c tables texts quiet =
    let at = g.A.Store in
    let qs = c.args.queries.now in
    let i = c.loop-query.query-index in
    let q = get_or qs i no_text in
    let rows = c.in_ok-answer.field-0 in
    let shown = rows_of c.loop-query.answers.items in
    let so_far = c.loop-query.invariant.asked tables texts quiet in
    let p = err_from_is_err_and c.from_residual-in_err-push.result c.from_residual-in_err-push.ensures.1 in
    let still = quiet_mid tables at c.args.conn.now quiet (texts_of (take i qs)) c.loop-query.conn c.answer.new.conn shown q.now so_far in
    let one = c.in_ok-answer.ensures.looks tables (text_at qs i no_text c.loop-query-test.true texts) still in
    given_up tables at c.args.conn.now c.answer.new.conn (texts_of (take i qs) ++ q.now ∷ []) (shown ++ rows.items ∷ []) (λ d (all : Vec (Vec Row Global) Global). AreAnswersOf tables d (texts_of qs) (rows_of all.items)) p.0 c.from_residual-in_err-push.result
    (one_asked tables at c.args.conn.now quiet (texts_of (take i qs)) c.loop-query.conn c.answer.new.conn shown q.now so_far rows one) p.1

pub loop-query-preserved : goal.loop-query-preserved
loop-query-preserved g c =
    let at = g.A.Store in
    let first = c.args.conn.now in
    let mid = c.loop-query.conn in
    let last = c.answer.new.conn in
    let qs = c.args.queries.now in
    let i = c.loop-query.query-index in
    let q = get_or qs i no_text in
    let rows = c.in_ok-answer.field-0 in
    let shown = rows_of c.loop-query.answers.items in
    record {
      asked = λ tables texts quiet.
          let so_far = c.loop-query.invariant.asked tables texts quiet in
          let still = quiet_mid tables at first quiet (texts_of (take i qs)) mid last shown q.now so_far in
          let one = c.in_ok-answer.ensures.looks tables (text_at qs i no_text c.loop-query-test.true texts) still in
          subst (λ ts. Asked tables at first ts last (rows_of c.push.new.self.items)) (sym (next_text qs i no_text c.loop-query-test.true))
          (subst (λ rs. Asked tables at first (texts_of (take i qs) ++ q.now ∷ []) last (rows_of rs)) (sym c.in_ok-push.ensures.items)
          (subst (λ rs. Asked tables at first (texts_of (take i qs) ++ q.now ∷ []) last rs) (sym (map-append (λ (it : Vec Row Global). it.items) c.loop-query.answers.items (rows ∷ [])))
          (one_asked tables at first quiet (texts_of (take i qs)) mid last shown q.now so_far rows one)));
      outside = stays_any (state at first) (state at last) rows (Ok tt) (stays_then (state at first) (state at mid) (state at last) tt (Ok rows) c.loop-query.invariant.outside c.in_ok-answer.ensures.outside);
      track = tracks_then (state at first) (state at mid) (state at last) c.loop-query.invariant.track c.answer.ensures.track;
    }

pub returns-clause-looks : goal.returns-clause-looks
returns-clause-looks g c tables texts quiet =
    let qs = c.args.queries.now in
    let some : 0 < length (texts_of qs) = omega (arith, c.requires, length-map qs (λ (b : Bor (List ℕ)). b.now)) in
    all_asked tables g.A.Store c.args.conn.now c.loop-query.conn (texts_of qs) c.loop-query.answers some
    (subst (λ xs. Asked tables g.A.Store c.args.conn.now (texts_of xs) c.loop-query.conn (rows_of c.loop-query.answers.items)) (take_all _ _ c.loop-query-test.false) (c.loop-query.invariant.asked tables texts quiet))

pub returns-in_err-answer-clause-outside : goal.returns-in_err-answer-clause-outside
returns-in_err-answer-clause-outside g c =
    let first = state g.A.Store c.args.conn.now in
    let mid = state g.A.Store c.loop-query.conn in
    let last = state g.A.Store c.answer.new.conn in
    let p = err_from_is_err_and c.from_residual.result c.from_residual.ensures.1 in
    stays_err first last (Err c.in_err-answer.field-0.0) p.0 c.from_residual.result p.1
    (stays_then first mid last tt (Err c.in_err-answer.field-0.0) c.loop-query.invariant.outside c.in_err-answer.ensures.outside)

pub returns-in_err-push-clause-outside : goal.returns-in_err-push-clause-outside
returns-in_err-push-clause-outside g c =
    let first = state g.A.Store c.args.conn.now in
    let mid = state g.A.Store c.loop-query.conn in
    let last = state g.A.Store c.answer.new.conn in
    stays_any first last c.in_ok-answer.field-0 _ (stays_then first mid last tt (Ok c.in_ok-answer.field-0) c.loop-query.invariant.outside c.in_ok-answer.ensures.outside)

pub returns-clause-outside : goal.returns-clause-outside
returns-clause-outside g c = stays_any (state g.A.Store c.args.conn.now) (state g.A.Store c.loop-query.conn) tt (Ok c.loop-query.answers) c.loop-query.invariant.outside

pub returns-in_err-answer-clause-failed : goal.returns-in_err-answer-clause-failed
returns-in_err-answer-clause-failed g c is clean =
    let first = state g.A.Store c.args.conn.now in
    let last = state g.A.Store c.answer.new.conn in
    failed_at g.A.Store c.args.queries.now c.loop-query.query-index no_text c.loop-query-test.true first c.loop-query.conn last c.loop-query.invariant.outside c.loop-query.invariant.track
    (c.in_err-answer.ensures.failed (failed_by c.from_residual.result c.in_err-answer.field-0.0 c.from_residual.ensures.1 is) clean)

pub returns-in_err-push-clause-failed : goal.returns-in_err-push-clause-failed
returns-in_err-push-clause-failed g c is clean = absurd (lacks_memory c.from_residual-in_err-push.result c.from_residual-in_err-push.ensures.1 is)

pub returns-in_err-answer-clause-track : goal.returns-in_err-answer-clause-track
returns-in_err-answer-clause-track g c =
    tracks_then (state g.A.Store c.args.conn.now) (state g.A.Store c.loop-query.conn) (state g.A.Store c.answer.new.conn) c.loop-query.invariant.track c.answer.ensures.track

pub returns-in_err-push-clause-track : goal.returns-in_err-push-clause-track
returns-in_err-push-clause-track g c =
    tracks_then (state g.A.Store c.args.conn.now) (state g.A.Store c.loop-query.conn) (state g.A.Store c.answer.new.conn) c.loop-query.invariant.track c.answer.ensures.track

pub returns-clause-track : goal.returns-clause-track
returns-clause-track g c = c.loop-query.invariant.track
