use Rattle.std.proofs.Common.{Bor, List, get_or, rules, Err, Ok, Vec, Global, map, take, refl, sym, subst, ◌∙◌, ◌+◌, ◌∷◌, ◌++◌, [], ℕ, ◌≡◌}
use Rattle.std.proofs.lemmas.List.{map-append, take_all}
use Rattle.sqlite.specs.Held.{state}
use Rattle.sqlite.specs.Order.{Row}
use Rattle.sqlite.specs.Effect.{Database}
use Rattle.sqlite.proofs.StateLemmas.{survives_then}
use Rattle.store_tables.specs.Tables.{stable_schema}
use Rattle.store_tables.specs.Answered.{rows_of}
use Rattle.std.proofs.lemmas.Result.{err_from_is_err_and}
use Rattle.sql_store.specs.Reading.{AreAnswered, IsAnswered, Looks}
use Rattle.store_writing.proofs.Inside.{keeps_same, survives_self}
use Rattle.sql_store.proofs.Sequences.{one_answer}
use Rattle.sql_store.proofs.Asked.{next_text, text_at, no_text}
use Rattle.sql_store.proofs.Looking.{clean_before, looks_ok, looks_err, looks_none, then_looks}
use Rattle.sql_store.proofs.building.answers.Goals as goal

abbrev texts_of : List (Bor (List ℕ)) → List (List ℕ)
texts_of qs = map (λ (b : Bor (List ℕ)). b.now) qs

pub loop-query-init : goal.loop-query-init
loop-query-init g c =
    let s = state g.A.Store c.args.tx.now.conn.now in
    let none : c.new-answers.result.items ≡ [] = search rules in
    record {
      same = refl;
      survives = survives_self s;
      schema = λ _. refl;
      looks = λ clean within texts.
          looks_none s (λ (_ : Unit {0}). AreAnswered s.now [] (rows_of c.new-answers.result.items)) tt within (keeps_same s)
          (subst (λ xs. AreAnswered s.now [] (rows_of xs)) (sym none) tt);
    }

pub loop-query-preserved : goal.loop-query-preserved
loop-query-preserved g c =
    let a = state g.A.Store c.args.tx.now.conn.now in
    let b = state g.A.Store c.loop-query.tx.conn.now in
    let d = state g.A.Store c.answer.new.tx.conn.now in
    let qs = c.args.queries.now in
    let i = c.loop-query.query-index in
    let q = get_or qs i no_text in
    let shown = rows_of c.loop-query.answers.items in
    let rows = c.in_ok-answer.field-0 in
    record {
      same = c.answer.ensures.same ∙ c.loop-query.invariant.same;
      survives = survives_then a b d _ _ (λ _. ⊥) (λ _ db none. none) (λ _ db none. none) c.loop-query.invariant.survives c.answer.ensures.survives;
      schema = λ clean. c.in_ok-answer.ensures.schema clean ∙ c.loop-query.invariant.schema (clean_before b d _ c.answer.ensures.survives clean);
      looks = λ clean within texts.
          then_looks a b d (λ (_ : Unit {0}). AreAnswered a.now (texts_of (take i qs)) shown)
          (λ (_ : Unit {0}). AreAnswered a.now (texts_of (take (i + 1) qs)) (rows_of c.push.new.self.items)) tt (Ok tt) within
          (c.loop-query.invariant.looks (clean_before b d _ c.answer.ensures.survives clean) within texts)
          (λ w. looks_ok b d (λ (it : Vec Row Global). IsAnswered b.now q.now it.items) _ rows tt
          (c.in_ok-answer.ensures.looks clean w (text_at qs i no_text c.loop-query-test.true texts))
          (λ schema same answered is all.
          subst (λ ts. AreAnswered a.now ts (rows_of c.push.new.self.items)) (sym (next_text qs i no_text c.loop-query-test.true))
          (subst (λ rs. AreAnswered a.now (texts_of (take i qs) ++ q.now ∷ []) (rows_of rs)) (sym c.in_ok-push.ensures.items)
          (subst (λ rs. AreAnswered a.now (texts_of (take i qs) ++ q.now ∷ []) rs) (sym (map-append (λ (it : Vec Row Global). it.items) c.loop-query.answers.items (rows ∷ [])))
          (one_answer stable_schema a.now (texts_of (take i qs)) shown q.now rows.items all (subst (λ (x : Database). IsAnswered x q.now rows.items) is answered))))));
    }

pub returns-in_err-answer-clause-looks : goal.returns-in_err-answer-clause-looks
returns-in_err-answer-clause-looks g c clean within texts =
    let a = state g.A.Store c.args.tx.now.conn.now in
    let b = state g.A.Store c.loop-query.tx.conn.now in
    let d = state g.A.Store c.answer.new.tx.conn.now in
    let qs = c.args.queries.now in
    let i = c.loop-query.query-index in
    let q = get_or qs i no_text in
    let p = err_from_is_err_and c.from_residual.result c.from_residual.ensures.1 in
    let all : Vec (Vec Row Global) Global → Type 0 = λ it. AreAnswered a.now (texts_of qs) (rows_of it.items) in
    subst (Looks a d all) (sym p.1)
    (then_looks a b d (λ (_ : Unit {0}). AreAnswered a.now (texts_of (take i qs)) (rows_of c.loop-query.answers.items)) all tt (Err p.0) within
    (c.loop-query.invariant.looks (clean_before b d _ c.answer.ensures.survives clean) within texts)
    (λ w. looks_err b d (λ (it : Vec Row Global). IsAnswered b.now q.now it.items)
    (λ it. b.now ≡ a.now → AreAnswered a.now (texts_of (take i qs)) (rows_of c.loop-query.answers.items) → all it) (Err c.in_err-answer.field-0.0) p.0
    (c.in_err-answer.ensures.looks clean w (text_at qs i no_text c.loop-query-test.true texts))))

pub returns-in_err-push-clause-looks : goal.returns-in_err-push-clause-looks
returns-in_err-push-clause-looks g c clean within texts =
    let a = state g.A.Store c.args.tx.now.conn.now in
    let b = state g.A.Store c.loop-query.tx.conn.now in
    let d = state g.A.Store c.answer.new.tx.conn.now in
    let qs = c.args.queries.now in
    let i = c.loop-query.query-index in
    let q = get_or qs i no_text in
    let p = err_from_is_err_and c.from_residual-in_err-push.result c.from_residual-in_err-push.ensures.1 in
    let all : Vec (Vec Row Global) Global → Type 0 = λ it. AreAnswered a.now (texts_of qs) (rows_of it.items) in
    subst (Looks a d all) (sym p.1)
    (then_looks a b d (λ (_ : Unit {0}). AreAnswered a.now (texts_of (take i qs)) (rows_of c.loop-query.answers.items)) all tt (Err p.0) within
    (c.loop-query.invariant.looks (clean_before b d _ c.answer.ensures.survives clean) within texts)
    (λ w. looks_err b d (λ (it : Vec Row Global). IsAnswered b.now q.now it.items)
    (λ it. b.now ≡ a.now → AreAnswered a.now (texts_of (take i qs)) (rows_of c.loop-query.answers.items) → all it) (Ok c.in_ok-answer.field-0) p.0
    (c.in_ok-answer.ensures.looks clean w (text_at qs i no_text c.loop-query-test.true texts))))

pub returns-clause-looks : goal.returns-clause-looks
returns-clause-looks g c clean within texts =
    let a = state g.A.Store c.args.tx.now.conn.now in
    let b = state g.A.Store c.loop-query.tx.conn.now in
    looks_ok a b _ _ tt c.loop-query.answers (c.loop-query.invariant.looks clean within texts)
    (λ schema same shown. subst (λ xs. AreAnswered a.now (texts_of xs) (rows_of c.loop-query.answers.items)) (take_all _ _ c.loop-query-test.false) shown)
