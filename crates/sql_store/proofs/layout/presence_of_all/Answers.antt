use denote.Enum.Bare.{differs_true}
use Rattle.std.proofs.Common.{Ok, Err, Bor, List, ℕ, map, ◌∷◌, ◌≡◌, ◌∙◌, get_or, sym}
use Rattle.std.proofs.lemmas.Result.{err_from_is_err_and}
use Rattle.sqlite.specs.Effect.{Database}
use Rattle.sqlite.specs.Held.{state}
use Rattle.sql_store.specs.declared.layout.Presence.{Presence}
use Rattle.sql_store.specs.declared.layout.Presence.TheVariants.{Others}
use Rattle.sql_store.specs.contracts.layout.Presence.{the_type}
use Rattle.sql_store.specs.Layouts.{presence_in, IsPresence}
use Rattle.sql_store.proofs.Asked.{no_text}
use Rattle.sql_store.proofs.Sequences.{failed_reads, and_reads}
use Rattle.sql_store.proofs.Layouts.{settled_after, looked_ok, differing}
use Rattle.sql_store.proofs.layout.presence_of_all.Goals as goal

abbrev all_of : List ℕ → List (Bor (List ℕ)) → Database → Presence → Type 0
all_of query others d found = IsPresence d.schema (query ∷ map (λ (q : Bor (List ℕ)). q.now) others) found

abbrev shows : List ℕ → Database → Presence → Type 0
shows query d found = found ≡ presence_in d.schema query

pub returns-in_err-first-clause-looks : goal.returns-in_err-first-clause-looks
returns-in_err-first-clause-looks g c settled =
    let p = err_from_is_err_and c.from_residual.result c.from_residual.ensures.1 in
    failed_reads (state g.A.Store c.args.conn.now) (state g.A.Store c.presence_of.new.conn) (shows c.args.query.now) (all_of c.args.query.now c.args.others.now) _ p.0 c.from_residual.result p.1
    (c.in_err-first.ensures.looks settled)

pub loop-other-init : goal.loop-other-init
loop-other-init g c = record {
  mode = c.presence_of.ensures.mode;
  looks = λ settled.
      looked_ok (state g.A.Store c.args.conn.now) (state g.A.Store c.presence_of.new.conn) (shows c.args.query.now) (λ d _. c.in_ok-first.first ≡ presence_in d.schema c.args.query.now)
      c.in_ok-first.first tt (c.in_ok-first.ensures.looks settled) (λ h. h);
}

pub returns-in_err-found-clause-looks : goal.returns-in_err-found-clause-looks
returns-in_err-found-clause-looks g c settled =
    let a = state g.A.Store c.args.conn.now in
    let b = state g.A.Store c.loop-other.conn in
    let d = state g.A.Store c.presence_of-in-loop-other.new.conn in
    let first = c.in_ok-first.first in
    let query = c.args.query.now in
    let other = (get_or c.args.others.now c.loop-other.other-index no_text).now in
    let so_far = c.loop-other.invariant.looks settled in
    let p = err_from_is_err_and c.from_residual-in_err-found.result c.from_residual-in_err-found.ensures.1 in
    failed_reads a d _ (all_of query c.args.others.now) _ p.0 c.from_residual-in_err-found.result p.1
    (and_reads a b d (λ x _. first ≡ presence_in x.schema query) (shows other) tt (Err c.in_err-found.field-0.0) so_far
    (c.in_err-found.ensures.looks (settled_after a b _ tt settled c.loop-other.invariant.mode so_far)))

pub returns-then-ne-clause-looks : goal.returns-then-ne-clause-looks
returns-then-ne-clause-looks g c settled =
    let a = state g.A.Store c.args.conn.now in
    let b = state g.A.Store c.loop-other.conn in
    let d = state g.A.Store c.presence_of-in-loop-other.new.conn in
    let first = c.in_ok-first.first in
    let query = c.args.query.now in
    let other = (get_or c.args.others.now c.loop-other.other-index no_text).now in
    let so_far = c.loop-other.invariant.looks settled in
    looked_ok a d _ (all_of query c.args.others.now) c.in_ok-found.found Others
    (and_reads a b d (λ x _. first ≡ presence_in x.schema query) (shows other) tt (Ok c.in_ok-found.found) so_far
    (c.in_ok-found.ensures.looks (settled_after a b _ tt settled c.loop-other.invariant.mode so_far)))
    (λ h. differing a.now.schema query c.args.others.now c.loop-other.other-index first c.in_ok-found.found c.loop-other-test.true h.1.0 h.1.1 (differs_true the_type c.in_ok-found.found first (sym c.if-ne.ensures)))

pub loop-other-preserved : goal.loop-other-preserved
loop-other-preserved g c =
    let a = state g.A.Store c.args.conn.now in
    let b = state g.A.Store c.loop-other.conn in
    let d = state g.A.Store c.presence_of-in-loop-other.new.conn in
    let first = c.in_ok-first.first in
    let query = c.args.query.now in
    let other = (get_or c.args.others.now c.loop-other.other-index no_text).now in
    record {
      mode = λ m. c.presence_of-in-loop-other.ensures.mode (c.loop-other.invariant.mode m);
      looks = λ settled.
          let so_far = c.loop-other.invariant.looks settled in
          looked_ok a d _ (λ x _. first ≡ presence_in x.schema query) c.in_ok-found.found tt
          (and_reads a b d (λ x _. first ≡ presence_in x.schema query) (shows other) tt (Ok c.in_ok-found.found) so_far
          (c.in_ok-found.ensures.looks (settled_after a b _ tt settled c.loop-other.invariant.mode so_far)))
          (λ h. h.1.0);
    }

pub returns-clause-looks : goal.returns-clause-looks
returns-clause-looks g c settled =
    let a = state g.A.Store c.args.conn.now in
    let b = state g.A.Store c.loop-other.conn in
    looked_ok a b (λ x _. c.in_ok-first.first ≡ presence_in x.schema c.args.query.now) (all_of c.args.query.now c.args.others.now) tt c.in_ok-first.first
    (c.loop-other.invariant.looks settled) (λ h all k. h ∙ k.0)
