use Rattle.sqlite.specs.Values.{bound}
use Rattle.sql_store.proofs.Ends.{ran_ok, ran_err}
use Rattle.sql_store.proofs.building.run.Goals as goal

pub returns-in-Ok-clause-works : goal.returns-in-Ok-clause-works
returns-in-Ok-clause-works g c = record {
  survives = c.execute.ensures.survives;
  runs = λ clean.
      ran_ok g.A.Store c.args.text.now (bound c.args.params.now) c.args.tx.now.conn.now c.execute.new.self.conn.now c.in-Ok.field-0 _ (λ none. c.in-Ok.ensures.ended none)
      (λ within. c.in-Ok.ensures.runs clean within);
}

pub returns-in-Err-clause-works : goal.returns-in-Err-clause-works
returns-in-Err-clause-works g c = record {
  survives = c.execute.ensures.survives;
  runs = λ clean.
      ran_err g.A.Store c.args.text.now (bound c.args.params.now) c.args.tx.now.conn.now c.execute.new.self.conn.now c.in-Err.error _ (λ none. c.in-Err.ensures.ended none)
      (λ within. c.in-Err.ensures.runs clean within);
}
