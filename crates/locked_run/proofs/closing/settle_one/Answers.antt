use Rattle.locked_run.proofs.closing.settle_one.Goals as goal

pub returns-clause-settled : goal.returns-clause-settled
returns-clause-settled g c = record {
  run = c.settle-value.ensures.run;
  first = c.settle-value.ensures.first;
  last = c.settle-value.ensures.last;
  here = c.settle-value.ensures.stands;
  store = c.number.ensures.whole _ c.settle-value.ensures.stands;
  kept = c.settle-value.ensures.history;
}
