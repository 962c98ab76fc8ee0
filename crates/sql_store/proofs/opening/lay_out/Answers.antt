use Rattle.std.proofs.Common.{Some, ap}
use Rattle.sqlite.specs.Held.{state}
use Rattle.stable_store.specs.Held.{held}
use Rattle.store_tables.proofs.Told.{told_by}
use Rattle.sql_store.proofs.Opens.{made_alone}
use Rattle.sql_store.proofs.Outside.{knows_alone}
use Rattle.sql_store.proofs.opening.lay_out.Goals as goal

pub returns-clause-stands : goal.returns-clause-stands
returns-clause-stands g c known = made_alone (state g.A.Store c.lay_tables.new.conn) (held c.in_ok-kept.kept) (c.is_alone.ensures.alone known) c.in_ok-kept.ensures.made

pub returns-clause-known : goal.returns-clause-known
returns-clause-known g c mode =
    knows_alone (state g.A.Store c.lay_tables.new.conn) c.is_alone.result (c.lay_tables.ensures.mode mode) c.is_alone.ensures.alone c.is_alone.ensures.found

pub returns-clause-as_given : goal.returns-clause-as_given
returns-clause-as_given g c other = ap (λ k. Some k) (c.in_ok-kept.ensures.as_given other)

pub returns-in_err-kept-clause-told : goal.returns-in_err-kept-clause-told
returns-in_err-kept-clause-told g c other is =
    c.in_err-kept.ensures.told other (told_by c.from_residual.result c.in_err-kept.field-0.0 c.from_residual.ensures.1 is)
