use Rattle.std.proofs.Common.{◌≡◌, Ok, Err, ap, subst, ◌∙◌}
use Rattle.std.specs.FinSet as set
use Rattle.sqlite.specs.Held.{state}
use Rattle.sqlite.specs.declared.error.Error.{Error}
use Rattle.stable_store.specs.Stored.{after_save}
use Rattle.stable_store.specs.Held.{held}
use Rattle.store_tables.specs.Changes.{with_base, with_none_decided, all_put}
use Rattle.store_writing.specs.Steps.{Carries}
use Rattle.sql_store.proofs.Over.{values_are_laid}
use Rattle.sql_store.proofs.Made.{as_ok, as_err}
use Rattle.sql_store.proofs.calls.save.Goals as goal

pub returns-in-Ok-save-clause-carries : goal.returns-in-Ok-save-clause-carries
returns-in-Ok-save-clause-carries g c stands =
    let s = held c.args.kept.now in
    let is : with_base (all_put c.in-Ok.values.entries s.base) (with_none_decided s) ≡ after_save c.args.contents.now.entries s =
    ap (λ es. record s { base = all_put es s.base; decided = set.empty }) c.in-Ok.ensures.values
    ∙ ap (λ b. record s { base = b; decided = set.empty }) (values_are_laid c.args.contents.now.entries s.base) in
    as_ok (subst (λ a. Carries {T = Unit {0}} {E = Error} (state g.A.Store c.args.conn.now) (state g.A.Store c.save.new.conn) s a (Ok c.in-Ok-save.field-0)) is
    (c.in-Ok-save.ensures.carries s (λ _ _. c.in-Ok.ensures.above ∙ c.requires) stands))

pub returns-clause-carries : goal.returns-clause-carries
returns-clause-carries g c stands =
    let s = held c.args.kept.now in
    let is : with_base (all_put c.in-Ok.values.entries s.base) (with_none_decided s) ≡ after_save c.args.contents.now.entries s =
    ap (λ es. record s { base = all_put es s.base; decided = set.empty }) c.in-Ok.ensures.values
    ∙ ap (λ b. record s { base = b; decided = set.empty }) (values_are_laid c.args.contents.now.entries s.base) in
    as_err (subst (λ a. Carries {T = Unit {0}} {E = Error} (state g.A.Store c.args.conn.now) (state g.A.Store c.save.new.conn) s a (Err c.in-Err.error)) is
    (c.in-Err.ensures.carries s (λ _ _. c.in-Ok.ensures.above ∙ c.requires) stands))
