use Rattle.std.proofs.Common.{◌∙◌, ap, sym, subst}
use Rattle.std.specs.Prelude.{Some}
use Rattle.guardian_index.specs.Held.{Row, Rows, IsRising, objects_at}
use Rattle.guardian_index.proofs.Numbers.{no_numbers}
use Rattle.guardian_index.proofs.Rows.{found, rising_found}
use Rattle.guardian_index.proofs.Changes.{rowless}
use Rattle.guardian_index.proofs.few.FewRows.objects_of.Goals as goal

pub returns-in-Some-clause-objects : goal.returns-in-Some-clause-objects
returns-in-Some-clause-objects c =
    let there = rw c.deref.ensures.value at c.in-Some.ensures in
    c.deref-in-Some.ensures.value
    ∙ ap (λ (r : Row). r.objects) (found c.args.holder.now c.self.inside.rows.items (Some c.in-Some.objects.now) there)
    ∙ ap (λ (rs : Rows). objects_at rs c.args.holder.now) c.self.view_is

pub returns-in-Some-clause-rising : goal.returns-in-Some-clause-rising
returns-in-Some-clause-rising c =
    let there = rw c.deref.ensures.value at c.in-Some.ensures in
    subst IsRising (sym c.deref-in-Some.ensures.value)
    (rising_found c.args.holder.now c.self.inside.rows.items c.in-Some.objects.now c.self.invariant.objects there)

pub returns-in-None-clause-objects : goal.returns-in-None-clause-objects
returns-in-None-clause-objects c =
    sym (ap (λ (r : Row). r.objects) (rowless _ c.self.inside.rows.items c.args.holder.now c.self.view_is (rw c.deref.ensures.value at c.in-None.ensures)))

pub returns-in-None-clause-rising : goal.returns-in-None-clause-rising
returns-in-None-clause-rising c = no_numbers
