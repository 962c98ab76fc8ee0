use Rattle.std.proofs.Common.{Some, get_or, sym, ◌∙◌, ◌≡◌, ℕ}
use Rattle.action_names.specs.Deps.{least_at, with_least}
use Rattle.action_names.proofs.Entries.{least_at-found, rising_with_least, with_least-absent}
use Rattle.places.proofs.children.add.Goals as goal

pub unreachable-requires : goal.unreachable-requires
unreachable-requires c =
    let es = c.args.places.now.items in
    let has : least_at es c.args.number ≡ Some (get_or {A = ℕ × ℕ} es c.in-Ok.field-0 (0, 0)).1 =
    least_at-found es c.args.number c.in-Ok.field-0 c.requires.rising (rw c.deref.ensures.value at c.in-Ok.ensures.found) (0, 0) in
    cc

pub returns-clause-rising : goal.returns-clause-rising
returns-clause-rising c =
    let es = c.args.places.now.items in
    let is : c.insert.new.self.items ≡ with_least es c.args.number c.args.place =
    c.in_ok-insert-in-Err.ensures.items ∙ sym (with_least-absent es c.args.number c.args.place c.in-Err.at (rw c.deref.ensures.value at c.in-Err.ensures.absent)) in
    rw is (rising_with_least es c.args.number c.args.place c.requires.rising)

pub returns-clause-ok : goal.returns-clause-ok
returns-clause-ok c =
    c.in_ok-insert-in-Err.ensures.items
    ∙ sym (with_least-absent c.args.places.now.items c.args.number c.args.place c.in-Err.at (rw c.deref.ensures.value at c.in-Err.ensures.absent))
