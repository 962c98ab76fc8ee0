use Rattle.object_laws.proofs.Passing.{passed_shows}
use Rattle.object_laws.proofs.Standing.{none_between_shown}
use Rattle.atomic_object.specs.Kept.{seen}
use Rattle.atomic_object.proofs.Passing.{owner_adds_nothing}
use Rattle.atomic_object.proofs.object.Object.told_commit.Goals as goal

pub pass-requires-clause-next : goal.pass-requires-clause-next
pass-requires-clause-next c =
    let h = c.requires.shown in
    (none_between_shown h.0 h.1 (seen c.args.self.now) c.args.action.now c.args.to h.2 c.requires.named h.3).0

pub pass-requires-clause-between : goal.pass-requires-clause-between
pass-requires-clause-between c =
    let h = c.requires.shown in
    (none_between_shown h.0 h.1 (seen c.args.self.now) c.args.action.now c.args.to h.2 c.requires.named h.3).1

pub pass-requires-clause-beside : goal.pass-requires-clause-beside
pass-requires-clause-beside c = let h = c.requires.shown in owner_adds_nothing h.0 h.1 (seen c.args.self.now) c.args.to h.2

pub returns-clause-shows : goal.returns-clause-shows
returns-clause-shows c = λ d s shows next.
    passed_shows d s (seen c.args.self.now) (seen c.pass.new.self) c.args.action.now c.args.to shows c.requires.named next c.pass.ensures.passed
