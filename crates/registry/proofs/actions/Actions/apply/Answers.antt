use Rattle.std.proofs.Common.{ap, refl, subst, ◌∙◌, ◌∷◌}
use Rattle.action_forest.specs.Events.{done}
use Rattle.action_forest.specs.Forests.{IsForest}
use Rattle.action_forest.specs.Trees.{trees}
use Rattle.registry.specs.Following.{FitsKind, MayEnd, is_ending}
use Rattle.registry.proofs.Follows.{begun_follows, commit_follows, other_follows, vote_follows}
use Rattle.registry.proofs.actions.Actions.apply.Goals as goal

pub returns-in-Begin : goal.returns-in-Begin
returns-in-Begin c = λ opening registry are stamp e life entered fits same.
    let old = c.args.self.now in
    let change = c.args.change.now in
    begun_follows opening registry e stamp life old are entered
    (record { forest = c.begin.new.self; ballots = old.ballots }) change.begun
    (subst (FitsKind opening registry e life old change) c.in-Begin.is fits) refl (c.begin.ensures opening registry are.forest stamp)

pub returns-in-Commit : goal.returns-in-Commit
returns-in-Commit c = λ opening registry are stamp e life entered fits same.
    let old = c.args.self.now in
    let change = c.args.change.now in
    commit_follows opening registry e stamp life old are entered
    (record { forest = c.commit.new.self; ballots = old.ballots }) change.commitment
    (subst (FitsKind opening registry e life old change) c.in-Commit.is fits) refl (c.commit.ensures opening registry are.forest stamp)

pub returns-in-Vote : goal.returns-in-Vote
returns-in-Vote c = λ opening registry are stamp e life entered fits same.
    let old = c.args.self.now in
    let change = c.args.change.now in
    vote_follows opening registry e stamp life old are entered
    (record { forest = old.forest; ballots = c.note.new.self }) c.in-Vote.vote
    (subst (FitsKind opening registry e life old change) c.in-Vote.is fits) refl c.note.ensures

pub returns-in-Other : goal.returns-in-Other
returns-in-Other c = λ opening registry are stamp e life entered fits same.
    let old = c.args.self.now in
    let change = c.args.change.now in
    let new = c.end.new.self in
    other_follows opening registry e stamp life old are entered new
    (subst (FitsKind opening registry e life old change) c.in-Other.is fits) c.end.ensures.ballots
    (λ stays. c.end.ensures.other (ap is_ending same ∙ stays))
    (subst (λ s. MayEnd registry s → IsForest opening (done stamp s ∷ registry) (trees new.forest)) same
    (c.end.ensures.ended opening registry are.forest stamp))
