use Rattle.std.proofs.Common.{ap, length, sym, [], ◌+◌, ◌∙◌}
use Rattle.one_run.specs.Pieces.{places_from, seen_of}
use Rattle.one_run.specs.Rules.{first_of, others_of}
use Rattle.locked_run.specs.Beginning.{stamps}
use Rattle.locked_run.proofs.Begun.{guardian_places, registry_first, registry_place}
use Rattle.locked_run.proofs.beginning.begin.Goals as goal

pub new-registry-requires : goal.new-registry-requires
new-registry-requires g c =
    let n = length g.K.OfRun.opening.setup in
    let places = c.args.start.all ∙ ap (λ o. places_from 0 (length o.setup + 2)) c.requires.opening in
    record {
      past = [];
      left = stamps;
      of_table = c.split-rest.ensures.of.0 ∙ (c.args.start.of ∙ c.requires.table);
      parts = c.split-rest.ensures.first ∙ ap first_of places ∙ registry_place n;
      run = tt;
      there = c.requires.world.forest;
      kept = c.new-history.ensures;
    }

pub hold-guardians-requires-clause-places : goal.hold-guardians-requires-clause-places
hold-guardians-requires-clause-places g c =
    let n = length g.K.OfRun.opening.setup in
    let places = c.args.start.all ∙ ap (λ o. places_from 0 (length o.setup + 2)) c.requires.opening in
    c.split-others.ensures.others
    ∙ ap others_of (c.split-rest.ensures.others ∙ ap others_of places)
    ∙ guardian_places n
    ∙ ap (λ m. places_from 2 m) (sym c.requires.world.count)

pub returns-clause-begun : goal.returns-clause-begun
returns-clause-begun g c =
    let n = length g.K.OfRun.opening.setup in
    let places = c.args.start.all ∙ ap (λ o. places_from 0 (length o.setup + 2)) c.requires.opening in
    record {
      registry_seen = c.new-registry.ensures ∙ ap seen_of (c.split-rest.ensures.first ∙ ap first_of places) ∙ registry_first n;
      guardians = c.args.guardians.items;
      held_is = c.hold-guardians.ensures;
      count = c.requires.world.count;
    }
