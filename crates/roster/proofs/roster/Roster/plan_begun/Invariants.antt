use Rattle.std.proofs.Common.{get_or, map, take, vec_len, [], ℕ, ◌≡◌}
use Rattle.std.specs.List.{AllByRecursion}
use Rattle.std.specs.FinMap as tree
use Rattle.action_names.specs.Deps.{Deps}
use Rattle.action_names.specs.Names.{IsName}
use Rattle.places.specs.Placed.{AreMore}
use Rattle.run_model.specs.LocalReadings.{least_of}
use Rattle.layer_contracts.specs.Forests.{ForestState}
use Rattle.layer_contracts.specs.Messages.{sent_by}
use Rattle.roster.specs.Entries.{HavePlaces}
use Rattle.roster.proofs.roster.Roster.plan_begun.Given as goal

-- the places so far are those of the names so far, each with what came under its name
abbrev pub invariant-loop-name : goal.invariant-loop-name
invariant-loop-name g l = record {
  more : AreMore l.fn.places l.places;
  count : vec_len l.begun ≡ l.name-index;
  placed : HavePlaces l.places l.begun.items;
  names : map (λ (x : ℕ × Deps). get_or l.places x.0 []) l.begun.items ≡ take l.name-index l.names;
  named : AllByRecursion (λ (x : ℕ × Deps). IsName (get_or l.places x.0 [])) l.begun.items;
  depends : (f : ForestState) → g.L.Lineage.is_of l.lineage f → AllByRecursion (λ (x : ℕ × Deps). (h : ℕ)
      → tree.get x.1 h ≡ least_of (sent_by f l.event l.sending) (get_or l.places x.0 []) h) l.begun.items;
}
