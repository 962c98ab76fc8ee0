-- Guardians that stand where the run leads them, and their bases.
use Rattle.std.proofs.Common.{List, ap, arith, length, map, option_map, refl, subst, sym, ℕ, ◌+◌, ◌-◌, ◌<◌, ◌∙◌, ◌≡◌, ◌≤◌}
use Rattle.std.proofs.lemmas.List.{length-map}
use Rattle.std.proofs.lemmas.Option.{slice_get-map}
use Rattle.values.specs.declared.content.Content.{Content}
use Rattle.run_model.specs.declared.history.Event.{Event}
use Rattle.run_model.specs.LocalReadings.{standing_here}
use Rattle.run_model.specs.Openings.{Opening, OpeningLists, first_content, objects_at, opening_in}
use Rattle.run_model.specs.Runs.{IsRun, World}
use Rattle.run_model.specs.Versions.{base_by, base_of}
use Rattle.stable_store.specs.Calls.{View}
use Rattle.stable_store.specs.Plain.{plain_view}
use Rattle.stable_store.specs.declared.plain.PlainStable.{PlainStable}
use Rattle.layer_contracts.specs.Forests.{ForestState}
use Rattle.layer_contracts.specs.Guardians.{GuardianState}
use Rattle.guardian.specs.Guardians.{InParts, IsWhole}
use Rattle.world_steps.specs.Standings.{IsWorld, standing}
use Rattle.volatile_state.specs.Memories.{own_object}
use Rattle.world.proofs.Reading.{base_is}
use Rattle.locked_run.specs.declared.closing.Ended.{Ended}
use Rattle.script_threads.specs.ThreadRuns.{AreAt, StandsAt}

-- the base of the object of this number, by its guardian's own history
abbrev base_there : GuardianState → ℕ → Content
base_there s n = base_by (first_content s.opening (own_object s n)) (standing_here s.past (own_object s n))

-- has the base that the run says
pub base_where : (w : World) (g n : ℕ) (guardian : InParts PlainStable) (base : Content) → StandsAt w g guardian
    → base ≡ base_there (standing (opening_in w.lists) w.past g) n → base ≡ base_of (opening_in w.lists) (record { guardian = g; number = n }) w.past
base_where w g n guardian base at is =
    let number : g ≡ g - 1 + 1 = omega (arith, at.number) in
    base_is (opening_in w.lists) w.past (record { guardian = g; number = n }) base at.is_run at.number
    (is ∙ ap (λ k. base_there (standing (opening_in w.lists) w.past k) n) number)

-- and has each object of the setup
pub object_there : (w : World) (g n count : ℕ) (guardian : InParts PlainStable) (X : Type 0) → StandsAt w g guardian
    → count ≡ length (objects_at w.lists.setup g) → n < count
    → ((s : GuardianState) → IsWhole plain_view guardian s → X → 1 ≤ n + 1 → n + 1 ≤ length (objects_at s.opening.setup s.number) → ⊥) → X → ⊥
object_there w g n count guardian X at is lt none x =
    let many : n + 1 ≤ length (objects_at w.lists.setup g) = omega (arith, lt, is) in
    none (standing (opening_in w.lists) w.past g) at.stands x (omega arith) many

-- so do all guardians of a world
pub are_at : (lists : OpeningLists) (opening : Opening) (past : List Event) (stored : InParts PlainStable → View) (forest : ForestState → Type 0)
    (guardians : List (Ended (InParts PlainStable))) → opening ≡ opening_in lists
    → IsWorld (λ g s. IsWhole plain_view g s) stored forest opening past (map (λ x. x.value) guardians)
    → AreAt (record { lists = lists; past = past }) lists.setup guardians
are_at lists opening past stored forest guardians same world = record {
  setup_is = refl;
  count = sym (length-map guardians (λ (x : Ended (InParts PlainStable)). x.value)) ∙ world.count ∙ ap (λ (o : Opening). length o.setup) same;
  each = λ i x at. record {
    is_run = subst (λ o. IsRun o past) same world.is_run;
    number = omega arith;
    stands =
        subst (λ o. IsWhole plain_view x.value (standing o past (i + 1))) same
        (world.each i x.value (slice_get-map (λ (y : Ended (InParts PlainStable)). y.value) guardians i ∙ ap (option_map (λ (y : Ended (InParts PlainStable)). y.value)) at));
  };
}
