-- What the locks have kept at the end of a run: the histories that the run leaves.
use Rattle.std.proofs.Common.{List, Some, [], ap, arith, length, map, refl, reverse, slice_get, subst, suc, sym, true, ℕ, ◌+◌, ◌<◌, ◌∙◌, ◌∷◌, ◌≡◌}
use Rattle.std.proofs.lemmas.List.{length-map}
use Rattle.std.proofs.lemmas.Option.{same_Some, slice_get_within}
use Rattle.std.specs.Prelude.{IsPermutation}
use Rattle.run_model.specs.declared.history.Event.{Event}
use Rattle.run_model.specs.Gathering.{Histories, all_copies, by_stamp}
use Rattle.run_model.specs.Lists.{guardians_of}
use Rattle.run_model.specs.LocalHistories.{events_there}
use Rattle.run_model.specs.Openings.{Opening, OpeningLists, Setup, opening_in}
use Rattle.run_model.specs.Runs.{IsRun, World, new_world}
use Rattle.run_laws.specs.Serving.{IsServed}
use Rattle.stable_store.specs.Calls.{View}
use Rattle.stable_store.specs.Plain.{plain_view}
use Rattle.stable_store.specs.declared.plain.PlainStable.{PlainStable}
use Rattle.layer_contracts.specs.Forests.{ForestState}
use Rattle.layer_contracts.specs.Guardians.{GuardianState}
use Rattle.guardian.specs.Guardians.{InParts, IsWhole}
use Rattle.world_steps.specs.Standings.{IsWorld, forest_of}
use Rattle.registry.specs.Registries.{InRegistry}
use Rattle.script_model.specs.declared.checked.Checked.{Checked}
use Rattle.activities.specs.Continuing.{EndsAll}
use Rattle.activities.specs.declared.client.ClientEnd.{ClientEnd}
use Rattle.locked_run.specs.Closing.{AreEnds, IsClosed, beginnings}
use Rattle.locked_run.specs.declared.closing.Ended.{Ended}
use Rattle.locked_run.specs.declared.closing.Ends.{Ends}
use Rattle.tracer.specs.Leaving.{histories_of, left_at}
use Rattle.tracer.proofs.Left.{get_up, runs_are_gathered, up_count}
use Rattle.client_threads.specs.Clients.{AllDid}
use Rattle.script_engine.specs.Running.{Bases}
use Rattle.script_runs.specs.SerialRuns.{all_bases}
use Rattle.script_threads.specs.Ended.{have_ended_there}
use Rattle.script_threads.specs.ThreadRuns.{AreAt, ComesOf, HaveKept, begun_in, kept_histories, kept_run}
use Rattle.script_threads.proofs.AllEnded.{all_ended}
use Rattle.script_threads.proofs.Standing.{are_at}

-- two maps of two lists agree if they agree at each place
same_maps : {X Y Z : Type 0} (f : X → Z) (g : Y → Z) (xs : List X) (ys : List Y) → length xs ≡ length ys
    → ((i : ℕ) (x : X) (y : Y) → slice_get xs i ≡ Some x → slice_get ys i ≡ Some y → f x ≡ g y) → map f xs ≡ map g ys
same_maps f g [] [] same each = refl
same_maps f g [] (y ∷ ys) same each = absurd (none same)
  where
    none : 0 ≡ suc (length ys) → ⊥
    none same = omega (arith, same)
same_maps f g (x ∷ xs) [] same each = absurd (none same)
  where
    none : suc (length xs) ≡ 0 → ⊥
    none same = omega (arith, same)
same_maps f g (x ∷ xs) (y ∷ ys) same each =
    let first : f x ≡ g y = each 0 x y refl refl in
    let fewer : length xs ≡ length ys = omega (arith, same) in
    let rest = same_maps f g xs ys fewer (λ i. each (suc i)) in
    (λ k. first k ∷ rest k)

module _ {R G : Type 0} (stands : G → GuardianState → Type 0) (stored : G → View) (forest : R → ForestState → Type 0)
    (opening : Opening) (past : List Event) (ends : Ends R G) (are : AreEnds stands stored forest opening past ends) where
  as_many : length ends.guardians.items ≡ length (guardians_of opening)
  as_many = sym (length-map ends.guardians.items (λ (x : Ended G). x.value)) ∙ are.world.count ∙ sym (up_count (length opening.setup))

  each_is_left : (i : ℕ) (x : Ended G) (g : ℕ) → slice_get ends.guardians.items i ≡ Some x → slice_get (guardians_of opening) i ≡ Some g
      → reverse x.history ≡ left_at opening past g
  each_is_left i x g at there =
      let within : i < length (guardians_of opening) = slice_get_within (guardians_of opening) i g there in
      let lt : i < length opening.setup = subst (λ n. i < n) (up_count (length opening.setup)) within in
      let next : suc i ≡ i + 1 = omega arith in
      let number : i + 1 ≡ g = sym next ∙ same_Some (suc i) g (sym (get_up (length opening.setup) i lt) ∙ there) in
      ap reverse (are.each i x at) ∙ ap (left_at opening past) number

  pub histories_kept : kept_histories ends ≡ histories_of opening past
  histories_kept =
      let registry = ap reverse are.registry in
      let guardians = same_maps (λ (x : Ended G). reverse x.history) (left_at opening past) ends.guardians.items (guardians_of opening) as_many each_is_left in
      (λ k. record { registry = registry k; guardians = guardians k })

  pub run_kept : kept_run ends ≡ past
  run_kept =
      ap (λ (hs : Histories). map (λ c. c.1) (by_stamp (all_copies hs))) histories_kept
      ∙ sym (runs_are_gathered opening past are.world.is_run).all_events

pub have_kept : {R G : Type 0} (stands : G → GuardianState → Type 0) (stored : G → View) (forest : R → ForestState → Type 0)
    (lists : OpeningLists) (opening : Opening) (past : List Event) (ends : Ends R G) → opening ≡ opening_in lists
    → AreEnds stands stored forest opening past ends → HaveKept lists ends
have_kept stands stored forest lists opening past ends same are =
    histories_kept stands stored forest opening past ends are
    ∙ (λ k. histories_of (same k) (sym (run_kept stands stored forest opening past ends are) k))

-- what came of a script whose run was closed
module _ (script : Checked) (lists : OpeningLists) (opening : Opening) (same : opening ≡ opening_in lists) (stored : InParts PlainStable → View)
    (forest : InRegistry → ForestState → Type 0) (receipts : List (List Event)) (ends : Ends InRegistry (InParts PlainStable))
    (closed : IsClosed (λ g s. IsWhole plain_view g s) stored forest opening receipts ends) where
  run_is : kept_run ends ≡ closed.past
  run_is = run_kept (λ g s. IsWhole plain_view g s) stored forest opening closed.past ends closed.ends

  pub ends_kept : HaveKept lists ends
  ends_kept = have_kept (λ g s. IsWhole plain_view g s) stored forest lists opening closed.past ends same closed.ends

  pub kept_is_run : IsRun (opening_in lists) (kept_run ends)
  kept_is_run = subst (IsRun (opening_in lists)) (sym run_is) (subst (λ o. IsRun o closed.past) same closed.ends.world.is_run)

  pub stand_there : AreAt (record { lists = lists; past = kept_run ends }) lists.setup ends.guardians.items
  stand_there =
      subst (λ past. AreAt (record { lists = lists; past = past }) lists.setup ends.guardians.items) (sym run_is)
      (are_at lists opening closed.past stored (forest ends.registry.value) ends.guardians.items same closed.ends.world)

  pub all_have_ended : have_ended_there (events_there (forest_of opening closed.past).registry) (reverse ends.registry.history) ≡ true
      → EndsAll (begun_in lists) (record { lists = lists; past = kept_run ends })
  all_have_ended fine =
      let kept = subst (λ history. have_ended_there (events_there (forest_of opening closed.past).registry) (reverse history) ≡ true)
      closed.ends.registry fine in
      subst (λ past. EndsAll (begun_in lists) (record { lists = lists; past = past })) (sym run_is)
      (all_ended lists opening closed.past closed.ends.world.is_run kept)

  pub came_of : (clients : List ClientEnd) (bases : Bases) → AllDid script.clients clients receipts
      → EndsAll (begun_in lists) (record { lists = lists; past = kept_run ends })
      → bases ≡ all_bases (record { lists = lists; past = kept_run ends }) → ComesOf script lists clients bases (kept_run ends)
  came_of clients bases did ended left = record {
    served = subst (IsServed (opening_in lists)) (sym run_is) (subst (λ o. IsServed o closed.past) same closed.served);
    receipts = receipts;
    did = did;
    all = subst (λ past. IsPermutation receipts (beginnings past)) (sym run_is) closed.receipts;
    ended = ended;
    left = left;
  }

-- a new world begins a run of this opening
pub begins_there : (stored : InParts PlainStable → View) (forest : ForestState → Type 0) (run : World) (setup : Setup) (key : OpeningLists)
    (guardians : List (InParts PlainStable)) → run ≡ new_world setup → key ≡ run.lists
    → IsWorld (λ g s. IsWhole plain_view g s) stored forest (opening_in run.lists) run.past guardians
    → IsWorld (λ g s. IsWhole plain_view g s) stored forest (opening_in key) [] guardians
begins_there stored forest run setup key guardians new same world =
    subst (λ lists. IsWorld (λ g s. IsWhole plain_view g s) stored forest (opening_in lists) [] guardians) (sym same)
    (subst (λ past. IsWorld (λ g s. IsWhole plain_view g s) stored forest (opening_in run.lists) past guardians) (ap (λ (w : World). w.past) new) world)
