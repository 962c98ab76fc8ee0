-- What comes of a script whose clients run in threads, in a new world.
use Rattle.std.specs.Prelude.{◌≡◌, ◌⊎◌, ◌≤◌, ◌+◌, ℕ, List, [], Some, IsPermutation, length, map, reverse, slice_get}
use Rattle.std.specs.List.{AllByRecursion}
use Rattle.run_model.specs.declared.history.Event.{Event}
use Rattle.run_model.specs.Gathering.{Histories, all_copies, by_stamp}
use Rattle.run_model.specs.Openings.{OpeningLists, Setup, fresh_lists, opening_in}
use Rattle.run_model.specs.Runs.{IsRun, World}
use Rattle.run_laws.specs.Serving.{IsServed}
use Rattle.stable_store.specs.Plain.{plain_view}
use Rattle.stable_store.specs.declared.plain.PlainStable.{PlainStable}
use Rattle.guardian.specs.Guardians.{InParts, IsWhole}
use Rattle.world_steps.specs.Standings.{standing}
use Rattle.script_model.specs.declared.checked.Checked.{Checked}
use Rattle.activities.specs.declared.client.ClientEnd.{ClientEnd}
use Rattle.activities.specs.Continuing.{EndsAll}
use Rattle.activities.specs.Ends.{IsEnd}
use Rattle.locked_run.specs.Closing.{beginnings}
use Rattle.locked_run.specs.declared.closing.Ended.{Ended}
use Rattle.locked_run.specs.declared.closing.Ends.{Ends}
use Rattle.tracer.specs.Leaving.{histories_of}
use Rattle.client_threads.specs.Clients.{AllDid}
use Rattle.argus_engine.specs.declared.engine.Fault.{Fault}
use Rattle.argus_engine.specs.declared.engine.Fault.TheVariants.{Memory, Open, Receipts, Stamps, Time}
use Rattle.script_engine.specs.Running.{Bases}
use Rattle.script_runs.specs.SerialRuns.{all_bases}

-- nothing has happened in this opening
abbrev pub begun_in : OpeningLists → World
begun_in lists = record { lists = lists; past = [] }

-- All threads made one run, which is served. Each client came to its end by steps of its own, and all steps are of the
-- clients. Each action that was begun has ended. The bases are those of that run.
pub record ComesOf (script : Checked) (lists : OpeningLists) (ends : List ClientEnd) (bases : Bases)
    (past : List Event) : Type 0 where
  pub served : IsServed (opening_in lists) past
  pub receipts : List (List Event)
  pub did : AllDid script.clients ends receipts
  pub all : IsPermutation receipts (beginnings past)
  pub ended : EndsAll (begun_in lists) (record { lists = lists; past = past })
  pub left : bases ≡ all_bases (record { lists = lists; past = past })

-- what the locks have kept, the oldest event first
abbrev pub kept_histories : {R G : Type 0} → Ends R G → Histories
kept_histories ends = record {
  registry = reverse ends.registry.history;
  guardians = map (λ x. reverse x.history) ends.guardians.items;
}

-- the run that is gathered from that
abbrev pub kept_run : {R G : Type 0} → Ends R G → List Event
kept_run ends = map (λ c. c.1) (by_stamp (all_copies (kept_histories ends)))

-- the locks have kept the histories that this run leaves
abbrev pub HaveKept : {R G : Type 0} → OpeningLists → Ends R G → Type 0
HaveKept lists ends = kept_histories ends ≡ histories_of (opening_in lists) (kept_run ends)

-- a guardian stands where the run leads guardian g
pub record StandsAt (w : World) (g : ℕ) (guardian : InParts PlainStable) : Type 0 where
  pub is_run : IsRun (opening_in w.lists) w.past
  pub number : 1 ≤ g
  pub stands : IsWhole plain_view guardian (standing (opening_in w.lists) w.past g)

-- so does each guardian of the setup
pub record AreAt (w : World) (setup : Setup)
    (guardians : List (Ended (InParts PlainStable))) : Type 0 where
  pub setup_is : w.lists.setup ≡ setup
  pub count : length guardians ≡ length setup
  pub each : (i : ℕ) (x : Ended (InParts PlainStable)) → slice_get guardians i ≡ Some x
      → StandsAt w (i + 1) x.value

abbrev pub ComesInThreads : Checked → Setup → List ClientEnd → Bases → List Event → Type 0
ComesInThreads script setup ends bases past = ComesOf script (fresh_lists setup) ends bases past

-- out of memory, a guardian that has drawn all its stamps, receipts that are not those of all events, an action that
-- has not ended, or a time that is over
abbrev pub IsOfThreads : Fault → Type 0
IsOfThreads fault =
    (fault ≡ Memory) ⊎ ((fault ≡ Stamps) ⊎ ((fault ≡ Receipts) ⊎ ((fault ≡ Open) ⊎ (fault ≡ Time))))

-- Each client says committed exactly if its top action has committed in that run.
abbrev pub EndsAreTold : Type 0
EndsAreTold = (script : Checked) (lists : OpeningLists) (ends : List ClientEnd) (bases : Bases)
    (past : List Event)
    → ComesOf script lists ends bases past → AllByRecursion (IsEnd past) ends
