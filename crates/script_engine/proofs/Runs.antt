-- What is said of a run is written, or a beginning of it; and the bases that it leaves are saved, or the first of them.
use Rattle.std.proofs.Common.{◌≢◌, IfErr, IsErrAnd, Result, Ok, Err, List, None, Some, map, [], Option, ap, append-nil, drop, inl, inr, length, subst, sym, take, take-append-drop, ℕ, ◌∙◌, ◌≡◌, arith, refl}
use Rattle.std.proofs.lemmas.List.{take_all}
use Rattle.std.proofs.KnownBytes.{Keeps-trans}
use Rattle.std.specs.Prelude.{IsSome}
use Rattle.std.specs.BTreeMap.{BTreeMap}
use Rattle.std.specs.Io.KnownBytes.{Appends, Keeps}
use Rattle.argus_engine.specs.declared.engine.Fault.{Fault}
use Rattle.argus_engine.specs.declared.engine.Fault.TheVariants.{Memory, Output, Store}
use Rattle.stable_store.specs.Stored.{Stored}
use Rattle.values.specs.declared.content.Content.{Content}
use Rattle.script_model.specs.declared.checked.Checked.{Checked}
use Rattle.run_model.specs.Openings.{OpeningLists, Setup, fresh, fresh_lists, opening_in}
use Rattle.run_model.specs.Runs.{IsRun, World}
use Rattle.traces.specs.Traces.{trace_text}
use Rattle.tracer.specs.Leaving.{histories_of}
use Rattle.activities.specs.declared.client.ClientEnd.{ClientEnd}
use Rattle.argus_engine.specs.declared.engine.Ended.{Ended}
use Rattle.argus_engine.specs.declared.engine.Ended.TheVariants.{Done, Stopped}
use Rattle.argus_engine.specs.Serving.{TakesFront}
use Rattle.script_engine.specs.Running.{Bases, BeginBoth, BeginsRun, Comes, IsTraced, TellsRun, WriteBoth, known, run_text}
use Rattle.script_engine.specs.Storing.{AreOpenedBy, ArePartlySaved, BeginsStoredRun, IsOfStore, IsOpened, TellsStoredRun, refusal_line, saved}
use Rattle.script_engine.proofs.Opening.{none_in, some_in}

abbrev Maps : Type 0
Maps = List (BTreeMap ℕ Content)

-- the bases in maps
abbrev pub entries_of : List (BTreeMap ℕ Content) → Bases
entries_of bases = map (λ (b : BTreeMap ℕ Content). b.entries) bases

-- ---- two writers

-- the text of the trace of a system
abbrev pub told_by : World → List ℕ
told_by w = trace_text w.lists.setup (histories_of (opening_in w.lists) w.past)

pub traced_is : (setup : Setup) (w : World) → w.lists ≡ fresh_lists setup → IsRun (fresh setup) w.past → IsTraced setup w.past (told_by w)
traced_is setup w begun run = record {
  is_run = run;
  text = ap (λ (l : OpeningLists). trace_text l.setup (histories_of (opening_in l) w.past)) begun;
}

pub appends_none : (o : Option (List ℕ)) → Appends o o []
appends_none None = tt
appends_none (Some bytes) = sym (append-nil bytes)

module _ {T : Type 0} (contents : T → Option (List ℕ)) (after : Option (List ℕ)) (text made trace : List ℕ) (is : text ≡ made) where
  -- where there is a writer, the text is the trace
  pub wanted_whole : (out : Option T) → (IsSome out → made ≡ trace) → Appends (known contents out) after text
      → Appends (known contents out) after trace
  wanted_whole None same wrote = tt
  wanted_whole (Some writer) same wrote = subst (Appends (contents writer) after) (is ∙ same refl) wrote

  pub wanted_front : (out : Option T) → (IsSome out → made ≡ trace) → TakesFront (known contents out) after text
      → TakesFront (known contents out) after trace
  wanted_front None same took = (0, omega arith, tt)
  wanted_front (Some writer) same took = subst (TakesFront (contents writer) after) (is ∙ same refl) took

module _ (trace text : List ℕ) (first now second after : Option (List ℕ)) (X : List ℕ → List ℕ → Type 0)
    (begins : (part written : List ℕ) → BeginBoth trace text part written → X part written) where
  -- the writer of the trace failed
  pub trace_begun : TakesFront first now trace → WriteBoth first now second second X
  trace_begun took = (
    take took.0 trace,
    [],
    took.2,
    appends_none second,
    begins (take took.0 trace) [] (inl ((drop took.0 trace, sym (take-append-drop took.0 trace)), refl)),
  )

  pub lines_begun : Appends first now trace → TakesFront second after text → WriteBoth first now second after X
  lines_begun wrote took = (
    trace,
    take took.0 text,
    wrote,
    took.2,
    begins trace (take took.0 text) (inr (refl, (drop took.0 text, sym (take-append-drop took.0 text)))),
  )

  pub both_whole : Appends first now trace → Appends second after text → WriteBoth first now second after X
  both_whole wrote said = (trace, text, wrote, said, begins trace text (inr (refl, ([], sym (append-nil text)))))

module _ (comes : Comes) (script : Checked) where
  -- the texts of what came of a run in a setup that is the script's own
  pub run_told : (setup own : Setup) (system : World) (ends given_ends : List ClientEnd) (bases given_bases : Maps) (text made : List ℕ)
      → setup ≡ own → comes script setup ends (entries_of bases) system.past → system.lists ≡ fresh_lists setup → IsRun (fresh setup) system.past
      → text ≡ made → made ≡ run_text given_ends (entries_of given_bases) → given_ends ≡ ends → given_bases ≡ bases
      → TellsRun comes script own (told_by system) text
  run_told setup own system ends given_ends bases given_bases text made is came begun run same_text says same_ends same_bases =
      subst (λ s. TellsRun comes script s (told_by system) text) is (
        ends,
        entries_of bases,
        system.past,
        came,
        traced_is setup system begun run,
        same_text ∙ says ∙ (λ k. run_text (same_ends k) (entries_of (same_bases k))),
      )

  pub run_not_begun : (setup : Setup) (first second : Option (List ℕ)) → WriteBoth first first second second (BeginsRun comes script setup)
  run_not_begun setup first second = ([], [], appends_none first, appends_none second, inl (refl, refl))

  pub run_begins : (setup : Setup) (trace text : List ℕ) → TellsRun comes script setup trace text → (part written : List ℕ)
      → BeginBoth trace text part written → BeginsRun comes script setup part written
  run_begins setup trace text told part written begun = inr (trace, text, told, begun)

module _ (comes : Comes) (script : Checked) (found : List (Option Stored)) where
  pub stored_not_begun : (first second : Option (List ℕ)) → WriteBoth first first second second (BeginsStoredRun comes script found)
  stored_not_begun first second = ([], [], appends_none first, appends_none second, inl (refl, refl))

  pub stored_begins : (ended : Ended) (bases : Bases) (trace text : List ℕ) → TellsStoredRun comes script found ended bases trace text
      → (part written : List ℕ) → BeginBoth trace text part written → BeginsStoredRun comes script found part written
  stored_begins ended bases trace text told part written begun = inr (ended, bases, trace, text, told, begun)

  -- ---- over stores

  pub none_told : (o : Option Setup) → o ≡ None
      → IsOpened found script.guardians o
      → TellsStoredRun comes script found Stopped [] [] refusal_line
  none_told o none match = (none_in (AreOpenedBy found script.guardians) o none match, refl, refl, refl)

  pub done_told : (o : Option Setup) (setup : Setup) (system : World) (ends given_ends : List ClientEnd) (bases given_bases : Maps) (text made : List ℕ)
      → o ≡ Some setup → IsOpened found script.guardians o → comes script setup ends (entries_of bases) system.past
      → system.lists ≡ fresh_lists setup → IsRun (fresh setup) system.past → text ≡ made
      → made ≡ run_text given_ends (entries_of given_bases) → given_ends ≡ ends → given_bases ≡ bases
      → TellsStoredRun comes script found Done (entries_of bases) (told_by system) text
  done_told o setup system ends given_ends bases given_bases text made some match came begun run same_text says same_ends same_bases = (
    setup,
    ends,
    system.past,
    some_in _ (AreOpenedBy found script.guardians) o setup some match,
    came,
    traced_is setup system begun run,
    same_text ∙ says ∙ (λ k. run_text (same_ends k) (entries_of (same_bases k))),
  )

  -- the first so many bases were saved
  pub partly_saved : (o : Option Setup) (setup : Setup) (system : World) (ends : List ClientEnd) (bases given_bases : Maps) (old new : List Stored)
      → o ≡ Some setup → IsOpened found script.guardians o → comes script setup ends (entries_of bases) system.past
      → system.lists ≡ fresh_lists setup → IsRun (fresh setup) system.past → given_bases ≡ bases
      → (count : ℕ) × (new ≡ saved (take count (entries_of given_bases)) old) → ArePartlySaved comes script found old new
  partly_saved o setup system ends bases given_bases old new some match came begun run same counted = inr (
    entries_of bases,
    told_by system,
    run_text ends (entries_of bases),
    (
      setup,
      ends,
      system.past,
      some_in _ (AreOpenedBy found script.guardians) o setup some match,
      came,
      traced_is setup system begun run,
      refl,
    ),
    counted.0,
    counted.1 ∙ ap (λ bs. saved (take counted.0 (entries_of bs)) old) same,
  )

-- as many bases as stores
pub count_run : (found : List (Option Stored)) (own : List (List Content)) (o : Option Setup) (setup : Setup) (bases given_bases : Maps) (count : ℕ)
    → o ≡ Some setup → IsOpened found own o → length bases ≡ length setup → given_bases ≡ bases → count ≡ length own
    → count ≡ length given_bases
count_run found own o setup bases given_bases count some match left same counted =
    counted ∙ sym (some_in _ (AreOpenedBy found own) o setup some match).count ∙ sym left ∙ sym (ap length same)

-- all bases are saved
pub all_saved : (old : List Stored) (bases given_bases : Maps) (new : List Stored) → given_bases ≡ bases
    → new ≡ saved (entries_of given_bases) old → (count : ℕ) × (new ≡ saved (take count (entries_of bases)) old)
all_saved old bases given_bases new same is = (
  length (entries_of bases),
  is ∙ ap (λ bs. saved (entries_of bs) old) same ∙ ap (λ bs. saved bs old) (sym (take_all (length (entries_of bases)) (entries_of bases) (omega arith))),
)

-- ---- nothing written

kept_same : (o : Option (List ℕ)) → Keeps o o
kept_same None = tt
kept_same (Some bytes) = refl

-- what an error leaves as it was
pub silent : {A : Type 0} (result : Result A Fault) (o : Option (List ℕ)) → IfErr result (λ fault. fault ≢ Output → Keeps o o)
silent (Ok a) o = tt
silent (Err fault) o = λ other. kept_same o

-- the fault of a writer says nothing of what was kept
pub never_silent : {A : Type 0} (So : Type 0) (result : Result A Fault) → IfErr result (λ fault. fault ≡ Output) → IfErr result (λ fault. fault ≢ Output → So)
never_silent So (Ok a) is = tt
never_silent So (Err fault) is = λ other. absurd (other is)

-- what is kept by a fault that is passed on was kept before
pub silent_later : {A : Type 0} (before now after : Option (List ℕ)) (passed : Fault) (result : Result A Fault) → IsErrAnd result (λ fault. fault ≡ passed)
    → Keeps before now → (passed ≢ Output → Keeps now after) → IfErr result (λ fault. fault ≢ Output → Keeps before after)
silent_later before now after passed (Ok a) is kept later = tt
silent_later before now after passed (Err fault) is kept later = λ other. Keeps-trans before now after kept (later (λ output. other (is ∙ output)))

-- ---- which fault it is

-- all was done, whatever the fault
pub always_so : {A So : Type 0} (result : Result A Fault) → So → IfErr result (λ fault. fault ≡ Output → So)
always_so (Ok a) so = tt
always_so (Err fault) so = λ output. so

-- memory was wanting
pub wants_memory : {A : Type 0} (result : Result A Fault) → IsErrAnd result (λ fault. fault ≡ Memory) → IfErr result IsOfStore
wants_memory (Ok a) is = tt
wants_memory (Err fault) is = inl is

-- the fault is passed on
pub passed_on : {A : Type 0} (result : Result A Fault) (before : Fault) → IsErrAnd result (λ fault. fault ≡ before) → IsOfStore before → IfErr result IsOfStore
passed_on (Ok a) before is of_store = tt
passed_on (Err fault) before is of_store = subst IsOfStore (sym is) of_store

-- the fault is one of the clients' run
pub of_clients : {A : Type 0} (So : Type 0) (faults : Fault → Type 0) (result : Result A Fault) (before : Fault) → IsErrAnd result (λ fault. fault ≡ before)
    → faults before → IfErr result (λ fault. fault ≡ Output → (faults Output → ⊥) → So)
of_clients So faults (Ok a) before is ran = tt
of_clients So faults (Err fault) before is ran = λ output none. absurd (none (subst faults (sym is ∙ output) ran))

-- memory or a store failed, and no writer
pub never_output : {A : Type 0} (So : Type 0) (result : Result A Fault) → IfErr result IsOfStore → IfErr result (λ fault. fault ≡ Output → So)
never_output So (Ok a) of_store = tt
never_output So (Err fault) (inl memory) = λ output. absurd (no_memory (sym memory ∙ output))
  where
    no_memory : Memory ≡ Output → ⊥
    no_memory e = cc
never_output So (Err fault) (inr store) = λ output. absurd (no_store (sym store ∙ output))
  where
    no_store : Store ≡ Output → ⊥
    no_store e = cc

-- the bases that are saved are those that were left
pub whole_saved : (old : List Stored) (bases given_bases : Maps) (new : List Stored) → given_bases ≡ bases
    → new ≡ saved (entries_of given_bases) old → new ≡ saved (entries_of bases) old
whole_saved old bases given_bases new same is = is ∙ ap (λ bs. saved (entries_of bs) old) same
