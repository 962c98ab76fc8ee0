-- Whose store each kind of step calls.
use Rattle.std.proofs.Common.{◌≡◌, ◌<◌, ◌+◌, ◌==◌, ◌∙◌, ℕ, Bool, true, false, Option, Some, None, MatchOption, length, slice_get, refl, subst, sym, arith, eqb-true}
use Rattle.std.specs.Bool.{then_some}
use Rattle.std.specs.Prelude.{◌≢◌}
use Rattle.std.proofs.lemmas.Bool.{eq-eqb, false≢true}
use Rattle.std.proofs.lemmas.List.{length-map}
use Rattle.std.proofs.lemmas.Option.{slice_get_within}
use Rattle.action_names.specs.Names.{Name}
use Rattle.run_model.specs.declared.step.Step.{Step}
use Rattle.run_model.specs.declared.step.Step.TheVariants.{Abort, Arms, Call, Close, Commit, Crash, Decide, NestedTop, Op, Prepare, Recover, Tell, Top}
use Rattle.run_model.specs.Actions.{home_of}
use Rattle.run_model.specs.Openings.{opening_in}
use Rattle.run_model.specs.Runs.{IsRun}
use Rattle.guardian_laws.specs.Stored.{has_record}
use Rattle.recovery_laws.specs.Runs.{AreOfRun}
use Rattle.stable_store.specs.Plain.{plain_view}
use Rattle.stable_store.specs.Stored.{Stored}
use Rattle.stable_store.specs.declared.plain.PlainStable.{PlainStable}
use Rattle.world.specs.Stops.{contents_of}
use Rattle.world.specs.Worlds.{InWorld, seen_of}
use Rattle.world_steps.specs.Standings.{asks_of}
use Rattle.argus_c.specs.Keeping.{CallsNone, IsNowhere, content_at}
use Rattle.argus_c.proofs.Calling.{decide_asks, decide_nowhere, no_call, prepare_asks, recover_asks, tell_asks, tell_unrecorded}
use Rattle.argus_c.proofs.Uncalled.{some_of}

some_number : ℕ → Option ℕ
some_number n = Some n

same_number : (m n : ℕ) → Some m ≡ Some n → m ≡ n
same_number m n e = cc

-- one that is not this number is another
other : (h g : ℕ) → Some h ≢ Some g → h ≢ g
other h g ne e = ne (cc)

module _ (world : InWorld PlainStable) where
  -- a store is that of a guardian of the setup
  pub inside : AreOfRun (opening_in world.run.lists) world.run.past (contents_of (λ g. seen_of plain_view g) world.guardians)
      → (i : ℕ) (s : Stored) → content_at world i ≡ Some s → i < length world.run.lists.setup
  inside stores i s at =
      let p = some_of (λ g. (seen_of plain_view g).content) (slice_get world.guardians i) s at in
      let within = slice_get_within world.guardians i p.0 p.1 in
      let long = length-map world.guardians (λ g. (seen_of plain_view g).content) in
      omega (arith, within, long, stores.count)

  pub prepare_calls : (step : Step) (h : ℕ) (t : Name) → step ≡ Prepare h t → CallsNone world step (λ g. Some h ≢ Some g)
  prepare_calls step h t is =
      subst (λ (s : Step). CallsNone world s (λ g. Some h ≢ Some g)) (sym is)
      (λ i s ne at. prepare_asks (opening_in world.run.lists) world.run.past (i + 1) s h t (other h (i + 1) ne))

  pub recover_calls : (step : Step) (h : ℕ) → step ≡ Recover h → CallsNone world step (λ g. Some h ≢ Some g)
  recover_calls step h is =
      subst (λ (s : Step). CallsNone world s (λ g. Some h ≢ Some g)) (sym is)
      (λ i s ne at. recover_asks (opening_in world.run.lists) world.run.past (i + 1) s h (other h (i + 1) ne))

  told : (h : ℕ) (a : Name) (b : Bool) → AreOfRun (opening_in world.run.lists) world.run.past (contents_of (λ g. seen_of plain_view g) world.guardians)
      → (b ≡ false → (i : ℕ) (s : Stored) → i < length world.run.lists.setup → h ≡ i + 1 → content_at world i ≡ Some s → has_record s a ≡ false)
      → CallsNone world (Tell h a) (λ g. then_some b h ≢ Some g)
  told h a true stores none i s ne at = tell_asks (opening_in world.run.lists) world.run.past (i + 1) s h a (other h (i + 1) ne)
  told h a false stores none i s ne at = of (h == i + 1) refl
    where
      of : (b : Bool) → (h == i + 1) ≡ b → asks_of (opening_in world.run.lists) (Tell h a) world.run.past (i + 1) s ≡ false
      of true e = tell_unrecorded (opening_in world.run.lists) world.run.past (i + 1) s h a (none refl i s (inside stores i s at) (eqb-true h (i + 1) e) at)
      of false e = tell_asks (opening_in world.run.lists) world.run.past (i + 1) s h a (λ same. false≢true (sym e ∙ eq-eqb h (i + 1) same))

  pub tell_calls : (step : Step) (h : ℕ) (a : Name) (b : Bool) → AreOfRun (opening_in world.run.lists) world.run.past (contents_of (λ g. seen_of plain_view g) world.guardians)
      → step ≡ Tell h a → (b ≡ false → (i : ℕ) (s : Stored) → i < length world.run.lists.setup → h ≡ i + 1 → content_at world i ≡ Some s → has_record s a ≡ false)
      → CallsNone world step (λ g. then_some b h ≢ Some g)
  tell_calls step h a b stores is none = subst (λ (s : Step). CallsNone world s (λ g. then_some b h ≢ Some g)) (sym is) (told h a b stores none)

  decided : (t : Name) (r : Option ℕ) → IsRun (opening_in world.run.lists) world.run.past
      → AreOfRun (opening_in world.run.lists) world.run.past (contents_of (λ g. seen_of plain_view g) world.guardians)
      → MatchOption r (IsNowhere world t) (λ h. home_of t world.run.past ≡ h) → CallsNone world (Decide t) (λ g. r ≢ Some g)
  decided t (Some h) run stores home i s ne at =
      decide_asks (opening_in world.run.lists) world.run.past (i + 1) s t (λ e. other h (i + 1) ne (sym home ∙ e))
  decided t None run stores home i s ne at =
      decide_nowhere (opening_in world.run.lists) world.run.past (i + 1) s t run
      (λ begun e. home begun (i + 1) (omega arith) (omega (arith, inside stores i s at)) e)

  pub decide_calls : (step : Step) (t : Name) (r : Option ℕ) → IsRun (opening_in world.run.lists) world.run.past
      → AreOfRun (opening_in world.run.lists) world.run.past (contents_of (λ g. seen_of plain_view g) world.guardians)
      → step ≡ Decide t → MatchOption r (IsNowhere world t) (λ h. home_of t world.run.past ≡ h) → CallsNone world step (λ g. r ≢ Some g)
  decide_calls step t r run stores is home = subst (λ (s : Step). CallsNone world s (λ g. r ≢ Some g)) (sym is) (decided t r run stores home)

  pub other_calls : (step : Step) → ((h : ℕ) (t : Name) → step ≡ Prepare h t → ⊥) → ((h : ℕ) → step ≡ Recover h → ⊥)
      → ((h : ℕ) (a : Name) → step ≡ Tell h a → ⊥) → ((t : Name) → step ≡ Decide t → ⊥) → CallsNone world step (λ g. None ≢ Some g)
  other_calls (Top h) p r t d i s ne at = no_call (opening_in world.run.lists) world.run.past (i + 1) s (Top h) refl
  other_calls (NestedTop a) p r t d i s ne at = no_call (opening_in world.run.lists) world.run.past (i + 1) s (NestedTop a) refl
  other_calls (Call a h) p r t d i s ne at = no_call (opening_in world.run.lists) world.run.past (i + 1) s (Call a h) refl
  other_calls (Arms a k) p r t d i s ne at = no_call (opening_in world.run.lists) world.run.past (i + 1) s (Arms a k) refl
  other_calls (Op a x w) p r t d i s ne at = no_call (opening_in world.run.lists) world.run.past (i + 1) s (Op a x w) refl
  other_calls (Commit a) p r t d i s ne at = no_call (opening_in world.run.lists) world.run.past (i + 1) s (Commit a) refl
  other_calls (Close a) p r t d i s ne at = no_call (opening_in world.run.lists) world.run.past (i + 1) s (Close a) refl
  other_calls (Prepare h a) p r t d i s ne at = absurd (p h a refl)
  other_calls (Decide a) p r t d i s ne at = absurd (d a refl)
  other_calls (Abort a) p r t d i s ne at = no_call (opening_in world.run.lists) world.run.past (i + 1) s (Abort a) refl
  other_calls (Tell h a) p r t d i s ne at = absurd (t h a refl)
  other_calls (Crash h) p r t d i s ne at = no_call (opening_in world.run.lists) world.run.past (i + 1) s (Crash h) refl
  other_calls (Recover h) p r t d i s ne at = absurd (r h refl)
