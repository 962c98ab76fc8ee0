-- What is read in a memory whose parts are those of its history.
use Rattle.std.proofs.Common.{Bool, List, None, Option, Some, ap, false, length, sym, true, ℕ, ◌==◌, ◌∙◌, ◌≡◌}
use Rattle.std.specs.Prelude.{IfSome}
use Rattle.std.proofs.lemmas.Bool.{and_parts}
use Rattle.action_names.specs.Names.{Name, has_name}
use Rattle.values.specs.declared.content.Content.{Content}
use Rattle.atomic_types.specs.Operations.{Op}
use Rattle.run_model.specs.declared.answer.Answer.{Answer}
use Rattle.run_model.specs.declared.step.ObjectId.{ObjectId}
use Rattle.run_model.specs.Actions.{home_of, is_begun}
use Rattle.run_model.specs.Answers.{operated_by}
use Rattle.run_model.specs.Lists.{is_orphan_by}
use Rattle.run_model.specs.LocalReadings.{LocalEvent, aborts_here, count_here, dependency_here, events_here, is_at_home, is_orphan_here, known_crashes_here, standing_here, told_committed_here}
use Rattle.run_model.specs.Openings.{Opening, first_content, objects_at}
use Rattle.layer_contracts.specs.Guardians.{GuardianState, MayAsk, count_told}
use Rattle.tellings.specs.Hearing.{AreTold}
use Rattle.run_model.specs.Versions.{base_by}
use Rattle.orphans.specs.Knowing.{AreLists, guardian_of}
use Rattle.guardian_objects.specs.Objects.{AreObjects, IsAsked, object_of}
use Rattle.volatile_state.specs.Memories.{InMemory, IsSound, own_object}
use Rattle.volatile_state.proofs.Held.{told_counts, untold_counts}
use Rattle.volatile_state.proofs.Operated.{answered_of, may_ask}

-- who is on the roster was begun
pub begun_there : (g : GuardianState) (a : Name) → is_at_home g.number a g.past ≡ true → is_begun a (events_here g.past) ≡ true
begun_there g a there = (and_parts (is_begun a (events_here g.past)) (home_of a (events_here g.past) == g.number) there).0

module _ {m : InMemory} {g : GuardianState} (s : IsSound m g) where
  -- an orphan is known by the lists and the dependencies
  pub orphan_is : (a : Name) (opening : Opening) (depends : ℕ → Option ℕ) (result : Bool) → opening ≡ g.opening → ((h : ℕ) → depends h ≡ dependency_here a h g.past)
      → ((here : List LocalEvent) → AreLists here m.lists
      → result ≡ is_orphan_by opening (λ b. has_name (aborts_here (guardian_of m.lists) here) b) (λ h. known_crashes_here (guardian_of m.lists) h here) depends a)
      → result ≡ is_orphan_here g.opening g.number g.past a
  orphan_is a opening depends result same each says =
      says g.past s.knowledge
      ∙ (λ i. is_orphan_by (same i) (λ b. has_name (aborts_here (s.knower i) g.past) b) (λ h. known_crashes_here (s.knower i) h g.past) (λ h. each h i) a)

  -- an operation may be asked of the objects
  pub may_answer : (x : ObjectId) (wanted : Op) → MayAsk g x wanted → IsAsked m.objects x.number wanted
  may_answer x wanted may = may_ask g.opening g.number g.past x m.objects may.own s.owner wanted s.shown may.number may.there may.known

  -- and its answer is that of the history
  pub answer_is : (x : ObjectId) (a : Name) (wanted : Op) (answer : Answer) → x.guardian ≡ m.number
      → ((opening : Opening) (here : List LocalEvent) → AreObjects opening here m.objects
      → answer ≡ operated_by (first_content opening (object_of m.objects x.number)) (standing_here here (object_of m.objects x.number)) a wanted)
      → answer ≡ operated_by (first_content g.opening x) (standing_here g.past x) a wanted
  answer_is x a wanted answer own says =
      answered_of g.opening g.number g.past x m.objects (own ∙ s.own) s.owner a wanted answer (says g.opening g.past s.shown)

  -- the object of a number
  pub numbered_is : (n : ℕ) → object_of m.objects n ≡ own_object g n
  numbered_is n = let make : ℕ → ObjectId = λ h. record { guardian = h; number = n } in ap make s.owner

  -- how many objects there are
  pub count_is : length m.objects.objects ≡ length (objects_at g.opening.setup g.number)
  count_is = s.shown.count ∙ ap (λ h. length (objects_at g.opening.setup h)) s.owner

  -- ---- how many objects a telling changes

  -- of what was told committed, none
  pub counts_none : (a : Name) (committed told : Bool) → ((h : ℕ) (here : List LocalEvent) → AreTold h here m.places m.told → told ≡ told_committed_here a here) → told ≡ true
      → 0 ≡ count_told g a committed
  counts_none a committed told says was = told_counts g a committed (sym (says g.number g.past s.tellings) ∙ was)

  -- of other actions, as many as the objects say
  pub counts_some : (a : Name) (committed told : Bool) (count : ℕ) → ((h : ℕ) (here : List LocalEvent) → AreTold h here m.places m.told → told ≡ told_committed_here a here)
      → told ≡ false
      → ((opening : Opening) (here : List LocalEvent) → AreObjects opening here m.objects → told_committed_here a here ≡ false
      → count ≡ count_here opening m.objects.guardian a committed here)
      → count ≡ count_told g a committed
  counts_some a committed told count says never counts =
      let untold : told_committed_here a g.past ≡ false = sym (says g.number g.past s.tellings) ∙ never in
      counts g.opening g.past s.shown untold
      ∙ ap (λ h. count_here g.opening h a committed g.past) s.owner
      ∙ untold_counts g a committed untold

  -- ---- single objects

  -- what belongs to the base
  pub base_is : (n : ℕ) (base : Option Content)
      → IfSome base (λ b. (opening : Opening) (here : List LocalEvent) → AreObjects opening here m.objects
      → b ≡ base_by (first_content opening (object_of m.objects n)) (standing_here here (object_of m.objects n)))
      → IfSome base (λ b. b ≡ base_by (first_content g.opening (own_object g n)) (standing_here g.past (own_object g n)))
  base_is n None says = says
  base_is n (Some b) says =
      says g.opening g.past s.shown ∙ ap (λ x. base_by (first_content g.opening x) (standing_here g.past x)) (numbered_is n)
