-- What stands before a history: an opening. It is a setup, what the stores of its guardians held, and the first
-- number of a top action.
use Rattle.std.specs.Prelude.{ℕ, Bool, false, ◌==◌, List, [], ◌∷◌, ◌-◌, Option, Some, None, find, option_map, unwrap_or, slice_get}
use Rattle.std.specs.List.{list_any}
use Rattle.action_names.specs.Names.{Name, same_name}
use Rattle.values.specs.declared.content.Content.{Content}
use Rattle.values.specs.declared.content.Content.TheVariants.{Record}
use Rattle.atomic_types.specs.declared.part.Part.{Part}
use Rattle.atomic_types.specs.Parts.{laid_where}
use Rattle.run_model.specs.declared.step.ObjectId.{ObjectId}

-- the contents of each guardian's objects, numbered from 1
abbrev pub Setup : Type 0
Setup = List (List Content)

abbrev pub objects_at : Setup → ℕ → List Content
objects_at setup g = unwrap_or (slice_get setup (g - 1)) []

-- What a guardian's store held: by object number what was installed, the decided top actions, how many recoveries were
-- counted, and the number after the greatest on which the guardian voted yes.
pub record Held : Type 0 where
  pub base : ℕ → Option Part
  pub decided : Name → Bool
  pub count : ℕ
  pub next_top : ℕ

-- an empty store
abbrev pub nothing_held : Held
nothing_held = record { base = λ n. None; decided = λ t. false; count = 0; next_top = 1 }

-- what stands before a history; nothing was prepared in the stores
pub record Opening : Type 0 where
  pub setup : Setup
  pub stores : ℕ → Held
  pub first_top : ℕ

-- the opening of new guardians: their stores are empty
abbrev pub fresh : Setup → Opening
fresh setup = record { setup = setup; stores = λ g. nothing_held; first_top = 1 }

-- an object's content at the setup
abbrev pub set_up : Setup → ObjectId → Content
set_up setup x = unwrap_or (slice_get (objects_at setup x.guardian) (x.number - 1)) (Record [])

-- an object's content before the history: the setup's, under what the store held
abbrev pub first_content : Opening → ObjectId → Content
first_content opening x =
    laid_where ((opening.stores x.guardian).base x.number) (set_up opening.setup x)

-- how many numbers under this name were given before the history: under the empty name, those of top actions
abbrev pub given_before : Opening → Name → ℕ
given_before opening [] = opening.first_top - 1
given_before opening (n ∷ a) = 0

-- An opening in lists, as a program keeps it: what each store held, guardian by guardian, with the numbers of decided
-- top actions. A guardian with no entry has an empty store.
pub record StoreLists : Type 0 where
  pub base : List (ℕ × Part)
  pub decided : List ℕ
  pub count : ℕ
  pub next_top : ℕ

pub record OpeningLists : Type 0 where
  pub setup : Setup
  pub stores : List StoreLists
  pub first_top : ℕ

-- what stands under this number, if anything
abbrev pub part_at : List (ℕ × Part) → ℕ → Option Part
part_at parts n = option_map (λ p. p.1) (find (λ p. p.0 == n) parts)

abbrev pub held_of : StoreLists → Held
held_of s = record {
  base = λ n. part_at s.base n;
  decided = λ t. list_any (λ n. same_name (n ∷ []) t) s.decided;
  count = s.count;
  next_top = s.next_top;
}

abbrev pub held_in : Option StoreLists → Held
held_in None = nothing_held
held_in (Some s) = held_of s

-- the opening of new guardians, in lists
abbrev pub fresh_lists : Setup → OpeningLists
fresh_lists setup = record { setup = setup; stores = []; first_top = 1 }

-- the opening that the lists say
abbrev pub opening_in : OpeningLists → Opening
opening_in lists =
    record { setup = lists.setup; stores = λ g. held_in (slice_get lists.stores (g - 1)); first_top = lists.first_top }
