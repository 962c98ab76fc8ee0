-- How a stack is kept: a content, overlays above it, and owners with the place at which the overlays of each end.
use Rattle.std.specs.Prelude.{◌≡◌, ◌<◌, ◌≤◌, ◌||◌, suc, zero, ℕ, ℤ, eqb, Bool, true, false, take, List, [], ◌∷◌, length, map}
use Rattle.std.specs.List.{list_any}
use Rattle.action_names.specs.Names.{Name}
use Rattle.values.specs.declared.value.Value.TheVariants.{Int}
use Rattle.atomic_types.specs.Operations.{Op}
use Rattle.atomic_types.specs.declared.operation.Operation.TheVariants.{Add}
use Rattle.overlays.specs.Overlays.{laid_all, AllFit, Covers}
use Rattle.object_model.specs.Stacks.{Stack, RiseByAncestry}

-- each owner with the end of its overlays
abbrev pub rows : List Name → List ℕ → List (Name × ℕ)
rows [] es = []
rows (n ∷ ns) [] = []
rows (n ∷ ns) (e ∷ es) = (n, e) ∷ rows ns es

-- the versions that owners see, by what stands under the end of each
abbrev pub seen : {T : Type 0} → (ℕ → T) → List (Name × ℕ) → List (Name × T)
seen f vs = map (λ v. (v.0, f v.1)) vs

-- from the end of the base's overlays on each owner has overlays of its own, and the last of them is the last of all
abbrev pub EndsRise : ℕ → List ℕ → ℕ → Type 0
EndsRise s [] n = s ≡ n
EndsRise s (e ∷ es) n = (s < e) × EndsRise e es n

-- the last end, or that of the base's overlays
abbrev pub last_end : ℕ → List ℕ → ℕ
last_end s [] = s
last_end s (e ∷ es) = last_end e es

-- somebody's overlays end at this place
abbrev pub is_end : ℕ → List ℕ → ℕ → Bool
is_end s es k = eqb s k || list_any (λ e. eqb e k) es

-- nobody's overlays end at this place
abbrev pub IsNoEnd : ℕ → List ℕ → Type 0
IsNoEnd k [] = Unit {0}
IsNoEnd k (e ∷ es) = (e ≡ k → ⊥) × IsNoEnd k es

-- where an end is once two overlays became one at place k
abbrev pub lowered : ℕ → ℕ → ℕ
lowered k zero = zero
lowered zero (suc e) = e
lowered (suc k) (suc e) = suc (lowered k e)

module _ {T O : Type 0} (laid : T → O → T) where
  -- the content under so many overlays, the lowest
  abbrev pub under : T → List O → ℕ → T
  under c os e = laid_all laid c (take e os)

  -- the versions of the owners
  abbrev pub stacked : T → List Name → List ℕ → List O → List (Name × T)
  stacked c ns es os = seen (under c os) (rows ns es)

  abbrev pub stack_of : T → ℕ → List Name → List ℕ → List O → Stack T
  stack_of c s ns es os = record { base = under c os s; versions = stacked c ns es os }

  -- under each of them one does not see what was added below it
  abbrev pub AllCover : (T → Op → T) → List O → Type 0
  AllCover after [] = Unit {0}
  AllCover after (o ∷ os) = Covers after laid o × AllCover after os

  -- overlays that fit and cover
  pub record AreSound (after : T → Op → T) (fits : T → O → Type 0) (c : T)
      (os : List O) : Type 0 where
    pub fit : AllFit laid fits c os
    pub cover : AllCover after os

  -- as many ends as owners, which rise by ancestry; each owner has overlays, and all overlays are somebody's or the
  -- base's
  pub record AreLayers (after : T → Op → T) (fits : T → O → Type 0) (c : T) (s : ℕ) (ns : List Name)
      (es : List ℕ) (os : List O) : Type 0 where
    pub paired : length ns ≡ length es
    pub ends : EndsRise s es (length os)
    pub rising : RiseByAncestry ns
    pub sound : AreSound after fits c os

  -- a number was added to what so many overlays give, and nothing else changed
  pub record IsAdded (after : T → Op → T) (fits : T → O → Type 0) (c d : T) (os ps : List O) (e : ℕ)
      (z : ℤ) : Type 0 where
    pub many : length ps ≡ length os
    pub sound : AreSound after fits d ps
    pub there : under d ps e ≡ after (under c os e) (Add (Int z))
    pub others : (k : ℕ) → (k ≡ e → ⊥) → k ≤ length os → under d ps k ≡ under c os k

  -- an operation was noted in the overlay on top
  pub record IsNoted (after : T → Op → T) (fits : T → O → Type 0) (c : T) (os ps : List O)
      (op : Op) : Type 0 where
    pub many : length ps ≡ length os
    pub sound : AreSound after fits c ps
    pub top : laid_all laid c ps ≡ after (laid_all laid c os) op
    pub others : (k : ℕ) → k < length os → under c ps k ≡ under c os k

  -- an operation was noted in one more overlay, above all
  pub record IsNotedAbove (after : T → Op → T) (fits : T → O → Type 0) (c : T) (os ps : List O)
      (op : Op) : Type 0 where
    pub many : length ps ≡ suc (length os)
    pub sound : AreSound after fits c ps
    pub top : laid_all laid c ps ≡ after (laid_all laid c os) op
    pub others : (k : ℕ) → k ≤ length os → under c ps k ≡ under c os k

  -- the overlay at place k became one with what stands right below it: the next one, or the content
  pub record IsMerged (after : T → Op → T) (fits : T → O → Type 0) (c d : T) (os ps : List O)
      (k : ℕ) : Type 0 where
    pub one_less : length os ≡ suc (length ps)
    pub sound : AreSound after fits d ps
    pub same : (e : ℕ) → (e ≡ k → ⊥) → e ≤ length os → under d ps (lowered k e) ≡ under c os e

-- the stack once a crash came: the versions are lost, but the lowest owner's where it is kept
abbrev pub kept_lowest : {T : Type 0} → Stack T → Bool → Stack T
kept_lowest s true = record { base = s.base; versions = take 1 s.versions }
kept_lowest s false = record { base = s.base; versions = [] }
