-- Overlays: what actions changed of a content, laid on it one above another.
use Rattle.std.specs.Prelude.{◌≡◌, ℤ, List, [], ◌∷◌}
use Rattle.values.specs.declared.value.Value.TheVariants.{Int}
use Rattle.atomic_types.specs.Operations.{Op}
use Rattle.atomic_types.specs.declared.operation.Operation.TheVariants.{Add}
use Rattle.atomic_types.specs.declared.op.Reply.{Reply}
use Rattle.overlays.specs.declared.seen.Seen.{Seen}
use Rattle.overlays.specs.declared.seen.Seen.TheVariants as seen

-- the content under all these overlays, the lowest first
abbrev pub laid_all : {S O : Type 0} → (S → O → S) → S → List O → S
laid_all {S} {O} laid c [] = c
laid_all {S} {O} laid c (o ∷ os) = laid_all laid (laid c o) os

-- each may be laid on what the content and those below it give
abbrev pub AllFit : {S O : Type 0} → (S → O → S) → (S → O → Type 0) → S → List O → Type 0
AllFit {S} {O} laid fits c [] = Unit {0}
AllFit {S} {O} laid fits c (o ∷ os) = fits c o × AllFit laid fits (laid c o) os

-- under the overlay one does not see what was added below it
abbrev pub Covers : {S O : Type 0} → (S → Op → S) → (S → O → S) → O → Type 0
Covers {S} {O} after laid o = (c : S) (z : ℤ) → laid (after c (Add (Int z))) o ≡ laid c o

-- some object takes the lower overlay, and under it the upper one
abbrev pub MayJoin : {S O : Type 0} → (S → O → S) → (S → O → Type 0) → O → O → Type 0
MayJoin {S} {O} laid fits lower upper = (c : S) × fits c lower × fits (laid c lower) upper

-- what was noted in an overlay of the object gives the operation's reply and what it leaves, and still fits
pub record IsNotedIn {S O : Type 0} (reply : S → Op → Reply) (after : S → Op → S) (laid : S → O → S)
    (fits : S → O → Type 0) (c : S) (o p : O) (op : Op) (r : Reply) : Type 0 where
  pub replies : r ≡ reply (laid c o) op
  pub leaves : laid c p ≡ after (laid c o) op
  pub fits_still : fits c p

-- the reply, by what an overlay shows of it and the reply below
abbrev pub shown : Seen → Reply → Reply
shown (seen.Reply r) below = r
shown seen.Below below = below
