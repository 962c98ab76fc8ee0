-- What an action changed of a counter: the number that it put in the place of another.
use Rattle.std.proofs.Common.{◌≡◌, refl, sym, ap, subst, ◌∙◌, pos}
use Rattle.std.proofs.Math.IntN.{+ℤ_assoc}
use Rattle.std.proofs.lemmas.Bool.{false≢true}
use Rattle.std.proofs.lemmas.Int.{int_wrap-add_left, int_wrap-add_right}
use Rattle.std.specs.Prelude.{IsTrue, ℤ, ◌+ℤ◌, true, Option, Some, None}
use Rattle.std.specs.Int.{w64, int_wrap}
use Rattle.values.specs.declared.value.Value.{Value}
use Rattle.values.specs.declared.value.Value.TheVariants.{Int, Text}
use Rattle.atomic_types.specs.declared.operation.Operation.TheVariants.{Total, Put, Add}
use Rattle.atomic_types.specs.Counters.{counter_knows, counter_reply, counter_after, added_to}
use Rattle.overlays.specs.Overlays.{Covers}
use Rattle.overlays.specs.Laws.{OverlaysKnow, FitsStay, AddsSum, WritesCover, AlwaysDone}
use Rattle.atomic_types.specs.Operations.{Op, is_add}

-- the number that stands in the place of the counter's
abbrev pub laid_number : ℤ → Option ℤ → ℤ
laid_number n None = n
laid_number n (Some m) = m

abbrev pub NumberFits : ℤ → Option ℤ → Type 0
NumberFits n o = Unit {0}

pub counter_overlays_know : OverlaysKnow counter_knows laid_number NumberFits
counter_overlays_know n o Total h = refl
counter_overlays_know n o (Put v) h = refl
counter_overlays_know n o (Add v) h = refl
counter_overlays_know n o _ h = refl

pub counter_fits_stay : FitsStay counter_after NumberFits
counter_fits_stay n o z h = h

pub counter_adds_sum : AddsSum counter_after
counter_adds_sum n y z = int_wrap-add_left w64 (n +ℤ y) z
    ∙ ap (λ m. int_wrap w64 m) (+ℤ_assoc n y z) ∙ sym (int_wrap-add_right w64 n (y +ℤ z))

pub counter_writes_cover : WritesCover counter_knows counter_reply counter_after
counter_writes_cover n z (Put (Int m)) known writes = (refl, refl)
counter_writes_cover n z (Put (Text bytes)) known writes = absurd (false≢true known)
counter_writes_cover n z (Add v) known writes = absurd (false≢true writes)
counter_writes_cover n z Total known writes = absurd (false≢true writes)
counter_writes_cover n z _ known writes = absurd (false≢true known)

pub counter_always_done : AlwaysDone counter_reply
counter_always_done n Total done = absurd (false≢true done)
counter_always_done n _ done = refl

-- an overlay that changes nothing does not cover what was added below
pub covers_none : Covers counter_after laid_number None → ⊥
unfolding int_wrap
covers_none h = cc (h (pos 0) (pos 1))

-- which operations a counter has does not go by its number
pub counter_knows_any : (n m : ℤ) (op : Op) → IsTrue (counter_knows n op)
    → IsTrue (counter_knows m op)
counter_knows_any n m Total h = h
counter_knows_any n m (Put v) h = h
counter_knows_any n m (Add v) h = h
counter_knows_any n m _ h = h

-- the number with a value added to it
abbrev pub with_added : Option ℤ → Value → Option ℤ
with_added None v = None
with_added (Some n) v = Some (added_to n v)

-- where there is a number, this is what adding to the counter under it gives, and it covers what was added below
pub laid_added : (o : Option ℤ) (n : ℤ) (v : Value) → Covers counter_after laid_number o
    → laid_number n (with_added o v) ≡ added_to (laid_number n o) v
laid_added None n v h = absurd (covers_none h)
laid_added (Some m) n v h = refl

pub added_covers : (o : Option ℤ) (v : Value) → Covers counter_after laid_number o
    → Covers counter_after laid_number (with_added o v)
added_covers None v h = absurd (covers_none h)
added_covers (Some m) v h = λ c y. refl

-- so an overlay in which an add was noted gives what that operation leaves
pub noted_add : (op : Op) (o p : Option ℤ) (n : ℤ) (v : Value) → op ≡ Add v → p ≡ with_added o v
    → (IsTrue (is_add op) → Covers counter_after laid_number o)
    → (laid_number n p ≡ counter_after (laid_number n o) op) × Covers counter_after laid_number p
noted_add op o p n v e d covers =
    let adds : is_add op ≡ true = rw e refl in (
      ap (λ q. laid_number n q) d ∙ laid_added o n v (covers adds)
          ∙ ap (λ w. counter_after (laid_number n o) w) (sym e),
      subst (Covers counter_after laid_number) (sym d) (added_covers o v (covers adds)),
    )
