-- The laws of overlays, and of operations that add.
use Rattle.std.specs.Prelude.{◌≡◌, ℤ, Bool, true, false, IsTrue}
use Rattle.values.specs.declared.value.Value.TheVariants.{Int}
use Rattle.atomic_types.specs.declared.operation.Operation.TheVariants.{Set, Change, Put, Add}
use Rattle.atomic_types.specs.declared.op.Reply.{Reply}
use Rattle.atomic_types.specs.declared.op.Reply.TheVariants.{Done}
use Rattle.atomic_types.specs.Operations.{Op, is_write}
use Rattle.atomic_types.specs.Counters.{sum_of}

-- under an overlay the object has the operations that it had
abbrev pub OverlaysKnow : {S O : Type 0} → (S → Op → Bool) → (S → O → S) → (S → O → Type 0) → Type 0
OverlaysKnow {S} {O} knows laid fits = (c : S) (o : O) (op : Op) → fits c o
    → knows (laid c o) op ≡ knows c op

-- what may be laid on an object may be laid on it once something was added to it
abbrev pub FitsStay : {S O : Type 0} → (S → Op → S) → (S → O → Type 0) → Type 0
FitsStay {S} {O} after fits = (c : S) (o : O) (z : ℤ) → fits c o → fits (after c (Add (Int z))) o

-- two numbers added one after another are their sum added
abbrev pub AddsSum : {S : Type 0} → (S → Op → S) → Type 0
AddsSum {S} after = (s : S) (y z : ℤ)
    → after (after s (Add (Int y))) (Add (Int z)) ≡ after s (Add (Int (sum_of y z)))

-- a write that belongs to the object leaves nothing of what was added before, and its reply does not show it
abbrev pub WritesCover : {S : Type 0} → (S → Op → Bool) → (S → Op → Reply) → (S → Op → S) → Type 0
WritesCover {S} knows reply after = (s : S) (z : ℤ) (op : Op) → IsTrue (knows s op)
    → IsTrue (is_write op) → (after (after s (Add (Int z))) op ≡ after s op)
    × (reply (after s (Add (Int z))) op ≡ reply s op)

-- the operations that neither give a value nor signal
abbrev pub is_always_done : Op → Bool
is_always_done (Set name v) = true
is_always_done (Change tag v) = true
is_always_done (Put v) = true
is_always_done (Add v) = true
is_always_done _ = false

-- their reply is the same whatever the object holds
abbrev pub AlwaysDone : {S : Type 0} → (S → Op → Reply) → Type 0
AlwaysDone {S} reply = (s : S) (op : Op) → IsTrue (is_always_done op) → reply s op ≡ Done
