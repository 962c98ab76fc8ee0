-- What is owned behind an address, and its parts, own what a box at the same types owns.
use mir.Syntax.{impl, tnil, dnil}
use mir.Val.{Val, vstruct, vnil, vcons, has_ty, WT}
use lib.Dec.{T, lit<}
use denote.RawPtr.{null_ptr, ptr_val}
use Rattle.core.proofs.alloc.Calls.{α, Fits}
use Rattle.std_alloc.proofs.ResultValues.{and_tt}
use mathlib.Core.List.{[]}
use mathlib.Core.Path.{◌≡◌, refl, sym}
use mathlib.Core.Bool.{true≢false}
use Rattle.std.specs.Prelude.{Option, Some, None, IsSome}
use denote.Signature.{Slot, plain}
use Rattle.std_alloc.proofs.BoxSteps.Form.{Bx, box_ty}
use Rattle.std_heap.specs.contracts.Global as Heap
use Rattle.std_heap.specs.contracts.GlobalAllocator.TheImpl.{ghosts, dict}
use Rattle.std_heap.proofs.Global.TheLaws as heap
use Rattle.argus_c.specs.contracts.session.Session as Session
use Rattle.argus_c.proofs.session.Session.TheLaws as session
use Rattle.argus_c.specs.contracts.handle.parts.Parts as Parts
use Rattle.argus_c.specs.contracts.handle.seat.Seat as Seat

abbrev pub E : Bx
E = record { row = Session.the_row; laws = session.the_row_laws; al = record { row = Heap.the_row; laws = heap.the_row_laws; g = ghosts; d = dict; drops = impl [] tnil dnil } }

abbrev pub FromParts : Slot 0
FromParts = plain (λ _. Parts.the_row Session.the_row Heap.the_row ghosts)

abbrev pub FromSeat : Slot 0
FromSeat = plain (λ _. Seat.the_row)

-- what is there is something
pub the_some : {A : Type 0} (o : Option A) → IsSome o → (x : A) × (o ≡ Some x)
the_some None is = absurd (true≢false (sym is))
the_some (Some x) is = (x, refl)

abbrev pub FromGlobal : Slot 0
FromGlobal = plain (λ _. Heap.the_row)

-- the machine value of a seat at null
abbrev pub at_null : Val → Val
at_null hv = vstruct (vcons (ptr_val null_ptr) (vcons hv vnil))

pub at_null_typed : (hv : Val) → Fits E.al hv → T (has_ty (box_ty E) (at_null hv)) × WT (at_null hv)
at_null_typed hv fa = (and_tt (has_ty (α E.al) hv) fa.0, (record { fits = lit< tt }, (fa.1, tt)))
