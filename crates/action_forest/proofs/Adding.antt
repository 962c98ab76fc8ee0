-- Room for actions that are put in one by one.
use Rattle.std.proofs.Common.{List, [], None, Option, Some, ap, length, map, refl, subst, suc, sym, zero, set, ℕ, ◌++◌, ◌+◌, ◌<◌, ◌^◌, ◌∙◌, ◌∷◌, ◌≡◌, ◌≤◌, vec_capacity, vec_len}
use Rattle.std.specs.Prelude.{MatchOption, slice_get}
use Rattle.std.proofs.lemmas.Option.{same_Some, slice_get_past, slice_get_within}
use Rattle.action_forest.proofs.Grown.{get_before}
use Rattle.action_forest.specs.Rooms.{HasRoomAt, HasRoomBelow}
use Rattle.action_forest.specs.Trees.{action_in}
use Rattle.action_forest.specs.declared.forest.Forest.{Forest}
use Rattle.action_forest.specs.declared.forest.Node.{Node}

-- the room at a place, as it is at its node
abbrev pub RoomIn : ℕ → ℕ → Option Node → Type 0
RoomIn n k o = MatchOption o ⊥ (λ node. (vec_len node.children + n ≤ vec_capacity node.children) × (node.unended + k < 2 ^ 64))

-- one node more at the end takes nothing of it
pub room_pushed : (nodes : List Node) (y : Node) (n k : ℕ) (maker : Option ℕ) → HasRoomAt nodes n k maker → HasRoomAt (nodes ++ y ∷ []) n k maker
room_pushed nodes y n k None h = tt
room_pushed nodes y n k (Some at) h = of (slice_get nodes at) refl h
  where
    of : (o : Option Node) → slice_get nodes at ≡ o → RoomIn n k o → RoomIn n k (slice_get (nodes ++ y ∷ []) at)
    of None e r = absurd r
    of (Some node) e r = subst (RoomIn n k) (sym (get_before nodes (y ∷ []) at (slice_get_within nodes at node e) ∙ e)) r

-- what is read where a node was written
pub get_written : (nodes : List Node) (at : ℕ) (old new : Node) → slice_get nodes at ≡ Some old → slice_get (set nodes at new) at ≡ Some new
get_written [] at old new e = absurd (cc)
get_written (x ∷ nodes) zero old new e = refl
get_written (x ∷ nodes) (suc at) old new e = get_written nodes at old new e

-- a node that is written, where each room that there was leaves this room
pub room_written : (nodes : List Node) (at : ℕ) (old new : Node) (n k m l : ℕ) → slice_get nodes at ≡ Some old
    → (RoomIn n k (Some old) → RoomIn m l (Some new)) → HasRoomAt nodes n k (Some at) → HasRoomAt (set nodes at new) m l (Some at)
room_written nodes at old new n k m l e leaves h =
    subst (RoomIn m l) (sym (get_written nodes at old new e)) (leaves (subst (RoomIn n k) e h))

-- the same room, said of children and of the count at once
pub room_at : (forest : Forest) (n : ℕ) (maker : Option ℕ) → HasRoomBelow forest n maker → HasRoomAt forest.nodes.items n n maker
room_at forest n None h = tt
room_at forest n (Some at) h = h

pub room_below : (forest : Forest) (n : ℕ) (maker : Option ℕ) → HasRoomAt forest.nodes.items n n maker → HasRoomBelow forest n maker
room_below forest n None h = tt
room_below forest n (Some at) h = h

-- past the end there is no room
pub no_room : (nodes : List Node) (at n k : ℕ) → length nodes ≤ at → HasRoomAt nodes n k (Some at) → ⊥
no_room nodes at n k past h = subst (RoomIn n k) (slice_get_past nodes at past) h

-- a node that is written where the same is kept of it
pub same_written : (nodes : List Node) (at : ℕ) (old new : Node) → slice_get nodes at ≡ Some old → action_in new ≡ action_in old
    → map action_in (set nodes at new) ≡ map action_in nodes
same_written [] at old new got e = refl
same_written (x ∷ nodes) zero old new got e =
    ap (λ a. a ∷ map action_in nodes) (e ∙ ap action_in (sym (same_Some x old got)))
same_written (x ∷ nodes) (suc at) old new got e = ap (λ actions. action_in x ∷ actions) (same_written nodes at old new got e)
