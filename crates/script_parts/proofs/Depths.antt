-- Parts of a document are less deep than the document.
use Rattle.std.proofs.Common.{◌≡◌, ℕ, ◌<◌, ◌≤◌, List, Some, Ok, arith}
use Rattle.serde_json.specs.Data.{Data, null, boolean, number, string, array, object, no_items, item, Members, no_members, member, depth, members_depth}
use Rattle.script_parts.proofs.Pairs.{some_pair, ok_pair}
use Rattle.script_model.specs.Shapes.{only_member, only_one, the_pair}

only_one-depth : (ms : Members) (n : List ℕ) (e : Data) → only_one ms ≡ Some (n, e) → depth e ≤ members_depth ms
only_one-depth no_members n e is = cc
only_one-depth (member m d no_members) n e is = let same = (some_pair m n d e is).1 in rw (← same) (omega arith)
only_one-depth (member m d (member l f ms)) n e is = cc

pub depth-only : (d : Data) (n : List ℕ) (e : Data) → only_member d ≡ Some (n, e) → depth e < depth d
depth-only null n e is = cc
depth-only (boolean b) n e is = cc
depth-only (number x) n e is = cc
depth-only (string s) n e is = cc
depth-only (array ds) n e is = cc
depth-only (object ms) n e is = omega (arith, only_one-depth ms n e is)

pub depth-pair : (d : Data) (place : List ℕ) (a b : Data) → the_pair d place ≡ Ok (a, b) → (depth a < depth d) × (depth b < depth d)
depth-pair null place a b is = cc
depth-pair (boolean x) place a b is = cc
depth-pair (number n) place a b is = cc
depth-pair (string s) place a b is = cc
depth-pair (array no_items) place a b is = cc
depth-pair (array (item d no_items)) place a b is = cc
depth-pair (array (item d (item e no_items))) place a b is =
    let same = ok_pair d a e b is in
    rw (← same.0, ← same.1) (omega arith, omega arith)
depth-pair (array (item d (item e (item f ds)))) place a b is = cc
depth-pair (object ms) place a b is = cc
