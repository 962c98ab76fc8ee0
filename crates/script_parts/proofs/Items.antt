-- Arrays of so many elements.
use Rattle.std.proofs.Common.{◌≡◌, ℕ, suc, List, [], ◌∷◌, length, Some, None, Ok, Err, true, false, ◌&&◌, nat_le, nat_eq, is_some, refl, sym, ap, arith}
use Rattle.serde_json.specs.Data.{Data, null, boolean, number, string, array, object, Items, Members}
use Rattle.serde_json.specs.Find.{as_array}
use Rattle.serde_json.specs.View.{items_view}
use Rattle.serde_json.specs.declared.value.Value.{Value}
use Rattle.serde_json.proofs.Views.{items_len-items_view}
use Rattle.script_model.specs.declared.fault.ScriptFault.{ScriptFault}
use Rattle.script_model.specs.declared.fault.ScriptFault.TheVariants.{Bad}
use Rattle.script_model.specs.declared.fault.FaultKind.TheVariants.{Shape, Limit}
use Rattle.script_model.specs.Shapes.{the_array, the_object, the_pair, the_triple, the_list, two_items, three_items}

pub array_is : (d : Data) (place : List ℕ) (ds : Items) → the_array d place ≡ Ok ds → d ≡ array ds
array_is null place ds e = cc
array_is (boolean b) place ds e = cc
array_is (number n) place ds e = cc
array_is (string s) place ds e = cc
array_is (array es) place ds e = cc
array_is (object ms) place ds e = cc

pub object_is : (d : Data) (place : List ℕ) (ms : Members) → the_object d place ≡ Ok ms → d ≡ object ms
object_is null place ms e = cc
object_is (boolean b) place ms e = cc
object_is (number n) place ms e = cc
object_is (string s) place ms e = cc
object_is (array es) place ms e = cc
object_is (object found) place ms e = cc

pub array_some : (d : Data) (ds : Items) → Some ds ≡ as_array d → d ≡ array ds
array_some null ds e = cc
array_some (boolean b) ds e = cc
array_some (number n) ds e = cc
array_some (string s) ds e = cc
array_some (array es) ds e = cc
array_some (object ms) ds e = cc

pub two_none : (vs : List Value) → (length vs ≡ 2 → ⊥) → two_items (items_view vs) ≡ None
two_none [] h = refl
two_none (a ∷ []) h = refl
two_none (a ∷ b ∷ []) h = absurd (h refl)
two_none (a ∷ b ∷ c ∷ vs) h = refl

differs_two : (n : ℕ) → nat_eq (suc (suc (suc n))) 2 ≡ false
differs_two n = grind arith

pub is_two : (vs : List Value) → nat_eq (length vs) 2 ≡ is_some (two_items (items_view vs))
is_two [] = refl
is_two (a ∷ []) = refl
is_two (a ∷ b ∷ []) = refl
is_two (a ∷ b ∷ c ∷ vs) = differs_two (length vs)

pub three_none : (vs : List Value) → (length vs ≡ 3 → ⊥) → three_items (items_view vs) ≡ None
three_none [] h = refl
three_none (a ∷ []) h = refl
three_none (a ∷ b ∷ []) h = refl
three_none (a ∷ b ∷ c ∷ []) h = absurd (h refl)
three_none (a ∷ b ∷ c ∷ d ∷ vs) h = refl

pub pair_fault : (d : Data) (place : List ℕ) (vs : List Value) (e : ScriptFault) → the_array d place ≡ Ok (items_view vs) → (length vs ≡ 2 → ⊥) → e ≡ Bad Shape place
    → the_pair d place ≡ Err e
pair_fault d place vs e is other fault = rw (array_is d place (items_view vs) is, two_none vs other) (ap Err (sym fault))

pub triple_fault : (d : Data) (place : List ℕ) (vs : List Value) (e : ScriptFault) → the_array d place ≡ Ok (items_view vs) → (length vs ≡ 3 → ⊥) → e ≡ Bad Shape place
    → the_triple d place ≡ Err e
triple_fault d place vs e is other fault = rw (array_is d place (items_view vs) is, three_none vs other) (ap Err (sym fault))

pub list_found : (d : Data) (place : List ℕ) (vs : List Value) (least most : ℕ) → the_array d place ≡ Ok (items_view vs)
    → (nat_le least (length vs) && nat_le (length vs) most) ≡ true → the_list least most d place ≡ Ok (items_view vs)
list_found d place vs least most is within = rw (array_is d place (items_view vs) is, items_len-items_view vs, within) refl

pub list_fault : (d : Data) (place : List ℕ) (vs : List Value) (least most : ℕ) (e : ScriptFault) → the_array d place ≡ Ok (items_view vs)
    → (nat_le least (length vs) && nat_le (length vs) most) ≡ false → e ≡ Bad Limit place → the_list least most d place ≡ Err e
list_fault d place vs least most e is outside fault = rw (array_is d place (items_view vs) is, items_len-items_view vs, outside) (ap Err (sym fault))
