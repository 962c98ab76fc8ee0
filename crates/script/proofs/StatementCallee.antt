-- The document of the handler that is called.
use Rattle.std.proofs.Common.{◌≡◌, ℕ, ℤ, List, [], ◌∷◌, length, get_or, Option, Some, None, option_map, option_and_then, sym, ap, ap₂, ◌∙◌, arith}
use Rattle.serde_json.specs.declared.value.Value.{Value}
use Rattle.serde_json.specs.Data.{Data, Items}
use Rattle.serde_json.specs.Events.{items_len}
use Rattle.serde_json.specs.Find.{as_array, as_str}
use Rattle.serde_json.specs.View.{view, items_view}
use Rattle.serde_json.proofs.Views.{items_len-items_view}
use Rattle.script_model.specs.Shapes.{int_of, three_items}
use Rattle.script_model.specs.Signatures.{handler_found}
use Rattle.script_model.specs.StatementReading.{guardian_index, callee}
use Rattle.script.specs.Found.{found_in}
use Rattle.script_parts.proofs.Items.{three_none}

-- the same, by the number of the guardian and the name of the handler
abbrev pub called : Items → Data → Data → Option Data
called guardians a b =
    option_and_then (λ z. option_and_then (λ n. option_and_then (λ s. handler_found guardians n s) (as_str b)) (guardian_index (items_len guardians) z)) (int_of a)

abbrev of_parts : Items → Option (Data × Data × Data) → Option Data
of_parts guardians = option_and_then (λ parts. called guardians parts.0 parts.1)

pub callee_other : (guardians : Items) (d : Data) (vs : List Value) → Some (items_view vs) ≡ as_array d → (length vs ≡ 3 → ⊥) → callee guardians d ≡ None
callee_other guardians d vs list other =
    ap (λ o. of_parts guardians (option_and_then three_items o)) (sym list) ∙ ap (of_parts guardians) (three_none vs other)

three_at : (guardians : Items) (vs : List Value) (a b : Value) → length vs ≡ 3 → a ≡ get_or vs 0 a → b ≡ get_or vs 1 b
    → of_parts guardians (three_items (items_view vs)) ≡ called guardians (view a) (view b)
three_at guardians [] a b three first second = absurd (omega arith)
three_at guardians (x ∷ []) a b three first second = absurd (omega arith)
three_at guardians (x ∷ y ∷ []) a b three first second = absurd (omega arith)
three_at guardians (x ∷ y ∷ z ∷ []) a b three first second = ap₂ (λ v w. called guardians (view v) (view w)) (sym first) (sym second)
three_at guardians (x ∷ y ∷ z ∷ u ∷ vs) a b three first second = absurd (omega arith)

pub callee_three : (guardians : Items) (d : Data) (vs : List Value) (a b : Value) → Some (items_view vs) ≡ as_array d → length vs ≡ 3 → a ≡ get_or vs 0 a → b ≡ get_or vs 1 b
    → callee guardians d ≡ called guardians (view a) (view b)
callee_three guardians d vs a b list three first second =
    ap (λ o. of_parts guardians (option_and_then three_items o)) (sym list) ∙ three_at guardians vs a b three first second

abbrev finds : Items → Data → ℕ → Option Data
finds guardians b n = option_and_then (λ s. handler_found guardians n s) (as_str b)

-- where the number is that of no guardian
pub called_none : (hs : List Value) (a b : Data) (z : ℤ) (count : ℕ) → Some z ≡ int_of a → count ≡ length hs → None ≡ guardian_index count z → None ≡ called (items_view hs) a b
called_none hs a b z count numbered many none =
    let guardians = items_view hs in
    let find = λ (i : Option ℕ). option_and_then (finds guardians b) i in
    ap find none ∙ ap (λ n. find (guardian_index n z)) (many ∙ sym (items_len-items_view hs))
    ∙ ap (option_and_then (λ y. find (guardian_index (items_len guardians) y))) numbered

-- where it is that of a guardian
pub called_found : (hs : List Value) (a b : Data) (z : ℤ) (count n : ℕ) (s : List ℕ) → Some z ≡ int_of a → count ≡ length hs → Some n ≡ guardian_index count z → Some s ≡ as_str b
    → handler_found (items_view hs) n s ≡ called (items_view hs) a b
called_found hs a b z count n s numbered many at named =
    let guardians = items_view hs in
    let find = λ (i : Option ℕ). option_and_then (finds guardians b) i in
    ap (option_and_then (λ t. handler_found guardians n t)) named
    ∙ ap find at ∙ ap (λ m. find (guardian_index m z)) (many ∙ sym (items_len-items_view hs))
    ∙ ap (option_and_then (λ y. find (guardian_index (items_len guardians) y))) numbered

some_numbered : (k n : ℕ) (d : Data) (o : Option Data) → ◌≡◌ {A = Option (ℕ × Data)} (Some (n, d)) (option_map (λ e. (k, e)) o) → o ≡ Some d
some_numbered k n d None e = cc
some_numbered k n d (Some f) e = ap (option_map (λ (p : ℕ × Data). p.1)) (sym e)

pub found_some : (guardians : Items) (n : ℕ) (name : List ℕ) (k : ℕ) (d : Data) → ◌≡◌ {A = Option (ℕ × Data)} (Some (k, d)) (found_in guardians n name)
    → handler_found guardians n name ≡ Some d
found_some guardians n name k d e = some_numbered _ k d (handler_found guardians n name) e
