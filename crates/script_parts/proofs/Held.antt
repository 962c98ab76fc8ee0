-- What records and variants hold, looked up one after another.
use Rattle.std.proofs.Common.{◌≡◌, ◌<◌, ◌≤◌, ℕ, ◌+◌, List, ◌∷◌, length, get_or, drop, Bool, true, cond, Some, None, sym, ap, ◌∙◌}
use Rattle.std.proofs.lemmas.List.{drop_more, drop_all}
use Rattle.std.proofs.lemmas.Slice.Eq.{bytes_eq-Decides}
use Rattle.values.specs.declared.record.Field.{Field}
use Rattle.values.specs.declared.variant.Tag.{Tag}
use Rattle.values.specs.Words.{same_bytes}
use Rattle.values.specs.Fields.{field_value}
use Rattle.values.specs.Tags.{tag_kind}

pub same_text : (a b : List ℕ) → true ≡ same_bytes a b → a ≡ b
same_text a b e = (bytes_eq-Decides a b).0 (sym e)

pub field_value-at : (fs : List Field) (i : ℕ) (f : Field) (name : List ℕ) (b : Bool) → i < length fs → f ≡ get_or fs i f → same_bytes f.name name ≡ b
    → field_value (drop i fs) name ≡ cond b (Some f.value) (field_value (drop (i + 1) fs) name)
field_value-at fs i f name b h is same =
    ap (λ gs. field_value gs name) (drop_more fs i f h ∙ ap (λ g. g ∷ drop (i + 1) fs) (sym is))
    ∙ ap (λ c. cond c (Some f.value) (field_value (drop (i + 1) fs) name)) same

pub field_value-none : (fs : List Field) (i : ℕ) (name : List ℕ) → length fs ≤ i → field_value (drop i fs) name ≡ None
field_value-none fs i name h = ap (λ gs. field_value gs name) (drop_all i fs h)

pub tag_kind-at : (ts : List Tag) (i : ℕ) (t : Tag) (name : List ℕ) (b : Bool) → i < length ts → t ≡ get_or ts i t → same_bytes t.name name ≡ b
    → tag_kind (drop i ts) name ≡ cond b (Some t.kind) (tag_kind (drop (i + 1) ts) name)
tag_kind-at ts i t name b h is same =
    ap (λ us. tag_kind us name) (drop_more ts i t h ∙ ap (λ u. u ∷ drop (i + 1) ts) (sym is))
    ∙ ap (λ c. cond c (Some t.kind) (tag_kind (drop (i + 1) ts) name)) same

pub tag_kind-none : (ts : List Tag) (i : ℕ) (name : List ℕ) → length ts ≤ i → tag_kind (drop i ts) name ≡ None
tag_kind-none ts i name h = ap (λ us. tag_kind us name) (drop_all i ts h)
