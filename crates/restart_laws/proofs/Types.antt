-- Contents of one type: every content is of its own type, and an operation that it knows leaves one of that type.
use Rattle.std.proofs.Common.{Bool, List, Some, [], ap, arith, cond, eqb-true, false, length, refl, suc, sym, true, ℕ, ◌==◌, ◌∙◌, ◌∷◌, ◌≡◌}
use Rattle.std.proofs.lemmas.Bool.{and_from, and_parts, eq-eqb, false≢true}
use Rattle.std.proofs.lemmas.Cmp.{nat_list_eq_equiv}
use Rattle.std.specs.Cmp.Lexicographic.{same_text}
use Rattle.std.specs.Prelude.{pos}
use Rattle.values.specs.declared.content.Content.{Content}
use Rattle.values.specs.declared.content.Content.TheVariants.{Array, Counter, Record, Variant}
use Rattle.values.specs.declared.record.Field.{Field}
use Rattle.values.specs.declared.value.Kind.{Kind}
use Rattle.values.specs.declared.value.Kind.TheVariants as kind
use Rattle.values.specs.declared.value.Value.{Value}
use Rattle.values.specs.declared.value.Value.TheVariants.{Int, Text}
use Rattle.values.specs.declared.variant.Tag.{Tag}
use Rattle.values.specs.Contents.{field_value, set_field}
use Rattle.values.specs.Items.{ArrayContent}
use Rattle.values.specs.Tags.{VariantContent}
use Rattle.values.specs.Values.{kind_of, same_kind}
use Rattle.values.specs.Words.{same_bytes}
use Rattle.atomic_types.specs.declared.operation.Operation.TheVariants.{Change, Set, Store}
use Rattle.atomic_types.specs.Arrays.{array_after, array_knows}
use Rattle.atomic_types.specs.Objects.{content_after, knows}
use Rattle.atomic_types.specs.Operations.{Op}
use Rattle.atomic_types.specs.Records.{record_after, record_knows, takes}
use Rattle.atomic_types.specs.TypeLaws.{array_known_stay, same_kinds}
use Rattle.atomic_types.specs.Variants.{variant_after}
use Rattle.store_recovery.specs.Belonging.{alike_each, same_field, same_tag, same_type}

-- ---- lists that are alike

one_less : (m n : ℕ) → (suc m == suc n) ≡ true → (m == n) ≡ true
one_less m n h = let e = eqb-true (suc m) (suc n) h in eq-eqb m n (omega (arith, e))

one_more : (m n : ℕ) → (m == n) ≡ true → (suc m == suc n) ≡ true
one_more m n h = let e = eqb-true m n h in eq-eqb (suc m) (suc n) (omega (arith, e))

module _ {X : Type 0} (same : X → X → Bool) where
  alike_parts : (x y : X) (xs ys : List X) → alike_each same (x ∷ xs) (y ∷ ys) ≡ true → (same x y ≡ true) × (alike_each same xs ys ≡ true)
  alike_parts x y xs ys h =
      let long = and_parts _ _ h in
      let pairs = and_parts _ _ long.1 in
      (pairs.0, and_from _ _ (one_less (length xs) (length ys) long.0) pairs.1)

  alike_from : (x y : X) (xs ys : List X) → same x y ≡ true → alike_each same xs ys ≡ true → alike_each same (x ∷ xs) (y ∷ ys) ≡ true
  alike_from x y xs ys here behind =
      let p = and_parts _ _ behind in
      and_from _ _ (one_more (length xs) (length ys) p.0) (and_from _ _ here p.1)

  none_and_one : (y : X) (ys : List X) → alike_each same [] (y ∷ ys) ≡ true → ⊥
  none_and_one y ys h = let e = eqb-true 0 (suc (length ys)) (and_parts _ _ h).0 in omega (arith, e)

  one_and_none : (x : X) (xs : List X) → alike_each same (x ∷ xs) [] ≡ true → ⊥
  one_and_none x xs h = let e = eqb-true (suc (length xs)) 0 (and_parts _ _ h).0 in omega (arith, e)

  alike_itself : ((x : X) → same x x ≡ true) → (xs : List X) → alike_each same xs xs ≡ true
  alike_itself each [] = refl
  alike_itself each (x ∷ xs) = alike_from x x xs xs (each x) (alike_itself each xs)

  alike_through : ((x y z : X) → same x y ≡ true → same y z ≡ true → same x z ≡ true) → (xs ys zs : List X)
      → alike_each same xs ys ≡ true → alike_each same ys zs ≡ true → alike_each same xs zs ≡ true
  alike_through each [] [] zs h k = k
  alike_through each [] (y ∷ ys) zs h k = absurd (none_and_one y ys h)
  alike_through each (x ∷ xs) [] zs h k = absurd (one_and_none x xs h)
  alike_through each (x ∷ xs) (y ∷ ys) [] h k = absurd (one_and_none y ys k)
  alike_through each (x ∷ xs) (y ∷ ys) (z ∷ zs) h k =
      let p = alike_parts x y xs ys h in
      let q = alike_parts y z ys zs k in
      alike_from x z xs zs (each x y z p.0 q.0) (alike_through each xs ys zs p.1 q.1)

-- ---- fields and tags

kind_itself : (k : Kind) → same_kind k k ≡ true
kind_itself kind.Int = refl
kind_itself kind.Text = refl

kind_through : (k l m : Kind) → same_kind k l ≡ true → same_kind l m ≡ true → same_kind k m ≡ true
kind_through k l m p q = ap (λ n. same_kind n m) (same_kinds k l p) ∙ q

bytes_itself : (a : List ℕ) → same_bytes a a ≡ true
bytes_itself a = nat_list_eq_equiv.refl a

bytes_through : (a b c : List ℕ) → same_bytes a b ≡ true → same_bytes b c ≡ true → same_bytes a c ≡ true
bytes_through a b c p q = ap (λ d. same_bytes d c) (same_text a b (sym p)) ∙ q

field_itself : (f : Field) → same_field f f ≡ true
field_itself f = and_from _ _ (bytes_itself f.name) (kind_itself (kind_of f.value))

field_through : (f g h : Field) → same_field f g ≡ true → same_field g h ≡ true → same_field f h ≡ true
field_through f g h p q =
    let a = and_parts _ _ p in
    let b = and_parts _ _ q in
    and_from _ _ (bytes_through f.name g.name h.name a.0 b.0) (kind_through (kind_of f.value) (kind_of g.value) (kind_of h.value) a.1 b.1)

tag_itself : (t : Tag) → same_tag t t ≡ true
tag_itself t = and_from _ _ (bytes_itself t.name) (kind_itself t.kind)

tag_through : (t u w : Tag) → same_tag t u ≡ true → same_tag u w ≡ true → same_tag t w ≡ true
tag_through t u w p q =
    let a = and_parts _ _ p in
    let b = and_parts _ _ q in
    and_from _ _ (bytes_through t.name u.name w.name a.0 b.0) (kind_through t.kind u.kind w.kind a.1 b.1)

-- ---- contents

pub type_itself : (c : Content) → same_type c c ≡ true
type_itself (Record fs) = alike_itself same_field field_itself fs
type_itself (Array a) = kind_itself a.kind
type_itself (Variant v) = alike_itself same_tag tag_itself v.tags
type_itself (Counter n) = refl

pub type_through : (c d e : Content) → same_type c d ≡ true → same_type d e ≡ true → same_type c e ≡ true
type_through (Record fs) (Record gs) (Record hs) p q = alike_through same_field field_through fs gs hs p q
type_through (Record fs) (Record gs) _ p q = absurd (false≢true q)
type_through (Record fs) _ e p q = absurd (false≢true p)
type_through (Array a) (Array b) (Array c) p q = kind_through a.kind b.kind c.kind p q
type_through (Array a) (Array b) _ p q = absurd (false≢true q)
type_through (Array a) _ e p q = absurd (false≢true p)
type_through (Variant v) (Variant w) (Variant x) p q = alike_through same_tag tag_through v.tags w.tags x.tags p q
type_through (Variant v) (Variant w) _ p q = absurd (false≢true q)
type_through (Variant v) _ e p q = absurd (false≢true p)
type_through (Counter n) (Counter m) (Counter l) p q = refl
type_through (Counter n) (Counter m) _ p q = absurd (false≢true q)
type_through (Counter n) _ e p q = absurd (false≢true p)

-- ---- what operations leave

-- a field that takes a value is of the same kind with it
set_alike : (fields : List Field) (name : List ℕ) (v : Value) → takes (field_value fields name) v ≡ true
    → alike_each same_field fields (set_field fields name v) ≡ true
set_alike [] name v h = absurd (false≢true h)
set_alike (f ∷ fields) name v h = of (same_bytes f.name name) h (set_alike fields name v)
  where
    of : (b : Bool) → takes (cond b (Some f.value) (field_value fields name)) v ≡ true
        → (takes (field_value fields name) v ≡ true → alike_each same_field fields (set_field fields name v) ≡ true)
        → alike_each same_field (f ∷ fields) (cond b (record { name = f.name; value = v } ∷ fields) (f ∷ set_field fields name v)) ≡ true
    of true k ih =
        alike_from same_field f (record { name = f.name; value = v }) fields fields (and_from _ _ (bytes_itself f.name) k)
        (alike_itself same_field field_itself fields)
    of false k ih = alike_from same_field f f fields (set_field fields name v) (field_itself f) (ih k)

record_alike : (fields : List Field) (op : Op) → record_knows fields op ≡ true → alike_each same_field fields (record_after fields op) ≡ true
record_alike fields (Set name v) h = set_alike fields name v h
record_alike fields _ h = alike_itself same_field field_itself fields

-- a value of this kind
value_of : Kind → Value
value_of kind.Int = Int (pos 0)
value_of kind.Text = Text []

value_kind : (k : Kind) → kind_of (value_of k) ≡ k
unfolding value_of
value_kind kind.Int = refl
value_kind kind.Text = refl

-- an array knows the same values afterwards, and so is of the same kind
array_kind : (a : ArrayContent) (op : Op) → array_knows a op ≡ true → same_kind a.kind (array_after a op).kind ≡ true
array_kind a op h =
    let k = kind_of (value_of a.kind) in
    let still : same_kind (array_after a op).kind k ≡ same_kind a.kind k =
    array_known_stay a op (Store (pos 0) (value_of a.kind)) h in
    let is = same_kinds (array_after a op).kind k (still ∙ ap (same_kind a.kind) (value_kind a.kind) ∙ kind_itself a.kind) in
    ap (same_kind a.kind) (is ∙ value_kind a.kind) ∙ kind_itself a.kind

variant_alike : (v : VariantContent) (op : Op) → alike_each same_tag v.tags (variant_after v op).tags ≡ true
variant_alike v (Change tag value) = alike_itself same_tag tag_itself v.tags
variant_alike v _ = alike_itself same_tag tag_itself v.tags

pub operations_keep_type : (c : Content) (op : Op) → knows c op ≡ true → same_type c (content_after c op) ≡ true
operations_keep_type (Record fields) op h = record_alike fields op h
operations_keep_type (Array a) op h = array_kind a op h
operations_keep_type (Variant v) op h = variant_alike v op
operations_keep_type (Counter n) op h = refl
