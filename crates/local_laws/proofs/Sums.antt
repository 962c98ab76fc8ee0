-- What acts add to a content, taken together.
use Rattle.std.proofs.Common.{Bool, List, None, Option, Some, [], ap, cond, false, filter, inl, inr, refl, sym, true, ◌&&◌, ◌∙◌, ◌∷◌, ◌≡◌, ◌||◌}
use Rattle.std.proofs.Math.IntN.{+ℤ_assoc, +ℤ_idr}
use Rattle.std.proofs.lemmas.Bool.{false≢true, true≢false}
use Rattle.std.proofs.lemmas.Int.{int_wrap-add_left, int_wrap-add_right, int_wrap_fits}
use Rattle.std.specs.Int.{int_wrap, w64}
use Rattle.std.specs.List.{list_any}
use Rattle.std.specs.Prelude.{ℕ, ℤ, is_some, pos, ◌+ℤ◌}
use Rattle.action_names.specs.Names.{Name}
use Rattle.values.specs.declared.content.Content.{Content}
use Rattle.values.specs.declared.content.Content.TheVariants.{Array, Counter, Record, Variant}
use Rattle.values.specs.declared.value.Value.TheVariants.{Int, Text}
use Rattle.atomic_types.specs.Counters.{sum_of}
use Rattle.atomic_types.specs.TypeLaws.{objects_order_is_free, reads_leave}
use Rattle.atomic_types.specs.Operations as op
use Rattle.atomic_types.specs.declared.operation.Operation.TheVariants.{Add}
use Rattle.atomic_types.specs.declared.part.Part.{Part}
use Rattle.atomic_types.specs.declared.part.Part.TheVariants.{Delta, Value}
use Rattle.atomic_types.specs.Objects.{content_after}
use Rattle.atomic_types.specs.Operations.{class_of, is_add_class, is_write_class}
use Rattle.atomic_types.specs.Parts.{laid}
use Rattle.run_model.specs.Keeping.{Performed, Standing}
use Rattle.run_model.specs.Versions.{delta_by, is_held_by, sum_back, sum_on, with_add, with_part}
use Rattle.run_laws.proofs.Each.{Each}
use Rattle.local_laws.specs.Tops.{NumberFits, adds_text}
use Rattle.local_laws.proofs.Acts.{Act, act_adds_text, acts_by, acts_of, after_act, after_acts, deed_of}

-- ---- deltas of a content

-- two are one
deltas_join : (c : Content) (y z : ℤ) → laid (Delta z) (laid (Delta y) c) ≡ laid (Delta (sum_of y z)) c
deltas_join (Record fields) y z = refl
deltas_join (Array a) y z = refl
deltas_join (Variant v) y z = refl
deltas_join (Counter n) y z =
    ap (λ m. Counter m)
    (int_wrap-add_left w64 (n +ℤ y) z ∙ ap (λ m. int_wrap w64 m) (+ℤ_assoc n y z) ∙ sym (int_wrap-add_right w64 n (y +ℤ z)))

deltas_commute : (c : Content) (y z : ℤ) → laid (Delta z) (laid (Delta y) c) ≡ laid (Delta y) (laid (Delta z) c)
deltas_commute c y z = (objects_order_is_free c (Add (Int y)) (Add (Int z)) refl).0

-- after another one a delta of 0 changes nothing
zero_after : (c : Content) (z : ℤ) → laid (Delta (pos 0)) (laid (Delta z) c) ≡ laid (Delta z) c
zero_after (Record fields) z = refl
zero_after (Array a) z = refl
zero_after (Variant v) z = refl
zero_after (Counter n) z =
    ap (λ m. Counter m) (int_wrap-add_left w64 (n +ℤ z) (pos 0) ∙ ap (λ m. int_wrap w64 m) (+ℤ_idr (n +ℤ z)))

-- nor does it where the number is within 64 bits
pub zero_adds_nothing : (c : Content) → NumberFits c → laid (Delta (pos 0)) c ≡ c
zero_adds_nothing (Record fields) h = refl
zero_adds_nothing (Array a) h = refl
zero_adds_nothing (Variant v) h = refl
zero_adds_nothing (Counter n) h = ap (λ m. Counter m) (ap (λ m. int_wrap w64 m) (+ℤ_idr n) ∙ int_wrap_fits w64 n h)

text_leaves : (c : Content) (bytes : List ℕ) → content_after c (Add (Text bytes)) ≡ c
text_leaves (Record fields) bytes = refl
text_leaves (Array a) bytes = refl
text_leaves (Variant v) bytes = refl
text_leaves (Counter n) bytes = refl

-- ---- what an act adds, if it is an add; a text counts as 0

abbrev pub added_by : op.Op → Option ℤ
added_by (Add (Int z)) = Some z
added_by (Add (Text bytes)) = Some (pos 0)
added_by _ = None

abbrev pub added_back : Part → Option ℤ
added_back (Value v) = None
added_back (Delta z) = Some z

abbrev pub amount_of : Act → Option ℤ
amount_of (inl o) = added_by o.operation
amount_of (inr r) = added_back r.1

abbrev pub with_amount : Option ℤ → Content → Content
with_amount None c = c
with_amount (Some z) c = laid (Delta z) c

abbrev pub with_amounts : Content → List Act → Content
with_amounts c [] = c
with_amounts c (x ∷ xs) = with_amount (amount_of x) (with_amounts c xs)

pub amounts_are_adds : (x : Act) → is_some (amount_of x) ≡ is_add_class (deed_of x).1
amounts_are_adds (inr (b, Value v)) = refl
amounts_are_adds (inr (b, Delta z)) = refl
amounts_are_adds (inl o) = of o.operation
  where
    of : (o : op.Op) → is_some (added_by o) ≡ is_add_class (class_of o)
    of (Add (Int z)) = refl
    of (Add (Text bytes)) = refl
    of _ = refl

-- it does not matter when an amount is added
amounts_commute : (m n : Option ℤ) (c : Content) → with_amount m (with_amount n c) ≡ with_amount n (with_amount m c)
amounts_commute None n c = refl
amounts_commute (Some z) None c = refl
amounts_commute (Some z) (Some y) c = deltas_commute c y z

pub amount_first : (m : Option ℤ) (c : Content) (xs : List Act) → with_amounts (with_amount m c) xs ≡ with_amount m (with_amounts c xs)
amount_first m c [] = refl
amount_first m c (x ∷ xs) =
    ap (λ d. with_amount (amount_of x) d) (amount_first m c xs) ∙ amounts_commute (amount_of x) m (with_amounts c xs)

left_of_or : (b c : Bool) → (b || c) ≡ true → c ≡ false → b ≡ true
left_of_or true c e f = refl
left_of_or false c e f = absurd (true≢false (sym e ∙ f))

-- Where nothing writes, what acts leave is what they add.
pub adds_leave : (c : Content) (xs : List Act) → Each (λ x. is_write_class (deed_of x).1 ≡ false) xs
    → Each (λ x. act_adds_text x ≡ true → laid (Delta (pos 0)) c ≡ c) xs → after_acts c xs ≡ with_amounts c xs
adds_leave c [] h k = refl
adds_leave c (x ∷ xs) h k =
    ap (λ d. after_act d x) (adds_leave c xs h.1 k.1)
    ∙ one x (with_amounts c xs) h.0 (λ t. sym (amount_first (Some (pos 0)) c xs) ∙ ap (λ d. with_amounts d xs) (k.0 t))
  where
    by : (o : op.Op) (d : Content) → is_write_class (class_of o) ≡ false → (adds_text o ≡ true → laid (Delta (pos 0)) d ≡ d)
        → content_after d o ≡ with_amount (added_by o) d
    by (Add (Int z)) d w t = refl
    by (Add (Text bytes)) d w t = text_leaves d bytes ∙ sym (t refl)
    by o d w t = reads_leave d o (left_of_or (op.is_read o) (op.is_write o) refl w)

    one : (x : Act) (d : Content) → is_write_class (deed_of x).1 ≡ false → (act_adds_text x ≡ true → laid (Delta (pos 0)) d ≡ d)
        → after_act d x ≡ with_amount (amount_of x) d
    one (inl o) d w t = by o.operation d w t
    one (inr (b, Delta z)) d w t = refl
    one (inr (b, Value v)) d w t = absurd (true≢false w)

-- ---- the delta of a holder

-- what acts of those that pass a test add is one sum, on a content whose number is within 64 bits
summed : (c : Content) (held : Name → Bool) (os : List Performed) (rs : List (Name × Part))
    → with_amounts (laid (Delta (pos 0)) c) (filter (λ x. held (deed_of x).0) (acts_of os rs))
    ≡ laid (Delta (sum_on (sum_back held rs) held os)) c
summed c held [] [] = refl
summed c held [] (r ∷ rs) = of (held r.0) (summed c held [] rs)
  where
    rest : List Act
    rest = filter (λ x. held (deed_of x).0) (acts_of [] rs)

    with_back : (p : Part) (n : ℤ) (d : Content) → d ≡ laid (Delta n) c → with_amount (added_back p) d ≡ laid (Delta (with_part n p)) c
    with_back (Value v) n d e = e
    with_back (Delta z) n d e = ap (λ b. laid (Delta z) b) e ∙ deltas_join c n z

    of : (t : Bool) → with_amounts (laid (Delta (pos 0)) c) rest ≡ laid (Delta (sum_back held rs)) c
        → with_amounts (laid (Delta (pos 0)) c) (cond t (inr r ∷ rest) rest)
        ≡ laid (Delta (cond t (with_part (sum_back held rs) r.1) (sum_back held rs))) c
    of true e = with_back r.1 (sum_back held rs) (with_amounts (laid (Delta (pos 0)) c) rest) e
    of false e = e
summed c held (o ∷ os) rs = of (held o.action) (summed c held os rs)
  where
    rest : List Act
    rest = filter (λ x. held (deed_of x).0) (acts_of os rs)

    sum : ℤ
    sum = sum_on (sum_back held rs) held os

    with_kept : (p : op.Op) (n : ℤ) (d : Content) → d ≡ laid (Delta n) c → with_amount (added_by p) d ≡ laid (Delta (with_add n p)) c
    with_kept (Add (Int z)) n d e = ap (λ b. laid (Delta z) b) e ∙ deltas_join c n z
    with_kept (Add (Text bytes)) n d e = ap (λ b. laid (Delta (pos 0)) b) e ∙ zero_after c n
    with_kept _ n d e = e

    of : (t : Bool) → with_amounts (laid (Delta (pos 0)) c) rest ≡ laid (Delta sum) c
        → with_amounts (laid (Delta (pos 0)) c) (cond t (inl o ∷ rest) rest) ≡ laid (Delta (cond t (with_add sum o.operation) sum)) c
    of true e = with_kept o.operation sum (with_amounts (laid (Delta (pos 0)) c) rest) e
    of false e = e

-- where something is added, its number is within them at last
zero_besides : (c : Content) (p : Act → Bool) (xs : List Act) → list_any (λ x. p x && is_some (amount_of x)) xs ≡ true
    → laid (Delta (pos 0)) (with_amounts c (filter p xs)) ≡ with_amounts c (filter p xs)
zero_besides c p [] h = absurd (false≢true h)
zero_besides c p (x ∷ xs) h = of (p x) (amount_of x) refl h (zero_besides c p xs)
  where
    rest : List Act
    rest = filter p xs

    of : (t : Bool) (m : Option ℤ) → amount_of x ≡ m
        → ((t && is_some (amount_of x)) || list_any (λ y. p y && is_some (amount_of y)) xs) ≡ true
        → (list_any (λ y. p y && is_some (amount_of y)) xs ≡ true → laid (Delta (pos 0)) (with_amounts c rest) ≡ with_amounts c rest)
        → laid (Delta (pos 0)) (with_amounts c (cond t (x ∷ rest) rest)) ≡ with_amounts c (cond t (x ∷ rest) rest)
    of false m e k ih = ih k
    of true (Some z) e k ih =
        ap (λ n. laid (Delta (pos 0)) (with_amount n (with_amounts c rest))) e ∙ zero_after (with_amounts c rest) z
        ∙ sym (ap (λ n. with_amount n (with_amounts c rest)) e)
    of true None e k ih =
        ap (λ n. laid (Delta (pos 0)) (with_amount n (with_amounts c rest))) e
        ∙ ih (sym (ap (λ n. is_some n || list_any (λ y. p y && is_some (amount_of y)) xs) e) ∙ k)
        ∙ sym (ap (λ n. with_amount n (with_amounts c rest)) e)

-- so where a holder added something, its delta is what it added
pub delta_is : (c : Content) (s : Standing) (a : Name)
    → list_any (λ x. is_held_by s a (deed_of x).0 && is_some (amount_of x)) (acts_by s) ≡ true
    → with_amounts c (filter (λ x. is_held_by s a (deed_of x).0) (acts_by s)) ≡ laid (Delta (delta_by s a)) c
delta_is c s a h =
    sym (amount_first (Some (pos 0)) c (filter (λ x. is_held_by s a (deed_of x).0) (acts_by s))
    ∙ zero_besides c (λ x. is_held_by s a (deed_of x).0) (acts_by s) h)
    ∙ summed c (λ b. is_held_by s a b) s.kept s.restored
