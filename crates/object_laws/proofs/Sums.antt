-- How much acts add, chosen by two tests of which none passes both.
use Rattle.std.proofs.Common.{Bool, List, [], ap, cond, false, inl, inr, refl, sym, true, ℕ, ℤ, ◌&&◌, ◌∙◌, ◌∷◌, ◌≡◌, ◌||◌}
use Rattle.std.specs.Prelude.{pos, ◌+ℤ◌}
use Rattle.std.specs.Int.{int_wrap, w64}
use Rattle.std.proofs.Math.IntN.{+ℤ_assoc, +ℤ_comm, +ℤ_idl, +ℤ_idr}
use Rattle.std.proofs.lemmas.Bool.{false≢true, true≢false}
use Rattle.std.proofs.lemmas.Int.{int_wrap-add_left, int_wrap-add_right}
use Rattle.std.specs.List.{list_any}
use Rattle.values.specs.declared.content.Content.{Content}
use Rattle.values.specs.declared.content.Content.TheVariants.{Array, Counter, Record, Variant}
use Rattle.values.specs.declared.value.Value.TheVariants.{Int, Text}
use Rattle.atomic_types.specs.Counters.{sum_of}
use Rattle.atomic_types.specs.Objects.{knows}
use Rattle.atomic_types.specs.Operations as op
use Rattle.atomic_types.specs.Operations.{class_of, is_add_class}
use Rattle.atomic_types.specs.declared.operation.Operation.TheVariants.{Add}
use Rattle.atomic_types.specs.declared.part.Part.TheVariants.{Delta, Value}
use Rattle.run_model.specs.Versions.{with_add}
use Rattle.run_laws.proofs.Each.{Each}
use Rattle.run_laws.proofs.Names.{clash}
use Rattle.local_laws.specs.Tops.{adds_text}
use Rattle.local_laws.proofs.Acts.{Act, act_adds_text, deed_of}
use Rattle.object_laws.proofs.Held.{KnownAct, sum_acts, with_act}

-- no object knows an add of a text
pub known_adds : (c : Content) (o : op.Op) → knows c o ≡ true → adds_text o ≡ false
known_adds c o h = of o h
  where
    unknown : (d : Content) (bytes : List ℕ) → knows d (Add (Text bytes)) ≡ false
    unknown (Record fields) bytes = refl
    unknown (Array a) bytes = refl
    unknown (Variant v) bytes = refl
    unknown (Counter n) bytes = refl

    of : (o : op.Op) → knows c o ≡ true → adds_text o ≡ false
    of (Add (Text bytes)) k = absurd (clash k (unknown c bytes))
    of (Add (Int z)) k = refl
    of _ k = refl

pub act_adds_number : (c : Content) (x : Act) → KnownAct c x → act_adds_text x ≡ false
act_adds_number c (inl o) h = known_adds c o.operation h
act_adds_number c (inr r) h = refl

-- a number wrapped twice
pub wrapped_twice : (n : ℤ) → int_wrap w64 (int_wrap w64 n) ≡ int_wrap w64 n
wrapped_twice n =
    ap (λ m. int_wrap w64 m) (sym (+ℤ_idr (int_wrap w64 n))) ∙ int_wrap-add_left w64 n (pos 0) ∙ ap (λ m. int_wrap w64 m) (+ℤ_idr n)

pub wrapped_sum : (n z : ℤ) → int_wrap w64 (sum_of n z) ≡ sum_of n z
wrapped_sum n z = wrapped_twice (n +ℤ z)

-- one act more changes two sums alike
abbrev IsAmount : (ℤ → ℤ) → Type 0
IsAmount add =
    ((n m : ℤ) → int_wrap w64 n ≡ int_wrap w64 m → int_wrap w64 (add n) ≡ int_wrap w64 (add m))
    × (((n m : ℤ) → int_wrap w64 (add (sum_of n m)) ≡ sum_of (add n) m) × ((n m : ℤ) → int_wrap w64 (add (sum_of n m)) ≡ sum_of n (add m)))

none_is : IsAmount (λ n. n)
none_is = (λ n m e. e, (λ n m. wrapped_sum n m, λ n m. wrapped_sum n m))

some_is : (z : ℤ) → IsAmount (λ n. sum_of n z)
some_is z = (
  λ n m e.
      ap (λ k. int_wrap w64 k) (sym (int_wrap-add_left w64 n z)) ∙ ap (λ k. int_wrap w64 (int_wrap w64 (k +ℤ z))) e
      ∙ ap (λ k. int_wrap w64 k) (int_wrap-add_left w64 m z),
  (
    λ n m.
        wrapped_sum (sum_of n m) z ∙ int_wrap-add_left w64 (n +ℤ m) z
        ∙ ap (λ k. int_wrap w64 k) (+ℤ_assoc n m z ∙ ap (λ k. n +ℤ k) (+ℤ_comm m z) ∙ sym (+ℤ_assoc n z m))
        ∙ sym (int_wrap-add_left w64 (n +ℤ z) m),
    λ n m.
        wrapped_sum (sum_of n m) z ∙ int_wrap-add_left w64 (n +ℤ m) z ∙ ap (λ k. int_wrap w64 k) (+ℤ_assoc n m z)
        ∙ sym (int_wrap-add_right w64 n (m +ℤ z)),
  ),
)

amount_is : (x : Act) → IsAmount (λ n. with_act n x)
amount_is (inr (b, Value v)) = none_is
amount_is (inr (b, Delta z)) = some_is z
amount_is (inl o) = of o.operation
  where
    of : (o : op.Op) → IsAmount (λ n. with_add n o)
    of (Add (Int z)) = some_is z
    of (Add (Text bytes)) = none_is
    of _ = none_is

-- what passes one of two tests adds both sums
pub sums_join : (p q : Act → Bool) (xs : List Act) → Each (λ x. p x ≡ true → q x ≡ false) xs
    → int_wrap w64 (sum_acts (λ x. p x || q x) xs) ≡ sum_of (sum_acts q xs) (sum_acts p xs)
sums_join p q [] h = ap (λ n. int_wrap w64 n) (sym (+ℤ_idl (pos 0)))
sums_join p q (x ∷ xs) h = of (p x) refl (q x) refl (sums_join p q xs h.1)
  where
    both : ℤ
    both = sum_acts (λ x. p x || q x) xs

    one : ℤ
    one = sum_acts p xs

    other : ℤ
    other = sum_acts q xs

    step : int_wrap w64 both ≡ sum_of other one → int_wrap w64 (with_act both x) ≡ int_wrap w64 (with_act (sum_of other one) x)
    step e = (amount_is x).0 both (sum_of other one) (e ∙ sym (wrapped_sum other one))

    of : (t : Bool) → p x ≡ t → (u : Bool) → q x ≡ u → int_wrap w64 both ≡ sum_of other one
        → int_wrap w64 (cond (t || u) (with_act both x) both) ≡ sum_of (cond u (with_act other x) other) (cond t (with_act one x) one)
    of true e true d ih = absurd (clash d (h.0 e))
    of true e false d ih = step ih ∙ (amount_is x).1.1 other one
    of false e true d ih = step ih ∙ (amount_is x).1.0 other one
    of false e false d ih = ih

-- a sum to which something was added is within 64 bits
pub sum_fits : (c : Content) (p : Act → Bool) (xs : List Act) → Each (λ x. KnownAct c x) xs → list_any (λ x. p x && is_add_class (deed_of x).1) xs ≡ true
    → int_wrap w64 (sum_acts p xs) ≡ sum_acts p xs
sum_fits c p [] h k = absurd (false≢true k)
sum_fits c p (x ∷ xs) h k = of (p x) k (sum_fits c p xs h.1)
  where
    rest : ℤ
    rest = sum_acts p xs

    act : (x : Act) → KnownAct c x → (is_add_class (deed_of x).1 || list_any (λ x. p x && is_add_class (deed_of x).1) xs) ≡ true
        → (list_any (λ x. p x && is_add_class (deed_of x).1) xs ≡ true → int_wrap w64 rest ≡ rest) → int_wrap w64 (with_act rest x) ≡ with_act rest x
    act (inr (b, Value v)) known k ih = ih k
    act (inr (b, Delta z)) known k ih = wrapped_sum rest z
    act (inl o) known k ih = by o.operation (known_adds c o.operation known) k
      where
        by : (o : op.Op) → adds_text o ≡ false → (is_add_class (class_of o) || list_any (λ x. p x && is_add_class (deed_of x).1) xs) ≡ true
            → int_wrap w64 (with_add rest o) ≡ with_add rest o
        by (Add (Int z)) t k = wrapped_sum rest z
        by (Add (Text bytes)) t k = absurd (true≢false t)
        by _ t k = ih k

    of : (t : Bool) → ((t && is_add_class (deed_of x).1) || list_any (λ x. p x && is_add_class (deed_of x).1) xs) ≡ true
        → (list_any (λ x. p x && is_add_class (deed_of x).1) xs ≡ true → int_wrap w64 rest ≡ rest)
        → int_wrap w64 (cond t (with_act rest x) rest) ≡ cond t (with_act rest x) rest
    of false k ih = ih k
    of true k ih = act x h.0 k ih
