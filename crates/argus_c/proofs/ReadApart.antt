-- An operation that is read part by part is that of its line.
use Rattle.std.proofs.Common.{◌≡◌, ◌≤◌, ℕ, ℤ, List, ◌∷◌, ◌++◌, length, length-append, Option, Some, None, Result, Ok, Err, IfOk, Bor, inl, inr, refl, sym, ap, subst, ◌∙◌, append_assoc, arith, codes, decimal}
use Rattle.std.specs.Prelude.{IfSome}
use Rattle.std.specs.Result.{result_ok}
use Rattle.std.proofs.lemmas.Fmt.{length-decimal-le}
use Rattle.std.proofs.lemmas.Str.Pattern.{IsSplitOnceResult, split_parts}
use Rattle.action_names.specs.Names.{Name, IsComponent, name_text}
use Rattle.values.specs.declared.value.Value.{Value}
use Rattle.values.specs.declared.words.ValueFault.{ValueFault}
use Rattle.values.specs.Values.{IsValue, value_text}
use Rattle.values.specs.Words.{IsIdentifier}
use Rattle.atomic_types.specs.declared.operation.OpName.{OpName}
use Rattle.atomic_types.specs.declared.operation.Arguments.{Arguments}
use Rattle.atomic_types.specs.declared.operation.Arguments.TheVariants as with
use Rattle.atomic_types.specs.Operations.{Op, form_of, named, op_name, operation_of}
use Rattle.run_model.specs.declared.step.Step.TheVariants as step
use Rattle.run_model.specs.Reading.{AreOfForm}
use Rattle.run_model.specs.Texts.{Spells, arguments_text, max_line, op_text, step_text}
use Rattle.run_model.proofs.Words.{bare_found, full_found, op_cases}
use Rattle.argus_c.specs.Sessions.{IsNamed, IsOpText, operation_line}

-- the parts about the first space
pub cut_parts : (text : List ℕ) (r : Option (Bor (List ℕ) × Bor (List ℕ))) → IsSplitOnceResult 32 text r
    → IfSome r (λ x. text ≡ x.0.now ++ 32 ∷ x.1.now)
cut_parts text None h = tt
cut_parts text (Some x) h = (split_parts 32 text (Some x) h (omega arith)).0

-- a word, and a value, that were read
pub word_read : (text : List ℕ) (r : Result (List ℕ) ValueFault) → IfOk r (λ w. w ≡ text) → IfOk r (λ w. IsIdentifier w)
    → IfSome (result_ok r) (λ w. IsIdentifier w × (text ≡ w))
word_read text (Ok w) same fits = (fits, sym same)
word_read text (Err e) same fits = tt

pub value_read : (text : List ℕ) (r : Result Value ValueFault) → IfOk r (λ v. IsValue v × (text ≡ value_text v))
    → IfSome (result_ok r) (λ v. IsValue v × (text ≡ value_text v))
value_read text (Ok v) read = read
value_read text (Err e) read = tt

-- a name alone
pub bare_text : (word : List ℕ) (n : OpName) (o : Option Op) → named word ≡ Some n → o ≡ operation_of n with.Nothing → IfSome o (IsOpText word)
bare_text word n None is made = tt
bare_text word n (Some x) is made =
    let found = bare_found word n (Some x) is made in
    elim (op_cases x) [
      | inl b ↦ record { fits = b.fits; same = found.1 ∙ sym b.text }
      | inr f ↦ (let t = f.bare in let u = found.0 in absurd cc)
    ]

-- a name and arguments of its form
pub full_text : (word rest : List ℕ) (n : OpName) (a : Arguments (List ℕ) ℤ Value) (o : Option Op) → named word ≡ Some n
    → AreOfForm (form_of n) a × (rest ≡ arguments_text a) → o ≡ operation_of n a → IfSome o (IsOpText (word ++ 32 ∷ rest))
full_text word rest n a None is read made = tt
full_text word rest n a (Some x) is read made =
    let found = full_found word rest n a (Some x) is read made in
    elim (op_cases x) [
      | inl b ↦ (let t = b.bare in let u = found.0.1 in absurd cc)
      | inr f ↦ record {
        fits = found.0.0;
        same = ap (λ (w : List ℕ). w ++ 32 ∷ rest) found.0.2 ∙ ap (λ (r : List ℕ). op_name x ++ 32 ∷ r) found.1 ∙ sym f.text;
      }
    ]

module _ (action : List ℕ) (guardian number : ℕ) (wanted : List ℕ) where
  -- the line is short where its parts are
  short : IsComponent guardian → IsComponent number → length action ≤ 4000 → length wanted ≤ 4000 → length (operation_line action guardian number wanted) ≤ max_line
  short first second few few-2 =
      let word : length (codes "op ") ≡ 3 = refl in
      let digits = length-decimal-le 10 guardian (omega arith) (omega (arith, first.1)) (omega (arith, first.1)) in
      let digits-2 = length-decimal-le 10 number (omega arith) (omega (arith, second.1)) (omega (arith, second.1)) in
      omega (
        arith,
        word,
        digits,
        digits-2,
        length-append (codes "op ") action,
        length-append (codes "op " ++ action) (32 ∷ decimal guardian),
        length-append (codes "op " ++ action ++ 32 ∷ decimal guardian) (47 ∷ decimal number),
        length-append (codes "op " ++ action ++ 32 ∷ decimal guardian ++ 47 ∷ decimal number) (32 ∷ wanted),
      )

  -- the line is the step's
  line_is : (a : Name) (o : Op) → IsNamed action a → IsOpText wanted o
      → operation_line action guardian number wanted ≡ step_text (step.Op a (record { guardian = guardian; number = number }) o)
  line_is a o name asked =
      ap (λ (t : List ℕ). codes "op " ++ t ++ 32 ∷ decimal guardian ++ 47 ∷ decimal number ++ 32 ∷ wanted) name.same
      ∙ ap (λ (t : List ℕ). codes "op " ++ name_text a ++ 32 ∷ decimal guardian ++ 47 ∷ decimal number ++ 32 ∷ t) asked.same
      ∙ ap (λ (t : List ℕ). t ++ 32 ∷ op_text o) (append_assoc (codes "op " ++ name_text a) (32 ∷ decimal guardian) (47 ∷ decimal number))

  pub op_spelled : (a : Name) (o : Op) → IsNamed action a → IsOpText wanted o → IsComponent guardian → IsComponent number
      → length action ≤ 4000 → length wanted ≤ 4000
      → Spells (operation_line action guardian number wanted) (step.Op a (record { guardian = guardian; number = number }) o)
  op_spelled a o name asked first second few few-2 =
      let text = line_is a o name asked in
      record {
        fits = record {
          parts = (name.fits, first, second, asked.fits);
          line = subst (λ (t : List ℕ). length t ≤ max_line) text (short first second few few-2);
        };
        text = text;
      }
