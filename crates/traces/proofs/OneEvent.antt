-- A text is one step and one answer at most, with an arrow between them. Each part of a step ends where a space and an arrow's first byte may follow.
use Rattle.std.proofs.Common.{◌≡◌, ◌≢◌, ℕ, ℤ, pos, negsuc, ◌<◌, ◌^◌, false, List, [], ◌∷◌, ◌++◌, length, get_or, Some, bytes_eq, refl, sym, ap, subst, ◌∙◌, append_assoc, arith, ◌⊎◌, inl, inr, decimal}
use Rattle.std.specs.Fmt.{signed_decimal}
use Rattle.std.proofs.lemmas.Fmt.{decimal_injective, decimal_nonempty, digits_decimal, signed_decimal_injective}
use Rattle.std.proofs.lemmas.Bool.{true≢false}
use Rattle.std.proofs.lemmas.List.{append_cancel_left}
use Rattle.std.proofs.lemmas.Slice.Eq.{bytes_eq-Decides}
use Rattle.std.proofs.lemmas.Str.Parse.{digit_at}
use Rattle.json.specs.Print.{escape, quoted}
use Rattle.json.specs.Text.{content, plain}
use Rattle.json.proofs.Printed.Strings.{content-escape}
use Rattle.action_names.specs.Names.{Name, IsName, IsComponent, name_text}
use Rattle.values.specs.declared.value.Value.{Value}
use Rattle.values.specs.declared.value.Value.TheVariants.{Int, Text}
use Rattle.values.specs.Values.{IsValue, value_text}
use Rattle.atomic_types.specs.Operations as op
use Rattle.atomic_types.specs.declared.operation.Arguments.{Arguments}
use Rattle.atomic_types.specs.declared.operation.Arguments.TheVariants as with
use Rattle.atomic_types.specs.Operations.{AreArguments, IsOp, arguments_of, form_of, form_with, name_of, op_name, operation_of}
use Rattle.atomic_types.proofs.Table.{forms_agree, put_together, same_names}
use Rattle.run_model.specs.declared.answer.Answer.{Answer}
use Rattle.run_model.specs.declared.history.Event.{Event}
use Rattle.run_model.specs.declared.step.ArmKind.{ArmKind}
use Rattle.run_model.specs.declared.step.ArmKind.TheVariants as arm
use Rattle.run_model.specs.declared.step.ObjectId.{ObjectId}
use Rattle.run_model.specs.declared.step.Step.{Step}
use Rattle.run_model.specs.declared.step.Step.TheVariants.{Top, NestedTop, Call, Arms, Op, Commit, Close, Prepare, Decide, Abort, Tell, Crash, Recover}
use Rattle.run_model.specs.Texts.{arguments_text, object_text, op_text, kinds_text, HasStepParts, answer_text, step_text}
use Rattle.run_model.specs.Reading.{IsIndex, IsObject, Lacks, op_arguments, is_nothing, step_word, step_arguments}
use Rattle.run_model.specs.Spaces.{number_lacks_space, number_lacks_slash, name_lacks_space, object_lacks_space, index_lacks_space, identifier_lacks_space, numerals}
use Rattle.run_model.proofs.Cutting.{same_cut}
use Rattle.run_model.proofs.Numbers.{int_text}
use Rattle.run_model.proofs.OneAnswer.{one_answer}
use Rattle.run_model.proofs.OneSpelling.{same_name, same_value}
use Rattle.run_model.proofs.Words.{op_name_lacks, op_cases, IsBareOp, IsFullOp, step_text_is, step_word_lacks}
use Rattle.traces.specs.Traces.{IsEvent, event_text}

-- ---- values

-- a string ends where it is closed
same_quoted : (s t x y : List ℕ) → quoted s ++ x ≡ quoted t ++ y → (s ≡ t) × (x ≡ y)
same_quoted s t x y e =
    let inner : (escape s ++ 34 ∷ []) ++ x ≡ (escape t ++ 34 ∷ []) ++ y = cc in
    let h : escape s ++ 34 ∷ x ≡ escape t ++ 34 ∷ y = sym (append_assoc (escape s) (34 ∷ []) x) ∙ inner ∙ append_assoc (escape t) (34 ∷ []) y in
    let found : Some s ≡ Some t = sym (content-escape s x) ∙ ap (content plain) h ∙ content-escape t y in
    let same : s ≡ t = cc in
    let rest : 34 ∷ x ≡ 34 ∷ y = append_cancel_left (escape t) (34 ∷ x) (34 ∷ y) (ap (λ u. escape u ++ 34 ∷ x) (sym same) ∙ h) in
    (same, cc)

int_lacks_space : (z : ℤ) → IsValue (Int z) → Lacks 32 (value_text (Int z))
int_lacks_space z fits = subst (Lacks 32) (sym (int_text z)) (index_lacks_space z fits)

in_front : (a x : List ℕ) → 0 < length a → get_or (a ++ x) 0 0 ≡ get_or a 0 0
in_front [] x some = absurd (omega arith)
in_front (c ∷ a) x some = refl

-- an int begins with a digit or a minus
not_quote : (z : ℤ) (x : List ℕ) → IsValue (Int z) → get_or (value_text (Int z) ++ x) 0 0 ≢ 34
not_quote (pos n) x fits e =
    let small : n < 2 ^ 64 = omega arith in
    let d = digit_at (decimal n) 0 (digits_decimal numerals n small) (decimal_nonempty n small) in
    omega (arith, d.0, e, in_front (decimal n) x (decimal_nonempty n small))
not_quote (negsuc n) x fits e = omega arith

same_value_then : (v w : Value) (x y : List ℕ) → IsValue v → IsValue w → value_text v ++ 32 ∷ x ≡ value_text w ++ 32 ∷ y → (v ≡ w) × (x ≡ y)
same_value_then (Int m) (Int n) x y f g e =
    let parts = same_cut 32 (value_text (Int m)) (value_text (Int n)) x y (int_lacks_space m f) (int_lacks_space n g) e in
    (same_value (Int m) (Int n) f g parts.0, parts.1)
same_value_then (Text s) (Text t) x y f g e = let parts = same_quoted s t (32 ∷ x) (32 ∷ y) e in (ap Text parts.0, cc)
same_value_then (Int m) (Text t) x y f g e = absurd (not_quote m (32 ∷ x) f (ap (λ l. get_or l 0 0) e))
same_value_then (Text s) (Int n) x y f g e = absurd (not_quote n (32 ∷ y) g (ap (λ l. get_or l 0 0) (sym e)))

-- ---- operations

same_index : (y z : ℤ) → IsIndex y → IsIndex z → signed_decimal y ≡ signed_decimal z → y ≡ z
same_index y z f g e = signed_decimal_injective y z (omega arith) (omega arith) e

-- arguments of one form
same_arguments : (a b : Arguments (List ℕ) ℤ Value) (x y : List ℕ) → AreArguments a → AreArguments b → form_with a ≡ form_with b
    → arguments_text a ++ 32 ∷ x ≡ arguments_text b ++ 32 ∷ y → (a ≡ b) × (x ≡ y)
same_arguments with.Nothing with.Nothing x y f g n e = (refl, cc)
same_arguments (with.Word u) (with.Word v) x y f g n e =
    let parts = same_cut 32 u v x y (identifier_lacks_space u f) (identifier_lacks_space v g) e in
    (ap (λ w. with.Word w) parts.0, parts.1)
same_arguments (with.WordValue u v) (with.WordValue t w) x y f g n e =
    let h = sym (append_assoc u (32 ∷ value_text v) (32 ∷ x)) ∙ e ∙ append_assoc t (32 ∷ value_text w) (32 ∷ y) in
    let parts = same_cut 32 u t (value_text v ++ 32 ∷ x) (value_text w ++ 32 ∷ y) (identifier_lacks_space u f.0) (identifier_lacks_space t g.0) h in
    let more = same_value_then v w x y f.1 g.1 parts.1 in
    (ap (λ z. with.WordValue z v) parts.0 ∙ ap (λ z. with.WordValue t z) more.0, more.1)
same_arguments (with.Index m) (with.Index k) x y f g n e =
    let parts = same_cut 32 (signed_decimal m) (signed_decimal k) x y (index_lacks_space m f) (index_lacks_space k g) e in
    (ap (λ z. with.Index z) (same_index m k f g parts.0), parts.1)
same_arguments (with.IndexValue m v) (with.IndexValue k w) x y f g n e =
    let h = sym (append_assoc (signed_decimal m) (32 ∷ value_text v) (32 ∷ x)) ∙ e ∙ append_assoc (signed_decimal k) (32 ∷ value_text w) (32 ∷ y) in
    let parts = same_cut 32 (signed_decimal m) (signed_decimal k) (value_text v ++ 32 ∷ x) (value_text w ++ 32 ∷ y) (index_lacks_space m f.0) (index_lacks_space k g.0) h in
    let more = same_value_then v w x y f.1 g.1 parts.1 in
    (ap (λ z. with.IndexValue z v) (same_index m k f.0 g.0 parts.0) ∙ ap (λ z. with.IndexValue k z) more.0, more.1)
same_arguments (with.Value v) (with.Value w) x y f g n e = let parts = same_value_then v w x y f g e in (ap (λ z. with.Value z) parts.0, parts.1)
same_arguments a b x y f g n e = absurd cc

-- what tells a full operation from a bare one
no_nothing : (o p : op.Op) → form_of (name_of o) ≡ form_of (name_of p) → arguments_of o ≡ with.Nothing → is_nothing (arguments_of p) ≡ false → ⊥
no_nothing o p forms none some = by_form (arguments_of p) (forms_agree o ∙ forms ∙ sym (forms_agree p)) some
  where
    by_form : (a : Arguments (List ℕ) ℤ Value) → form_with (arguments_of o) ≡ form_with a → is_nothing a ≡ false → ⊥
    by_form with.Nothing h s = cc
    by_form (with.Word w) h s = let n = ap form_with none in cc
    by_form (with.WordValue w v) h s = let n = ap form_with none in cc
    by_form (with.Index i) h s = let n = ap form_with none in cc
    by_form (with.IndexValue i v) h s = let n = ap form_with none in cc
    by_form (with.Value v) h s = let n = ap form_with none in cc

-- operations of one name and one list of arguments
same_named : (o p : op.Op) → op_name o ≡ op_name p → arguments_of o ≡ arguments_of p → o ≡ p
same_named o p n arguments =
    let names = same_names (name_of o) (name_of p) n in
    let found : Some o ≡ Some p =
    sym (put_together o) ∙ ap (λ k. operation_of k (arguments_of o)) names ∙ ap (λ a. operation_of (name_of p) a) arguments ∙ put_together p in
    cc

same_forms : (o p : op.Op) → op_name o ≡ op_name p → form_of (name_of o) ≡ form_of (name_of p)
same_forms o p n = ap form_of (same_names (name_of o) (name_of p) n)

same_op : (o p : op.Op) (x y : List ℕ) → IsOp o → IsOp p → op_text o ++ 32 ∷ 45 ∷ x ≡ op_text p ++ 32 ∷ 45 ∷ y → (o ≡ p) × (x ≡ y)
same_op o p x y f g e = elim (op_cases o) [ inl b ↦ from_bare b (op_cases p) | inr b ↦ from_full b (op_cases p) ]
  where
    bare : (q : op.Op) (z : List ℕ) → IsBareOp q → op_text q ++ 32 ∷ 45 ∷ z ≡ op_name q ++ 32 ∷ 45 ∷ z
    bare q z b = ap (λ (t : List ℕ). t ++ 32 ∷ 45 ∷ z) b.text

    full : (q : op.Op) (z : List ℕ) → IsFullOp q → op_text q ++ 32 ∷ 45 ∷ z ≡ op_name q ++ 32 ∷ (op_arguments q ++ 32 ∷ 45 ∷ z)
    full q z b = ap (λ (t : List ℕ). t ++ 32 ∷ 45 ∷ z) b.text ∙ append_assoc (op_name q) (32 ∷ op_arguments q) (32 ∷ 45 ∷ z)

    from_bare : IsBareOp o → IsBareOp p ⊎ IsFullOp p → (o ≡ p) × (x ≡ y)
    from_bare b (inl c) =
        let parts = same_cut 32 (op_name o) (op_name p) (45 ∷ x) (45 ∷ y) (op_name_lacks o) (op_name_lacks p) (sym (bare o x b) ∙ e ∙ bare p y c) in
        (same_named o p parts.0 (b.nothing ∙ sym c.nothing), cc)
    from_bare b (inr c) =
        let parts = same_cut 32 (op_name o) (op_name p) (45 ∷ x) (op_arguments p ++ 32 ∷ 45 ∷ y) (op_name_lacks o) (op_name_lacks p) (sym (bare o x b) ∙ e ∙ full p y c) in
        absurd (no_nothing o p (same_forms o p parts.0) b.nothing c.bare)

    from_full : IsFullOp o → IsBareOp p ⊎ IsFullOp p → (o ≡ p) × (x ≡ y)
    from_full b (inl c) =
        let parts = same_cut 32 (op_name o) (op_name p) (op_arguments o ++ 32 ∷ 45 ∷ x) (45 ∷ y) (op_name_lacks o) (op_name_lacks p) (sym (full o x b) ∙ e ∙ bare p y c) in
        absurd (no_nothing p o (sym (same_forms o p parts.0)) c.nothing b.bare)
    from_full b (inr c) =
        let parts = same_cut 32 (op_name o) (op_name p) (op_arguments o ++ 32 ∷ 45 ∷ x) (op_arguments p ++ 32 ∷ 45 ∷ y) (op_name_lacks o) (op_name_lacks p) (sym (full o x b) ∙ e ∙ full p y c) in
        let forms = forms_agree o ∙ same_forms o p parts.0 ∙ sym (forms_agree p) in
        let more = same_arguments (arguments_of o) (arguments_of p) (45 ∷ x) (45 ∷ y) f g forms parts.1 in
        (same_named o p parts.0 more.0, cc)

-- ---- steps

-- words that a test tells apart
apart : (a b : List ℕ) → bytes_eq a b ≡ false → a ≢ b
apart a b h e = true≢false (sym ((bytes_eq-Decides a b).1 e) ∙ h)

same_number : (m n : ℕ) → IsComponent m → IsComponent n → decimal m ≡ decimal n → m ≡ n
same_number m n f g e = decimal_injective m n (omega (arith, f.1)) (omega (arith, g.1)) e

number_then : (m n : ℕ) (x y : List ℕ) → IsComponent m → IsComponent n → decimal m ++ 32 ∷ x ≡ decimal n ++ 32 ∷ y → (m ≡ n) × (x ≡ y)
number_then m n x y f g e =
    let parts = same_cut 32 (decimal m) (decimal n) x y (number_lacks_space m f) (number_lacks_space n g) e in
    (same_number m n f g parts.0, parts.1)

name_then : (a b : Name) (x y : List ℕ) → IsName a → IsName b → name_text a ++ 32 ∷ x ≡ name_text b ++ 32 ∷ y → (a ≡ b) × (x ≡ y)
name_then a b x y f g e =
    let parts = same_cut 32 (name_text a) (name_text b) x y (name_lacks_space a f) (name_lacks_space b g) e in
    (same_name a b f g parts.0, parts.1)

object_then : (u v : ObjectId) (x y : List ℕ) → IsObject u → IsObject v → object_text u ++ 32 ∷ x ≡ object_text v ++ 32 ∷ y → (u ≡ v) × (x ≡ y)
object_then u v x y f g e =
    let parts = same_cut 32 (object_text u) (object_text v) x y (object_lacks_space u f) (object_lacks_space v g) e in
    let inner = same_cut 47 (decimal u.guardian) (decimal v.guardian) (decimal u.number) (decimal v.number) (number_lacks_slash u.guardian f.0) (number_lacks_slash v.guardian g.0) parts.0 in
    let made : ℕ → ℕ → ObjectId = λ m n. record { guardian = m; number = n } in
    (ap (λ m. made m u.number) (same_number u.guardian v.guardian f.0 g.0 inner.0) ∙ ap (made v.guardian) (same_number u.number v.number f.1 g.1 inner.1), parts.1)

same_kinds : (ks js : List ArmKind) (x y : List ℕ) → kinds_text ks ++ 32 ∷ 45 ∷ x ≡ kinds_text js ++ 32 ∷ 45 ∷ y → (ks ≡ js) × (x ≡ y)
same_kinds [] [] x y e = (refl, cc)
same_kinds [] (arm.Sub ∷ js) x y e = absurd (omega (arith, ap (λ l. get_or l 1 0) e))
same_kinds [] (arm.Top ∷ js) x y e = absurd (omega (arith, ap (λ l. get_or l 1 0) e))
same_kinds (arm.Sub ∷ ks) [] x y e = absurd (omega (arith, ap (λ l. get_or l 1 0) e))
same_kinds (arm.Top ∷ ks) [] x y e = absurd (omega (arith, ap (λ l. get_or l 1 0) e))
same_kinds (arm.Sub ∷ ks) (arm.Top ∷ js) x y e = absurd (omega (arith, ap (λ l. get_or l 1 0) e))
same_kinds (arm.Top ∷ ks) (arm.Sub ∷ js) x y e = absurd (omega (arith, ap (λ l. get_or l 1 0) e))
same_kinds (arm.Sub ∷ ks) (arm.Sub ∷ js) x y e =
    let t : kinds_text ks ++ 32 ∷ 45 ∷ x ≡ kinds_text js ++ 32 ∷ 45 ∷ y = cc in
    let rest = same_kinds ks js x y t in
    (ap (λ l. arm.Sub ∷ l) rest.0, rest.1)
same_kinds (arm.Top ∷ ks) (arm.Top ∷ js) x y e =
    let t : kinds_text ks ++ 32 ∷ 45 ∷ x ≡ kinds_text js ++ 32 ∷ 45 ∷ y = cc in
    let rest = same_kinds ks js x y t in
    (ap (λ l. arm.Top ∷ l) rest.0, rest.1)

-- what follows a name is a space
kinds_space : (ks : List ArmKind) (x : List ℕ) → (r : List ℕ) × (kinds_text ks ++ 32 ∷ x ≡ 32 ∷ r)
kinds_space [] x = (x, refl)
kinds_space (arm.Sub ∷ ks) x = (115 ∷ (kinds_text ks ++ 32 ∷ x), refl)
kinds_space (arm.Top ∷ ks) x = (116 ∷ (kinds_text ks ++ 32 ∷ x), refl)

same_arms : (a b : Name) (ks js : List ArmKind) (x y : List ℕ) → IsName a → IsName b
    → name_text a ++ (kinds_text ks ++ 32 ∷ 45 ∷ x) ≡ name_text b ++ (kinds_text js ++ 32 ∷ 45 ∷ y) → (a ≡ b) × (ks ≡ js) × (x ≡ y)
same_arms a b ks js x y f g e =
    let u = kinds_space ks (45 ∷ x) in
    let v = kinds_space js (45 ∷ y) in
    let parts = name_then a b u.0 v.0 f g (ap (λ (t : List ℕ). name_text a ++ t) (sym u.1) ∙ e ∙ ap (λ (t : List ℕ). name_text b ++ t) v.1) in
    let kinds = same_kinds ks js x y (u.1 ∙ ap (λ (t : List ℕ). 32 ∷ t) parts.1 ∙ sym v.1) in
    (parts.0, kinds.0, kinds.1)

-- steps of one word
same_step : (s t : Step) (x y : List ℕ) → HasStepParts s → HasStepParts t → step_word s ≡ step_word t
    → step_arguments s ++ 32 ∷ 45 ∷ x ≡ step_arguments t ++ 32 ∷ 45 ∷ y → (s ≡ t) × (x ≡ y)
same_step (Top m) (Top n) x y f g w e = let p = number_then m n (45 ∷ x) (45 ∷ y) f g e in (ap Top p.0, cc)
same_step (NestedTop a) (NestedTop b) x y f g w e = let p = name_then a b (45 ∷ x) (45 ∷ y) f g e in (ap NestedTop p.0, cc)
same_step (Call a m) (Call b n) x y f g w e =
    let p = name_then a b _ _ f.0 g.0 (sym (append_assoc (name_text a) (32 ∷ decimal m) (32 ∷ 45 ∷ x)) ∙ e ∙ append_assoc (name_text b) (32 ∷ decimal n) (32 ∷ 45 ∷ y)) in
    let q = number_then m n (45 ∷ x) (45 ∷ y) f.1 g.1 p.1 in
    (ap (λ c. Call c m) p.0 ∙ ap (Call b) q.0, cc)
same_step (Arms a ks) (Arms b js) x y f g w e =
    let p = same_arms a b ks js x y f g (sym (append_assoc (name_text a) (kinds_text ks) (32 ∷ 45 ∷ x)) ∙ e ∙ append_assoc (name_text b) (kinds_text js) (32 ∷ 45 ∷ y)) in
    (ap (λ c. Arms c ks) p.0 ∙ ap (Arms b) p.1, p.2)
same_step (Op a u o) (Op b v q) x y f g w e =
    let h = sym (append_assoc (name_text a) (32 ∷ (object_text u ++ 32 ∷ op_text o)) (32 ∷ 45 ∷ x)) ∙ e ∙ append_assoc (name_text b) (32 ∷ (object_text v ++ 32 ∷ op_text q)) (32 ∷ 45 ∷ y) in
    let p = name_then a b _ _ f.0 g.0 h in
    let k = sym (append_assoc (object_text u) (32 ∷ op_text o) (32 ∷ 45 ∷ x)) ∙ p.1 ∙ append_assoc (object_text v) (32 ∷ op_text q) (32 ∷ 45 ∷ y) in
    let r = object_then u v _ _ (f.1, f.2) (g.1, g.2) k in
    let z = same_op o q x y f.3 g.3 r.1 in
    (ap (λ c. Op c u o) p.0 ∙ ap (λ c. Op b c o) r.0 ∙ ap (Op b v) z.0, z.1)
same_step (Commit a) (Commit b) x y f g w e = let p = name_then a b (45 ∷ x) (45 ∷ y) f g e in (ap Commit p.0, cc)
same_step (Close a) (Close b) x y f g w e = let p = name_then a b (45 ∷ x) (45 ∷ y) f g e in (ap Close p.0, cc)
same_step (Prepare m a) (Prepare n b) x y f g w e =
    let p = number_then m n _ _ f.0 g.0 (sym (append_assoc (decimal m) (32 ∷ name_text a) (32 ∷ 45 ∷ x)) ∙ e ∙ append_assoc (decimal n) (32 ∷ name_text b) (32 ∷ 45 ∷ y)) in
    let q = name_then a b (45 ∷ x) (45 ∷ y) f.1 g.1 p.1 in
    (ap (λ k. Prepare k a) p.0 ∙ ap (Prepare n) q.0, cc)
same_step (Decide a) (Decide b) x y f g w e = let p = name_then a b (45 ∷ x) (45 ∷ y) f g e in (ap Decide p.0, cc)
same_step (Abort a) (Abort b) x y f g w e = let p = name_then a b (45 ∷ x) (45 ∷ y) f g e in (ap Abort p.0, cc)
same_step (Tell m a) (Tell n b) x y f g w e =
    let p = number_then m n _ _ f.0 g.0 (sym (append_assoc (decimal m) (32 ∷ name_text a) (32 ∷ 45 ∷ x)) ∙ e ∙ append_assoc (decimal n) (32 ∷ name_text b) (32 ∷ 45 ∷ y)) in
    let q = name_then a b (45 ∷ x) (45 ∷ y) f.1 g.1 p.1 in
    (ap (λ k. Tell k a) p.0 ∙ ap (Tell n) q.0, cc)
same_step (Crash m) (Crash n) x y f g w e = let p = number_then m n (45 ∷ x) (45 ∷ y) f g e in (ap Crash p.0, cc)
same_step (Recover m) (Recover n) x y f g w e = let p = number_then m n (45 ∷ x) (45 ∷ y) f g e in (ap Recover p.0, cc)
same_step s t x y f g w e = absurd (apart (step_word s) (step_word t) refl w)

-- ---- events

one_step_then : (s t : Step) (x y : List ℕ) → HasStepParts s → HasStepParts t → step_text s ++ 32 ∷ 45 ∷ x ≡ step_text t ++ 32 ∷ 45 ∷ y → (s ≡ t) × (x ≡ y)
one_step_then s t x y f g e =
    let parts = same_cut 32 (step_word s) (step_word t) _ _ (step_word_lacks s) (step_word_lacks t) (sym (behind s x) ∙ e ∙ behind t y) in
    same_step s t x y f g parts.0 parts.1
  where
    behind : (u : Step) (z : List ℕ) → step_text u ++ 32 ∷ 45 ∷ z ≡ step_word u ++ 32 ∷ (step_arguments u ++ 32 ∷ 45 ∷ z)
    behind u z = ap (λ (l : List ℕ). l ++ 32 ∷ 45 ∷ z) (step_text_is u) ∙ append_assoc (step_word u) (32 ∷ step_arguments u) (32 ∷ 45 ∷ z)

-- a text is one event at most
pub one_event : (d e : Event) → IsEvent d → IsEvent e → event_text d ≡ event_text e → d ≡ e
one_event d e f g same =
    let parts = one_step_then d.step e.step (62 ∷ 32 ∷ answer_text d.answer) (62 ∷ 32 ∷ answer_text e.answer) f.step.parts g.step.parts same in
    let texts : answer_text d.answer ≡ answer_text e.answer = cc in
    let answers = one_answer (answer_text d.answer) d.answer e.answer (record { fits = f.answer; text = refl }) (record { fits = g.answer; text = texts }) in
    let made : Step → Answer → Event = λ s a. record { step = s; answer = a } in
    ap (λ s. made s d.answer) parts.0 ∙ ap (made e.step) answers
