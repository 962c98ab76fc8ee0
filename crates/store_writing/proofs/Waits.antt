-- Parts that wait, as they are taken and written.
use Rattle.std.proofs.Common.{◌≡◌, ℕ, suc, ne_eqb, ◌<◌, ◌==◌, ◌||◌, false, arith, subst, List, [], ◌∷◌, ◌++◌, map as each, length, pos, Ok, Err, OnOk, Result, refl, sym, ap, ◌∙◌, append_assoc, append-nil}
use Rattle.std.specs.List.{AllByRecursion}
use Rattle.std.specs.FinMap as map
use Rattle.std.proofs.lemmas.List.Sums.{fold-append}
use Rattle.sqlite.specs.declared.types.Value.TheVariants.{Int, Text}
use Rattle.sqlite.specs.declared.error.Error.{Error}
use Rattle.sqlite.specs.State.{State, HasCleanDisk}
use Rattle.atomic_types.specs.declared.part.Part.{Part}
use Rattle.stable_store.specs.Stored.{Stored}
use Rattle.stable_store.specs.Numbers.{has_zero}
use Rattle.store_tables.proofs.Decides.{cells}
use Rattle.store_tables.specs.Changes.{with_base, all_put}
use Rattle.store_tables.specs.Shown.{IsValue}
use Rattle.store_tables.proofs.Statements.{spelled, FitsBase, FitsRecord}
use Rattle.store_writing.specs.declared.waiting.PartText.{PartText}
use Rattle.store_writing.specs.Steps.{Stays, Steps}
use Rattle.store_writing.specs.Waiting.{IsTextOf, AreTextsOf, HasOneMore, parameters_of, Waits, Takes}
use Rattle.store_writing.proofs.Inside.{steps_then, step_ok}
use Rattle.store_writing.proofs.Loops.{or_false, first_above, rest_above}

-- ---- texts

texts_more : (ws : List PartText) (es : List (ℕ × Part)) (w : PartText) (e : ℕ × Part) → AreTextsOf ws es → IsTextOf w e
    → AreTextsOf (ws ++ w ∷ []) (es ++ e ∷ [])
texts_more [] [] w e h one = (one, tt)
texts_more [] (x ∷ es) w e h one = absurd h
texts_more (v ∷ ws) [] w e h one = absurd h
texts_more (v ∷ ws) (x ∷ es) w e h one = (h.0, texts_more ws es w e h.1 one)

pub texts_length : (ws : List PartText) (es : List (ℕ × Part)) → AreTextsOf ws es → length es ≡ length ws
texts_length [] [] h = refl
texts_length [] (e ∷ es) h = absurd h
texts_length (w ∷ ws) [] h = absurd h
texts_length (w ∷ ws) (e ∷ es) h = ap suc (texts_length ws es h.1)

pub parameters_are : (ws : List PartText) (es : List (ℕ × Part)) → AreTextsOf ws es → parameters_of ws ≡ cells (each spelled es)
parameters_are [] [] h = refl
parameters_are [] (e ∷ es) h = absurd h
parameters_are (w ∷ ws) [] h = absurd h
parameters_are (w ∷ ws) (e ∷ es) h = λ i. Int (pos (h.0.object i)) ∷ Text (h.0.text i) ∷ parameters_are ws es h.1 i

pub fit_the_base : (ws : List PartText) (es : List (ℕ × Part)) → AreTextsOf ws es → has_zero es ≡ false → AllByRecursion FitsBase es
fit_the_base [] [] h none = tt
fit_the_base [] (e ∷ es) h none = absurd h
fit_the_base (w ∷ ws) [] h none = absurd h
fit_the_base (w ∷ ws) (e ∷ es) h none =
    (((first_above e.0 e.1 es none, h.0.high), h.0.stored), fit_the_base ws es h.1 (rest_above e.0 e.1 es none))

pub fit_a_record : (ws : List PartText) (es : List (ℕ × Part)) → AreTextsOf ws es → AllByRecursion (λ e. IsValue e.1) es → has_zero es ≡ false
    → AllByRecursion FitsRecord es
fit_a_record [] [] h kinds none = tt
fit_a_record [] (e ∷ es) h kinds none = absurd h
fit_a_record (w ∷ ws) [] h kinds none = absurd h
fit_a_record (w ∷ ws) (e ∷ es) h kinds none =
    (((first_above e.0 e.1 es none, h.0.high), h.0.stored, kinds.0), fit_a_record ws es h.1 kinds.1 (rest_above e.0 e.1 es none))

-- ---- numbers from 1

pub zero_parts : (xs ys : List (ℕ × Part)) → has_zero (xs ++ ys) ≡ false → (has_zero xs ≡ false) × (has_zero ys ≡ false)
zero_parts [] ys h = (refl, h)
zero_parts (x ∷ xs) ys h =
    let both = or_false _ _ h in
    let rest = zero_parts xs ys both.1 in
    (ap (λ b. b || has_zero xs) both.0 ∙ rest.0, rest.1)

pub above_is : (o : ℕ) → 0 < o → ((o == 0) || false) ≡ false
above_is o low = ap (λ b. b || false) (ne_eqb o 0 (λ e. omega (arith, low, e)))

-- parts that are put into the base in two runs
pub put_more : (done es : List (ℕ × Part)) (k : Stored)
    → with_base (all_put (done ++ es) k.base) k ≡ with_base (all_put es (all_put done k.base)) (with_base (all_put done k.base) k)
put_more done es k = ap (λ b. with_base b k) (fold-append (λ b (e : ℕ × Part). map.insert b e.0 e.1) k.base done es)

-- ---- what waits

module _ (Kind : Part → Type 0) where
  all_more : (es : List (ℕ × Part)) (e : ℕ × Part) → AllByRecursion (λ x. Kind x.1) es → Kind e.1 → AllByRecursion (λ x. Kind x.1) (es ++ e ∷ [])
  all_more [] e h one = (one, tt)
  all_more (x ∷ es) e h one = (h.0, all_more es e h.1 one)

  -- nothing waits
  pub none_wait : (ws : List PartText) (all : List (ℕ × Part)) → ws ≡ [] → Waits Kind ws all all
  none_wait ws all none = subst (λ l. Waits Kind l all all) (sym none) (record { left = []; whole = append-nil all; texts = tt; kinds = tt })

  -- one part more waits
  pub one_more_waits : (ws next : List PartText) (written all : List (ℕ × Part)) (e : ℕ × Part) → Waits Kind ws written all → Kind e.1
      → HasOneMore ws next e → Waits Kind next written (all ++ e ∷ [])
  one_more_waits ws next written all e h kind one = record {
    left = h.left ++ e ∷ [];
    whole = sym (append_assoc written h.left (e ∷ [])) ∙ ap (λ l. l ++ e ∷ []) h.whole;
    texts = subst (λ l. AreTextsOf l (h.left ++ e ∷ [])) (sym one.whole) (texts_more ws h.left one.last e h.texts one.is);
    kinds = all_more h.left e h.kinds kind;
  }

  -- where nothing waits, all are written
  pub all_written : (ws : List PartText) (written all : List (ℕ × Part)) → ws ≡ [] → Waits Kind ws written all → written ≡ all
  all_written ws written all none h = go h.left h.whole (subst (λ l. AreTextsOf l h.left) none h.texts)
    where
      go : (left : List (ℕ × Part)) → written ++ left ≡ all → AreTextsOf [] left → written ≡ all
      go [] whole texts = sym (append-nil written) ∙ whole
      go (e ∷ es) whole texts = absurd texts

  -- the first of those that wait
  pub next_waits : (w : PartText) (ws : List PartText) (written all : List (ℕ × Part)) → Waits Kind (w ∷ ws) written all
      → (e : ℕ × Part) × IsTextOf w e × Kind e.1 × Waits Kind ws (written ++ e ∷ []) all
  next_waits w ws written all h = go h.left h.whole h.texts h.kinds
    where
      go : (left : List (ℕ × Part)) → written ++ left ≡ all → AreTextsOf (w ∷ ws) left → AllByRecursion (λ x. Kind x.1) left
          → (e : ℕ × Part) × IsTextOf w e × Kind e.1 × Waits Kind ws (written ++ e ∷ []) all
      go [] whole texts kinds = absurd texts
      go (e ∷ es) whole texts kinds =
          (e, texts.0, kinds.0, record { left = es; whole = append_assoc written (e ∷ []) es ∙ whole; texts = texts.1; kinds = kinds.1 })

  -- two parts of a transaction in turn
  pub takes_then : (a b d : State) (was now : List PartText) (so_far all : List (ℕ × Part)) (after : List (ℕ × Part) → Stored) (r : Result (Unit {0}) Error)
      → (HasCleanDisk d → HasCleanDisk b) → Takes Kind a b was so_far after (Ok tt) → Takes Kind b d now all after r → Takes Kind a d now all after r
  takes_then a b d was now so_far all after r clean one two = record {
    written = two.written;
    waits = two.waits;
    steps = steps_then a b d (after one.written) (after two.written) tt r clean one.steps (λ _. two.steps);
  }

pub when_ok : {T E P : Type 0} (r : Result T E) → P → OnOk r P
when_ok (Ok x) p = p
when_ok (Err e) p = tt

-- how it ended, in other words
pub takes_ok : {Kind : Part → Type 0} {a b : State} {ws : List PartText} {all : List (ℕ × Part)} {after : List (ℕ × Part) → Stored} {v : Unit {0}}
    → Takes Kind a b ws all after (Ok v) → Takes Kind a b ws all after (Ok tt)
takes_ok h = record { written = h.written; waits = h.waits; steps = step_ok h.steps }

-- what a part of a transaction left
pub stays_after : {T E : Type 0} (a b : State) (x : Stored) (v : T) → Steps {T = T} {E = E} a b x (Ok v) → Stays b x
stays_after a b x v h clean = let it = h.ok clean in (it.1, it.2)
