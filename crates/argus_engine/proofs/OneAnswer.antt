-- A text has one answer text, and what was answered so far begins it.
use Rattle.std.proofs.Common.{◌≡◌, ◌≢◌, ℕ, suc, ◌+◌, List, [], ◌∷◌, ◌++◌, length, refl, sym, ap, subst, ◌∙◌, append_assoc, arith, inl, inr, ◌⊎◌}
use Rattle.std.specs.List.{AllByRecursion}
use Rattle.run_model.specs.declared.step.Step.{Step}
use Rattle.run_model.specs.declared.history.Event.{Event}
use Rattle.run_model.specs.Openings.{Opening}
use Rattle.run_model.specs.Answers.{answer_of}
use Rattle.run_model.specs.Runs.{history_after, history_from}
use Rattle.run_model.specs.Texts.{IsStep, step_text, answer_text}
use Rattle.run_model.specs.Transcripts.{IsAnswered, at_end, step, no_step, BeginsWithStep, error_text}
use Rattle.run_model.proofs.Cutting.{same_cut}
use Rattle.run_model.proofs.OneSpelling.{one_step}
use Rattle.argus_engine.specs.Serving.{step_lines}
use Rattle.argus_engine.specs.Reading.{answer_lines}
use Rattle.argus_engine.proofs.NoLineFeed.{step_lacks_line_feed}

-- a text goes on with the line of one step at most
pub same_step : (s t : Step) (a b : List ℕ) → IsStep s → IsStep t → step_text s ++ 10 ∷ a ≡ step_text t ++ 10 ∷ b → (s ≡ t) × (a ≡ b)
same_step s t a b f g e =
    let parts = same_cut 10 (step_text s) (step_text t) a b (step_lacks_line_feed s f.parts) (step_lacks_line_feed t g.parts) e in
    (one_step (step_text s) s t (record { fits = f; text = refl }) (record { fits = g; text = parts.0 }), parts.1)

-- the ways in which a text is answered
pub record ByStep (opening : Opening) (past : List Event) (number : ℕ) (text answers : List ℕ) : Type 0 where
  pub made : Step
  pub fits : IsStep made
  pub rest : List ℕ
  pub more : List ℕ
  pub line : text ≡ step_text made ++ 10 ∷ rest
  pub answer : answers ≡ answer_text (answer_of opening made past) ++ 10 ∷ more
  pub answered : IsAnswered opening (history_after made (answer_of opening made past) past) (suc number) rest more

pub record ByError (number : ℕ) (text answers : List ℕ) : Type 0 where
  pub some : text ≢ []
  pub other : BeginsWithStep text → ⊥
  pub answer : answers ≡ error_text number

pub record AtEnd (text answers : List ℕ) : Type 0 where
  pub ended : text ≡ []
  pub nothing : answers ≡ []

abbrev Ways : Opening → List Event → ℕ → List ℕ → List ℕ → Type 0
Ways opening past number text answers = ByStep opening past number text answers ⊎ (ByError number text answers ⊎ AtEnd text answers)

ways : (opening : Opening) (past : List Event) (number : ℕ) (text answers : List ℕ) → IsAnswered opening past number text answers → Ways opening past number text answers
ways opening past number _ _ at_end = inr (inr (record { ended = refl; nothing = refl }))
ways opening past number _ _ (step s fits h) = inl (record { made = s; fits = fits; rest = _; more = _; line = refl; answer = refl; answered = h })
ways opening past number text _ (no_step some other) = inr (inl (record { some = some; other = other; answer = refl }))

not_empty : (a : List ℕ) (b : List ℕ) → a ++ 10 ∷ b ≢ []
not_empty [] b e = absurd cc
not_empty (x ∷ a) b e = absurd cc

-- where the text goes on with the line of a step, so does its answer
pub by_step : (opening : Opening) (past : List Event) (number : ℕ) (s : Step) (rest answers : List ℕ) → IsStep s → IsAnswered opening past number (step_text s ++ 10 ∷ rest) answers
    → (more : List ℕ) × (answers ≡ answer_text (answer_of opening s past) ++ 10 ∷ more) × IsAnswered opening (history_after s (answer_of opening s past) past) (suc number) rest more
by_step opening past number s rest answers fits h =
    elim (ways opening past number (step_text s ++ 10 ∷ rest) answers h) [
      | inl w ↦ (
          let same = same_step w.made s w.rest rest w.fits fits (sym w.line) in (
            w.more,
            w.answer ∙ ap (λ (t : Step). answer_text (answer_of opening t past) ++ 10 ∷ w.more) same.0,
            subst (λ (r : List ℕ). IsAnswered opening (history_after s (answer_of opening s past) past) (suc number) r w.more) same.1
                (subst (λ (t : Step). IsAnswered opening (history_after t (answer_of opening t past) past) (suc number) w.rest w.more) same.0 w.answered),
          )
          )
      | inr (inl w) ↦ absurd (w.other (s, fits, rest, refl))
      | inr (inr w) ↦ absurd (not_empty (step_text s) rest w.ended)
    ]

-- a text that goes on with no step has its error for an answer
pub by_error : (opening : Opening) (past : List Event) (number : ℕ) (text answers : List ℕ) → text ≢ [] → (BeginsWithStep text → ⊥) → IsAnswered opening past number text answers → answers ≡ error_text number
by_error opening past number text answers some other h =
    elim (ways opening past number text answers h) [
      | inl w ↦ absurd (other (w.made, w.fits, w.rest, w.line))
      | inr (inl w) ↦ w.answer
      | inr (inr w) ↦ absurd (some w.ended)
    ]

-- what belongs to the lines of steps and a rest begins with the lines of their answers
pub back : (opening : Opening) (past : List Event) (number : ℕ) (steps : List Step) (rest answers : List ℕ) → AllByRecursion IsStep steps
    → IsAnswered opening past number (step_lines steps ++ rest) answers
    → (more : List ℕ) × (answers ≡ answer_lines opening past steps ++ more) × IsAnswered opening (history_from opening past steps) (number + length steps) rest more
back opening past number [] rest answers each h = (answers, refl, subst (λ n. IsAnswered opening past n rest answers) (omega arith) h)
back opening past number (s ∷ steps) rest answers each h =
    let answer = answer_of opening s past in
    let shape : (step_text s ++ 10 ∷ step_lines steps) ++ rest ≡ step_text s ++ 10 ∷ (step_lines steps ++ rest) = append_assoc (step_text s) (10 ∷ step_lines steps) rest in
    let first = by_step opening past number s (step_lines steps ++ rest) answers each.0 (subst (λ (t : List ℕ). IsAnswered opening past number t answers) shape h) in
    let others = back opening (history_after s answer past) (suc number) steps rest first.0 each.1 first.2 in (
      others.0,
      first.1 ∙ ap (λ (m : List ℕ). answer_text answer ++ 10 ∷ m) others.1 ∙ sym (append_assoc (answer_text answer) (10 ∷ answer_lines opening (history_after s answer past) steps) others.0),
      subst (λ n. IsAnswered opening (history_from opening (history_after s answer past) steps) n rest others.0) (omega arith) others.2,
    )

-- and the other way
pub forth : (opening : Opening) (past : List Event) (number : ℕ) (steps : List Step) (rest more : List ℕ) → AllByRecursion IsStep steps
    → IsAnswered opening (history_from opening past steps) (number + length steps) rest more → IsAnswered opening past number (step_lines steps ++ rest) (answer_lines opening past steps ++ more)
forth opening past number [] rest more each h = subst (λ n. IsAnswered opening past n rest more) (omega arith) h
forth opening past number (s ∷ steps) rest more each h =
    let answer = answer_of opening s past in
    let later = history_after s answer past in
    let others = forth opening later (suc number) steps rest more each.1 (subst (λ n. IsAnswered opening (history_from opening later steps) n rest more) (omega arith) h) in
    let made : IsAnswered opening past number (step_text s ++ 10 ∷ (step_lines steps ++ rest)) (answer_text answer ++ 10 ∷ (answer_lines opening later steps ++ more)) = step s each.0 others in
    subst (λ (t : List ℕ). IsAnswered opening past number t (answer_lines opening past (s ∷ steps) ++ more)) (sym (append_assoc (step_text s) (10 ∷ step_lines steps) rest))
    (subst (λ (a : List ℕ). IsAnswered opening past number (step_text s ++ 10 ∷ (step_lines steps ++ rest)) a) (sym (append_assoc (answer_text answer) (10 ∷ answer_lines opening later steps) more)) made)

-- a text has one answer text
pub one_answer : (opening : Opening) (past : List Event) (number : ℕ) (text a b : List ℕ) → IsAnswered opening past number text a → IsAnswered opening past number text b → a ≡ b
one_answer opening past number _ _ b at_end h =
    elim (ways opening past number [] b h) [
      | inl w ↦ absurd (not_empty (step_text w.made) w.rest (sym w.line))
      | inr (inl w) ↦ absurd (w.some refl)
      | inr (inr w) ↦ sym w.nothing
    ]
one_answer opening past number _ _ b (step {rest = rest} s fits g) h =
    let next = by_step opening past number s rest b fits h in
    ap (λ (m : List ℕ). answer_text (answer_of opening s past) ++ 10 ∷ m) (one_answer opening _ _ rest _ next.0 g next.2) ∙ sym next.1
one_answer opening past number text _ b (no_step some other) h = sym (by_error opening past number text b some other h)
