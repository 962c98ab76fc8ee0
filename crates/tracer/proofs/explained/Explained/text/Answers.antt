use Rattle.std.proofs.Common.{string_bytes, ◌≡◌, ◌∷◌, [], ◌∙◌, ap, ◌++◌, codes, sym, List, ℕ, subst, arith}
use Rattle.std.proofs.lemmas.Str.{encode_ascii}
use Rattle.run_model.specs.declared.answer.Answer.TheVariants.{Refused}
use Rattle.run_model.specs.declared.answer.Refusal.TheVariants.{NoAction}
use Rattle.run_model.specs.Texts.{answer_text}
use Rattle.run_model.specs.Explaining.{explanation_lines}
use Rattle.tracer.specs.declared.explained.Explained.{Explained}
use Rattle.tracer.specs.Explained.{Explains, entries_text}
use Rattle.tracer.proofs.Lines.{lines_by_place}
use Rattle.tracer.proofs.explained.Explained.text.Goals as goal
use Rattle.tracer.proofs.explained.Explained.text.Goals.{in-NotBegun+in_ok-write_to-in-NotBegun+in_ok-push-in-NotBegun, in-Orphan+in_ok-push_str-in-Orphan, in-Sees+in_ok-append_lines-in-Sees}

pub returns : goal.returns
returns c = λ told past said.
    let Says : Explained → Type 0 = λ e. Explains e told past in
    let empty : string_bytes c.new-text.result ≡ [] = c.new-text.ensures.bytes in
    elim c.match-self.branch [
      | in-NotBegun+in_ok-write_to-in-NotBegun+in_ok-push-in-NotBegun w ↦
          ap string_bytes w.text-is ∙ w.in_ok-push-in-NotBegun.ensures.bytes
          ∙ ap (λ (t : List ℕ). string_bytes w.write_to.new.text ++ t) (encode_ascii 10 (omega arith))
          ∙ ap (λ (t : List ℕ). t ++ 10 ∷ []) (w.in_ok-write_to-in-NotBegun.ensures.ok ∙ ap (λ (t : List ℕ). t ++ answer_text (Refused NoAction)) empty)
          ∙ ap (λ e. explanation_lines e past) (sym (subst Says w.in-NotBegun.is said))
      | in-Orphan+in_ok-push_str-in-Orphan w ↦
          ap string_bytes w.text-is ∙ w.in_ok-push_str-in-Orphan.ensures.bytes ∙ ap (λ (t : List ℕ). t ++ (codes "orphan" ++ 10 ∷ [])) empty
          ∙ ap (λ e. explanation_lines e past) (sym (subst Says w.in-Orphan.is said))
      | in-Sees+in_ok-append_lines-in-Sees w ↦
          let seen = subst Says w.in-Sees.is said in
          ap string_bytes w.text-is ∙ w.in_ok-append_lines-in-Sees.ensures ∙ ap (λ (t : List ℕ). t ++ entries_text w.in-Sees.operations.entries) empty
          ∙ lines_by_place past _ seen.0 seen.2 ∙ ap (λ e. explanation_lines e past) (sym seen.1)
    ]
