-- The text of a place and of the operations at their places, piece after piece.
use Rattle.std.proofs.Common.{◌≡◌, ℕ, suc, ◌+◌, ◌<◌, List, [], ◌∷◌, ◌++◌, length, map, take, get_or, drop, codes, refl, sym, ap, ◌∙◌, arith}
use Rattle.std.proofs.lemmas.List.{append_assoc, take_more}
use Rattle.run_model.specs.declared.history.Event.{Event}
use Rattle.run_model.specs.Keeping as keeping
use Rattle.run_model.specs.Places.{place_of}
use Rattle.run_model.specs.Explaining.{place_number, place_text, operation_text, operation_lines}
use Rattle.run_model.specs.Texts.{space, object_text, op_text, reply_text}
use Rattle.action_names.specs.Names.{name_text}
use Rattle.run_model.specs.Transcripts.{line_feed}
use Rattle.tracer.specs.declared.place.ClosingStep.{ClosingStep}
use Rattle.tracer.specs.declared.place.Place.{Place}
use Rattle.tracer.specs.declared.explained.Performed.{Performed}
use Rattle.tracer.specs.Places.{step_number, place_numbers}
use Rattle.tracer.specs.Explained.{Placed, placed, AreByPlace, told_at, entries_text}

-- the text of a place that has these steps
abbrev pub steps_text : List ClosingStep → List ℕ
steps_text xs = place_text (map step_number xs)

-- one step more
steps_push : (x : ClosingStep) (ys : List ClosingStep) (y : ClosingStep)
    → steps_text (x ∷ ys ++ y ∷ []) ≡ steps_text (x ∷ ys) ++ codes "." ++ place_number (step_number y)
steps_push x [] y = refl
steps_push x (z ∷ zs) y =
    let front : List ℕ = place_number (step_number x) ++ codes "." in
    let number : List ℕ = place_number (step_number y) in
    ap (λ (t : List ℕ). front ++ t) (steps_push z zs y)
    ∙ sym (append_assoc front (steps_text (z ∷ zs) ++ codes ".") number)
    ∙ ap (λ (t : List ℕ). t ++ number) (sym (append_assoc front (steps_text (z ∷ zs)) (codes ".")))

-- one step more of those behind the first
pub steps_more : (start front dotted new : List ℕ) (x : ClosingStep) (others : List ClosingStep) (i : ℕ) (y : ClosingStep) → i < length others
    → front ≡ start ++ steps_text (x ∷ take i others) → dotted ≡ front ++ codes "."
    → new ≡ dotted ++ place_number (step_number (get_or others i y)) → new ≡ start ++ steps_text (x ∷ take (i + 1) others)
steps_more start front dotted new x others i y lt so_far dot written =
    let here : ClosingStep = get_or others i y in
    written
    ∙ ap (λ (t : List ℕ). t ++ place_number (step_number here)) (dot ∙ ap (λ (t : List ℕ). t ++ codes ".") so_far)
    ∙ ap (λ (t : List ℕ). t ++ place_number (step_number here)) (append_assoc start (steps_text (x ∷ take i others)) (codes "."))
    ∙ append_assoc start (steps_text (x ∷ take i others) ++ codes ".") (place_number (step_number here))
    ∙ ap (λ (t : List ℕ). start ++ t) (sym (ap (λ ys. steps_text (x ∷ ys)) (take_more others i y lt) ∙ steps_push x (take i others) here))

-- the lines of the entries are those of the operations
pub lines_by_place : (past : List Event) (entries : List (Place × Performed)) (os : List keeping.Performed) → AreByPlace entries os past
    → entries_text entries ≡ operation_lines os past
lines_by_place past [] [] h = refl
lines_by_place past [] (o ∷ os) h = absurd (no_entry (ap length h))
  where
    no_entry : {n : ℕ} → 0 ≡ suc n → ⊥
    no_entry e = omega (arith, e)
lines_by_place past (e ∷ es) [] h = absurd (no_entry (ap length h))
  where
    no_entry : {n : ℕ} → suc n ≡ 0 → ⊥
    no_entry e = omega (arith, e)
lines_by_place past (e ∷ es) (o ∷ os) h =
    let first : placed e ≡ (place_of o past, o) = ap (λ l. get_or l 0 (placed e)) h in
    ap (λ (x : Placed). line x ++ line_feed ∷ entries_text es) first ∙ ap (λ (t : List ℕ). operation_text o past ++ line_feed ∷ t) (lines_by_place past es os (ap (drop 1) h))
  where
    line : Placed → List ℕ
    line x =
        place_text x.0
        ++ space ∷ name_text x.1.action
        ++ space ∷ object_text x.1.object
        ++ space ∷ op_text x.1.operation
        ++ codes " -> "
        ++ reply_text x.1.reply

-- one piece more behind a start
more : (start a b t u : List ℕ) → t ≡ start ++ a → u ≡ t ++ b → u ≡ start ++ (a ++ b)
more start a b t u so_far written = written ∙ ap (λ (x : List ℕ). x ++ b) so_far ∙ append_assoc start a b

-- a line is written piece after piece
pub line_written : (start : List ℕ) (p : Place) (v : Performed) (t1 t2 t3 t4 t5 t6 t7 : List ℕ) → t1 ≡ start ++ place_text (place_numbers p)
    → t2 ≡ t1 ++ space ∷ [] → t3 ≡ t2 ++ name_text v.action → t4 ≡ t3 ++ space ∷ object_text v.object ++ space ∷ op_text v.operation
    → t5 ≡ t4 ++ codes " -> " → t6 ≡ t5 ++ reply_text v.reply → t7 ≡ t6 ++ line_feed ∷ [] → t7 ≡ start ++ (told_at p v ++ line_feed ∷ [])
line_written start p v t1 t2 t3 t4 t5 t6 t7 e1 e2 e3 e4 e5 e6 e7 =
    let place : List ℕ = place_text (place_numbers p) in
    let named : t3 ≡ start ++ (place ++ space ∷ name_text v.action) =
    more start (place ++ space ∷ []) (name_text v.action) t2 t3 (more start place (space ∷ []) t1 t2 e1 e2) e3
    ∙ ap (λ (x : List ℕ). start ++ x) (append_assoc place (space ∷ []) (name_text v.action)) in
    let asked = more start _ (space ∷ op_text v.operation) _ t4 (more start _ (space ∷ object_text v.object) t3 _ named refl) e4 in
    more start _ (line_feed ∷ []) t6 t7 (more start _ (reply_text v.reply) t5 t6 (more start _ (codes " -> ") t4 t5 asked e5) e6) e7

-- the lines that are left fall by one
pub one_line : (start all now new : List ℕ) (line rest : List ℕ) → now ++ (line ++ rest) ≡ start ++ all → new ≡ now ++ line → new ++ rest ≡ start ++ all
one_line start all now new line rest so_far written = ap (λ (t : List ℕ). t ++ rest) written ∙ append_assoc now line rest ∙ so_far
