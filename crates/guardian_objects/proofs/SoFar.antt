-- Tellings so far, and one more.
use Rattle.std.proofs.Common.{Bool, List, [], ap, ap₂, subst, sym, true, ◌++◌, ◌∙◌, ◌∷◌, ◌≡◌}
use Rattle.std.specs.List.{AllByRecursion}
use Rattle.std.proofs.lemmas.List.{map-append}
use Rattle.action_names.specs.Names.{Name, parent_of}
use Rattle.run_model.specs.LocalReadings.{LocalEvent, told_committed_here}
use Rattle.run_model.specs.Telling.{holder_by}
use Rattle.guardian_objects.specs.Outcomes.{ArePlanned, outcomes_of}
use Rattle.guardian_objects.specs.declared.outcomes.Telling.{Telling}
use Rattle.guardian_objects.proofs.Room.{each_last}

-- of none everything holds
pub none_planned : {X : Type 0} (P : X → Type 0) (xs : List X) → xs ≡ [] → AllByRecursion P xs
none_planned P xs none = subst (λ l. AllByRecursion P l) (sym none) tt

-- the outcomes, with one more
pub one_planned : (ts more : List Telling) (t : Telling) (outcomes longer : List (Name × Bool)) (x : Name × Bool) → more ≡ ts ++ t ∷ [] → longer ≡ outcomes ++ x ∷ []
    → t.action ≡ x.0 → t.committed ≡ x.1 → outcomes_of ts ≡ outcomes → outcomes_of more ≡ longer
one_planned ts more t outcomes longer x pushed taken action committed same =
    ap (λ l. outcomes_of l) pushed
    ∙ map-append (λ (u : Telling). (u.action, u.committed)) ts (t ∷ [])
    ∙ ap₂ (λ l y. l ++ y ∷ []) same (ap₂ (λ a u. (a, u)) action committed)
    ∙ sym taken

-- each goes to its next holder, and so does one more
pub next_planned : (here : List LocalEvent) (ts more : List Telling) (t : Telling) (x : Name × Bool) → more ≡ ts ++ t ∷ [] → t.action ≡ x.0 → t.committed ≡ x.1
    → (x.1 ≡ true → t.to ≡ holder_by (λ b. told_committed_here b here) (parent_of x.0)) → ArePlanned here ts → ArePlanned here more
next_planned here ts more t x pushed action committed next planned =
    subst (λ l. ArePlanned here l) (sym pushed)
    (each_last (λ (u : Telling). u.committed ≡ true → u.to ≡ holder_by (λ b. told_committed_here b here) (parent_of u.action)) ts t planned
    (λ h. next (sym committed ∙ h) ∙ ap (λ a. holder_by (λ b. told_committed_here b here) (parent_of a)) (sym action)))
