-- Arms that have ended, one after another: how they go on, and what their starter learns.
use Rattle.std.proofs.Common.{Err, IfOk, List, Ok, OnOk, Result, [], ap, arith, length, refl, sym, ℕ, ◌∙◌, ◌∷◌, ◌≡◌}
use Rattle.activities.specs.declared.apart.EndedArm.{EndedArm}
use Rattle.activities.specs.declared.flow.Flow.{Flow}
use Rattle.activities.specs.Apart.{all_gone, arm_taken_in, arms_taken_in, gone_beside}
use Rattle.activities.specs.Serial.{Acting}

pub ok_no_err : {A E : Type 0} (r : Result A E) (x : A) (e : E) → r ≡ Ok x → r ≡ Err e → ⊥
ok_no_err r x e h k = cc

pub none_left : {A : Type 0} (xs : List A) (n : ℕ) → n ≡ length xs → n ≡ 0 → xs ≡ []
none_left [] n l z = refl
none_left (x ∷ xs) n l z = absurd (omega arith)

-- one more has ended
pub flow_goes : {E : Type 0} (arms one gone ended : Result Flow E) (left rest : List (Result Flow E)) (all : Result Flow E) → left ≡ ended ∷ rest
    → gone ≡ gone_beside arms one → IfOk one (λ flow. ended ≡ Ok flow) → IfOk arms (λ flow. all_gone (Ok flow) left ≡ all)
    → IfOk gone (λ flow. all_gone (Ok flow) rest ≡ all)
flow_goes arms one (Err g) ended left rest all l e o h = tt
flow_goes (Err f) one (Ok g) ended left rest all l e o h = absurd (ok_no_err (Ok g) g f refl e)
flow_goes (Ok x) (Err f) (Ok g) ended left rest all l e o h = absurd (ok_no_err (Ok g) g f refl e)
flow_goes (Ok x) (Ok y) (Ok g) ended left rest all l e o h =
    ap (λ r. all_gone r rest) e ∙ sym (ap (λ r. all_gone (gone_beside (Ok x) r) rest) o) ∙ sym (ap (all_gone (Ok x)) l) ∙ h

pub taken_goes : {E : Type 0} (arms one gone : Result Flow E) (arm : EndedArm) (left rest : List EndedArm) (old new all : Acting) → left ≡ arm ∷ rest
    → gone ≡ gone_beside arms one → OnOk one (new ≡ arm_taken_in old arm) → OnOk arms (arms_taken_in old left ≡ all)
    → OnOk gone (arms_taken_in new rest ≡ all)
taken_goes arms one (Err g) arm left rest old new all l e o h = tt
taken_goes (Err f) one (Ok g) arm left rest old new all l e o h = absurd (ok_no_err (Ok g) g f refl e)
taken_goes (Ok x) (Err f) (Ok g) arm left rest old new all l e o h = absurd (ok_no_err (Ok g) g f refl e)
taken_goes (Ok x) (Ok y) (Ok g) arm left rest old new all l e o h = ap (λ a. arms_taken_in a rest) o ∙ sym (ap (arms_taken_in old) l) ∙ h

-- all have ended
pub flow_came : {E : Type 0} (arms : Result Flow E) (left : List (Result Flow E)) (all : Result Flow E) → left ≡ []
    → IfOk arms (λ flow. all_gone (Ok flow) left ≡ all) → IfOk arms (λ flow. Ok flow ≡ all)
flow_came (Ok x) left all l h = sym (ap (all_gone (Ok x)) l) ∙ h
flow_came (Err f) left all l h = tt

pub taken_came : {E : Type 0} (arms : Result Flow E) (left : List EndedArm) (now all : Acting) → left ≡ [] → OnOk arms (arms_taken_in now left ≡ all)
    → OnOk arms (now ≡ all)
taken_came (Ok x) left now all l h = sym (ap (arms_taken_in now) l) ∙ h
taken_came (Err f) left now all l h = tt
