-- How actions end, by what each step of it came to.
use Rattle.std.proofs.Common.{Bor, List, [], ap, map, refl, sym, ℕ, ◌++◌, ◌∙◌, ◌∷◌, ◌≡◌}
use Rattle.std.proofs.lemmas.List.{map-append}
use Rattle.std.specs.BTreeSet.{insert_key}
use Rattle.std.specs.Ordering.{nat_cmp}
use Rattle.action_names.specs.Names.{Name}
use Rattle.run_model.specs.declared.step.Step.TheVariants.{Abort, Tell}
use Rattle.run_model.specs.Runs.{World}
use Rattle.activities.specs.Serial.{after, arms_aborted, joined, once_told}

-- ---- tellings

pub tell_goes : (a : Name) (x : ℕ) (left rest all : List ℕ) (old w next : World) → left ≡ x ∷ rest → next ≡ after (Tell x a) w
    → once_told a left w ≡ once_told a all old → once_told a rest next ≡ once_told a all old
tell_goes a x left rest all old w next e n h = ap (once_told a rest) n ∙ sym (ap (λ gs. once_told a gs w) e) ∙ h

pub tell_done : (a : Name) (left all : List ℕ) (old w : World) → left ≡ [] → once_told a left w ≡ once_told a all old → w ≡ once_told a all old
tell_done a left all old w e h = sym (ap (λ gs. once_told a gs w) e) ∙ h

-- ---- arms that have not run

-- one more of them
one_more_aborted : (home : ℕ) (names : List Name) (a : Name) (w : World)
    → arms_aborted home (names ++ (a ∷ [])) w ≡ after (Tell home a) (after (Abort a) (arms_aborted home names w))
one_more_aborted home [] a w = refl
one_more_aborted home (b ∷ names) a w = one_more_aborted home names a (after (Tell home b) (after (Abort b) w))

pub arm_aborts : (home : ℕ) (arms : List (Bor Name)) (arm : Bor Name) (old w next : World) → w ≡ arms_aborted home (map (λ b. b.now) arms) old
    → next ≡ after (Tell home arm.now) (after (Abort arm.now) w) → next ≡ arms_aborted home (map (λ b. b.now) (arms ++ (arm ∷ []))) old
arm_aborts home arms arm old w next e n =
    n ∙ ap (λ v. after (Tell home arm.now) (after (Abort arm.now) v)) e ∙ sym (one_more_aborted home (map (λ b. b.now) arms) arm.now old)
    ∙ sym (ap (λ names. arms_aborted home names old) (map-append (λ b. b.now) arms (arm ∷ [])))

-- ---- guardians that are joined

pub join_goes : (x : ℕ) (left rest all old now next : List ℕ) → left ≡ x ∷ rest → next ≡ insert_key nat_cmp now x → joined now left ≡ joined old all
    → joined next rest ≡ joined old all
join_goes x left rest all old now next l e h = ap (λ gs. joined gs rest) e ∙ sym (ap (joined now) l) ∙ h

pub join_ends : (left all old now : List ℕ) → left ≡ [] → joined now left ≡ joined old all → now ≡ joined old all
join_ends left all old now l h = sym (ap (joined now) l) ∙ h
