-- The reply of an operation that waits for nobody is that of the version of its action.
use Rattle.std.proofs.Common.{List, None, Option, Some, ap, filter, map, not, refl, subst, sym, true, false, ◌∙◌, ◌≡◌, [], ◌∷◌}
use Rattle.std.proofs.lemmas.Bool.{false_from_ne_true, not-true}
use Rattle.std.specs.List.{AllByRecursion}
use Rattle.action_names.specs.Names.{Name}
use Rattle.atomic_types.specs.Operations as op
use Rattle.atomic_types.specs.Objects.{reply_of}
use Rattle.atomic_types.specs.Operations.{class_of, classes_conflict}
use Rattle.run_model.specs.Keeping.{Standing, blockers_by}
use Rattle.run_model.specs.Telling.{holder_by}
use Rattle.run_model.specs.Versions.{is_held_above}
use Rattle.run_laws.proofs.Each.{Each, each_filter}
use Rattle.run_laws.proofs.Names.{clash}
use Rattle.local_laws.specs.Orderly.{Deed, IsUnder, ReplyOfVersion}
use Rattle.local_laws.proofs.Acts.{Act, acts_by, all_acts, belonging_goes_up, deed_of, deeds_of_acts, orderly_acts, others_last, passing_acts, same_reply}
use Rattle.local_laws.proofs.Orderly.{holder_is}
use Rattle.local_laws.proofs.Ruled.{free_deeds}

-- what is in the way of an operation of a belongs to a's version, where a waits for nobody
pub others_free : (s : Standing) (a : Name) (wanted : op.Op) → blockers_by s a wanted ≡ []
    → Each (λ x. classes_conflict (deed_of x).1 (class_of wanted) ≡ false)
    (filter (λ x. not (is_held_above (holder_by s.told (deed_of x).0) a)) (acts_by s))
others_free s a wanted free =
    each_filter _ (λ x. not (is_held_above (holder_by s.told (deed_of x).0) a)) (acts_by s)
    (each (acts_by s) (subst (λ ds. AllByRecursion (λ e. IsUnder s.told (a, class_of wanted) e) ds) (sym (deeds_of_acts s)) (free_deeds s a wanted free)))
  where
    above : (d : Deed) → IsUnder s.told (a, class_of wanted) d → classes_conflict d.1 (class_of wanted) ≡ true
        → (o : Option Name) → holder_by s.told d.0 ≡ o → is_held_above o a ≡ true
    above d under t None e = refl
    above d under t (Some b) e = let held = holder_is s.told d.0 b e in under t b held.0 held.1

    each : (xs : List Act) → AllByRecursion (λ e. IsUnder s.told (a, class_of wanted) e) (map (λ x. deed_of x) xs)
        → Each (λ x. not (is_held_above (holder_by s.told (deed_of x).0) a) ≡ true → classes_conflict (deed_of x).1 (class_of wanted) ≡ false) xs
    each [] h = tt
    each (x ∷ xs) h =
        (λ q. false_from_ne_true _ (λ t. clash (above (deed_of x) h.0 t (holder_by s.told (deed_of x).0) refl) (not-true _ q)), each xs h.1)

-- the law
pub reply_of_version : ReplyOfVersion
reply_of_version c s a wanted orderly free =
    ap (λ d. reply_of d wanted)
    (sym (all_acts c s.kept s.restored)
    ∙ others_last c s.told (λ b. is_held_above (holder_by s.told b) a) (belonging_goes_up s.told (Some a)) (acts_by s) (orderly_acts s orderly))
    ∙ same_reply _ wanted _ (others_free s a wanted free)
    ∙ ap (λ d. reply_of d wanted) (passing_acts c (λ b. is_held_above (holder_by s.told b) a) s.kept s.restored)
