-- What is read in a forest that says what a history says.
use Rattle.std.proofs.Common.{List, [], None, Option, Some, ap, arith, cond, inl, inr, is_some, length, refl, sym, true, ℕ, ◌==◌, ◌∙◌, ◌∷◌, ◌≡◌, ◌≤◌}
use Rattle.std.specs.Prelude.{slice_get}
use Rattle.std.specs.Option.{option_and_then}
use Rattle.std.specs.Cmp.{unsigned_tied}
use Rattle.std.specs.FinMap as tree
use Rattle.std.specs.Ordering.{nat_cmp}
use Rattle.std.proofs.lemmas.Bool.{cases_eq, eq-eqb, ne_eqb}
use Rattle.std.proofs.lemmas.Cmp.{nat_cmp_total}
use Rattle.action_names.specs.Deps.{Deps, lesser, lowered}
use Rattle.action_names.specs.Names.{Name, is_top, parent_of}
use Rattle.run_model.specs.Actions.{is_begun}
use Rattle.run_model.specs.Dependencies.{inherited, own_entry}
use Rattle.run_model.specs.LocalHistories.{RegistryEvent, dependency_there, entries_of, events_there}
use Rattle.run_model.specs.Openings.{Opening}
use Rattle.action_forest.proofs.Entries.{entries_are}
use Rattle.action_forest.proofs.Found.{there}
use Rattle.action_forest.specs.Events.{first_entries}
use Rattle.action_forest.specs.Forests.{IsForest, IsTree}
use Rattle.action_forest.specs.Trees.{Trees, action_of, depends_at, place_of, said}

-- an action is there just where it was begun
pub there_if_begun : (registry : List RegistryEvent) (forest : Trees) → IsTree registry forest → (a : Name)
    → is_some (action_of forest a) ≡ is_begun a (events_there registry)
there_if_begun registry forest h a = of (place_of forest a) refl ∙ h.found a
  where
    of : (o : Option ℕ) → place_of forest a ≡ o → is_some (action_of forest a) ≡ is_some (place_of forest a)
    of None e = ap (λ p. is_some (option_and_then (λ i. slice_get forest.actions i) p)) e ∙ ap is_some (sym e)
    of (Some i) e =
        let x = there forest i a (h.named a i e) in
        ap (λ p. is_some (option_and_then (λ i. slice_get forest.actions i) p)) e ∙ ap is_some x.1 ∙ ap is_some (sym e)

-- the entries of what an action depends on
pub entries_read : (opening : Opening) (registry : List RegistryEvent) (forest : Trees) → IsForest opening registry forest → (a : Name) (deps : Deps)
    → ((g : ℕ) → tree.get deps g ≡ depends_at forest a g) → tree.entries deps ≡ entries_of opening (λ g. dependency_there a g registry)
entries_read opening registry forest h a deps same =
    entries_are opening (λ g. dependency_there a g registry) deps (λ g low high. same g ∙ h.depends a g)
    (λ g some. h.inside a g (ap is_some (sym (same g ∙ h.depends a g)) ∙ some))

-- and no entries where no action is
pub entries_nowhere : (opening : Opening) (registry : List RegistryEvent) (forest : Trees) → IsForest opening registry forest → (a : Name)
    → action_of forest a ≡ None → entries_of opening (λ g. dependency_there a g registry) ≡ []
entries_nowhere opening registry forest h a none =
    sym (entries_read opening registry forest h a (tree.from_sorted [])
    (λ g. tree.get-from_sorted nat_cmp [] g tt ∙ sym (ap (said (λ action. tree.get action.depends g) None) none)))
    ∙ tree.entries-from_sorted nat_cmp [] tt

-- what an action begins with of what its parent had
inherited_read : (opening : Opening) (registry : List RegistryEvent) (forest : Trees) → IsForest opening registry forest → (b : Name) (g : ℕ)
    → depends_at forest (parent_of b) g ≡ inherited (is_top b) b (λ c. dependency_there c g registry)
inherited_read opening registry forest h [] g = h.depends [] g
inherited_read opening registry forest h (n ∷ []) g = refl
inherited_read opening registry forest h (m ∷ n ∷ b) g = h.depends (m ∷ parent_of (n ∷ b)) g

pub lesser_none : (o : Option ℕ) → lesser o None ≡ o
lesser_none None = refl
lesser_none (Some n) = refl

lesser_lowered : (o : Option ℕ) (n : ℕ) → lesser o (Some n) ≡ Some (lowered o n)
lesser_lowered None n = refl
lesser_lowered (Some m) n = refl

-- the first entries of an action whose home is no guardian of the setup
pub entries_homeless : (opening : Opening) (registry : List RegistryEvent) (forest : Trees) → IsForest opening registry forest → (b : Name)
    (home life : ℕ) (deps : Deps) → ((g : ℕ) → tree.get deps g ≡ depends_at forest (parent_of b) g)
    → (1 ≤ home → home ≤ forest.guardians → ⊥) → tree.entries deps ≡ first_entries opening registry home life b
entries_homeless opening registry forest h b home life deps same outside =
    entries_are opening (λ g. lesser (inherited (is_top b) b (λ c. dependency_there c g registry)) (own_entry home g life)) deps
    (λ g low high.
    let setup = h.setup in
    same g ∙ inherited_read opening registry forest h b g ∙ sym (lesser_none (inherited (is_top b) b (λ c. dependency_there c g registry)))
    ∙ ap (lesser (inherited (is_top b) b (λ c. dependency_there c g registry)))
    (sym (ap (λ t. cond t (Some life) None) (ne_eqb home g (λ e. outside (omega arith) (omega arith))))))
    (λ g some. h.inside (parent_of b) g (ap is_some (sym (same g ∙ h.depends (parent_of b) g)) ∙ some))

-- the first entries of an action that is at home at a guardian of the setup
pub entries_at_home : (opening : Opening) (registry : List RegistryEvent) (forest : Trees) → IsForest opening registry forest → (b : Name)
    (home life : ℕ) (deps : Deps) → ((g : ℕ) → tree.get deps g ≡ depends_at forest (parent_of b) g) → 1 ≤ home → home ≤ forest.guardians
    → tree.entries (tree.insert deps home (lowered (tree.get deps home) life)) ≡ first_entries opening registry home life b
entries_at_home opening registry forest h b home life deps same low high =
    entries_are opening (λ g. lesser (inherited (is_top b) b (λ c. dependency_there c g registry)) (own_entry home g life)) after
    (λ g _ _. got g ∙ both g)
    (λ g some. inside g (ap is_some (sym (got g)) ∙ some))
  where
    after : Deps
    after = tree.insert deps home (lowered (tree.get deps home) life)

    at : ℕ → Option ℕ
    at g = cond (g == home) (Some (lowered (tree.get deps home) life)) (tree.get deps g)

    got : (g : ℕ) → tree.get after g ≡ at g
    got g =
        tree.get-insert nat_cmp_total deps home (lowered (tree.get deps home) life) g
        ∙ ap (λ t. cond t (Some (lowered (tree.get deps home) life)) (tree.get deps g)) (unsigned_tied g home)

    before : (g : ℕ) → tree.get deps g ≡ inherited (is_top b) b (λ c. dependency_there c g registry)
    before g = same g ∙ inherited_read opening registry forest h b g

    both : (g : ℕ) → at g ≡ lesser (inherited (is_top b) b (λ c. dependency_there c g registry)) (own_entry home g life)
    both g = elim (cases_eq g home) [
      | inl e ↦
          ap (λ t. cond t (Some (lowered (tree.get deps home) life)) (tree.get deps g)) (eq-eqb g home e)
          ∙ sym (lesser_lowered (tree.get deps home) life)
          ∙ ap (λ o. lesser o (Some life)) (ap (tree.get deps) (sym e) ∙ before g)
          ∙ ap (lesser (inherited (is_top b) b (λ c. dependency_there c g registry))) (sym (ap (λ t. cond t (Some life) None) (eq-eqb home g (sym e))))
      | inr e ↦
          ap (λ t. cond t (Some (lowered (tree.get deps home) life)) (tree.get deps g)) (ne_eqb g home e)
          ∙ before g ∙ sym (lesser_none (inherited (is_top b) b (λ c. dependency_there c g registry)))
          ∙ ap (lesser (inherited (is_top b) b (λ c. dependency_there c g registry)))
          (sym (ap (λ t. cond t (Some life) None) (ne_eqb home g (λ k. e (sym k)))))
    ]

    inside : (g : ℕ) → is_some (at g) ≡ true → (1 ≤ g) × (g ≤ length opening.setup)
    inside g some = elim (cases_eq g home) [
      | inl e ↦ let setup = h.setup in (omega arith, omega arith)
      | inr e ↦
          h.inside (parent_of b) g
          (ap is_some (sym (ap (λ t. cond t (Some (lowered (tree.get deps home) life)) (tree.get deps g)) (ne_eqb g home e) ∙ same g ∙ h.depends (parent_of b) g)) ∙ some)
    ]
