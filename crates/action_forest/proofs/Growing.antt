-- A forest follows an event that begins one name more.
use Rattle.std.proofs.Common.{Bool, List, [], None, Option, Some, ap, arith, cond, count_by, false, inl, inr, is_some, length, length-append, not, refl, subst, suc, sym, true, ℕ, ◌++◌, ◌+◌, ◌<◌, ◌≤◌, ◌||◌, ◌∙◌, ◌∷◌, ◌≡◌, ◌⊎◌}
use Rattle.std.specs.Prelude.{slice_get}
use Rattle.std.specs.FinMap as tree
use Rattle.std.specs.Option.{option_and_then}
use Rattle.action_names.specs.Names.{Name, child_of, is_top, parent_of, same_name}
use Rattle.action_names.specs.Deps.{lesser}
use Rattle.run_model.specs.Dependencies.{inherited, own_entry}
use Rattle.run_model.specs.declared.step.Step.{Step}
use Rattle.run_model.specs.Actions.{begun, home_in, home_of, is_begun, is_ended, is_exactly, made_by, maker_in, maker_of, next_number, step_makes}
use Rattle.run_model.specs.LocalHistories.{RegistryEvent, dependency_there, events_there}
use Rattle.run_model.specs.LocalReadings.{after_commit, beside}
use Rattle.run_model.specs.Openings.{Opening, given_before}
use Rattle.action_forest.proofs.NamesBegun.{filter_more, has_name_more, least_more, length_more, made_more, value_more}
use Rattle.action_forest.proofs.Changed.{KeepsTree}
use Rattle.action_forest.proofs.Ending.{active_not_ended, counted, first_at, guardians_at, place_at, said_kept_at}
use Rattle.action_forest.proofs.Entries.{entry_outside}
use Rattle.action_forest.proofs.Grown.{IsNext, children_grown, first_grown, free, guardians_grown, length_grown, name_old, named_grown, place_grown, placed_grown, said_grown, within}
use Rattle.action_forest.proofs.Names.{clash, same_name_self, same_name_true}
use Rattle.std.proofs.lemmas.Option.{same_Some}
use Rattle.action_forest.proofs.Quiet.{tree_changed_at}
use Rattle.action_forest.specs.Events.{beginning, first_entries, status_there, unended_there}
use Rattle.action_forest.specs.Forests.{IsBorn, IsForest, IsTree}
use Rattle.action_forest.specs.Trees.{Action, Trees, action_of, added, changed_at, children_of, first_of, grown, name_at, one_more, place_of, said, unended_at, with_child}
use Rattle.step_answers.specs.declared.actor.Status.TheVariants.{Active}

pub more_keeps : KeepsTree one_more
more_keeps = record { name = λ x. refl; home = λ x. refl; maker = λ x. refl; children = λ x. refl }

more_by : (b : Bool) (n : ℕ) → cond b (n + 1) n ≡ n + cond b 1 0
more_by true n = refl
more_by false n = omega arith

found_more : (s : Bool) (n : ℕ) (o : Option ℕ) → is_some (cond s (Some n) o) ≡ (s || is_some o)
found_more true n o = refl
found_more false n o = refl

-- what an action is, that begins with these names before it in its event
pub record Begins (opening : Opening) (registry : List RegistryEvent) (stamp : ℕ) (step : Step) (xs : List Name) (h n : ℕ) (forest : Trees) (x : Action) : Type 0 where
  pub next : x.name ≡ child_of (parent_of x.name) (next_number opening (parent_of x.name) (events_there (beginning opening registry stamp step xs h n ∷ registry)))
  pub under : (is_top x.name ≡ true) ⊎ (maker_in step ≡ Some (parent_of x.name))
  pub maker : (m : Name) → maker_in step ≡ Some m → is_some (place_of forest m) ≡ true
  pub at_home : h ≡ home_in step (λ a. home_of a (events_there registry))
  pub born : IsBorn opening registry (maker_in step) h n forest x.name x

module _ (opening : Opening) (registry : List RegistryEvent) (stamp : ℕ) (step : Step) (xs : List Name) (home life : ℕ) (forest : Trees) (x : Action) where
  abbrev c : RegistryEvent
  c = beginning opening registry stamp step xs home life

  abbrev d : RegistryEvent
  d = beginning opening registry stamp step (xs ++ x.name ∷ []) home life

  abbrev base : Trees
  base = changed_at one_more x.maker forest

  module _ (h : IsForest opening (c ∷ registry) forest) (b : Begins opening registry stamp step xs home life forest x) where
    tree_base : IsTree (c ∷ registry) base
    tree_base = tree_changed_at (c ∷ registry) forest one_more x.maker more_keeps h.tree

    first_base : (p : Name) → first_of base p ≡ suc (given_before opening p)
    first_base [] = first_at one_more x.maker forest ∙ h.first
    first_base (n ∷ p) = refl

    place_base : (a : Name) → place_of base a ≡ place_of forest a
    place_base a = place_at one_more x.maker forest more_keeps a

    -- the place of the maker
    maker_place_is : (m : Name) → maker_in step ≡ Some m → (j : ℕ) × (x.maker ≡ Some j) × (place_of base m ≡ Some j)
    maker_place_is m e = of (place_of forest m) refl (b.maker m e)
      where
        of : (o : Option ℕ) → place_of forest m ≡ o → is_some o ≡ true → (j : ℕ) × (x.maker ≡ Some j) × (place_of base m ≡ Some j)
        of None at some = absurd (cc)
        of (Some j) at some = (j, b.born.maker ∙ ap (option_and_then (λ a. place_of forest a)) e ∙ at, place_base m ∙ at)

    next : IsNext base x
    next = record {
      name = b.next ∙ ap (child_of (parent_of x.name)) number;
      parent = λ below. elim b.under [ inl is ↦ absurd (clash is below) | inr e ↦ maker_place_is (parent_of x.name) e ];
      none = b.born.children;
    }
      where
        number : next_number opening (parent_of x.name) (events_there (c ∷ registry))
            ≡ first_of base (parent_of x.name) + length (children_of base (parent_of x.name))
        number = omega (arith, first_base (parent_of x.name), tree_base.children (parent_of x.name))

    abbrev top : Bool
    top = is_top x.name

    -- what is said of a new action is what is said of one that is not there
    absent : {B : Type 0} (field : Action → B) (missing : B) (a : Name) → same_name x.name a ≡ true → said field missing (action_of base a) ≡ missing
    absent field missing a same =
        ap (λ o. said field missing (option_and_then (λ i. slice_get base.actions i) o))
        (subst (λ k. place_of base k ≡ None) (same_name_true x.name a same) (free base x next))

    said_absent : {B : Type 0} (field : Action → B) (missing : B) → ((y : Action) → field (with_child (length base.actions) y) ≡ field y)
        → field x ≡ missing → (a : Name) → said field missing (action_of (grown x base) a) ≡ said field missing (action_of base a)
    said_absent field missing keeps none a =
        said_grown (c ∷ registry) base x tree_base next field missing keeps top refl a ∙ of (same_name x.name a) refl
      where
        of : (s : Bool) → same_name x.name a ≡ s → cond s (field x) (said field missing (action_of base a)) ≡ said field missing (action_of base a)
        of true same = none ∙ sym (absent field missing a same)
        of false differ = refl

    -- who is there stays where it is
    pub place_old : (a : Name) → is_some (place_of forest a) ≡ true → place_of (added x forest) a ≡ place_of forest a
    place_old a some = place_grown (c ∷ registry) base x tree_base next top refl a ∙ of (same_name x.name a) refl
      where
        of : (s : Bool) → same_name x.name a ≡ s → cond s (Some (length base.actions)) (place_of base a) ≡ place_of forest a
        of true same =
            let none = sym (place_base a) ∙ subst (λ k. place_of base k ≡ None) (same_name_true x.name a same) (free base x next) in
            absurd (clash some (ap is_some none))
        of false differ = place_base a

    -- the maker of an old action is not the new one
    maker_old : (o : Option Action) → ((j : ℕ) → said (λ y. y.maker) None o ≡ Some j → j < length base.actions)
        → said (λ y. option_and_then (λ j. name_at (grown x base) j) y.maker) None o ≡ said (λ y. option_and_then (λ j. name_at base j) y.maker) None o
    maker_old None low = refl
    maker_old (Some y) low = of y.maker refl
      where
        of : (o : Option ℕ) → y.maker ≡ o → option_and_then (λ j. name_at (grown x base) j) o ≡ option_and_then (λ j. name_at base j) o
        of None e = refl
        of (Some j) e = let less = low j e in name_old (c ∷ registry) base x tree_base next top j (λ k. omega arith)

    maker_new : option_and_then (λ j. name_at (grown x base) j) x.maker ≡ maker_in step
    maker_new = of (maker_in step) refl
      where
        of : (o : Option Name) → maker_in step ≡ o → option_and_then (λ j. name_at (grown x base) j) x.maker ≡ o
        of None e = ap (option_and_then (λ j. name_at (grown x base) j)) (b.born.maker ∙ ap (option_and_then (λ a. place_of forest a)) e)
        of (Some m) e =
            let at = maker_place_is m e in
            let less = within (c ∷ registry) base tree_base m at.0 at.2 in
            ap (option_and_then (λ j. name_at (grown x base) j)) at.1
            ∙ name_old (c ∷ registry) base x tree_base next top at.0 (λ k. omega arith)
            ∙ tree_base.named m at.0 at.2

    maker_is : (a : Name) → maker_of a (events_there (d ∷ registry)) ≡ cond (same_name x.name a) (maker_in step) (maker_of a (events_there (c ∷ registry)))
    maker_is a = value_more xs x.name a (maker_in step) (maker_of a (events_there registry))

    begun_is : (a : Name) → is_begun a (events_there (d ∷ registry)) ≡ (same_name x.name a || is_begun a (events_there (c ∷ registry)))
    begun_is a = has_name_more xs (begun (events_there registry)) x.name a

    -- a new action had no maker
    unmade : (a : Name) → same_name x.name a ≡ true → maker_of a (events_there (c ∷ registry)) ≡ None
    unmade a same = sym (tree_base.maker a) ∙ absent (λ y. option_and_then (λ j. name_at base j) y.maker) None a same

    made_is : (a m : Name) → count_by (λ k. same_name k a) (made_by m (events_there (d ∷ registry)))
        ≡ cond (is_exactly (maker_of a (events_there (d ∷ registry))) m) 1 0
    made_is a m =
        made_more (λ k. same_name k a) (step_makes step m) xs (made_by m (events_there registry)) x.name
        ∙ ap (λ n. n + cond (step_makes step m) (cond (same_name x.name a) 1 0) 0) (tree_base.made a m)
        ∙ of (same_name x.name a) (step_makes step m) refl refl
        ∙ ap (λ o. cond (is_exactly o m) 1 0) (sym (maker_is a))
      where
        of : (s t : Bool) → same_name x.name a ≡ s → step_makes step m ≡ t
            → cond (is_exactly (maker_of a (events_there (c ∷ registry))) m) 1 0 + cond t (cond s 1 0) 0
            ≡ cond (is_exactly (cond s (maker_in step) (maker_of a (events_there (c ∷ registry)))) m) 1 0
        of true true same makes =
            let before : cond {A = ℕ} (is_exactly (maker_of a (events_there (c ∷ registry))) m) 1 0 ≡ 0 = ap (λ o. cond (is_exactly o m) 1 0) (unmade a same) in
            let now : cond {A = ℕ} (is_exactly (maker_in step) m) 1 0 ≡ 1 = ap (λ v. cond v 1 0) makes in
            omega arith
        of true false same makes =
            let before : cond {A = ℕ} (is_exactly (maker_of a (events_there (c ∷ registry))) m) 1 0 ≡ 0 = ap (λ o. cond (is_exactly o m) 1 0) (unmade a same) in
            let now : cond {A = ℕ} (is_exactly (maker_in step) m) 1 0 ≡ 0 = ap (λ v. cond v 1 0) makes in
            omega arith
        of false true differ makes = omega arith
        of false false differ makes = omega arith

    parents_are : (a : Name) → is_begun a (events_there (d ∷ registry)) ≡ true → is_top a ≡ false
        → maker_of a (events_there (d ∷ registry)) ≡ Some (parent_of a)
    parents_are a was below = maker_is a ∙ of (same_name x.name a) refl (sym (begun_is a) ∙ was)
      where
        of : (s : Bool) → same_name x.name a ≡ s → (s || is_begun a (events_there (c ∷ registry))) ≡ true
            → cond s (maker_in step) (maker_of a (events_there (c ∷ registry))) ≡ Some (parent_of a)
        of true same k =
            let e = same_name_true x.name a same in
            elim b.under [ inl is ↦ absurd (clash (subst (λ n. is_top n ≡ true) e is) below) | inr is ↦ is ∙ ap (λ n. Some (parent_of n)) e ]
        of false differ k = tree_base.parents a k below

    makers_are : (a : Name) (j : ℕ) → said (λ y. y.maker) None (action_of (grown x base) a) ≡ Some j → j < length (grown x base).actions
    makers_are a j e = of (same_name x.name a) (sym (said_grown (c ∷ registry) base x tree_base next (λ y. y.maker) None (λ y. refl) top refl a) ∙ e)
      where
        more : j < length base.actions → j < length (grown x base).actions
        more less = omega (arith, length_grown (c ∷ registry) base x tree_base next top)

        own : (o : Option Name) → maker_in step ≡ o → x.maker ≡ Some j → j < length base.actions
        own None none is = let none_too = b.born.maker ∙ ap (option_and_then (λ k. place_of forest k)) none in absurd (cc)
        own (Some m) some is =
            let at = maker_place_is m some in
            let same : at.0 ≡ j = same_Some at.0 j (sym at.1 ∙ is) in
            subst (λ k. k < length base.actions) same (within (c ∷ registry) base tree_base m at.0 at.2)

        of : (s : Bool) → cond s x.maker (said (λ y. y.maker) None (action_of base a)) ≡ Some j → j < length (grown x base).actions
        of true is = more (own (maker_in step) refl is)
        of false is = more (tree_base.makers a j is)

    tree_grown : IsTree (d ∷ registry) (grown x base)
    tree_grown = record {
      count = omega (arith, length_grown (c ∷ registry) base x tree_base next top, tree_base.count, length_more xs (begun (events_there registry)) x.name);
      found = λ a.
          ap is_some (place_grown (c ∷ registry) base x tree_base next top refl a)
          ∙ found_more (same_name x.name a) (length base.actions) (place_of base a)
          ∙ ap (λ v. same_name x.name a || v) (tree_base.found a)
          ∙ sym (begun_is a);
      named = named_grown (c ∷ registry) base x tree_base next top refl;
      placed = placed_grown (c ∷ registry) base x tree_base next top refl;
      home = λ a.
          said_grown (c ∷ registry) base x tree_base next (λ y. y.home) 0 (λ y. refl) top refl a
          ∙ (λ i. cond (same_name x.name a) ((b.born.home ∙ b.at_home) i) (tree_base.home a i))
          ∙ sym (value_more xs x.name a (home_in step (λ k. home_of k (events_there registry))) (home_of a (events_there registry)));
      makers = makers_are;
      maker = λ a.
          said_grown (c ∷ registry) base x tree_base next (λ y. option_and_then (λ j. name_at (grown x base) j) y.maker) None (λ y. refl) top refl a
          ∙ (λ i. cond (same_name x.name a) (maker_new i) (maker_old (action_of base a) (tree_base.makers a) i))
          ∙ ap (cond (same_name x.name a) (maker_in step)) (tree_base.maker a)
          ∙ sym (maker_is a);
      children = λ a.
          ap length (children_grown (c ∷ registry) base x tree_base next top refl a)
          ∙ longer (same_name (parent_of x.name) a) (children_of base a)
          ∙ ap (λ n. n + cond (same_name (parent_of x.name) a) 1 0) (tree_base.children a)
          ∙ sym (filter_more (λ k. same_name (parent_of k) a) xs (begun (events_there registry)) x.name);
      made = made_is;
      parents = parents_are;
    }
      where
        longer : (s : Bool) (places : List ℕ) → length (cond s (places ++ length base.actions ∷ []) places) ≡ length places + cond s 1 0
        longer true places = length-append places (length base.actions ∷ [])
        longer false places = omega arith

    depends_is : (a : Name) (g : ℕ) → dependency_there a g (d ∷ registry)
        ≡ cond (same_name x.name a) (beside (first_entries opening registry home life x.name) g) (dependency_there a g (c ∷ registry))
    depends_is a g =
        least_more opening registry home life xs x.name a g
        (after_commit step a (dependency_there a g registry) (λ k. dependency_there k g registry))

    unended_is : (a : Name) → unended_there a (events_there (d ∷ registry)) ≡ unended_there a (events_there (c ∷ registry)) + cond (step_makes step a) 1 0
    unended_is a =
        made_more (λ k. not (is_ended k (events_there (c ∷ registry)))) (step_makes step a) xs (made_by a (events_there registry)) x.name
        ∙ ap (λ v. unended_there a (events_there (c ∷ registry)) + cond (step_makes step a) (cond (not v) 1 0) 0) not_ended
      where
        status : status_there x.name (events_there (c ∷ registry)) ≡ Active
        status =
            sym (h.status x.name)
            ∙ sym (said_kept_at (λ y. y.status) Active one_more x.maker forest more_keeps (λ y. refl) x.name)
            ∙ absent (λ y. y.status) Active x.name (same_name_self x.name)

        not_ended : is_ended x.name (events_there (c ∷ registry)) ≡ false
        not_ended = active_not_ended x.name (events_there (c ∷ registry)) status

    -- The forest with the action follows the event with its name.
    pub begins_more : IsForest opening (d ∷ registry) (added x forest)
    begins_more = record {
      first = first_grown (c ∷ registry) base x tree_base next top [] ∙ first_base [];
      setup = guardians_grown (c ∷ registry) base x tree_base next top ∙ guardians_at one_more x.maker forest ∙ h.setup;
      tree = tree_grown;
      status = λ a.
          said_absent (λ y. y.status) Active (λ y. refl) b.born.status a
          ∙ said_kept_at (λ y. y.status) Active one_more x.maker forest more_keeps (λ y. refl) a
          ∙ h.status a;
      depends = λ a g.
          said_grown (c ∷ registry) base x tree_base next (λ y. tree.get y.depends g) None (λ y. refl) top refl a
          ∙ (λ i. cond (same_name x.name a) (b.born.depends g i)
          ((said_kept_at (λ y. tree.get y.depends g) None one_more x.maker forest more_keeps (λ y. refl) a ∙ h.depends a g) i))
          ∙ sym (depends_is a g);
      unended = λ a.
          said_absent (λ y. y.unended) 0 (λ y. refl) b.born.unended a
          ∙ counted (c ∷ registry) forest h.tree one_more more_keeps (λ n. n + 1) (λ y. refl) x.maker a
          ∙ more_by (is_exactly (option_and_then (λ j. name_at forest j) x.maker) a) (unended_at forest a)
          ∙ (λ i. h.unended a i + cond (is_exactly (maker_name i) a) 1 0)
          ∙ sym (unended_is a);
      inside = λ a g some. of a g (same_name x.name a) (ap is_some (sym (depends_is a g)) ∙ some);
    }
      where
        maker_name : option_and_then (λ j. name_at forest j) x.maker ≡ maker_in step
        maker_name = by (maker_in step) refl
          where
            by : (o : Option Name) → maker_in step ≡ o → option_and_then (λ j. name_at forest j) x.maker ≡ o
            by None e = ap (option_and_then (λ j. name_at forest j)) (b.born.maker ∙ ap (option_and_then (λ a. place_of forest a)) e)
            by (Some m) e =
                let at = maker_place_is m e in
                ap (option_and_then (λ j. name_at forest j)) at.1 ∙ h.tree.named m at.0 (sym (place_base m) ∙ at.2)

        of : (a : Name) (g : ℕ) (s : Bool)
            → is_some (cond s (beside (first_entries opening registry home life x.name) g) (dependency_there a g (c ∷ registry))) ≡ true
            → (1 ≤ g) × (g ≤ length opening.setup)
        of a g true some = entry_outside opening (λ k. lesser (inherited (is_top x.name) x.name (λ a. dependency_there a k registry)) (own_entry home k life)) g some
        of a g false some = h.inside a g some
