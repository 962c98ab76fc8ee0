-- A forest follows an event that begins names, one after another.
use Rattle.std.proofs.Common.{Bool, List, [], None, Option, Some, ap, arith, cond, filter, is_some, length, map, refl, reverse, subst, suc, sym, true, false, ℕ, ◌++◌, ◌+◌, ◌∙◌, ◌∷◌, ◌≡◌}
use Rattle.std.specs.FinMap as tree
use Rattle.std.specs.Option.{option_and_then}
use Rattle.std.proofs.lemmas.List.{append-nil, append_assoc, reverse-append}
use Rattle.action_names.specs.Names.{Name, parent_of, same_name}
use Rattle.run_model.specs.declared.step.Step.{Step}
use Rattle.run_model.specs.Actions.{begun, home_in, home_of, maker_in, next_number}
use Rattle.run_model.specs.LocalHistories.{RegistryEvent, events_there}
use Rattle.run_model.specs.LocalReadings.{beside}
use Rattle.run_model.specs.Openings.{Opening, given_before}
use Rattle.action_forest.proofs.NamesBegun.{filter_more}
use Rattle.action_forest.proofs.Entries.{find_beside}
use Rattle.action_forest.proofs.Growing.{Begins, begins_more, place_old}
use Rattle.action_forest.proofs.Names.{same_name_sym}
use Rattle.action_forest.proofs.Still.{unmoved}
use Rattle.action_forest.specs.Events.{AreNext, AreUnder, beginning, first_entries}
use Rattle.action_forest.specs.Forests.{IsBorn, IsForest}
use Rattle.action_forest.specs.Rooms.{AllBorn, IsBeginning}
use Rattle.action_forest.specs.Trees.{Action, Trees, action_in, added, all_added, fresh_action, place_of}
use Rattle.action_forest.specs.declared.forest.Node.{Node}

module _ (opening : Opening) (registry : List RegistryEvent) (stamp : ℕ) (step : Step) (home life : ℕ) where
  abbrev after : List Name → List RegistryEvent
  after names = beginning opening registry stamp step names home life ∷ registry

  abbrev next : List Name → Name → ℕ
  next names a = next_number opening a (events_there (after names))

  -- the next numbers, once one name more is begun
  next_more : (xs : List Name) (b a : Name) → cond (same_name a (parent_of b)) (suc (next xs a)) (next xs a) ≡ next (xs ++ b ∷ []) a
  next_more xs b a =
      of (same_name a (parent_of b))
      ∙ ap (λ t. suc (given_before opening a + (length (filter (λ c. same_name (parent_of c) a) (xs ++ begun (events_there registry))) + cond t 1 0)))
      (same_name_sym a (parent_of b))
      ∙ sym (ap (λ n. suc (given_before opening a + n)) (filter_more (λ c. same_name (parent_of c) a) xs (begun (events_there registry)) b))
    where
      of : (t : Bool) → cond t (suc (next xs a)) (next xs a)
          ≡ suc (given_before opening a + (length (filter (λ c. same_name (parent_of c) a) (xs ++ begun (events_there registry))) + cond t 1 0))
      of true = omega arith
      of false = omega arith

  -- the maker stands where it stood, so what begins next is as it begins still
  all_born_more : (forest after_it : Trees) (names : List Name) (actions : List Action)
      → ((m : Name) → maker_in step ≡ Some m → place_of after_it m ≡ place_of forest m)
      → AllBorn opening registry (maker_in step) home life forest names actions → AllBorn opening registry (maker_in step) home life after_it names actions
  all_born_more forest after_it [] [] same all = tt
  all_born_more forest after_it [] (y ∷ actions) same all = all
  all_born_more forest after_it (b ∷ names) [] same all = all
  all_born_more forest after_it (b ∷ names) (y ∷ actions) same all =
      let born = all.0 in (
        record {
          name = born.name;
          home = born.home;
          maker = born.maker ∙ of (maker_in step) refl;
          depends = born.depends;
          status = born.status;
          unended = born.unended;
          children = born.children;
        },
        all_born_more forest after_it names actions same all.1,
      )
    where
      of : (o : Option Name) → maker_in step ≡ o → option_and_then (λ m. place_of forest m) o ≡ option_and_then (λ m. place_of after_it m) o
      of None e = refl
      of (Some m) e = sym (same m e)

  begins_all : (done todo : List Name) (actions : List Action) (forest : Trees) → home ≡ home_in step (λ a. home_of a (events_there registry))
      → ((m : Name) → maker_in step ≡ Some m → is_some (place_of forest m) ≡ true)
      → AreNext (next done) todo → AreUnder (maker_in step) todo → AllBorn opening registry (maker_in step) home life forest todo actions
      → IsForest opening (after done) forest → IsForest opening (after (done ++ todo)) (all_added actions forest)
  begins_all done [] [] forest at_home made are_next are_under all h = subst (λ names. IsForest opening (after names) forest) (sym (append-nil done)) h
  begins_all done [] (x ∷ actions) forest at_home made are_next are_under all h = absurd all
  begins_all done (b ∷ todo) [] forest at_home made are_next are_under all h = absurd all
  begins_all done (b ∷ todo) (x ∷ actions) forest at_home made are_next are_under all h =
      let motive : Name → Type 0 =
      λ n. AreNext (next done) (n ∷ todo) → AreUnder (maker_in step) (n ∷ todo) → IsBorn opening registry (maker_in step) home life forest n x
      → IsForest opening (after (done ++ n ∷ todo)) (all_added actions (added x forest)) in
      subst motive all.0.name (λ own_next own_under born.
      let now : Begins opening registry stamp step done home life forest x =
      record { next = own_next.0; under = own_under.0; maker = made; at_home = at_home; born = born } in
      let stays = place_old opening registry stamp step done home life forest x h now in
      subst (λ names. IsForest opening (after names) (all_added actions (added x forest))) (append_assoc done (x.name ∷ []) todo)
      (begins_all (done ++ x.name ∷ []) todo actions (added x forest) at_home
      (λ m k. ap is_some (stays m (made m k)) ∙ made m k)
      (subst (λ f. AreNext f todo) (λ i a. next_more done x.name a i) own_next.1)
      own_under.1
      (all_born_more forest (added x forest) todo actions (λ m k. stays m (made m k)) all.1)
      (begins_more opening registry stamp step done home life forest x h now)))
      are_next are_under all.0

-- A forest follows an event that begins names.
pub begins : (opening : Opening) (registry : List RegistryEvent) (forest : Trees) (stamp : ℕ) (step : Step) (names : List Name)
    (actions : List Action) (home life : ℕ)
    → IsForest opening registry forest → IsBeginning opening registry step names home
    → AllBorn opening registry (maker_in step) home life forest names actions
    → IsForest opening (beginning opening registry stamp step names home life ∷ registry) (all_added actions forest)
begins opening registry forest stamp step names actions home life h b all =
    begins_all opening registry stamp step home life [] names actions forest b.at_home (λ m e. h.tree.found m ∙ b.maker m e) b.next b.under all
    (unmoved opening registry forest (beginning opening registry stamp step [] home life) refl b.still h)

-- what is left to add once the last node left a list that is added from its end
pub added_last : (nodes : List Node) (node : Node) (forest : Trees)
    → all_added (map action_in (reverse (nodes ++ node ∷ []))) forest ≡ all_added (map action_in (reverse nodes)) (added (action_in node) forest)
added_last nodes node forest = ap (λ ns. all_added (map action_in ns) forest) (reverse-append nodes (node ∷ []))

-- an action that begins with these dependencies is as it begins
pub born_fresh : (opening : Opening) (registry : List RegistryEvent) (m : Option Name) (h n : ℕ) (forest : Trees) (b : Name)
    (node : Node) (maker : Option ℕ)
    → action_in node ≡ fresh_action b maker h node.depends → tree.entries node.depends ≡ first_entries opening registry h n b
    → maker ≡ option_and_then (λ a. place_of forest a) m → IsBorn opening registry m h n forest b (action_in node)
born_fresh opening registry m h n forest b node maker is entries placed = record {
  name = ap (λ x. x.name) is;
  home = ap (λ x. x.home) is;
  maker = ap (λ x. x.maker) is ∙ placed;
  depends = λ g.
      tree.get-entries node.depends g ∙ find_beside (tree.entries node.depends) g ∙ ap (λ es. beside es g) entries;
  status = ap (λ x. x.status) is;
  unended = ap (λ x. x.unended) is;
  children = ap (λ x. x.children) is;
}

-- one more that is as it begins
pub all_born_push : (opening : Opening) (registry : List RegistryEvent) (m : Option Name) (h n : ℕ) (forest : Trees) (names : List Name)
    (actions : List Action) (b : Name) (x : Action) → AllBorn opening registry m h n forest names actions → IsBorn opening registry m h n forest b x
    → AllBorn opening registry m h n forest (names ++ b ∷ []) (actions ++ x ∷ [])
all_born_push opening registry m h n forest [] [] b x all born = (born, tt)
all_born_push opening registry m h n forest [] (y ∷ actions) b x all born = absurd all
all_born_push opening registry m h n forest (a ∷ names) [] b x all born = absurd all
all_born_push opening registry m h n forest (a ∷ names) (y ∷ actions) b x all born =
    (all.0, all_born_push opening registry m h n forest names actions b x all.1 born)
