use Rattle.std.proofs.Common.{[], ap, arith, length, map, subst, sym, take, ◌++◌, ◌+◌, ◌<◌, ◌∙◌, ◌∷◌, ◌≡◌}
use Rattle.std.specs.List.{All}
use Rattle.std.specs.Option.{option_and_then, option_map}
use Rattle.std.proofs.lemmas.List.{map-append, take_more}
use Rattle.std.proofs.lemmas.List.Elements.{All-push}
use Rattle.action_forest.proofs.Beginning.{all_born_push, born_fresh}
use Rattle.action_forest.specs.Forests.{IsForest}
use Rattle.action_forest.specs.Rooms.{AllBorn}
use Rattle.action_forest.specs.Trees.{action_in, place_of, trees}
use Rattle.action_forest.proofs.forest.Forest.plan_begin.Goals as goal

pub loop-name-preserved : goal.loop-name-preserved
loop-name-preserved c =
    let self = c.args.self.now in
    let before = record self { nodes = c.reserve.new.self; tops = c.reserve-2.new.self } in
    let kept : trees before ≡ trees self = (λ i. record {
      first_top = self.first_top;
      guardians = self.guardians;
      actions = map action_in (c.reserve.ensures.items i);
      tops = c.reserve-2.ensures.items i;
    }) in
    let maker = option_map (λ m. m.now) c.args.maker in
    let names = c.as_slice-name-items.result.now in
    let index = c.loop-name.name-index in
    let name = c.name-item.result in
    let nodes = c.loop-name.plan.nodes.items in
    let node = c.in_ok-born.field-0 in
    let place = c.in_ok-place.place in
    let less : index < length names = omega (arith, c.loop-name-test.true) in
    let named : take (index + 1) names ≡ take index names ++ name ∷ [] =
    take_more names index name less ∙ ap (λ x. take index names ++ x ∷ []) (sym c.name-item.is) in
    let pushed : map action_in c.push.new.self.items ≡ map action_in nodes ++ action_in node ∷ [] =
    ap (map action_in) c.in_ok-push.ensures.items ∙ map-append action_in nodes (node ∷ []) in
    record {
      count = omega (arith, c.in_ok-push.ensures.len, c.loop-name.invariant.count);
      made =
          subst (All (λ n. n.maker ≡ place)) (sym c.in_ok-push.ensures.items)
          (All-push (λ n. n.maker ≡ place) nodes node c.loop-name.invariant.made (ap (λ x. x.maker) c.in_ok-born.ensures.made));
      born = λ opening registry h.
          let here = subst (IsForest opening registry) (sym kept) h in
          let there = subst (IsForest opening registry) (sym c.reserve_children.ensures.kept) here in
          let placed =
          c.in_ok-place.ensures.place opening registry here ∙ ap (λ f. option_and_then (λ a. place_of f a) maker) kept in
          let born =
          born_fresh opening registry maker c.args.home c.args.life (trees self) name node place c.in_ok-born.ensures.made
          (c.in_ok-born.ensures.depends opening registry there) placed in
          let all =
          all_born_push opening registry maker c.args.home c.args.life (trees self) (take index names) (map action_in nodes) name (action_in node)
          (c.loop-name.invariant.born opening registry h) born in
          subst (λ ns. AllBorn opening registry maker c.args.home c.args.life (trees self) ns (map action_in c.push.new.self.items)) (sym named)
          (subst (λ xs. AllBorn opening registry maker c.args.home c.args.life (trees self) (take index names ++ name ∷ []) xs) (sym pushed) all);
    }
