use Rattle.std.proofs.Common.{None, Some, [], ap, arith, drop, get_or, length, refl, sym, ◌++◌, ◌+◌, ◌<◌, ◌∙◌, ◌∷◌, ◌≡◌}
use Rattle.std.specs.Prelude.{slice_get}
use Rattle.std.proofs.lemmas.Option.{slice_get_read}
use Rattle.action_names.specs.Names.{child_of}
use Rattle.places.specs.Placed.{place_in}
use Rattle.places.specs.Trees.{names_by}
use Rattle.places.proofs.Growing.{child_length, names_length}
use Rattle.places.proofs.Looking.{place_at}
use Rattle.places.proofs.Walking.{next_number, no_way}
use Rattle.places.proofs.places.Places.find.Goals as goal

pub returns-in_err-at : goal.returns-in_err-at
returns-in_err-at c =
    let names = names_by c.self.inside.nodes.items in
    let top = c.in-Some.top.now in
    let below = c.in-Some.below.now in
    let path : c.args.action.now ≡ top ∷ below = sym c.components.ensures.numbers ∙ c.in-Some.ensures.cases.0 in
    let none : place_in names (top ∷ []) ≡ None = sym (c.self.invariant.tops top) ∙ sym c.in_err-at.ensures.value in
    c.from_residual.ensures
    ∙ sym (ap (λ ns. place_in ns c.args.action.now) (sym c.self.view_is)
    ∙ ap (place_in names) path ∙ no_way names c.self.invariant.placed (top ∷ []) below (omega arith) none)

pub index-requires : goal.index-requires
index-requires c =
    let nodes = c.self.inside.nodes.items in
    omega (arith, (place_at (names_by nodes) c.loop-number.invariant.done c.loop-number.at c.loop-number.invariant.place).0, names_length nodes)

pub returns-in_err-at-2 : goal.returns-in_err-at-2
returns-in_err-at-2 c =
    let nodes = c.self.inside.nodes.items in
    let names = names_by nodes in
    let below = c.in-Some.below.now in
    let k = c.loop-number.number-index in
    let number = get_or below k 0 in
    let done = c.loop-number.invariant.done in
    let at = c.loop-number.at in
    let node = c.index.result.now in
    let here = place_at names done at c.loop-number.invariant.place in
    let within : at < length nodes = omega (arith, here.0, names_length nodes) in
    let got : slice_get nodes at ≡ Some node = slice_get_read nodes (length nodes) at node refl within c.index.ensures in
    let none : place_in names (child_of done number) ≡ None =
    ap (λ a. place_in names (child_of a number)) (sym here.1) ∙ sym ((c.self.invariant.each at node got).children number) ∙ sym c.in_err-at-2.ensures in
    let path : c.args.action.now ≡ child_of done number ++ drop (k + 1) below =
    c.loop-number.invariant.path ∙ next_number done below k c.loop-number-test.true in
    let long : 0 < length (child_of done number) = omega (arith, child_length done number) in
    c.from_residual-in_err-at-2.ensures
    ∙ sym (ap (λ ns. place_in ns c.args.action.now) (sym c.self.view_is)
    ∙ ap (place_in names) path ∙ no_way names c.self.invariant.placed (child_of done number) (drop (k + 1) below) long none)

pub loop-number-preserved : goal.loop-number-preserved
loop-number-preserved c =
    let nodes = c.self.inside.nodes.items in
    let names = names_by nodes in
    let below = c.in-Some.below.now in
    let k = c.loop-number.number-index in
    let number = get_or below k 0 in
    let done = c.loop-number.invariant.done in
    let at = c.loop-number.at in
    let node = c.index.result.now in
    let here = place_at names done at c.loop-number.invariant.place in
    let within : at < length nodes = omega (arith, here.0, names_length nodes) in
    let got : slice_get nodes at ≡ Some node = slice_get_read nodes (length nodes) at node refl within c.index.ensures in
    record {
      done = child_of done number;
      long = omega (arith, child_length done number);
      path = c.loop-number.invariant.path ∙ next_number done below k c.loop-number-test.true;
      place =
          ap (λ a. place_in names (child_of a number)) (sym here.1) ∙ sym ((c.self.invariant.each at node got).children number) ∙ sym c.in_ok-at-2.ensures;
    }
