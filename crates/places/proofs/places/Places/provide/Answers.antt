use Rattle.std.proofs.Common.{Some, arith, drop, get_or, length, subst, sym, ◌++◌, ◌+◌, ◌<◌, ◌∙◌, ◌≡◌}
use Rattle.action_names.specs.Names.{IsName, child_of}
use Rattle.places.specs.Placed.{place_in}
use Rattle.places.proofs.Growing.{child_length}
use Rattle.places.proofs.Looking.{place_at}
use Rattle.places.proofs.Walking.{more_more, named_beginning, next_number}
use Rattle.places.proofs.places.Places.provide.Goals as goal

pub provide_child-requires-clause-parent : goal.provide_child-requires-clause-parent
provide_child-requires-clause-parent c =
    (place_at c.loop-number.self c.loop-number.invariant.done c.loop-number.at c.loop-number.invariant.place).0

pub provide_child-requires-clause-name : goal.provide_child-requires-clause-name
provide_child-requires-clause-name c =
    let below = c.in-Some.below.now in
    let k = c.loop-number.number-index in
    let number = get_or below k 0 in
    let done = c.loop-number.invariant.done in
    let here = place_at c.loop-number.self done c.loop-number.at c.loop-number.invariant.place in
    let path : c.args.action.now ≡ child_of done number ++ drop (k + 1) below =
    c.loop-number.invariant.path ∙ next_number done below k c.loop-number-test.true in
    let long : 0 < length (child_of done number) = omega (arith, child_length done number) in
    subst (λ a. IsName (child_of a number)) (sym here.1)
    (named_beginning (child_of done number) (drop (k + 1) below) long (subst IsName path c.components.ensures.named))

pub loop-number-preserved : goal.loop-number-preserved
loop-number-preserved c =
    let below = c.in-Some.below.now in
    let k = c.loop-number.number-index in
    let number = get_or below k 0 in
    let done = c.loop-number.invariant.done in
    let here = place_at c.loop-number.self done c.loop-number.at c.loop-number.invariant.place in
    record {
      done = child_of done number;
      long = omega (arith, child_length done number);
      path = c.loop-number.invariant.path ∙ next_number done below k c.loop-number-test.true;
      more = more_more c.args.self.now c.loop-number.self c.provide_child.new.self c.loop-number.invariant.more c.provide_child.ensures.more;
      place = subst (λ a. place_in c.provide_child.new.self (child_of a number) ≡ Some c.in_ok-at-2.at) here.1 c.in_ok-at-2.ensures.place;
    }
