use Rattle.std.proofs.Common.{◌≡◌, ◌≢◌, ◌≤◌, [], ◌∷◌, ◌++◌, length, get_or, length-append, arith}
use Rattle.std.proofs.lemmas.List.{get_or_past}
use Rattle.action_names.proofs.Fronts.{no_name, name_goes_on, name_more, name_found, components_push}
use Rattle.action_names.proofs.name.Name.long_at_front.Goals as goal
use Rattle.action_names.proofs.name.Name.long_at_front.Goals.{in_default-rest-via-then-rest-lt1, in_default-rest-via-else-rest-lt1+in_default-1}

-- what is left begins with no number
pub returns-in_default-clause-refused : goal.returns-in_default-clause-refused
returns-in_default-clause-refused c _ =
    no_name c.args._bytes.now c.loop-number.left.now c.loop-number.numbers.items c.loop-number.invariant.so_far c.loop-number.invariant.components c.in_default.ensures

-- more numbers than a name may have
pub returns-then-len-eq-MAX_DEPTH-clause-refused : goal.returns-then-len-eq-MAX_DEPTH-clause-refused
returns-then-len-eq-MAX_DEPTH-clause-refused c _ a rest begins =
    let goes = name_goes_on c.args._bytes.now c.loop-number.left.now c.loop-number.numbers.items c.loop-number.invariant.so_far c.loop-number.invariant.components a rest begins in
    omega (arith, goes.counted, goes.some, begins.fits.not_too_deep)

-- no dot follows
pub returns-in_default-rest-clause-found : goal.returns-in_default-rest-clause-found
returns-in_default-rest-clause-found c =
    let other : get_or c.in-Some.rest.now 0 0 ≢ 46 = λ dot. elim c.in_default-rest.branch [
      | in_default-rest-via-then-rest-lt1 w ↦ grind (arith, get_or_past c.in-Some.rest.now 0 0)
      | in_default-rest-via-else-rest-lt1+in_default-1 w ↦ grind (arith, dot)
    ] in
    let shallow : length (c.loop-number.numbers.items ++ c.in-Some.number ∷ []) ≤ 32 = omega (arith, length-append c.loop-number.numbers.items (c.in-Some.number ∷ [])) in
    rw (c.in_ok-parts-in_default-rest.ensures.ok, c.as_slice.ensures.value, c.push.ensures.items)
    (name_found c.args._bytes.now c.loop-number.left.now c.in-Some.rest.now c.loop-number.numbers.items c.in-Some.number c.loop-number.invariant.so_far c.in-Some.ensures other
    (components_push c.loop-number.numbers.items c.in-Some.number c.loop-number.invariant.components c.in-Some.ensures.fits) shallow)

-- a dot follows
pub loop-number-preserved : goal.loop-number-preserved
loop-number-preserved c =
    let dot : get_or c.in-Some.rest.now 0 0 ≡ 46 = omega arith in
    record {
      so_far = rw c.push.ensures.items (name_more c.args._bytes.now c.loop-number.left.now c.in-Some.rest.now c.loop-number.numbers.items c.in-Some.number c.loop-number.invariant.so_far c.in-Some.ensures (omega arith) dot);
      components = rw c.push.ensures.items (components_push c.loop-number.numbers.items c.in-Some.number c.loop-number.invariant.components c.in-Some.ensures.fits);
      room = rw c.push.ensures.items (omega (arith, length-append c.loop-number.numbers.items (c.in-Some.number ∷ [])));
    }
