use Rattle.std.proofs.Common.{◌≡◌, ◌≢◌, ◌<◌, ◌≤◌, [], ◌∷◌, ◌++◌, length, get_or, take, length-append, length-take, length-set, arith}
use Rattle.std.proofs.lemmas.List.{get_or_past, take_more_set}
use Rattle.action_names.proofs.Fronts.{no_name, name_goes_on, name_more, name_found, components_push}
use Rattle.action_names.proofs.name.Name.at_front.Goals as goal
use Rattle.action_names.proofs.name.Name.at_front.Goals.{in_default-rest-via-then-rest-lt1, in_default-rest-via-else-rest-lt1+in_default-1}

-- what is left begins with no number
pub returns-in_default-clause-refused : goal.returns-in_default-clause-refused
returns-in_default-clause-refused c _ =
    no_name c.args.bytes.now c.loop-at.left.now (take c.loop-at.at c.loop-at.few) c.loop-at.invariant.so_far c.loop-at.invariant.components c.in_default.ensures

pub returns-in_default-clause-inline : goal.returns-in_default-clause-inline
returns-in_default-clause-inline c a rest begins short =
    absurd (no_name c.args.bytes.now c.loop-at.left.now (take c.loop-at.at c.loop-at.few) c.loop-at.invariant.so_far c.loop-at.invariant.components c.in_default.ensures a rest begins)

-- no dot follows
pub returns-in_default-rest-clause-found : goal.returns-in_default-rest-clause-found
returns-in_default-rest-clause-found c =
    let parts = take c.loop-at.at c.loop-at.few in
    let other : get_or c.in-Some.rest.now 0 0 ≢ 46 = λ dot. elim c.in_default-rest.branch [
      | in_default-rest-via-then-rest-lt1 w ↦ grind (arith, get_or_past c.in-Some.rest.now 0 0)
      | in_default-rest-via-else-rest-lt1+in_default-1 w ↦ grind (arith, dot)
    ] in
    let room : c.loop-at.at < length c.loop-at.few = omega arith in
    let shallow : length (parts ++ c.in-Some.number ∷ []) ≤ 32 = omega (arith, length-append parts (c.in-Some.number ∷ []), length-take c.loop-at.at c.loop-at.few) in
    rw (c.few-parts.ensures, take_more_set c.loop-at.few c.loop-at.at c.in-Some.number room)
    (name_found c.args.bytes.now c.loop-at.left.now c.in-Some.rest.now parts c.in-Some.number c.loop-at.invariant.so_far c.in-Some.ensures other
    (components_push parts c.in-Some.number c.loop-at.invariant.components c.in-Some.ensures.fits) shallow)

pub invariant_of-result : goal.invariant_of-result
invariant_of-result c = (returns-in_default-rest-clause-found c).fits

-- a dot follows
pub loop-at-preserved : goal.loop-at-preserved
loop-at-preserved c =
    let parts = take c.loop-at.at c.loop-at.few in
    let dot : get_or c.in-Some.rest.now 0 0 ≡ 46 = omega arith in
    let room : c.loop-at.at < length c.loop-at.few = omega arith in
    let more = take_more_set c.loop-at.few c.loop-at.at c.in-Some.number room in
    record {
      so_far = rw more (name_more c.args.bytes.now c.loop-at.left.now c.in-Some.rest.now parts c.in-Some.number c.loop-at.invariant.so_far c.in-Some.ensures (omega arith) dot);
      components = rw more (components_push parts c.in-Some.number c.loop-at.invariant.components c.in-Some.ensures.fits);
      full = omega (arith, length-set c.loop-at.few c.loop-at.at c.in-Some.number);
    }

-- a name with a ninth number
pub returns-clause-inline : goal.returns-clause-inline
returns-clause-inline c a rest begins short =
    let parts = take c.loop-at.at c.loop-at.few in
    let goes = name_goes_on c.args.bytes.now c.loop-at.left.now parts c.loop-at.invariant.so_far c.loop-at.invariant.components a rest begins in
    absurd (omega (arith, goes.counted, goes.some, length-take c.loop-at.at c.loop-at.few))
