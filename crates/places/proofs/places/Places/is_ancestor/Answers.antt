use Rattle.std.proofs.Common.{Some, [], ap, arith, get_or, length, refl, sym, ◌<◌, ◌∙◌, ◌≡◌, ◌≢◌}
use Rattle.std.specs.Prelude.{slice_get}
use Rattle.std.proofs.lemmas.Option.{slice_get_read}
use Rattle.action_names.specs.Names.{is_ancestor}
use Rattle.places.specs.Trees.{name_at, names_by}
use Rattle.places.proofs.Growing.{names_length}
use Rattle.places.proofs.Walking.{ancestor_above, none_above, own_ancestor}
use Rattle.places.proofs.places.Places.is_ancestor.Goals as goal

pub index-requires : goal.index-requires
index-requires c = omega (arith, c.loop-at.invariant.within, names_length c.self.inside.nodes.items)

pub loop-at-smaller : goal.loop-at-smaller
loop-at-smaller c =
    let nodes = c.self.inside.nodes.items in
    let at = c.loop-at.at in
    let node = c.index.result.now in
    let within : at < length nodes = omega (arith, c.loop-at.invariant.within, names_length nodes) in
    let got : slice_get nodes at ≡ Some node = slice_get_read nodes (length nodes) at node refl within c.index.ensures in
    (c.self.invariant.each at node got).parent c.in-Some.parent c.in-Some.is

pub loop-at-preserved : goal.loop-at-preserved
loop-at-preserved c =
    let nodes = c.self.inside.nodes.items in
    let names = names_by nodes in
    let at = c.loop-at.at in
    let above = c.args.above in
    let node = c.index.result.now in
    let within : at < length nodes = omega (arith, c.loop-at.invariant.within, names_length nodes) in
    let got : slice_get nodes at ≡ Some node = slice_get_read nodes (length nodes) at node refl within c.index.ensures in
    let inside : above < length names = omega (arith, ap length c.self.view_is) in
    let other : at ≢ above = c.loop-at-test.true in
    record {
      within = omega (arith, c.loop-at.invariant.within, (c.self.invariant.each at node got).parent c.in-Some.parent c.in-Some.is);
      same =
          c.loop-at.invariant.same
          ∙ ancestor_above nodes _ above at node c.self.invariant got inside other
          ∙ ap (λ p. is_ancestor (get_or names above []) (name_at names p)) c.in-Some.is;
    }

pub returns-in-None : goal.returns-in-None
returns-in-None c =
    let nodes = c.self.inside.nodes.items in
    let names = names_by nodes in
    let at = c.loop-at.at in
    let above = c.args.above in
    let node = c.index.result.now in
    let within : at < length nodes = omega (arith, c.loop-at.invariant.within, names_length nodes) in
    let got : slice_get nodes at ≡ Some node = slice_get_read nodes (length nodes) at node refl within c.index.ensures in
    let inside : above < length names = omega (arith, ap length c.self.view_is) in
    let other : at ≢ above = c.loop-at-test.true in
    rw (← c.self.view_is)
    (sym (c.loop-at.invariant.same
    ∙ ancestor_above nodes _ above at node c.self.invariant got inside other
    ∙ ap (λ p. is_ancestor (get_or names above []) (name_at names p)) c.in-None.is
    ∙ none_above (get_or names above [])))

pub returns : goal.returns
returns c =
    let nodes = c.self.inside.nodes.items in
    let names = names_by nodes in
    let at = c.loop-at.at in
    let above = c.args.above in
    let inside : above < length names = omega (arith, ap length c.self.view_is) in
    let same : at ≡ above = c.loop-at-test.false in
    rw (← c.self.view_is)
    (sym (c.loop-at.invariant.same
    ∙ ap (λ i. is_ancestor (get_or names above []) (get_or names i [])) same
    ∙ own_ancestor (get_or names above []) (let named = c.self.invariant.placed.named above inside in omega (arith, named.not_empty))))
