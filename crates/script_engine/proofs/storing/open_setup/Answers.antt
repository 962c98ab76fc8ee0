use Rattle.std.proofs.Common.{None, Some, ap, arith, get_or, length, map, subst, sym, ◌+◌, ◌<◌, ◌≡◌, ◌∙◌}
use Rattle.std.proofs.lemmas.List.{length_push}
use Rattle.stable_store.specs.Held.{held}
use Rattle.script_model.specs.Laws.{HasFewObjects}
use Rattle.script_engine.specs.Storing.{found_in, Opens}
use Rattle.script_engine.proofs.Limits.{few_at, room_for}
use Rattle.script_engine.proofs.Opening.{few_laid, found_at, none_in, one_more_opened, refused_at, some_in}
use Rattle.script_engine.proofs.storing.open_setup.Goals as goal

pub returns-in_default : goal.returns-in_default
returns-in_default g c =
    let i = c.loop-index.index in
    let all = c.as_slice-own-items.ensures in
    let lt : i < length c.args.script.now.guardians = subst (λ gs. i < length gs) all (omega (arith, c.loop-index-test.true)) in
    let item = subst (λ gs. c.own-item.result ≡ get_or gs i c.own-item.result) all c.own-item.is in
    refused_at (map (found_in g.S.Stable.seen) c.args.stores.now) c.args.script.now.guardians i None c.own-item.result lt
    (found_at (found_in g.S.Stable.seen) c.args.stores.now i c.index-stores-index.result None (omega (arith, lt, c.requires.count)) c.index-stores-index.is
    c.in_default.ensures)
    item (λ contents opens. opens)

pub contents_over-requires : goal.contents_over-requires
contents_over-requires g c =
    let i = c.loop-index.index in
    let all = c.as_slice-own-items.ensures in
    subst HasFewObjects (sym c.as_slice.ensures)
    (few_at c.args.script.now c.requires.script i c.own-item.result (subst (λ gs. i < length gs) all (omega (arith, c.loop-index-test.true)))
    (subst (λ gs. c.own-item.result ≡ get_or gs i c.own-item.result) all c.own-item.is))

pub returns-in_default-2 : goal.returns-in_default-2
returns-in_default-2 g c =
    let i = c.loop-index.index in
    let all = c.as_slice-own-items.ensures in
    let lt : i < length c.args.script.now.guardians = subst (λ gs. i < length gs) all (omega (arith, c.loop-index-test.true)) in
    let item = subst (λ gs. c.own-item.result ≡ get_or gs i c.own-item.result) all c.own-item.is in
    refused_at (map (found_in g.S.Stable.seen) c.args.stores.now) c.args.script.now.guardians i (Some (held c.in-Some.kept.now)) c.as_slice.result.now lt
    (found_at (found_in g.S.Stable.seen) c.args.stores.now i c.index-stores-index.result _ (omega (arith, lt, c.requires.count)) c.index-stores-index.is
    c.in-Some.ensures)
    (subst (λ o. o ≡ get_or c.args.script.now.guardians i o) (sym c.as_slice.ensures) item)
    (none_in (λ contents. Opens (Some (held c.in-Some.kept.now)) c.as_slice.result.now contents.items) c.in_ok-contents.field-0 c.in_default-2.is
    c.in_ok-contents.ensures)

pub add_guardian-requires-clause-room : goal.add_guardian-requires-clause-room
add_guardian-requires-clause-room g c =
    let i = c.loop-index.index in
    room_for c.args.script.now c.requires.script c.loop-index.setup i
    (subst (λ gs. i < length gs) c.as_slice-own-items.ensures (omega (arith, c.loop-index-test.true))) c.loop-index.invariant.count

pub add_guardian-requires-clause-few : goal.add_guardian-requires-clause-few
add_guardian-requires-clause-few g c =
    let i = c.loop-index.index in
    let all = c.as_slice-own-items.ensures in
    few_laid (held c.in-Some.kept.now) c.as_slice.result.now c.in-Some-2.contents.items
    (some_in _ (λ contents. Opens (Some (held c.in-Some.kept.now)) c.as_slice.result.now contents.items) c.in_ok-contents.field-0 c.in-Some-2.contents
    c.in-Some-2.is c.in_ok-contents.ensures)
    (subst HasFewObjects (sym c.as_slice.ensures)
    (few_at c.args.script.now c.requires.script i c.own-item.result (subst (λ gs. i < length gs) all (omega (arith, c.loop-index-test.true)))
    (subst (λ gs. c.own-item.result ≡ get_or gs i c.own-item.result) all c.own-item.is)))

pub loop-index-preserved : goal.loop-index-preserved
loop-index-preserved g c =
    let i = c.loop-index.index in
    let all = c.as_slice-own-items.ensures in
    let lt : i < length c.args.script.now.guardians = subst (λ gs. i < length gs) all (omega (arith, c.loop-index-test.true)) in
    let item = subst (λ gs. c.own-item.result ≡ get_or gs i c.own-item.result) all c.own-item.is in
    record {
      count =
          ap length c.in_ok-add_guardian.ensures ∙ length_push c.loop-index.setup c.in-Some-2.contents.items
          ∙ ap (λ n. n + 1) c.loop-index.invariant.count;
      each =
          one_more_opened (map (found_in g.S.Stable.seen) c.args.stores.now) c.args.script.now.guardians i (Some (held c.in-Some.kept.now)) c.as_slice.result.now
          c.loop-index.setup c.add_guardian.new.setup c.in-Some-2.contents.items lt
          (found_at (found_in g.S.Stable.seen) c.args.stores.now i c.index-stores-index.result _ (omega (arith, lt, c.requires.count)) c.index-stores-index.is
          c.in-Some.ensures)
          (subst (λ o. o ≡ get_or c.args.script.now.guardians i o) (sym c.as_slice.ensures) item)
          (some_in _ (λ contents. Opens (Some (held c.in-Some.kept.now)) c.as_slice.result.now contents.items) c.in_ok-contents.field-0
          c.in-Some-2.contents c.in-Some-2.is c.in_ok-contents.ensures)
          c.loop-index.invariant.count c.loop-index.invariant.each c.in_ok-add_guardian.ensures;
    }

pub returns : goal.returns
returns g c =
    let all = c.as_slice-own-items.ensures in
    let end : c.loop-index.index ≡ length c.args.script.now.guardians =
    subst (λ gs. c.loop-index.index ≡ length gs) all (omega (arith, c.loop-index-test.false, c.loop-index.auto.index-end)) in
    record {
      count = c.loop-index.invariant.count ∙ end;
      each = λ n lt. c.loop-index.invariant.each n (omega (arith, lt, end));
    }
