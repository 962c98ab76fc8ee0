use Rattle.std.proofs.Common.{[], ap, length, refl, rules, subst, sym, ◌++◌, ◌+◌, ◌∙◌, ◌∷◌, ◌≡◌}
use Rattle.std.proofs.lemmas.Iterator.{YieldsList-from_zip}
use Rattle.std.proofs.lemmas.Iterator.Adapters.{YieldsList-from_vec}
use Rattle.std.proofs.lemmas.Iterator.Consumers.{YieldsList-end, YieldsList-turn}
use Rattle.std.proofs.lemmas.List.{length-append, length-map}
use Rattle.run_model.specs.Openings.{opening_in}
use Rattle.guardian.specs.Guardians.{IsWhole}
use Rattle.world_steps.specs.Standings.{standing}
use Rattle.world.specs.Worlds.{store_in}
use Rattle.world.proofs.First.{all_stores, each_more, pair_at, stores_more}
use Rattle.world.proofs.beginning.guardians.Goals as goal

pub over-requires-clause-first : goal.over-requires-clause-first
over-requires-clause-first g c =
    let t = YieldsList-turn (YieldsList-from_zip (YieldsList-from_vec c.args.memories.items (cc) (cc)) (YieldsList-from_vec c.args.stores.items (cc) (cc))) c.loop-memory.yielded _
    c.loop-memory.yielded_by _ c.next.new.self (c.in-Some.memory, c.in-Some.store) c.in-Some.is c.next.ensures.steps in
    let i = length c.loop-memory.yielded in
    let at = pair_at c.args.memories.items c.args.stores.items i (c.in-Some.memory, c.in-Some.store) t.0 t.1 in
    (standing (opening_in c.args.opening.now) [] (i + 1), c.requires.memories.each i c.in-Some.memory at.0, refl, c.requires.opened.settled i c.in-Some.store at.1)

pub over-requires-clause-found : goal.over-requires-clause-found
over-requires-clause-found g c =
    let t = YieldsList-turn (YieldsList-from_zip (YieldsList-from_vec c.args.memories.items (cc) (cc)) (YieldsList-from_vec c.args.stores.items (cc) (cc))) c.loop-memory.yielded _
    c.loop-memory.yielded_by _ c.next.new.self (c.in-Some.memory, c.in-Some.store) c.in-Some.is c.next.ensures.steps in
    let at = pair_at c.args.memories.items c.args.stores.items (length c.loop-memory.yielded) (c.in-Some.memory, c.in-Some.store) t.0 t.1 in
    c.requires.opened.found (length c.loop-memory.yielded) c.in-Some.store at.1

pub over-requires-clause-rests : goal.over-requires-clause-rests
over-requires-clause-rests g c =
    let t = YieldsList-turn (YieldsList-from_zip (YieldsList-from_vec c.args.memories.items (cc) (cc)) (YieldsList-from_vec c.args.stores.items (cc) (cc))) c.loop-memory.yielded _
    c.loop-memory.yielded_by _ c.next.new.self (c.in-Some.memory, c.in-Some.store) c.in-Some.is c.next.ensures.steps in
    let at = pair_at c.args.memories.items c.args.stores.items (length c.loop-memory.yielded) (c.in-Some.memory, c.in-Some.store) t.0 t.1 in
    c.requires.opened.rests (length c.loop-memory.yielded) c.in-Some.store at.1

pub loop-memory-preserved : goal.loop-memory-preserved
loop-memory-preserved g c =
    let t = YieldsList-turn (YieldsList-from_zip (YieldsList-from_vec c.args.memories.items (cc) (cc)) (YieldsList-from_vec c.args.stores.items (cc) (cc))) c.loop-memory.yielded _
    c.loop-memory.yielded_by _ c.next.new.self (c.in-Some.memory, c.in-Some.store) c.in-Some.is c.next.ensures.steps in
    let i = length c.loop-memory.yielded in
    let at = pair_at c.args.memories.items c.args.stores.items i (c.in-Some.memory, c.in-Some.store) t.0 t.1 in
    let opening = opening_in c.args.opening.now in
    let old = c.loop-memory.guardians.items in
    let new = c.push_reserved.new.self.items in
    let whole = c.over.ensures.state (standing opening [] (i + 1)) (c.requires.memories.each i c.in-Some.memory at.0) refl (c.requires.opened.settled i c.in-Some.store at.1) in
    let here : length old ≡ i = search rules in
    let grown : length new ≡ length (c.loop-memory.yielded ++ (c.in-Some.memory, c.in-Some.store) ∷ []) =
    ap (λ l. length l) c.push_reserved.ensures.items ∙ length-append old (c.over.result ∷ []) ∙ ap (λ n. n + 1) here
    ∙ sym (length-append c.loop-memory.yielded ((c.in-Some.memory, c.in-Some.store) ∷ [])) in
    record {
      can_next = search rules;
      is_finite = search rules;
      each =
          each_more (λ k x. IsWhole g.S.Stable.seen x (standing opening [] (k + 1))) old new c.over.result c.push_reserved.ensures.items c.loop-memory.invariant.each
          (subst (λ n. IsWhole g.S.Stable.seen c.over.result (standing opening [] (n + 1))) (sym here) whole);
      stores =
          stores_more old new c.over.result c.loop-memory.yielded (c.in-Some.memory, c.in-Some.store) c.push_reserved.ensures.items c.loop-memory.invariant.stores
          c.over.ensures.store;
      len = search rules;
      room = search rules;
    }

pub returns-clause-first : goal.returns-clause-first
returns-clause-first g c =
    let t = YieldsList-end (YieldsList-from_zip (YieldsList-from_vec c.args.memories.items (cc) (cc)) (YieldsList-from_vec c.args.stores.items (cc) (cc))) c.loop-memory.yielded _
    c.loop-memory.yielded_by _ c.next.new.self c.in-None.is c.next.ensures.steps in
    let stores = c.loop-memory.invariant.stores ∙ all_stores c.args.memories.items c.args.stores.items c.loop-memory.yielded c.requires.count t.0 in
    record {
      count = sym (length-map c.loop-memory.guardians.items store_in) ∙ ap (λ l. length l) stores ∙ c.requires.count ∙ c.requires.memories.count;
      each = c.loop-memory.invariant.each;
    }

pub returns-clause-stores : goal.returns-clause-stores
returns-clause-stores g c =
    let t = YieldsList-end (YieldsList-from_zip (YieldsList-from_vec c.args.memories.items (cc) (cc)) (YieldsList-from_vec c.args.stores.items (cc) (cc))) c.loop-memory.yielded _
    c.loop-memory.yielded_by _ c.next.new.self c.in-None.is c.next.ensures.steps in
    c.loop-memory.invariant.stores ∙ all_stores c.args.memories.items c.args.stores.items c.loop-memory.yielded c.requires.count t.0
