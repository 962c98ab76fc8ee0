use Rattle.std.proofs.Common.{◌≡◌, ◌++◌, [], ◌∷◌, ℕ, List, true, false, subst, sym, ap, ◌∙◌, nat_cmp, arith, w64, to_z, of_z}
use Rattle.std.proofs.lemmas.Int.{ints}
use Rattle.std.specs.FinMap.{is_sorted}
use Rattle.sqlite.specs.Held.{state}
use Rattle.atomic_types.specs.declared.part.Part.{Part}
use Rattle.atomic_types.specs.declared.part.Part.TheVariants.{Delta}
use Rattle.stable_store.specs.Stored.{Stored}
use Rattle.stable_store.specs.Numbers.{has_zero}
use Rattle.store_tables.specs.Changes.{with_record}
use Rattle.store_tables.specs.Shown.{IsValue}
use Rattle.store_writing.specs.Steps.{Stays}
use Rattle.store_writing.specs.Waiting.{Waits, Takes}
use Rattle.store_writing.proofs.preparing.take_part.Goals as goal

pub returns-in-Value-clause-steps : goal.returns-in-Value-clause-steps
returns-in-Value-clause-steps g c = c.take_value.ensures.steps (subst IsValue (sym c.in-Value.is) tt)

pub returns-in-Delta-clause-steps : goal.returns-in-Delta-clause-steps
returns-in-Delta-clause-steps g c =
    let s = state g.A.Store c.args.tx.now.conn.now in
    let t = state g.A.Store c.take_delta.new.tx.conn.now in
    let by : to_z w64 (of_z w64 c.in-Delta.by) ≡ c.in-Delta.by = omega (arith, ints) in
    subst (λ (p : Part). (home : ℕ) (written all : List (ℕ × Part)) (k : Stored) → has_zero (all ++ (c.args.object, p) ∷ []) ≡ false
    → is_sorted nat_cmp (all ++ (c.args.object, p) ∷ []) ≡ true → Waits IsValue c.args.waiting.now.items written all
    → Stays s (with_record c.args.top home written k)
    → Takes IsValue s t c.take_delta.new.waiting.items (all ++ (c.args.object, p) ∷ []) (λ es. with_record c.args.top home es k) c.take_delta.result)
    (ap (λ z. Delta z) by ∙ sym c.in-Delta.is) c.take_delta.ensures.steps
