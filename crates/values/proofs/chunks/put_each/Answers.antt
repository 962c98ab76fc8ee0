use Rattle.std.proofs.Common.{◌∙◌, to_z, of_z, arith, rules}
use Rattle.std.proofs.lemmas.Int.{to_z-of_z, ints}
use Rattle.std.specs.Int.{w64}
use Rattle.std.specs.Prelude.{FitsSigned, ◌≤ℤ◌, ◌<ℤ◌}
use Rattle.values.proofs.Joined.{put_step, put_within, put_outside}
use Rattle.values.proofs.chunks.put_each.Goals as goal

pub loop-index-preserved-then-low-index : goal.loop-index-preserved-then-low-index
loop-index-preserved-then-low-index c =
    let low = to_z w64 (of_z w64 c.args.low) in
    let own : FitsSigned w64 c.args.low = search rules in
    let fits : FitsSigned w64 c.in-Some.index = search rules in
    let le : c.args.low ≤ℤ c.in-Some.index = first_of (search rules, omega (arith, ints)) in
    put_step low c.loop-index.items.items c.put.new.items.items c.loop-index.puts.items c.pop.new.self.items c.in-Some.index c.in-Some.value c.in-Some.ensures.items
    (put_within low c.args.low c.in-Some.index _ _ c.loop-index.items.items c.put.new.items.items c.abs_diff.result c.in-Some.value (to_z-of_z w64 c.args.low own) (to_z-of_z w64 c.in-Some.index fits) (to_z-of_z w64 c.args.low own)
    le c.abs_diff.ensures c.put.ensures.changed)
    ∙ c.loop-index.invariant

pub loop-index-preserved-then-low-index-2 : goal.loop-index-preserved-then-low-index-2
loop-index-preserved-then-low-index-2 c =
    let low = to_z w64 (of_z w64 c.args.low) in
    let own : FitsSigned w64 c.args.low = search rules in
    let fits : FitsSigned w64 c.in-Some.index = search rules in
    let le : c.args.low ≤ℤ c.in-Some.index = first_of (search rules, omega (arith, ints)) in
    put_step low c.loop-index.items.items c.put.new.items.items c.loop-index.puts.items c.pop.new.self.items c.in-Some.index c.in-Some.value c.in-Some.ensures.items
    (put_within low c.args.low c.in-Some.index _ _ c.loop-index.items.items c.put.new.items.items c.abs_diff.result c.in-Some.value (to_z-of_z w64 c.args.low own) (to_z-of_z w64 c.in-Some.index fits) (to_z-of_z w64 c.args.low own)
    le c.abs_diff.ensures c.put.ensures.changed)
    ∙ c.loop-index.invariant

pub loop-index-preserved-then-low-index-3 : goal.loop-index-preserved-then-low-index-3
loop-index-preserved-then-low-index-3 c =
    let low = to_z w64 (of_z w64 c.args.low) in
    let own : FitsSigned w64 c.args.low = search rules in
    let fits : FitsSigned w64 c.in-Some.index = search rules in
    let le : c.args.low ≤ℤ c.in-Some.index = first_of (search rules, omega (arith, ints)) in
    put_step low c.loop-index.items.items c.put.new.items.items c.loop-index.puts.items c.pop.new.self.items c.in-Some.index c.in-Some.value c.in-Some.ensures.items
    (put_within low c.args.low c.in-Some.index _ _ c.loop-index.items.items c.put.new.items.items c.abs_diff.result c.in-Some.value (to_z-of_z w64 c.args.low own) (to_z-of_z w64 c.in-Some.index fits) (to_z-of_z w64 c.args.low own)
    le c.abs_diff.ensures c.put.ensures.changed)
    ∙ c.loop-index.invariant

pub loop-index-preserved-else-low-index : goal.loop-index-preserved-else-low-index
loop-index-preserved-else-low-index c =
    let low = to_z w64 (of_z w64 c.args.low) in
    let own : FitsSigned w64 c.args.low = search rules in
    let lt : c.in-Some.index <ℤ c.args.low = first_of (search rules, omega (arith, ints)) in
    put_step low c.loop-index.items.items c.loop-index.items.items c.loop-index.puts.items c.pop.new.self.items c.in-Some.index c.in-Some.value c.in-Some.ensures.items
    (put_outside low c.args.low c.in-Some.index c.loop-index.items.items c.in-Some.value (to_z-of_z w64 c.args.low own) lt)
    ∙ c.loop-index.invariant

pub loop-index-preserved : goal.loop-index-preserved
loop-index-preserved c =
    let low = to_z w64 (of_z w64 c.args.low) in
    let own : FitsSigned w64 c.args.low = search rules in
    let lt : c.in-Some.index <ℤ c.args.low = first_of (search rules, omega (arith, ints)) in
    put_step low c.loop-index.items.items c.loop-index.items.items c.loop-index.puts.items c.pop.new.self.items c.in-Some.index c.in-Some.value c.in-Some.ensures.items
    (put_outside low c.args.low c.in-Some.index c.loop-index.items.items c.in-Some.value (to_z-of_z w64 c.args.low own) lt)
    ∙ c.loop-index.invariant
