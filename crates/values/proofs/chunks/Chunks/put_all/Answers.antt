use Rattle.std.proofs.Common.{◌≡◌, ◌∙◌, to_z, of_z, arith, rules}
use Rattle.std.proofs.lemmas.Int.{to_z-of_z, ints}
use Rattle.std.specs.Int.{w64}
use Rattle.std.specs.Prelude.{FitsSigned}
use Rattle.values.specs.Chunks.{item_stored}
use Rattle.values.proofs.Joined.{put_step, put_within, put_outside}
use Rattle.values.proofs.chunks.Chunks.put_all.Goals as goal
use Rattle.values.proofs.chunks.Chunks.put_all.Goals.{then-low-index+in_ok-store+in-Some+in-Text-1, then-low-index+in_ok-store+in-Some+in-Int-1, then-low-index+in_ok-store+in-None-1, else-low-index}

pub loop-index-preserved-after-low-index : goal.loop-index-preserved-after-low-index
loop-index-preserved-after-low-index c =
    let low = to_z w64 (of_z w64 c.args.low) in
    let own : FitsSigned w64 c.args.low = search rules in
    let fits : FitsSigned w64 c.in-Some.index = search rules in
    let same = to_z-of_z w64 c.args.low own in
    let put : c.if-low-index.self ≡ item_stored low c.loop-index.self c.in-Some.index c.in-Some.value = elim c.if-low-index.branch [
      | then-low-index+in_ok-store+in-Some+in-Text-1 w ↦
          put_within low c.args.low c.in-Some.index _ _ c.loop-index.self c.if-low-index.self w.abs_diff.result c.in-Some.value same (to_z-of_z w64 c.in-Some.index fits) same
          (first_of (search rules, omega (arith, ints))) w.abs_diff.ensures (w.self-is ∙ w.in_ok-store.ensures.changed)
      | then-low-index+in_ok-store+in-Some+in-Int-1 w ↦
          put_within low c.args.low c.in-Some.index _ _ c.loop-index.self c.if-low-index.self w.abs_diff.result c.in-Some.value same (to_z-of_z w64 c.in-Some.index fits) same
          (first_of (search rules, omega (arith, ints))) w.abs_diff.ensures (w.self-is ∙ w.in_ok-store.ensures.changed)
      | then-low-index+in_ok-store+in-None-1 w ↦
          put_within low c.args.low c.in-Some.index _ _ c.loop-index.self c.if-low-index.self w.abs_diff.result c.in-Some.value same (to_z-of_z w64 c.in-Some.index fits) same
          (first_of (search rules, omega (arith, ints))) w.abs_diff.ensures (w.self-is ∙ w.in_ok-store.ensures.changed)
      | else-low-index w ↦ w.self-is ∙ put_outside low c.args.low c.in-Some.index c.loop-index.self c.in-Some.value same (first_of (search rules, omega (arith, ints)))
    ] in
    put_step low c.loop-index.self c.if-low-index.self c.loop-index.puts.items c.pop.new.self.items c.in-Some.index c.in-Some.value c.in-Some.ensures.items put ∙ c.loop-index.invariant

pub loop-index-preserved : goal.loop-index-preserved
loop-index-preserved c =
    let low = to_z w64 (of_z w64 c.args.low) in
    let own : FitsSigned w64 c.args.low = search rules in
    let fits : FitsSigned w64 c.in-Some.index = search rules in
    let same = to_z-of_z w64 c.args.low own in
    let put : c.if-low-index.self ≡ item_stored low c.loop-index.self c.in-Some.index c.in-Some.value = elim c.if-low-index.branch [
      | then-low-index+in_ok-store+in-Some+in-Text-1 w ↦
          put_within low c.args.low c.in-Some.index _ _ c.loop-index.self c.if-low-index.self w.abs_diff.result c.in-Some.value same (to_z-of_z w64 c.in-Some.index fits) same
          (first_of (search rules, omega (arith, ints))) w.abs_diff.ensures (w.self-is ∙ w.in_ok-store.ensures.changed)
      | then-low-index+in_ok-store+in-Some+in-Int-1 w ↦
          put_within low c.args.low c.in-Some.index _ _ c.loop-index.self c.if-low-index.self w.abs_diff.result c.in-Some.value same (to_z-of_z w64 c.in-Some.index fits) same
          (first_of (search rules, omega (arith, ints))) w.abs_diff.ensures (w.self-is ∙ w.in_ok-store.ensures.changed)
      | then-low-index+in_ok-store+in-None-1 w ↦
          put_within low c.args.low c.in-Some.index _ _ c.loop-index.self c.if-low-index.self w.abs_diff.result c.in-Some.value same (to_z-of_z w64 c.in-Some.index fits) same
          (first_of (search rules, omega (arith, ints))) w.abs_diff.ensures (w.self-is ∙ w.in_ok-store.ensures.changed)
      | else-low-index w ↦ w.self-is ∙ put_outside low c.args.low c.in-Some.index c.loop-index.self c.in-Some.value same (first_of (search rules, omega (arith, ints)))
    ] in
    put_step low c.loop-index.self c.if-low-index.self c.loop-index.puts.items c.pop.new.self.items c.in-Some.index c.in-Some.value c.in-Some.ensures.items put ∙ c.loop-index.invariant
