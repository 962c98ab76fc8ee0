use Rattle.std.proofs.Common.{length, reverse, [], sym, subst, ◌∙◌, arith}
use Rattle.std.proofs.lemmas.List.{length-reverse}
use Rattle.picture.specs.Layouts.{IsLaidOut}
use Rattle.picture.specs.Windows.{span_of}
use Rattle.picture.specs.declared.window.Span.{Span}
use Rattle.picture.proofs.Laying.{so_far_all, so_far_next, so_far_none}
use Rattle.picture.proofs.layout.lay_out.Goals as goal

pub loop-before-init : goal.loop-before-init
loop-before-init c = record {
  guardians = c.new-layout.ensures.guardians ∙ c.guardians.ensures.value;
  count = c.new-layout.ensures.count;
  so_far =
      so_far_none (span_of c.args.window (length c.args.events.now)) c.args.events.now c.new-layout.result c.new-losses.result
      (subst (λ (s : Span). IsLaidOut s c.new-layout.result []) c.of-span.ensures.span c.new-layout.ensures.laid_out) c.new-losses.ensures;
}

pub loop-before-preserved : goal.loop-before-preserved
loop-before-preserved c = record {
  guardians = c.in_ok-add-2.ensures.guardians ∙ c.loop-before.invariant.guardians;
  count = c.in_ok-add-2.ensures.count ∙ c.loop-before.invariant.count;
  so_far =
      so_far_next (span_of c.args.window (length c.args.events.now)) c.args.events.now c.loop-before.before c.index-events-before.result c.loop-before.layout
      c.add-in-loop-before.new.self c.loop-before.losses c.add.new.self (omega arith) c.index-events-before.is c.loop-before.invariant.so_far c.in_ok-add.ensures
      c.in_ok-add-2.ensures.laid_out;
}

pub returns : goal.returns
returns c =
    let so_far =
    so_far_all (span_of c.args.window (length c.args.events.now)) c.args.events.now c.loop-before.before c.loop-before.layout c.loop-before.losses (omega arith)
    c.loop-before.invariant.so_far in
    let laid =
    subst (λ n. IsLaidOut (span_of c.args.window n) c.loop-before.layout (reverse c.args.events.now)) (sym (length-reverse c.args.events.now)) so_far.laid_out in
    record {
      guardians = c.loop-before.invariant.guardians;
      count = c.loop-before.invariant.count ∙ sym (length-reverse c.args.events.now);
      laid_out = record { shown = laid.shown; bars = laid.bars; ticks = laid.ticks; arrows = laid.arrows; gaps = laid.gaps };
      stranded = c.in_ok-layout.ensures (reverse c.args.events.now) so_far.laid_out.bars so_far.kept;
    }
