use Rattle.std.proofs.Common.{refl}
use Rattle.picture.proofs.Adding.{laid_more}
use Rattle.picture.proofs.layout.Layout.add.Goals as goal

pub returns-clause-laid_out : goal.returns-clause-laid_out
returns-clause-laid_out c = λ span past laid is.
    laid_more span c.args.self.now _ c.args.event.now c.args.number past laid is refl c.in_ok-add_ticks.ensures (c.in_ok-add_arrows.ensures past laid.bars)
    (c.in_ok-add.ensures past laid.bars is) (c.in_ok-add-2.ensures past c.args.event.now.answer laid.gaps is)
