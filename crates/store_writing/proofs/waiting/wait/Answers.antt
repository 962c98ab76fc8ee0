use Rattle.std.proofs.Common.{refl, arith}
use Rattle.store_writing.proofs.waiting.wait.Goals as goal

pub returns : goal.returns
returns c =
    record {
      last = record { object = c.args.object; text = c.in_ok-text.text };
      is = record { object = refl; high = omega arith; text = c.in_ok-text.ensures.text; stored = c.in_ok-text.ensures.fits };
      whole = c.in_ok-push.ensures.items;
    }
