use Rattle.std.proofs.Common.{Some, ap, length, length-set, refl, ◌∙◌}
use Rattle.tellings.proofs.Rows.{fits_parts, places_left, put_last}
use Rattle.tellings.proofs.tellings.Tellings.put_all.Goals as goal

pub put-requires : goal.put-requires
put-requires c = (fits_parts (length c.loop-at.self.told) _ _ _ _ c.in-Some.ensures.items refl c.loop-at.invariant.fits).1

pub loop-at-preserved : goal.loop-at-preserved
loop-at-preserved c =
    let held = c.loop-at.self.told in
    let rest = c.pop.new.self.items in
    let items = c.loop-at.heard.told.items in
    let left = c.in-Some.ensures.items in
    let same = ap length c.put.ensures ∙ length-set held c.in-Some.at (Some c.in-Some.told) in
    let parts = fits_parts (length held) (length c.put.new.self) rest items (c.in-Some.at, c.in-Some.told) left same c.loop-at.invariant.fits in
    record {
      crashes = c.loop-at.invariant.crashes;
      room = same ∙ c.loop-at.invariant.room;
      fits = parts.0;
      places = λ names have. places_left names rest items (c.in-Some.at, c.in-Some.told) left (c.loop-at.invariant.places names have);
      values = λ names have b.
          put_last names rest items held c.put.new.self c.in-Some.at c.in-Some.told left c.put.ensures parts.1 (c.loop-at.invariant.places names have) b
          ∙ c.loop-at.invariant.values names have b;
    }
