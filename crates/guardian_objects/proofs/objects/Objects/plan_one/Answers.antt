use Rattle.guardian_objects.proofs.Room.{fits_from, roomier_same}
use Rattle.guardian_objects.proofs.objects.Objects.plan_one.Goals as goal

pub returns-in_err-to-clause-roomier : goal.returns-in_err-to-clause-roomier
returns-in_err-to-clause-roomier c = roomier_same c.args.self.now

pub returns-clause-room : goal.returns-clause-room
returns-clause-room c = fits_from c.args.alone c.make_room.new.self _ c.args.action.now _ c.in_ok-copy.ensures.ok.1 c.as_ref.ensures.value c.in_ok-at.ensures.room
