use Rattle.one_run.proofs.run.Run.look.Goals as goal

pub load_so-requires-clause-told : goal.load_so-requires-clause-told
load_so-requires-clause-told g c = λ v w n counts. record { past = counts.past; run = counts.run; fits = counts.fits; seen = counts.seen }
