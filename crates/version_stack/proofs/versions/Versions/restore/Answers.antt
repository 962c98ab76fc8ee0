use Rattle.version_stack.proofs.Under.{either_way, on_ok_all, on_err_all}
use Rattle.version_stack.proofs.Stacked.{restored}
use Rattle.version_stack.proofs.versions.Versions.restore.Goals as goal

pub invariant_of-self : goal.invariant_of-self
invariant_of-self g c =
    let put = c.put_above.ensures in
    let fresh = restored c.self.invariant c.self.view_is c.args.owner.now c.args.overlay c.requires.alone c.requires.fits c.requires.covers in
    either_way c.put_above.result
    (on_ok_all c.put_above.result put.ok put.owners put.ends (λ overlays owners ends. rw (owners, ends, overlays) fresh.layers))
    (on_err_all c.put_above.result put.err put.owners_stay put.ends_stay (λ overlays owners ends. rw (overlays, owners, ends) c.self.invariant))

pub returns-clause-ok : goal.returns-clause-ok
returns-clause-ok g c =
    let put = c.put_above.ensures in
    let fresh = restored c.self.invariant c.self.view_is c.args.owner.now c.args.overlay c.requires.alone c.requires.fits c.requires.covers in
    on_ok_all c.put_above.result put.ok put.owners put.ends (λ overlays owners ends. rw (owners, ends, overlays) fresh.view)
