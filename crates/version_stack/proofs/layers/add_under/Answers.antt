use Rattle.std.proofs.Common.{◌≡◌, ◌-◌, ℕ, ℤ, Some, suc, refl, set, subst, arith, w64}
use Rattle.std.specs.Prelude.{slice_get}
use Rattle.std.proofs.lemmas.Int.{to_z-of_z}
use Rattle.std.proofs.lemmas.Option.{slice_get_read}
use Rattle.version_stack.specs.Layers.{IsAdded}
use Rattle.version_stack.proofs.Under.{cover_get, added_at}
use Rattle.version_stack.proofs.layers.add_under.Goals as goal

pub add_in-requires : goal.add_in-requires
add_in-requires g c =
    let t = g.T.Layered in
    let os = c.args.overlays.now.items in
    let i = c.args.end - 1 in
    let o = c.index_mut.result.now in
    let there : slice_get os i ≡ Some o = slice_get_read os _ i _ refl (omega arith) c.index_mut.ensures.value in
    record { covers = cover_get t.laid t.fits g.T.AtomicType.after os i o there c.requires.cover }

pub returns : goal.returns
returns g c = λ x sound.
    let t = g.T.Layered in
    let after = g.T.AtomicType.after in
    let os = c.args.overlays.now.items in
    let i = c.args.end - 1 in
    let p = c.add_in.new.overlay in
    let place : suc i ≡ c.args.end = omega arith in
    let there : slice_get os i ≡ Some c.index_mut.result.now = slice_get_read os _ i _ refl (omega arith) c.index_mut.ensures.value in
    subst (λ (k : ℕ). IsAdded t.laid after t.fits x x os (set os i p) k c.args.by) place
    (subst (λ (z : ℤ). IsAdded t.laid after t.fits x x os (set os i p) (suc i) z) (to_z-of_z w64 c.args.by c.ranges.by)
    (added_at t.laid t.fits after g.met.T.Layered.fits_stay x os i c.index_mut.result.now p _ there
    (record { adds = c.add_in.ensures.added; fits_still = c.add_in.ensures.fits; covers = c.add_in.ensures.covers }) sound))
