use Rattle.std.proofs.Common.{◌≡◌, ◌+◌, ℕ, suc, refl, get_or, set, sym, ap, ◌∙◌, subst, arith, add-one}
use Rattle.std.specs.List.{remove}
use Rattle.std.proofs.lemmas.List.{get_or-set_other}
use Rattle.std.proofs.lemmas.Option.{slice_get_read}
use Rattle.version_stack.specs.Layers.{IsMerged}
use Rattle.version_stack.proofs.Under.{on_err, put_twice}
use Rattle.version_stack.proofs.Joining.{may_join, joined_at, put_back}
use Rattle.version_stack.proofs.layers.join_above.Goals as goal

pub join-joined-requires : goal.join-joined-requires
join-joined-requires g c =
    let t = g.T.Layered in
    let overlays = c.args.overlays.now.items in
    let at = c.args.at in
    let upper = c.index.result.now in
    may_join t.laid t.fits g.T.AtomicType.after c.args.content.now overlays at c.replace-lower.result upper
    (rw c.replace-lower.ensures.value (slice_get_read overlays _ at _ refl (omega arith) c.index_mut.ensures.value))
    (slice_get_read overlays _ (suc at) upper refl (omega arith)
    (c.index.ensures ∙ get_or-set_other overlays at (at + 1) c.replace-lower.new.dest upper (omega arith)
    ∙ ap (λ (k : ℕ). get_or overlays k upper) (add-one at)))
    c.requires.sound.fit

pub returns-in_err-joined-clause-err : goal.returns-in_err-joined-clause-err
returns-in_err-joined-clause-err g c =
    let overlays = c.args.overlays.now.items in
    let at = c.args.at in
    let lower : c.join-joined.new.lower ≡ c.index_mut.result.now = c.in_err-joined.ensures.err ∙ c.replace-lower.ensures.value in
    on_err {P = set (set overlays at c.replace-lower.new.dest) at c.join-joined.new.lower ≡ overlays} c.from_residual.result
    (rw lower (put_back overlays at c.replace-lower.new.dest c.index_mut.result.now c.index_mut.ensures.value))

pub returns-clause-ok : goal.returns-clause-ok
returns-clause-ok g c =
    let t = g.T.Layered in
    let after = g.T.AtomicType.after in
    let x = c.args.content.now in
    let overlays = c.args.overlays.now.items in
    let at = c.args.at in
    let upper = c.index.result.now in
    let joined = c.join-joined.new.lower in
    let left : c.remove.new.self.items ≡ remove (set overlays at joined) (suc at) =
    c.remove.ensures.items ∙ ap (λ os. remove os (at + 1)) (put_twice overlays at c.replace-lower.new.dest joined)
    ∙ ap (λ (k : ℕ). remove (set overlays at joined) k) (add-one at) in
    let whole = joined_at t.laid t.fits after x overlays at c.replace-lower.result upper joined (omega arith)
    (rw c.replace-lower.ensures.value (slice_get_read overlays _ at _ refl (omega arith) c.index_mut.ensures.value))
    (slice_get_read overlays _ (suc at) upper refl (omega arith)
    (c.index.ensures ∙ get_or-set_other overlays at (at + 1) c.replace-lower.new.dest upper (omega arith)
    ∙ ap (λ (k : ℕ). get_or overlays k upper) (add-one at)))
    (record {
      joins = c.in_ok-joined.ensures.joined;
      fits_still = c.in_ok-joined.ensures.fits;
      covers = c.in_ok-joined.ensures.covers;
    })
    c.requires.sound in
    subst (λ (k : ℕ). IsMerged t.laid after t.fits x x overlays c.remove.new.self.items k) (sym (add-one at))
    (subst (λ ps. IsMerged t.laid after t.fits x x overlays ps (suc at)) (sym left) whole)
