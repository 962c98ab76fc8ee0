use Rattle.std.proofs.Common.{◌∙◌, ◌&&◌, ap, rules}
use Rattle.guardian_index.specs.Held.{Rows, has_object}
use Rattle.guardian_index.proofs.Rows.{retained, retained_rise}
use Rattle.guardian_index.proofs.FewRows.{in_pairs, kept_names, row_leaves}
use Rattle.guardian_index.proofs.few.FewRows.retain.Goals as goal

pub invariant_of-self : goal.invariant_of-self
invariant_of-self g c =
    let holds = g.H.Holding.holds c.args.holding.now in
    let kept = in_pairs _ holds _ (λ x b f y called. row_leaves holds called.shows called.leaves (search rules) (search rules) (search rules) (search rules)) _ _ c.retain_mut.ensures.filtered in
    record {
      names = kept_names _ _ _ _ kept c.self.invariant.names;
      objects = retained_rise _ holds _ (λ k v t w f left. left) _ _ kept c.self.invariant.objects;
    }

pub returns : goal.returns
returns g c = λ b n.
    let holds = g.H.Holding.holds c.args.holding.now in
    let kept = in_pairs _ holds _ (λ x b f y called. row_leaves holds called.shows called.leaves (search rules) (search rules) (search rules) (search rules)) _ _ c.retain_mut.ensures.filtered in
    retained _ holds _ (λ k v t w f left. left) b _ _ kept c.self.invariant.names n
    ∙ ap (λ (rs : Rows). has_object rs b n && holds b n) c.self.view_is
