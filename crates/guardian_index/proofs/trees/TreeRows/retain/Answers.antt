use Rattle.std.proofs.Common.{◌∙◌, ◌&&◌, ap, rules}
use Rattle.guardian_index.specs.Held.{Rows, has_object}
use Rattle.guardian_index.proofs.Rows.{leaves, retained, retained_rise}
use Rattle.guardian_index.proofs.trees.TreeRows.retain.Goals as goal

pub invariant_of-self : goal.invariant_of-self
invariant_of-self g c =
    let holds = g.H.Holding.holds c.args.holding.now in
    record {
      names = c.retain.ensures.ordered;
      objects = retained_rise _ holds _ (λ k v t w f called. leaves holds called.shows.0 called.shows.1 called.leaves (search rules) (search rules) (search rules)) _ _
          c.retain.ensures.filtered c.self.invariant.objects;
    }

pub returns : goal.returns
returns g c = λ b n.
    let holds = g.H.Holding.holds c.args.holding.now in
    retained _ holds _ (λ k v t w f called. leaves holds called.shows.0 called.shows.1 called.leaves (search rules) (search rules) (search rules)) b _ _
    c.retain.ensures.filtered c.self.invariant.names n
    ∙ ap (λ (rs : Rows). has_object rs b n && holds b n) c.self.view_is
