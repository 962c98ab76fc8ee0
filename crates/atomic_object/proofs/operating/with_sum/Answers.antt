use Rattle.std.proofs.Common.{rules, sym, ◌∙◌}
use Rattle.std.proofs.lemmas.Bool.{true≢false}
use Rattle.std.specs.Prelude.{FitsSigned}
use Rattle.std.specs.Int.{w64}
use Rattle.atomic_object.proofs.Granting.{gives_number, total_as}
use Rattle.atomic_object.proofs.operating.with_sum.Goals as goal
use Rattle.atomic_object.proofs.operating.with_sum.Goals.{in-Total, in_default-matches}

pub returns-in-Some-clause-added : goal.returns-in-Some-clause-added
returns-in-Some-clause-added c = λ d e known reads.
    elim c.match-matches.branch [
      | in-Total w ↦
          let n = c.in-Some.number in
          let number : FitsSigned w64 n = search rules in
          let sum : FitsSigned w64 c.args.sum = search rules in
          let gives = gives_number c.args.reply n (sym c.number_in.ensures ∙ c.in-Some.is) in
          total_as d c.args.op.now c.args.reply n c.args.sum number sum w.in-Total.is gives e known
      | in_default-matches w ↦ absurd (true≢false (sym c.if-matches.true ∙ w.matches-is))
    ]
