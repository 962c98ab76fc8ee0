use Rattle.std.proofs.Common.{List, take, ℕ, ◌≡◌}
use Rattle.action_names.specs.Names.{Name}
use Rattle.run_model.specs.Openings.{Opening}
use Rattle.run_model.specs.StableContent.{Prepared}
use Rattle.guardian_objects.specs.Restored.{AreGivenBack, AreRestorable, HaveBack, with_record}
use Rattle.guardian_objects.proofs.GivenBack.{given_so_far}
use Rattle.guardian_objects.proofs.objects.Objects.give_back.Given as goal

-- the parts so far were given back
abbrev pub invariant-loop-number : goal.invariant-loop-number
invariant-loop-number l = record {
  guardian : l.self.guardian ≡ l.fn.self.guardian;
  given : (opening : Opening) (records : List (Name × Prepared)) (home : ℕ) → AreGivenBack opening records l.fn.self
      → AreRestorable opening l.fn.self.guardian (with_record l.holder home l.parts records)
      → HaveBack opening (λ n. given_so_far l.fn.self.guardian l.holder (take l.number-index l.parts) records n) l.self;
}
