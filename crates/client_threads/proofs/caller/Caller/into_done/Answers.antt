use Rattle.client_threads.proofs.caller.Caller.into_done.Goals as goal

pub invariant_of-result : goal.invariant_of-result
invariant_of-result g c = record { own = ∣ c.requires.own ∣₁; commits = ∣ c.requires.commits ∣₁ }
