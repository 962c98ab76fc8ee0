-- Parts of a transaction one after another.
use Rattle.std.proofs.Common.{◌≡◌, Result, Ok, Err, sym, subst, arith}
use Rattle.sqlite.specs.State.{State, HasCleanDisk}
use Rattle.sqlite.proofs.StateLemmas.{survives_then}
use Rattle.sql_store.specs.Reading.{Works}
use Rattle.store_writing.proofs.Inside.{keeps_same, keeps_then, survives_self}

pub works_none : {T E : Type 0} (s : State) (x : T) → Works {T = T} {E = E} s s (Ok x)
works_none s x = record { survives = survives_self s; runs = λ _. record { kept = keeps_same s; within = λ w. w } }

pub works_then : {T U E F : Type 0} (a b d : State) (x : T) (r : Result U F) → Works {T = T} {E = E} a b (Ok x) → Works b d r → Works a d r
works_then a b d x r first next = record {
  survives = survives_then a b d _ _ (λ _. ⊥) (λ _ db none. none) (λ _ db none. none) first.survives next.survives;
  runs = λ clean.
      let one = first.runs (before clean) in
      let two = next.runs clean in
      record { kept = keeps_then a b d one.kept two.kept; within = λ w. two.within (one.within w) };
}
  where
    before : HasCleanDisk d → HasCleanDisk b
    before clean = omega (arith, next.survives.clean)

-- how it ended, in other words
pub works_ok : {T U E F : Type 0} (a b : State) (x : T) (y : U) → Works {T = T} {E = E} a b (Ok x) → Works {T = U} {E = F} a b (Ok y)
works_ok a b x y h = record { survives = h.survives; runs = λ clean. let k = h.runs clean in record { kept = k.kept; within = k.within } }

pub works_err : {T U E F : Type 0} (a b : State) (r : Result T E) (e : F) (q : Result U F) → Works a b r → q ≡ Err e → Works a b q
works_err {U = U} {F = F} a b r e q h is =
    subst (Works {T = U} {E = F} a b) (sym is) (record { survives = h.survives; runs = λ clean. record { kept = (h.runs clean).kept; within = λ _. tt } })
