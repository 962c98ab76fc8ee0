-- Equal pairs have equal parts.
use Rattle.std.proofs.Common.{◌≡◌, Some, Ok, Option, Result, ap}
use Rattle.script_model.specs.declared.fault.ScriptFault.{ScriptFault}

some_is : {A : Type 0} (a b : A) → Some a ≡ Some b → a ≡ b
some_is a b e = cc

parts : {A B : Type 0} (p q : A × B) → p ≡ q → (p.0 ≡ q.0) × (p.1 ≡ q.1)
parts p q e = (ap (λ x. x.0) e, ap (λ x. x.1) e)

pub some_pair : {A B : Type 0} (a c : A) (b d : B) → ◌≡◌ {A = Option (A × B)} (Some (a, b)) (Some (c, d)) → (a ≡ c) × (b ≡ d)
some_pair a c b d e = parts (a, b) (c, d) (some_is (a, b) (c, d) e)

ok_is : {A : Type 0} (a b : A) → ◌≡◌ {A = Result A ScriptFault} (Ok a) (Ok b) → a ≡ b
ok_is a b e = cc

pub ok_pair : {A B : Type 0} (a c : A) (b d : B) → ◌≡◌ {A = Result (A × B) ScriptFault} (Ok (a, b)) (Ok (c, d)) → (a ≡ c) × (b ≡ d)
ok_pair a c b d e = parts (a, b) (c, d) (ok_is (a, b) (c, d) e)
