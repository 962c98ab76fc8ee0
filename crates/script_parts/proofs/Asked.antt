-- What asking gives, one question after another.
use Rattle.std.proofs.Common.{◌≡◌, ℕ, List, [], ◌∷◌, ◌++◌, Bool, true, false, ◌||◌, codes, Option, Some, None, Ok, Err, String, Global, string_bytes, refl, sym, ap, append_assoc, rules}
use Rattle.serde_json.specs.Data.{Data, string}
use Rattle.serde_json.specs.View.{view}
use Rattle.serde_json.specs.declared.value.Value.{the_lemmas}
use Rattle.serde_json.specs.declared.value.Value.TheVariants as json
use Rattle.script_model.specs.declared.fault.FaultKind.{FaultKind}
use Rattle.script_model.specs.declared.names.Sort.{Sort}
use Rattle.script_model.specs.declared.names.Sort.TheVariants.{Text}
use Rattle.script_model.specs.declared.expression.Condition.{Condition}
use Rattle.script_model.specs.Reading.{Outcome, Answers, and_then, ask, need, step}
use Rattle.script_model.specs.Scopes.{Scope, agree, same_sort}
use Rattle.script_model.specs.Shapes.{the_pair}
use Rattle.script_model.specs.ExpressionReading.{sort_of, equal, same_texts, same_ints}

pub view-String : (s : String Global) → view (json.String s) ≡ string (string_bytes s)
view-String s = search (rules, the_lemmas)

pub ask_true : (b : Bool) (why : FaultKind) (place : List ℕ) → ask b why place ≡ Ok tt → b ≡ true
ask_true true why place e = refl
ask_true false why place e = cc

pub need_some : {A : Type 0} (o : Option A) (why : FaultKind) (place : List ℕ) (a : A) → need o why place ≡ Ok a → o ≡ Some a
need_some None why place a e = cc
need_some (Some b) why place a e = cc

-- what comes after a part that was read
pub and_then_ok : {A B : Type 0} (r : Outcome A) (f : A → Outcome B) (b : B) → and_then r f ≡ Ok b → (a : A) × (r ≡ Ok a) × (f a ≡ Ok b)
and_then_ok (Ok a) f b e = (a, refl, e)
and_then_ok (Err x) f b e = cc

pub ok_is : {A : Type 0} (a b : A) → ◌≡◌ {A = Outcome A} (Ok a) (Ok b) → a ≡ b
ok_is a b e = cc

pub asks : (a b : Bool) (k l : FaultKind) (place : List ℕ) (r : Outcome (Unit {0})) → ask a k place ≡ Ok tt → Answers (ask b l place) r
    → Answers (and_then (ask a k place) (λ _. ask b l place)) r
asks true b k l place r e h = h
asks false b k l place r e h = cc

pub equal_texts : (scope : Scope) (d : Data) (place inside : List ℕ) (a b : Data) (one other : Sort) (r : Outcome Condition) → inside ≡ step place (codes "eq")
    → the_pair d inside ≡ Ok (a, b) → one ≡ sort_of scope a → other ≡ sort_of scope b → agree one other ≡ true → (same_sort one Text || same_sort other Text) ≡ true
    → Answers (same_texts scope (a, b) inside) r → Answers (equal scope d place) r
equal_texts scope d place inside a b one other r at pair first second agreed texts h = rw (← at, pair, ← first, ← second, agreed, texts) h

pub equal_ints : (scope : Scope) (d : Data) (place inside : List ℕ) (a b : Data) (one other : Sort) (r : Outcome Condition) → inside ≡ step place (codes "eq")
    → the_pair d inside ≡ Ok (a, b) → one ≡ sort_of scope a → other ≡ sort_of scope b → agree one other ≡ true → (same_sort one Text || same_sort other Text) ≡ false
    → Answers (same_ints scope (a, b) inside) r → Answers (equal scope d place) r
equal_ints scope d place inside a b one other r at pair first second agreed texts h = rw (← at, pair, ← first, ← second, agreed, texts) h

-- ---- lists that are read one after another

pub none_before : {A : Type 0} (r : Outcome (List A)) → r ≡ and_then r (λ xs. Ok ([] ++ xs))
none_before (Ok xs) = refl
none_before (Err e) = refl

pub one_more : {A : Type 0} (r : Outcome (List A)) (done : List A) (x : A) → and_then (and_then r (λ xs. Ok (x ∷ xs))) (λ xs. Ok (done ++ xs)) ≡ and_then r (λ xs. Ok ((done ++ x ∷ []) ++ xs))
one_more (Ok xs) done x = ap (λ ys. Ok ys) (sym (append_assoc done (x ∷ []) xs))
one_more (Err e) done x = refl
