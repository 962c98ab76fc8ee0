-- How many variables are bound, by the definitions of what calls leave.
use Rattle.std.proofs.Common.{Bool, List, [], ◌∷◌, ◌++◌, length, IfSome, Option, None, Some, ap, refl, subst, take, true, false}
use Rattle.std.proofs.Common.{◌∙◌, ◌≡◌, ◌≤◌, ◌==◌, ℕ, ℤ, suc, cond, arith, set, length-set, length-append}
use Rattle.std.proofs.lemmas.List.{length-take-le}
use Rattle.values.specs.declared.value.Value.TheVariants as value
use Rattle.atomic_types.specs.declared.op.Reply.{Reply}
use Rattle.atomic_types.specs.declared.op.Reply.TheVariants as reply
use Rattle.script_model.specs.declared.statement.Binding.{Binding}
use Rattle.script_model.specs.declared.statement.Binding.TheVariants as binding
use Rattle.script_model.specs.declared.statement.HandlerCall.{HandlerCall}
use Rattle.script_model.specs.Resolved.{Frames, frames_after, grown}
use Rattle.frames.specs.Bound.{Bound, cut_back, sizes}
use Rattle.frames.specs.Binding.{bound_after, bound_at}
use Rattle.frames.specs.Evaluating.{int_value, text_value, together}
use Rattle.frames.specs.Operating.{each, given}

-- so many of each kind
abbrev counts : ℕ → ℕ → ℕ → Frames
counts ints texts truths = record { ints = ints; texts = texts; truths = truths }

-- what is so of the variables, where there are some
some_so : (o : Option Bound) (b : Bound) (n : Frames) → IfSome o (λ new. sizes new ≡ n) → o ≡ Some b → sizes b ≡ n
some_so o b n h e = subst (λ p. IfSome p (λ new. sizes new ≡ n)) e h

-- ---- what a binding leaves

-- a list in which a value was bound is as long as its place says
length_bound : {A : Type 0} (xs : List A) (place : Option ℕ) (x : A) → length (bound_at xs place x) ≡ grown (length xs) place
length_bound xs None x = refl
length_bound xs (Some place) x = by_case (place == length xs)
  where
    by_case : (t : Bool) → length (cond t (xs ++ x ∷ []) (set xs place x)) ≡ cond t (suc (length xs)) (length xs)
    by_case true = omega (arith, length-append xs (x ∷ []))
    by_case false = length-set xs place x

after_sizes : (b : Bound) (k : Binding) (r : Reply) → IfSome (bound_after b k r) (λ new. sizes new ≡ frames_after (sizes b) k)
after_sizes b binding.Nothing reply.Done = refl
after_sizes b binding.Nothing (reply.Gives v) = tt
after_sizes b binding.Nothing (reply.Truth t) = tt
after_sizes b binding.Nothing (reply.Signals s) = tt
after_sizes b (binding.Int place) (reply.Gives (value.Int n)) =
    ap (λ (m : ℕ). record { ints = m; texts = length b.texts; truths = length b.truths }) (length_bound b.ints place n)
after_sizes b (binding.Int place) (reply.Gives (value.Text s)) = tt
after_sizes b (binding.Int place) reply.Done = tt
after_sizes b (binding.Int place) (reply.Truth t) = tt
after_sizes b (binding.Int place) (reply.Signals s) = tt
after_sizes b (binding.Text place) (reply.Gives (value.Int n)) = tt
after_sizes b (binding.Text place) (reply.Gives (value.Text s)) =
    ap (λ (m : ℕ). record { ints = length b.ints; texts = m; truths = length b.truths }) (length_bound b.texts place s)
after_sizes b (binding.Text place) reply.Done = tt
after_sizes b (binding.Text place) (reply.Truth t) = tt
after_sizes b (binding.Text place) (reply.Signals s) = tt
after_sizes b (binding.Truth place) (reply.Gives v) = tt
after_sizes b (binding.Truth place) reply.Done = tt
after_sizes b (binding.Truth place) (reply.Truth t) =
    ap (λ (m : ℕ). record { ints = length b.ints; texts = length b.texts; truths = m }) (length_bound b.truths place t)
after_sizes b (binding.Truth place) (reply.Signals s) = tt

-- the variables after a reply was bound are as many as the binding says
pub sizes_after : (b new : Bound) (k : Binding) (r : Reply) → bound_after b k r ≡ Some new → sizes new ≡ frames_after (sizes b) k
sizes_after b new k r e = some_so (bound_after b k r) new (frames_after (sizes b) k) (after_sizes b k r) e

-- ---- with what a handler begins

put_first : {B : Type 0} (x : Option B) (ys : Option (List B)) (n : ℕ) → IfSome ys (λ zs. length zs ≡ n)
    → IfSome (together ◌∷◌ x ys) (λ zs. length zs ≡ suc n)
put_first None ys n h = tt
put_first (Some x) None n h = tt
put_first (Some x) (Some ys) n h = ap suc h

length_each : {A B : Type 0} (f : A → Option B) (xs : List A) → IfSome (each f xs) (λ ys. length ys ≡ length xs)
length_each f [] = refl
length_each f (x ∷ xs) = put_first (f x) (each f xs) (length xs) (length_each f xs)

begun_sizes : (xs : Option (List ℤ)) (ys : Option (List (List ℕ))) (m n : ℕ) → IfSome xs (λ zs. length zs ≡ m) → IfSome ys (λ zs. length zs ≡ n)
    → IfSome (together (λ ints texts. record { ints = ints; texts = texts; truths = [] }) xs ys) (λ (b : Bound). sizes b ≡ counts m n 0)
begun_sizes None ys m n h k = tt
begun_sizes (Some xs) None m n h k = tt
begun_sizes (Some xs) (Some ys) m n h k = ap (λ l. counts l (length ys) 0) h ∙ ap (λ l. counts m l 0) k

-- as many variables as the call has ints and texts
pub sizes_given : (b inside : Bound) (call : HandlerCall) → given b call ≡ Some inside
    → sizes inside ≡ record { ints = length call.ints; texts = length call.texts; truths = 0 }
sizes_given b inside call e =
    some_so (given b call) inside (counts (length call.ints) (length call.texts) 0)
    (begun_sizes (each (int_value b.ints) call.ints) (each (text_value b.texts) call.texts) (length call.ints) (length call.texts)
    (length_each (int_value b.ints) call.ints) (length_each (text_value b.texts) call.texts)) e

-- ---- what is left after some are forgotten

-- what was cut to sizes that it had at least has them
pub sizes_cut : (n : Frames) (b : Bound) → n.ints ≤ length b.ints → n.texts ≤ length b.texts → n.truths ≤ length b.truths
    → sizes (cut_back n b) ≡ n
sizes_cut n b i t u =
    ap (λ m. counts m (length (take n.texts b.texts)) (length (take n.truths b.truths))) (length-take-le n.ints b.ints i)
    ∙ ap (λ m. counts n.ints m (length (take n.truths b.truths))) (length-take-le n.texts b.texts t)
    ∙ ap (λ m. counts n.ints n.texts m) (length-take-le n.truths b.truths u)
