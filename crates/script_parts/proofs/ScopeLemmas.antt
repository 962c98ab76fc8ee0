-- The names that are bound, in the order of a scope.
use Rattle.std.proofs.Common.{◌≡◌, ℕ, ◌+◌, suc, List, [], ◌∷◌, ◌++◌, ◌-◌, length, Bool, true, false, cond, Option, None, Some, option_map, refl, sym, ap, ◌∙◌, arith}
use Rattle.std.specs.BTreeMap as tree
use Rattle.std.specs.Ordering.{nat_cmp}
use Rattle.std.specs.Cmp.Lexicographic.{slice_cmp}
use Rattle.std.specs.Str.{bytes_eq}
use Rattle.std.proofs.lemmas.Map.Text.{btree_map_updates_str}
use Rattle.std.proofs.lemmas.Slice.Eq.{bytes_eq-Decides}
use Rattle.script_model.specs.declared.names.Sort.{Sort}
use Rattle.script_model.specs.declared.names.Sort.TheVariants.{Int, Text, Truth, Unknown}
use Rattle.script_model.specs.Scopes.{Bound, Scope, Variable, find, count_bound, same_sort}
use Rattle.script_parts.specs.declared.scope.Bound as kept
use Rattle.script_parts.specs.declared.scope.Variable as variable
use Rattle.script_parts.specs.declared.scope.Counts.{Counts}
use Rattle.script_parts.specs.Scoping.{onto, bound_of, variable_of, count_of, IsKept, Variables}

pub onto-push : (scope : Scope) (bs : List kept.Bound) (b : kept.Bound) → onto scope (bs ++ b ∷ []) ≡ bound_of b ∷ onto scope bs
onto-push scope [] b = refl
onto-push scope (x ∷ bs) b = onto-push (bound_of x ∷ scope) bs b

pub length-onto : (scope : Scope) (bs : List kept.Bound) → length (onto scope bs) ≡ length bs + length scope
length-onto scope [] = omega arith
length-onto scope (b ∷ bs) = omega (arith, length-onto (bound_of b ∷ scope) bs)

longer : (xs s : List Bound) → length (xs ++ s) ≡ length xs + length s
longer [] s = omega arith
longer (x ∷ xs) s = omega (arith, longer xs s)

-- lists with one ending and ends of one length
pub same_end : (xs ys : List Bound) (s t : Scope) → xs ++ s ≡ ys ++ t → length s ≡ length t → s ≡ t
same_end [] [] s t e same = e
same_end [] (y ∷ ys) s t e same = absurd (omega (arith, ap length e, longer ys t))
same_end (x ∷ xs) [] s t e same = absurd (omega (arith, ap length e, longer xs s))
same_end (x ∷ xs) (y ∷ ys) s t e same = same_end xs ys s t (cc) same

-- ---- the map and the counts

both : (name q : List ℕ) (b : Bool) (v : variable.Variable) (w : Variable) (old : Option variable.Variable) (rest : Option Variable) → variable_of v ≡ w → option_map variable_of old ≡ rest
    → option_map variable_of (cond b (Some v) old) ≡ cond b (Some w) rest
both name q true v w old rest now before = ap Some now
both name q false v w old rest now before = before

counted_more : (s t : Sort) (f : Sort → ℕ) (place count : ℕ) → place ≡ f s → count ≡ place + 1
    → cond (same_sort s t) count (f t) ≡ cond (same_sort s t) (suc (f t)) (f t)
counted_more Int Int f place count is one = omega arith
counted_more Text Text f place count is one = omega arith
counted_more Truth Truth f place count is one = omega arith
counted_more Unknown Unknown f place count is one = omega arith
counted_more _ _ f place count is one = refl

pub kept-bind : (scope : Scope) (b : kept.Bound) (m n : Variables) (c d : Counts) (place count : ℕ) → IsKept scope m c → find scope b.name.now ≡ None
    → tree.UpdatesBy (λ x y. slice_cmp nat_cmp x.now y.now) (λ k. slice_cmp nat_cmp b.name.now k.now) m n (Some (record { sort = b.sort; place = place }))
    → place ≡ count_of c b.sort → count ≡ place + 1 → ((t : Sort) → count_of d t ≡ cond (same_sort b.sort t) count (count_of c t)) → IsKept (bound_of b ∷ scope) n d
kept-bind scope b m n c d place count h new updates at one set = record {
  found = λ q. ap (option_map variable_of) (btree_map_updates_str b.name.now m n _ updates q)
      ∙ both b.name.now q (bytes_eq b.name.now q) (record { sort = b.sort; place = place }) (record { sort = b.sort; place = count_bound b.sort scope }) _ _
      (ap (λ p. (let v : Variable = record { sort = b.sort; place = p } in v)) (at ∙ h.counted b.sort)) (h.found q);
  counted = λ t. set t ∙ ap (λ x. cond (same_sort b.sort t) count x) (h.counted t) ∙ counted_more b.sort t (λ s. count_bound s scope) place count (at ∙ h.counted b.sort) one;
  fresh = (new, h.fresh);
}

counted_less : (s t : Sort) (f g : Sort → ℕ) → ((u : Sort) → f u ≡ cond (same_sort s u) (suc (g u)) (g u)) → cond (same_sort s t) (f s - 1) (f t) ≡ g t
counted_less Int Int f g h = omega (arith, h Int)
counted_less Text Text f g h = omega (arith, h Text)
counted_less Truth Truth f g h = omega (arith, h Truth)
counted_less Unknown Unknown f g h = omega (arith, h Unknown)
counted_less Int Text f g h = h Text
counted_less Int Truth f g h = h Truth
counted_less Int Unknown f g h = h Unknown
counted_less Text Int f g h = h Int
counted_less Text Truth f g h = h Truth
counted_less Text Unknown f g h = h Unknown
counted_less Truth Int f g h = h Int
counted_less Truth Text f g h = h Text
counted_less Truth Unknown f g h = h Unknown
counted_less Unknown Int f g h = h Int
counted_less Unknown Text f g h = h Text
counted_less Unknown Truth f g h = h Truth

gone : (name q : List ℕ) (t : Bool) (scope : Scope) (old : Option variable.Variable) (w : Variable) → bytes_eq name q ≡ t → find scope name ≡ None
    → option_map variable_of old ≡ cond t (Some w) (find scope q) → option_map variable_of (cond t None old) ≡ find scope q
gone name q true scope old w same absent before = sym absent ∙ ap (find scope) ((bytes_eq-Decides name q).0 same)
gone name q false scope old w same absent before = before

pub kept-forget : (scope : Scope) (b : kept.Bound) (m n : Variables) (c d : Counts) → IsKept (bound_of b ∷ scope) m c
    → tree.UpdatesBy (λ x y. slice_cmp nat_cmp x.now y.now) (λ k. slice_cmp nat_cmp b.name.now k.now) m n None
    → ((t : Sort) → count_of d t ≡ cond (same_sort b.sort t) (count_of c b.sort - 1) (count_of c t)) → IsKept scope n d
kept-forget scope b m n c d h updates set = record {
  found = λ q. ap (option_map variable_of) (btree_map_updates_str b.name.now m n _ updates q)
      ∙ gone b.name.now q (bytes_eq b.name.now q) scope _ _ refl h.fresh.0 (h.found q);
  counted = λ t. set t ∙ counted_less b.sort t (count_of c) (λ s. count_bound s scope) h.counted;
  fresh = h.fresh.1;
}
