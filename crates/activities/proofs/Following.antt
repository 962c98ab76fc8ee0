-- What a turn of a loop or one more call leaves, by what it found.
use Rattle.std.proofs.Common.{List, Ok, OnOk, Option, Result, Some, [], ap, arith, drop, get_or, length, refl, subst, suc, sym, ℕ, ◌++◌, ◌+◌, ◌<◌, ◌∙◌, ◌∷◌, ◌≡◌}
use Rattle.std.proofs.Math.Seq.{drop-cons}
use Rattle.std.specs.Prelude.{option_to_list}
use Rattle.action_names.specs.Names.{Name}
use Rattle.script_model.specs.declared.checked.Checked.{Checked}
use Rattle.script_model.specs.declared.statement.HandlerCall.{HandlerCall}
use Rattle.script_model.specs.declared.statement.Statement.{Statement}
use Rattle.script_model.specs.Resolved.{Frames, asked}
use Rattle.frames.specs.Bound.{Bound, cut_back}
use Rattle.frames.specs.Operating.{given}
use Rattle.frames.proofs.Counting.{sizes_given}
use Rattle.run_model.specs.Runs.{World}
use Rattle.activities.specs.declared.flow.Flow.{Flow}
use Rattle.activities.specs.declared.flow.Flow.TheVariants.{Aborted, Ended, Outwards, Returned}
use Rattle.activities.specs.declared.open_action.Called.{Called}
use Rattle.activities.specs.declared.open_action.Called.TheVariants.{Began}
use Rattle.activities.specs.Bodies.{IsBody, WhereEnded, Within, sizes}
use Rattle.activities.specs.Ends.{called}
use Rattle.activities.specs.Making.{Begins}
use Rattle.activities.proofs.Resolving.{cut_sizes, handed, rest_of, statement_grows, within_through}

-- where nothing was bound, however it ended
pub nothing_bound : (flow : Flow) (f : Frames) → WhereEnded flow (f ≡ f)
nothing_bound Ended f = refl
nothing_bound (Returned v) f = tt
nothing_bound Aborted f = tt
nothing_bound (Outwards r) f = tt

-- what a body within another leaves, once what it bound newly is forgotten
pub cut_where_ended : (flow : Flow) (kept : Frames) (old inside new : Bound) → kept ≡ sizes old → new ≡ cut_back kept inside
    → WhereEnded flow (Within (sizes old) (sizes inside)) → WhereEnded flow (sizes new ≡ sizes old)
cut_where_ended Ended kept old inside new e k w =
    ap sizes k ∙ ap (λ n. sizes (cut_back n inside)) e ∙ cut_sizes (sizes old) inside w
cut_where_ended (Returned v) kept old inside new e k w = tt
cut_where_ended Aborted kept old inside new e k w = tt
cut_where_ended (Outwards r) kept old inside new e k w = tt

-- the same body, with as many variables
pub same_body : (script new : Checked) (f g : Frames) (body : List Statement) → new ≡ script → g ≡ f → IsBody script f body → IsBody new g body
same_body script new f g body e k h = subst (λ s. IsBody s g body) (sym e) (subst (λ x. IsBody script x body) (sym k) h)

-- the statements after one of a body
pub next_rest : (script new : Checked) (f g : Frames) (body : List Statement) (i : ℕ) (s : Statement) → i < length body → s ≡ get_or body i s
    → new ≡ script → g ≡ (asked s).after f → IsBody script f (drop i body) → IsBody new g (drop (i + 1) body)
next_rest script new f g body i s lt at e k h =
    let cons : drop i body ≡ s ∷ drop (suc i) body = drop-cons body i s lt ∙ ap (λ x. x ∷ drop (suc i) body) (sym at) in
    let one : suc i ≡ i + 1 = omega arith in
    same_body script new ((asked s).after f) g (drop (i + 1) body) e k
    (subst (λ n. IsBody script ((asked s).after f) (drop n body)) one
    (rest_of script f s (drop (suc i) body) (subst (IsBody script f) cons h)))

pub next_within : (old f g : Frames) (s : Statement) → Within old f → g ≡ (asked s).after f → Within old g
next_within old f g s w k = subst (Within old) (sym k) (within_through old f ((asked s).after f) w (statement_grows s f))

-- ---- what a value that was found is

-- the variables with which a handler begins
pub handed_sizes : (found : Option Bound) (inside b : Bound) (call : HandlerCall) → found ≡ Some inside → found ≡ given b call
    → sizes inside ≡ handed (length call.ints) (length call.texts)
handed_sizes found inside b call e h = sizes_given b inside call (sym h ∙ e)

pub ok_so : {A E : Type 0} (r : Result A E) (x : A) (P : Type 0) → r ≡ Ok x → OnOk r P → P
ok_so r x P e h = subst (λ p. OnOk p P) e h

-- a call that began its action
pub called_began : (k : Called) (a n : Name) (actors : List Name) (x y : World) → k ≡ Began a → n ≡ a → Begins actors [] (called k) x y
    → Begins actors [] (n ∷ []) x y
called_began k a n actors x y e m h =
    subst (λ b. Begins actors [] (b ∷ []) x y) (sym m) (subst (λ o. Begins actors [] (called o) x y) e h)

-- the last of the names was taken
pub popped : (names rest : List Name) (o : Option Name) (b a : Name) → names ≡ rest ++ option_to_list o → o ≡ Some b → a ≡ b → names ≡ rest ++ (a ∷ [])
popped names rest o b a h e k = h ∙ ap (λ p. rest ++ option_to_list p) (e ∙ ap Some (sym k))

one_longer : (rest : List Name) (a : Name) → length (rest ++ (a ∷ [])) ≡ length rest + 1
one_longer [] a = refl
one_longer (b ∷ rest) a = omega (arith, one_longer rest a)

pub popped_length : (names rest : List Name) (a : Name) → names ≡ rest ++ (a ∷ []) → length names ≡ length rest + 1
popped_length names rest a e = ap length e ∙ one_longer rest a
