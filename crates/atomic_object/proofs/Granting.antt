-- What an operation is answered, and what it leaves, by what the object shows.
use Rattle.std.proofs.Common.{◌≡◌, ℤ, Bool, true, false, List, [], ◌∷◌, Some, refl, sym, ap, ap₂, subst, ◌∙◌}
use Rattle.std.specs.Prelude.{FitsSigned, pos}
use Rattle.std.specs.Int.{int_wrapping_add, w64}
use Rattle.std.proofs.lemmas.Bool.{false≢true}
use Rattle.action_names.specs.Names.{Name, is_ancestor}
use Rattle.values.specs.declared.content.Content.{Content}
use Rattle.values.specs.declared.content.Content.TheVariants.{Record, Array, Variant, Counter}
use Rattle.values.specs.declared.value.Value.TheVariants.{Int, Text}
use Rattle.atomic_types.specs.declared.op.Class.{Class}
use Rattle.atomic_types.specs.Counters.{sum_of}
use Rattle.atomic_types.specs.declared.op.Reply.{Reply}
use Rattle.atomic_types.specs.declared.op.Reply.TheVariants.{Done, Gives, Signals, Truth}
use Rattle.atomic_types.specs.declared.operation.Operation.TheVariants.{Add, Total}
use Rattle.atomic_types.specs.Objects.{content_after, knows, reply_of}
use Rattle.atomic_types.specs.Operations.{Op, class_of, is_read}
use Rattle.atomic_types.specs.TypeLaws.{wrapped}
use Rattle.run_model.specs.declared.answer.Answer.TheVariants.{Granted, Waits}
use Rattle.run_model.specs.Answers.{granted_by, operated_by}
use Rattle.run_model.specs.Keeping.{Performed, Standing, blockers_by}
use Rattle.run_model.specs.Versions.{under}
use Rattle.moss_locks.proofs.Waiting.{free, none_waited}
use Rattle.object_model.specs.Deltas.{delta_sum}
use Rattle.object_model.specs.Locks.{must_wait}
use Rattle.object_model.specs.Objects.{IsOperated, Seen, with_sum}
use Rattle.object_laws.specs.Shown.{Shows}
use Rattle.object_laws.specs.Changes.{with_operation}
use Rattle.object_laws.specs.Laws.{left_by}
use Rattle.object_laws.proofs.Names.{none_rise}
use Rattle.object_laws.proofs.Operated.{operated_shows}
use Rattle.object_laws.proofs.Standing.{blockers_shown_law, in_the_way_shown}
use Rattle.object_laws.proofs.Topmost.{reads_shown, writes_shown}
use Rattle.atomic_object.specs.Kept.{Kept, number_in, replied, seen}

-- where the locks let an operation through, it waits for nobody
pub nobody : (c : Content) (s : Standing) (object : Seen) (a : Name) (wanted : Op) → Shows c s object → must_wait object.locks a (class_of wanted) ≡ false
    → blockers_by s a wanted ≡ []
nobody c s object a wanted shows h = sym (blockers_shown_law c s object a wanted [] shows none_rise (λ b. sym (free object.locks a (class_of wanted) h b)))

-- what the locks say of an operation, by its class
pub locks_say : (t v : Bool) (old now : Kept) (a : Name) (k : Class) (wanted : Op) → t ≡ must_wait old.locks.locks a k → k ≡ class_of wanted → old ≡ now → t ≡ v
    → must_wait (seen now).locks a (class_of wanted) ≡ v
locks_say t v old now a k wanted e f same is =
    sym (e ∙ ap (λ (x : Kept). must_wait x.locks.locks a k) same ∙ ap (λ x. must_wait now.locks.locks a x) f) ∙ is

-- the answer that says for whom it waits
pub waits_for : (c : Content) (s : Standing) (a : Name) (wanted : Op) (names : List Name) → (names ≡ [] → ⊥) → names ≡ blockers_by s a wanted
    → Waits names ≡ operated_by c s a wanted
waits_for c s a wanted [] some e = absurd (some refl)
waits_for c s a wanted (b ∷ bs) some e = ap (λ ns. granted_by (under c (λ b. true) s.restored) s.kept wanted ns) e

-- the reply of what all that is kept leaves
reply_shown : (c : Content) (s : Standing) (object : Seen) (wanted : Op) → Shows c s object → knows c wanted ≡ true → reply_of (left_by c s) wanted ≡ replied object wanted
reply_shown c s object wanted shows known = at (is_read wanted) refl where
  at : (t : Bool) → is_read wanted ≡ t → reply_of (left_by c s) wanted ≡ replied object wanted
  at true e = simp e (reads_shown c s object wanted shows e)
  at false e = simp e (writes_shown c s object wanted shows e known)

pub answered : (c : Content) (s : Standing) (object : Seen) (a : Name) (wanted : Op) (r : Reply) → Shows c s object → knows c wanted ≡ true
    → blockers_by s a wanted ≡ [] → r ≡ replied object wanted → Granted r ≡ operated_by c s a wanted
answered c s object a wanted r shows known none e =
    ap (λ x. Granted x) (e ∙ sym (reply_shown c s object wanted shows known)) ∙ ap (λ ns. granted_by (under c (λ b. true) s.restored) s.kept wanted ns) (sym none)

-- an operation that was granted is kept
pub operated_as : (c : Content) (s : Standing) (old new : Seen) (o : Performed) (a : Name) (wanted : Op) → Shows c s old → o.action ≡ a → o.operation ≡ wanted
    → is_ancestor a a ≡ true → s.told a ≡ false → knows c wanted ≡ true → blockers_by s a wanted ≡ [] → IsOperated a wanted old new
    → Shows c (with_operation o s) new
operated_as c s old new o a wanted shows e f named untold known none operated =
    operated_shows c s old new o shows (subst (λ x. is_ancestor x x ≡ true) (sym e) named) (subst (λ x. s.told x ≡ false) (sym e) untold)
    (subst (λ w. knows c w ≡ true) (sym f) known) (ap₂ (λ x w. blockers_by s x w) e f ∙ none)
    (subst (λ x. IsOperated x o.operation old new) (sym e) (subst (λ w. IsOperated a w old new) (sym f) operated))

-- ---- sums

-- a counter's number, with so much added
pub total_more : (c : Content) (number sum : ℤ) → FitsSigned w64 number → FitsSigned w64 sum → Gives (Int number) ≡ reply_of c Total → knows c Total ≡ true
    → Gives (Int (int_wrapping_add w64 number sum)) ≡ reply_of (content_after c (Add (Int sum))) Total
total_more (Counter n) number sum f g e k =
    let same : number ≡ n = cc in
    ap (λ z. Gives (Int z)) (wrapped number sum f g) ∙ ap (λ n. Gives (Int (sum_of n sum))) same
total_more (Record fields) number sum f g e k = absurd (false≢true k)
total_more (Array a) number sum f g e k = absurd (false≢true k)
total_more (Variant v) number sum f g e k = absurd (false≢true k)

-- a reply that gives a number
pub gives_number : (reply : Reply) (n : ℤ) → number_in reply ≡ Some n → reply ≡ Gives (Int n)
gives_number (Gives (Int m)) n e = let same : m ≡ n = cc in ap (λ k. Gives (Int k)) same
gives_number (Gives (Text t)) n e = cc
gives_number (Truth t) n e = cc
gives_number Done n e = cc
gives_number (Signals x) n e = cc

-- the reply to a question for the total, with so much added
pub total_as : (c : Content) (wanted : Op) (reply : Reply) (number sum : ℤ) → FitsSigned w64 number → FitsSigned w64 sum → wanted ≡ Total → reply ≡ Gives (Int number)
    → reply ≡ reply_of c wanted → knows c wanted ≡ true
    → Gives (Int (int_wrapping_add w64 number sum)) ≡ reply_of (content_after c (Add (Int sum))) wanted
total_as c wanted reply number sum f g e h p k =
    total_more c number sum f g (sym h ∙ p ∙ ap (λ w. reply_of c w) e) (subst (λ w. knows c w ≡ true) e k)
    ∙ ap (λ w. reply_of (content_after c (Add (Int sum))) w) (sym e)

-- the reply once the deltas are added that lie beside
pub sum_shown : (c : Content) (ds : List (Name × ℤ)) (wanted : Op) (r reply : Reply) (sum : ℤ) → sum ≡ delta_sum ds
    → r ≡ reply_of (content_after c (Add (Int sum))) wanted → (sum ≡ pos 0 → r ≡ reply) → reply ≡ reply_of c wanted → r ≡ reply_of (with_sum c ds) wanted
sum_shown c [] wanted r reply sum e added none p = none e ∙ p
sum_shown c (d ∷ ds) wanted r reply sum e added none p = added ∙ ap (λ z. reply_of (content_after c (Add (Int z))) wanted) e

-- where an operation is granted, the locks let it through
pub let_through : (c : Content) (s : Standing) (object : Seen) (a : Name) (wanted : Op) (r : Reply) → Shows c s object → Granted r ≡ operated_by c s a wanted
    → must_wait object.locks a (class_of wanted) ≡ false
let_through c s object a wanted r shows granted =
    (none_waited object.locks a (class_of wanted) (blockers_by s a wanted) (λ b. in_the_way_shown c s object a wanted shows b)).0
    (none (blockers_by s a wanted) granted)
  where
    none : (names : List Name) → Granted r ≡ granted_by (under c (λ b. true) s.restored) s.kept wanted names → names ≡ []
    none [] e = refl
    none (b ∷ bs) e = cc
