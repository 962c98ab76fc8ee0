-- Two answers with one text are the same answer.
use Rattle.std.proofs.Common.{◌≡◌, ℕ, ◌<◌, ◌^◌, pos, negsuc, true, false, List, [], ◌∷◌, ◌++◌, get_or, refl, sym, ap, ◌∙◌, arith, ◌⊎◌, inl, inr, decimal, codes}
use Rattle.std.specs.List.{AllByRecursion}
use Rattle.std.proofs.lemmas.Fmt.{decimal_injective, decimal_nonempty, digits_decimal}
use Rattle.std.proofs.lemmas.Str.Parse.{digit_at}
use Rattle.action_names.specs.Names.{Name, IsName, name_text}
use Rattle.values.specs.declared.value.Value.{Value}
use Rattle.values.specs.declared.value.Value.TheVariants.{Int, Text}
use Rattle.values.specs.Values.{IsValue, value_text}
use Rattle.atomic_types.specs.declared.op.Reply.{Reply}
use Rattle.atomic_types.specs.declared.op.Reply.TheVariants.{Gives, Truth, Signals}
use Rattle.atomic_types.specs.declared.op.Reply.TheVariants as reply
use Rattle.atomic_types.specs.declared.op.Signal.{Signal}
use Rattle.atomic_types.specs.declared.op.Signal.TheVariants.{Bounds, WrongTag}
use Rattle.atomic_types.specs.declared.op.Signal.TheVariants as signal
use Rattle.run_model.specs.declared.answer.Answer.{Answer}
use Rattle.run_model.specs.declared.answer.Answer.TheVariants.{Began, Granted, Waits, VoteYes, VoteNo, Done, Refused}
use Rattle.run_model.specs.declared.answer.Refusal.{Refusal}
use Rattle.run_model.specs.declared.answer.Refusal.TheVariants.{NoGuardian, NoAction, NoObject, Ended, Busy, Gone, Down, Elsewhere, Orphan, NotSo, TooDeep, NotTop, NotSub, NotClosed, Already, Unready, IsUp, Limit, BadOp}
use Rattle.run_model.specs.Texts.{IsAnswer, IsReply, SpellsAnswer, answer_text, names_text, refusal_number, reply_text, signal_text}
use Rattle.run_model.specs.Spaces.{name_lacks_space, numerals}
use Rattle.run_model.proofs.OneSpelling.{same_front, same_name, same_value}

-- a value begins with a digit, a minus or a quote, and so with no letter
digit_first : (n : ℕ) → n < 2 ^ 64 → get_or (decimal n) 0 0 < 58
digit_first n small = let d = digit_at (decimal n) 0 (digits_decimal numerals n small) (decimal_nonempty n small) in omega (arith, d.1)

pub value_first : (v : Value) → IsValue v → get_or (value_text v) 0 0 < 58
value_first (Int (pos n)) fits = digit_first n (omega arith)
value_first (Int (negsuc n)) fits = omega arith
value_first (Text bytes) fits = omega arith

-- ---- refusals

-- the refusals in order of their numbers, behind one that has no place
abbrev refusals : List Refusal
refusals = BadOp ∷ NoGuardian ∷ NoAction ∷ NoObject ∷ Ended ∷ Busy ∷ Gone ∷ Down ∷ Elsewhere ∷ Orphan ∷ NotSo ∷ TooDeep ∷ NotTop ∷ NotSub ∷ NotClosed
    ∷ Already ∷ Unready ∷ IsUp ∷ Limit ∷ BadOp ∷ []

refusal_at : (why : Refusal) → get_or refusals (refusal_number why) BadOp ≡ why
refusal_at NoGuardian = refl
refusal_at _ = refl

pub refusal_small : (why : Refusal) → refusal_number why < 20
refusal_small NoGuardian = omega arith
refusal_small _ = omega arith

pub same_refusal : (x y : Refusal) → refusal_number x ≡ refusal_number y → x ≡ y
same_refusal x y e = sym (refusal_at x) ∙ ap (λ n. get_or refusals n BadOp) e ∙ refusal_at y

-- ---- names

pub names_head : (names : List Name) → (names_text names ≡ []) ⊎ (get_or (names_text names) 0 0 ≡ 32)
names_head [] = inl refl
names_head (a ∷ names) = inr refl

same_names : (xs ys : List Name) → AllByRecursion IsName xs → AllByRecursion IsName ys → names_text xs ≡ names_text ys → xs ≡ ys
same_names [] [] f g e = refl
same_names [] (b ∷ ys) f g e = absurd cc
same_names (a ∷ xs) [] f g e = absurd cc
same_names (a ∷ xs) (b ∷ ys) f g e =
    let h : name_text a ++ names_text xs ≡ name_text b ++ names_text ys = cc in
    let parts = same_front (name_text a) (name_text b) (names_text xs) (names_text ys) (name_lacks_space a f.0) (name_lacks_space b g.0) (names_head xs) (names_head ys) h in
    let first : a ≡ b = same_name a b f.0 g.0 parts.0 in
    let others : xs ≡ ys = same_names xs ys f.1 g.1 parts.1 in
    cc

-- ---- replies

same_signal : (s t : Signal) → signal_text s ≡ signal_text t → s ≡ t
same_signal Bounds Bounds e = refl
same_signal signal.Limit signal.Limit e = refl
same_signal WrongTag WrongTag e = refl
same_signal s t e = absurd (omega (arith, ap (λ l. get_or l 0 0) e))

-- a word that begins with a letter is no value
no_value : (v : Value) (word : List ℕ) → IsValue v → 58 < get_or word 0 0 → value_text v ≡ word → ⊥
no_value v word fits letter e = omega (arith, value_first v fits, ap (λ l. get_or l 0 0) e)

same_reply : (r s : Reply) → IsReply r → IsReply s → reply_text r ≡ reply_text s → r ≡ s
same_reply (Gives v) (Gives w) f g e = ap Gives (same_value v w f g e)
same_reply (Gives v) (Truth true) f g e = absurd (no_value v (codes "true") f (omega arith) e)
same_reply (Gives v) (Truth false) f g e = absurd (no_value v (codes "false") f (omega arith) e)
same_reply (Gives v) reply.Done f g e = absurd (no_value v (codes "done") f (omega arith) e)
same_reply (Gives v) (Signals s) f g e = absurd (no_value v (reply_text (Signals s)) f (omega arith) e)
same_reply (Truth true) (Gives w) f g e = absurd (no_value w (codes "true") g (omega arith) (sym e))
same_reply (Truth false) (Gives w) f g e = absurd (no_value w (codes "false") g (omega arith) (sym e))
same_reply reply.Done (Gives w) f g e = absurd (no_value w (codes "done") g (omega arith) (sym e))
same_reply (Signals s) (Gives w) f g e = absurd (no_value w (reply_text (Signals s)) g (omega arith) (sym e))
same_reply (Truth true) (Truth true) f g e = refl
same_reply (Truth false) (Truth false) f g e = refl
same_reply reply.Done reply.Done f g e = refl
same_reply (Signals s) (Signals t) f g e = let h : signal_text s ≡ signal_text t = cc in ap Signals (same_signal s t h)
same_reply (Truth true) (Truth false) f g e = absurd (omega (arith, ap (λ l. get_or l 0 0) e))
same_reply (Truth true) reply.Done f g e = absurd (omega (arith, ap (λ l. get_or l 0 0) e))
same_reply (Truth true) (Signals t) f g e = absurd (omega (arith, ap (λ l. get_or l 0 0) e))
same_reply (Truth false) (Truth true) f g e = absurd (omega (arith, ap (λ l. get_or l 0 0) e))
same_reply (Truth false) reply.Done f g e = absurd (omega (arith, ap (λ l. get_or l 0 0) e))
same_reply (Truth false) (Signals t) f g e = absurd (omega (arith, ap (λ l. get_or l 0 0) e))
same_reply reply.Done (Truth true) f g e = absurd (omega (arith, ap (λ l. get_or l 0 0) e))
same_reply reply.Done (Truth false) f g e = absurd (omega (arith, ap (λ l. get_or l 0 0) e))
same_reply reply.Done (Signals t) f g e = absurd (omega (arith, ap (λ l. get_or l 0 0) e))
same_reply (Signals s) (Truth true) f g e = absurd (omega (arith, ap (λ l. get_or l 0 0) e))
same_reply (Signals s) (Truth false) f g e = absurd (omega (arith, ap (λ l. get_or l 0 0) e))
same_reply (Signals s) reply.Done f g e = absurd (omega (arith, ap (λ l. get_or l 0 0) e))

-- ---- answers

-- answers that begin with different letters differ
same_answer : (a b : Answer) → IsAnswer a → IsAnswer b → answer_text a ≡ answer_text b → a ≡ b
same_answer (Began xs) (Began ys) f g e = let h : names_text xs ≡ names_text ys = cc in ap Began (same_names xs ys f.1 g.1 h)
same_answer (Granted r) (Granted s) f g e = let h : reply_text r ≡ reply_text s = cc in ap Granted (same_reply r s f g h)
same_answer (Waits xs) (Waits ys) f g e = let h : names_text xs ≡ names_text ys = cc in ap Waits (same_names xs ys f.1 g.1 h)
same_answer VoteYes VoteYes f g e = refl
same_answer VoteNo VoteNo f g e = refl
same_answer (Done m) (Done n) f g e = let h : decimal m ≡ decimal n = cc in ap Done (decimal_injective m n f g h)
same_answer (Refused x) (Refused y) f g e =
    let h : decimal (refusal_number x) ≡ decimal (refusal_number y) = cc in
    let n = decimal_injective (refusal_number x) (refusal_number y) (omega (arith, refusal_small x)) (omega (arith, refusal_small y)) h in
    ap Refused (same_refusal x y n)
same_answer VoteYes VoteNo f g e = absurd (omega (arith, ap (λ l. get_or l 5 0) e))
same_answer VoteNo VoteYes f g e = absurd (omega (arith, ap (λ l. get_or l 5 0) e))
same_answer a b f g e = absurd (omega (arith, ap (λ l. get_or l 0 0) e))

-- a line spells one answer at most
pub one_answer : (line : List ℕ) (a b : Answer) → SpellsAnswer line a → SpellsAnswer line b → a ≡ b
one_answer line a b f g = same_answer a b f.fits g.fits (sym f.text ∙ g.text)
