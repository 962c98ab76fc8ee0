-- What is kept behind the rest is read again.
use Rattle.std.proofs.Common.{◌≡◌, ℕ, List, [], ◌∷◌, ◌++◌, ◌+◌, ◌<◌, ◌≤◌, ap, ap₂, sym, refl, subst, ◌∙◌, arith, length, take, get_or}
use Rattle.std.specs.Prelude.{ℤ, IfSome, MatchOption, None, Option, Some, map, slice_get, slice_range, unwrap_or}
use Rattle.std.specs.Option.{option_map}
use Rattle.action_names.specs.Names.{Name}
use Rattle.atomic_types.proofs.Table.{put_together}
use Rattle.atomic_types.specs.Operations as op
use Rattle.values.specs.declared.value.Value.{Value}
use Rattle.atomic_types.specs.declared.op.Reply.{Reply}
use Rattle.atomic_types.specs.declared.operation.Arguments.{Arguments}
use Rattle.run_model.specs.declared.answer.Answer.TheVariants as answers
use Rattle.run_model.specs.declared.history.Event.{Event}
use Rattle.run_model.specs.declared.step.ArmKind.{ArmKind}
use Rattle.run_model.specs.declared.step.ObjectId.{ObjectId}
use Rattle.run_model.specs.declared.step.Step.TheVariants as steps
use Rattle.packed_history.specs.declared.answers.ShortAnswer.{ShortAnswer}
use Rattle.packed_history.specs.declared.answers.ShortAnswer.TheVariants as short
use Rattle.packed_history.specs.declared.arenas.Row.TheVariants.{Whole}
use Rattle.packed_history.specs.declared.names.Begun.{Begun}
use Rattle.packed_history.specs.declared.plain.Plain.{Plain as PlainOp}
use Rattle.packed_history.specs.declared.steps.Request.{Request}
use Rattle.packed_history.specs.declared.steps.ShortStep.TheVariants.{Op, Plain}
use Rattle.packed_history.specs.Answers.{Given, IsKeptAnswer, begun_name, reply_by}
use Rattle.packed_history.specs.Arenas.{IsKept, Parts, no_event}
use Rattle.packed_history.specs.Plain.{HasWord, IsKeptPlain, Plains, before_plain, plain_arguments, plain_by, plain_operation}
use Rattle.packed_history.specs.Steps.{IsKeptStep, Requests, asked, operation_by}
use Rattle.packed_history.proofs.Fronts.{get_behind, length_behind, range_behind, take_before}

pub kept_plain : (old new : Plains) (q : PlainOp) (o : op.Op) (w : List ℕ) (before : List PlainOp) (place : ℕ) → before ≡ old.plain
    → new.plain ≡ before ++ q ∷ [] → new.words ≡ old.words ++ w → place ≡ length before → q.start ≡ length old.words → q.len ≡ length w
    → q.name ≡ op.name_of o → plain_arguments (op.form_of (op.name_of o)) w q.number ≡ op.arguments_of o → IsKeptPlain old new place q.object o
kept_plain old new q o w before place b pushed words l s n named arguments =
    let f : new.plain ≡ old.plain ++ q ∷ [] = pushed ∙ ap (λ (qs : List PlainOp). qs ++ q ∷ []) b in
    let at : place ≡ length old.plain = l ∙ ap (λ qs. length qs) b in
    let got = get_behind old.plain new.plain q place f at in
    let word = range_behind old.words w new.words q.start q.len words s n in
    let within : q.start + q.len ≤ length new.words = (let m = length_behind old.words w new.words words in omega (arith, m, s, n)) in
    let P : Option PlainOp → Type 0 = λ r. HasWord new.words r in
    record {
      has = ((let m = length_behind old.plain (q ∷ []) new.plain f in omega (arith, m, at)), subst P (sym got) within);
      reads = ap (plain_operation new.words) got
          ∙ ap₂ (λ name v. option_map (λ o. (q.object, o)) (plain_by name v q.number)) named word
          ∙ ap (λ arguments. option_map (λ o. (q.object, o)) (op.operation_of (op.name_of o) arguments)) arguments
          ∙ ap (option_map (λ o. (q.object, o))) (put_together o);
      before = ap (before_plain new place) got
          ∙ ap₂ (λ (ws : List ℕ) (qs : List PlainOp). record { words = ws; plain = qs }) (take_before old.words w new.words q.start words s)
          (take_before old.plain (q ∷ []) new.plain place f at);
    }

pub plain_read : (p : Plains) (place : ℕ) (q : PlainOp) (o : op.Op) (arguments : Arguments (List ℕ) ℤ Value) → slice_get p.plain place ≡ Some q
    → arguments ≡ plain_arguments (op.form_of q.name) (slice_range p.words q.start (q.start + q.len)) q.number
    → op.operation_of q.name arguments ≡ Some o → plain_operation p.words (slice_get p.plain place) ≡ Some (q.object, o)
plain_read p place q o arguments there same found =
    ap (plain_operation p.words) there
    ∙ ap (λ (given : Arguments (List ℕ) ℤ Value). option_map (λ o. (q.object, o)) (op.operation_of q.name given)) (sym same)
    ∙ ap (option_map (λ o. (q.object, o))) found

pub kept_plain_step : (old new : Requests) (a : Name) (x : ObjectId) (o : op.Op) (place : ℕ) → new.kinds ≡ old.kinds
    → IsKeptPlain old.plain new.plain place x o → new.requests ≡ old.requests → IsKeptStep old new (Plain place) (steps.Op a x o)
kept_plain_step old new a x o place k kept r = record {
  has = kept.has;
  reads = ap (operation_by a) kept.reads;
  before = ap₂ (λ (ks : List ArmKind) (ps : Plains). record { kinds = ks; plain = ps; requests = new.requests }) k kept.before
      ∙ ap (λ (rs : List Request). record { kinds = old.kinds; plain = old.plain; requests = rs }) r;
}

pub kept_request : (old new : Requests) (a : Name) (r x : Request) (before : List Request) (place : ℕ) → new.kinds ≡ old.kinds → new.plain ≡ old.plain
    → before ≡ old.requests → new.requests ≡ before ++ x ∷ [] → x ≡ r → place ≡ length before
    → IsKeptStep old new (Op place) (steps.Op a r.object r.operation)
kept_request old new a r x before place k p b pushed same s =
    let f : new.requests ≡ old.requests ++ r ∷ [] = pushed ∙ ap₂ (λ (rs : List Request) (r : Request). rs ++ r ∷ []) b same in
    let at : place ≡ length old.requests = s ∙ ap (λ rs. length rs) b in
    record {
      has = (let l = length_behind old.requests (r ∷ []) new.requests f in omega (arith, l, at));
      reads = ap (λ r. operation_by a (option_map asked r)) (get_behind old.requests new.requests r place f at);
      before = ap₂ (λ (ks : List ArmKind) (ps : Plains). record { kinds = ks; plain = ps; requests = take place new.requests }) k p
          ∙ ap (λ (rs : List Request). record { kinds = old.kinds; plain = old.plain; requests = rs })
          (take_before old.requests (r ∷ []) new.requests place f at);
    }

pub kept_begun : (old new : Given) (a : Name) (names : List Name) (begun : List Begun) (start count : ℕ) → new.begun ≡ old.begun ++ begun
    → new.replies ≡ old.replies → start ≡ length old.begun → count ≡ length begun → map (begun_name a) begun ≡ names
    → IsKeptAnswer old new a (short.Began count start) (answers.Began names)
kept_begun old new a names begun start count e f s n m = record {
  has = (let l = length_behind old.begun begun new.begun e in omega (arith, l, s, n));
  reads = ap (λ bs. answers.Began (map (begun_name a) bs)) (range_behind old.begun begun new.begun start count e s n) ∙ ap (λ ns. answers.Began ns) m;
  before = ap₂ (λ (bs : List Begun) (rs : List Reply). record { begun = bs; replies = rs }) (take_before old.begun begun new.begun start e s) f;
}

pub kept_reply : (old new : Given) (a : Name) (r x : Reply) (before : List Reply) (place : ℕ) → new.begun ≡ old.begun → before ≡ old.replies
    → new.replies ≡ before ++ x ∷ [] → x ≡ r → place ≡ length before → IsKeptAnswer old new a (short.Reply place) (answers.Granted r)
kept_reply old new a r x before place k b pushed same s =
    let f : new.replies ≡ old.replies ++ r ∷ [] = pushed ∙ ap₂ (λ (rs : List Reply) (r : Reply). rs ++ r ∷ []) b same in
    let at : place ≡ length old.replies = s ∙ ap (λ rs. length rs) b in
    record {
      has = (let l = length_behind old.replies (r ∷ []) new.replies f in omega (arith, l, at));
      reads = ap (λ o. answers.Granted (reply_by o)) (get_behind old.replies new.replies r place f at);
      before = ap₂ (λ (bs : List Begun) (rs : List Reply). record { begun = bs; replies = rs }) k
          (take_before old.replies (r ∷ []) new.replies place f at);
    }

pub kept_whole : (old new : Parts) (e x : Event) (before : List Event) (place : ℕ) → new.numbers ≡ old.numbers → new.steps ≡ old.steps
    → new.answers ≡ old.answers → before ≡ old.whole → new.whole ≡ before ++ x ∷ [] → x ≡ e → place ≡ length before → IsKept old new (Whole place) e
kept_whole old new e x before place n s a b pushed same l =
    let w : new.whole ≡ old.whole ++ e ∷ [] = pushed ∙ ap₂ (λ (es : List Event) (e : Event). es ++ e ∷ []) b same in
    let at : place ≡ length old.whole = l ∙ ap (λ es. length es) b in
    record {
      has = (let m = length_behind old.whole (e ∷ []) new.whole w in omega (arith, m, at));
      reads = ap (λ o. unwrap_or o no_event) (get_behind old.whole new.whole e place w at);
      before = ap₂ (λ (ns : List ℕ) (r : Requests). record { numbers = ns; steps = r; answers = new.answers; whole = take place new.whole }) n s
          ∙ ap₂ (λ (g : Given) (es : List Event). record { numbers = old.numbers; steps = old.steps; answers = g; whole = es }) a
          (take_before old.whole (e ∷ []) new.whole place w at);
    }

-- ---- one name

one_item : {X : Type 0} (xs : List X) (x : X) → 1 ≤ length xs → length xs < 2 → x ≡ get_or xs 0 x → xs ≡ x ∷ []
one_item [] x l m e = absurd (omega arith)
one_item (y ∷ []) x l m e = ap (λ z. z ∷ []) (sym e)
one_item (y ∷ z ∷ xs) x l m e = absurd (omega arith)

pub one_begun : (r : Option ShortAnswer) (g : Given) (a : Name) (names : List Name) (name : Name) → 1 ≤ length names → length names < 2
    → name ≡ get_or names 0 name → IfSome r (λ s. (g : Given) → IsKeptAnswer g g a s (answers.Began (name ∷ [])))
    → MatchOption r (g ≡ g) (λ s. IsKeptAnswer g g a s (answers.Began names))
one_begun None g a names name l m e h = refl
one_begun (Some s) g a names name l m e h =
    let P : List Name → Type 0 = λ ns. IsKeptAnswer g g a s (answers.Began ns) in
    subst P (sym (one_item names name l m e)) (h g)
