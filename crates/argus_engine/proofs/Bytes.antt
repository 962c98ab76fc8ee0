-- Lines at the front of what a reader gives.
use Rattle.std.proofs.Common.{◌≡◌, ◌≢◌, ℕ, suc, ◌+◌, ◌-◌, ◌<◌, ◌≤◌, true, false, List, [], ◌∷◌, ◌++◌, length, take, drop, Option, Some, None, IfSome, refl, sym, ap, subst, ◌∙◌, Result, Ok, Err, IfOk, append_assoc, append-nil, arith, inl, inr, take-append-drop}
use Rattle.std.proofs.Math.Seq.{take-add}
use Rattle.std.proofs.lemmas.List.{take_all, take_more, take_rest, length-drop}
use Rattle.std.specs.Io.{StartsWith}
use Rattle.std.specs.Prelude.{OnErr}
use Rattle.std.specs.Io.BufRead.{DropsConsumable}
use Rattle.std.specs.Io.KnownBytes.{Consumes, Appends, Keeps, IsAtEnd}
use Rattle.std.proofs.BufReadLemmas.{Consumes_shown}
use Rattle.std.proofs.KnownBytes.{Consumes-trans, Appends-trans, Appends-nil, Appends-kept}
use Rattle.run_model.specs.declared.step.Step.{Step}
use Rattle.run_model.specs.Texts.{step_text, max_line, Spells}
use Rattle.run_model.specs.Reading.{Lacks}
use Rattle.run_model.specs.Spaces.{Lacks-append}
use Rattle.run_model.proofs.Cutting.{same_cut, no_cut}
use Rattle.argus_engine.specs.Serving.{Gives, TakesFront}
use Rattle.argus_engine.specs.declared.reading.Met.{Met}
use Rattle.argus_engine.specs.declared.reading.Met.TheVariants as met
use Rattle.run_model.specs.Runs.{World}
use Rattle.argus_engine.specs.declared.engine.Next.{Next}
use Rattle.argus_engine.specs.declared.engine.Next.TheVariants.{Answered, NoStep, End}
use Rattle.argus_engine.specs.Reading.{AnswersLine, AnswersStep, AreBefore, FacesNoStep, GoesOn, MayGoOn, MayMake, MayMakeNext, TakesSome, stepped}
use Rattle.argus_engine.proofs.NoLineFeed.{step_lacks_line_feed}

-- what is left after the bytes that were read, as far as it is known
pub left_text : (old new : Option (List ℕ)) (bytes : List ℕ) → Consumes old new bytes → (rest : List ℕ) × Gives old (bytes ++ rest) × Gives new rest
left_text None None bytes h = ([], tt, tt)
left_text None (Some ys) bytes h = (ys, tt, refl)
left_text (Some xs) None bytes h = absurd h
left_text (Some xs) (Some ys) bytes h = (ys, h, refl)

pub gives_more : (old new : Option (List ℕ)) (bytes rest : List ℕ) → Consumes old new bytes → Gives new rest → Gives old (bytes ++ rest)
gives_more None new bytes rest h g = tt
gives_more (Some xs) None bytes rest h g = absurd h
gives_more (Some xs) (Some ys) bytes rest h g = h ∙ ap (λ (r : List ℕ). bytes ++ r) g

pub at_end_gives : (old : Option (List ℕ)) → IsAtEnd old → Gives old []
at_end_gives None h = tt
at_end_gives (Some xs) h = h

-- where nothing was read and nothing is left, nothing was there
pub nothing_was : (old new : Option (List ℕ)) → Consumes old new [] → IsAtEnd new → IsAtEnd old
nothing_was None new h e = tt
nothing_was (Some xs) None h e = absurd h
nothing_was (Some xs) (Some ys) h e = h ∙ e

not_empty : (a b : List ℕ) → a ≢ [] → a ++ b ≢ []
not_empty [] b some e = some refl
not_empty (x ∷ a) b some e = absurd cc

-- a last line without its line feed is no step
pub cut_is_no_step : (old : Option (List ℕ)) (start : Option (List ℕ)) (bytes : List ℕ) → Consumes start old bytes → Lacks 10 bytes → bytes ≢ [] → IsAtEnd old → FacesNoStep start
cut_is_no_step old start bytes h lacks some e = (
  bytes,
  subst (Gives start) (append-nil bytes) (gives_more start old bytes [] h (at_end_gives old e)),
  some,
  λ b. no_cut 10 (step_text b.0) b.2 bytes lacks b.3,
)

-- where a text begins with more bytes than a line has, none of them a line feed, no cut within a line's length is there
too_long : (bytes rest a b : List ℕ) → Lacks 10 bytes → length a < length bytes → bytes ++ rest ≢ a ++ 10 ∷ b
too_long [] rest a b lacks long e = absurd (omega arith)
too_long (c ∷ bytes) rest [] b lacks long e = let h : c ≡ 10 = cc in lacks 0 (omega arith) h
too_long (c ∷ bytes) rest (d ∷ a) b lacks long e =
    let t : bytes ++ rest ≡ a ++ 10 ∷ b = cc in too_long bytes rest a b (λ i lt h. lacks (suc i) (omega arith) h) (omega arith) t

some_of_length : (bytes : List ℕ) → 1 ≤ length bytes → bytes ≢ []
some_of_length [] h e = absurd (omega arith)
some_of_length (x ∷ bytes) h e = absurd cc

pub long_is_no_step : (start now : Option (List ℕ)) (bytes : List ℕ) → Consumes start now bytes → Lacks 10 bytes → max_line < length bytes → FacesNoStep start
long_is_no_step start now bytes h lacks long =
    let left = left_text start now bytes h in (
      bytes ++ left.0,
      left.1,
      not_empty bytes left.0 (some_of_length bytes (omega arith)),
      λ b. too_long bytes left.0 (step_text b.0) b.2 lacks (let l = b.1.line in omega arith) b.3,
    )

-- a line that spells no step
pub line_is_no_step : (start now : Option (List ℕ)) (line : List ℕ) → Consumes start now (line ++ 10 ∷ []) → Lacks 10 line → ((s : Step) → Spells line s → ⊥) → FacesNoStep start
line_is_no_step start now line h lacks none =
    let left = left_text start now (line ++ 10 ∷ []) h in
    let shape : (line ++ 10 ∷ []) ++ left.0 ≡ line ++ 10 ∷ left.0 = append_assoc line (10 ∷ []) left.0 in (
      line ++ 10 ∷ left.0,
      subst (Gives start) shape left.1,
      filled line left.0,
      λ b. let same = same_cut 10 line (step_text b.0) left.0 b.2 lacks (step_lacks_line_feed b.0 b.1.parts) b.3 in none b.0 (record { fits = b.1; text = same.0 }),
    )
  where
    filled : (a b : List ℕ) → a ++ 10 ∷ b ≢ []
    filled [] b e = absurd cc
    filled (x ∷ a) b e = absurd cc

-- a line that is ready, with its line feed
ready_line : (ready : List ℕ) (count taken : ℕ) → AreBefore ready count taken met.LineFeed → take taken ready ≡ take count ready ++ 10 ∷ []
ready_line ready count taken (lt, is, one, lacks) =
    ap (λ n. take n ready) (omega arith) ∙ take_more ready count 0 lt ∙ ap (λ c. take count ready ++ c ∷ []) is

-- nothing was read of what the reader keeps
pub keeps_all : (old new : Option (List ℕ)) → Keeps old new → Consumes old new []
keeps_all None new k = tt
keeps_all (Some xs) None k = absurd k
keeps_all (Some xs) (Some ys) k = sym k

-- nothing was read before what was gone on with
goes_on_later : (old mid new : Option (List ℕ)) (world now after : World) (pending held grown : List ℕ) (next : Next)
    → MayGoOn old mid world now pending held None → GoesOn mid new now after held grown next → GoesOn old new world after pending grown next
goes_on_later old mid new world now after pending held grown Answered (read, same, kept) (step, (fits, taken), made) = (
  step,
  (fits, Consumes-trans old mid new [] (step_text step ++ 10 ∷ []) read taken),
  subst (λ w. AnswersStep step w after pending grown) same (subst (λ (p : List ℕ). AnswersStep step now after p grown) kept made),
)
goes_on_later old mid new world now after pending held grown NoStep (read, same, kept) ((text, gives, some, none), is, stays) =
    ((text, gives_more old mid [] text read gives, some, none), is ∙ same, stays ∙ kept)
goes_on_later old mid new world now after pending held grown End (read, same, kept) (gives, is, stays) =
    (gives_more old mid [] [] read gives, is ∙ same, stays ∙ kept)

pub goes_on_after : {E : Type 0} (old mid new : Option (List ℕ)) (world now after : World) (pending held grown : List ℕ)
    → MayGoOn old mid world now pending held None → (result : Result Next E) → IfOk result (GoesOn mid new now after held grown)
    → IfOk result (GoesOn old new world after pending grown)
goes_on_after old mid new world now after pending held grown idle (Err e) ok = tt
goes_on_after old mid new world now after pending held grown idle (Ok next) ok =
    goes_on_later old mid new world now after pending held grown next idle ok

-- more bytes of a line, behind those that were taken
pub took_more : (start mid now : Option (List ℕ)) (bytes grown : List ℕ) (kind : Met) → Consumes start mid bytes → Lacks 10 bytes
    → TakesSome mid now bytes grown kind → kind ≡ met.More → Consumes start now grown × Lacks 10 grown
took_more start mid now bytes grown kind h lacks takes is =
    let (more, e, others, taken) = subst (TakesSome mid now bytes grown) is takes in (
      subst (Consumes start now) (sym e) (Consumes-trans start mid now bytes more h taken),
      subst (Lacks 10) (sym e) (Lacks-append 10 bytes more lacks others),
    )

-- what was ready is taken up to what was met
pub takes_some : (old kept new : Option (List ℕ)) (buffered : Option ℕ) (ready bytes grown : List ℕ) (count taken : ℕ) (kind : Met)
    → AreBefore ready count taken kind → grown ≡ bytes ++ take count ready → IfSome old (λ xs. StartsWith xs ready)
    → IfSome old (λ xs. length ready ≡ 0 → xs ≡ []) → Keeps old kept → IfSome old (λ _. IfSome buffered (λ k. length ready ≤ k))
    → DropsConsumable kept new buffered taken → TakesSome old new bytes grown kind
takes_some old kept new buffered ready bytes grown count taken met.LineFeed (lt, is, one, lacks) e front end keeps fits drops =
    let moved = Consumes_shown old kept new buffered ready taken (omega arith) front end keeps fits drops in
    (take count ready, e, lacks, subst (Consumes old new) (ready_line ready count taken (lt, is, one, lacks)) moved.0)
takes_some old kept new buffered ready bytes grown count taken met.More (le, same, lacks) e front end keeps fits drops =
    let moved = Consumes_shown old kept new buffered ready taken (omega arith) front end keeps fits drops in
    (take count ready, e, lacks, subst (λ n. Consumes old new (take n ready)) same moved.0)
takes_some old kept new buffered ready bytes grown count taken met.End (none, nought, _) e front end keeps fits drops =
    (e ∙ ap (λ n. bytes ++ take n ready) nought ∙ append-nil bytes, at_end old end)
  where
    at_end : (o : Option (List ℕ)) → IfSome o (λ xs. length ready ≡ 0 → xs ≡ []) → IsAtEnd o
    at_end None h = tt
    at_end (Some xs) h = h (ap length none)

-- a line that is ready is taken with its line feed
pub takes_line : (old kept new : Option (List ℕ)) (buffered : Option ℕ) (ready : List ℕ) (count taken : ℕ) → AreBefore ready count taken met.LineFeed
    → IfSome old (λ xs. StartsWith xs ready) → IfSome old (λ xs. length ready ≡ 0 → xs ≡ []) → Keeps old kept
    → IfSome old (λ _. IfSome buffered (λ k. length ready ≤ k)) → DropsConsumable kept new buffered taken → Consumes old new (take count ready ++ 10 ∷ [])
takes_line old kept new buffered ready count taken before front end keeps fits drops =
    let moved = Consumes_shown old kept new buffered ready taken (within before.0 before.2) front end keeps fits drops in
    subst (Consumes old new) (ready_line ready count taken before) moved.0
  where
    within : count < length ready → taken ≡ suc count → taken ≤ length ready
    within lt one = omega arith

-- a line that was taken is gone on with as it is answered
pub line_goes_on : (old new : Option (List ℕ)) (line : List ℕ) (world after : World) (pending grown : List ℕ) (next : Next) → Consumes old new (line ++ 10 ∷ [])
    → AnswersLine line world after pending grown true → next ≡ Answered → GoesOn old new world after pending grown next
line_goes_on old new line world after pending grown next taken (step, spelled, made) is =
    subst (GoesOn old new world after pending grown) (sym is)
    (step, (spelled.fits, subst (λ (text : List ℕ). Consumes old new (text ++ 10 ∷ [])) spelled.text taken), made)

pub line_stops : (old new : Option (List ℕ)) (line : List ℕ) (world after : World) (pending grown : List ℕ) (next : Next) → Consumes old new (line ++ 10 ∷ [])
    → Lacks 10 line → AnswersLine line world after pending grown false → next ≡ NoStep → GoesOn old new world after pending grown next
line_stops old new line world after pending grown next taken lacks (none, same, stays) is =
    subst (GoesOn old new world after pending grown) (sym is) (line_is_no_step old new line taken lacks none, same, stays)

-- ---- the line whose step may have been made

-- a text that begins with the bytes that are ready
begins_ready : (xs ready : List ℕ) → StartsWith xs ready → xs ≡ ready ++ drop (length ready) xs
begins_ready xs ready front = sym (take-append-drop (length ready) xs) ∙ ap (λ (l : List ℕ). l ++ drop (length ready) xs) front

-- the reader gives the line that is ready
pub gives_ready : (old : Option (List ℕ)) (ready : List ℕ) (count taken : ℕ) → AreBefore ready count taken met.LineFeed → IfSome old (λ xs. StartsWith xs ready)
    → (rest : List ℕ) × Gives old (take count ready ++ 10 ∷ rest)
gives_ready None ready count taken before front = ([], tt)
gives_ready (Some xs) ready count taken before front =
    let line = take count ready in
    let rest = drop taken ready ++ drop (length ready) xs in (
      rest,
      begins_ready xs ready front
          ∙ ap (λ (l : List ℕ). l ++ drop (length ready) xs) (sym (take-append-drop taken ready) ∙ ap (λ (l : List ℕ). l ++ drop taken ready) (ready_line ready count taken before))
          ∙ append_assoc (line ++ 10 ∷ []) (drop taken ready) (drop (length ready) xs) ∙ append_assoc line (10 ∷ []) rest,
    )

-- and the one that was read
pub gives_read : (old new : Option (List ℕ)) (line : List ℕ) → Consumes old new (line ++ 10 ∷ []) → (rest : List ℕ) × Gives old (line ++ 10 ∷ rest)
gives_read old new line taken =
    let left = left_text old new (line ++ 10 ∷ []) taken in
    (left.0, subst (Gives old) (append_assoc line (10 ∷ []) left.0) left.1)

pub made_of_line : (old : Option (List ℕ)) (line : List ℕ) (world after : World) → (rest : List ℕ) × Gives old (line ++ 10 ∷ rest)
    → MayMake line world after → MayMakeNext old world after
made_of_line old line world after gives (inl e) = inl e
made_of_line old line world after (rest, gives) (inr (step, spelled, e)) =
    inr (step, spelled.fits, rest, subst (λ (text : List ℕ). Gives old (text ++ 10 ∷ rest)) spelled.text gives, e)

-- nothing was read before it
pub made_after_none : {E : Type 0} (old mid : Option (List ℕ)) (world now after : World) (pending held : List ℕ)
    → MayGoOn old mid world now pending held None → (result : Result Next E) → OnErr result (MayMakeNext mid now after)
    → OnErr result (MayMakeNext old world after)
made_after_none old mid world now after pending held idle (Ok next) made = tt
made_after_none old mid world now after pending held (read, same, kept) (Err e) (inl is) = inl (is ∙ same)
made_after_none old mid world now after pending held (read, same, kept) (Err e) (inr (step, fits, rest, gives, is)) = inr (
  step,
  fits,
  rest,
  gives_more old mid [] (step_text step ++ 10 ∷ rest) read gives,
  is ∙ ap (λ w. stepped w step) same,
)

-- one more write of the rest
pub wrote_more : (start mid now : Option (List ℕ)) (bytes : List ℕ) (count more : ℕ) → Appends start mid (take count bytes) → Appends mid now (take more (take (length bytes - count) (drop count bytes)))
    → Appends start now (take (count + more) bytes)
wrote_more start mid now bytes count more h n =
    subst (Appends start now) (sym (take-add count more bytes))
    (Appends-trans start mid now (take count bytes) (take more (drop count bytes)) h (subst (λ (l : List ℕ). Appends mid now (take more l)) (take_rest bytes count) n))

pub within_more : (bytes : List ℕ) (count more : ℕ) → count ≤ length bytes → more ≤ length (take (length bytes - count) (drop count bytes)) → count + more ≤ length bytes
within_more bytes count more h n =
    let short : more ≤ length (drop count bytes) = subst (λ (l : List ℕ). more ≤ length l) (take_rest bytes count) n in
    omega (arith, length-drop count bytes)

pub wrote_all : (start mid : Option (List ℕ)) (bytes : List ℕ) (count : ℕ) → Appends start mid (take count bytes) → count ≡ length bytes → Appends start mid bytes
wrote_all start mid bytes count h e = subst (Appends start mid) (ap (λ n. take n bytes) e ∙ take_all (length bytes) bytes (omega arith)) h

pub wrote_front : (start mid : Option (List ℕ)) (bytes : List ℕ) (count : ℕ) → Appends start mid (take count bytes) → count ≤ length bytes → TakesFront start mid bytes
wrote_front start mid bytes count h within = (count, within, h)

-- a write that failed took nothing
pub wrote_none : (start mid now : Option (List ℕ)) (bytes : List ℕ) (count : ℕ) → Appends start mid (take count bytes) → count ≤ length bytes → Keeps mid now → TakesFront start now bytes
wrote_none start mid now bytes count h within k = (count, within, Appends-kept start mid now (take count bytes) h k)

-- all was written, and a flush followed
pub flushed : (start mid now : Option (List ℕ)) (bytes : List ℕ) → Appends start mid bytes → Keeps mid now → Appends start now bytes
flushed start mid now bytes h k = Appends-kept start mid now bytes h k

pub not_flushed : (start mid now : Option (List ℕ)) (bytes : List ℕ) → Appends start mid bytes → Keeps mid now → TakesFront start now bytes
not_flushed start mid now bytes h k =
    (length bytes, omega arith, subst (Appends start now) (sym (take_all (length bytes) bytes (omega arith))) (Appends-kept start mid now bytes h k))

pub took_none : (start now : Option (List ℕ)) (bytes : List ℕ) → Keeps start now → Appends start now (take 0 bytes)
took_none start now bytes k = Appends-kept start start now [] (Appends-nil start) k

-- a write that gave nothing took nothing
pub gave_none : (start now : Option (List ℕ)) → Appends start now [] → Keeps start now
gave_none None now h = tt
gave_none (Some xs) None h = absurd h
gave_none (Some xs) (Some ys) h = h ∙ append-nil xs
