-- A look together with what was seen earlier, and what comes behind that.
use Rattle.std.proofs.Common.{Bool, List, None, Option, Some, [], ap, cond, false, refl, subst, suc, sym, true, ℕ, ◌-◌, ◌++◌, ◌∙◌, ◌∷◌, ◌≡◌, map, arith}
use Rattle.std.specs.Prelude.{is_some}
use Rattle.atomic_table.specs.Seated.{TableId}
use Rattle.one_run.specs.declared.piece.Piece.{Piece}
use Rattle.one_run.specs.declared.run.Part.{Part}
use Rattle.one_run.specs.Pieces.{AllFit, GoesOn, seen_of, with_seen, witness}
use Rattle.one_run.specs.Rules.{Looks, first_of}
use Rattle.one_run.proofs.Parts.{goes_anywhere}
use Rattle.run_model.specs.declared.answer.Answer.{Answer}
use Rattle.run_model.specs.declared.history.Event.{Event}
use Rattle.run_model.specs.declared.step.Step.{Step}
use Rattle.run_model.specs.LocalHistories.{Stamped}
use Rattle.run_model.specs.Openings.{Opening}
use Rattle.run_model.specs.Runs.{IsRun, is_accepted}
use Rattle.layer_contracts.specs.Forests.{ForestState}
use Rattle.layer_contracts.specs.Guardians.{GuardianState}
use Rattle.shared_run.specs.Places.{touches}
use Rattle.shared_run.proofs.Histories.{history_stays, registry_stays}
use Rattle.locked_run.specs.Acting.{IsAnswered, run_before}
use Rattle.locked_run.specs.Behind.{GoesOnFrom, IsBehind, LooksBehind}
use Rattle.locked_run.specs.Parts.{InHeld, IsHeld, IsHeldThere, IsSeen, guardian_part, number_of}
use Rattle.locked_run.proofs.Together.{goes_further}

pub looked_behind : (opening : Opening) (earlier : List Event) (p : Piece Event) (v t u w x : List (Piece Event)) → v ≡ p ∷ []
    → t ≡ witness earlier ∷ [] → u ≡ v ++ t → Looks (IsRun opening) touches u w → x ≡ first_of w → LooksBehind opening earlier v x
looked_behind opening earlier p v t u w x one told joined looks first =
    let past = looks.past in
    let whole : u ≡ p ∷ witness earlier ∷ [] = joined ∙ (λ i. one i ++ told i) in
    let fits = subst (λ z. AllFit touches past z) whole looks.fits in
    record {
      past = past;
      run = looks.run;
      fits = subst (λ z. AllFit touches past z) (sym one) (fits.0, tt);
      behind = fits.1.0;
      seen = first ∙ ap first_of (looks.seen ∙ ap (λ z. with_seen past z) whole) ∙ ap (λ z. with_seen past z) (sym one);
    }

-- A witness that has looked together with another has seen a run that goes on from both.
module _ {opening : Opening} {a b : List Event} {v : List (Piece Event)} (is : v ≡ witness a ∷ []) where
  whole_now : {w : List (Piece Event)} (looks : LooksBehind opening b v w) → w ≡ witness looks.past ∷ []
  whole_now looks = looks.seen ∙ ap (λ u. with_seen looks.past u) is

  seen_now : {w : List (Piece Event)} (looks : LooksBehind opening b v w) → seen_of w ≡ looks.past
  seen_now looks = ap seen_of (whole_now looks)

  pub joined_seen : {table : TableId} (part : Part Event) → part.token.table_id ≡ table → LooksBehind opening b v part.token.me.0
      → IsSeen opening table part
  joined_seen part of_table looks =
      let same = sym (seen_now looks) in
      record {
        of_table = of_table;
        parts = whole_now looks ∙ ap (λ l. witness l ∷ []) same;
        run = subst (λ l. IsRun opening l) same looks.run;
      }

  module _ {w : List (Piece Event)} {seen : List Event} (told : seen ≡ seen_of w) (looks : LooksBehind opening b v w) where
    is_now : looks.past ≡ seen
    is_now = sym (told ∙ seen_now looks)

    pub joined_run : IsRun opening seen
    joined_run = subst (λ l. IsRun opening l) is_now looks.run

    pub joined_first : IsBehind a seen
    joined_first = subst (λ l. IsBehind a l) is_now (subst (λ u. AllFit touches looks.past u) is looks.fits).0

    pub joined_second : IsBehind b seen
    joined_second = subst (λ l. IsBehind b l) is_now looks.behind

-- a guardian that has looked stands where the run leads it by then
pub learned : {opening : Opening} {table : TableId} {stands : GuardianState → Type 0} {earlier : List Event} {old : Part Event} {left : ℕ} {history : List Stamped}
    (new : Part Event) → IsHeld opening table stands old left history → new.token.table_id ≡ table → LooksBehind opening earlier old.token.me.0 new.token.me.0
    → IsHeld opening table stands new left history
learned {opening} {stands = stands} {history = history} new z of_table looks =
    let still : GoesOn touches (Some (suc z.number)) z.past looks.past = (subst (λ v. AllFit touches looks.past v) z.parts looks.fits).0 in
    let same = history_stays opening z.number z.past still in
    record {
      number = z.number;
      past = looks.past;
      allowed = z.allowed;
      of_table = of_table;
      parts = looks.seen ∙ ap (λ v. with_seen looks.past v) z.parts;
      enough = z.enough;
      run = looks.run;
      here = subst (λ l. stands (record { opening = opening; number = z.number; past = l })) (sym same) z.here;
      first = z.first;
      last = z.last;
      kept = z.kept ∙ ap (λ l. map (λ e. (e.stamp, e.event)) l) (sym same);
    }

-- and so does the registry
pub learned_there : {opening : Opening} {table : TableId} {stands : ForestState → Type 0} {earlier : List Event} {old : Part Event} {history : List Stamped}
    (new : Part Event) → IsHeldThere opening table stands old history → new.token.table_id ≡ table → LooksBehind opening earlier old.token.me.0 new.token.me.0
    → IsHeldThere opening table stands new history
learned_there {opening} {stands = stands} {history = history} new z of_table looks =
    let still : GoesOn touches (Some 0) z.past looks.past = (subst (λ v. AllFit touches looks.past v) z.parts looks.fits).0 in
    let same = registry_stays opening z.past still in
    record {
      past = looks.past;
      left = z.left;
      of_table = of_table;
      parts = looks.seen ∙ ap (λ v. with_seen looks.past v) z.parts;
      run = looks.run;
      there = subst (λ l. stands (record { opening = opening; registry = l })) (sym same) z.there;
      kept = z.kept ∙ ap (λ l. map (λ e. (e.stamp, e.event)) l) (sym same);
    }

-- a guardian whose part has told what it has seen stands as it stood
pub told : {opening : Opening} {table : TableId} {stands : GuardianState → Type 0} {old : Part Event} {left : ℕ} {history : List Stamped} (new : Part Event)
    → IsHeld opening table stands old left history → new.token.table_id ≡ table → new.token.me.0 ≡ old.token.me.0 → IsHeld opening table stands new left history
told new z of_table same = record {
  number = z.number;
  past = z.past;
  allowed = z.allowed;
  of_table = of_table;
  parts = same ∙ z.parts;
  enough = z.enough;
  run = z.run;
  here = z.here;
  first = z.first;
  last = z.last;
  kept = z.kept;
}

-- and so does the registry
pub told_there : {opening : Opening} {table : TableId} {stands : ForestState → Type 0} {old : Part Event} {history : List Stamped} (new : Part Event)
    → IsHeldThere opening table stands old history → new.token.table_id ≡ table → new.token.me.0 ≡ old.token.me.0 → IsHeldThere opening table stands new history
told_there new z of_table same =
    record { past = z.past; left = z.left; of_table = of_table; parts = same ∙ z.parts; run = z.run; there = z.there; kept = z.kept }

-- what one part has seen is a run, if it knows one
pub seen_run : (opening : Opening) (p : Piece Event) (v : List (Piece Event)) → v ≡ p ∷ [] → IsRun opening p.seen → IsRun opening (seen_of v)
seen_run opening p v is run = subst (λ l. IsRun opening l) (sym (ap seen_of is)) run

-- nothing touched the part until it looked
pub looked_since : {opening : Opening} {earlier past : List Event} {place : Option ℕ} {left : ℕ} (v w : List (Piece Event))
    → v ≡ record { place = place; left = left; seen = past; event = None; owns = false } ∷ [] → LooksBehind opening earlier v w → GoesOn touches place (seen_of v) (seen_of w)
looked_since {past = past} {place = place} v w is looks =
    let still : GoesOn touches place past looks.past = (subst (λ u. AllFit touches looks.past u) is looks.fits).0 in
    let now : seen_of w ≡ looks.past = ap seen_of (looks.seen ∙ ap (λ u. with_seen looks.past u) is) in
    subst (λ l. GoesOn touches place l (seen_of w)) (sym (ap seen_of is)) (subst (λ l. GoesOn touches place past l) (sym now) still)

-- and the run that it sees goes on from what was seen earlier
pub looked_on : {opening : Opening} {earlier : List Event} {p : Piece Event} (v w : List (Piece Event)) → v ≡ p ∷ [] → LooksBehind opening earlier v w
    → IsBehind earlier (seen_of w)
looked_on {earlier = earlier} v w is looks =
    let now : seen_of w ≡ looks.past = ap seen_of (looks.seen ∙ ap (λ u. with_seen looks.past u) is) in
    subst (λ l. IsBehind earlier l) (sym now) looks.behind

-- in the words of a guardian under its lock
number_is : {left : ℕ} {past : List Event} (g : ℕ) (v : List (Piece Event)) → v ≡ guardian_part g left past ∷ [] → number_of v ≡ g
number_is g v is = let same : suc g - 1 ≡ g = omega arith in ap number_of is ∙ same

pub looked_since_at : {opening : Opening} {earlier past : List Event} {g left : ℕ} (v w : List (Piece Event)) → v ≡ guardian_part g left past ∷ []
    → LooksBehind opening earlier v w → GoesOn touches (Some (suc (number_of v))) (seen_of v) (seen_of w)
looked_since_at {g = g} v w is looks =
    subst (λ n. GoesOn touches (Some (suc n)) (seen_of v) (seen_of w)) (sym (number_is g v is)) (looked_since v w is looks)

pub looked_kept : {G : Type 0} {opening : Opening} {earlier past : List Event} {g left more : ℕ} {guardian : G} {held : InHeld G} {v w : List (Piece Event)}
    → record { guardian = guardian; number = number_of v; seen = seen_of v; left = left } ≡ held → v ≡ guardian_part g more past ∷ []
    → LooksBehind opening earlier v w → record { guardian = guardian; number = number_of w; seen = seen_of w; left = left } ≡ record held { seen = seen_of w }
looked_kept {G} {g = g} {left = left} {guardian = guardian} {v = v} {w = w} view is looks =
    let after : w ≡ guardian_part g _ looks.past ∷ [] = looks.seen ∙ ap (λ u. with_seen looks.past u) is in
    let same : number_of w ≡ number_of v = number_is g w after ∙ sym (number_is g v is) in
    let one : InHeld G → InHeld G = λ h. record h { seen = seen_of w } in
    ap (λ (n : ℕ). record { guardian = guardian; number = n; seen = seen_of w; left = left }) same ∙ ap one view

-- The run at which a step is answered goes on from what was seen before.
pub answered_behind : {opening : Opening} {step : Step} {answer : Answer} {receipt : Option (List Event)} {seen : List Event} {place : Option ℕ} {old earlier : List Event}
    (a : IsAnswered opening step answer receipt seen) → GoesOn touches place old (run_before (is_some receipt) seen) → IsBehind earlier old → IsBehind earlier a.past
answered_behind {step = step} {answer = answer} {receipt = receipt} {seen = seen} {place = place} {old = old} {earlier = earlier} a since behind =
    goes_further behind (goes_anywhere touches (subst (λ l. GoesOn touches place old l) before since))
  where
    after : (t : Bool) → run_before t (cond t (record { step = step; answer = answer } ∷ a.past) a.past) ≡ a.past
    after true = refl
    after false = refl

    before : run_before (is_some receipt) seen ≡ a.past
    before = ap (λ t. run_before t seen) a.accepted ∙ ap (λ l. run_before (is_accepted answer) l) a.seen_after ∙ after (is_accepted answer)

pub answered_from : {opening : Opening} {step : Step} {answer : Answer} {receipt : Option (List Event)} {seen old : List Event} {place : Option ℕ} (earlier : Option (List Event))
    (a : IsAnswered opening step answer receipt seen) → GoesOn touches place old (run_before (is_some receipt) seen) → GoesOnFrom earlier old → GoesOnFrom earlier a.past
answered_from None a since behind = tt
answered_from (Some e) a since behind = answered_behind a since behind
