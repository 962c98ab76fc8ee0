-- Parts that tell of events, and the runs that end with these.
use Rattle.std.proofs.Common.{◌≡◌, ◌==◌, ◌+◌, ◌-◌, ◌≤◌, ℕ, zero, suc, Bool, true, false, List, [], ◌∷◌, ◌++◌, Option, None, cond, length, drop, refl, ap, ap₂, ◌∙◌, sym, subst, arith}
use Rattle.std.proofs.lemmas.List.{length-append, length-drop, length-map}
use Rattle.std.specs.List.{AllByRecursion}
use Rattle.atomic_table.specs.Seated.{TableId}
use Rattle.one_run.specs.declared.piece.Piece.{Piece}
use Rattle.one_run.specs.declared.run.Part.{Part}
use Rattle.one_run.specs.Pieces.{AllFit, owner, owners, seen_of, with_seen, witness}
use Rattle.one_run.specs.Pieces.GoesOn.{longer, stays}
use Rattle.one_run.specs.Rules.{Counts, first_of, others_of, told_of}
use Rattle.one_run.proofs.Parts.{goes_anywhere}
use Rattle.run_model.specs.declared.history.Event.{Event}
use Rattle.run_model.specs.Openings.{Opening}
use Rattle.run_model.specs.Runs.{IsRun}
use Rattle.shared_run.specs.Places.{touches}
use Rattle.locked_run.specs.Behind.{IsBehind}
use Rattle.locked_run.specs.Receipts.{AllTell, StandIn, Tells, run_at, run_told, runs_of}
use Rattle.locked_run.proofs.Rising.{times}
use Rattle.locked_run.proofs.Together.{goes_further}
use Rattle.locked_run.proofs.Whole.{longer_seen, run_before, stand_few, whole_at}

dropped : (k : ℕ) (seen : List Event) → IsBehind (drop k seen) seen
dropped zero seen = stays
dropped (suc k) [] = stays
dropped (suc k) (e ∷ seen) = longer e refl (dropped k seen)

pub runs_append : (v w : List (Piece Event)) → runs_of (v ++ w) ≡ runs_of v ++ runs_of w
runs_append [] w = refl
runs_append (x ∷ xs) w = ap (λ l. run_told x.event x.seen ∷ l) (runs_append xs w)

pub all_append : {X : Type 0} (P : X → Type 0) (v w : List X) → AllByRecursion P v → AllByRecursion P w → AllByRecursion P (v ++ w)
all_append P [] w f g = g
all_append P (x ∷ xs) w f g = (f.0, all_append P xs w f.1 g)

-- what is told of them
pub runs_told : (v : List (Piece Event)) → runs_of (told_of v) ≡ runs_of v
runs_told [] = refl
runs_told (x ∷ xs) = ap (λ l. run_told x.event x.seen ∷ l) (runs_told xs)

module _ (opening : Opening) (owns : Bool) where
  pub all_told : (v : List (Piece Event)) → AllByRecursion (Tells opening owns) v → AllByRecursion (Tells opening false) (told_of v)
  all_told [] all = tt
  all_told (x ∷ xs) all =
      let t = all.0 in (
        record {
          number = t.number;
          first = t.first;
          last = t.last;
          run = t.run;
          is = ap (λ (o : Option ℕ). record { place = None; left = 0; seen = x.seen; event = o; owns = false }) (ap (λ y. y.event) t.is);
        },
        all_told xs all.1,
      )

  -- the run that ends with its event, by its number
  told_is : (x : Piece Event) (t : Tells opening owns x) → run_told x.event x.seen ≡ run_at t.number x.seen
  told_is x t = ap (λ o. run_told o x.seen) (ap (λ y. y.event) t.is)

  told_length : (x : Piece Event) (t : Tells opening owns x) → length (run_told x.event x.seen) ≡ t.number
  told_length x t =
      let last = t.last in
      let cut = length-drop (length x.seen - t.number) x.seen in
      ap length (told_is x t) ∙ (let back : length x.seen - (length x.seen - t.number) ≡ t.number = omega arith in omega arith)

  -- they tell of the same events once they have looked
  pub runs_seen : (past : List Event) (v : List (Piece Event)) → AllByRecursion (Tells opening owns) v → AllFit touches past v → runs_of (with_seen past v) ≡ runs_of v
  runs_seen past [] all f = refl
  runs_seen past (x ∷ xs) all f =
      let t = all.0 in
      ap₂ (λ (y : List Event) (l : List (List Event)). y ∷ l)
      (ap (λ o. run_told o past) (ap (λ y. y.event) t.is) ∙ run_before t.number t.last f.0 ∙ sym (told_is x t))
      (runs_seen past xs all.1 f.1)

  pub all_seen : (past : List Event) (v : List (Piece Event)) → IsRun opening past → AllByRecursion (Tells opening owns) v → AllFit touches past v
      → AllByRecursion (Tells opening owns) (with_seen past v)
  all_seen past [] r all f = tt
  all_seen past (x ∷ xs) r all f =
      let t = all.0 in
      let last = t.last in
      let more = longer_seen f.0 in (
        record { number = t.number; first = t.first; last = omega arith; run = r; is = ap (λ (y : Piece Event). record y { seen = past }) t.is },
        all_seen past xs r all.1 f.1,
      )

  each_behind : (past : List Event) (v : List (Piece Event)) → AllByRecursion (Tells opening owns) v → AllFit touches past v
      → AllByRecursion (λ run. (1 ≤ length run) × IsBehind run past) (runs_of v)
  each_behind past [] all f = tt
  each_behind past (x ∷ xs) all f =
      let t = all.0 in
      let first = t.first in
      let size = told_length x t in
      let seen : IsBehind (run_told x.event x.seen) x.seen = subst (λ l. IsBehind l x.seen) (sym (told_is x t)) (dropped (length x.seen - t.number) x.seen) in
      ((omega arith, goes_further seen (goes_anywhere touches f.0)), each_behind past xs all.1 f.1)

module _ (opening : Opening) where
  owners_are : (n : ℕ) (v : List (Piece Event)) → AllByRecursion (Tells opening true) v → times length n (runs_of v) ≡ owners n v
  owners_are n [] all = refl
  owners_are n (x ∷ xs) all =
      let t = all.0 in
      let rest = owners_are n xs all.1 in
      let run : cond {A = ℕ} (length (run_told x.event x.seen) == n) 1 0 ≡ cond {A = ℕ} (t.number == n) 1 0 = ap (λ k. cond {A = ℕ} (k == n) 1 0) (told_length opening true x t) in
      let own : owners n (x ∷ []) ≡ cond {A = ℕ} (t.number == n) 1 0 + 0 = ap (λ y. owners n (y ∷ [])) t.is in
      omega arith

  -- no two of them own one event
  pub stand_in : (past : List Event) (v : List (Piece Event)) → AllByRecursion (Tells opening true) v → AllFit touches past v → ((n : ℕ) → owners n v ≤ 1)
      → StandIn past (runs_of v)
  stand_in past v all f once = record {
    each = each_behind opening true past v all f;
    once = λ n. let same = owners_are n v all in let one = once n in omega arith;
  }

seen_length : (past : List Event) (v : List (Piece Event)) → length (with_seen past v) ≡ length v
seen_length past [] = refl
seen_length past (x ∷ xs) = ap suc (seen_length past xs)

-- ---- parts that were taken in, and have looked at the run since

module _ (opening : Opening) (v rs all w : List (Piece Event)) (n : ℕ) (joined : all ≡ v ++ rs) (one : AllByRecursion (Tells opening true) v)
    (other : AllByRecursion (Tells opening true) rs) (counts : Counts (IsRun opening) touches all n w) where
  both : AllByRecursion (Tells opening true) all
  both = subst (λ u. AllByRecursion (Tells opening true) u) (sym joined) (all_append (Tells opening true) v rs one other)

  pub taken_tell : {table : TableId} (part : Part Event) → part.token.table_id ≡ table → part.token.me.0 ≡ w → AllTell opening table true part
  taken_tell part of_table is = record {
    of_table = of_table;
    each = subst (λ u. AllByRecursion (Tells opening true) u) (sym (is ∙ counts.seen)) (all_seen opening true counts.past all counts.run both counts.fits);
  }

  pub taken_runs : runs_of w ≡ runs_of v ++ runs_of rs
  taken_runs = ap runs_of counts.seen ∙ runs_seen opening true counts.past all both counts.fits ∙ ap runs_of joined ∙ runs_append v rs

  pub taken_length : length w ≡ length v + length rs
  taken_length = ap length counts.seen ∙ seen_length counts.past all ∙ ap length joined ∙ length-append v rs

  -- they are no more than the run has events
  pub taken_few : length v + length rs ≤ n
  taken_few =
      let less = stand_few counts.past (runs_of all) (stand_in opening counts.past all both counts.fits counts.owned) in
      let many : length (runs_of all) ≡ length all = length-map all (λ x. run_told x.event x.seen) in
      let parts : length all ≡ length v + length rs = ap length joined ∙ length-append v rs in
      let number = counts.number in
      omega arith

-- ---- parts that have looked at the run together with what was seen of it

module _ (opening : Opening) (seen : List Event) (v all w : List (Piece Event)) (n : ℕ) (joined : all ≡ witness seen ∷ v)
    (tell : AllByRecursion (Tells opening true) v) (counts : Counts (IsRun opening) touches all n w) where
  fits : AllFit touches counts.past (witness seen ∷ v)
  fits = subst (λ u. AllFit touches counts.past u) joined counts.fits

  looked : w ≡ witness counts.past ∷ with_seen counts.past v
  looked = counts.seen ∙ ap (λ u. with_seen counts.past u) joined

  pub looked_tell : {table : TableId} (part : Part Event) → part.token.table_id ≡ table → part.token.me.0 ≡ others_of w → AllTell opening table true part
  looked_tell part of_table is = record {
    of_table = of_table;
    each = subst (λ u. AllByRecursion (Tells opening true) u) (sym (is ∙ ap others_of looked)) (all_seen opening true counts.past v counts.run tell fits.1);
  }

  pub looked_length : length (others_of w) ≡ length v
  looked_length = ap (λ u. length (others_of u)) looked ∙ seen_length counts.past v

  pub looked_runs : runs_of (others_of w) ≡ runs_of v
  looked_runs = ap (λ u. runs_of (others_of u)) looked ∙ runs_seen opening true counts.past v tell fits.1

  pub looked_seen : (part : Part Event) → part.token.me.0 ≡ first_of w → seen_of part.token.me.0 ≡ counts.past
  looked_seen part is = ap seen_of is ∙ ap (λ u. seen_of (first_of u)) looked

  pub looked_stand : (now : List Event) → now ≡ counts.past → StandIn now (runs_of v)
  looked_stand now is =
      subst (λ l. StandIn l (runs_of v)) (sym is) (stand_in opening counts.past v tell fits.1 (λ k.
      let whole : owners k all ≡ owners k (witness seen ∷ v) = ap (λ u. owners k u) joined in
      let one = counts.owned k in
      omega arith))

-- a receipt's part
pub owner_tells : {opening : Opening} {table : TableId} (part : Part Event) (run : List Event) → part.token.table_id ≡ table
    → part.token.me.0 ≡ owner (length run) run ∷ [] → IsRun opening run → 1 ≤ length run → AllTell opening table true part
owner_tells {opening} part run of_table is r first = record {
  of_table = of_table;
  each = subst (λ u. AllByRecursion (Tells opening true) u) (sym is) (record { number = length run; first = first; last = omega arith; run = r; is = refl }, tt);
}

pub owner_run : (v : List (Piece Event)) (run : List Event) → v ≡ owner (length run) run ∷ [] → runs_of v ≡ run ∷ []
owner_run v run is = ap runs_of is ∙ ap (λ l. l ∷ []) (whole_at run)

-- what tells of events has told them
pub told_tell : {opening : Opening} {table : TableId} {owns : Bool} (old new : Part Event) → AllTell opening table owns old → new.token.table_id ≡ table
    → new.token.me.0 ≡ told_of old.token.me.0 → AllTell opening table false new
told_tell {opening} {owns = owns} old new tell of_table is = record {
  of_table = of_table;
  each = subst (λ u. AllByRecursion (Tells opening false) u) (sym is) (all_told opening owns old.token.me.0 tell.each);
}

pub same_tell : {opening : Opening} {table : TableId} {owns : Bool} (old new : Part Event) → AllTell opening table owns old → new.token.table_id ≡ table
    → new.token.me.0 ≡ old.token.me.0 → AllTell opening table owns new
same_tell {opening} {owns = owns} old new tell of_table is = record {
  of_table = of_table;
  each = subst (λ u. AllByRecursion (Tells opening owns) u) (sym is) tell.each;
}

pub joined_tell : {opening : Opening} {table : TableId} {owns : Bool} (one other new : Part Event) → AllTell opening table owns one → AllTell opening table owns other
    → new.token.table_id ≡ table → new.token.me.0 ≡ one.token.me.0 ++ other.token.me.0 → AllTell opening table owns new
joined_tell {opening} {owns = owns} one other new first second of_table is = record {
  of_table = of_table;
  each = subst (λ u. AllByRecursion (Tells opening owns) u) (sym is) (all_append (Tells opening owns) one.token.me.0 other.token.me.0 first.each second.each);
}

pub none_tell : {opening : Opening} {table : TableId} {owns : Bool} (part : Part Event) → part.token.table_id ≡ table → part.token.me.0 ≡ [] → AllTell opening table owns part
none_tell {opening} {owns = owns} part of_table is = record { of_table = of_table; each = subst (λ u. AllByRecursion (Tells opening owns) u) (sym is) tt }
