-- Parts that are joined, one after another.
use Rattle.std.proofs.Common.{List, [], ap, arith, subst, true, ℕ, ◌+◌, ◌++◌, ◌∙◌, ◌∷◌, ◌≡◌, append_assoc}
use Rattle.std.specs.List.{AllByRecursion, AllZip}
use Rattle.one_run.specs.declared.piece.Piece.{Piece}
use Rattle.one_run.specs.Pieces.{AllFit, owners}
use Rattle.one_run.specs.Rules.{Counts}
use Rattle.one_run.proofs.Parts.{owners_append}
use Rattle.run_model.specs.declared.history.Event.{Event}
use Rattle.run_model.specs.Openings.{Opening}
use Rattle.run_model.specs.Runs.{IsRun}
use Rattle.shared_run.specs.Places.{touches}
use Rattle.locked_run.specs.Closing.{AreCounted}
use Rattle.locked_run.specs.Parts.{InHeld}
use Rattle.locked_run.specs.Settling.{HaveJoined, IsPartOf}
use Rattle.locked_run.specs.Receipts.{Tells, runs_of}
use Rattle.locked_run.proofs.Telling.{stand_in}

-- one more of each
pub zip_push : {A B : Type 0} (R : A → B → Type 0) (xs : List A) (ys : List B) (x : A) (y : B) → AllZip R xs ys → R x y
    → AllZip R (xs ++ x ∷ []) (ys ++ y ∷ [])
zip_push R [] [] x y all here = (here, tt)
zip_push R [] (w ∷ ys) x y all here = absurd all
zip_push R (z ∷ xs) [] x y all here = absurd all
zip_push R (z ∷ xs) (w ∷ ys) x y all here = (all.0, zip_push R xs ys x y all.1 here)

module _ {G : Type 0} where
  pub joined_more : (xs : List (InHeld G)) (x : InHeld G) (u v w : List (Piece Event)) → HaveJoined xs u v → HaveJoined (x ∷ []) v w
      → HaveJoined (xs ++ x ∷ []) u w
  joined_more xs x u v w first second = of second.parts second.whole second.each
    where
      of : (ps : List (Piece Event)) → w ≡ v ++ ps → AllZip IsPartOf (x ∷ []) ps → HaveJoined (xs ++ x ∷ []) u w
      of [] is each = absurd each
      of (p ∷ []) is each = record {
        parts = first.parts ++ p ∷ [];
        whole = is ∙ ap (λ l. l ++ p ∷ []) first.whole ∙ append_assoc u first.parts (p ∷ []);
        each = zip_push IsPartOf xs first.parts x p first.each each.0;
      }
      of (p ∷ q ∷ ps) is each = absurd each.1

pub fit_front : (past : List Event) (v w : List (Piece Event)) → AllFit touches past (v ++ w) → AllFit touches past v
fit_front past [] w f = tt
fit_front past (x ∷ xs) w f = (f.0, fit_front past xs w f.1)

pub fit_back : (past : List Event) (v w : List (Piece Event)) → AllFit touches past (v ++ w) → AllFit touches past w
fit_back past [] w f = f
fit_back past (x ∷ xs) w f = fit_back past xs w f.1

-- receipts that were counted together with parts
pub counted_with : (opening : Opening) (v w rs all : List (Piece Event)) (n : ℕ) → all ≡ v ++ rs → AllByRecursion (Tells opening true) rs
    → Counts (IsRun opening) touches all n w → AreCounted opening v (runs_of rs)
counted_with opening v w rs all n is tell counts =
    let fits = subst (λ u. AllFit touches counts.past u) is counts.fits in
    record {
      past = counts.past;
      run = counts.run;
      fits = fit_front counts.past v rs fits;
      stand = stand_in opening counts.past rs tell (fit_back counts.past v rs fits) (λ k.
          let whole : owners k all ≡ owners k (v ++ rs) = ap (λ u. owners k u) is in
          let both = owners_append k v rs in
          let one = counts.owned k in
          omega arith);
    }
