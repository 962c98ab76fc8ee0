-- Lists about one of their places, and lists place by place.
use Rattle.std.proofs.Common.{◌≡◌, ℕ, zero, suc, ◌+◌, ◌<◌, List, [], ◌∷◌, ◌++◌, length, get_or, set, take, drop, refl, sym, ap, ◌∙◌, arith, add-zero, drop-drop}
use Rattle.std.specs.List.{AllZip}
use Rattle.std.proofs.lemmas.List.{drop-set-lt, get_or-drop, set_split, set-get_or}

-- a list about one of its places
pub about : {X : Type 0} (xs : List X) (i : ℕ) (d : X) → i < length xs → xs ≡ take i xs ++ get_or xs i d ∷ drop (suc i) xs
about xs i d within = sym (set-get_or xs i d) ∙ set_split xs i (get_or xs i d) within

-- what is at each place of two lists holds on either side of one place, and there
pub record AboutPlace {A B : Type 0} (R : A → B → Type 0) (xs : List A) (x : A) (ys : List A) (zs : List B) : Type 0 where
  pub before : List B
  pub here : B
  pub behind : List B
  pub are : zs ≡ before ++ here ∷ behind
  pub all_before : AllZip R xs before
  pub at : R x here
  pub all_behind : AllZip R ys behind

module _ {A B : Type 0} (R : A → B → Type 0) where
  pub zip_about : (xs : List A) (x : A) (ys : List A) (zs : List B) → AllZip R (xs ++ x ∷ ys) zs → AboutPlace R xs x ys zs
  zip_about [] x ys [] all = absurd all
  zip_about [] x ys (z ∷ zs) all =
      record { before = []; here = z; behind = zs; are = refl; all_before = tt; at = all.0; all_behind = all.1 }
  zip_about (w ∷ xs) x ys [] all = absurd all
  zip_about (w ∷ xs) x ys (z ∷ zs) all =
      let a = zip_about xs x ys zs all.1 in
      record { before = z ∷ a.before; here = a.here; behind = a.behind; are = ap (λ l. z ∷ l) a.are; all_before = (all.0, a.all_before); at = a.at; all_behind = a.all_behind }

module _ {A : Type 0} (R : A → A → Type 0) where
  pub zip_among : (xs : List A) (x y : A) (ys : List A) → AllZip R (xs ++ x ∷ ys) (xs ++ y ∷ ys) → AllZip R xs xs × R x y × AllZip R ys ys
  zip_among [] x y ys all = (tt, all.0, all.1)
  zip_among (w ∷ xs) x y ys all = let a = zip_among xs x y ys all.1 in ((all.0, a.0), a.1, a.2)

  pub zip_with_itself : ((x : A) → R x x) → (xs : List A) → AllZip R xs xs
  zip_with_itself r [] = tt
  zip_with_itself r (x ∷ xs) = (r x, zip_with_itself r xs)

  pub zip_but_one : ((x : A) → R x x) → (xs : List A) (x y : A) (ys : List A) → R x y → AllZip R (xs ++ x ∷ ys) (xs ++ y ∷ ys)
  zip_but_one r [] x y ys here = (here, zip_with_itself r ys)
  zip_but_one r (w ∷ xs) x y ys here = (r w, zip_but_one r xs x y ys here)

  -- another item at one place
  pub zip_put : (xs ys : List A) (i : ℕ) (d z : A) → i < length xs → AllZip R xs ys → R (get_or xs i d) z → AllZip R xs (set ys i z)
  zip_put [] ys i d z within all here = absurd (omega arith)
  zip_put (x ∷ xs) [] i d z within all here = absurd all
  zip_put (x ∷ xs) (y ∷ ys) zero d z within all here = (here, all.1)
  zip_put (x ∷ xs) (y ∷ ys) (suc i) d z within all here = (all.0, zip_put xs ys i d z (omega arith) all.1 here)

module _ {A : Type 0} (R Q P : A → A → Type 0) where
  pub zip_then : ((x y z : A) → R x y → Q y z → P x z) → (xs ys zs : List A) → AllZip R xs ys → AllZip Q ys zs → AllZip P xs zs
  zip_then f [] [] [] r q = tt
  zip_then f [] [] (z ∷ zs) r q = absurd q
  zip_then f [] (y ∷ ys) zs r q = absurd r
  zip_then f (x ∷ xs) [] zs r q = absurd r
  zip_then f (x ∷ xs) (y ∷ ys) [] r q = absurd q
  zip_then f (x ∷ xs) (y ∷ ys) (z ∷ zs) r q = (f x y z r.0 q.0, zip_then f xs ys zs r.1 q.1)

module _ {A : Type 0} (R Q P W : A → A → Type 0) where
  pub zip_three : ((x y z : A) → R x y → Q y z → P x z → W y z) → (xs ys zs : List A) → AllZip R xs ys → AllZip Q ys zs → AllZip P xs zs → AllZip W ys zs
  zip_three f [] [] [] r q p = tt
  zip_three f [] [] (z ∷ zs) r q p = absurd q
  zip_three f [] (y ∷ ys) zs r q p = absurd r
  zip_three f (x ∷ xs) [] zs r q p = absurd r
  zip_three f (x ∷ xs) (y ∷ ys) [] r q p = absurd q
  zip_three f (x ∷ xs) (y ∷ ys) (z ∷ zs) r q p = (f x y z r.0 q.0 p.0, zip_three f xs ys zs r.1 q.1 p.1)

-- ---- a list of which the items from a place on are those of another

at_rest : {A : Type 0} (xs : List A) (i : ℕ) (d : A) → get_or xs i d ≡ get_or (drop i xs) 0 d
at_rest xs i d = ap (λ n. get_or xs n d) (sym (add-zero i)) ∙ sym (get_or-drop i xs 0 d)

pub same_there : {A : Type 0} (xs ys : List A) (i : ℕ) (d : A) → drop i ys ≡ drop i xs → get_or ys i d ≡ get_or xs i d
same_there xs ys i d rest = at_rest ys i d ∙ ap (λ l. get_or l 0 d) rest ∙ sym (at_rest xs i d)

pub rest_less : {A : Type 0} (xs ys : List A) (i : ℕ) (z : A) → drop i ys ≡ drop i xs → drop (i + 1) (set ys i z) ≡ drop (i + 1) xs
rest_less xs ys i z rest = drop-set-lt (i + 1) ys i z (omega arith) ∙ sym (drop-drop 1 i ys) ∙ ap (λ l. drop 1 l) rest ∙ drop-drop 1 i xs
