-- Stores that were checked, settled and counted.
use Rattle.std.proofs.Common.{◌≡◌, ◌≢◌, ◌⊎◌, inl, inr, true, false, true≢false, ◌&&◌, List, [], ◌∷◌, fold, map as each, Result, Ok, Err, OnOk, IfErr, refl, sym, ap, ap₂, subst, ◌∙◌, ◌+◌, get_or, drop}
use Rattle.std.specs.List.{AllByRecursion, AllZip}
use Rattle.stable_store.specs.Calls.{Rests, View}
use Rattle.stable_store.specs.Stored.{Stored, after_bump}
use Rattle.run_model.specs.Openings.{Setup}
use Rattle.store_recovery.specs.Belonging.{all_belong}
use Rattle.store_recovery.specs.Opened.{AreOpened, AreRefused, CountsNone, CountsOneMore, opened}
use Rattle.store_recovery.specs.Settling.{IsSettledInPart, bases_then, contents, is_decided, settled}
use Rattle.store_recovery.specs.Steps.{Called, HasNoRecord, IsBumpedAtMost, KeepsItself, OpensItself, all_hold}
use Rattle.store_recovery.specs.declared.refused.Refused.{Refused}
use Rattle.store_recovery.specs.declared.refused.Refused.TheVariants.{Memory, NotOurs}
use Rattle.store_recovery.proofs.Entries.{no_entries}
use Rattle.store_recovery.proofs.InPart.{all_in_part, all_none_in_part, in_part_bumped}
use Rattle.store_recovery.proofs.InTurn.{keeps_opens, opens_itself}
use Rattle.store_recovery.proofs.Places.{zip_then, zip_with_itself}
use Rattle.store_recovery.proofs.Settled.{by, settled_with}
use Rattle.store_recovery.proofs.Stops.{called_then, keeps_then, none_of, stay_so}

-- ---- stores without records

settled_itself : (decided : _) (s : Stored) → HasNoRecord s → settled_with decided s ≡ s
settled_itself decided s none = ap (λ es. fold (λ t e. by decided e t) s es) (no_entries s.prepared none)

each_itself : (decided : _) (stores : List Stored) → AllByRecursion HasNoRecord stores → each (λ s. settled_with decided s) stores ≡ stores
each_itself decided [] none = refl
each_itself decided (s ∷ stores) none = ap₂ (λ t ts. t ∷ ts) (settled_itself decided s none.0) (each_itself decided stores none.1)

none_settles : (stores : List Stored) → AllByRecursion HasNoRecord stores → settled stores ≡ stores
none_settles stores none = each_itself (is_decided stores) stores none

none_bumped : (stores : List Stored) → AllByRecursion HasNoRecord stores → AllByRecursion HasNoRecord (each after_bump stores)
none_bumped [] none = tt
none_bumped (s ∷ stores) none = (none.0, none_bumped stores none.1)

module _ {S : Type 0} (seen : S → View) where
  opens_of : (old new : List S) → AllZip (KeepsItself seen) old new → AllZip (OpensItself seen) old new
  opens_of [] [] all = tt
  opens_of [] (n ∷ ns) all = absurd all
  opens_of (o ∷ os) [] all = absurd all
  opens_of (o ∷ os) (n ∷ ns) all =
      let k = all.0 in
      (record { decided = k.decided; count = inl k.count; next_top = k.next_top; holds = k.holds; trusted = k.trusted; rests = k.rests }, opens_of os ns all.1)

  count_none : (old new : List S) → AllZip (KeepsItself seen) old new → AllZip (CountsNone seen) old new
  count_none [] [] all = tt
  count_none [] (n ∷ ns) all = absurd all
  count_none (o ∷ os) [] all = absurd all
  count_none (o ∷ os) (n ∷ ns) all = (all.0.count, count_none os ns all.1)

  hold_opened : (old new : List S) → AllZip (OpensItself seen) old new → all_hold seen new ≡ all_hold seen old
  hold_opened [] [] all = refl
  hold_opened [] (n ∷ ns) all = absurd all
  hold_opened (o ∷ os) [] all = absurd all
  hold_opened (o ∷ os) (n ∷ ns) all = ap₂ (λ a b. a && b) all.0.holds (hold_opened os ns all.1)

  same_in_part : (old new : List S) → contents seen new ≡ contents seen old
      → AllZip (IsSettledInPart (contents seen old)) (contents seen old) (contents seen new)
  same_in_part old new same =
      subst (λ cs. AllZip (IsSettledInPart (contents seen old)) (contents seen old) cs) (sym same) (all_none_in_part (contents seen old) (contents seen old))

  -- a store holds no content
  pub are_empty : (setup : Setup) (stores : List S) → all_hold seen stores ≡ false → AreRefused seen setup stores stores NotOurs
  are_empty setup stores empty = record {
    bases = refl;
    in_part = same_in_part stores stores refl;
    kept = zip_with_itself (OpensItself seen) (opens_itself seen) stores;
    stops = stay_so seen stores;
    counted = λ is. absurd cc;
    memory = λ is. absurd cc;
    settled_first = inr (zip_with_itself (CountsNone seen) (λ s. refl) stores);
    empty = λ _. (refl, refl);
    strange = λ _. refl;
    others = λ _. (refl, inl empty);
  }

  -- a store could not be read
  pub not_read : (setup : Setup) (old new : List S) (why : Refused) → all_hold seen old ≡ true → contents seen new ≡ contents seen old
      → Called seen {T = Unit {0}} (KeepsItself seen) old new (Err why) → AreRefused seen setup old new why
  not_read setup old new why hold same called = record {
    bases = ap bases_then same;
    in_part = same_in_part old new same;
    kept = opens_of old new called.kept;
    stops = called.stops;
    counted = λ is. called.counted (λ memory. absurd cc);
    memory = called.memory;
    settled_first = inr (count_none old new called.kept);
    empty = λ empty. absurd (true≢false (sym hold ∙ empty));
    strange = λ _. same;
    others = λ is. (same, inr (inr (called.counted (λ memory. absurd cc))));
  }

  -- what a store contains is strange there
  pub are_strange : (setup : Setup) (old new : List S) → all_hold seen old ≡ true → contents seen new ≡ contents seen old
      → Called seen {T = Unit {0}} (KeepsItself seen) old new (Ok tt) → all_belong setup (contents seen new) ≡ false → AreRefused seen setup old new NotOurs
  are_strange setup old new hold same called strange = record {
    bases = ap bases_then same;
    in_part = same_in_part old new same;
    kept = opens_of old new called.kept;
    stops = called.stops;
    counted = λ is. absurd cc;
    memory = λ is. absurd cc;
    settled_first = inr (count_none old new called.kept);
    empty = λ empty. absurd (true≢false (sym hold ∙ empty));
    strange = λ _. same;
    others = λ _. (same, inr (inl (ap (λ cs. all_belong setup cs) (sym same) ∙ strange)));
  }

  -- ---- of stores that were read and belong

  module _ (setup : Setup) (old mid : List S) (hold : all_hold seen old ≡ true) (same : contents seen mid ≡ contents seen old)
      (read : Called seen {T = Unit {0}} (KeepsItself seen) old mid (Ok tt)) (belonged : all_belong setup (contents seen mid) ≡ true) where
    belonged_before : all_belong setup (contents seen old) ≡ true
    belonged_before = ap (λ cs. all_belong setup cs) (sym same) ∙ belonged

    -- some records are settled of what the stores contained at first
    abbrev ArePart : List S → List S → Type 0
    ArePart were new = AllZip (IsSettledInPart (contents seen were)) (contents seen were) (contents seen new)

    part_before : (new : List S) → ArePart mid new → ArePart old new
    part_before new part = subst (λ cs. AllZip (IsSettledInPart cs) cs (contents seen new)) same part

    -- a later call was refused
    late : (new : List S) (why : Refused) → Called seen {T = Unit {0}} (OpensItself seen) mid new (Err why) → bases_then (contents seen new) ≡ bases_then (contents seen mid)
        → ArePart mid new → AllByRecursion HasNoRecord (contents seen new) ⊎ AllZip (CountsNone seen) old new → why ≢ NotOurs → AreRefused seen setup old new why
    late new why called bases part first ours =
        let refused : Result (Unit {0}) Refused = Err why in
        let whole : Called seen (OpensItself seen) old new refused =
        called_then seen (KeepsItself seen) (OpensItself seen) (OpensItself seen) (keeps_opens seen) (λ y z k. k.trusted) old mid new refused read.kept read.goes
        (ap bases_then same) called in record {
          bases = bases ∙ ap bases_then same;
          in_part = part_before new part;
          kept = whole.kept;
          stops = whole.stops;
          counted = λ is. whole.counted (λ memory. absurd cc);
          memory = whole.memory;
          settled_first = first;
          empty = λ empty. absurd (true≢false (sym hold ∙ empty));
          strange = λ strange. absurd (true≢false (sym belonged_before ∙ strange));
          others = λ is. absurd (ours is);
        }

    same_bases_by : (new : List S) → settled (contents seen new) ≡ settled (contents seen mid) → bases_then (contents seen new) ≡ bases_then (contents seen mid)
    same_bases_by new settles = ap (λ stores. each (λ s. s.base) stores) settles

    pub not_settled : (new : List S) (why : Refused) → settled (contents seen new) ≡ settled (contents seen mid) → ArePart mid new
        → Called seen {T = Unit {0}} (KeepsItself seen) mid new (Err why) → why ≢ NotOurs → AreRefused seen setup old new why
    not_settled new why settles part called ours =
        late new why (record { kept = opens_of mid new called.kept; goes = tt; stops = called.stops; counted = called.counted; memory = called.memory }) (same_bases_by new settles) part
        (inr (count_none old new (zip_then (KeepsItself seen) (KeepsItself seen) (KeepsItself seen) (keeps_then seen) old mid new read.kept called.kept))) ours

    module _ (ready : List S) (settles : settled (contents seen ready) ≡ settled (contents seen mid)) (none : AllByRecursion HasNoRecord (contents seen ready))
        (settling : Called seen {T = Unit {0}} (KeepsItself seen) mid ready (Ok tt)) where
      pub hold_ready : all_hold seen ready ≡ true
      hold_ready = hold_opened mid ready (opens_of mid ready settling.kept) ∙ hold_opened old mid (opens_of old mid read.kept) ∙ hold

      counting : (new : List S) (r : Result (Unit {0}) Refused) → Called seen (OpensItself seen) ready new r → Called seen (OpensItself seen) mid new r
      counting new r called =
          called_then seen (KeepsItself seen) (OpensItself seen) (OpensItself seen) (keeps_opens seen) (λ y z k. k.trusted) mid ready new r settling.kept
          settling.goes (same_bases_by ready settles) called

      pub not_counted : (new : List S) (r : Result (Unit {0}) Refused) → ArePart mid ready → Called seen (OpensItself seen) ready new r
          → AllZip (IsBumpedAtMost seen) ready new
          → bases_then (contents seen new) ≡ bases_then (contents seen ready)
          → (AllByRecursion HasNoRecord (contents seen ready) → AllByRecursion HasNoRecord (contents seen new)) → IfErr r (λ why. why ≢ NotOurs)
          → IfErr r (λ why. AreRefused seen setup old new why)
      not_counted new (Ok x) part called bumped bases still ours = tt
      not_counted new (Err why) part called bumped bases still ours =
          late new why (counting new (Err why) called) (bases ∙ same_bases_by ready settles)
          (in_part_bumped seen (contents seen mid) (contents seen mid) ready new part bumped) (inl (still none)) ours

      now_opened : (new : List S) → contents seen new ≡ each after_bump (contents seen ready) → contents seen new ≡ opened (contents seen old)
      now_opened new more =
          more ∙ ap (λ cs. each after_bump cs) (sym (none_settles (contents seen ready) none) ∙ settles ∙ ap settled same)

      one_more : (rs ns : List S) → AllZip (OpensItself seen) rs ns → contents seen ns ≡ each after_bump (contents seen rs)
          → AllZip (λ r n. (seen n).content.count ≡ (seen r).content.count + 1) rs ns
      one_more [] [] all more = tt
      one_more [] (n ∷ ns) all more = absurd all
      one_more (r ∷ rs) [] all more = absurd all
      one_more (r ∷ rs) (n ∷ ns) all more =
          (ap (λ cs. (get_or cs 0 (seen n).content).count) more, one_more rs ns all.1 (ap (λ cs. drop 1 cs) more))

      counts_one : (new : List S) → AllZip (OpensItself seen) ready new → contents seen new ≡ each after_bump (contents seen ready) → AllZip (CountsOneMore seen) old new
      counts_one new all more =
          let kept = zip_then (KeepsItself seen) (KeepsItself seen) (KeepsItself seen) (keeps_then seen) old mid ready read.kept settling.kept in
          zip_then (KeepsItself seen) (λ r n. (seen n).content.count ≡ (seen r).content.count + 1) (CountsOneMore seen)
          (λ x y z k m. m ∙ ap (λ n. n + 1) k.count) old ready new kept (one_more ready new all more)

      pub all_opened : (new : List S) (r : Result (Unit {0}) Refused) → Called seen (OpensItself seen) ready new r
          → bases_then (contents seen new) ≡ bases_then (contents seen ready) → OnOk r (contents seen new ≡ each after_bump (contents seen ready))
          → OnOk r (AllByRecursion (λ s. Rests (seen s)) new) → OnOk r (AreOpened seen setup old new)
      all_opened new (Err why) called bases more rest = tt
      all_opened new (Ok x) called bases more rest =
          let done : Result (Unit {0}) Refused = Ok x in
          let whole : Called seen (OpensItself seen) old new done =
          called_then seen (KeepsItself seen) (OpensItself seen) (OpensItself seen) (keeps_opens seen) (λ y z k. k.trusted) old mid new done read.kept read.goes
          (ap bases_then same) (counting new done called) in
          let none : AllByRecursion HasNoRecord (contents seen new) = subst (λ cs. AllByRecursion HasNoRecord cs) (sym more) (none_bumped (contents seen ready) none) in
          let bases : bases_then (contents seen new) ≡ bases_then (contents seen old) = bases ∙ same_bases_by ready settles ∙ ap bases_then same in record {
            held = hold;
            belonged = belonged_before;
            now = now_opened new more;
            none = none;
            installed = sym (ap (λ cs. each (λ s. s.base) cs) (none_settles (contents seen new) none)) ∙ bases;
            counts = counts_one new called.kept more;
            hold = hold_opened ready new called.kept ∙ hold_ready;
            rest = rest;
            bases = bases;
            kept = whole.kept;
            goes = whole.goes;
            stops = whole.stops;
          }

  -- memory was wanting for what the opening says
  pub not_said : (setup : Setup) (old new : List S) → AreOpened seen setup old new → AreRefused seen setup old new Memory
  not_said setup old new a = record {
    bases = a.bases;
    in_part =
        subst (λ cs. AllZip (IsSettledInPart (contents seen old)) (contents seen old) cs) (sym a.now) (all_in_part (contents seen old) (contents seen old));
    kept = a.kept;
    stops = a.stops;
    counted = λ is. absurd cc;
    memory = λ _. none_of seen old new a.goes;
    settled_first = inl a.none;
    empty = λ empty. absurd (true≢false (sym a.held ∙ empty));
    strange = λ strange. absurd (true≢false (sym a.belonged ∙ strange));
    others = λ is. absurd cc;
  }
