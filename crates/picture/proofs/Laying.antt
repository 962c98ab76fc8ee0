-- A run gone through from its oldest event.
use Rattle.std.proofs.Common.{◌≡◌, ℕ, suc, ◌+◌, ◌<◌, ◌≤◌, List, [], ◌∷◌, ◌++◌, length, get_or, take, reverse, sym, ap, subst, ◌∙◌, arith}
use Rattle.std.proofs.lemmas.List.{length-reverse, length-take, reverse-append, take_all, take_more}
use Rattle.run_model.specs.declared.history.Event.{Event}
use Rattle.picture.specs.declared.layout.Layout.{Layout}
use Rattle.picture.specs.declared.losses.Losses.{Losses}
use Rattle.picture.specs.declared.window.Span.{Span}
use Rattle.picture.specs.Layouts.{AreBars, IsLaidOut}
use Rattle.picture.specs.Losses.{AreLosses}

-- the events so far and one more
pub newest_first : (events : List Event) (i : ℕ) (e : Event) → i < length events → e ≡ get_or events i e
    → reverse (take (i + 1) events) ≡ e ∷ reverse (take i events)
newest_first events i e lt item =
    ap reverse (take_more events i e lt ∙ ap (λ (x : Event). take i events ++ x ∷ []) (sym item))
    ∙ reverse-append (take i events) (e ∷ [])

-- how many there are so far
pub number_next : (events : List Event) (i : ℕ) → i < length events → i + 1 ≡ suc (length (reverse (take i events)))
number_next events i lt = omega (arith, lt, length-reverse (take i events), length-take i events)

pub all_newest_first : (events : List Event) (i : ℕ) → length events ≤ i → reverse (take i events) ≡ reverse events
all_newest_first events i le = ap reverse (take_all i events le)

-- the layout and the losses of the events so far
pub record AreSoFar (span : Span) (layout : Layout) (losses : Losses) (past : List Event) : Type 0 where
  pub laid_out : IsLaidOut span layout past
  pub kept : AreLosses losses past

pub so_far_none : (span : Span) (events : List Event) (layout : Layout) (losses : Losses) → IsLaidOut span layout [] → AreLosses losses []
    → AreSoFar span layout losses (reverse (take 0 events))
so_far_none span [] layout losses laid kept = record { laid_out = laid; kept = kept }
so_far_none span (e ∷ events) layout losses laid kept = record { laid_out = laid; kept = kept }

pub so_far_next : (span : Span) (events : List Event) (i : ℕ) (e : Event) (old new : Layout) (before after : Losses) → i < length events → e ≡ get_or events i e
    → AreSoFar span old before (reverse (take i events))
    → ((past : List Event) → AreBars old.bars past → AreLosses before past → AreLosses after (e ∷ past))
    → ((s : Span) (past : List Event) → IsLaidOut s old past → i + 1 ≡ suc (length past) → IsLaidOut s new (e ∷ past))
    → AreSoFar span new after (reverse (take (i + 1) events))
so_far_next span events i e old new before after lt item so_far lost laid =
    subst (AreSoFar span new after) (sym (newest_first events i e lt item)) (record {
      laid_out = laid span (reverse (take i events)) so_far.laid_out (number_next events i lt);
      kept = lost (reverse (take i events)) so_far.laid_out.bars so_far.kept;
    })

pub so_far_all : (span : Span) (events : List Event) (i : ℕ) (layout : Layout) (losses : Losses) → length events ≤ i
    → AreSoFar span layout losses (reverse (take i events)) → AreSoFar span layout losses (reverse events)
so_far_all span events i layout losses le so_far = subst (AreSoFar span layout losses) (all_newest_first events i le) so_far
