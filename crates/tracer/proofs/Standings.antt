-- How an action stands after one event more.
use Rattle.std.proofs.Common.{◌≡◌, ℕ, Bool, true, false, cond, ◌||◌, List, ◌∷◌, sym, ap, ◌∙◌}
use Rattle.std.proofs.Math.Bool.{or_comm}
use Rattle.action_names.specs.Names.{Name, top_of}
use Rattle.run_model.specs.declared.history.Event.{Event}
use Rattle.run_model.specs.Actions.{begins, home_in, home_of, is_begun}
use Rattle.run_model.specs.Visibility.{has_prepared, is_lost, votes_yes}
use Rattle.tracer.proofs.Going.{any_begins}
use Rattle.tracer.specs.declared.orphans.Standing.{Standing}
use Rattle.tracer.specs.Losses.{IsStanding}

-- what was begun, was begun by the newest event or before
begun_more : (b : Name) (e : Event) (past : List Event) → is_begun b (e ∷ past) ≡ (begins e b || is_begun b past)
begun_more b e past = sym (any_begins b (e ∷ past)) ∙ ap (λ t. begins e b || t) (any_begins b past)

-- where the event does not begin the action, its home stays
pub stands_on : (s : Standing) (b : Name) (e : Event) (past : List Event) (prepared lost : Bool) → IsStanding s b past → begins e b ≡ false
    → prepared ≡ (s.prepared || votes_yes e.step e.answer s.home (top_of b)) → lost ≡ is_lost b (e ∷ past)
    → IsStanding (record { begun = s.begun; home = s.home; prepared = prepared; lost = lost }) b (e ∷ past)
stands_on s b e past prepared lost stood apart votes loss =
    let stays : home_of b past ≡ home_of b (e ∷ past) =
    sym (ap (λ t. cond t (home_in e.step (λ c. home_of c past)) (home_of b past)) apart) in
    record {
      of_begin = stood.of_begin ∙ sym (begun_more b e past ∙ ap (λ t. t || is_begun b past) apart);
      of_home = stood.of_home ∙ stays;
      of_votes =
          votes
          ∙ or_comm s.prepared (votes_yes e.step e.answer s.home (top_of b))
          ∙ ap (λ t. votes_yes e.step e.answer s.home (top_of b) || t) stood.of_votes
          ∙ ap (λ h. votes_yes e.step e.answer h (top_of b) || has_prepared (home_of b past) (top_of b) past) stood.of_home
          ∙ ap (λ h. has_prepared h (top_of b) (e ∷ past)) stays;
      of_loss = loss;
    }

-- where it does, the action stands as begun there
pub stands_anew : (b : Name) (e : Event) (past : List Event) (home : ℕ) (prepared lost : Bool) → begins e b ≡ true
    → home ≡ home_of b (e ∷ past) → prepared ≡ has_prepared home (top_of b) (e ∷ past) → lost ≡ is_lost b (e ∷ past)
    → IsStanding (record { begun = true; home = home; prepared = prepared; lost = lost }) b (e ∷ past)
stands_anew b e past home prepared lost starts at votes loss = record {
  of_begin = sym (begun_more b e past ∙ ap (λ t. t || is_begun b past) starts);
  of_home = at;
  of_votes = votes ∙ ap (λ h. has_prepared h (top_of b) (e ∷ past)) at;
  of_loss = loss;
}
