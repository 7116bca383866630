-- Whole runs of schedules.
use Rattle.phase_schedule.proofs.Words.{[], ◌++◌, ◌+◌, ◌<◌, ◌∙◌, ◌∷◌, ◌≡◌, ◌≤◌, account_with, ap, arith, CanStep, drop, Ending, Ends, frame_of, get_or, get_or_from_slice_get}
use Rattle.phase_schedule.proofs.Words.{GoesOn, GoesOnFrom, held_by, Holders, IsEnd, IsLegalTranscript, IsRun, IsValid, length, length_push, Line, List, LockerKind, NamesKnown}
use Rattle.phase_schedule.proofs.Words.{None, Option, place_by, Progress, Run, Schedule, slice_get, slice_get-get_or, slice_get_within, Some, Step, subst, suc, sym, told, zero, ℕ}
use Rattle.phase_schedule.specs.Progress as progress
use Rattle.phase_schedule.specs.Running.{HasMade}
use Rattle.phase_schedule.proofs.Made.{told_known}
use Rattle.phase_schedule.proofs.Told.{told_count, told_next, told_none}

-- ---- a schedule that is run, with lines for its first steps

-- the step at a place
pub step_at : (x : Schedule) (lines : List Line) (i : ℕ) (d : Step) → length lines ≡ i → i < length x.steps → slice_get x.steps (length lines) ≡ Some (get_or x.steps i d)
step_at x lines i d e lt = ap (λ n. slice_get x.steps n) e ∙ slice_get-get_or x.steps i d lt

module _ {L : Type 0} {held : L → Holders} {place : L → LockerKind} (x : Schedule) (lines : List Line) {p : Progress L} (made : progress.HasMade held place (frame_of x) (told [] x.steps lines) p) (valid : IsValid x) (s : Step) (at : slice_get x.steps (length lines) ≡ Some s) where
  -- its next step can be made
  pub can_step : CanStep held place (frame_of x) (told [] x.steps lines) p s
  can_step =
      let inside : length lines < length x.steps = slice_get_within x.steps (length lines) s at in
      let all : length (told [] x.steps lines) ≡ 0 + length lines = told_count [] x.steps lines (omega (arith, inside)) in
      record { made = made; known = subst (NamesKnown x.parties (length x.cells)) (get_or_from_slice_get x.steps (length lines) s s at) (valid.known (length lines) s inside); room = omega (arith, all, inside) }

  -- and it is made
  pub steps_on : (l : Line) (new : Progress L) → progress.Steps held place p s l new → progress.HasMade held place (frame_of x) (told [] x.steps (lines ++ l ∷ [])) new
  steps_on l new did = subst (λ h. progress.HasMade held place (frame_of x) h new) (sym (told_next [] x.steps lines s l at)) (did (frame_of x) (told [] x.steps lines) can_step)

-- before the first step
pub made_none : {L : Type 0} {held : L → Holders} {place : L → LockerKind} (x : Schedule) (lines : List Line) (p : Progress L) → lines ≡ [] → progress.HasMade held place (frame_of x) [] p → progress.HasMade held place (frame_of x) (told [] x.steps lines) p
made_none {held = held} {place = place} x lines p e made = subst (λ h. progress.HasMade held place (frame_of x) h p) (sym (ap (λ ls. told [] x.steps ls) e ∙ told_none [] x.steps)) made

-- the transcript of all steps is legal
pub whole : {L : Type 0} {held : L → Holders} {place : L → LockerKind} (x : Schedule) (lines : List Line) (p : Progress L) (e : Ending) → progress.HasMade held place (frame_of x) (told [] x.steps lines) p → Ends x.cells (told [] x.steps lines) e → length lines ≡ length x.steps → IsLegalTranscript x (account_with lines e)
whole x lines p e made ends all = record { lines = all; legal = made.follows.legal; finals = ends.finals; exits = ends.exits }

-- ---- a run that hands out its lines

-- the first of what is left from a place on, and what is left behind it
left_from : (xs : List Step) (n : ℕ) (s : Step) (more : List Step) → s ∷ more ≡ drop n xs → (slice_get xs n ≡ Some s) × (more ≡ drop (suc n) xs)
left_from [] zero s more e = absurd (cc)
left_from [] (suc n) s more e = absurd (cc)
left_from (x ∷ xs) zero s more e = (cc, cc)
left_from (x ∷ xs) (suc n) s more e = left_from xs n s more e

-- nothing is left there
nothing_left : (xs : List Step) (n : ℕ) → [] ≡ drop n xs → length xs ≤ n
nothing_left [] n e = omega arith
nothing_left (x ∷ xs) zero e = absurd (cc)
nothing_left (x ∷ xs) (suc n) e = let rest : _ = nothing_left xs n e in omega (arith, rest)

-- before the first step
pub has_none : (x : Schedule) (r : Run) → IsValid x → r.steps ≡ x.steps → progress.HasMade held_by place_by (frame_of x) [] r.progress → HasMade x [] r
has_none x r valid steps made =
    record { valid = valid; steps = steps; few = omega arith; made = subst (λ h. progress.HasMade held_by place_by (frame_of x) h r.progress) (sym (told_none [] x.steps)) made }

module _ (x : Schedule) (lines : List Line) (old : Run) (made : HasMade x lines old) where
  module _ (s : Step) (more : List Step) (first : old.steps ≡ s ∷ more) where
    left : (slice_get x.steps (length lines) ≡ Some s) × (more ≡ drop (suc (length lines)) x.steps)
    left = left_from x.steps (length lines) s more (sym first ∙ made.steps)

    -- its next step can be made
    pub can_go_on : CanStep held_by place_by (frame_of x) (told [] x.steps lines) old.progress s
    can_go_on = can_step x lines made.made made.valid s left.0

    -- and it is made
    pub goes_on : (new : Run) (l : Line) → new.steps ≡ more → progress.Steps held_by place_by old.progress s l new.progress → GoesOnFrom x lines (Some l) new
    goes_on new l rest did =
        let longer : length (lines ++ l ∷ []) ≡ length lines + 1 = length_push lines l in
        let inside : length lines < length x.steps = slice_get_within x.steps (length lines) s left.0 in
        let same : suc (length lines) ≡ length (lines ++ l ∷ []) = omega (arith, longer) in
        let after = steps_on x lines made.made made.valid s left.0 l new.progress did in
        (record { valid = made.valid; steps = rest ∙ left.1 ∙ ap (λ n. drop n x.steps) same; few = omega (arith, longer, inside); made = after }, told_known (did (frame_of x) (told [] x.steps lines) can_go_on))

  -- no step is left
  pub is_done : old.steps ≡ [] → (new : Run) → new.steps ≡ [] → new.progress ≡ old.progress → GoesOnFrom x lines None new
  is_done none new stays same =
      let le : length x.steps ≤ length lines = nothing_left x.steps (length lines) (sym none ∙ made.steps) in
      let few : length lines ≤ length x.steps = made.few in
      let after = subst (λ p. progress.HasMade held_by place_by (frame_of x) (told [] x.steps lines) p) (sym same) made.made in
      (record { valid = made.valid; steps = stays ∙ sym none ∙ made.steps; few = made.few; made = after }, omega (arith, le, few))

-- it is a run still
pub still_run : (old new : Run) (o : Option Line) → IsRun old → GoesOn old o new → IsRun new
still_run old new None is goes = record { schedule = is.schedule; lines = is.lines; made = (goes is.schedule is.lines is.made).0 }
still_run old new (Some l) is goes = record { schedule = is.schedule; lines = is.lines ++ l ∷ []; made = (goes is.schedule is.lines is.made).0 }

-- its end
pub is_end : (x : Schedule) (lines : List Line) (r : Run) (e : Ending) → HasMade x lines r → progress.EndsSo held_by place_by r.progress e → IsEnd x lines e
is_end x lines r e made ends =
    let end = ends (frame_of x) (told [] x.steps lines) made.made in
    record { legal = made.made.follows.legal; ends = end; whole = λ all. whole x lines r.progress e made.made end all }
