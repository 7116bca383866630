-- Steps and their lines, told one after another.
use Rattle.phase_schedule.proofs.Words.{[], ◌++◌, ◌+◌, ◌∙◌, ◌∷◌, ◌≡◌, ◌≤◌, ap, arith, Event, length, Line, List, refl, slice_get, Some, Step, told}

-- a step and its line
abbrev pub event : Step → Line → Event
event s l = record { step = s; line = l }

-- no line, no event
pub told_none : (h : List Event) (ss : List Step) → told h ss [] ≡ h
told_none h [] = refl
told_none h (s ∷ ss) = refl

-- one event for each line
pub told_count : (h : List Event) (ss : List Step) (ls : List Line) → length ls ≤ length ss → length (told h ss ls) ≡ length h + length ls
told_count h [] (l ∷ ls) le = absurd (omega (arith, le))
told_count h (s ∷ ss) (l ∷ ls) le = let more : _ = told_count (event s l ∷ h) ss ls (omega (arith, le)) in omega (arith, more)
told_count h ss ls le = omega arith

-- the line of the next step
pub told_next : (h : List Event) (ss : List Step) (ls : List Line) (s : Step) (l : Line) → slice_get ss (length ls) ≡ Some s → told h ss (ls ++ l ∷ []) ≡ event s l ∷ told h ss ls
told_next h [] ls s l e = absurd (cc)
told_next h (r ∷ ss) [] s l e = let same : r ≡ s = cc in told_none (event r l ∷ h) ss ∙ ap (λ (x : Step). event x l ∷ h) same
told_next h (r ∷ ss) (k ∷ ls) s l e = told_next (event r k ∷ h) ss ls s l e

-- a step more and its line
pub told_more : (h : List Event) (ss : List Step) (ls : List Line) (s : Step) (l : Line) → length ls ≡ length ss → told h (ss ++ s ∷ []) (ls ++ l ∷ []) ≡ event s l ∷ told h ss ls
told_more h [] [] s l e = refl
told_more h (r ∷ ss) (k ∷ ls) s l e = told_more (event r k ∷ h) ss ls s l (omega (arith, e))
told_more h ss ls s l e = absurd (omega (arith, e))
