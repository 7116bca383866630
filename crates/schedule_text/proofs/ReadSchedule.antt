-- A schedule that is read is spelled by the text, and no other is.
use Rattle.std.proofs.Common.{◌≡◌, ◌≢◌, ℕ, ◌^◌, ◌<◌, List, [], ◌∷◌, ◌++◌, map, Some, None, refl, sym, ap, ◌∙◌}
use Rattle.std.specs.Prelude.{codes}
use Rattle.std.specs.Fmt.{decimal}
use Rattle.std.specs.List.{flat_map, AllByRecursion}
use Rattle.std.proofs.lemmas.List.Concat.{flat_map-append}
use Rattle.std.proofs.lemmas.Option.{some_pair_parts}
use Rattle.schedule_rules.specs.declared.plan.CellPlan.{CellPlan}
use Rattle.schedule_rules.specs.declared.step.Step.{Step}
use Rattle.schedule_rules.specs.Transcripts.{Schedule}
use Rattle.schedule_text.specs.Lines.{Word, line_text}
use Rattle.schedule_text.specs.ScheduleText.{cell_words, step_words, schedule_text, CellFits, StepFits, Spells}
use Rattle.schedule_text.specs.ReadFields.{bytes_after, number_at, name_at}
use Rattle.schedule_text.specs.ReadSteps.{last_name_at, parties_at, cell_text, cell_at, step_text, step_at}
use Rattle.schedule_text.proofs.ReadWords.{bind_some, word_takes, word_again}
use Rattle.schedule_text.proofs.ReadActs.{last_name_takes, last_name_again}
use Rattle.schedule_text.proofs.ReadLines.{step_again, cell_again, same}

-- what stands behind the cells, and behind the number of parties
abbrev end_part : List Step → List ℕ
end_part steps = flat_map step_text steps ++ codes "end\n"

abbrev steps_part : List Step → List ℕ
steps_part steps = codes "steps\n" ++ end_part steps

abbrev cells_part : List CellPlan → List Step → List ℕ
cells_part cells steps = flat_map cell_text cells ++ steps_part steps

abbrev whole : Schedule → List ℕ
whole x = codes "schedule 1\nparties " ++ ((decimal x.parties ++ (10 ∷ [])) ++ cells_part x.cells x.steps)

mapped : {A : Type 0} (words : A → List Word) (xs : List A) → flat_map line_text (map words xs) ≡ flat_map (λ x. line_text (words x)) xs
mapped words [] = refl
mapped words (x ∷ xs) = ap (λ (r : List ℕ). line_text (words x) ++ r) (mapped words xs)

pub spelled : (x : Schedule) → schedule_text x ≡ whole x
unfolding cell_text step_text
spelled x =
    let last : List (List Word) = (codes "end" ∷ []) ∷ [] in
    let behind : List (List Word) = (codes "steps" ∷ []) ∷ (map step_words x.steps ++ last) in
    let steps_are : flat_map line_text (map step_words x.steps ++ last) ≡ end_part x.steps =
    flat_map-append line_text (map step_words x.steps) last ∙ ap (λ (r : List ℕ). r ++ codes "end\n") (mapped step_words x.steps) in
    let cells_are : flat_map line_text (map cell_words x.cells ++ behind) ≡ cells_part x.cells x.steps =
    flat_map-append line_text (map cell_words x.cells) behind
    ∙ ap (λ (r : List ℕ). r ++ (codes "steps\n" ++ flat_map line_text (map step_words x.steps ++ last))) (mapped cell_words x.cells)
    ∙ ap (λ (r : List ℕ). flat_map cell_text x.cells ++ (codes "steps\n" ++ r)) steps_are in
    ap (λ (r : List ℕ). codes "schedule 1\nparties " ++ ((decimal x.parties ++ (10 ∷ [])) ++ r)) cells_are

parties_again : (p : ℕ) (more : List ℕ) → p < 2 ^ 32 → parties_at (codes "schedule 1\nparties " ++ ((decimal p ++ (10 ∷ [])) ++ more)) ≡ Some (p, more)
unfolding parties_at
parties_again p more lt = rw (word_again (codes "schedule 1\nparties ") ((decimal p ++ (10 ∷ [])) ++ more)) (last_name_again p more lt)

parties_take : (bytes : List ℕ) (p : ℕ) (rest : List ℕ) → parties_at bytes ≡ Some (p, rest) → (bytes ≡ codes "schedule 1\nparties " ++ ((decimal p ++ (10 ∷ [])) ++ rest)) × (p < 2 ^ 32)
unfolding parties_at
parties_take bytes p rest e =
    let s = bind_some (bytes_after (codes "schedule 1\nparties ") bytes) last_name_at (p, rest) e in
    let w = word_takes (codes "schedule 1\nparties ") bytes s.0 s.1 in
    let t = last_name_takes s.0 p rest s.2 in
    (w ∙ ap (λ (r : List ℕ). codes "schedule 1\nparties " ++ r) t.0, t.1)

-- ---- what was read, up to each line

-- the number of parties, and the cells
pub record HasCells (text : List ℕ) (p : ℕ) (cells : List CellPlan) (rest : List ℕ) : Type 0 where
  pub start : List ℕ
  pub parties : parties_at text ≡ Some (p, start)
  pub taken : start ≡ flat_map cell_text cells ++ rest
  pub fit : AllByRecursion CellFits cells
  pub ended : cell_at rest ≡ None

-- and the steps
pub record HasSteps (text : List ℕ) (p : ℕ) (cells : List CellPlan) (steps : List Step) (rest : List ℕ) : Type 0 where
  pub middle : List ℕ
  pub start : List ℕ
  pub before : HasCells text p cells middle
  pub word : bytes_after (codes "steps\n") middle ≡ Some start
  pub taken : start ≡ flat_map step_text steps ++ rest
  pub fit : AllByRecursion StepFits steps
  pub ended : step_at rest ≡ None

pub no_parties : (text : List ℕ) → parties_at text ≡ None → (x : Schedule) → Spells text x → ⊥
no_parties text none x s =
    let read = ap parties_at (s.spelling ∙ spelled x) ∙ parties_again x.parties (cells_part x.cells x.steps) s.parties in
    absurd cc

no_cell : (steps : List Step) → cell_at (steps_part steps) ≡ None
unfolding cell_at bytes_after
no_cell steps = refl

no_step : step_at (codes "end\n") ≡ None
unfolding step_at name_at number_at
no_step = refl

pub cells_are : (text : List ℕ) (p : ℕ) (cells : List CellPlan) (rest : List ℕ) → HasCells text p cells rest → (x : Schedule) → Spells text x → (p ≡ x.parties) × (cells ≡ x.cells) × (rest ≡ steps_part x.steps)
cells_are text p cells rest h x s =
    let read = ap parties_at (s.spelling ∙ spelled x) ∙ parties_again x.parties (cells_part x.cells x.steps) s.parties in
    let parts = some_pair_parts p x.parties h.start (cells_part x.cells x.steps) (sym h.parties ∙ read) in
    let t = same cell_at cell_text CellFits cell_again cells x.cells rest (steps_part x.steps)
    h.fit s.cells h.ended (no_cell x.steps) (sym h.taken ∙ parts.1) in
    (parts.0, t.0, t.1)

pub no_steps : (text : List ℕ) (p : ℕ) (cells : List CellPlan) (rest : List ℕ) → HasCells text p cells rest → bytes_after (codes "steps\n") rest ≡ None → (x : Schedule) → Spells text x → ⊥
no_steps text p cells rest h none x s =
    let t = cells_are text p cells rest h x s in
    let read = ap (bytes_after (codes "steps\n")) t.2 ∙ word_again (codes "steps\n") (end_part x.steps) in
    absurd cc

pub steps_are : (text : List ℕ) (p : ℕ) (cells : List CellPlan) (steps : List Step) (rest : List ℕ) → HasSteps text p cells steps rest → (x : Schedule) → Spells text x → (p ≡ x.parties) × (cells ≡ x.cells) × (steps ≡ x.steps) × (rest ≡ codes "end\n")
steps_are text p cells steps rest h x s =
    let t = cells_are text p cells h.middle h.before x s in
    let read = sym h.word ∙ ap (bytes_after (codes "steps\n")) t.2 ∙ word_again (codes "steps\n") (end_part x.steps) in
    let start : h.start ≡ end_part x.steps = cc in
    let u = same step_at step_text StepFits step_again steps x.steps rest (codes "end\n") h.fit s.steps h.ended no_step (sym h.taken ∙ start) in
    (t.0, t.1, u.0, u.1)

pub no_end : (text : List ℕ) (p : ℕ) (cells : List CellPlan) (steps : List Step) (rest : List ℕ) → HasSteps text p cells steps rest → rest ≢ codes "end\n" → (x : Schedule) → Spells text x → ⊥
no_end text p cells steps rest h other x s = other (steps_are text p cells steps rest h x s).3

abbrev made : ℕ → List CellPlan → List Step → Schedule
made p cells steps = record { parties = p; cells = cells; steps = steps }

pub is_only : (text : List ℕ) (p : ℕ) (cells : List CellPlan) (steps : List Step) (rest : List ℕ) → HasSteps text p cells steps rest → (x : Schedule) → Spells text x → made p cells steps ≡ x
is_only text p cells steps rest h x s =
    let t = steps_are text p cells steps rest h x s in
    rw (t.0, t.1, t.2) refl

pub is_found : (text : List ℕ) (p : ℕ) (cells : List CellPlan) (steps : List Step) (rest : List ℕ) → HasSteps text p cells steps rest → rest ≡ codes "end\n" → Spells text (made p cells steps)
is_found text p cells steps rest h ends =
    let t = parties_take text p h.before.start h.before.parties in
    let w = word_takes (codes "steps\n") h.middle h.start h.word in
    let last : h.start ≡ end_part steps = h.taken ∙ ap (λ (r : List ℕ). flat_map step_text steps ++ r) ends in
    let middle : h.before.start ≡ cells_part cells steps = h.before.taken ∙ ap (λ (r : List ℕ). flat_map cell_text cells ++ r) (w ∙ ap (λ (r : List ℕ). codes "steps\n" ++ r) last) in
    let all : text ≡ whole (made p cells steps) = t.0 ∙ ap (λ (r : List ℕ). codes "schedule 1\nparties " ++ ((decimal p ++ (10 ∷ [])) ++ r)) middle in
    record { spelling = all ∙ sym (spelled (made p cells steps)); parties = t.1; cells = h.before.fit; steps = h.fit }
