-- A text has at least as many bytes as its schedule has cells and steps.
use Rattle.std.proofs.Common.{ℕ, ◌≡◌, ◌+◌, ◌<◌, ◌≤◌, ◌^◌, List, [], ◌∷◌, ◌++◌, map, length, codes, ap, arith, length-append}
use Rattle.std.proofs.lemmas.List.{length-map}
use Rattle.std.specs.Fmt.{decimal}
use Rattle.schedule_rules.specs.Transcripts.{Schedule}
use Rattle.schedule_text.specs.Lines.{Word, line_rest, line_text, lines_text}
use Rattle.schedule_text.specs.ScheduleText.{Spells, schedule_lines, cell_words, step_words, most_bytes}

-- the rest of a line has a byte
length-line_rest : (ws : List Word) → 1 ≤ length (line_rest ws)
length-line_rest [] = omega arith
length-line_rest (w ∷ ws) = omega arith

-- a line has a byte
length-line_text : (ws : List Word) → 1 ≤ length (line_text ws)
length-line_text [] = omega arith
length-line_text (w ∷ ws) = omega (arith, length-append w (line_rest ws), length-line_rest ws)

-- there are no more lines than bytes
length-lines_text : (ls : List (List Word)) → length ls ≤ length (lines_text ls)
length-lines_text [] = omega arith
length-lines_text (l ∷ ls) = omega (arith, length-append (line_text l) (lines_text ls), length-line_text l, length-lines_text ls)

-- these lists of lines with a line before, between and behind
length-framed : (cells steps : List (List Word)) (a b c d : List Word) → length cells + length steps ≤ length (a ∷ b ∷ (cells ++ (c ∷ (steps ++ (d ∷ [])))))
length-framed cells steps a b c d = omega (arith, length-append cells (c ∷ (steps ++ (d ∷ []))), length-append steps (d ∷ []))

-- a schedule has a line for each cell and each step
length-schedule_lines : (x : Schedule) → length x.cells + length x.steps ≤ length (schedule_lines x)
length-schedule_lines x =
    let framed : length (map cell_words x.cells) + length (map step_words x.steps) ≤ length (schedule_lines x) = length-framed (map cell_words x.cells) (map step_words x.steps) (codes "schedule" ∷ codes "1" ∷ []) (codes "parties" ∷ decimal x.parties ∷ []) (codes "steps" ∷ []) (codes "end" ∷ []) in
    omega (arith, framed, length-map x.cells cell_words, length-map x.steps step_words)

-- it has few cells and few steps
counts : (text : List ℕ) (x : Schedule) → Spells text x → length text ≤ most_bytes → length x.cells + length x.steps ≤ most_bytes
counts text x spells fits =
    let same : length text ≡ length (lines_text (schedule_lines x)) = ap length spells.spelling in
    omega (arith, same, length-lines_text (schedule_lines x), length-schedule_lines x)

-- it has few cells
pub cells_count : (text : List ℕ) (x : Schedule) → Spells text x → length text ≤ most_bytes → length x.cells < 2 ^ 32
cells_count text x spells fits = omega (arith, counts text x spells fits)

-- it has few steps
pub steps_count : (text : List ℕ) (x : Schedule) → Spells text x → length text ≤ most_bytes → length x.steps < 2 ^ 32
steps_count text x spells fits = omega (arith, counts text x spells fits)
