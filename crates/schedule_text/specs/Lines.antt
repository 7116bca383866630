-- Texts as lists of lines, and lines as lists of words.
use Rattle.std.specs.Prelude.{ℕ, List, [], ◌∷◌, ◌++◌}
use Rattle.std.specs.List.{flat_map}

-- a word, or a text that stands in its line as one word
abbrev pub Word : Type 0
Word = List ℕ

-- each further word of a line stands behind one space, and a line feed ends the line
abbrev pub line_rest : List Word → List ℕ
line_rest [] = 10 ∷ []
line_rest (w ∷ ws) = 32 ∷ (w ++ line_rest ws)

-- the words of a line, parted by one space, and a line feed
abbrev pub line_text : List Word → List ℕ
line_text [] = 10 ∷ []
line_text (w ∷ ws) = w ++ line_rest ws

-- the lines, one after another
abbrev pub lines_text : List (List Word) → List ℕ
lines_text ls = flat_map line_text ls
