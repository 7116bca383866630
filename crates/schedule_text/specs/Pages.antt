-- How much a page holds.
use Rattle.std.specs.Prelude.{ℕ, Bool, List, ◌+◌, ◌≤◌, length, nat_le}

-- how many bytes a page holds
abbrev pub page_bytes : ℕ
page_bytes = 65_536

-- more bytes than any line of a transcript has
abbrev pub line_room : ℕ
line_room = 256

-- so many bytes more fit on the page with these
abbrev pub HasRoom : ℕ → List ℕ → Type 0
HasRoom n bytes = length bytes + n ≤ page_bytes

-- any line of a transcript fits
abbrev pub has_line_room : List ℕ → Bool
has_line_room bytes = nat_le (length bytes + line_room) page_bytes

-- at most so many bytes were added
abbrev pub GrowsBy : ℕ → List ℕ → List ℕ → Type 0
GrowsBy n old new = length new ≤ length old + n
