-- Lists of parties that are linked by number, and the rows that are seen of them.
use Rattle.std.specs.Prelude.{◌≡◌, ℕ, zero, suc, ◌<◌, ◌≤◌, true, List, [], ◌∷◌, length, map, slice_index_or, slice_set}
use Rattle.phase_locker.specs.declared.ways.Row.{Row}
use Rattle.phase_locker.specs.declared.links.Link.{Link}
use Rattle.phase_locker.specs.declared.links.Queue.{Queue}
use Rattle.phase_locker.specs.declared.links.Queues.{Queues}
use Rattle.phase_locker.specs.Rows.{Rows, IsSound, row_of, readers_of, writers_of, is_parked, occurs, without}

-- ---- a list

-- the link of this party
abbrev pub link_of : List Link → ℕ → Link
link_of links p = slice_index_or links p (record { next = 0; previous = 0 })

-- so many parties, from this one on
unfoldable pub walk : ℕ → List Link → ℕ → List ℕ
walk zero links p = []
walk (suc n) links p = p ∷ walk n links (link_of links p).next

-- the parties of a queue, from the first on
abbrev pub listed : List Link → Queue → List ℕ
listed links q = walk q.count links q.first

-- the last of these parties, or what stands before them
abbrev pub last_of : ℕ → List ℕ → ℕ
last_of b [] = b
last_of b (p ∷ ps) = last_of p ps

-- these parties are linked both ways, from h on; b stands before them, and e behind them
abbrev pub IsLinked : List Link → ℕ → ℕ → List ℕ → ℕ → Type 0
IsLinked links b h [] e = h ≡ e
IsLinked links b h (p ∷ ps) e = (h ≡ p) × ((link_of links p).previous ≡ b) × IsLinked links p (link_of links p).next ps e

-- the queue has these parties in this order
pub record IsQueue (links : List Link) (q : Queue) (ps : List ℕ) : Type 0 where
  pub before : ℕ
  pub behind : ℕ
  pub linked : IsLinked links before q.first ps behind
  pub last : q.last ≡ last_of q.last ps
  pub count : q.count ≡ length ps

-- each of these parties stands there once, and has one of so many rows
pub record IsRoster (rows : ℕ) (ps : List ℕ) : Type 0 where
  pub once : (p : ℕ) → occurs p ps ≤ 1
  pub below : (p : ℕ) → 0 < occurs p ps → p < rows

-- each party but these has its link
abbrev pub LinksStay : List ℕ → List Link → List Link → Type 0
LinksStay ps old new = (p : ℕ) → occurs p ps ≡ 0 → link_of new p ≡ link_of old p

-- ---- the rows

-- the two queues of this cell
abbrev pub queues_of : List Queues → ℕ → Queues
queues_of queues c = slice_index_or queues c (record {
  readers = record { count = 0; first = 0; last = 0 };
  writers = record { count = 0; first = 0; last = 0 };
})

-- the rows, with the lists that the links show
abbrev pub seen : List Row → List Link → List Queues → Rows
seen rows links queues = record {
  rows = rows;
  readers = map (λ (q : Queues). listed links q.readers) queues;
  writers = map (λ (q : Queues). listed links q.writers) queues;
}

-- links and queues show these rows: each list is that of its queue, and a parked party's cell has one
pub record IsShown (links : List Link) (queues : List Queues) (s : Rows) : Type 0 where
  pub size : length links ≡ length s.rows
  pub cells : length queues ≡ length s.readers
  pub readers : (c : ℕ) → c < length queues → IsQueue links (queues_of queues c).readers (readers_of s c)
  pub writers : (c : ℕ) → c < length queues → IsQueue links (queues_of queues c).writers (writers_of s c)
  pub inside : (p : ℕ) → is_parked (row_of s p).waiting ≡ true → (row_of s p).cell < length s.readers
  pub sound : IsSound s

-- a party leaves the parked writers of this cell, and its row becomes this one
abbrev pub writer_left : Row → ℕ → ℕ → Rows → Rows
writer_left r c p s = record { rows = slice_set s.rows p r; readers = s.readers; writers = slice_set s.writers c (without p (writers_of s c)) }
