-- The rule of the shared word: what holds of the word and of all views between any two steps.
use Rattle.std.specs.Prelude.{◌≡◌, ℕ, ◌+◌, ◌^◌, ◌<◌, Bool, true, false, List, [], ◌∷◌, length, slice_index, if◌then◌else◌}
use mathlib.Core.Option.{some}
use lib.ListN.{get_elem?}
use Rattle.atomic_table.specs.Table.{State}
use Rattle.phase_bits.specs.Word.{phase_in, readers_in, spare_in, lock_in}
use Rattle.lazy_threads.specs.declared.view.View.{View}
use Rattle.lazy_threads.specs.declared.view.Hold.{Hold}
use Rattle.lazy_threads.specs.declared.view.Hold.TheVariants.{Read, Write}
use Rattle.lazy_threads.specs.Views.{HasInitialized, saw_initialized}

abbrev pub is_read : Hold → Bool
is_read Read = true
is_read hold = false

abbrev pub is_write : Hold → Bool
is_write Write = true
is_write hold = false

-- how many of the views have a hold of a kind
abbrev pub how_many : (Hold → Bool) → List View → ℕ
how_many kind [] = 0
how_many kind (v ∷ views) = (if kind v.hold then 1 else 0) + how_many kind views

abbrev pub reads : List View → ℕ
reads views = how_many is_read views

abbrev pub writes : List View → ℕ
writes views = how_many is_write views

-- what one view says of the word is so: with a write hold the phase is the one that it entered with, and INITIALIZED stays once it was seen
pub record Knows (word : ℕ) (v : View) : Type 0 where
  pub entered : v.hold ≡ Write → phase_in word ≡ v.entered
  pub seen : saw_initialized v.seen ≡ true → HasInitialized word

-- the rule: the lock bit counts the write holds and the reader field the read holds, a write hold is alone, each view knows the word, and the spare bit, the waiter flags and all bits above are clear
pub record Keeps (word : ℕ) (views : List View) : Type 0 where
  pub locked : lock_in word ≡ writes views
  pub readers : readers_in word ≡ reads views
  pub alone : 0 < writes views → reads views ≡ 0
  pub known : (id : ℕ) (v : View) → get_elem? views id ≡ some v → Knows word v
  pub below : word < 2 ^ 30
  pub spare : spare_in word ≡ 0

-- the rule of a table that has this one word
abbrev pub rule : {S : Type 0} → State S View → Type 0
rule state = Keeps (slice_index state.words 0) state.views × (length state.words ≡ 1)

-- a word that the rule allows, whatever the views are
pub record IsCellWord (word : ℕ) : Type 0 where
  pub below : word < 2 ^ 30
  pub spare : spare_in word ≡ 0
  pub alone : lock_in word ≡ 1 → readers_in word ≡ 0

-- what a step finds: a word that the rule allows, with INITIALIZED where the seat has seen it, and with a reader where the seat is one
pub record Finds (word : ℕ) (v : View) : Type 0 where
  pub allowed : IsCellWord word
  pub lasts : saw_initialized v.seen ≡ true → HasInitialized word
  pub reader : v.hold ≡ Read → 0 < readers_in word

-- what a step of a write hold finds: the word that the hold left
pub record FindsOwn (word : ℕ) (v : View) : Type 0 where
  pub own : word ≡ v.entered + 2 ^ 29
  pub phase : v.entered < 256
