-- What a seat knows, and how each kind of step changes it.
use Rattle.std.specs.Prelude.{◌≡◌, ℕ, ◌+◌, ◌-◌, ◌%◌, ◌^◌, ◌==◌, Bool, false, ◌||◌, if◌then◌else◌, List, [], ◌∷◌, ◌++◌}
use Rattle.lazy_threads.specs.declared.view.View.{View}
use Rattle.lazy_threads.specs.declared.view.Hold.TheVariants.{Free, Read, Write}

-- the phase or the word has the flag INITIALIZED, whose value is 1
abbrev pub HasInitialized : ℕ → Type 0
HasInitialized n = n % 2 ≡ 1

-- some phase of the list has INITIALIZED
abbrev pub saw_initialized : List ℕ → Bool
saw_initialized [] = false
saw_initialized (phase ∷ phases) = (phase % 2 == 1) || saw_initialized phases

-- of the first seat of a word
abbrev pub fresh : View
fresh = record { hold = Free; entered = 0; seen = []; loads = 0; last = 0; earlier = 0; before = 0; after = 0 }

-- after a load that found this word
abbrev pub loaded : ℕ → View → View
loaded word v = record v { seen = word % 256 ∷ v.seen; loads = v.loads + 1; last = word; earlier = v.last; before = word; after = word }

-- after the step that got a read hold, and after the one that got a write hold, where they found this word
abbrev pub entered_read : ℕ → View → View
entered_read word v = record v { hold = Read; before = word; after = word + 256 }

abbrev pub entered_write : ℕ → View → View
entered_write word v = record v { hold = Write; entered = word % 256; before = word; after = word + 2 ^ 29 }

-- after the step that was the load too, and got a write hold at this word
abbrev pub looked_write : ℕ → View → View
looked_write word v = entered_write word (loaded word v)

-- after an exchange that expected the judged word and found this one: it enters where the two are one, and else it is a load
abbrev pub exchanged : (ℕ → View → View) → ℕ → ℕ → View → View
exchanged enter judged word v = if word == judged then enter word v else loaded word v

-- after a read hold was given back, where the step found this word
abbrev pub left_read : ℕ → View → View
left_read word v = record v { hold = Free; before = word; after = word - 256 }

-- after a write hold was given back, where the step found this word and left that one
abbrev pub left_write : ℕ → ℕ → View → View
left_write word next v = record v { hold = Free; seen = next % 256 ∷ v.seen; before = word; after = next }

-- after a write hold became a read hold, where the step found this word and left that one
abbrev pub downgraded : ℕ → ℕ → View → View
downgraded word next v = record v { hold = Read; seen = next % 256 ∷ v.seen; before = word; after = next }

-- of a seat that was split off one that knows this: it has no hold and made no load, and it has seen as much
abbrev pub split_off : View → View
split_off v = record fresh { seen = v.seen }

-- of a seat that took in one that knew that: it has seen what both had seen
abbrev pub joined : View → View → View
joined v other = record v { seen = v.seen ++ other.seen }
