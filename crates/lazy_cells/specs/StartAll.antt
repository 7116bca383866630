-- A list of cells that a program starts, in order. `st` is what is seen of a cell.
use Rattle.std.specs.Prelude.{◌≡◌, ◌≢◌, ℕ, suc, ◌<◌, ◌≤◌, true, false, List, length, slice_get, Some, Result, Ok, Err}
use Rattle.phase_bits.specs.declared.phase.Phase.{Phase}
use Rattle.exit_registry.specs.Registry.{Registry, cells_of, is_known}
use Rattle.phase_seq.specs.declared.init_error.InitError.{InitError}
use Rattle.lazy_cells.specs.Startup.{Standing, Answers, Starts, is_own}

module _ {X : Type 0} where
  -- this is so of the cell at this place of the list
  abbrev pub At : (X → Type 0) → ℕ → List X → Type 0
  At P k xs = (x : X) → slice_get xs k ≡ Some x → P x

  -- this is so of each cell of the list
  abbrev pub Each : (X → Type 0) → List X → Type 0
  Each P xs = (k : ℕ) → At P k xs

-- `run` says of a cell that its generator may be called
module _ {X : Type 0} (st : X → Standing) (run : X → Type 0) where
  -- the cells that are registered for the exit bear distinct numbers
  abbrev pub AreDistinct : List X → Type 0
  AreDistinct xs = (j k : ℕ) → j ≢ k → (x y : X) → slice_get xs j ≡ Some x → slice_get xs k ≡ Some y → (c : ℕ) → (st y).cell ≡ Some c → is_own (st x).cell c ≡ false

  -- the cell at this place was started, which answered so
  pub record HasStarted (say : Standing → Result Phase InitError) (k : ℕ) (old new : List X) : Type 0 where
    pub before : X
    pub after : X
    pub was : slice_get old k ≡ Some before
    pub is : slice_get new k ≡ Some after
    pub answers : Answers (st before) (say (st after)) (st after)
    pub held : (st after).held ≡ (st before).held
    pub writing : (st after).writing ≡ (st before).writing
    pub cell : (st after).cell ≡ (st before).cell
    pub again : run after

  -- it answered its phase; or this error
  abbrev pub fine : Standing → Result Phase InitError
  fine s = Ok s.phase

  abbrev pub failed : InitError → Standing → Result Phase InitError
  failed e s = Err e

  -- no cell before this place bears this number
  abbrev pub NoneBears : ℕ → List X → ℕ → Type 0
  NoneBears n xs c = (k : ℕ) → k < n → (x : X) → slice_get xs k ≡ Some x → is_own (st x).cell c ≡ false

  -- the registry knows what it knew, and besides at most numbers of the cells before this place
  pub record KnowsAll (n : ℕ) (xs : List X) (m m' : Registry) : Type 0 where
    pub cells : cells_of m' ≡ cells_of m
    pub kept : (c : ℕ) → is_known m c ≡ true → is_known m' c ≡ true
    pub others : (c : ℕ) → NoneBears n xs c → is_known m' c ≡ is_known m c

  -- the cells before this place were started, and the others are untouched
  pub record AreStarted (n : ℕ) (old new : List X) (m m' : Registry) : Type 0 where
    pub size : length new ≡ length old
    pub started : (k : ℕ) → k < n → HasStarted fine k old new
    pub rest : (k : ℕ) → n ≤ k → slice_get new k ≡ slice_get old k
    pub registry : KnowsAll n old m m'

  -- the start of the cell at this place failed: those before it were started, those after it are untouched
  pub record StopsAt (n : ℕ) (e : InitError) (old new : List X) (m m' : Registry) : Type 0 where
    pub inside : n < length old
    pub size : length new ≡ length old
    pub started : (k : ℕ) → k < n → HasStarted fine k old new
    pub stopped : HasStarted (failed e) n old new
    pub rest : (k : ℕ) → n < k → slice_get new k ≡ slice_get old k
    pub registry : KnowsAll (suc n) old m m'

  -- the cell at this place had its start, which gave this
  pub record StartsAt (n : ℕ) (old : List X) (r : Result Phase InitError) (new : List X) (m m' : Registry) : Type 0 where
    pub before : X
    pub after : X
    pub was : slice_get old n ≡ Some before
    pub is : slice_get new n ≡ Some after
    pub starts : Starts (st before) r (st after) m m'
    pub again : run after
    pub size : length new ≡ length old
    pub others : (k : ℕ) → k ≢ n → slice_get new k ≡ slice_get old k

  -- all cells were started, or the first start that failed is told
  abbrev pub StartsAll : List X → Result (Unit {0}) (ℕ × InitError) → List X → Registry → Registry → Type 0
  StartsAll old (Ok u) new m m' = AreStarted (length old) old new m m'
  StartsAll old (Err (n, e)) new m m' = StopsAt n e old new m m'
