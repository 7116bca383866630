-- The turns of a legal history are no more than its cells.
use Rattle.schedule_rules.proofs.Words.{ℕ, arith, List, ◌≡◌, Bool, true, refl, Some, false, ◌∷◌, [], ◌∙◌, ◌<◌, ◌&&◌, length, ◌+◌, ◌≤◌, ◌++◌, All, get_or_past, length-map}
use Rattle.schedule_rules.proofs.Words.{length-append, All-nil, All-cons, ◌==◌, if◌then◌else◌, cells_of_turns, is_known, occurs, due, CellPlan, Step, Turns, Event, count, sections}
use Rattle.schedule_rules.proofs.Words.{Section, innermost, is_turn, registry, ended_turns, waits, attempt, IsLegal, turns_of, turns_at_hand}
use Rattle.exit_registry.proofs.Exiting.{few_below}
use Rattle.schedule_rules.proofs.Accepts.{known-length}
use Rattle.schedule_rules.proofs.Counts.{occurs_joined, waits_so, first_so, begins}
use Rattle.schedule_rules.proofs.Found.{found_counts}
use Rattle.schedule_rules.proofs.Turns.{one-turn}

-- ---- the cells of those that pass a test

-- the cells of those that pass
abbrev cells_where : {X : Type 0} → (X → Bool) → (X → ℕ) → List X → List ℕ
cells_where t f [] = []
cells_where t f (x ∷ xs) = if t x then f x ∷ cells_where t f xs else cells_where t f xs

module _ {X : Type 0} (t : X → Bool) (f : X → ℕ) where
  -- a cell is as often in them as one of it passes
  occurs_where : (c : ℕ) (xs : List X) → occurs c (cells_where t f xs) ≡ count (λ x. t x && (f x == c)) xs
  occurs_where c [] = refl
  occurs_where c (x ∷ xs) = grind (arith, occurs_where c xs)

  -- they are as many as those that pass
  length_where : (xs : List X) → length (cells_where t f xs) ≡ count t xs
  length_where [] = refl
  length_where (x ∷ xs) = grind (arith, length_where xs)

differ : false ≡ true → ⊥
differ e = cc

-- what is not in a list above a number, is below it
below_where : (n : ℕ) (cs : List ℕ) → ((c : ℕ) → n ≤ c → occurs c cs ≡ 0) → All (λ c. c < n) cs
below_where n [] none = All-nil (λ c. c < n)
below_where n (d ∷ ds) none = All-cons (λ c. c < n) d ds first (below_where n ds (λ c le. let e : occurs c (d ∷ ds) ≡ 0 = none c le in omega (arith, e)))
  where
    one : (b : Bool) (m : ℕ) → b ≡ true → (if b then 1 else 0) + m ≡ 0 → ⊥
    one true m e z = omega (arith, z)
    one false m e z = cc

    past : n ≤ d → ⊥
    past le = one (d == d) (occurs d ds) (grind arith) (none d le)

    first : d < n
    first = grind (arith, past)

module _ (cells : List CellPlan) (h : List Event) (legal : IsLegal cells h) where
  abbrev waiting : List ℕ
  waiting = cells_where (λ w. is_turn w.want) (λ w. w.cell) (waits cells h)

  abbrev going_on : List ℕ
  going_on = cells_where (λ s. is_turn s.want) (λ s. s.cell) (sections h)

  abbrev ended : List ℕ
  ended = cells_of_turns (ended_turns h)

  -- the cells of all turns
  abbrev every : List ℕ
  every = due (registry cells h) ++ (waiting ++ (going_on ++ ended))

  occurs_every : (c : ℕ) → occurs c every ≡ turns_of cells c h
  occurs_every c = grind (arith, occurs_joined, occurs_where)

  at_most_one : (b : Bool) (n : ℕ) → n ≡ (if b then 1 else 0) → n ≤ 1
  at_most_one true n e = omega (arith, e)
  at_most_one false n e = omega (arith, e)

  once : (c : ℕ) → occurs c every ≤ 1
  once c = at_most_one (is_known (registry cells h) c) (occurs c every) (occurs_every c ∙ one-turn cells c h legal)

  -- a cell beyond the plan has none
  none_beyond : (c : ℕ) → length cells ≤ c → occurs c every ≡ 0
  none_beyond c le = grind (arith, occurs_every, one-turn, known-length, get_or_past)

  length_every : length every ≡ turns_at_hand cells h + length (ended_turns h)
  length_every = grind (arith, length-append, length_where, length-map)

  -- all turns are at most as many as the cells
  pub few-turns : turns_at_hand cells h + length (ended_turns h) ≤ length cells
  few-turns = let few : _ = few_below (length cells) every once (below_where (length cells) every none_beyond) in omega (arith, few, length_every)

  -- a finalizer that runs leaves room for its turn
  pub room-running : (p : ℕ) (s : Section) → innermost p (sections h) ≡ Some s → is_turn s.want ≡ true → length (ended_turns h) < length cells
  room-running p s f d = grind (arith, found_counts, few-turns)

  -- so does a turn that is taken
  pub room-taken : (s : Step) (c : ℕ) → attempt cells h s ≡ Some (record { cell = c; want = Turns }) → length (ended_turns h) < length cells
  room-taken s c e = grind (arith, length-append, few-turns, found_counts, begins, first_so, waits_so, differ)
