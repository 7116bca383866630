-- What is seen of the rows, when a cell is registered, a round begins, or a turn is taken.
use Rattle.std.proofs.Common.{◌≡◌, ◌≢◌, ℕ, zero, suc, ◌+◌, ◌-◌, ◌^◌, ◌<◌, Bool, true, false, cond, List, [], ◌∷◌, ◌++◌, length, refl, arith, ◌∙◌, ap, sym, not, map, take, add-one}
use Rattle.std.specs.Prelude.{replicate, slice_index_or, count_by, ◌&&◌, Some, None}
use Rattle.std.proofs.Math.ListN.{length-set, set, length-map, get_or-map, get_or}
use Rattle.std.proofs.lemmas.List.{get_or-set_other, get_or-set_same, map-set}
use Rattle.std.proofs.lemmas.List.Elements.{All-head}
use Rattle.std.proofs.lemmas.List.Sums.{count_by-le-length, sum_by-set}
use Rattle.std.proofs.lemmas.Grind.{common_steps}
use Rattle.exit_registry.specs.declared.registry.Row.{Row}
use Rattle.exit_registry.specs.declared.registry.Chain.{Chain}
use Rattle.exit_registry.specs.Registry.{Registry, cells_of, is_known, is_empty, first_of, rest_of, occurs, new_registry, registered, after_register, look_at, looked, after_turn}
use Rattle.exit_registry.specs.declared.registry.Look.TheVariants.{Round, Closed}
use Rattle.exit_registry.specs.Chains.{unknown, row_at, walk, cells_in, seen, IsKept}
use Rattle.exit_registry.proofs.Soundness.{occurs-append, none_first, not_due, sound-new, sound-registered, sound-looked, sound-after_turn}

-- a list that is written back whole
pub take_all : (n : ℕ) (xs ys : List Row) → length xs ≡ n → take n (xs ++ ys) ≡ xs
take_all n xs ys e = grind (arith, common_steps)

-- whether the cell of this row was registered
abbrev pub known_of : Row → Bool
known_of r = r.known

-- the row of a cell that is registered
abbrev pub linked : Chain → Row
linked round = record { known = true; next = round.first }

-- the round with one more cell
abbrev pub longer : Chain → ℕ → Chain
longer round c = record { count = round.count + 1; first = c }

-- ---- walks

-- a walk has as many cells as it counts
length-walk : (n : ℕ) (rows : List Row) (c : ℕ) → length (walk n rows c) ≡ n
unfolding walk
length-walk zero rows c = refl
length-walk (suc n) rows c = ap suc (length-walk n rows (row_at rows c).next)

-- the row of a cell that is in none of the lists does not matter
pub walk-set : (n : ℕ) (rows : List Row) (c d : ℕ) (r : Row) → occurs d (walk n rows c) ≡ 0 → walk n (set rows d r) c ≡ walk n rows c
unfolding walk
walk-set zero rows c d r h = refl
walk-set (suc n) rows c d r h =
    let other = none_first d c (walk n rows (row_at rows c).next) h in
    rw (get_or-set_other rows d c r unknown other.0) (ap (λ cs. c ∷ cs) (walk-set n rows (row_at rows c).next d r other.1))

-- the new round has the cell first, and then the cells of the old one
walk-longer : (rows : List Row) (round : Chain) (c : ℕ) → c < length rows → occurs c (cells_in rows round) ≡ 0 → walk (round.count + 1) (set rows c (linked round)) c ≡ c ∷ cells_in rows round
unfolding walk
walk-longer rows round c l h =
    rw (add-one round.count, get_or-set_same rows c (linked round) unknown l) (ap (λ cs. c ∷ cs) (walk-set round.count rows round.first c (linked round) h))

-- a walk begins with its first cell
pub walk-first : (n : ℕ) (rows : List Row) (c : ℕ) → n ≢ 0 → walk n rows c ≡ c ∷ walk (n - 1) rows (row_at rows c).next
unfolding walk
walk-first zero rows c h = absurd (h refl)
walk-first (suc n) rows c h = let e : suc n - 1 ≡ n = omega arith in rw e refl

-- ---- known cells

-- what is seen of a cell is in its row
known_row : (rows : List Row) (c : ℕ) → slice_index_or (map known_of rows) c false ≡ (row_at rows c).known
known_row rows c = get_or-map known_of rows c unknown

-- one more cell is known
count-set : (rows : List Row) (c : ℕ) (r : Row) → c < length rows → (row_at rows c).known ≡ false → r.known ≡ true → count_by known_of (set rows c r) ≡ count_by known_of rows + 1
count-set rows c r l u k =
    let one : count_by known_of (set rows c r) + cond {A = ℕ} (row_at rows c).known 1 0 ≡ count_by known_of rows + cond {A = ℕ} r.known 1 0 = sum_by-set (λ x. cond {A = ℕ} (known_of x) 1 0) rows c r unknown l in
    let before : cond {A = ℕ} (row_at rows c).known 1 0 ≡ 0 = ap (λ b. cond {A = ℕ} b 1 0) u in
    let after : cond {A = ℕ} r.known 1 0 ≡ 1 = ap (λ b. cond {A = ℕ} b 1 0) k in
    omega (arith, one, before, after)

-- ---- what is seen

-- registries with equal parts are equal
same : (p q l m : List ℕ) (k n : List Bool) (o : Bool) → p ≡ q → l ≡ m → k ≡ n → (let a : Registry = record { pending = p; left = l; known = k; is_open = o } in a) ≡ record { pending = q; left = m; known = n; is_open = o }
same p q l m k n o e f g = rw (e, f, g) refl

-- of new rows no cell is known
unknown_rows : (cells : ℕ) → map known_of (replicate cells unknown) ≡ replicate cells false
unknown_rows zero = refl
unknown_rows (suc n) = ap (λ bs. false ∷ bs) (unknown_rows n)

-- what a registry keeps in which no cell is registered
pub new_kept : (cells : ℕ) (rows : List Row) → rows ≡ replicate cells unknown → cells < 2 ^ 32 → (seen rows (record { count = 0; first = 0 }) (record { count = 0; first = 0 }) true ≡ new_registry cells) × IsKept rows (record { count = 0; first = 0 }) (record { count = 0; first = 0 }) true
unfolding walk
new_kept cells rows e h = (rw e (rw (unknown_rows cells) refl), rw e (record { sound = rw (unknown_rows cells) (sound-new cells h); room = omega arith }))

-- a cell is registered
module _ (rows : List Row) (pending left : Chain) (o : Bool) (r : Registry) (e : seen rows pending left o ≡ r) (kept : IsKept rows pending left o) (c : ℕ) (inside : c < cells_of r) (unknown_yet : is_known r c ≡ false) where
  -- the cell has a row
  inside_rows : c < length rows
  inside_rows = let h = rw (← e) at inside in omega (arith, h, length-map rows known_of)

  -- its row says that it was not registered
  unknown_row : (row_at rows c).known ≡ false
  unknown_row = let h = rw (← e) at unknown_yet in sym (known_row rows c) ∙ h

  -- so it is seen
  unknown_seen : is_known (seen rows pending left o) c ≡ false
  unknown_seen = known_row rows c ∙ unknown_row

  -- it is in no round
  nowhere : occurs c (cells_in rows left) + occurs c (cells_in rows pending) ≡ 0
  nowhere = sym (occurs-append c (cells_in rows left) (cells_in rows pending)) ∙ not_due (seen rows pending left o) c kept.sound unknown_seen

  -- with it one more cell is known
  one_more : count_by known_of (set rows c (linked pending)) ≡ count_by known_of rows + 1
  one_more = count-set rows c (linked pending) inside_rows unknown_row refl

  -- the count of its round does not overflow
  pub link_room : pending.count + 1 < 2 ^ 32
  link_room = omega (arith, kept.room, one_more, count_by-le-length known_of (set rows c (linked pending)), length-set rows c (linked pending), kept.sound.few, length-map rows known_of)

  -- the new rows are those of the registry in which it is registered
  registered_seen : seen (set rows c (linked pending)) (longer pending c) left o ≡ registered c (seen rows pending left o)
  registered_seen =
      same _ _ _ _ _ _ o
      (walk-longer rows pending c inside_rows (omega (arith, nowhere)))
      (walk-set left.count rows left.first c (linked pending) (omega (arith, nowhere)))
      (map-set known_of rows c (linked pending))

  -- so they are where the registry is open
  pub register_seen : o ≡ true → seen (set rows c (linked pending)) (longer pending c) left o ≡ after_register c r
  register_seen t = rw (← e, t) (rw t at registered_seen)

  -- what is kept stays
  pub register_kept : o ≡ true → IsKept (set rows c (linked pending)) (longer pending c) left o
  register_kept t = record {
    sound = rw registered_seen (sound-registered (seen rows pending left o) c kept.sound (omega (arith, inside_rows, length-map rows known_of)) unknown_seen t);
    room = omega (arith, kept.room, one_more);
  }

-- a look
module _ (rows : List Row) (pending left : Chain) (o : Bool) (r : Registry) (e : seen rows pending left o ≡ r) (kept : IsKept rows pending left o) where
  -- the cells registered since the last look are left
  pub look_seen : seen rows (record { count = 0; first = 0 }) pending (not (is_empty (cells_in rows pending)) && o) ≡ looked r
  unfolding walk
  look_seen = rw (← e) refl

  -- what is kept stays
  pub look_kept : r.left ≡ [] → IsKept rows (record { count = 0; first = 0 }) pending (not (is_empty (cells_in rows pending)) && o)
  look_kept h = record {
    sound = rw (look_seen, ← e) (sound-looked (seen rows pending left o) kept.sound (ap (λ (x : Registry). x.left) e ∙ h));
    room = omega (arith, kept.room);
  }

  -- a look without a cell closes
  pub look_closes : pending.count ≡ 0 → not (is_empty (cells_in rows pending)) && o ≡ false
  unfolding walk
  look_closes h = rw h refl

  -- a look with a cell leaves open what is open
  pub look_stays : pending.count ≢ 0 → not (is_empty (cells_in rows pending)) && o ≡ o
  look_stays h = rw (walk-first pending.count rows pending.first h) refl

  -- a look without a cell answers so
  pub look_closed : pending.count ≡ 0 → Closed ≡ look_at r.pending
  unfolding walk
  look_closed h = rw (← e, h) refl

  -- a look with cells answers their number
  pub look_round : pending.count ≢ 0 → Round pending.count ≡ look_at r.pending
  look_round h =
      let walked = walk-first pending.count rows pending.first h in
      let count : pending.count ≡ length (pending.first ∷ walk (pending.count - 1) rows (row_at rows pending.first).next) = sym (length-walk pending.count rows pending.first) ∙ ap (λ (cs : List ℕ). length cs) walked in
      rw (← e, walked) (ap (λ n. Round n) count)

-- a turn
module _ (rows : List Row) (pending left : Chain) (o : Bool) (r : Registry) (e : seen rows pending left o ≡ r) (kept : IsKept rows pending left o) (some : left.count ≢ 0) where
  -- the cells left are the first and those of the new walk
  turn_walk : cells_in rows left ≡ left.first ∷ walk (left.count - 1) rows (row_at rows left.first).next
  turn_walk = walk-first left.count rows left.first some

  -- the first has a row
  pub turn_inside : left.first < length rows
  turn_inside =
      let below = rw turn_walk at kept.sound.below in
      let first : left.first < length (map known_of rows) = All-head (λ c. c < length (map known_of rows)) left.first (walk (left.count - 1) rows (row_at rows left.first).next ++ cells_in rows pending) below in
      omega (arith, first, length-map rows known_of)

  -- the first has its turn
  pub turn_cell : Some left.first ≡ first_of r.left
  turn_cell = rw (← e, turn_walk) refl

  -- the rest is left
  pub turn_seen : (n : ℕ) → n ≡ (row_at rows left.first).next → seen rows pending (record { count = left.count - 1; first = n }) o ≡ after_turn r
  turn_seen n f = rw (← e, turn_walk, f) refl

  -- what is kept stays
  pub turn_kept : (n : ℕ) → n ≡ (row_at rows left.first).next → IsKept rows pending (record { count = left.count - 1; first = n }) o
  turn_kept n f = record {
    sound = rw (turn_seen n f, ← e) (sound-after_turn (seen rows pending left o) kept.sound);
    room = omega (arith, kept.room);
  }

-- no turn
module _ (rows : List Row) (pending left : Chain) (o : Bool) (r : Registry) (e : seen rows pending left o ≡ r) (none : left.count ≡ 0) where
  -- no cell is left
  pub none_left : r.left ≡ []
  unfolding walk
  none_left = rw (← e, none) refl

  -- so none has a turn
  pub no_cell : None ≡ first_of r.left
  no_cell = rw none_left refl

  -- and nothing changes
  pub no_turn : r ≡ after_turn r
  no_turn = let h : r.left ≡ rest_of r.left = rw none_left refl in ap (λ ls. let a : Registry = record r { left = ls } in a) h
