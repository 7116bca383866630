-- The holds of a cell exclude each other: what holds it to write, is all that does.
use Rattle.schedule_rules.proofs.Words.{ℕ, arith, List, ◌≡◌, true, refl, Some, ◌∷◌, [], ◌∙◌, ap, ◌+◌, cond, CellPlan, Event, count, sections, Section, innermost, runs_in}
use Rattle.schedule_rules.proofs.Words.{without_innermost, Guard, guards, numbered, without_guard, writes_cell, IsLegal, IsExclusive}
use Rattle.schedule_rules.proofs.Found.{found_counts}
use Rattle.schedule_rules.proofs.Opened.{count_ended, count_removed}
use Rattle.schedule_rules.proofs.Facts.{same_number}

-- at the beginning nothing holds a cell
alone_at_first : (cells : List CellPlan) (c : ℕ) → IsExclusive cells [] c
alone_at_first cells c = record { one_writer = omega arith; no_reader = λ w. refl; no_drain = λ w. refl; limit = omega arith }

module _ (cells : List CellPlan) where
  -- at each moment of a legal history the holds of a cell exclude each other
  pub alone : (h : List Event) → IsLegal cells h → (c : ℕ) → IsExclusive cells h c
  alone [] k = alone_at_first cells
  alone (e ∷ h) k = k.1

module _ (cells : List CellPlan) (h : List Event) (alone : (c : ℕ) → IsExclusive cells h c) where
  -- where a section of the cell runs, no guard writes it
  pub no_writer_beside : (p : ℕ) (t : Section) → innermost p (sections h) ≡ Some t → count (writes_cell t.cell) (guards h) ≡ 0
  no_writer_beside p t f = grind (arith, found_counts, alone)

  -- and where it ends, no other of its cell is left
  pub no_run_left : (p : ℕ) (t : Section) → innermost p (sections h) ≡ Some t → count (runs_in t.cell) (without_innermost p (sections h)) ≡ 0
  no_run_left p t f =
      let one : count (runs_in t.cell) (sections h) ≡ count (runs_in t.cell) (without_innermost p (sections h)) + 1 =
      count_ended (runs_in t.cell) p (sections h) t f ∙ ap (λ b. count (runs_in t.cell) (without_innermost p (sections h)) + cond b 1 0) (same_number t.cell t.cell refl) in
      omega (arith, (alone t.cell).one_writer, one)

  writes : (x : Guard) → x.writes ≡ true → writes_cell x.cell x ≡ true
  writes x w = rw w (same_number x.cell x.cell refl)

  -- where a guard writes the cell, no section of it runs
  pub no_run_beside : (g : ℕ) (x : Guard) → numbered g (guards h) ≡ Some x → x.writes ≡ true → count (runs_in x.cell) (sections h) ≡ 0
  no_run_beside g x f w = grind (arith, found_counts, writes, alone)

  -- nor another guard
  pub no_writer_left : (g : ℕ) (x : Guard) → numbered g (guards h) ≡ Some x → x.writes ≡ true → count (writes_cell x.cell) (without_guard g (guards h)) ≡ 0
  no_writer_left g x f w =
      let one : count (writes_cell x.cell) (guards h) ≡ count (writes_cell x.cell) (without_guard g (guards h)) + 1 =
      count_removed (writes_cell x.cell) g (guards h) x f ∙ ap (λ b. count (writes_cell x.cell) (without_guard g (guards h)) + cond b 1 0) (writes x w) in
      omega (arith, (alone x.cell).one_writer, one)
