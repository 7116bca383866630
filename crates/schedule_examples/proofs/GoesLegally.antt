-- What goes is legal.
use Rattle.std.proofs.Common.{◌≡◌, ◌<◌, ◌≤◌, ℕ, zero, suc, ◌+◌, List, [], ◌∷◌, ◌++◌, length, map, refl, sym, ◌∙◌, ap, subst, arith, Bool, true, false, ◌&&◌, ◌||◌, cond, Some}
use Rattle.std.specs.Prelude.{◌==◌, nat_le, slice_get}
use Rattle.std.specs.List.{list_any}
use Rattle.phase_bits.specs.Records.{most_readers}
use Rattle.schedule_rules.specs.declared.plan.CellPlan.{CellPlan}
use Rattle.schedule_rules.specs.declared.transcript.Final.{Final}
use Rattle.exit_registry.specs.declared.turns.Turned.{Turned}
use Rattle.schedule_rules.specs.History.{Event, count}
use Rattle.schedule_rules.specs.Sections.{runs_in, sections}
use Rattle.schedule_rules.specs.Guards.{guards}
use Rattle.schedule_rules.specs.Waits.{shares_read, shares_write, drains_on, is_read_share, is_write_share, is_drain, waits}
use Rattle.schedule_rules.specs.Holds.{reads_cell, writes_cell, readers, writers, drains}
use Rattle.schedule_rules.specs.Refusals.{refusal}
use Rattle.schedule_rules.specs.Legal.{IsLegal, IsLegalLine, IsExclusive, may_give}
use Rattle.schedule_rules.specs.Transcripts.{told, final_of, AreFinals, IsLegalTranscript}
use Rattle.schedule_examples.specs.Examples.{Row, steps_of, lines_of, history_of, due_line, due_lines_from, gifts_from, excludes, cells_named, all_exclude, each_excludes, holds_from, finals_from, GoesWith}

-- the number is in the list
abbrev is_in : ℕ → List ℕ → Bool
is_in c cs = list_any (λ d. d == c) cs

-- both of two
both : (a b : Bool) → (a && b) ≡ true → (a ≡ true) × (b ≡ true)
both true true e = (refl, refl)
both true false e = absurd (cc)
both false b e = absurd (cc)

-- what stands in one of two lists stands in both together
in_first : (c : ℕ) (xs ys : List ℕ) → is_in c xs ≡ true → is_in c (xs ++ ys) ≡ true
in_first c [] ys e = absurd (cc)
in_first c (x ∷ xs) ys e = grind (arith, in_first c xs ys)

in_second : (c : ℕ) (xs ys : List ℕ) → is_in c ys ≡ true → is_in c (xs ++ ys) ≡ true
in_second c [] ys e = e
in_second c (x ∷ xs) ys e = grind (arith, in_second c xs ys)

-- where a test passes things of one cell alone, and that cell is not named, it passes none
none_of : {X : Type 0} (t : X → Bool) (cell : X → ℕ) (c : ℕ) → ((x : X) → t x ≡ true → (cell x == c) ≡ true) → (xs : List X) → is_in c (map cell xs) ≡ false → count t xs ≡ 0
none_of t cell c only [] e = refl
none_of {X} t cell c only (x ∷ xs) e = by (t x) refl (cell x == c) refl e (none_of t cell c only xs)
  where
    by : (a : Bool) → t x ≡ a → (b : Bool) → (cell x == c) ≡ b → (b || is_in c (map cell xs)) ≡ false → (is_in c (map cell xs) ≡ false → count t xs ≡ 0) → cond a (count t xs + 1) (count t xs) ≡ 0
    by a p true q e rest = absurd (cc)
    by false p false q e rest = rest e
    by true p false q e rest = absurd (apart (sym (only x p) ∙ q))
      where
        apart : true ≡ false → ⊥
        apart z = cc

-- a choice with false
passes_both : (a b : Bool) → cond a b false ≡ true → b ≡ true
passes_both true b e = e
passes_both false b e = absurd (cc)

passes_other : (a b : Bool) → cond a false b ≡ true → b ≡ true
passes_other true b e = absurd (cc)
passes_other false b e = e

-- what the test says of the numbers
told_by_test : (w r d m : ℕ) → (nat_le w 1 && (((w == 0) || ((r == 0) && (d == 0))) && nat_le r m)) ≡ true → (w ≤ 1) × (0 < w → r ≡ 0) × (0 < w → d ≡ 0) × (r ≤ m)
told_by_test w r d m e = (grind arith, (λ p. grind arith), (λ p. grind arith), grind arith)

module _ (cells : List CellPlan) (h : List Event) where
  -- of a cell that is not named nothing stands
  nothing_stands : (c : ℕ) → is_in c (cells_named cells h) ≡ false → (writers cells c h ≡ 0) × (readers cells c h ≡ 0) × (drains cells c h ≡ 0)
  nothing_stands c e = (omega (arith, write_guards, runs, write_shares), omega (arith, read_guards, read_shares), no_drains)
    where
      lacks : (a b : Bool) → (a ≡ true → b ≡ true) → b ≡ false → a ≡ false
      lacks true b f n = absurd (apart (sym (f refl) ∙ n))
        where
          apart : true ≡ false → ⊥
          apart z = cc
      lacks false b f n = refl

      rest : List ℕ
      rest = map (λ s. s.cell) (sections h) ++ map (λ w. w.cell) (waits cells h)

      no_guard : is_in c (map (λ x. x.cell) (guards h)) ≡ false
      no_guard = lacks _ _ (in_first c (map (λ x. x.cell) (guards h)) rest) e

      no_rest : is_in c rest ≡ false
      no_rest = lacks _ _ (in_second c (map (λ x. x.cell) (guards h)) rest) e

      no_section : is_in c (map (λ s. s.cell) (sections h)) ≡ false
      no_section = lacks _ _ (in_first c (map (λ s. s.cell) (sections h)) (map (λ w. w.cell) (waits cells h))) no_rest

      no_wait : is_in c (map (λ w. w.cell) (waits cells h)) ≡ false
      no_wait = lacks _ _ (in_second c (map (λ s. s.cell) (sections h)) (map (λ w. w.cell) (waits cells h))) no_rest

      write_guards : count (writes_cell c) (guards h) ≡ 0
      write_guards = none_of (writes_cell c) (λ x. x.cell) c (λ x k. passes_both x.writes (x.cell == c) k) (guards h) no_guard

      read_guards : count (reads_cell c) (guards h) ≡ 0
      read_guards = none_of (reads_cell c) (λ x. x.cell) c (λ x k. passes_other x.writes (x.cell == c) k) (guards h) no_guard

      runs : count (runs_in c) (sections h) ≡ 0
      runs = none_of (runs_in c) (λ s. s.cell) c (λ s k. k) (sections h) no_section

      write_shares : count (shares_write c) (waits cells h) ≡ 0
      write_shares = none_of (shares_write c) (λ w. w.cell) c (λ w k. passes_both (is_write_share w.way w.woken) (w.cell == c) k) (waits cells h) no_wait

      read_shares : count (shares_read c) (waits cells h) ≡ 0
      read_shares = none_of (shares_read c) (λ w. w.cell) c (λ w k. passes_both (is_read_share w.way w.woken) (w.cell == c) k) (waits cells h) no_wait

      no_drains : count (drains_on c) (waits cells h) ≡ 0
      no_drains = none_of (drains_on c) (λ w. w.cell) c (λ w k. passes_both (is_drain w.way) (w.cell == c) k) (waits cells h) no_wait

  -- where each cell in a list passes the test, one in it does
  one_of_all : (c : ℕ) (cs : List ℕ) → all_exclude cells h cs ≡ true → is_in c cs ≡ true → excludes cells h c ≡ true
  one_of_all c [] e i = absurd (cc)
  one_of_all c (d ∷ cs) e i = by (d == c) refl i (one_of_all c cs parts.1)
    where
      parts : (excludes cells h d ≡ true) × (all_exclude cells h cs ≡ true)
      parts = both (excludes cells h d) (all_exclude cells h cs) e

      by : (b : Bool) → (d == c) ≡ b → (b || is_in c cs) ≡ true → (is_in c cs ≡ true → excludes cells h c ≡ true) → excludes cells h c ≡ true
      by true q i rest = let same : d ≡ c = grind arith in subst (λ x. excludes cells h x ≡ true) same parts.0
      by false q i rest = rest i

  -- the test says of each cell that its holds exclude each other
  exclusive : each_excludes cells h ≡ true → (c : ℕ) → IsExclusive cells h c
  exclusive e c = by (is_in c (cells_named cells h)) refl
    where
      by : (b : Bool) → is_in c (cells_named cells h) ≡ b → IsExclusive cells h c
      by true i =
          let t : _ = told_by_test (writers cells c h) (readers cells c h) (drains cells c h) most_readers (one_of_all c (cells_named cells h) e i) in
          record { one_writer = t.0; no_reader = t.1; no_drain = t.2; limit = t.3 }
      by false i =
          let t : _ = nothing_stands c i in
          record { one_writer = omega (arith, t.0); no_reader = λ w. t.1; no_drain = λ w. t.2; limit = omega (arith, t.1) }

module _ (cells : List CellPlan) where
  -- the test holds at its first moment
  holds_now : (h : List Event) (rs : List Row) → holds_from cells h rs ≡ true → each_excludes cells h ≡ true
  holds_now h [] e = e
  holds_now h (r ∷ rs) e = (both (each_excludes cells h) _ e).0

  -- rows that go on from a legal history make a legal one
  legal_from : (h : List Event) (rs : List Row) → IsLegal cells h → due_lines_from cells h rs ≡ lines_of rs → gifts_from cells h rs ≡ true → holds_from cells h rs ≡ true
      → IsLegal cells (told h (steps_of rs) (lines_of rs))
  legal_from h [] k l g e = k
  legal_from h (r ∷ rs) k l g e = legal_from longer rs (line, exclusive cells longer (holds_now longer rs later), k) others gifts.1 later
    where
      longer : List Event
      longer = record { step = r.step; line = r.line } ∷ h

      gifts : (may_give cells (refusal cells h r.step) r.moment h r.step r.line ≡ true) × (gifts_from cells longer rs ≡ true)
      gifts = both (may_give cells (refusal cells h r.step) r.moment h r.step r.line) (gifts_from cells longer rs) g

      later : holds_from cells longer rs ≡ true
      later = (both (each_excludes cells h) (holds_from cells longer rs) e).1

      now : due_line cells h r ≡ r.line
      now = cc

      others : due_lines_from cells longer rs ≡ lines_of rs
      others = cc

      line : IsLegalLine cells h r.step r.line
      line = record { moment = r.moment; chosen = r.chosen; answered = sym (ap (λ x. x.answer) now); gave = gifts.0 }

  -- the finals, one for each cell
  finals_count : (c : ℕ) (xs : List CellPlan) (h : List Event) → length (finals_from cells c xs h) ≡ length xs
  finals_count c [] h = refl
  finals_count c (x ∷ xs) h = ap suc (finals_count (c + 1) xs h)

  final_at : (c : ℕ) (xs : List CellPlan) (h : List Event) (k : ℕ) → k < length xs → slice_get (finals_from cells c xs h) k ≡ Some (final_of cells (c + k) h)
  final_at c [] h k d = absurd (omega arith)
  final_at c (x ∷ xs) h zero d = ap (λ n. Some (final_of cells n h)) (omega arith)
  final_at c (x ∷ xs) h (suc k) d = final_at (c + 1) xs h k (omega arith) ∙ ap (λ n. Some (final_of cells n h)) (omega arith)

-- as many lines as steps
as_many : (rs : List Row) → length (lines_of rs) ≡ length (steps_of rs)
as_many [] = refl
as_many (r ∷ rs) = ap suc (as_many rs)

-- what goes is legal
pub goes-is-legal : (parties : ℕ) (cells : List CellPlan) (rows : List Row) (left : List Final) (turns : List Turned) → GoesWith cells rows left turns
    → IsLegalTranscript (record { parties = parties; cells = cells; steps = steps_of rows }) (record { lines = lines_of rows; finals = left; exits = turns })
goes-is-legal parties cells rows left turns g = record {
  lines = as_many rows;
  legal = legal_from cells [] rows tt g.lines g.gifts g.holds;
  finals = subst (λ xs. AreFinals xs cells (history_of rows)) g.finals (record {
    count = finals_count cells 0 cells (history_of rows);
    each = λ c d. let same : 0 + c ≡ c = omega arith in final_at cells 0 cells (history_of rows) c d ∙ ap (λ n. Some (final_of cells n (history_of rows))) same;
  });
  exits = sym g.exits;
}
