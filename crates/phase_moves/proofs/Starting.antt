-- The rows before the first step stand for the empty history.
use Rattle.phase_moves.proofs.Words.{◌≡◌, ◌<◌, ◌≤◌, ◌+◌, ◌∙◌, ℕ, List, [], ◌∷◌, ◌++◌, length, get_or, replicate, ap, sym, subst, refl, arith, None, Some, inl, inr}
use Rattle.phase_moves.proofs.Words.{length-replicate, cases_lt, gets, common_steps, slice_get, vec_capacity, ◌⊎◌, Holders, phase_of, new_registry, LockerKind, Parking}
use Rattle.phase_moves.proofs.Words.{no_rows, Fits, new_fits, CellPlan, Plan, cell_at, most_parties, shows_fresh, CellRow, Rows, AreFresh, AreFreshCells, IsFreshCell}
use Rattle.phase_moves.proofs.Words.{idle_party, standing, AreShown, IsCell, Stands, seen_at}

all_same : {X : Type 0} (n j : ℕ) (x : X) → j < n → slice_get (replicate n x) j ≡ Some x
all_same n j x lt = grind (arith, common_steps, gets)

-- one element more
pub size_more : {X : Type 0} (xs : List X) (x : X) (n : ℕ) → length xs ≡ n → length (xs ++ x ∷ []) ≡ n + 1
size_more xs x n e = grind (arith, common_steps, e)

-- the plan that a loop reads
pub planned_at : (plans : List CellPlan) (i : ℕ) (d : CellPlan) → i < length plans → get_or plans i d ≡ cell_at plans i
planned_at plans i d lt = grind (arith, common_steps)

module _ {L : Type 0} (held : L → Holders) (place : L → LockerKind) where
  -- one row more
  pub row_more : (plans : List CellPlan) (rows rows' : List (CellRow L)) (n : ℕ) (row : CellRow L) → length rows ≡ n → ((c : ℕ) (r : CellRow L) → slice_get rows c ≡ Some r → IsFreshCell held place (cell_at plans c) r) → IsFreshCell held place (cell_at plans n) row → rows' ≡ rows ++ row ∷ []
      → (c : ℕ) (r : CellRow L) → slice_get rows' c ≡ Some r → IsFreshCell held place (cell_at plans c) r
  row_more plans rows rows' n row size before here e c r there = by (cases_lt c n) (ap (λ xs. slice_get xs c) (sym e) ∙ there) where
    earlier : c < n → slice_get (rows ++ row ∷ []) c ≡ slice_get rows c
    earlier lt = grind (arith, common_steps, gets, size, lt)

    last : n ≤ c → slice_get (rows ++ row ∷ []) c ≡ Some r → (c ≡ n) × (row ≡ r)
    last le f = (grind (arith, common_steps, gets, size, le, f), grind (arith, common_steps, gets, size, le, f))

    by : (c < n) ⊎ (n ≤ c) → slice_get (rows ++ row ∷ []) c ≡ Some r → IsFreshCell held place (cell_at plans c) r
    by (inl lt) f = before c r (sym (earlier lt) ∙ f)
    by (inr le) f = let z = last le f in subst (λ d. IsFreshCell held place (cell_at plans d) r) (sym z.0) (subst (λ (y : CellRow L). IsFreshCell held place (cell_at plans n) y) z.1 here)

  cell_fresh : (plans : List CellPlan) (parties c : ℕ) (row : CellRow L) → IsFreshCell held place (cell_at plans c) row → IsCell held place (seen_at c (standing plans [])) (no_rows (length plans) parties) c row
  cell_fresh plans parties c row k =
      record {
        planned = k.planned;
        valued = k.valued;
        known = record { below = omega arith };
        locked =
            record {
              fits = subst (λ (h : Holders). Fits (place row.seq.locker) h (no_rows (length plans) parties) c) (sym k.free) (new_fits (place row.seq.locker) (phase_of 0) (length plans) parties c);
              phase_is = ap (λ (h : Holders). h.phase) k.free;
              reads_are = (let z : (held row.seq.locker).readers ≡ 0 = ap (λ (h : Holders). h.readers) k.free in omega (arith, z));
              write_is = λ lt. absurd (omega (arith, lt));
              write_was = λ o. (let z : (held row.seq.locker).locked ≡ _ = ap (λ (h : Holders). h.locked) k.free in let y = o.locked in absurd (cc));
              one = omega arith;
              limit = (let z : (held row.seq.locker).readers ≡ 0 = ap (λ (h : Holders). h.readers) k.free in omega (arith, z));
            };
        placed = k.placed;
        runner = k.runner;
        runs = k.runs;
      }

  pub fresh : (plan : Plan) (count : ℕ) (v : Rows L) → plan.parties < most_parties → AreFreshCells held place plan.cells.items v.cells.items → v.parties.items ≡ replicate plan.parties idle_party → v.parks ≡ no_rows (length plan.cells.items) plan.parties → v.guards.items ≡ []
      → v.exit.registry ≡ new_registry (length plan.cells.items) → v.exit.owner ≡ None → v.exit.turns.items ≡ [] → vec_capacity v.guards ≡ count → length plan.cells.items ≤ vec_capacity v.exit.turns → AreFresh held place plan count v
  fresh plan count v few cells parties parks guards registry owner turns guard_room turn_room =
      record {
        rests = record { stands = stands; empty = refl };
        cells = cells.count;
        parties = ap length parties ∙ length-replicate plan.parties _;
        guards = guards;
        guard_room = guard_room;
        turn_room = turn_room;
      } where
        size : ℕ
        size = length plan.cells.items

        stands : Stands held place (length v.guards.items) (standing plan.cells.items []) v
        stands =
            record {
              cell = λ c row e. subst (λ (s : Parking). IsCell held place (seen_at c (standing plan.cells.items [])) s c row) (sym parks) (cell_fresh plan.cells.items plan.parties c row (cells.each c row e));
              counted = λ c row e. (cells.each c row e).calm;
              draft = λ c row e. (λ g x e w at. absurd (cc));
              slot = λ g lt. absurd (let z = ap length guards in omega (arith, lt, z));
              party = λ p lt. ap (λ xs. slice_get xs p) parties ∙ all_same plan.parties p idle_party (let z = ap length parties ∙ length-replicate plan.parties _ in omega (arith, lt, z));
              exit = record { registry_is = registry; owner_is = owner; turns_are = turns; cells_are = length-replicate (length plan.cells.items) _ ∙ sym cells.count };
              waits = subst (λ (s : Parking). AreShown (length v.cells.items) [] s) (sym parks) (record { shows = shows_fresh (length plan.cells.items) plan.parties; single = λ p. omega arith; within = λ r w e. absurd (cc) });
              guards = record { once = λ g. omega arith; in_rows = λ g x e ne. absurd (cc); in_cells = λ g x e. absurd (cc) };
              sections = tt;
              sizes =
                  record {
                    rows = ap (λ (s : Parking). length s.rows) parks ∙ length-replicate plan.parties _ ∙ sym (ap length parties ∙ length-replicate plan.parties _);
                    readers = ap (λ (s : Parking). length s.readers) parks ∙ length-replicate (length plan.cells.items) _ ∙ sym cells.count;
                    writers = ap (λ (s : Parking). length s.writers) parks ∙ length-replicate (length plan.cells.items) _ ∙ sym cells.count;
                    few = subst (λ n. n < most_parties) (sym (ap (λ (s : Parking). length s.rows) parks ∙ length-replicate plan.parties _)) few;
                  };
            }
