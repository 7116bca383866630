-- The holder of a write guard sets a value.
use Rattle.phase_moves.proofs.Words.{◌≡◌, ◌≢◌, ◌==◌, ◌<◌, ◌≤◌, ◌∙◌, ℕ, List, [], ◌∷◌, length, set, get_or, ap, sym, subst, refl, arith, None, Some, inl, inr, cases_eq}
use Rattle.phase_moves.proofs.Words.{slice_get, ◌⊎◌, Holders, LockerKind, Parking, OthersStay, others_refl, count, Guard, numbered, put_in, writes_cell, with_value}
use Rattle.phase_moves.proofs.Words.{numbered_put, numbered_put_other, reads_put, writes_put, CellRow, Draft, Rows, Standing, put, seen_by, KeepsDraft, draft_of, Seen}
use Rattle.phase_moves.proofs.Words.{seen_at, slot_row, AreShown, IsCell, Stands, Rests, IsOpenWriter}
use Rattle.phase_moves.proofs.{Drafts.alone, Guards.found_itself, Guards.its_number, Guards.slots_same, Moved.IsMoved, Moved.moved, Moved.exit_kept, Moved.parties_same}
use Rattle.phase_moves.proofs.Places.{read_at}

-- no number is more often a guard's
numbers_put : (k g value : ℕ) (gs : List Guard) → count (λ (x : Guard). x.number == k) (put_in g value gs) ≡ count (λ (x : Guard). x.number == k) gs
numbers_put k g value [] = refl
numbers_put k g value (x ∷ gs) = grind (arith, numbers_put k g value gs)

module _ {L : Type 0} (held : L → Holders) (place : L → LockerKind) (m : Standing) (v : Rows L) (g c value : ℕ) (x : Guard) (is : IsOpenWriter held place m v g x) (at : x.cell ≡ c) where
  -- its cell has a row
  pub set_inside : c < length v.cells.items
  set_inside = subst (λ d. d < length v.cells.items) at (is.rests.stands.guards.in_cells g x is.found)

  -- a guard with a number has it still: it is that of the value, or another
  found_put : (j : ℕ) (y : Guard) → numbered j (put_in g value m.guards) ≡ Some y → ((j ≡ g) × (with_value value x ≡ y)) ⊎ ((j ≢ g) × (numbered j m.guards ≡ Some y))
  found_put j y e = grind (arith, cases_eq, with_value, numbered_put, numbered_put_other)

  -- it was there, on its cell
  number_put : (j : ℕ) (y : Guard) → numbered j (put_in g value m.guards) ≡ Some y → (P : ℕ → Type 0) → ((z : Guard) → numbered j m.guards ≡ Some z → P z.cell) → P y.cell
  number_put j y e P k = elim (found_put j y e) [ inl q ↦ subst (λ (z : Guard). P z.cell) q.1 (k x (ap (λ i. numbered i m.guards) q.0 ∙ is.found)) | inr q ↦ k y q.1 ]

  module _ (v' : Rows L) (row row' : CellRow L) (row_is : row ≡ get_or v.cells.items c row) (row'_is : row' ≡ record row { draft = record row.draft { value = Some value } }) (cells : v'.cells.items ≡ set v.cells.items c row') (guards : v'.guards ≡ v.guards) (parties : v'.parties ≡ v.parties) (parks : v'.parks ≡ v.parks) (exit : v'.exit ≡ v.exit) where
    abbrev n : ℕ
    n = length v.guards.items

    row_at : slice_get v.cells.items c ≡ Some row
    row_at = read_at v.cells.items c row set_inside row_is

    seen_put : (d : ℕ) → seen_at d (put g value m) ≡ seen_at d m
    seen_put d = grind (arith, reads_put, writes_put)

    slot_put : (j : ℕ) → slot_row n (put g value m) j ≡ slot_row n m j
    slot_put j = grind (arith, cases_eq, numbered_put, slots_same, numbered_put_other)

    -- the row of its cell
    cell_put : IsCell held place (seen_at c (put g value m)) v'.parks c row'
    cell_put =
        subst (λ (z : Seen). IsCell held place z v'.parks c row') (sym (seen_put c))
        (subst (λ (s : Parking). IsCell held place (seen_at c m) s c row') (sym parks)
        (let k = is.rests.stands.cell c row row_at in
        subst (λ (r : CellRow L). IsCell held place (seen_at c m) v.parks c r) (sym row'_is) (record { planned = k.planned; valued = k.valued; known = k.known; locked = k.locked; placed = k.placed; runner = k.runner; runs = k.runs })))

    draft_put : KeepsDraft c (put g value m) row'
    draft_put j y e w there = elim (found_put j y e) [
      | inl q ↦ ap (λ (r : CellRow L). r.draft) row'_is ∙ ap (λ (d : Draft). record d { value = Some value }) (is.rests.stands.draft c row row_at g x is.found is.writes at) ∙ ap (λ z. draft_of (seen_by (put g value m) z)) q.1
      | inr q ↦ absurd (alone j m.guards x (found_itself g m.guards x is.found) is.writes one y (λ f. q.0 (f ∙ its_number g m.guards x is.found)) q.1 w (there ∙ sym at))
    ] where
      one : count (writes_cell x.cell) m.guards ≤ 1
      one = subst (λ d. count (writes_cell d) m.guards ≤ 1) (sym at) (let most = (is.rests.stands.cell c row row_at).locked.one in omega (arith, most))

    put_moved : IsMoved held place c n n m (put g value m) v v'
    put_moved =
        let t = is.rests.stands in
        record {
          around = λ d ne. seen_put d;
          counts = λ d ne. refl;
          drafts = λ j y e w ne. (elim (found_put j y e) [ inl q ↦ absurd (ne (ap (λ (z : Guard). z.cell) (sym q.1) ∙ at)) | inr q ↦ q.1 ]);
          others = subst (λ (s : Parking). OthersStay c v.parks s) (sym parks) (others_refl c v.parks);
          same = record { parties = ap (λ (s : Parking). length s.rows) parks; cells = ap (λ (s : Parking). length s.readers) parks };
          lists = ap (λ (s : Parking). length s.writers) parks;
          guards = guards;
          slots = λ j lt. slot_put j;
          exit = exit_kept (length v.cells.items) m (put g value m) v.exit v'.exit exit refl refl refl t.exit;
          waits = subst (λ (s : Parking). AreShown (length v.cells.items) m.waits s) (sym parks) t.waits;
          numbers =
              record {
                once = λ j. subst (λ i. i ≤ 1) (sym (numbers_put j g value m.guards)) (t.guards.once j);
                in_rows = λ j y e ne. number_put j y e (λ i. j < n) (λ z f. t.guards.in_rows j z f ne);
                in_cells = λ j y e. number_put j y e (λ d. d < length v.cells.items) (λ z f. t.guards.in_cells j z f);
              };
          sections = t.sections;
        }

    -- it is put
    pub puts : Rests held place (put g value m) v'
    puts =
        record {
          stands = subst (λ i. Stands held place i (put g value m) v') (sym size)
              (moved held place c n n m (put g value m) v v' row' is.rests.stands set_inside cells cell_put (ap (λ (r : CellRow L). r.waiting) row'_is ∙ is.rests.stands.counted c row row_at) draft_put put_moved (parties_same held place n m (put g value m) v v' is.rests.stands parties (λ p. refl)));
          empty = ap (λ i. numbered i (put_in g value m.guards)) size ∙ numbered_put_other g n value m.guards (λ e. (let f : None ≡ Some x = sym is.rests.empty ∙ ap (λ i. numbered i m.guards) e ∙ is.found in absurd (cc))) ∙ is.rests.empty;
        } where
          size : length v'.guards.items ≡ n
          size = ap (λ (xs : _). length xs.items) guards
