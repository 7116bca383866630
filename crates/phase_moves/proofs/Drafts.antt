-- What the row of a cell keeps of the guard that writes the cell.
use Rattle.phase_moves.proofs.Words.{◌≡◌, ◌≢◌, ◌∙◌, ℕ, ◌∷◌, ap, arith, true, false, Some, inl, inr, cases_eq, Content, count, Guard, numbered, reader, writes_cell}
use Rattle.phase_moves.proofs.Words.{found_counts, guard_kept, List, ◌≤◌, ◌⊎◌, CellRow, Standing, seen_by, guarded, KeepsDraft, draft_of}
use Rattle.phase_moves.proofs.Guards.{count_less, writes_here}

-- where no guard writes the cell none is found that does
pub none_writes : (c g : ℕ) (gs : List Guard) (x : Guard) → count (writes_cell c) gs ≡ 0 → numbered g gs ≡ Some x → x.writes ≡ true → x.cell ≢ c
none_writes c g gs x none e w at = grind (arith, found_counts, writes_here)

-- no other guard writes the cell of one that does
pub alone : (g : ℕ) (gs : List Guard) (x : Guard) → numbered x.number gs ≡ Some x → x.writes ≡ true → count (writes_cell x.cell) gs ≤ 1 → (y : Guard) → g ≢ x.number → numbered g gs ≡ Some y → y.writes ≡ true → y.cell ≢ x.cell
alone g gs x there wx one y ne e wy = grind (arith, count_less, writes_here, none_writes, guard_kept)

-- what is published stays that a write guard shows, where it stays at other cells, and at this one where a guard writes it
pub shown_still : (c : ℕ) (m : Standing) (f : ℕ → Content) → ((d : ℕ) → d ≢ c → f d ≡ m.content d) → (count (writes_cell c) m.guards ≢ 0 → f c ≡ m.content c) → (g : ℕ) (x : Guard) → numbered g m.guards ≡ Some x → x.writes ≡ true → f x.cell ≡ m.content x.cell
shown_still c m f beside here g x e w = grind (arith, cases_eq, none_writes)

-- a write guard that is found beside one more is that one, or was there
pub found_beside : (y : Guard) (g : ℕ) (gs : List Guard) (x : Guard) → numbered g (y ∷ gs) ≡ Some x → (y ≡ x) ⊎ (numbered g gs ≡ Some x)
found_beside y g gs x e = elim (cases_eq g y.number) [ inl q ↦ inl (grind (arith, e, q)) | inr ne ↦ inr (grind (arith, e, ne)) ]

-- beside a read guard it was there
pub beside_reader : (n p c g : ℕ) (gs : List Guard) (x : Guard) → numbered g (reader n p c ∷ gs) ≡ Some x → x.writes ≡ true → numbered g gs ≡ Some x
beside_reader n p c g gs x e w = elim (found_beside (reader n p c) g gs x e) [ inl q ↦ absurd (let f : false ≡ true = ap (λ (z : Guard). z.writes) q ∙ w in cc) | inr f ↦ f ]

module _ {L : Type 0} (c : ℕ) (m : Standing) (row : CellRow L) where
  -- no guard writes the cell
  pub keeps_none : count (writes_cell c) m.guards ≡ 0 → KeepsDraft c m row
  keeps_none none g x e w at = absurd (none_writes c g m.guards x none e w at)

  -- one does now, and the row keeps what its holder sees
  pub keeps_first : (y : Guard) → count (writes_cell c) m.guards ≡ 0 → row.draft ≡ draft_of (seen_by m y) → KeepsDraft c (guarded y m) row
  keeps_first y none is g x e w at = grind (arith, found_beside, none_writes)

  -- a read guard more
  pub keeps_reader : (n p : ℕ) → KeepsDraft c m row → KeepsDraft c (guarded (reader n p c) m) row
  keeps_reader n p k g x e w at = k g x (beside_reader n p c g m.guards x e w) w at

  -- the row stays, and what is published stays that a write guard shows
  pub keeps_still : (m' : Standing) (row' : CellRow L) → KeepsDraft c m row → row'.draft ≡ row.draft → m'.plans ≡ m.plans → ((g : ℕ) (x : Guard) → numbered g m'.guards ≡ Some x → x.writes ≡ true → numbered g m.guards ≡ Some x) → ((g : ℕ) (x : Guard) → numbered g m.guards ≡ Some x → x.writes ≡ true → m'.content x.cell ≡ m.content x.cell) → KeepsDraft c m' row'
  keeps_still m' row' k same plans there shown g x e w at = grind arith
