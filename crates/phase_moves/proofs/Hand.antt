-- What the row of a guard in hand tells, and when the hand is empty.
use Rattle.phase_moves.proofs.Words.{◌≡◌, ◌≤◌, ◌∙◌, ℕ, length, ap, sym, refl, arith, Bool, true, false, None, Some, ◌<◌, set, subst, Option, Holders, Given, LockerKind}
use Rattle.phase_moves.proofs.Words.{ReadTicket, WriteTicket, Guard, numbered, guard_of, own, Rows, Standing, left_of_standing as left, Stands, guard_row, Rests, Pushes}
use Rattle.phase_moves.proofs.Words.{IsTaken, TakenAs, slice_get, if◌then◌else◌, GuardRow, is_row_of}
use Rattle.phase_moves.proofs.{Guards.gone, Guards.its_number, Guards.found_itself, Opening.rehand, Opening.taken}

-- the row of a read guard, and of a write guard
pub record ReadRow (c : ℕ) (o : Option Guard) : Type 0 where
  pub x : Guard
  pub is : o ≡ Some x
  pub reads : x.writes ≡ false
  pub at : x.cell ≡ c

pub read_row : (q c : ℕ) (l : ReadTicket) (o : Option Guard) → GuardRow.Read q c l ≡ guard_row o → ReadRow c o
read_row q c l o e = grind arith

pub record WriteRow (c : ℕ) (o : Option Guard) : Type 0 where
  pub x : Guard
  pub is : o ≡ Some x
  pub writes : x.writes ≡ true
  pub at : x.cell ≡ c

pub write_row : (q c : ℕ) (l : WriteTicket) (o : Option Guard) → GuardRow.Write q c l ≡ guard_row o → WriteRow c o
write_row q c l o e = grind arith

module _ {L : Type 0} (held : L → Holders) (place : L → LockerKind) where
  -- beyond the rows there is no guard but the one in hand
  pub beyond : (hand n : ℕ) (m : Standing) (v : Rows L) → Stands held place hand m v → numbered hand m.guards ≡ None → length v.guards.items ≤ n → numbered n m.guards ≡ None
  beyond hand n m v t none room = grind arith

  -- the row of a step that holds no guard is pushed
  pub pushed_free : (hand : ℕ) (m : Standing) (v new : Rows L) → Stands held place hand m v → numbered hand m.guards ≡ None → Pushes held place v GuardRow.Free new → Rests held place m new
  pushed_free hand m v new t none push = grind (arith, rehand, beyond)

  -- after a guard is given back
  pub left_empty : (hand : ℕ) (m : Standing) (v : Rows L) (x : Guard) (g : Given) → Stands held place hand m v → numbered hand m.guards ≡ Some x → numbered hand (left x g m).guards ≡ None
  left_empty hand m v x g t found = grind (arith, its_number, gone, found_itself)

-- ---- what the row of a guard tells of the guard

-- whose guard it is
owner : (p : ℕ) (o : Option Guard) (b : Bool) → is_row_of p (guard_row o) ≡ b → own p o ≡ (if b then o else None)
owner p o b e = grind arith

module _ {L : Type 0} (held : L → Holders) (place : L → LockerKind) (m : Standing) (v v' : Rows L) (p g : ℕ) (r : Rests held place m v) where
  -- the row of a guard
  pub row_shown : (row : GuardRow) → slice_get v.guards.items g ≡ Some row → g < length v.guards.items → row ≡ guard_row (numbered g m.guards)
  row_shown row e lt = grind arith

  -- it is not the party's
  pub not_taken : (row : GuardRow) → slice_get v.guards.items g ≡ Some row → g < length v.guards.items → is_row_of p row ≡ false → IsTaken held place v p g GuardRow.Free v m
  not_taken row e lt f = grind arith

  -- it is
  pub is_taken : (row : GuardRow) → slice_get v.guards.items g ≡ Some row → g < length v.guards.items → is_row_of p row ≡ true → v'.guards.items ≡ set v.guards.items g GuardRow.Free → v'.cells ≡ v.cells → v'.parties ≡ v.parties → v'.parks ≡ v.parks → v'.exit ≡ v.exit → IsTaken held place v p g row v' m
  is_taken row e lt f guards cells parties parks exit =
      let its : guard_of g p m.guards ≡ numbered g m.guards = owner p (numbered g m.guards) true (ap (is_row_of p) (sym (row_shown row e lt)) ∙ f) in
      record { row_is = row_shown row e lt ∙ ap guard_row (sym its); taken = subst (λ o. TakenAs held place v g o m v') (sym its) (by (numbered g m.guards) refl) } where
        all : Stands held place g m v'
        all = taken held place m v v' g r.stands r.empty lt guards cells parties parks exit

        by : (o : Option Guard) → numbered g m.guards ≡ o → TakenAs held place v g o m v'
        by o q = grind (arith, row_shown, all)
