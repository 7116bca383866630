-- The record of a locker is that of its cell's holders.
use Rattle.phase_schedule.proofs.Words.{[], ◌++◌, ◌+◌, ◌-◌, ◌<◌, ◌||◌, ◌∙◌, ◌∷◌, ◌≡◌, ◌≤◌, ap, AreShown, arith, Bool, cases_lt, CellPlan, core, count, drains_on, drains_with}
use Rattle.phase_schedule.proofs.Words.{Event, false, Holders, inl, inr, is_locked_with, IsLocked, List, LockerKind, nat_lt, not, parked_readers, parked_writers, parks_to_read}
use Rattle.phase_schedule.proofs.Words.{parks_to_write, party_if, phase_at, read_guards, readers_with, refl, shares_read, shares_write, suc, sym, true, Wait, waits, write_holds}
use Rattle.phase_schedule.proofs.Words.{writers_with, zero, ℕ}
use Rattle.std.specs.List.{list_any}
use Rattle.phase_locker.specs.Rows.{Rows as Parking, claims, is_empty, shares}
use Rattle.waiting_rows.proofs.RowCounts.{shares_shown, claims_shown}

-- a list that ends so is not empty
not_empty : (ps : List ℕ) (p : ℕ) → is_empty (ps ++ p ∷ []) ≡ false
not_empty [] p = refl
not_empty (q ∷ qs) p = refl

joined : (ps : List ℕ) (b : Bool) (p : ℕ) → not (is_empty (ps ++ party_if b p)) ≡ b || not (is_empty ps)
joined ps true p = ap not (not_empty ps p)
joined [] false p = refl
joined (q ∷ qs) false p = refl

-- a list of parked parties is empty exactly where no call parks
readers_any : (c : ℕ) (ws : List Wait) → not (is_empty (parked_readers c ws)) ≡ list_any (parks_to_read c) ws
readers_any c [] = refl
readers_any c (w ∷ ws) = joined (parked_readers c ws) (parks_to_read c w) w.party ∙ ap (λ b. parks_to_read c w || b) (readers_any c ws)

writers_any : (c : ℕ) (ws : List Wait) → not (is_empty (parked_writers c ws)) ≡ list_any (parks_to_write c) ws
writers_any c [] = refl
writers_any c (w ∷ ws) = joined (parked_writers c ws) (parks_to_write c w) w.party ∙ ap (λ b. parks_to_write c w || b) (writers_any c ws)

-- a locker of which this is open, beside rows that show these calls, has the record of the cell's holders
module _ (cells : List CellPlan) (h : List Event) (c n : ℕ) (k : LockerKind) (x : Holders) (s : Parking) where
  pub record_is : AreShown n (waits cells h) s → IsLocked k x s c (read_guards c h) (write_holds c h) (phase_at cells c h) → x ≡ core cells c h
  record_is w l =
      λ i. record { phase = l.phase_is i; readers = readers_are i; locked = locked_is i; read_waiters = read_is i; write_waiters = write_is i }
    where
      ws : List Wait
      ws = waits cells h

      readers_are : x.readers ≡ readers_with c h ws
      readers_are =
          let shown : shares s c ≡ count (shares_read c) ws = shares_shown c ws s w.single w.shows in
          let open_is : x.readers - shares s c ≡ read_guards c h = l.reads_are in
          let few : shares s c ≤ x.readers = l.fits.shared in
          omega (arith, shown, open_is, few)

      read_is : x.read_waiters ≡ list_any (parks_to_read c) ws
      read_is = l.fits.read_flag ∙ ap (λ ps. not (is_empty ps)) (w.shows.readers c) ∙ readers_any c ws

      write_is : x.write_waiters ≡ list_any (parks_to_write c) ws
      write_is = l.fits.write_flag ∙ ap (λ ps. not (is_empty ps)) (w.shows.writers c) ∙ writers_any c ws

      claimed : claims s c ≡ count (shares_write c) ws + count (drains_on c) ws
      claimed = claims_shown c ws s w.single w.shows

      none_held : x.locked ≡ false → write_holds c h ≡ 0
      none_held e =
          elim (cases_lt 0 (write_holds c h)) [
            | inl lt ↦ absurd (let both : true ≡ false = sym (l.write_is lt).locked ∙ e in cc)
            | inr le ↦ omega (arith, le)
          ]

      -- locked: for an open hold or for a claim
      by : (b : Bool) → x.locked ≡ b → (n : ℕ) → claims s c ≡ n → b ≡ nat_lt 0 (writers_with c h ws) || nat_lt 0 (drains_with c ws)
      by true e zero none = let held : 0 < write_holds c h = l.write_was (record { locked = e; unclaimed = none }) in grind arith
      by true e (suc n) one = let shown : _ = claimed in grind arith
      by false e n is = let a : _ = l.fits.locked e in let b : _ = claimed in let d : _ = none_held e in grind arith

      locked_is : x.locked ≡ is_locked_with c h ws
      locked_is = by x.locked refl (claims s c) refl
