-- What is given for the share or drain of a call that is taken away may be given, and beside a lock to write nothing is.
use Rattle.phase_moves.proofs.Words.{◌≡◌, ◌≢◌, ◌<◌, ◌+◌, ◌∙◌, ℕ, List, length, ap, sym, subst, refl, arith, true, false, None, Some, inl, inr, cases_lt, Option, Holders}
use Rattle.phase_moves.proofs.Words.{Given, Row, Who, LockerKind, Parking, row_of, freed, left, IsIdle, NobodyParked, open_reads, MayHand, rows_handed, given_up, Holds}
use Rattle.phase_moves.proofs.Words.{gives_up_freed, given_up_reads, left_writes, Ask, CellPlan, count, has_own, cell_at, is_parking, Wait, drains_on, wait_of, without_wait}
use Rattle.phase_moves.proofs.Words.{most_parties, IsListed, given_on, wait_row, waiting_of, gave_share, listed_hand, reaches_given, claims_shown, shares_shown, Taken, Target}
use Rattle.phase_moves.proofs.Words.{GivesFirst, GivesLast, IsReaching, keeps_in, readers_in, writers_in, Standing, reads_in, writes_in, AreShown, IsLocked, kind_at}
use Rattle.phase_moves.proofs.{Giving.idle_at, Judged.IsClear, Parking.shown_called, Parking.nobody_left, Parking.not_listed, Parking.own_or_not}

-- what gives nothing then may do so
pub gives_none : (p : ℕ) (t : Target) (m : Standing) (b : Taken) → GivesLast p t b Given.Nobody m
gives_none p t m b = grind arith

module _ (n : ℕ) (k : LockerKind) (h : Holders) (s : Parking) (m : Standing) (p : ℕ) (t : Target) (locked : IsLocked k h s t.cell (reads_in t.cell m) (writes_in t.cell m) (m.content t.cell).phase) (placed : k ≡ kind_at (cell_at m.plans t.cell).place) (shown : AreShown n m.waits s) (sizes : length s.writers ≡ length s.readers) (few : length s.rows < most_parties)
    (cell_in : t.cell < length s.readers) (party_in : p < length s.rows) (waited : (w : Wait) → wait_of p m.waits ≡ Some w → w.cell ≡ t.cell) where
  abbrev who : Who
  who = record { cell = t.cell; party = p }

  abbrev x : CellPlan
  x = cell_at m.plans t.cell

  abbrev others : List Wait
  others = without_wait p m.waits

  abbrev freed_p : Parking
  freed_p = freed p s

  pub shown_given : (g : Given) → IsListed t.cell freed_p g → AreShown n (given_on t.cell g others) (rows_handed t.cell g freed_p)
  shown_given g listed = shown_called n who m.waits s g shown sizes few cell_in party_in listed

  shown_freed : AreShown n others freed_p
  shown_freed = shown_given Given.Nobody tt

  -- ---- what is given

  nobody_freed : NobodyParked s t.cell → NobodyParked freed_p t.cell
  nobody_freed e = by (wait_of p m.waits) refl (shown.shows.row p) where
    by : (o : Option Wait) → wait_of p m.waits ≡ o → row_of s p ≡ wait_row o → NobodyParked freed_p t.cell
    by None f r = subst (λ (z : Row). NobodyParked (left z.waiting z.cell p s) t.cell) (sym r) e
    by (Some w) f r = subst (λ (z : Row). NobodyParked (left z.waiting z.cell p s) t.cell) (sym r) (subst (λ d. NobodyParked (left (waiting_of w.way w.woken) d p s) t.cell) (sym (waited w f)) (nobody_left (waiting_of w.way w.woken) t.cell p s cell_in sizes e))

  parks : (g : Given) → IsListed t.cell freed_p g → g ≢ Given.Nobody → is_parking x.place ≡ true
  parks g listed ne = grind (arith, not_listed, nobody_freed)

  pub reaching : (g : Given) → IsListed t.cell freed_p g → g ≢ Given.Nobody → IsReaching p t.cell g m
  reaching g listed ne = record { parks = parks g listed ne; reach = reaches_given t.cell g others freed_p shown_freed.shows listed }

  -- the share or the drain that is taken away was given on
  pub gives_first : (g : Given) → keeps_in p t.cell t.want m ≡ false → g ≢ Given.Nobody → MayHand t.cell (given_up (row_of s p).waiting h) freed_p g → GivesFirst p t g m
  gives_first g dropped ne may = by (wait_of p m.waits) refl (shown.shows.row p) where
    listed : IsListed t.cell freed_p g
    listed = listed_hand t.cell (given_up (row_of s p).waiting h) freed_p g may

    idle : IsIdle (given_up (row_of s p).waiting h)
    idle = idle_at t.cell (given_up (row_of s p).waiting h) freed_p g may ne

    not_idle : given_up (row_of s p).waiting h ≡ h → ⊥
    not_idle e = grind (arith, idle, not_listed, nobody_freed, listed)

    by : (o : Option Wait) → wait_of p m.waits ≡ o → row_of s p ≡ wait_row o → GivesFirst p t g m
    by None f r = absurd (not_idle (ap (λ (z : Row). given_up z.waiting h) r))
    by (Some w) f r =
        record {
          reaching = reaching g listed ne;
          own = ap has_own f ∙ elim (own_or_not w.way w.woken h) [ inl e ↦ e | inr e ↦ absurd (not_idle (ap (λ (z : Row). given_up z.waiting h) r ∙ e)) ];
          dropped = dropped;
          free = free;
        } where
          here : (row_of s p).cell ≡ t.cell
          here = ap (λ (z : Row). z.cell) r ∙ waited w f

          held_freed : Holds k (given_up (row_of s p).waiting h) freed_p t.cell
          held_freed = gives_up_freed k h s t.cell p cell_in sizes party_in here locked.fits

          row : row_of s p ≡ record { waiting = (row_of s p).waiting; cell = t.cell }
          row = λ i. record { waiting = (row_of s p).waiting; cell = here i }

          there : left (row_of s p).waiting t.cell p s ≡ freed_p
          there = ap (λ d. left (row_of s p).waiting d p s) (sym here)

          free : readers_in t.cell others m + writers_in t.cell others m + count (drains_on t.cell) others ≡ 0
          free =
              let none = idle.readers in let shares = held_freed.shared in let claims = held_freed.locked idle.locked in
              let shares_are = shares_shown t.cell others freed_p shown_freed.single shown_freed.shows in
              let claims_are = claims_shown t.cell others freed_p shown_freed.single shown_freed.shows in
              let reads = subst (λ z. open_reads (given_up (row_of s p).waiting h) z t.cell ≡ open_reads h s t.cell) there (given_up_reads (row_of s p).waiting h s t.cell p party_in row) ∙ locked.reads_are in
              let writes = closed in
              omega (arith, none, shares, claims, shares_are, claims_are, reads, writes) where
                closed : writes_in t.cell m ≡ 0
                closed = elim (cases_lt 0 (writes_in t.cell m)) [
                  | inr le ↦ omega (arith, le)
                  | inl lt ↦ (let open_freed = (left_writes (row_of s p).waiting k h s t.cell p party_in row locked.fits (locked.write_is lt)).locked in let unlocked = idle.locked in absurd (cc))
                ]

  -- a share that is given stands on the cell
  shared : (ask : Ask) (g : Given) → IsListed t.cell freed_p g → IsClear k who ask h s g → g ≢ Given.Nobody → ⊥
  shared ask g listed clear ne =
      let some = gave_share t.cell g others (reaching g listed ne).reach ne in let shown_then = shown_given g listed in
      let shares_are = shares_shown t.cell (given_on t.cell g others) (rows_handed t.cell g freed_p) shown_then.single shown_then.shows in
      let claims_are = claims_shown t.cell (given_on t.cell g others) (rows_handed t.cell g freed_p) shown_then.single shown_then.shows in let no_shares = clear.shares_none in
      let no_claims = clear.claims_none in omega (arith, some, shares_are, claims_are, no_shares, no_claims)

  -- beside a lock to write nothing was given
  pub clear_none : (ask : Ask) (g : Given) → IsListed t.cell freed_p g → IsClear k who ask h s g → g ≡ Given.Nobody
  clear_none ask Given.Nobody listed clear = refl
  clear_none ask (Given.Writer q) listed clear = absurd (shared ask (Given.Writer q) listed clear (λ z. (let f : Given.Writer q ≡ Given.Nobody = z in cc)))
  clear_none ask Given.Readers listed clear = absurd (shared ask Given.Readers listed clear (λ z. (let f : Given.Readers ≡ Given.Nobody = z in cc)))
