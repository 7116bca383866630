-- What is given as a guard is given back may be given.
use Rattle.phase_moves.proofs.Words.{◌≡◌, ◌≢◌, ◌∙◌, ℕ, ap, sym, subst, refl, arith, true, false, Some, slice_get, Phase, Holders, leave_read, leave_write, Given, LockerKind}
use Rattle.phase_moves.proofs.Words.{Parking, Fits, IsIdle, Hands, Downgrades, MayHand, MayShare, Place, cell_at, is_parking, Guard, numbered, IsListed, listed_hand}
use Rattle.phase_moves.proofs.Words.{reaches_given, shares_shown, claims_shown, CellRow, Rows, Standing, left_of_standing as left, reads_in, writes_in, Stands, seen_at}
use Rattle.phase_moves.proofs.Words.{IsCell, kind_at, stand_on, IsGift, MayGive, MayGiveDown, get_or, Section, IsInnermost}
use Rattle.phase_moves.proofs.Guards.{found_itself, count_same, count_less, reads_here, never_writes}
use Rattle.phase_moves.proofs.{Lockers.reading_alone, Leaving.read_open, Leaving.write_open, Leaving.no_reads, Leaving.no_writes, Innermost.cell_here}
use Rattle.phase_moves.proofs.Innermost.{write_open as run_open}

-- where parked calls are listed, calls park
pub parking : (k : LockerKind) (h : Holders) (s : Parking) (c : ℕ) (p : Place) (g : Given) → Fits k h s c → k ≡ kind_at p → IsListed c s g → g ≢ Given.Nobody → is_parking p ≡ true
parking k h s c p g fits e l ne = grind arith

pub idle_at : (c : ℕ) (h : Holders) (s : Parking) (g : Given) → MayHand c h s g → g ≢ Given.Nobody → IsIdle h
idle_at c h s g may ne = grind arith

module _ {L : Type 0} (held : L → Holders) (place : L → LockerKind) (hand : ℕ) (m : Standing) (v : Rows L) (x : Guard) (t : Stands held place hand m v) (found : numbered hand m.guards ≡ Some x) (row : CellRow L) (row_is : slice_get v.cells.items x.cell ≡ Some row) (g : Given) where
  there : numbered x.number m.guards ≡ Some x
  there = found_itself hand m.guards x found

  its : IsCell held place (seen_at x.cell m) v.parks x.cell row
  its = t.cell x.cell row row_is

  gift : g ≢ Given.Nobody → IsListed x.cell v.parks g → stand_on x.cell (left x Given.Nobody m) ≡ 0 → IsGift x.cell (left x Given.Nobody m) g
  gift ne listed free = record { parks = parking _ _ v.parks x.cell (cell_at m.plans x.cell).place g its.locked.fits its.placed listed ne; reach = reaches_given x.cell g m.waits v.parks t.waits.shows listed; free = free }

  free_write : (q : Phase) → x.writes ≡ true → IsIdle (leave_write q (held row.seq.locker)) → stand_on x.cell (left x Given.Nobody m) ≡ 0
  free_write q w idle =
      let reads = no_reads held place hand m v x t found row row_is w Given.Nobody in let writes = no_writes held place hand m v x t found row row_is w Given.Nobody in
      let readers = idle.readers in let most = its.locked.fits.shared in let opened = write_open held place hand m v x t found row row_is w in let unclaimed = opened.unclaimed in
      let shown = shares_shown x.cell m.waits v.parks t.waits.single t.waits.shows in let claimed = claims_shown x.cell m.waits v.parks t.waits.single t.waits.shows in
      omega (arith, reads, writes, readers, most, unclaimed, shown, claimed)

  pub gives_write : (q : Phase) → x.writes ≡ true → (h' : Holders) (s' : Parking) → Hands x.cell (leave_write q (held row.seq.locker)) v.parks g h' s' → MayGive x.cell (left x Given.Nobody m) g
  gives_write q w h' s' hands = by g refl where
    by : (d : Given) → g ≡ d → MayGive x.cell (left x Given.Nobody m) d
    by Given.Nobody e = tt
    by (Given.Writer r) e =
        let ne : g ≢ Given.Nobody = λ z. (let f : Given.Writer r ≡ Given.Nobody = sym e ∙ z in cc) in
        subst (IsGift x.cell (left x Given.Nobody m)) e (gift ne (listed_hand x.cell _ v.parks g hands.may) (free_write q w (idle_at x.cell _ v.parks g hands.may ne)))
    by Given.Readers e =
        let ne : g ≢ Given.Nobody = λ z. (let f : Given.Readers ≡ Given.Nobody = sym e ∙ z in cc) in
        subst (IsGift x.cell (left x Given.Nobody m)) e (gift ne (listed_hand x.cell _ v.parks g hands.may) (free_write q w (idle_at x.cell _ v.parks g hands.may ne)))

  pub gives_read : x.writes ≡ false → (h' : Holders) (s' : Parking) → Hands x.cell (leave_read (held row.seq.locker)) v.parks g h' s' → MayGive x.cell (left x Given.Nobody m) g
  gives_read r h' s' hands = grind (arith, gift, listed_hand, idle_at, its, count_less, there, reads_here, count_same, never_writes, read_open, reading_alone, shares_shown, claims_shown)

-- the same, at the cell that the code names
pub gives_read_at : {L : Type 0} (held : L → Holders) (place : L → LockerKind) (hand : ℕ) (m : Standing) (v : Rows L) (x : Guard) (t : Stands held place hand m v) (found : numbered hand m.guards ≡ Some x) (c : ℕ) → x.cell ≡ c → (row : CellRow L) → slice_get v.cells.items c ≡ Some row → (g : Given) → x.writes ≡ false
    → (h' : Holders) (s' : Parking) → Hands c (leave_read (held row.seq.locker)) v.parks g h' s' → MayGive x.cell (left x Given.Nobody m) g
gives_read_at held place hand m v x t found c at row row_is g r h' s' hands =
    gives_read held place hand m v x t found row (ap (λ d. slice_get v.cells.items d) at ∙ row_is) g r h' s' (subst (λ d. Hands d (leave_read (held row.seq.locker)) v.parks g h' s') (sym at) hands)

pub gives_write_at : {L : Type 0} (held : L → Holders) (place : L → LockerKind) (hand : ℕ) (m : Standing) (v : Rows L) (x : Guard) (t : Stands held place hand m v) (found : numbered hand m.guards ≡ Some x) (c : ℕ) → x.cell ≡ c → (row : CellRow L) → slice_get v.cells.items c ≡ Some row → (g : Given) (q : Phase) → x.writes ≡ true
    → (h' : Holders) (s' : Parking) → Hands c (leave_write q (held row.seq.locker)) v.parks g h' s' → MayGive x.cell (left x Given.Nobody m) g
gives_write_at held place hand m v x t found c at row row_is g q w h' s' hands =
    gives_write held place hand m v x t found row (ap (λ d. slice_get v.cells.items d) at ∙ row_is) g q w h' s' (subst (λ d. Hands d (leave_write q (held row.seq.locker)) v.parks g h' s') (sym at) hands)

-- at a downgrade
pub gives_down_at : {L : Type 0} (held : L → Holders) (place : L → LockerKind) (hand : ℕ) (m : Standing) (v : Rows L) (x : Guard) (t : Stands held place hand m v) (c : ℕ) → x.cell ≡ c → (row : CellRow L) → slice_get v.cells.items c ≡ Some row → (g : Given) (q : Phase)
    → (h' : Holders) (s' : Parking) → Downgrades c q (held row.seq.locker) v.parks g h' s' → MayGiveDown x.cell m g
gives_down_at held place hand m v x t c at row row_is g q h' s' down = subst (λ d. MayGiveDown d m g) (sym at) (by g down.may) where
  by : (d : Given) → MayShare c v.parks d → MayGiveDown c m d
  by Given.Nobody may = tt
  by (Given.Writer p) may = absurd may
  by Given.Readers may =
      let k = t.cell c row row_is in
      record { parks = parking _ _ v.parks c (cell_at m.plans c).place Given.Readers k.locked.fits k.placed may (λ e. (let f : Given.Readers ≡ Given.Nobody = e in cc)); reach = reaches_given c Given.Readers m.waits v.parks t.waits.shows may }

-- ---- what is given as a section ends may be given

module _ {L : Type 0} (held : L → Holders) (place : L → LockerKind) (m : Standing) (v : Rows L) (p c : ℕ) (s : Section) (is : IsInnermost held place m v p c s) (row : CellRow L) (row_is : row ≡ get_or v.cells.items c row) where
  here : IsCell held place (seen_at c m) v.parks c row
  here = cell_here held place m v p c s is row row_is

  -- nothing stands on the cell once its section is gone, and no guard reads or writes it
  module _ (n : Standing) (plans : n.plans ≡ m.plans) (waits : n.waits ≡ m.waits) (reads : reads_in c n ≡ 0) (writes : writes_in c n ≡ 0) (q : Phase) (g : Given) (h' : Holders) (s' : Parking) (hands : Hands c (leave_write q (held row.seq.locker)) v.parks g h' s') where
    free : g ≢ Given.Nobody → stand_on c n ≡ 0
    free ne =
        let idle = idle_at c (leave_write q (held row.seq.locker)) v.parks g hands.may ne in let readers = idle.readers in let most = here.locked.fits.shared in
        let unclaimed = (run_open held place m v p c s is row row_is).unclaimed in
        let shown = shares_shown c m.waits v.parks is.rests.stands.waits.single is.rests.stands.waits.shows in
        let claimed = claims_shown c m.waits v.parks is.rests.stands.waits.single is.rests.stands.waits.shows in
        rw waits (omega (arith, reads, writes, readers, most, unclaimed, shown, claimed))

    gift_closed : g ≢ Given.Nobody → IsGift c n g
    gift_closed ne = grind (arith, listed_hand, parking, here, reaches_given, free)

    pub gives_closed : MayGive c n g
    gives_closed = grind (arith, gift_closed)

  -- at a section that a reader goes on from
  pub gives_down : (q : Phase) (g : Given) (h' : Holders) (s' : Parking) → Downgrades c q (held row.seq.locker) v.parks g h' s' → MayGiveDown c m g
  gives_down q g h' s' down = by g down.may where
    by : (d : Given) → MayShare c v.parks d → MayGiveDown c m d
    by Given.Nobody may = tt
    by (Given.Writer r) may = absurd may
    by Given.Readers may =
        record {
          parks = parking _ _ v.parks c (cell_at m.plans c).place Given.Readers here.locked.fits here.placed may (λ e. (let f : Given.Readers ≡ Given.Nobody = e in cc));
          reach = reaches_given c Given.Readers m.waits v.parks is.rests.stands.waits.shows may;
        }
