-- A call that spins on leaves record and rows as a call does that leaves its row and is judged anew.
use Rattle.std.proofs.Common.{◌≡◌, ℕ, Bool, true, false, refl, ◌∙◌, sym, ap, not, ◌&&◌}
use Rattle.std.proofs.lemmas.List.{set-set, set-get_or}
use Rattle.std.specs.Prelude.{MatchBool}
use Rattle.phase_bits.specs.declared.holders.Holders.{Holders}
use Rattle.phase_locker.specs.declared.tickets.LockNature.{LockNature}
use Rattle.phase_locker.specs.declared.tickets.Attempt.TheVariants.{Wait}
use Rattle.phase_locker.specs.declared.ways.Given.TheVariants.{Nobody}
use Rattle.phase_locker.specs.declared.ways.How.TheVariants.{Spin}
use Rattle.phase_locker.specs.declared.ways.LockerKind.{LockerKind}
use Rattle.phase_locker.specs.declared.ways.Waiting.{Waiting}
use Rattle.phase_locker.specs.declared.ways.Waiting.TheVariants as way
use Rattle.phase_locker.specs.declared.ways.Who.{Who}
use Rattle.phase_locker.specs.Natures.{bars}
use Rattle.phase_locker.specs.Rows.{Rows, free_row, row_of, put, left, freed}
use Rattle.phase_locker.specs.Fits.{Fits, is_park, flagged}
use Rattle.phase_locker.specs.Attempts.{spins_on, keeps, given_up, Keeps, GivesUp}

-- what is so of a call that spins on
record Spinning (k : LockerKind) (v : Waiting) (n : LockNature) (h : Holders) : Type 0 where
  pub spins : v ≡ way.Spin
  pub unparked : is_park k ≡ false
  pub barred : bars h n ≡ true

both : (a b : Bool) → (not a && b) ≡ true → (a ≡ false) × (b ≡ true)
both false b e = (refl, e)
both true b e = absurd (cc)

spinning : (k : LockerKind) (v : Waiting) (n : LockNature) (h : Holders) → spins_on k v n h ≡ true → Spinning k v n h
spinning k way.Spin n h e = let x = both (is_park k) (bars h n) e in record { spins = refl; unparked = x.0; barred = x.1 }
spinning k way.Free n h e = absurd (cc)
spinning k way.ParkedRead n h e = absurd (cc)
spinning k way.ParkedWrite n h e = absurd (cc)
spinning k way.Drain n h e = absurd (cc)
spinning k way.ShareRead n h e = absurd (cc)
spinning k way.ShareWrite n h e = absurd (cc)

-- the row of a call that spins at this cell
spinning_row : (s : Rows) (c p : ℕ) → (row_of s p).waiting ≡ way.Spin → (row_of s p).cell ≡ c → row_of s p ≡ record { waiting = way.Spin; cell = c }
spinning_row s c p spins here = rw (← spins, ← here) refl

-- a party that spins leaves its row, and spins at the cell again
put_again : (s : Rows) (c p : ℕ) → row_of s p ≡ record { waiting = way.Spin; cell = c } → put way.Spin c p (left way.Spin c p s) ≡ s
put_again s c p row =
    let same = set-set s.rows p free_row (record { waiting = way.Spin; cell = c }) ∙ rw row at (set-get_or s.rows p free_row) in
    ap (λ rows. record s { rows = rows }) same

-- the record has the flags of the rows, also of the rows that it leaves
flags_fit : (k : LockerKind) (h : Holders) (s : Rows) (c : ℕ) → Fits k h s c → h ≡ flagged c s h
flags_fit k h s c fits = rw (← fits.read_flag, ← fits.write_flag) refl

pub spins_again : (k : LockerKind) (w : Who) (wake n : LockNature) (h : Holders) (s : Rows) → (row_of s w.party).cell ≡ w.cell → Fits k h s w.cell → spins_on k (row_of s w.party).waiting n h ≡ true →
    MatchBool (keeps (row_of s w.party).waiting n h) (Keeps w n h s (Wait Spin, Nobody) h s) (GivesUp k w wake n h s (Wait Spin, Nobody) h s)
spins_again k w wake n h s here fits on =
    let x = spinning k (row_of s w.party).waiting n h on in
    let row = spinning_row s w.cell w.party x.spins here in
    let same : freed w.party s ≡ left way.Spin w.cell w.party s = rw x.spins refl in
    let up : given_up (row_of s w.party).waiting h ≡ h = rw x.spins refl in
    rw x.spins (record {
      between = h;
      rows = freed w.party s;
      hands = record {
        may = tt;
        must = λ e f. rw same (fits.still x.unparked).0;
        rows = refl;
        held = rw (up, same) (flags_fit k h s w.cell fits);
      };
      judged = rw x.barred (record {
        how = Spin;
        may = x.unparked;
        answer = refl;
        rows = rw same (sym (put_again s w.cell w.party row));
        held = flags_fit k h s w.cell fits;
      });
    })
