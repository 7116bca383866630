-- How a call was judged that was not turned back: it keeps what it has, or gives it up, and is barred or admitted by the
-- record that this leaves.
use Rattle.phase_moves.proofs.Words.{◌≡◌, ◌<◌, ◌≤◌, ◌∙◌, ℕ, length, ap, sym, subst, refl, arith, Bool, true, false, inl, inr, ◌⊎◌, MatchBool, not, Option, Holders}
use Rattle.phase_moves.proofs.Words.{most_readers, Given, How, Who, Waiting, LockerKind, LockNature, Attempt, bars, got, Parking, IsSound, claims, row_of, free_row, freed}
use Rattle.phase_moves.proofs.Words.{left, is_drain_of_rows as is_drain, readers_of, shares, Fits, IsWriteOpen, flagged, open_reads, MayHand, rows_handed, Judged, Keeps}
use Rattle.phase_moves.proofs.Words.{GivesUp, MayWait, given_up, keeps, hands_fit, by_bool, freed_size, gives_up_freed, keeps_fit, write_has_no_reader, between_only}
use Rattle.phase_moves.proofs.Words.{given_up_reads, hands_reads, hands_writes, kept_open, kept_writes, left_writes, Ask, Begun, nature_of, wake_of, Begins, Resumes}
use Rattle.phase_moves.proofs.Words.{TriesLock, begun_by, begun_of, is_cyclic, Enters}
use Rattle.phase_moves.proofs.{Attempts.free_same, Attempts.got_to, Attempts.writes_begun, Lockers.handed_few, Lockers.hands_phase}

-- ---- how many read then

given_up_few : (w : Waiting) (h : Holders) → h.readers ≤ most_readers → (given_up w h).readers ≤ most_readers
given_up_few w h le = grind arith

module _ (k : LockerKind) (who : Who) (ask : Ask) (h : Holders) (s : Parking) where
  -- the lock that it wants
  abbrev pub wanted : LockNature
  wanted = nature_of ask h.phase

  -- what it begins where it is admitted
  abbrev pub begun_admitted : Begun
  begun_admitted = begun_of who ask h.phase (got (nature_of ask h.phase) h.phase)

  -- it keeps what it has
  pub record IsKept (b : Begun) (g : Given) : Type 0 where
    pub kept : keeps (row_of s who.party).waiting wanted h ≡ true
    pub quiet : g ≡ Given.Nobody
    pub begins : b ≡ begun_admitted

  -- it waits so
  pub record IsWaiting (fresh : Bool) (mid : Holders) (b : Begun) : Type 0 where
    pub way : How
    pub may : MayWait k fresh (wake_of ask.want) wanted mid way
    pub begins : b ≡ Begun.Wait way

  -- it is barred: it waits so, or does not wait
  abbrev pub IsBarred : Bool → Holders → Begun → Type 0
  IsBarred fresh mid b = MatchBool ask.fast (b ≡ Begun.Missed) (IsWaiting fresh mid b)

  -- it gives up what it has, and is judged by the record that this leaves
  pub record IsJudged (b : Begun) (g : Given) : Type 0 where
    pub dropped : keeps (row_of s who.party).waiting wanted h ≡ false
    pub mid : Holders
    pub rows : Parking
    pub rows_are : rows ≡ rows_handed who.cell g (freed who.party s)
    pub may : MayHand who.cell (given_up (row_of s who.party).waiting h) (freed who.party s) g
    pub fits : Fits k mid rows who.cell
    pub reads : open_reads mid rows who.cell ≡ open_reads h s who.cell
    pub writes : IsWriteOpen h s who.cell → IsWriteOpen mid rows who.cell
    pub only : IsWriteOpen mid rows who.cell → IsWriteOpen h s who.cell
    pub fresh : Bool
    pub judged : MatchBool (bars mid wanted) (IsBarred fresh mid b) (b ≡ begun_admitted)

  -- nothing stands beside the lock to write, where this was given
  pub record IsClear (g : Given) : Type 0 where
    pub shares_none : shares (rows_handed who.cell g (freed who.party s)) who.cell ≡ 0
    pub claims_none : claims (rows_handed who.cell g (freed who.party s)) who.cell ≡ 0
    pub reads_none : open_reads h s who.cell ≡ 0
    pub closed : IsWriteOpen h s who.cell → ⊥

  -- it has the lock to write: nobody reads then
  pub record IsApart (g : Given) (h' : Holders) : Type 0 where
    pub readers : h'.readers ≡ 0
    pub clear : IsClear g

  -- one of the two; and how many read then
  pub record IsMetBy (b : Begun) (g : Given) (h' : Holders) : Type 0 where
    pub how : IsKept b g ⊎ IsJudged b g
    pub few : h.readers ≤ most_readers → h'.readers ≤ most_readers
    pub apart : writes_begun b ≡ 1 → IsApart g h'

  -- the record is free
  record IsFree (mid : Holders) (h' : Holders) : Type 0 where
    locked : mid.locked ≡ false
    readers : mid.readers ≡ 0
    then_none : h'.readers ≡ 0

  -- what the judgement of a record begins
  record JudgedSo (fresh : Bool) (mid : Holders) (b : Begun) (h' : Holders) : Type 0 where
    judged : MatchBool (bars mid wanted) (IsBarred fresh mid b) (b ≡ begun_admitted)
    few : mid.readers ≤ most_readers → h'.readers ≤ most_readers
    free : writes_begun b ≡ 1 → IsFree mid h'

  judged_so : (fresh : Bool) (mid : Holders) (rows : Parking) (n : LockNature) (a : Attempt) (h' : Holders) (s' : Parking) → ask.fast ≡ false → n ≡ wanted → mid.phase ≡ h.phase → Judged k fresh who (wake_of ask.want) n mid rows a h' s' → JudgedSo fresh mid (begun_by who ask h.phase a) h'
  judged_so fresh mid rows n a h' s' slow ruled phase j = grind arith

  -- a call that does not wait
  tried_so : (r : Begun × Given) (h' : Holders) (s' : Parking) → ask.fast ≡ true → TriesLock who ask h s r h' s' → JudgedSo true h r.0 h'
  tried_so r h' s' fast a = grind arith

  -- where the record that was judged was free, nothing stands beside the lock to write
  apart_so : (g : Given) (mid h' : Holders) (rows : Parking) → rows ≡ rows_handed who.cell g (freed who.party s) → Fits k mid rows who.cell → open_reads mid rows who.cell ≡ open_reads h s who.cell → (IsWriteOpen h s who.cell → IsWriteOpen mid rows who.cell) → IsFree mid h' → IsApart g h'
  apart_so g mid h' rows are fits reads writes free = grind arith

  module _ (running : Option ℕ) (r : Begun × Given) (h' : Holders) (s' : Parking) (calm : is_cyclic ask.want who.party running ≡ false) (fits : Fits k h s who.cell) where
    -- a call of a party that does not wait
    first_met : row_of s who.party ≡ free_row → Begins k who ask running h s r h' s' → IsMetBy r.0 r.1 h'
    first_met free d = grind (arith, free_same, apart_so, tried_so, judged_so)

    module _ (cell : who.cell < length s.readers) (party : who.party < length s.rows) (sound : IsSound s) (sound_then : IsSound (freed who.party s)) (room : length (readers_of (freed who.party s) who.cell) ≤ most_readers) (here : (row_of s who.party).cell ≡ who.cell) (slow : ask.fast ≡ false) where
      abbrev v : Waiting
      v = (row_of s who.party).waiting

      row : row_of s who.party ≡ record { waiting = v; cell = who.cell }
      row = λ i. record { waiting = v; cell = here i }

      there : left v who.cell who.party s ≡ freed who.party s
      there = ap (λ c. left v c who.party s) (sym here)

      keeps_met : (n : LockNature) (a : Attempt) → n ≡ wanted → r.0 ≡ begun_by who ask h.phase a → keeps v n h ≡ true → Keeps who n h s (a, r.1) h' s' → IsMetBy r.0 r.1 h'
      keeps_met n a ruled answer e j =
          let is : r.0 ≡ begun_admitted = answer ∙ ap (begun_by who ask h.phase) j.answer ∙ ap (λ x. begun_of who ask h.phase (got x h.phase)) ruled in
          record {
            how = inl (record { kept = ap (λ x. keeps v x h) (sym ruled) ∙ e; quiet = j.given; begins = is });
            few = λ le. subst (λ i. i ≤ most_readers) (sym (ap (λ (x : Holders). x.readers) j.held)) le;
            apart = λ z. subst (λ y. IsApart y h') (sym j.given) (none ((got_to who ask h.phase wanted s refl).wrote (sym (ap writes_begun is) ∙ z)));
          } where
            none : wanted ≡ LockNature.Write → IsApart Given.Nobody h'
            none w =
                let keep : keeps v LockNature.Write h ≡ true = ap (λ x. keeps v x h) (sym (ruled ∙ w)) ∙ e in
                let fits_then = keeps_fit LockNature.Write k h s who.cell who.party party here fits keep in
                let opened : IsWriteOpen (flagged who.cell (freed who.party s) h) (freed who.party s) who.cell = subst (λ y. IsWriteOpen (flagged who.cell y h) y who.cell) there (kept_open v LockNature.Write k h s who.cell who.party party row fits keep) in
                let none : h.readers ≡ 0 = write_has_no_reader k (flagged who.cell (freed who.party s) h) (freed who.party s) who.cell fits_then opened in
                let most = fits_then.shared in
                record {
                  readers = ap (λ (x : Holders). x.readers) j.held ∙ none;
                  clear = record { shares_none = omega (arith, most, none); claims_none = opened.unclaimed; reads_none = omega (arith, none); closed = λ o. kept_writes v LockNature.Write k h s who.cell who.party party row fits keep o };
                }

      gives_met : (n : LockNature) (a : Attempt) → n ≡ wanted → r.0 ≡ begun_by who ask h.phase a → keeps v n h ≡ false → GivesUp k who (wake_of ask.want) n h s (a, r.1) h' s' → IsMetBy r.0 r.1 h'
      gives_met n a ruled answer e j =
          let size = freed_size who.party s in let inside : who.cell < length (freed who.party s).readers = omega (arith, size.1, cell) in
          let phase : j.between.phase ≡ h.phase = hands_phase who.cell (given_up v h) (freed who.party s) r.1 j.between j.rows j.hands ∙ given_phase v in
          let fits_then = hands_fit r.1 k (given_up v h) (freed who.party s) who.cell j.between j.rows inside sound_then (gives_up_freed k h s who.cell who.party cell sound.cells party here fits) j.hands in
          let reads_then = hands_reads r.1 who.cell (given_up v h) (freed who.party s) j.between j.rows inside sound_then j.hands ∙ subst (λ y. open_reads (given_up v h) y who.cell ≡ open_reads h s who.cell) there (given_up_reads v h s who.cell who.party party row) in
          let writes_then : IsWriteOpen h s who.cell → IsWriteOpen j.between j.rows who.cell = λ o. hands_writes r.1 who.cell (given_up v h) (freed who.party s) j.between j.rows j.hands (subst (λ y. IsWriteOpen (given_up v h) y who.cell) there (left_writes v k h s who.cell who.party party row fits o)) in
          let t = judged_so (not (is_drain v)) j.between j.rows n a h' s' slow ruled phase j.judged in
          subst (λ b. IsMetBy b r.1 h') (sym answer)
          (record {
            how = inr (record {
              dropped = ap (λ x. keeps v x h) (sym ruled) ∙ e;
              mid = j.between;
              rows = j.rows;
              rows_are = j.hands.rows;
              may = j.hands.may;
              fits = fits_then;
              reads = reads_then;
              writes = writes_then;
              only = between_only who h (given_up v h) s (freed who.party s) r.1 j.between j.rows cell party here refl refl sound_then j.hands;
              fresh = not (is_drain v);
              judged = t.judged;
            });
            few = λ le. t.few (subst (λ i. i ≤ most_readers) (sym (ap (λ (x : Holders). x.readers) j.hands.held)) (handed_few r.1 who.cell (given_up v h) (freed who.party s) j.hands.may (given_up_few v h le) room));
            apart = λ z. apart_so r.1 j.between h' j.rows j.hands.rows fits_then reads_then writes_then (t.free z);
          }) where
            given_phase : (w : Waiting) → (given_up w h).phase ≡ h.phase
            given_phase w = grind arith

      -- a call of a party that waits at the cell
      again_met : Resumes k who ask running h s r h' s' → IsMetBy r.0 r.1 h'
      again_met d = grind (arith, by_bool, keeps_met, gives_met)

    -- a call of a party that waits at the cell, or does not wait
    pub met_by : (waits : Bool) → (waits ≡ true → ask.fast ≡ false) → MatchBool waits ((row_of s who.party).cell ≡ who.cell) (row_of s who.party ≡ free_row) → who.cell < length s.readers → who.party < length s.rows → IsSound s → IsSound (freed who.party s) → length (readers_of (freed who.party s) who.cell) ≤ most_readers
        → Enters waits k who ask running h s r h' s' → IsMetBy r.0 r.1 h'
    met_by waits slow here cell party sound sound_then room d = grind (arith, again_met, first_met)
