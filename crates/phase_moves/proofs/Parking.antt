-- The rows show who waits after a call; what a call that waited gives up.
use Rattle.phase_moves.proofs.Words.{◌≡◌, ◌<◌, ◌∙◌, ℕ, List, [], ◌∷◌, length, set, sym, subst, refl, arith, Some, length-set, Given, How, Who, Waiting, Row, Parking, row_of}
use Rattle.phase_moves.proofs.Words.{freed, left, rows_handed, rows_waiting, freed_size, Want, Wait, without_wait, with_wait, most_parties, wait_removed, given_on, IsListed}
use Rattle.phase_moves.proofs.Words.{shows_on, single_on, within_on, none_on, within_without, within_with, shows_freed, shows_waiting_at, single_without, single_with}
use Rattle.phase_moves.proofs.Words.{sound_of, AreShown}
use Rattle.phase_moves.proofs.Words.{◌≢◌, Bool, true, false, ◌||◌, ◌⊎◌, Phase, Holders, LockNature, got, NobodyParked, given_up, still_empty, Ask, Begun, asks_run, begun_of, is_run}
use Rattle.phase_moves.proofs.Words.{is_drain, waiting_of}
use Rattle.phase_locker.specs.Rows.{shared}
use Rattle.phase_moves.proofs.Lockers.{handed_writers}

left_writers : (v : Waiting) (c p : ℕ) (s : Parking) → length (left v c p s).writers ≡ length s.writers
left_writers Waiting.ParkedWrite c p s = length-set s.writers c _
left_writers _ c p s = refl

pub freed_writers : (p : ℕ) (s : Parking) → length (freed p s).writers ≡ length s.writers
freed_writers p s = left_writers (row_of s p).waiting (row_of s p).cell p s

shared_length : (c : ℕ) (ps : List ℕ) (rows : List Row) → length (shared c ps rows) ≡ length rows
unfolding shared
shared_length c [] rows = refl
shared_length c (p ∷ ps) rows = shared_length c ps (set rows p _) ∙ length-set rows p _

handed_rows : (g : Given) (c : ℕ) (s : Parking) → length (rows_handed c g s).rows ≡ length s.rows
handed_rows Given.Nobody c s = refl
handed_rows (Given.Writer q) c s = length-set s.rows q _
handed_rows Given.Readers c s = shared_length c _ s.rows

handed_readers : (g : Given) (c : ℕ) (s : Parking) → length (rows_handed c g s).readers ≡ length s.readers
handed_readers Given.Readers c s = length-set s.readers c _
handed_readers _ c s = refl

pub waiting_writers : (way : How) (w : Who) (s : Parking) → length (rows_waiting way w s).writers ≡ length s.writers
waiting_writers How.ParkedWrite w s = length-set s.writers w.cell _
waiting_writers _ w s = refl

module _ (n : ℕ) (who : Who) (ws : List Wait) (s : Parking) (g : Given) (shown : AreShown n ws s) (sizes : length s.writers ≡ length s.readers) (few : length s.rows < most_parties) (cell : who.cell < length s.readers) (party : who.party < length s.rows) (listed : IsListed who.cell (freed who.party s) g) where
  -- the call waits no longer, and what it had was given on
  pub shown_called : AreShown n (given_on who.cell g (without_wait who.party ws)) (rows_handed who.cell g (freed who.party s))
  shown_called =
      let size = freed_size who.party s in let more = freed_writers who.party s in
      let free = shows_freed who.party ws s (sound_of ws s shown.single shown.shows sizes few) shown.shows in let alone = single_without who.party ws shown.single in
      record {
        shows = shows_on who.cell g (without_wait who.party ws) (freed who.party s) (omega (arith, size.1, cell)) (sound_of (without_wait who.party ws) (freed who.party s) alone free (more ∙ sizes ∙ sym size.1) (subst (λ n. n < most_parties) (sym size.0) few)) free listed;
        single = single_on who.cell g (without_wait who.party ws) alone;
        within = within_on n who.cell g (without_wait who.party ws) (within_without n who.party ws shown.within);
      }

  -- it waits anew
  pub shown_waiting : who.cell < n → (way : How) (want : Want) → AreShown n (with_wait who.party way (Some (record { cell = who.cell; want = want })) (given_on who.cell g (without_wait who.party ws))) (rows_waiting way who (rows_handed who.cell g (freed who.party s)))
  shown_waiting inside way want =
      let size = freed_size who.party s in let more = freed_writers who.party s in let rows = handed_rows g who.cell (freed who.party s) in
      let readers = handed_readers g who.cell (freed who.party s) in let writers = handed_writers g who.cell (freed who.party s) in
      record {
        shows = shows_waiting_at who way (record { cell = who.cell; want = want }) _ (rows_handed who.cell g (freed who.party s)) refl shown_called.shows (omega (arith, rows, size.0, party)) (omega (arith, readers, size.1, cell)) (omega (arith, writers, more, sizes, cell));
        single = single_with who.party way (Some (record { cell = who.cell; want = want })) _ (none_on who.party who.cell g _ (wait_removed who.party ws)) shown_called.single;
        within = within_with n who.party way (record { cell = who.cell; want = want }) _ inside shown_called.within;
      }

-- ---- what a call that waited gives up, and what was run of what was begun

-- ---- what is given up

-- a party that leaves its list leaves empty lists empty
pub nobody_left : (v : Waiting) (c p : ℕ) (s : Parking) → c < length s.readers → length s.writers ≡ length s.readers → NobodyParked s c → NobodyParked (left v c p s) c
nobody_left v c p s inside same e = grind (arith, still_empty)

pub not_listed : (c : ℕ) (s : Parking) (g : Given) → NobodyParked s c → IsListed c s g → g ≢ Given.Nobody → ⊥
not_listed c s g e l ne = grind arith

-- what has no share and no drain gives nothing up
pub own_or_not : (way : How) (woken : Bool) (h : Holders) → ((woken || is_drain way) ≡ true) ⊎ (given_up (waiting_of way woken) h ≡ h)
own_or_not way woken h = grind arith

-- the way that it waits
abbrev pub waits_by : Begun → Bool
waits_by (Begun.Wait way) = is_drain way
waits_by _ = false

-- what is run was asked
pub ran_asked : (who : Who) (ask : Ask) (p : Phase) (n : LockNature) → is_run (begun_of who ask p (got n p)) ≡ true → asks_run ask p ≡ true
ran_asked who ask p n e = grind arith
