-- What a call begins that was not turned back, once it is settled whether its cell is registered.
use Rattle.phase_moves.proofs.Words.{◌≡◌, ◌<◌, ◌≤◌, ◌+◌, ℕ, length, sym, subst, refl, arith, Bool, true, false, None, Some, inl, inr, ◌⊎◌, MatchBool, if◌then◌else◌, Option}
use Rattle.phase_moves.proofs.Words.{Phase, Holders, most_readers, Registry, Given, Who, LockerKind, read_ticket, write_ticket, Parking, IsSound, row_of, free_row, freed}
use Rattle.phase_moves.proofs.Words.{readers_of, Fits, MayShare, Ask, Sought as Want, SeqSection, Begun, is_cyclic, section_by, is_run, refused, staying, Generates}
use Rattle.phase_moves.proofs.Words.{HasSectionAtOnce, Settles, Stays, is_refused, CallOf as Calls, Enters, IsListed}
use Rattle.phase_moves.proofs.Attempts.{IsEntered, IsTurned, entered, stays_asked, writes_begun}
use Rattle.phase_moves.proofs.Judged.{IsClear, IsJudged, IsKept, IsMetBy, met_by}

-- what is begun with the lock to write where no generator runs. The other wants ask for no run
abbrev pub begun_declined : Want → Begun
begun_declined Want.Init = Begun.Nothing refused
begun_declined Want.Read = Begun.Read read_ticket refused
begun_declined Want.Write = Begun.Write write_ticket refused
begun_declined _ = Begun.Missed

-- what a run becomes on a cell with this registry, or with none
abbrev pub run_settled : Ask → Option Registry → Phase → SeqSection → Begun
run_settled ask o p x = if is_refused ask.tol.leak o p then begun_declined ask.want else Begun.Run (section_by x.who x.want (stays_asked o p) x.ticket)

abbrev pub begun_settled : Ask → Option Registry → Phase → Begun → Begun
begun_settled ask o p (Begun.Run x) = run_settled ask o p x
begun_settled ask o p b = b

module _ (k : LockerKind) (who : Who) (ask : Ask) (o : Option Registry) (h : Holders) (s : Parking) where
  -- what may be given as the section of a call is given back at once: a call for no lock gives its lock back, and a read
  -- has it made a read lock
  abbrev pub MayDecline : Want → Given → Type 0
  MayDecline Want.Init g = IsListed who.cell (freed who.party s) g
  MayDecline Want.Read g = MayShare who.cell (freed who.party s) g
  MayDecline _ g = ⊥

  -- a call that is declined, beside whose lock nothing stood, and what is given then
  pub record IsDeclined (entered : Begun) (first g : Given) : Type 0 where
    pub quiet : first ≡ Given.Nobody
    pub ran : is_run entered ≡ true
    pub refuses : is_refused ask.tol.leak o h.phase ≡ true
    pub may : MayDecline ask.want g
    pub clear : IsClear k who ask h s Given.Nobody

  -- what was entered, what that gave, and what it became
  pub record IsSettled (b : Begun) (g : Given) (h' : Holders) : Type 0 where
    pub entered : Begun
    pub first : Given
    pub how : IsKept k who ask h s entered first ⊎ IsJudged k who ask h s entered first
    pub begins : b ≡ begun_settled ask o h.phase entered
    pub gave : (g ≡ first) ⊎ IsDeclined entered first g
    pub few : h.readers ≤ most_readers → h'.readers ≤ most_readers
    pub alone : writes_begun b ≡ 1 → IsClear k who ask h s g

  -- an answer that begins no run is as it was entered
  as_entered : (b : Begun) (g : Given) (h' : Holders) → is_run b ≡ false → IsMetBy k who ask h s b g h' → IsSettled b g h'
  as_entered b g h' e d = grind arith

  module _ (room : 1 + length (readers_of (freed who.party s) who.cell) ≤ most_readers) where
    still : (b : Begun) (g : Given) (h1 : Holders) (s1 : Parking) (r : Begun × Given) (h' : Holders) (s' : Parking) → is_run b ≡ false → IsMetBy k who ask h s b g h1 → Stays (b, g) h1 s1 r h' s' → IsSettled r.0 r.1 h'
    still b g h1 s1 r h' s' e d st = subst (λ (q : Begun × Given). IsSettled q.0 q.1 h') (sym st.same) (subst (λ z. IsSettled b g z) (sym st.held) (as_entered b g h1 e d))

    runs_or_not : (m : Registry) → o ≡ Some m → (x : SeqSection) (h1 : Holders) (s1 : Parking) (r : Begun × Given) (h' : Holders) (s' : Parking) → IsMetBy k who ask h s (Begun.Run x) Given.Nobody h1 → IsEntered who ask h s (Begun.Run x) Given.Nobody h1 s1
        → (c : Bool) → is_refused ask.tol.leak (Some m) h.phase ≡ c → MatchBool c (HasSectionAtOnce x h1 s1 r h' s') (Generates x (staying m.is_open h.phase) h1 s1 r h' s') → IsSettled r.0 r.1 h'
    runs_or_not m q x h1 s1 r h' s' d e c f j = grind arith

    settled : (m : Registry) → o ≡ Some m → (b : Begun) (g : Given) (h1 : Holders) (s1 : Parking) (r : Begun × Given) (h' : Holders) (s' : Parking) → IsMetBy k who ask h s b g h1 → IsTurned h s b g h1 s1 ⊎ IsEntered who ask h s b g h1 s1 → Settles ask.tol.leak m h.phase (b, g) h1 s1 r h' s' → IsSettled r.0 r.1 h'
    settled m q (Begun.Run x) g h1 s1 r h' s' d (inl t) st = absurd (let e = t.away in cc)
    settled m q (Begun.Run x) g h1 s1 r h' s' d (inr e) st = runs_or_not m q x h1 s1 r h' s' (subst (λ y. IsMetBy k who ask h s (Begun.Run x) y h1) st.0 d) (subst (λ y. IsEntered who ask h s (Begun.Run x) y h1 s1) st.0 e) (is_refused ask.tol.leak (Some m) h.phase) refl st.1
    settled m q b g h1 s1 r h' s' d e st = still b g h1 s1 r h' s' refl d st

    -- on a cell without a registry
    unsettled : o ≡ None → (b : Begun) (g : Given) (h1 : Holders) (s1 : Parking) → IsMetBy k who ask h s b g h1 → IsTurned h s b g h1 s1 ⊎ IsEntered who ask h s b g h1 s1 → IsSettled b g h1
    unsettled q b g h1 s1 d e = grind arith

-- a call of a party that waits at the cell, or does not wait
module _ (k : LockerKind) (who : Who) (ask : Ask) (h : Holders) (s : Parking) (running : Option ℕ) (r : Begun × Given) (h' : Holders) (s' : Parking) (calm : is_cyclic ask.want who.party running ≡ false) (fits : Fits k h s who.cell)
    (waits : Bool) (slow : waits ≡ true → ask.fast ≡ false) (row : MatchBool waits ((row_of s who.party).cell ≡ who.cell) (row_of s who.party ≡ free_row)) (cell : who.cell < length s.readers) (party : who.party < length s.rows) (sound : IsSound s) (sound_then : IsSound (freed who.party s)) (room : 1 + length (readers_of (freed who.party s) who.cell) ≤ most_readers) where
  met_entered : (b : Begun) (g : Given) (h1 : Holders) (s1 : Parking) → Enters waits k who ask running h s (b, g) h1 s1 → IsMetBy k who ask h s b g h1
  met_entered b g h1 s1 d = met_by k who ask h s running (b, g) h1 s1 calm fits waits slow row cell party sound sound_then (omega (arith, room)) d

  as_was : (b : Begun) (g : Given) (h1 : Holders) (s1 : Parking) → Enters waits k who ask running h s (b, g) h1 s1 → IsTurned h s b g h1 s1 ⊎ IsEntered who ask h s b g h1 s1
  as_was b g h1 s1 d = entered k who ask running h s (b, g) h1 s1 waits row party fits d

  pub call_settled : (o : Option Registry) → Calls waits o k who ask running h s r h' s' → IsSettled k who ask o h s r.0 r.1 h'
  call_settled None d = unsettled k who ask None h s room refl r.0 r.1 h' s' (met_entered r.0 r.1 h' s' d) (as_was r.0 r.1 h' s' d)
  call_settled (Some m) d = settled k who ask (Some m) h s room m refl d.entered.0 d.entered.1 d.held d.rows r h' s' (met_entered d.entered.0 d.entered.1 d.held d.rows d.enters) (as_was d.entered.0 d.entered.1 d.held d.rows d.enters) d.settles
