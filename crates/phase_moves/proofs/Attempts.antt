-- What an attempt does to the record of its cell and to the rows, by what it began.
use Rattle.phase_moves.proofs.Words.{◌≡◌, ◌<◌, ◌∙◌, ℕ, length, ap, sym, subst, refl, arith, Bool, true, false, None, Some, inl, inr, ◌⊎◌, MatchBool, if◌then◌else◌, ◌&&◌, not}
use Rattle.phase_moves.proofs.Words.{set-get_or, Option, Phase, Holders, Given, Who, Waiting, LockerKind, LockNature, Attempt, bars, admitted, got, write_ticket, Parking}
use Rattle.phase_moves.proofs.Words.{row_of, free_row, freed, left, is_drain_of_rows as is_drain, Fits, IsWriteOpen, rows_handed, Judged, Keeps, GivesUp, rows_waiting}
use Rattle.phase_moves.proofs.Words.{given_up, keeps, kept_writes, left_writes, hands_writes, Ask, Sought as Want, Begun, run_sought as initializes, finalizes, asks_run}
use Rattle.phase_moves.proofs.Words.{wake_of, nature_of, nature_where, is_refused, unregistered, refused, staying, Registry, Begins, Resumes, TurnsBack, MakesAttempt}
use Rattle.phase_moves.proofs.Words.{MakesAnother, TriesLock, is_cyclic, section_by, begun_by, begun_tried, IsListed, listed_hand, Enters}
use Rattle.phase_moves.proofs.Lockers.{hands_phase}

-- the rows after what was begun
abbrev pub rows_begun : Begun → Who → Parking → Parking
rows_begun (Begun.Wait way) w s = rows_waiting way w s
rows_begun _ w s = s

-- how many write holds it opens
abbrev pub writes_begun : Begun → ℕ
writes_begun (Begun.Write t q) = 1
writes_begun (Begun.Run o) = 1
writes_begun (Begun.Final o) = 1
writes_begun _ = 0

-- the call is declined, on a cell with this registry or with none: it asks for a run, and no generator runs
abbrev pub declines : Ask → Option Registry → Phase → Bool
declines ask o p = asks_run ask p && is_refused ask.tol.leak o p

-- the flags that stay beside those of a run
abbrev pub stays_asked : Option Registry → Phase → Phase
stays_asked None p = unregistered
stays_asked (Some m) p = staying m.is_open p

-- the phase that a call tells, which is declined or not
abbrev pub phase_told : Bool → Phase → Phase
phase_told d p = if d then refused else p

-- the phase that is published then: a write publishes nothing yet
abbrev pub phase_left : Bool → Begun → Phase → Phase
phase_left d (Begun.Nothing q) p = phase_told d p
phase_left d (Begun.Read t q) p = phase_told d p
phase_left d _ p = p

-- it had the lock to write, if only at once
abbrev pub wrote : Bool → Begun → Bool
wrote d (Begun.Nothing q) = d
wrote d (Begun.Read t q) = d
wrote d (Begun.Write t q) = true
wrote d (Begun.Run o) = true
wrote d (Begun.Final o) = true
wrote d _ = false

-- it is turned away, and nothing changes: it is cyclic, or it is barred and does not wait
abbrev pub is_away : Begun → Bool
is_away Begun.Missed = true
is_away Begun.Cyclic = true
is_away _ = false

-- what it tells
abbrev pub Tells : Who → Ask → Option Registry → Phase → Begun → Type 0
Tells who ask o p (Begun.Wait way) = Unit {0}
Tells who ask o p Begun.Missed = ⊥
Tells who ask o p Begun.Cyclic = ⊥
Tells who ask o p (Begun.Nothing q) = q ≡ phase_told (declines ask o p) p
Tells who ask o p (Begun.Read t q) = q ≡ phase_told (declines ask o p) p
Tells who ask o p (Begun.Write t q) = q ≡ phase_told (declines ask o p) p
Tells who ask o p (Begun.Run s) = (s ≡ section_by who ask.want (stays_asked o p) write_ticket) × (asks_run ask p ≡ true)
Tells who ask o p (Begun.Final s) = (s ≡ section_by who ask.want p write_ticket) × (finalizes ask.want ≡ true)

-- what a call that was not turned away did
pub record IsBegun (who : Who) (ask : Ask) (o : Option Registry) (h : Holders) (s : Parking) (b : Begun) (g : Given) (h' : Holders) (s' : Parking) : Type 0 where
  pub phase : h'.phase ≡ phase_left (declines ask o h.phase) b h.phase
  pub listed : IsListed who.cell (freed who.party s) g
  pub rows : s' ≡ rows_begun b who (rows_handed who.cell g (freed who.party s))
  pub alone : wrote (declines ask o h.phase) b ≡ true → IsWriteOpen h s who.cell → ⊥
  pub told : Tells who ask o h.phase b

-- and one that was
pub record IsTurned (h : Holders) (s : Parking) (b : Begun) (g : Given) (h' : Holders) (s' : Parking) : Type 0 where
  pub away : is_away b ≡ true
  pub given : g ≡ Given.Nobody
  pub held : h' ≡ h
  pub rows : s' ≡ s

-- ---- a call that was judged, before it is settled whether its cell is registered

-- what it tells then
abbrev pub TellsFirst : Who → Ask → Phase → Begun → Type 0
TellsFirst who ask p (Begun.Wait way) = Unit {0}
TellsFirst who ask p Begun.Missed = ⊥
TellsFirst who ask p Begun.Cyclic = ⊥
TellsFirst who ask p (Begun.Nothing q) = (q ≡ p) × (asks_run ask p ≡ false)
TellsFirst who ask p (Begun.Read t q) = (q ≡ p) × (asks_run ask p ≡ false)
TellsFirst who ask p (Begun.Write t q) = (q ≡ p) × (asks_run ask p ≡ false)
TellsFirst who ask p (Begun.Run s) = (s ≡ section_by who ask.want unregistered write_ticket) × (asks_run ask p ≡ true)
TellsFirst who ask p (Begun.Final s) = (s ≡ section_by who ask.want p write_ticket) × (finalizes ask.want ≡ true)

-- what a call that was not turned away entered
pub record IsEntered (who : Who) (ask : Ask) (h : Holders) (s : Parking) (b : Begun) (g : Given) (h' : Holders) (s' : Parking) : Type 0 where
  pub phase : h'.phase ≡ h.phase
  pub listed : IsListed who.cell (freed who.party s) g
  pub rows : s' ≡ rows_begun b who (rows_handed who.cell g (freed who.party s))
  pub alone : writes_begun b ≡ 1 → IsWriteOpen h s who.cell → ⊥
  pub told : TellsFirst who ask h.phase b

-- where a call that asks for no run is not declined
pub calm : (ask : Ask) (o : Option Registry) (p : Phase) → asks_run ask p ≡ false → declines ask o p ≡ false
calm ask o p e = ap (λ b. b && is_refused ask.tol.leak o p) e

record JudgedTo (who : Who) (ask : Ask) (h : Holders) (s : Parking) (b : Begun) (h' : Holders) (s' : Parking) : Type 0 where
  pub phase : h'.phase ≡ h.phase
  pub rows : s' ≡ rows_begun b who s
  pub alone : writes_begun b ≡ 1 → h.locked ≡ false
  pub told : TellsFirst who ask h.phase b

admitted_phase : (n : LockNature) (h : Holders) → (admitted h n).phase ≡ h.phase
admitted_phase n h = grind arith

-- what was got begins this
pub record GotTo (who : Who) (ask : Ask) (p : Phase) (n : LockNature) (s : Parking) (b : Begun) : Type 0 where
  pub rows : s ≡ rows_begun b who s
  pub wrote : writes_begun b ≡ 1 → n ≡ LockNature.Write
  pub told : TellsFirst who ask p b

-- no run is asked by a call that wants no lock to write
pub run_writes : (w : Want) (due there : Bool) → (initializes w && due) ≡ true → nature_where w due there ≡ LockNature.Write
run_writes w due there e = grind arith

pub got_to : (who : Who) (ask : Ask) (p : Phase) (n : LockNature) (s : Parking) → n ≡ nature_of ask p → GotTo who ask p n s (begun_by who ask p (Attempt.Got (got n p)))
got_to who ask p n s e = grind arith

-- where the lock to write is not barred nothing is locked
pub unlocked : (h : Holders) (n : LockNature) → n ≡ LockNature.Write → bars h n ≡ false → h.locked ≡ false
unlocked h n e b = grind arith

judged_to : (k : LockerKind) (fresh : Bool) (who : Who) (wake n : LockNature) (h : Holders) (s : Parking) (a : Attempt) (h' : Holders) (s' : Parking) (ask : Ask) → n ≡ nature_of ask h.phase → Judged k fresh who wake n h s a h' s' → JudgedTo who ask h s (begun_by who ask h.phase a) h' s'
judged_to k fresh who wake n h s a h' s' ask ruled judged = grind arith

-- ---- the calls

-- the row of a party that does not wait is free already
pub free_same : (p : ℕ) (s : Parking) → row_of s p ≡ free_row → freed p s ≡ s
free_same p s e = grind (arith, set-get_or)

module _ (k : LockerKind) (who : Who) (ask : Ask) (running : Option ℕ) (h : Holders) (s : Parking) (r : Begun × Given) (h' : Holders) (s' : Parking) where
  turned : TurnsBack h s r h' s' → IsTurned h s r.0 r.1 h' s'
  turned t = record { away = ap (λ (x : Begun × Given). is_away x.0) t.answer; given = ap (λ (x : Begun × Given). x.1) t.answer; held = t.held; rows = t.rows }

  begins : row_of s who.party ≡ free_row → Begins k who ask running h s r h' s' → IsTurned h s r.0 r.1 h' s' ⊎ IsEntered who ask h s r.0 r.1 h' s'
  begins free d = by (is_cyclic ask.want who.party running) ask.fast d where
    -- a call that does not wait
    tried : TriesLock who ask h s r h' s' → IsTurned h s r.0 r.1 h' s' ⊎ IsEntered who ask h s r.0 r.1 h' s'
    tried a = to (bars h a.tries.nature) refl where
      to : (c : Bool) → bars h a.tries.nature ≡ c → IsTurned h s r.0 r.1 h' s' ⊎ IsEntered who ask h s r.0 r.1 h' s'
      to true e =
          inl (record {
            away = ap (λ (x : Begun × Given). is_away x.0) a.answer ∙ ap (λ x. is_away (begun_tried who ask h.phase x)) (a.tries.answer ∙ ap (λ c. if c then None else Some (got a.tries.nature h.phase)) e);
            given = ap (λ (x : Begun × Given). x.1) a.answer;
            held = a.tries.held ∙ ap (λ c. if c then h else admitted h a.tries.nature) e;
            rows = a.rows;
          })
      to false e =
          let t = got_to who ask h.phase a.tries.nature s a.tries.allowed in
          let is : r ≡ (begun_by who ask h.phase (Attempt.Got (got a.tries.nature h.phase)), Given.Nobody) = a.answer ∙ ap (λ x. (begun_tried who ask h.phase x, Given.Nobody)) (a.tries.answer ∙ ap (λ c. if c then None else Some (got a.tries.nature h.phase)) e) in
          inr (subst (λ (x : Begun × Given). IsEntered who ask h s x.0 x.1 h' s') (sym is)
          (grind (arith, admitted_phase, free_same, unlocked)))

    made : MakesAttempt k who ask h s r h' s' → IsEntered who ask h s r.0 r.1 h' s'
    made a =
        let j = judged_to k true who (wake_of ask.want) a.locks.nature h s a.attempt h' s' ask a.locks.allowed a.locks.judged in
        subst (λ b. IsEntered who ask h s b r.1 h' s') (sym a.answer)
        (grind (arith, free_same))

    by : (c f : Bool) → MatchBool c (TurnsBack h s r h' s') (MatchBool f (TriesLock who ask h s r h' s') (MakesAttempt k who ask h s r h' s')) → IsTurned h s r.0 r.1 h' s' ⊎ IsEntered who ask h s r.0 r.1 h' s'
    by c f d = grind (arith, turned, tried, made)

  resumes : (row_of s who.party).cell ≡ who.cell → who.party < length s.rows → Fits k h s who.cell → Resumes k who ask running h s r h' s' → IsTurned h s r.0 r.1 h' s' ⊎ IsEntered who ask h s r.0 r.1 h' s'
  resumes here inside fits d = by (is_cyclic ask.want who.party running) d where
    row : row_of s who.party ≡ record { waiting = (row_of s who.party).waiting; cell = who.cell }
    row = λ i. record { waiting = (row_of s who.party).waiting; cell = here i }

    given_phase : (w : Waiting) → (given_up w h).phase ≡ h.phase
    given_phase w = grind arith

    kept : (n : LockNature) (a : Attempt) → n ≡ nature_of ask h.phase → r.0 ≡ begun_by who ask h.phase a → keeps (row_of s who.party).waiting n h ≡ true → Keeps who n h s (a, r.1) h' s' → IsEntered who ask h s r.0 r.1 h' s'
    kept n a ruled answer e j =
        let t = got_to who ask h.phase n (freed who.party s) ruled in
        subst (λ b. IsEntered who ask h s b r.1 h' s') (sym (answer ∙ ap (begun_by who ask h.phase) j.answer))
        (subst (λ g. IsEntered who ask h s (begun_by who ask h.phase (Attempt.Got (got n h.phase))) g h' s') (sym j.given)
        (record {
          phase = ap (λ (x : Holders). x.phase) j.held;
          listed = tt;
          rows = j.rows ∙ t.rows;
          alone = λ z o. kept_writes (row_of s who.party).waiting n k h s who.cell who.party inside row fits e o;
          told = t.told;
        }))

    gave : (n : LockNature) (a : Attempt) → n ≡ nature_of ask h.phase → r.0 ≡ begun_by who ask h.phase a → GivesUp k who (wake_of ask.want) n h s (a, r.1) h' s' → IsEntered who ask h s r.0 r.1 h' s'
    gave n a ruled answer j =
        let phase : j.between.phase ≡ h.phase = hands_phase who.cell (given_up (row_of s who.party).waiting h) (freed who.party s) r.1 j.between j.rows j.hands ∙ given_phase (row_of s who.party).waiting in
        let t = judged_to k (not (is_drain (row_of s who.party).waiting)) who (wake_of ask.want) n j.between j.rows a h' s' ask (ruled ∙ ap (nature_of ask) (sym phase)) j.judged in
        subst (λ b. IsEntered who ask h s b r.1 h' s') (sym answer)
        (record {
          phase = t.phase ∙ phase;
          listed = listed_hand who.cell (given_up (row_of s who.party).waiting h) (freed who.party s) r.1 j.hands.may;
          rows = subst (λ p. s' ≡ rows_begun (begun_by who ask p a) who j.rows) phase t.rows ∙ ap (rows_begun (begun_by who ask h.phase a) who) j.hands.rows;
          alone = λ z o. (let l = t.alone (subst (λ p. writes_begun (begun_by who ask p a) ≡ 1) (sym phase) z) in
              let m = (hands_writes r.1 who.cell (given_up (row_of s who.party).waiting h) (freed who.party s) j.between j.rows j.hands (subst (λ c. IsWriteOpen (given_up (row_of s who.party).waiting h) (left (row_of s who.party).waiting c who.party s) who.cell) (sym here) (left_writes (row_of s who.party).waiting k h s who.cell who.party inside row fits o))).locked in cc);
          told = subst (λ p. TellsFirst who ask p (begun_by who ask p a)) phase t.told;
        })

    by : (c : Bool) → MatchBool c (TurnsBack h s r h' s') (MakesAnother k who ask h s r h' s') → IsTurned h s r.0 r.1 h' s' ⊎ IsEntered who ask h s r.0 r.1 h' s'
    by true d = inl (turned d)
    by false d = inr (either (keeps (row_of s who.party).waiting d.again.nature h) refl d.again.steps) where
      either : (b : Bool) → keeps (row_of s who.party).waiting d.again.nature h ≡ b → MatchBool b (Keeps who d.again.nature h s (d.attempt, r.1) h' s') (GivesUp k who (wake_of ask.want) d.again.nature h s (d.attempt, r.1) h' s') → IsEntered who ask h s r.0 r.1 h' s'
      either true e j = kept d.again.nature d.attempt d.again.allowed d.answer e j
      either false e j = gave d.again.nature d.attempt d.again.allowed d.answer j

  -- a call of a party that waits at the cell, or does not wait
  pub entered : (waits : Bool) → MatchBool waits ((row_of s who.party).cell ≡ who.cell) (row_of s who.party ≡ free_row) → who.party < length s.rows → Fits k h s who.cell → Enters waits k who ask running h s r h' s' → IsTurned h s r.0 r.1 h' s' ⊎ IsEntered who ask h s r.0 r.1 h' s'
  entered waits row inside fits d = grind (arith, resumes, begins)
