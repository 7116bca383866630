-- What stands open after one step more is a move of what stood open.
use Rattle.phase_moves.proofs.Words.{◌≡◌, ◌≢◌, ◌∙◌, ℕ, List, [], ◌∷◌, length, ap, sym, refl, arith, Bool, true, false, None, Some, ◌==◌, Option, Phase, Given, ReadTicket}
use Rattle.phase_moves.proofs.Words.{WriteTicket, Refusal, CellPlan, Act, Change, Ran, Put, RanIfAsked, registry, owner, ended_turns, finishing, Guard, guards, numbered}
use Rattle.phase_moves.proofs.Words.{guard_of, own, reader, reader_beside, Event, accepts, replay, content_after_back, Section, sections, innermost, Wait, waits, wait_of}
use Rattle.phase_moves.proofs.Words.{without_wait, waits_given_with, cell_concerned_with, found_passes, given_on, none_without, given_concerned, Lent, Loan, standing, event}
use Rattle.phase_moves.proofs.Words.{answer_of, changed, lending, lent_in, was_used, Standing, left_of_standing as left, downgraded, cloned, ended, finalized, run_closed}
use Rattle.phase_moves.proofs.Words.{writer_of, owned, put, round_looked, Look, answer_of_look, is_other, Finished, Answer}
use Rattle.phase_moves.proofs.Guards.{its_number}

owned_by : (p : ℕ) (x : Guard) (o : Option Guard) → own p o ≡ Some x → (o ≡ Some x) × (x.party ≡ p)
owned_by p x o e = grind arith

-- the write guard that a run leaves is given back at once
pub writer_left : (n : ℕ) (s : Section) (made : Option ℕ) (d : Given) (t : WriteTicket) (q : Phase) (m : Standing) → left (writer_of n s made) d (ended n s made Given.Nobody (Finished.Write t q) m) ≡ run_closed s made d m
writer_left n s made d t q m = grind arith

module _ (cells : List CellPlan) (h : List Event) (p : ℕ) where
  abbrev ws : List Wait
  ws = waits cells h

  abbrev n : ℕ
  n = length h

  -- a refused step changes nothing
  pub refused_stays : (a : Act) (r : Refusal) (d : Given) → standing cells (event p a (record { answer = Answer.Refused r; given = d }) ∷ h) ≡ standing cells h
  refused_stays a r d = refl

  -- what a step gave on the cell that it concerns
  gave : (a : Act) (d : Given) (c : ℕ) → cell_concerned_with cells ws h p a ≡ Some c → waits_given_with cells ws h (record { party = p; act = a }) d (without_wait p ws) ≡ given_on c d (without_wait p ws)
  gave a d c e = given_concerned cells ws h (record { party = p; act = a }) c d (without_wait p ws) e

  -- the same, where its party does not wait
  module _ (awake : wait_of p ws ≡ None) where
    given_awake : (a : Act) (d : Given) (c : ℕ) → cell_concerned_with cells ws h p a ≡ Some c → waits_given_with cells ws h (record { party = p; act = a }) d (without_wait p ws) ≡ given_on c d ws
    given_awake a d c e = gave a d c e ∙ ap (given_on c d) (none_without p ws awake)

    -- ---- a loan

    -- what is lent is given back at once
    pub lent_at_once : (c : ℕ) (l : Loan) (r : Lent) → accepts h ≡ (registry cells h).is_open → was_used r ≡ false → (l.runs ≡ false → answer_of r ≢ Answer.Failed) → standing cells (event p (lending c l) (record { answer = answer_of r; given = Given.Nobody }) ∷ h) ≡ lent_in c l r (standing cells h)
    lent_at_once c l r agrees used fine = by l.runs l.made l.left r used fine where
      published : (a : Act) → cell_concerned_with cells ws h p a ≡ Some c → (chs : Bool → List Change)
          → record { plans = cells; waits = waits_given_with cells ws h (record { party = p; act = a }) Given.Nobody (without_wait p ws); sections = sections h; guards = guards h; content = λ d. content_after_back cells d (Some (record { cell = c; changes = chs (accepts h) })) (replay cells d h); registry = registry cells h; owner = owner h; turns = ended_turns h }
          ≡ changed c (chs (registry cells h).is_open) (standing cells h)
      published a e chs =
          let given = given_awake a Given.Nobody c e in
          λ i. record { plans = cells; waits = given i; sections = sections h; guards = guards h; content = λ d. content_after_back cells d (Some (record { cell = c; changes = chs (agrees i) })) (replay cells d h); registry = registry cells h; owner = owner h; turns = ended_turns h }

      quiet : (a : Act) → cell_concerned_with cells ws h p a ≡ Some c → record (standing cells h) { waits = waits_given_with cells ws h (record { party = p; act = a }) Given.Nobody (without_wait p ws) } ≡ standing cells h
      quiet a e = let given = given_awake a Given.Nobody c e in λ i. record (standing cells h) { waits = given i }

      by : (b : Bool) (made : Option ℕ) (left : ℕ) (z : Lent) → was_used z ≡ false → (b ≡ false → answer_of z ≢ Answer.Failed)
          → standing cells (event p (lending c (record { runs = b; made = made; left = left })) (record { answer = answer_of z; given = Given.Nobody }) ∷ h) ≡ lent_in c (record { runs = b; made = made; left = left }) z (standing cells h)
      by b made left Lent.InUse used fine = absurd (cc)
      by true made left (Lent.Denied q) used fine = quiet (Act.GetMut c made left) refl
      by false made left (Lent.Denied q) used fine = quiet (Act.TryGetMut c left) refl
      by true made left Lent.Failed used fine = published (Act.GetMut c made left) refl (λ o. Ran o None ∷ [])
      by false made left Lent.Failed used fine = absurd (fine refl refl)
      by true made left (Lent.Found v) used fine = published (Act.GetMut c made left) refl (λ o. Put left ∷ RanIfAsked o made ∷ [])
      by false made left (Lent.Found v) used fine = published (Act.TryGetMut c left) refl (λ o. Put left ∷ [])

    -- ---- guards

    module _ (g : ℕ) (x : Guard) (mine : guard_of g p (guards h) ≡ Some x) where
      found : numbered g (guards h) ≡ Some x
      found = (owned_by p x (numbered g (guards h)) mine).0

      number : x.number ≡ g
      number = its_number g (guards h) x found

      pub release_left : (d : Given) → standing cells (event p (Act.Release g) (record { answer = Answer.Done; given = d }) ∷ h) ≡ left x d (standing cells h)
      release_left d = grind (arith, given_awake, found, number)

      pub downgrade_read : (d : Given) → standing cells (event p (Act.Downgrade g) (record { answer = Answer.ReadGuard; given = d }) ∷ h) ≡ downgraded (length h) x d (standing cells h)
      downgrade_read d = grind (arith, given_awake, found, owned_by, number)

      pub clone_beside : standing cells (event p (Act.Clone g) (record { answer = Answer.ReadGuard; given = Given.Nobody }) ∷ h) ≡ cloned (length h) x (standing cells h)
      clone_beside =
          let party = (owned_by p x (numbered g (guards h)) mine).1 in
          let guards_are = ap (λ o. reader_beside (length h) p o (guards h)) found ∙ (λ i. reader (length h) (sym party i) x.cell ∷ guards h) in
          λ i. record { plans = cells; waits = none_without p ws awake i; sections = sections h; guards = guards_are i; content = λ c. replay cells c h; registry = registry cells h; owner = owner h; turns = ended_turns h }

    -- ---- the ends of sections

    module _ (s : Section) (top : innermost p (sections h) ≡ Some s) where
      party : s.party ≡ p
      party = let e = found_passes (λ (x : Section). x.party == p) (sections h) s top in grind (arith, e)

      pub made_read : (v : ℕ) (d : Given) (t : ReadTicket) (q : Phase) → standing cells (event p (Act.Made v) (record { answer = Answer.ReadGuard; given = d }) ∷ h) ≡ ended (length h) s (Some v) d (Finished.Read t q) (standing cells h)
      made_read v d t q = grind (arith, given_awake, party)

      pub made_write : (v : ℕ) (t : WriteTicket) (q : Phase) → standing cells (event p (Act.Made v) (record { answer = Answer.WriteGuard; given = Given.Nobody }) ∷ h) ≡ ended (length h) s (Some v) Given.Nobody (Finished.Write t q) (standing cells h)
      made_write v t q = grind (arith, number, party, none_without)

      -- its section is given back at once: where the phase is told, and where the value is shown
      pub made_told : (v : ℕ) (d : Given) (q : Phase) → standing cells (event p (Act.Made v) (record { answer = Answer.Phase q; given = d }) ∷ h) ≡ run_closed s (Some v) d (standing cells h)
      made_told v d q = grind (arith, given_awake, party)

      pub made_shown : (v u : ℕ) (d : Given) → standing cells (event p (Act.Made v) (record { answer = Answer.Value u; given = d }) ∷ h) ≡ run_closed s (Some v) d (standing cells h)
      made_shown v u d = grind (arith, given_awake, party)

      pub made_failed : (d : Given) (q : Phase) → standing cells (event p Act.MadeFailed (record { answer = Answer.Failed; given = d }) ∷ h) ≡ ended (length h) s None d (Finished.Failed q) (standing cells h)
      made_failed d q = grind (arith, given_awake, party)

      pub final_ended : (fine : Bool) (left : Option ℕ) (d : Given) (q : Phase) → standing cells (event p (finishing fine left) (record { answer = Answer.Phase q; given = d }) ∷ h) ≡ finalized s fine left d (standing cells h)
      final_ended fine left d q = grind (arith, given_awake, party)

  -- ---- a step of a party that does not wait, which opens and gives back nothing

  module _ (awake : wait_of p ws ≡ None) where
    -- a look
    pub look_stays : (g v : ℕ) → standing cells (event p (Act.Look g) (record { answer = Answer.Value v; given = Given.Nobody }) ∷ h) ≡ standing cells h
    look_stays g v = λ i. record (standing cells h) { waits = none_without p ws awake i; owner = owner h }

    -- a clone that is barred
    pub clone_barred : (g : ℕ) → standing cells (event p (Act.Clone g) (record { answer = Answer.Borrowed; given = Given.Nobody }) ∷ h) ≡ standing cells h
    clone_barred g = λ i. record (standing cells h) { waits = none_without p ws awake i; owner = owner h }

    -- a value that is set
    pub set_puts : (g v : ℕ) → standing cells (event p (Act.Set g v) (record { answer = Answer.Done; given = Given.Nobody }) ∷ h) ≡ put g v (standing cells h)
    set_puts g v = λ i. record (put g v (standing cells h)) { waits = none_without p ws awake i; owner = owner h }

  -- ---- the exit, of a party that may own it

  module _ (free : is_other (owner h) p ≡ false) where
    -- a look for the cells that were registered since the last one
    pub exit_looks : wait_of p ws ≡ None → (o : Look) → standing cells (event p Act.Exit (record { answer = answer_of_look o; given = Given.Nobody }) ∷ h) ≡ round_looked (owned p (standing cells h))
    exit_looks awake o = grind (arith, none_without)
