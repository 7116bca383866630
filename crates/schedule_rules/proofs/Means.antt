-- What the answer of a legal line means.
use Rattle.schedule_rules.proofs.Words.{ℕ, arith, List, ◌≡◌, Bool, true, refl, Some, false, ◌∷◌, [], ◌∙◌, sym, ap, subst, ◌⊎◌, inl, inr, ◌≢◌, not, if◌then◌else◌, Option, has}
use Rattle.schedule_rules.proofs.Words.{initialized, phase_of, Phase, Given, shall_init, Tolerance, Call, Answer, Line, CellPlan, Act, Step, cell_at, tolerance_at, phase_finalized}
use Rattle.schedule_rules.proofs.Words.{Asked, is_declined, content_asked, deed_visited, Event, accepts, sections, Section, runs, guards, replay, phase_at, Back, back_of_step}
use Rattle.schedule_rules.proofs.Words.{back_by, finishing, cell_concerned, IsLegal, IsLegalLine, lends_at, runs_to_lend, IsWithoutEffect, IsTurnedAway, KeepsValues, TurnsWhere}
use Rattle.schedule_rules.proofs.Cases.{Visiting, IsCalling, Calling, Turning, Asking, Reach, Finalizing, Case, Resting}
use Rattle.schedule_rules.proofs.Steps.{of_legal}
use Rattle.schedule_rules.proofs.Facts.{same_number}
use Rattle.schedule_rules.proofs.Found.{found_passes, each_found}
use Rattle.schedule_rules.proofs.Leaves.{back_here, asked_value}
use Rattle.schedule_rules.proofs.Grows.{Needs, IsStanding, sound}

module _ (cells : List CellPlan) (h : List Event) (p : ℕ) where
  -- the call begins a run
  pub record Began (a : Act) : Type 0 where
    pub cell : ℕ
    pub asked : Call
    pub calls : Calling cells h p a cell asked
    pub asks : Asking cells h p cell asked true

  -- the call may not access the value: it was declined and its cell is not registered, or it asks for no run
  pub record Away (a : Act) (q : Phase) : Type 0 where
    pub cell : ℕ
    pub asked : Call
    pub calls : Calling cells h p a cell asked
    pub reason : Visiting cells h p cell asked q (Reach cells h p cell false × (q ≡ phase_of (phase_at cells cell h)))

  -- the act is to lend the value of the cell as it is, which may not be accessed
  pub record Unlent (a : Act) (q : Phase) : Type 0 where
    pub cell : ℕ
    pub lends : lends_at cell a ≡ true
    pub unasked : runs_to_lend cells h a ≡ false
    pub lacks : Reach cells h p cell false
    pub shown : q ≡ phase_of (phase_at cells cell h)

  -- the turn of the cell, whose value is there or not
  pub record AtTurn (a : Act) (c : ℕ) (ready : Bool) : Type 0 where
    pub turns : Turning cells h p a c
    pub value : has (phase_at cells c h) initialized ≡ ready

  -- a finalizer ends
  pub record Finished (a : Act) (q : Phase) : Type 0 where
    pub fine : Bool
    pub left : Option ℕ
    pub acts : a ≡ finishing fine left
    pub section : Section
    pub ends : Finalizing cells h p section fine left
    pub shown : q ≡ phase_of (phase_finalized (phase_at cells section.cell h) fine)

  -- the act ends no finalizer
  abbrev pub EndsNone : Act → Type 0
  EndsNone a = (fine : Bool) (left : Option ℕ) → a ≡ finishing fine left → ⊥

  call_ends_none : (a : Act) → IsCalling a → EndsNone a
  call_ends_none a t true left e = subst IsCalling e t
  call_ends_none a t false left e = subst IsCalling e t

  made_ends_none : (v : ℕ) → EndsNone (Act.Made v)
  made_ends_none v true left e = cc
  made_ends_none v false left e = cc

  -- what is known of the act by these answers
  abbrev pub Means : Act → Answer → Type 0
  Means a Answer.Running = Began a
  Means a (Answer.Access q) = Away a q ⊎ Unlent a q
  Means a (Answer.Finalizing c) = AtTurn a c true
  Means a (Answer.Skipped c) = AtTurn a c false
  Means a (Answer.Phase q) = Finished a q ⊎ EndsNone a
  Means a _ = Unit {0}

  each : (a : Act) (r : Answer) → Case cells h p a r → Means a r
  each _ _ (Case.running a c k t q) = record { cell = c; asked = k; calls = t; asks = q }
  each _ _ (Case.told a c k q t v) = inr (call_ends_none a t.acts)
  each _ _ (Case.denied a c k q t v) = inl (record { cell = c; asked = k; calls = t; reason = v })
  each _ _ (Case.skipped a c t q) = record { turns = t; value = q }
  each _ _ (Case.finalizing a c t q u) = record { turns = t; value = q }
  each _ _ (Case.made_told v t k q g) = inr (made_ends_none v)
  each _ _ (Case.finished fine left t g) = inl (record { fine = fine; left = left; acts = refl; section = t; ends = g; shown = refl })
  each _ _ (Case.lent_denied c made left u e f) = inr (record { cell = c; lends = same_number c c refl; unasked = e; lacks = f; shown = refl })
  each _ _ (Case.unlent c left u f) = inr (record { cell = c; lends = same_number c c refl; unasked = refl; lacks = f; shown = refl })
  each _ _ _ = tt

pub means : (cells : List CellPlan) (h : List Event) (s : Step) (l : Line) → IsLegalLine cells h s l → Means cells h s.party s.act l.answer
means cells h s l k = of_legal cells h s l k (Means cells h s.party) (λ a r. tt) (λ a r k n. each cells h s.party a r k)

module _ (cells : List CellPlan) (h : List Event) where
  turns : (s : Step) (c : ℕ) (ready : Bool) → AtTurn cells h s.party s.act c ready → TurnsWhere cells h s c ready
  turns s c ready m = record { tried = m.turns.tried; value = m.value }

  -- a finalizer runs where there is a value
  pub finalizes-value : (s : Step) (l : Line) (c : ℕ) → IsLegalLine cells h s l → l.answer ≡ Answer.Finalizing c → TurnsWhere cells h s c true
  finalizes-value s l c k e = turns s c true (subst (Means cells h s.party s.act) e (means cells h s l k))

  -- and a turn is skipped where there is none, and has no effect
  pub skips-nothing : (s : Step) (l : Line) (c : ℕ) → IsLegalLine cells h s l → l.answer ≡ Answer.Skipped c
      → TurnsWhere cells h s c false × IsWithoutEffect cells h (record { step = s; line = l })
  skips-nothing s l c k e = (
    turns s c false (subst (Means cells h s.party s.act) e (means cells h s l k)),
    subst (λ r. IsWithoutEffect cells h (record { step = s; line = record { answer = r; given = l.given } })) (sym e)
        (record { sections_stay = refl; guards_stay = refl; published_stays = λ d. refl }),
  )

-- ---- where a generator runs, and where a value may not be accessed

-- on the empty phase alone a run is wanted without retry
empty-where-wanted : (t : Tolerance) (p : ℕ) → shall_init t (phase_of p) ≡ true → t.retry ≡ false → p ≡ 0
empty-where-wanted t p e once = grind arith

-- where no run is wanted and there is no value, the cell has no retry
once-where-unwanted : (t : Tolerance) (p : ℕ) → shall_init t (phase_of p) ≡ false → has p initialized ≡ false → t.retry ≡ false
once-where-unwanted t p e lacks = grind arith

-- and where no run is wanted, the phase is not empty
ended-where-unwanted : (t : Tolerance) (p : ℕ) → shall_init t (phase_of p) ≡ false → p ≢ 0
ended-where-unwanted t p e z = grind arith

module _ (cells : List CellPlan) where
  module _ (h : List Event) (p : ℕ) where
    -- so a call is at the cell that its step concerns
    called_at : (a : Act) (c d : ℕ) (k : Call) → Calling cells h p a c k → cell_concerned cells h (record { party = p; act = a }) ≡ Some d → c ≡ d
    called_at a c d k t e = grind arith

    module _ (i : Given) where
      -- the event of the party
      abbrev event : Act → Answer → Event
      event a r = record { step = record { party = p; act = a }; line = record { answer = r; given = i } }

      -- what a call gives back that leaves nothing open
      abbrev asked : ℕ → Call → Back
      asked c j = record { cell = c; changes = Asked (accepts h) j ∷ [] }

      module _ (a : Act) (c : ℕ) (j : Call) (q : Phase) (t : Calling cells h p a c j) where
        -- it is given back at its cell alone
        back : back_of_step h (record { party = p; act = a }) (Answer.Access q) ≡ Some (asked c j)
        back = ap (λ b. back_by p (deed_visited (accepts h) false b) (sections h) (guards h)) t.does

        others : (d : ℕ) → c ≢ d → replay cells d (event a (Answer.Access q) ∷ h) ≡ replay cells d h
        others d ne = grind arith

        here : replay cells c (event a (Answer.Access q) ∷ h) ≡ content_asked (cell_at cells c).kind (tolerance_at cells c) (accepts h) j (replay cells c h)
        here = back_here cells c (back_of_step h (record { party = p; act = a }) (Answer.Access q)) (asked c j) (replay cells c h) back (same_number c c refl)

        -- by whether it was declined
        chosen : (b : Bool) → is_declined (cell_at cells c).kind (tolerance_at cells c) j (accepts h) (phase_at cells c h) ≡ b
            → replay cells c (event a (Answer.Access q) ∷ h) ≡ (if b then record { phase = 36; value = (replay cells c h).value } else replay cells c h)
        chosen b e = here ∙ ap (λ (d : Bool). if d then record { phase = 36; value = (replay cells c h).value } else replay cells c h) e

        pub denies : Resting cells h p c j → Reach cells h p c false → q ≡ record { bits = phase_at cells c h } → IsTurnedAway cells h (event a (Answer.Access q)) c q
        denies r lacks e = grind (arith, others, once-where-unwanted, ended-where-unwanted, chosen)

        pub declines : Asking cells h p c j false → q ≡ record { bits = 36 } → IsTurnedAway cells h (event a (Answer.Access q)) c q
        declines r e = record {
          shown = e ∙ ap (λ y. record { bits = y.phase }) (sym left);
          others_stay = others;
          reason = inr (record { call = j; tried = t.tried; declines = declined; shown = e; left = ap (λ y. y.phase) left });
        }
          where
            declined : is_declined (cell_at cells c).kind (tolerance_at cells c) j (accepts h) (phase_at cells c h) ≡ true
            declined = rw r.asked (ap not r.generates)

            left : replay cells c (event a (Answer.Access q) ∷ h) ≡ record { phase = 36; value = (replay cells c h).value }
            left = chosen true declined

  -- a value that is to be lent, and may not be accessed, stays
  module _ (h : List Event) (p : ℕ) (i : Given) (q : Phase) where
    lent_here : (a : Act) (c d : ℕ) → lends_at c a ≡ true → cell_concerned cells h (record { party = p; act = a }) ≡ Some d → c ≡ d
    lent_here a c d e n = grind arith

    unlent_stays : (a : Act) (c d : ℕ) → lends_at c a ≡ true → replay cells d (event h p i a (Answer.Access q) ∷ h) ≡ replay cells d h
    unlent_stays a c d e = grind arith

    unlent : (a : Act) (c : ℕ) → Unlent cells h p a q → cell_concerned cells h (record { party = p; act = a }) ≡ Some c → IsTurnedAway cells h (event h p i a (Answer.Access q)) c q
    unlent a c m n =
        subst (λ z. IsTurnedAway cells h (event h p i a (Answer.Access q)) z q) (lent_here a m.cell c m.lends n) (record {
          shown = m.shown ∙ ap (λ y. phase_of y.phase) (sym (unlent_stays a m.cell m.cell m.lends));
          others_stay = λ d ne. unlent_stays a m.cell d m.lends;
          reason = inl (unlent_stays a m.cell m.cell m.lends, inr (record { lends = m.lends; unasked = m.unasked; shown = m.shown; lacks = m.lacks }));
        })

  -- a legal line that says that the value may not be accessed
  pub turned_away : (h : List Event) (s : Step) (l : Line) (c : ℕ) (q : Phase) → IsLegalLine cells h s l → l.answer ≡ Answer.Access q → cell_concerned cells h s ≡ Some c
      → IsTurnedAway cells h (record { step = s; line = l }) c q
  turned_away h s l c q k e n =
      subst (λ r. IsTurnedAway cells h (record { step = s; line = record { answer = r; given = l.given } }) c q) (sym e) (elim (subst (Means cells h s.party s.act) e (means cells h s l k)) [
        | inr m ↦ unlent h s.party l.given q s.act c m n
        | inl m ↦
            subst (λ z. IsTurnedAway cells h (record { step = s; line = record { answer = Answer.Access q; given = l.given } }) z q) (called_at h s.party s.act m.cell c m.asked m.calls n)
            (elim (m.reason) [
              | inl r ↦ declines h s.party l.given s.act m.cell m.asked q m.calls r.0 r.1
              | inr r ↦ denies h s.party l.given s.act m.cell m.asked q m.calls r.0 r.1.0 r.1.1
            ])
      ])

  -- without retry a run begins on the empty phase
  pub begins_on_empty : (h : List Event) (s : Step) (l : Line) (c : ℕ) → IsLegalLine cells h s l → l.answer ≡ Answer.Running → cell_concerned cells h s ≡ Some c
      → (cell_at cells c).retry ≡ false → phase_at cells c h ≡ 0
  begins_on_empty h s l c k r e once =
      let m : Began cells h s.party s.act = subst (Means cells h s.party s.act) r (means cells h s l k) in
      subst (λ z. (cell_at cells z).retry ≡ false → phase_at cells z h ≡ 0) (called_at h s.party s.act m.cell c m.asked m.calls e)
      (empty-where-wanted (tolerance_at cells m.cell) (phase_at cells m.cell h) m.asks.wanted) once

  -- and it stays empty while the generator runs
  pub runs_on_empty : (h : List Event) (p c : ℕ) → IsLegal cells h → runs p c h ≡ true → (cell_at cells c).retry ≡ false → phase_at cells c h ≡ 0
  runs_on_empty h p c k r once = grind (arith, Needs, found_passes, empty-where-wanted, each_found, IsStanding, sound)

  -- nor is a value made on another phase, to be lent
  pub lends_on_empty : (h : List Event) (s : Step) (c : ℕ) → lends_at c s.act ≡ true → runs_to_lend cells h s.act ≡ true → (cell_at cells c).retry ≡ false → phase_at cells c h ≡ 0
  lends_on_empty h s c e asked once = grind arith

-- what may not access the value leaves every value, and what is open
pub keeps_values : (cells : List CellPlan) (h : List Event) (s : Step) (p : Phase) (g : Given) → KeepsValues cells h (record { step = s; line = record { answer = Answer.Access p; given = g } })
keeps_values cells h s p g = grind (arith, asked_value)
