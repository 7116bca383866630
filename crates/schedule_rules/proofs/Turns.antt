-- Each registered cell has one turn: to come, waiting, going on or ended.
use Rattle.schedule_rules.proofs.Words.{ℕ, arith, List, ◌≡◌, Bool, true, refl, Some, false, ◌∷◌, [], ◌∙◌, sym, ap, None, subst, ◌<◌, ◌&&◌, length, ◌+◌, cond, get_or-set_other}
use Rattle.schedule_rules.proofs.Words.{get_or-set_same, ◌==◌, if◌then◌else◌, Option, cells_of_turns, first_of, is_known, rest_of, occurs, due, registered, Given, Call, Answer}
use Rattle.schedule_rules.proofs.Words.{Refusal, CellPlan, Act, Calls, Turns, cell_at, is_owned, tries_registration, Deed, Makes, EndsToRead, Ends, Finishes, EndsToWrite, Opens}
use Rattle.schedule_rules.proofs.Words.{deed_waiting, deed_by, Skips, Takes, Looks, Event, deed_of, accepts, count, is_exit, sections, Section, innermost, without_innermost}
use Rattle.schedule_rules.proofs.Words.{sections_by, replay, phase_at, registry, registry_by, ended_turns, registry_taken, turn_of, turn_of_section, turns_by, Wait, waits, wait_of}
use Rattle.schedule_rules.proofs.Words.{without_wait, attempt_with, waits_given_with, with_wait, refusal, refusal_waiting, answer_of_value, IsLegal, turns_of, waits_to_turn}
use Rattle.schedule_rules.proofs.Words.{finalizes_in}
use Rattle.schedule_rules.proofs.Facts.{whether, first, second, apart}
use Rattle.schedule_rules.proofs.Exclusion.{alone}
use Rattle.schedule_rules.proofs.Opened.{count_ended}
use Rattle.schedule_rules.proofs.Cases.{step, IsCalling, IsTurning, Calling, Turning, Asking, Case}
use Rattle.schedule_rules.proofs.Answered.{denied}
use Rattle.schedule_rules.proofs.WaitsToLock.{waiting-shared}
use Rattle.schedule_rules.proofs.Attempts.{rests}
use Rattle.schedule_rules.proofs.Steps.{of_legal}
use Rattle.schedule_rules.proofs.Finds.{Inside, Finishing, Finds, finds}
use Rattle.schedule_rules.proofs.Accepts.{known-length}
use Rattle.schedule_rules.proofs.Registered.{none_known, known_taken, fresh-unknown, finalizable-inside}
use Rattle.schedule_rules.proofs.Counts.{one_if, occurs_joined, occurs_ended, count_given, without_none, count_without, one-wait, begins, waits_so, first_so}

module _ (cells : List CellPlan) (c : ℕ) where
  -- one turn where the cell is registered, and else none
  abbrev HasTurn : List Event → Type 0
  HasTurn h = turns_of cells c h ≡ (if is_known (registry cells h) c then 1 else 0)

  -- ---- which turns wait after a step

  module _ (h : List Event) (p : ℕ) (i : Given) (shared : (w : Wait) → wait_of p (waits cells h) ≡ Some w → is_owned (cell_at cells w.cell).place ≡ false) where
    -- the event of the party
    abbrev event : Act → Answer → Event
    event a r = record { step = record { party = p; act = a }; line = record { answer = r; given = i } }

    -- the act is not refused
    abbrev IsAllowed : Act → Type 0
    IsAllowed a = refusal cells h (step cells h p a) ≡ None

    -- the turns of the cell that wait
    abbrev waiting : ℕ
    waiting = count (waits_to_turn c) (waits cells h)

    -- a turn that is taken is the first left, and else it waited
    abbrev Took : ℕ → Bool → ℕ → Type 0
    Took d true n = (first_of (registry cells h).left ≡ Some d) × (n ≡ waiting)
    Took d false n = n + one_if (d == c) ≡ waiting

    -- so many wait after the deed
    abbrev WaitsSo : Deed → ℕ → Type 0
    WaitsSo (Opens d Turns taken) n = Took d taken n
    WaitsSo (Skips d taken) n = Took d taken n
    WaitsSo Takes n = (d : ℕ) × (first_of (registry cells h).left ≡ Some d) × (n ≡ waiting + one_if (d == c))
    WaitsSo _ n = n ≡ waiting

    -- the waits of others, after what the step gives
    abbrev others : Act → List Wait
    others a = waits_given_with cells (waits cells h) h (record { party = p; act = a }) i (without_wait p (waits cells h))

    others_count : (a : Act) → count (waits_to_turn c) (others a) ≡ count (waits_to_turn c) (without_wait p (waits cells h))
    others_count a = count_given (waits_to_turn c) (λ w. refl) cells (waits cells h) h (record { party = p; act = a }) i (without_wait p (waits cells h))

    -- where the party does not wait, the same turns wait
    rests_count : (a : Act) → wait_of p (waits cells h) ≡ None → count (waits_to_turn c) (others a) ≡ count (waits_to_turn c) (waits cells h)
    rests_count a e = others_count a ∙ ap (count (waits_to_turn c)) (without_none p (waits cells h) e)

    -- where it goes on, its wait is gone
    own_count : (w : Wait) → wait_of p (waits cells h) ≡ Some w → count (waits_to_turn c) (waits cells h) ≡ count (waits_to_turn c) (without_wait p (waits cells h)) + cond (waits_to_turn c w) 1 0
    own_count w e = count_without (waits_to_turn c) p (waits cells h) w e (one-wait cells p h)

    -- an act that calls leaves the turns that wait
    called_count : (a : Act) (d : ℕ) (j : Call) → Calling cells h p a d j → IsAllowed a → count (waits_to_turn c) (others a) ≡ count (waits_to_turn c) (waits cells h)
    called_count a d j t f = by a t.acts t.tried f
      where
        goes_on : (w : Wait) × (wait_of p (waits cells h) ≡ Some w) × (w.cell ≡ d) × (w.want ≡ Calls j) → count (waits_to_turn c) (others Act.Again) ≡ count (waits_to_turn c) (waits cells h)
        goes_on (w, e, at, is) = grind (arith, others_count Act.Again, own_count w e)

        by : (a : Act) → IsCalling a → attempt_with cells (waits cells h) h p a ≡ Some (record { cell = d; want = Calls j }) → IsAllowed a → count (waits_to_turn c) (others a) ≡ count (waits_to_turn c) (waits cells h)
        by a t e f = grind (arith, rests_count, rests, goes_on, waits_so)

    one_or_none : (b : Bool) (n : ℕ) → cond b (n + 1) n ≡ n + one_if b
    one_or_none b n = grind arith

    -- a call, by what it does
    called : (a : Act) (d : ℕ) (j : Call) (r : Answer) → Calling cells h p a d j → count (waits_to_turn c) (waits cells (event a r ∷ h)) ≡ waiting
        → (WaitsSo (deed_by (accepts h) (is_exit a) (Act.Call d j) r) (count (waits_to_turn c) (waits cells (event a r ∷ h))))
        → WaitsSo (deed_of h (step cells h p a) r) (count (waits_to_turn c) (waits cells (event a r ∷ h)))
    called a d j r t same w = subst (λ b. WaitsSo (deed_by (accepts h) (is_exit a) b r) (count (waits_to_turn c) (waits cells (event a r ∷ h)))) (sym t.does) w

    -- one that waits
    call_waits : (a : Act) (d : ℕ) (j : Call) (way : _) → Calling cells h p a d j → IsAllowed a → WaitsSo (deed_waiting (is_exit a)) (count (waits_to_turn c) (waits cells (event a (Answer.Waiting way) ∷ h)))
    call_waits a d j way t f = grind (arith, called_count, IsCalling)

    -- an act that takes a turn, where it goes on or ends
    took : (a : Act) (d : ℕ) → Turning cells h p a d → IsAllowed a → Took d (is_exit a) (count (waits_to_turn c) (others a))
    took a d t f = by a t.acts t.tried f
      where
        from_wait : (w : Wait) × (wait_of p (waits cells h) ≡ Some w) × (w.cell ≡ d) × (w.want ≡ Turns) → count (waits_to_turn c) (others Act.Again) + one_if (d == c) ≡ waiting
        from_wait (w, e, at, is) = grind (arith, others_count Act.Again, own_count w e)

        by : (a : Act) → IsTurning a → attempt_with cells (waits cells h) h p a ≡ Some (record { cell = d; want = Turns }) → IsAllowed a → Took d (is_exit a) (count (waits_to_turn c) (others a))
        by a t e f = grind (arith, first_so, rests_count, rests, from_wait, waits_so)

    -- and where it waits
    turn_waits : (a : Act) (d : ℕ) (way : _) → Turning cells h p a d → IsAllowed a → WaitsSo (deed_waiting (is_exit a)) (count (waits_to_turn c) (waits cells (event a (Answer.Waiting way) ∷ h)))
    turn_waits a d way t f =
        by (is_exit a) (count (waits_to_turn c) (waits cells (event a (Answer.Waiting way) ∷ h))) (count (waits_to_turn c) (others a)) (took a d t f)
        (ap (λ o. count (waits_to_turn c) (with_wait p way o (others a))) t.tried ∙ one_or_none (d == c) (count (waits_to_turn c) (others a)))
      where
        by : (b : Bool) (n m : ℕ) → Took d b m → n ≡ m + one_if (d == c) → WaitsSo (deed_waiting b) n
        by true n m k e = let w : _ = k.1 in (d, k.0, omega (arith, e, w))
        by false n m k e = omega (arith, e, k)

    waits_for : (r : Refusal) → Some r ≡ None → ⊥
    waits_for r e = cc

    -- one of a party that attempts nothing
    resting : (a : Act) → (refusal_waiting a ≡ None → ⊥) → IsAllowed a → count (waits_to_turn c) (others a) ≡ waiting
    resting a n f = rests_count a (rests cells h p a n f).0

    -- a turn that is barred at a cell of the party's own does not wait: the act is an Exit
    borrowing : (a : Act) (d : ℕ) → is_owned (cell_at cells d).place ≡ true → Turning cells h p a d → IsAllowed a → count (waits_to_turn c) (others a) ≡ waiting
    borrowing a d o t f = grind (arith, IsTurning, resting, waits_for, waits_so)

    -- a call that waits for nothing and opens no turn
    plainly : (a : Act) (d : ℕ) (j : Call) (r : Answer) → Calling cells h p a d j → IsAllowed a → count (waits_to_turn c) (waits cells (event a r ∷ h)) ≡ count (waits_to_turn c) (others a)
        → ((n : ℕ) → n ≡ waiting → WaitsSo (deed_by (accepts h) (is_exit a) (Act.Call d j) r) n) → WaitsSo (deed_of h (step cells h p a) r) (count (waits_to_turn c) (waits cells (event a r ∷ h)))
    plainly a d j r t f same so = let n : _ = same ∙ called_count a d j t f in called a d j r t n (so _ n)

    -- what holds of each answer of a step that is allowed
    abbrev Allowed : Act → Answer → Type 0
    Allowed a r = IsAllowed a → WaitsSo (deed_of h (step cells h p a) r) (count (waits_to_turn c) (waits cells (event a r ∷ h)))

    each : (a : Act) (r : Answer) → Case cells h p a r → Allowed a r
    each _ _ (Case.cyclic a d j t) f = called_count a d j t f
    each _ _ (Case.waiting a d (Calls j) way t) f = call_waits a d j way t f
    each _ _ (Case.waiting a d Turns way t) f = turn_waits a d way t f
    each _ _ (Case.missed a d (Calls j) q t) f = called_count a d j t f
    each _ _ (Case.missed a d Turns q t) f = absurd (apart (sym q))
    each _ _ (Case.owned a d (Calls j) o t) f = called_count a d j t f
    each _ _ (Case.owned a d Turns o t) f = borrowing a d o t f
    each _ _ (Case.told a d j q t v) f = plainly a d j (Answer.Phase q) t f refl (λ n e. e)
    each _ _ (Case.denied a d j q t v) f = plainly a d j (Answer.Access q) t f refl (λ n e. e)
    each _ _ (Case.erring a d j q t v e) f = plainly a d j Answer.ErrGuard t f refl (λ n e. e)
    each _ _ (Case.shown a d j t q e) f = plainly a d j (answer_of_value (replay cells d h)) t f refl (λ n e. e)
    each _ _ (Case.reading a d j t q e) f = plainly a d j Answer.ReadGuard t f refl (λ n e. e)
    each _ _ (Case.writing a d j t q e w) f = plainly a d j Answer.WriteGuard t f refl (λ n e. e)
    each _ _ (Case.running a d j t q) f = plainly a d j Answer.Running t f refl (λ n e. e)
    each _ _ (Case.skipped a d t q) f = took a d t f
    each _ _ (Case.finalizing a d t q u) f = took a d t f
    each _ _ (Case.finished true left t g) f = resting (Act.Finished left) (waits_for _) f
    each _ _ (Case.finished false left t g) f = resting (Act.FinishFailed left) (waits_for _) f
    each _ _ _ f = resting _ (waits_for _) f

  -- ---- each deed

  module _ (h : List Event) (p : ℕ) (i : Given) (legal : IsLegal cells h) (k : HasTurn h) where
    -- what waits, is at a cell of no party's own
    abbrev shared : (w : Wait) → wait_of p (waits cells h) ≡ Some w → is_owned (cell_at cells w.cell).place ≡ false
    shared w e = waiting-shared cells h p w legal e

    -- the turns after a deed, where so many wait
    abbrev turns_left : Deed → ℕ → ℕ
    turns_left d n =
        occurs c (due (registry_by cells h d (registry cells h))) + n + count (finalizes_in c) (sections_by h p d (sections h))
        + occurs c (cells_of_turns (turns_by p d (sections h) (ended_turns h)))

    abbrev HasTurnBy : Deed → ℕ → Type 0
    HasTurnBy d n = turns_left d n ≡ (if is_known (registry_by cells h d (registry cells h)) c then 1 else 0)

    -- one that leaves what is known, and all turns as many as they were
    keeps : (d : Deed) (n : ℕ) → is_known (registry_by cells h d (registry cells h)) c ≡ is_known (registry cells h) c → turns_left d n ≡ turns_of cells c h → HasTurnBy d n
    keeps d n known same = same ∙ k ∙ sym (ap (λ (b : Bool). if b then 1 else 0) known)

    -- a turn that is taken, or waited, is to come or waits once less
    taken_count : (d n : ℕ) (b : Bool) → Took h p i shared d b n → occurs c (due (registry_taken b (registry cells h))) + n + one_if (d == c) ≡ occurs c (due (registry cells h)) + waiting h p i shared
    taken_count d n true t =
        let e : (registry cells h).left ≡ d ∷ rest_of (registry cells h).left = begins (registry cells h).left d t.0 in
        let whole : occurs c (due (registry cells h)) ≡ one_if (d == c) + occurs c (rest_of (registry cells h).left) + occurs c (registry cells h).pending =
        occurs_joined c (registry cells h).left (registry cells h).pending ∙ ap (λ cs. occurs c cs + occurs c (registry cells h).pending) e in
        let n : _ = t.1 in
        omega (arith, whole, occurs_joined c (rest_of (registry cells h).left) (registry cells h).pending, n)
    taken_count d n false t = omega (arith, t)

    skips : (d n : ℕ) (b : Bool) → Took h p i shared d b n → HasTurnBy (Skips d b) n
    skips d n b t = grind (arith, keeps, known_taken, taken_count, occurs_ended)

    finalizes : (d n : ℕ) (b : Bool) → Took h p i shared d b n → HasTurnBy (Opens d Turns b) n
    finalizes d n b t = grind (arith, keeps, known_taken, taken_count, one_or_none)

    looks : (b : Bool) (n : ℕ) → (registry cells h).left ≡ [] → n ≡ waiting h p i shared → HasTurnBy (Looks b) n
    looks b n none w = grind (arith, keeps, occurs_joined)

    -- a generator's section that ends
    run_ends : (d : Deed) (n : ℕ) (f : Inside cells h p false) → registry_by cells h d (registry cells h) ≡ registry cells h → sections_by h p d (sections h) ≡ without_innermost p (sections h)
        → turns_by p d (sections h) (ended_turns h) ≡ ended_turns h → n ≡ waiting h p i shared → HasTurnBy d n
    run_ends d n f m s e w =
        let one : count (finalizes_in c) (sections h) ≡ count (finalizes_in c) (without_innermost p (sections h)) + 0 =
        count_ended (finalizes_in c) p (sections h) f.section f.found ∙ ap (λ b. count (finalizes_in c) (without_innermost p (sections h)) + cond (b && (f.section.cell == c)) 1 0) f.kind in
        let to_come : occurs c (due (registry_by cells h d (registry cells h))) ≡ occurs c (due (registry cells h)) = ap (λ r. occurs c (due r)) m in
        let on : count (finalizes_in c) (sections_by h p d (sections h)) ≡ count (finalizes_in c) (without_innermost p (sections h)) = ap (count (finalizes_in c)) s in
        let ended : occurs c (cells_of_turns (turns_by p d (sections h) (ended_turns h))) ≡ occurs c (cells_of_turns (ended_turns h)) = ap (λ ts. occurs c (cells_of_turns ts)) e in
        keeps d n (ap (λ r. is_known r c) m) (omega (arith, one, to_come, on, ended, w))

    -- a finalizer's
    turn_ends : (fine : Bool) (left : Option ℕ) (n : ℕ) → Finishing cells h p fine left → n ≡ waiting h p i shared → HasTurnBy (Ends (Finishes fine left)) n
    turn_ends fine left n f w =
        let t : Section = f.section in
        let one : count (finalizes_in c) (sections h) ≡ count (finalizes_in c) (without_innermost p (sections h)) + one_if (t.cell == c) =
        count_ended (finalizes_in c) p (sections h) t f.found ∙ ap (λ b. count (finalizes_in c) (without_innermost p (sections h)) + cond (b && (t.cell == c)) 1 0) f.kind in
        let more : occurs c (cells_of_turns (turn_of_section (turn_of fine) (innermost p (sections h)) (ended_turns h))) ≡ occurs c (cells_of_turns (ended_turns h)) + one_if (t.cell == c) =
        ap (λ o. occurs c (cells_of_turns (turn_of_section (turn_of fine) o (ended_turns h)))) f.found ∙ occurs_ended c t.cell (turn_of fine) (ended_turns h) in
        keeps (Ends (Finishes fine left)) n refl (omega (arith, one, more, w))

    -- a registration adds a turn to come, of a cell that had none
    module _ (d : ℕ) (j : Call) (b : Bool) (n : ℕ) (w : n ≡ waiting h p i shared) where
      stays : registry_by cells h (Opens d (Calls j) b) (registry cells h) ≡ registry cells h → HasTurnBy (Opens d (Calls j) b) n
      stays r = grind (arith, keeps)

      module _ (fresh : is_known (registry cells h) d ≡ false) (inside : d < length (registry cells h).known) (now : registry_by cells h (Opens d (Calls j) b) (registry cells h) ≡ registered d (registry cells h)) where
        to_come : occurs c (due (registry_by cells h (Opens d (Calls j) b) (registry cells h))) ≡ occurs c (due (registry cells h)) + one_if (d == c)
        to_come = grind (arith, occurs_joined)

        here : (d == c) ≡ true → HasTurnBy (Opens d (Calls j) b) n
        here same = grind (arith, get_or-set_same, one_if, to_come)

        elsewhere : (d == c) ≡ false → HasTurnBy (Opens d (Calls j) b) n
        elsewhere other = grind (arith, one_if, keeps, get_or-set_other, to_come)

        registers : HasTurnBy (Opens d (Calls j) b) n
        registers = whether (d == c) (λ same. here same) (λ other. elsewhere other)

      running : Asking cells h p d j true → HasTurnBy (Opens d (Calls j) b) n
      running q = by (tries_registration (cell_at cells d).kind (phase_at cells d h)) (registry cells h).is_open refl refl
        where
          by : (x o : Bool) → tries_registration (cell_at cells d).kind (phase_at cells d h) ≡ x → (registry cells h).is_open ≡ o → HasTurnBy (Opens d (Calls j) b) n
          by x o e f = grind (arith, stays, second, finalizable-inside, first, registers, fresh-unknown, alone, known-length)

    has_turn : (d : Deed) (n : ℕ) → Finds cells h p d → WaitsSo h p i shared d n → HasTurnBy d n
    has_turn (Opens d (Calls j) taken) n f w = running d j taken n w f
    has_turn (Looks false) n f w = looks false n f.0 w
    has_turn (Ends (Makes made)) n f w = run_ends (Ends (Makes made)) n f refl refl refl w
    has_turn (Ends (Finishes fine left)) n f w = turn_ends fine left n f w
    has_turn (EndsToRead v) n f w = run_ends (EndsToRead v) n f refl refl refl w
    has_turn (EndsToWrite v) n f w = run_ends (EndsToWrite v) n f refl refl refl w
    has_turn d n x y = grind (arith, finalizes, skips, taken_count, keeps, looks)

  -- each registered cell has one turn, and no other cell has one
  pub one-turn : (h : List Event) → IsLegal cells h → HasTurn h
  one-turn [] k = sym (ap (λ (b : Bool). if b then 1 else 0) (none_known (length cells) c))
  one-turn (e ∷ h) k =
      has_turn h e.step.party e.line.given k.2 (one-turn h k.2) (deed_of h e.step e.line.answer) (count (waits_to_turn c) (waits cells (e ∷ h))) (finds cells h e.step e.line k.0)
      (of_legal cells h e.step e.line k.0 (λ a r. WaitsSo h e.step.party e.line.given (λ w f. waiting-shared cells h e.step.party w k.2 f) (deed_of h (step cells h e.step.party a) r) (count (waits_to_turn c) (waits cells (event h e.step.party e.line.given (λ w f. waiting-shared cells h e.step.party w k.2 f) a r ∷ h))))
      (λ a r. refl) (each h e.step.party e.line.given (λ w f. waiting-shared cells h e.step.party w k.2 f)))
