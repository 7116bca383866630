-- Who may attempt what: a call, one more attempt of a call or a turn that waits, and the first attempt of a turn.
use Rattle.phase_acts.proofs.Words.{◌<◌, ◌||◌, ◌∙◌, ◌≡◌, ◌≤◌, after_turn, ap, arith, attempt, attempt_of_turn, attempt_of_wait, Call, Calls, cell_at, cell_of_attempt, CellPlan}
use Rattle.phase_acts.proofs.Words.{Event, false, first_of, guards, has_want, HasStepped, Holders, is_fast, is_owned, is_some, IsAwake, IsNext, IsTried, IsTrying, KeptGuards}
use Rattle.phase_acts.proofs.Words.{KeptWith, latest_act, length, Line, List, LockerKind, MayWait, None, numbered, open-accepts, Option, owner, owner_by, refl, refusal, refusal_by}
use Rattle.phase_acts.proofs.Words.{registry, room-taken, Rows, Some, Standing, standing, Stands, step_of, subst, sym, Target, target_of, true, Turns, vec_capacity, Wait, wait_of}
use Rattle.phase_acts.proofs.Words.{waits, WaitsAt, Want, ℕ}
use Rattle.schedule_rules.specs.declared.step.Act.TheVariants as act
use Rattle.schedule_rules.specs.Calls.{seeks}
use Rattle.schedule_rules.proofs.GoesOn.{Matches, wait-matches}
use Rattle.schedule_rules.proofs.NotCyclic.{again-not-cyclic}
use Rattle.schedule_rules.proofs.Registered.{fresh-unknown, left-finalizable}
use Rattle.schedule_rules.proofs.WaitsToLock.{attempted-has, waiting-asks, waiting-shared, waiting-slow}
use Rattle.phase_acts.proofs.Attempting.{tried_steps}
use Rattle.phase_acts.proofs.Calling.{below}
use Rattle.phase_acts.proofs.Stepping.{guards_with, same_guards}
use Rattle.phase_acts.proofs.Trying.{standing_at}

call_no_turn : (k : Call) → Calls k ≡ Turns → ⊥
call_no_turn k e = cc

-- there is room for one turn more
turn_room : {L : Type 0} {held : L → Holders} {place : L → LockerKind} {m : Standing} {hand : ℕ} {v : Rows L} → Stands held place hand m v → (n : ℕ) → length m.turns < n → n ≤ vec_capacity v.exit.turns → length v.exit.turns.items < vec_capacity v.exit.turns
turn_room t n lt room = let e = ap length t.exit.turns_are in omega (arith, e, lt, room)

module _ {L : Type 0} {held : L → Holders} {place : L → LockerKind} {cells : List CellPlan} {h : List Event} {old : Rows L} {p : ℕ} where
  -- ---- a call

  module _ (c : ℕ) (k : Call) (is : IsAwake held place cells h old p (act.Call c k)) (free : refusal cells h (step_of p (act.Call c k)) ≡ None) where
    pub call_trying : IsTrying held place (standing cells h) old p (record { cell = c; want = Calls k }) false
    call_trying =
        record {
          attempting =
              record {
                rests = is.next.follows.rests;
                party = is.next.known.party;
                cell = below c (length old.cells.items) is.next.known.cell;
                had = attempted-has cells h (step_of p (act.Call c k)) c k is.next.follows.legal free refl;
                waited = is.awake;
                waits_so = λ e. absurd (cc);
                unknown = λ f empty none. fresh-unknown cells h c is.next.follows.legal empty none;
                shared = λ e. absurd (call_no_turn k e);
              };
          turns = λ e. absurd (call_no_turn k e);
        }

    pub call_steps : (l : Line) {new : Rows L} → IsTried held place (length old.guards.items) (standing cells h) p (record { cell = c; want = Calls k }) l new → KeptWith 1 old new → HasStepped held place cells h old (step_of p (act.Call c k)) l new
    call_steps l tried kept =
        tried_steps c (Calls k) (registry cells h) (owner h) (record { attempted = refl; concerned = refl; does = refl; tries = λ vs chosen. refl; taken = refl; owned = refl }) is.next free (sym (open-accepts cells h is.next.follows.legal)) (λ j e. refl) l tried kept (λ legal e. is.awake)

  -- ---- one more attempt

  module _ (t : Target) (next : IsNext held place cells h old (step_of p act.Again)) (waits_so : target_of (wait_of p (waits cells h)) ≡ Some t) where
    waiting : (w : Wait) × (wait_of p (waits cells h) ≡ Some w) × (t ≡ record { cell = w.cell; want = w.want })
    waiting = by (wait_of p (waits cells h)) refl waits_so
      where
        by : (o : Option Wait) → wait_of p (waits cells h) ≡ o → target_of o ≡ Some t → (w : Wait) × (wait_of p (waits cells h) ≡ Some w) × (t ≡ record { cell = w.cell; want = w.want })
        by None e f = absurd (cc)
        by (Some w) e f = (w, e, cc)

    attempted : attempt cells h (step_of p act.Again) ≡ Some (record { cell = t.cell; want = t.want })
    attempted = ap attempt_of_wait waiting.1 ∙ ap (λ (x : Target). Some (record { cell = x.cell; want = x.want })) (sym waiting.2)

    wanted : (v : Want) → t.want ≡ v → attempt cells h (step_of p act.Again) ≡ Some (record { cell = t.cell; want = v })
    wanted v e = attempted ∙ ap (λ v. Some (record { cell = t.cell; want = v })) e

    free : refusal cells h (step_of p act.Again) ≡ None
    free = ap (λ x. refusal_by cells (is_some x) h p act.Again) waiting.1

    has_waiting : (v : Want) → t.want ≡ v → has_want (cell_at cells t.cell).kind t.want ≡ true
    has_waiting (Calls k) e = ap (has_want (cell_at cells t.cell).kind) e ∙ attempted-has cells h (step_of p act.Again) t.cell k next.follows.legal free (wanted (Calls k) e)
    has_waiting Turns e = ap (has_want (cell_at cells t.cell).kind) e

    shared_waiting : is_owned (cell_at cells t.cell).place ≡ false
    shared_waiting = ap (λ (x : Target). is_owned (cell_at cells x.cell).place) waiting.2 ∙ waiting-shared cells h p waiting.0 next.follows.legal waiting.1

    may_wait : MayWait (cell_at cells t.cell) t.want
    may_wait =
        let slow = ap (λ (x : Target). is_fast x.want) waiting.2 ∙ waiting-slow cells h p waiting.0 next.follows.legal waiting.1 in
        record { sought = ap (λ (x : Target). is_some (seeks (cell_at cells x.cell).kind x.want)) waiting.2 ∙ waiting-asks cells h p waiting.0 next.follows.legal waiting.1; slow = λ i. slow i || shared_waiting i }

    pub again_trying : IsTrying held place (standing cells h) old p t true
    again_trying =
        record {
          attempting =
              record {
                rests = next.follows.rests;
                party = next.known.party;
                cell = subst (λ (x : Target). x.cell < length old.cells.items) (sym waiting.2) (next.follows.rests.stands.waits.within p waiting.0 waiting.1);
                had = has_waiting t.want refl;
                waited = subst (λ x. WaitsAt t.cell x) (sym waiting.1) (ap (λ (x : Target). x.cell) (sym waiting.2));
                waits_so = λ e. may_wait;
                unknown = λ f empty none. fresh-unknown cells h t.cell next.follows.legal empty none;
                shared = λ e. shared_waiting;
              };
          turns = λ e. turn_room next.follows.rests.stands (length cells) (room-taken cells h next.follows.legal (step_of p act.Again) t.cell (wanted Turns e)) next.follows.turns;
        }

    pub again_steps : (l : Line) {new : Rows L} → IsTried held place (length old.guards.items) (standing cells h) p t l new → KeptWith 1 old new → HasStepped held place cells h old (step_of p act.Again) l new
    again_steps l tried kept =
        tried_steps t.cell t.want (registry cells h) (owner h) (record { attempted = attempted; concerned = ap cell_of_attempt attempted; does = subst (λ x. Matches x (latest_act p h)) attempted (wait-matches cells p h); tries = λ vs chosen. refl; taken = refl; owned = refl })
        next free (sym (open-accepts cells h next.follows.legal)) (λ j e. refl) l tried kept (λ legal e. absurd (again-not-cyclic cells h (step_of p act.Again) l next.follows.legal legal refl e))

  -- ---- the first attempt of a turn, once the turn is taken

  module _ (c : ℕ) (is : IsAwake held place cells h old p act.Exit) (first : first_of (registry cells h).left ≡ Some c) (mine : owner_by p true (owner h) ≡ Some p) (free : refusal cells h (step_of p act.Exit) ≡ None) {mid : Rows L} (between : KeptGuards old mid) (stands : Stands held place (length old.guards.items) (standing_at cells h (after_turn (registry cells h)) (Some p)) mid) where
    pub turn_trying : c < length old.cells.items → IsTrying held place (standing_at cells h (after_turn (registry cells h)) (Some p)) mid p (record { cell = c; want = Turns }) false
    turn_trying inside =
        record {
          attempting =
              record {
                rests = record { stands = subst (λ i. Stands held place i (standing_at cells h (after_turn (registry cells h)) (Some p)) mid) (sym (same_guards between)) stands; empty = ap (λ i. numbered i (guards h)) (same_guards between) ∙ is.next.follows.rests.empty };
                party = (let a = is.next.known.party in let b = between.kept.parties in omega (arith, a, b));
                cell = (let b = between.kept.cells in omega (arith, inside, b));
                had = refl;
                waited = is.awake;
                waits_so = λ e. absurd (cc);
                unknown = λ f empty none. fresh-unknown cells h c is.next.follows.legal empty none;
                shared = λ e. is.next.follows.placed c (left-finalizable cells h c first);
              };
          turns = λ e. turn_room stands (length cells) (room-taken cells h is.next.follows.legal (step_of p act.Exit) c (ap attempt_of_turn first)) (let a = is.next.follows.turns in let b = between.kept.turns in omega (arith, a, b));
        }

    pub turn_steps : (l : Line) {new : Rows L} → IsTried held place (length mid.guards.items) (standing_at cells h (after_turn (registry cells h)) (Some p)) p (record { cell = c; want = Turns }) l new → KeptWith 1 mid new → HasStepped held place cells h old (step_of p act.Exit) l new
    turn_steps l {new = new} tried kept =
        tried_steps c Turns (after_turn (registry cells h)) (Some p) (record { attempted = ap attempt_of_turn first; concerned = first; does = refl; tries = λ vs chosen. refl; taken = refl; owned = mine }) is.next free (sym (open-accepts cells h is.next.follows.legal)) (λ j e. absurd (call_no_turn j (sym e))) l
        (subst (λ i. IsTried held place i (standing_at cells h (after_turn (registry cells h)) (Some p)) p (record { cell = c; want = Turns }) l new) (same_guards between) tried) (guards_with between kept) (λ legal e. is.awake)
