-- What an attempt took may be settled, and its step is a legal step.
use Rattle.phase_acts.proofs.Words.{◌&&◌, ◌∙◌, ◌≡◌, accepts, Act, answer_settled, ap, arith, Bool, Call, Calls, CellPlan, Event, false, Given, given_first, HasStepped, Holders}
use Rattle.phase_acts.proofs.Words.{is_none, IsLegalLine, IsNext, IsSettled, IsSettling, IsTook, IsTried, IsTrying, KeptGuards, KeptWith, length, Line, List, LockerKind, None}
use Rattle.phase_acts.proofs.Words.{numbered, Option, refl, refusal, Registry, registry, Rows, Some, Standing, Stands, step_of, subst, sym, Taken, Target, took, true, Turns}
use Rattle.phase_acts.proofs.Words.{wait_of, waits, Want, ℕ}
use Rattle.schedule_rules.specs.declared.line.Answer.TheVariants as answer
use Rattle.schedule_rules.specs.Causes.{is_cyclic, is_attempted, is_of_own_run}
use Rattle.schedule_rules.proofs.Causes.{cyclic_where_own}
use Rattle.phase_moves.specs.declared.rows.Taken.TheVariants as taken
use Rattle.phase_acts.proofs.Stepping.{same_guards, stepped}
use Rattle.phase_acts.proofs.Tried.{after_tried}
use Rattle.phase_acts.proofs.TriedLegal.{legal_tried, gift_reaches}
use Rattle.phase_acts.proofs.Trying.{IsAttempt, standing_at}
use Rattle.std.proofs.lemmas.Bool.{and_right}

-- no turn ends as something is taken
same_turns : (n p c : ℕ) (w : Want) (g : Given) (b : Taken) (m : Standing) → (took n p c w g b m).turns ≡ m.turns
same_turns n p c w g b m = grind (arith)

module _ {L : Type 0} {held : L → Holders} {place : L → LockerKind} {m : Standing} {old mid : Rows L} {p : ℕ} {t : Target} {b : Taken} {g : Given} (k : IsTook held place m old p t b g mid) (kept : KeptGuards old mid) where
  pub is_settling : {waits : Bool} → IsTrying held place m old p t waits → IsSettling held place m mid p t b g
  is_settling is =
      let turns_same : length mid.exit.turns.items ≡ length old.exit.turns.items = ap length (k.stands.exit.turns_are ∙ same_turns (length old.guards.items) p t.cell t.want g b m ∙ sym is.attempting.rests.stands.exit.turns_are) in
      record {
        stands = subst (λ i. Stands held place i (took i p t.cell t.want g b m) mid) (sym (same_guards kept)) k.stands;
        empty = ap (λ i. numbered i m.guards) (same_guards kept) ∙ is.attempting.rests.empty;
        party = (let lt = is.attempting.party in let same = kept.kept.parties in omega (arith, lt, same));
        cell = (let lt = is.attempting.cell in let same = kept.kept.cells in omega (arith, lt, same));
        told = k.told;
        turns = λ e. (let room = is.turns e in let a = turns_same in let c = kept.kept.turns in omega (arith, room, a, c));
      }

  pub is_tried : (l : Line) (new : Rows L) → IsSettled held place (length mid.guards.items) m p t b g l new → IsTried held place (length old.guards.items) m p t l new
  is_tried l new s = record { taken = b; first = g; taking = record { told = k.told; met = k.met }; settled = subst (λ i. IsSettled held place i m p t b g l new) (same_guards kept) s }

module _ {L : Type 0} {held : L → Holders} {place : L → LockerKind} {cells : List CellPlan} {h : List Event} {old new : Rows L} {p : ℕ} {a : Act} (c : ℕ) (w : Want) (r : Registry) (o : Option ℕ) (k : IsAttempt cells h p a c w r o) (next : IsNext held place cells h old (step_of p a)) (free : refusal cells h (step_of p a) ≡ None) (accepted : accepts h ≡ r.is_open) (same : (j : Call) → w ≡ Calls j → r ≡ registry cells h) where
  -- it was tried: the rows follow the step
  pub tried_steps : (l : Line) → IsTried held place (length old.guards.items) (standing_at cells h r o) p (record { cell = c; want = w }) l new → KeptWith 1 old new → (IsLegalLine cells h (step_of p a) l → l.answer ≡ answer.Cyclic → wait_of p (waits cells h) ≡ None) → HasStepped held place cells h old (step_of p a) l new
  tried_steps l tried kept alone = subst (λ x. HasStepped held place cells h old (step_of p a) x new) (sym s.line) (stepped next _ _ (after_tried cells h p a c w r o k accepted same tried.first s.last (gift_reaches cells h p a c w r o k accepted same free tried.taken tried.first s.last tried.taking.told tried.taking.met s.gave) tried.taken tried.taking.met.wanted s.gave turned) s.rests kept legal)
    where
      s : IsSettled held place (length h) (standing_at cells h r o) p (record { cell = c; want = w }) tried.taken tried.first l new
      s = subst (λ i. IsSettled held place i (standing_at cells h r o) p (record { cell = c; want = w }) tried.taken tried.first l new) next.follows.steps tried.settled

      legal : IsLegalLine cells h (step_of p a) (record { answer = answer_settled c w tried.taken (standing_at cells h r o); given = given_first tried.first s.last })
      legal = legal_tried cells h p a c w r o k accepted same free tried.taken tried.first s.last tried.taking.told tried.taking.met s.gave

      -- a turn is never cyclic
      calls : tried.taken ≡ taken.Cyclic → w ≡ Turns → ⊥
      calls e turns =
          differ (sym (ap (λ b. is_cyclic (answer_settled c w b (standing_at cells h r o))) e) ∙ cyclic_where_own cells h (step_of p a) _ legal ∙ ap (λ x. is_none (refusal cells h (step_of p a)) && is_attempted (is_of_own_run cells h p) x) (k.attempted ∙ ap (λ v. Some (record { cell = c; want = v })) turns) ∙ and_right (is_none (refusal cells h (step_of p a))) false refl)
        where
          differ : true ≡ false → ⊥
          differ x = cc

      turned : tried.taken ≡ taken.Cyclic → (wait_of p (waits cells h) ≡ None) × (w ≡ Turns → ⊥)
      turned e = (alone (subst (IsLegalLine cells h (step_of p a)) (sym s.line) legal) (ap (λ (x : Line). x.answer) s.line ∙ ap (λ b. answer_settled c w b (standing_at cells h r o)) e), calls e)
