-- A call that waits asks for no run of a generator that its own party is running.
use Rattle.schedule_rules.proofs.Words.{ℕ, arith, List, ◌≡◌, Bool, true, refl, Some, false, ◌∷◌, [], ◌∙◌, sym, ap, subst, ◌&&◌, ◌≢◌, not, ◌≤◌, ◌==◌, is_none, Option, How, Answer}
use Rattle.schedule_rules.proofs.Words.{Line, CellPlan, Act, Step, cell_at, initializes, Deed, deed_waiting, Event, deed_of, count, is_exit, sections, Section, is_turn, runs_in}
use Rattle.schedule_rules.proofs.Words.{without_innermost, sections_by, runs, Wait, waits, wait_of, Attempt, attempt, attempt_of_wait, refusal, IsLegal, IsLegalLine, IsExclusive}
use Rattle.schedule_rules.proofs.Words.{waits_judged, is_attempted, is_waiting, is_cyclic, is_cyclic_step, is_made_to_wait}
use Rattle.schedule_rules.proofs.Exclusion.{alone}
use Rattle.schedule_rules.proofs.Facts.{first, second, apart}
use Rattle.schedule_rules.proofs.Found.{found_counts, found_passes, none_counted, only_one}
use Rattle.schedule_rules.proofs.GoesOn.{Of, each_of, waiting, Goes, waits_so}
use Rattle.schedule_rules.proofs.Causes.{cyclic_where_own, waits_where_barred}

-- the section is the party's, on the cell, and its generator runs
abbrev is_own_run : ℕ → ℕ → Section → Bool
is_own_run p c s = (s.party == p) && (runs_in c s && not (is_turn s.want))

abbrev own_runs : ℕ → ℕ → List Section → ℕ
own_runs p c ss = count (is_own_run p c) ss

module _ (p : ℕ) where
  -- ---- sections of the party after a step of another

  ended_fewer : (q c : ℕ) (ss : List Section) → own_runs p c (without_innermost q ss) ≤ own_runs p c ss
  ended_fewer q c [] = omega arith
  ended_fewer q c (s ∷ ss) = grind (arith, ended_fewer q c ss)

  -- another's deed opens none of the party's
  others_fewer : (h : List Event) (q : ℕ) (d : Deed) (c : ℕ) (ss : List Section) → (q == p) ≡ false → own_runs p c (sections_by h q d ss) ≤ own_runs p c ss
  others_fewer h q d c ss e = grind (arith, ended_fewer)

  -- what waits opens and ends none
  waiting_fewer : (h : List Event) (q : ℕ) (b : Bool) (c : ℕ) (ss : List Section) → own_runs p c (sections_by h q (deed_waiting b) ss) ≤ own_runs p c ss
  waiting_fewer h q true c ss = omega arith
  waiting_fewer h q false c ss = omega arith

module _ (cells : List CellPlan) where
  -- ---- what the party runs where a section of it runs, and back

  -- where the party does not run the generator of the cell, it has no such section
  none_own : (h : List Event) (p c : ℕ) → IsExclusive cells h c → runs p c h ≡ false → own_runs p c (sections h) ≡ 0
  none_own h p c only e = grind (arith, none_counted, found_passes, first, second, only_one)

  -- where it has none, it does not run it
  runs_none : (h : List Event) (p c : ℕ) → own_runs p c (sections h) ≡ 0 → runs p c h ≡ false
  runs_none h p c none = grind (arith, found_counts, found_passes)

  -- what is attempted asks for no run that its party is running
  abbrev Apart : List Event → ℕ → Attempt → Type 0
  Apart h p a = initializes (cell_at cells a.cell).kind a.want ≡ true → own_runs p a.cell (sections h) ≡ 0

  -- a step that waits attempts nothing that is cyclic
  waits_apart : (h : List Event) (s : Step) (l : Line) → IsLegal cells h → IsLegalLine cells h s l → is_waiting l.answer ≡ true → Of (Apart h s.party) (attempt cells h s)
  waits_apart h s l legal k w = by (attempt cells h s) (second (is_none (refusal cells h s)) _ (sym (waits_where_barred cells h s l k) ∙ w))
    where
      not_both : (i o rest : Bool) → (not (i && o) && rest) ≡ true → i ≡ true → o ≡ false
      not_both i o rest f e = grind arith

      by : (o : Option Attempt) → is_attempted (is_made_to_wait cells h s.party (waits_judged cells k.moment h s l.given)) o ≡ true → Of (Apart h s.party) o
      by o f = grind (arith, none_own, alone, not_both, first)

  goes : Goes cells (IsLegal cells) (λ e h l. l.2) Apart
  goes = record {
    other = λ h e p a l is t i. let none : _ = t i in let less : _ = others_fewer p h e.step.party (deed_of h e.step e.line.answer) a.cell (sections h) is in omega (arith, none, less);
    refused = λ h e p a r is t. rw is t;
    now = now;
  }
    where
      now : (h : List Event) (e : Event) (way : How) → IsLegal cells (e ∷ h) → e.line.answer ≡ Answer.Waiting way → Of (Apart h e.step.party) (waiting cells h e.step.party) → Of (Apart (e ∷ h) e.step.party) (attempt cells h e.step)
      now h e way l is t =
          each_of (Apart h e.step.party) (Apart (e ∷ h) e.step.party)
          (λ a f i. let none : _ = f i in let less : _ = waiting_fewer e.step.party h e.step.party (is_exit e.step.act) a.cell (sections h) in rw is (omega (arith, none, less)))
          (attempt cells h e.step) (waits_apart h e.step e.line l.2 l.0 (ap is_waiting is))

  -- so a call that waits is not cyclic
  pub waiting-not-cyclic : (h : List Event) (p : ℕ) (w : Wait) → IsLegal cells h → wait_of p (waits cells h) ≡ Some w → (initializes (cell_at cells w.cell).kind w.want && runs p w.cell h) ≡ false
  waiting-not-cyclic h p w k f = by (initializes (cell_at cells w.cell).kind w.want) refl
    where
      mine : Apart h p (record { cell = w.cell; want = w.want })
      mine = subst (λ o. Of (Apart h p) (attempt_of_wait o)) f (waits_so cells (IsLegal cells) (λ e h l. l.2) Apart goes h p k)

      by : (b : Bool) → initializes (cell_at cells w.cell).kind w.want ≡ b → (b && runs p w.cell h) ≡ false
      by b i = grind (arith, runs_none, mine)

  -- and an Again is not answered so
  pub again-not-cyclic : (h : List Event) (s : Step) (l : Line) → IsLegal cells h → IsLegalLine cells h s l → s.act ≡ Act.Again → l.answer ≢ Answer.Cyclic
  again-not-cyclic h s l legal k a e = apart (sym (ap is_cyclic e) ∙ cyclic_where_own cells h s l k ∙ none (wait_of s.party (waits cells h)) refl)
    where
      none : (o : Option Wait) → wait_of s.party (waits cells h) ≡ o → is_cyclic_step cells h s ≡ false
      none o f = grind (arith, waiting-not-cyclic)
