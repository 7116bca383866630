-- The phases that legal histories publish and tell have no bit above the eight flags.
use Rattle.phase_schedule.proofs.Words.{[], ◌&&◌, ◌==◌, ◌∷◌, accepts, arith, Attempt, attempt, Back, back_of_step, Bool, cell_at, CellPlan, content_after_back, Event, false}
use Rattle.phase_schedule.proofs.Words.{holding_with, if◌then◌else◌, is_barred, is_none, IsKnown, Kind, Line, List, None, not, Option, other_waits, phase_of, Place, registry}
use Rattle.phase_schedule.proofs.Words.{replay, Some, Step, subst, sym, TellsKnown, tolerance_of, true, Wait, waits_given, ℕ}
use Rattle.exit_registry.specs.declared.registry.Look.{Look}
use Rattle.exit_registry.specs.declared.registry.Look.TheVariants as look
use Rattle.exit_registry.specs.Registry.{look_at}
use Rattle.schedule_rules.specs.declared.line.Answer.TheVariants as answer
use Rattle.phase_locker.specs.declared.tickets.LockNature.{LockNature}
use Rattle.phase_locker.specs.declared.tickets.LockNature.TheVariants as nature
use Rattle.phase_seq.specs.declared.tolerance.Tolerance.{Tolerance}
use Rattle.phase_locker.specs.declared.ways.How.{How}
use Rattle.lazy_cells.specs.declared.call.Call.{Call}
use Rattle.schedule_rules.specs.declared.form.Form.{Form}
use Rattle.schedule_rules.specs.declared.form.Form.TheVariants.{Told, Shown, Held}
use Rattle.schedule_rules.specs.declared.plan.Place.TheVariants as place
use Rattle.schedule_rules.specs.Forms.{form_of}
use Rattle.schedule_rules.specs.declared.step.Act.{Act}
use Rattle.schedule_rules.specs.declared.step.Act.TheVariants as act
use Rattle.schedule_rules.specs.declared.step.Want.{Want}
use Rattle.schedule_rules.specs.declared.step.Want.TheVariants.{Calls, Turns}
use Rattle.schedule_rules.specs.Answers.{Meeting, answer_admitted, answer_at, answer_barred, answer_lent, answer_made, answer_made_to_lend, answer_of_attempt, answer_of_made}
use Rattle.schedule_rules.specs.Answers.{begins_run, call_answer_admitted, drains_by, turn_answer_admitted, way_parked}
use Rattle.schedule_rules.specs.Calls.{initializes, is_fast, lock_wanted}
use Rattle.schedule_rules.specs.Changes.{Content, Ran, RanIfAsked, Ended, asks_to_lend, content_asked, content_to_lend, is_declined, effect}
use Rattle.schedule_rules.specs.Due.{answer_of_look, due_answer, due_clone, due_finished, due_look, due_made, due_tried, meeting, phase_made}
use Rattle.schedule_rules.specs.Guards.{Guard, guards, numbered}
use Rattle.schedule_rules.specs.Legal.{First, IsLegalLine, Last, Moment, answer_of, due_at}
use Rattle.schedule_rules.specs.declared.line.Refusal.{Refusal}
use Rattle.schedule_rules.specs.Phases.{is_accessible, phase_reached, NoRun}
use Rattle.schedule_rules.specs.Refusals.{refusal}
use Rattle.schedule_rules.specs.Sections.{Section, innermost, sections}
use Rattle.phase_moves.proofs.Known.{change_known, effect_known}

module _ (cells : List CellPlan) where
  after_back : (c : ℕ) (b : Option Back) (y : Content) → IsKnown (phase_of y.phase) → IsKnown (phase_of (content_after_back cells c b y).phase)
  after_back c None y k = k
  after_back c (Some b) y k = by (b.cell == c)
    where
      by : (t : Bool) → IsKnown (phase_of (if t then effect (cell_at cells c) b.changes y else y).phase)
      by true = effect_known (cell_at cells c) b.changes y k
      by false = k

  -- what is published
  pub published_known : (c : ℕ) (h : List Event) → IsKnown (phase_of (replay cells c h).phase)
  published_known c [] = record { below = omega arith }
  published_known c (e ∷ h) = after_back c (back_of_step h e.step e.line.answer) (replay cells c h) (published_known c h)

  -- ---- what is told

  -- the phase that is told is that of the content
  at_known : (f : Form) (accessible : Bool) (y : Content) → IsKnown (phase_of y.phase) → TellsKnown (answer_at f accessible y)
  at_known Shown true y known = tt
  at_known (Held true falls_back) true y known = tt
  at_known (Held false falls_back) true y known = tt
  at_known (Held writes true) false y known = tt
  at_known (Told true) true y known = known
  at_known (Told false) true y known = known
  at_known f accessible y known = known

  call_known : (q : Kind) (t : Tolerance) (is_open : Bool) (k : Call) (y : Content) → IsKnown (phase_of y.phase) → TellsKnown (call_answer_admitted q t is_open k y)
  call_known q t is_open k y known = by (begins_run q t is_open k y.phase)
    where
      left : (declined : Bool) → IsKnown (phase_of (if declined then record { phase = phase_reached q is_open y.phase NoRun; value = y.value } else y).phase)
      left true = record { below = omega arith }
      left false = known

      by : (b : Bool) → TellsKnown (if b then answer.Running else answer_at (form_of q k) (is_accessible q (content_asked q t is_open k y).phase) (content_asked q t is_open k y))
      by true = tt
      by false = at_known (form_of q k) (is_accessible q (content_asked q t is_open k y).phase) (content_asked q t is_open k y) (left (is_declined q t k is_open y.phase))

  turn_known : (n : LockNature) (c : ℕ) → TellsKnown (turn_answer_admitted n c)
  turn_known nature.None c = tt
  turn_known n c = tt

  admitted_known : (q : Kind) (t : Tolerance) (c : ℕ) (is_open : Bool) (w : Want) (y : Content) → IsKnown (phase_of y.phase) → TellsKnown (answer_admitted q t c is_open w y)
  admitted_known q t c is_open (Calls k) y known = call_known q t is_open k y known
  admitted_known q t c is_open Turns y known = turn_known (lock_wanted q t Turns y.phase) c

  barred_known : (fast : Bool) (x : Place) (way : How) → TellsKnown (answer_barred fast x way)
  barred_known false place.Park way = tt
  barred_known fast x way = tt

  attempt_known : (x : CellPlan) (w : Want) (m : Meeting) (chosen : Bool) → IsKnown (phase_of m.content.phase) → TellsKnown (answer_of_attempt x w m chosen)
  attempt_known x w m chosen known = by (initializes x.kind w && m.own_run) (not m.kept && is_barred (lock_wanted x.kind (tolerance_of x) w m.content.phase) m.holding)
    where
      way : How
      way = way_parked x.kind w (drains_by (lock_wanted x.kind (tolerance_of x) w m.content.phase) m.holding chosen)

      by : (a b : Bool) → TellsKnown (if a then answer.Cyclic else if b then answer_barred (is_fast w) x.place way else answer_admitted x.kind (tolerance_of x) m.cell m.is_open w m.content)
      by true b = tt
      by false true = barred_known (is_fast w) x.place way
      by false false = admitted_known x.kind (tolerance_of x) m.cell m.is_open w m.content known

  look_known : (l : Look) → TellsKnown (answer_of_look l)
  look_known (look.Round n) = tt
  look_known look.Closed = tt

  tried_known : (h : List Event) (p : ℕ) (a : Option Attempt) (ws : List Wait) (chosen : Bool) → TellsKnown (due_tried cells h p a ws chosen)
  tried_known h p None ws chosen = look_known (look_at (registry cells h).pending)
  tried_known h p (Some a) ws chosen = attempt_known (cell_at cells a.cell) a.want (meeting cells h p a ws) chosen (published_known a.cell h)

  form_known : (f : Form) (v p : ℕ) → IsKnown (phase_of p) → TellsKnown (answer_made f v p)
  form_known (Told tests) v p known = known
  form_known (Held true falls_back) v p known = tt
  form_known f v p known = tt

  made_known : (q : Kind) (w : Want) (v p : ℕ) → IsKnown (phase_of p) → TellsKnown (answer_of_made q w v p)
  made_known q (Calls k) v p known = form_known (form_of q k) v p known
  made_known q Turns v p known = tt

  section_known : (h : List Event) (v : ℕ) (s : Option Section) → TellsKnown (due_made cells h v s)
  section_known h v None = tt
  section_known h v (Some s) =
      made_known (cell_at cells s.cell).kind s.want v (phase_made cells h s)
      (change_known (cell_at cells s.cell) (Ran s.is_open (Some v)) (replay cells s.cell h) (published_known s.cell h))

  finished_known : (h : List Event) (fine : Bool) (s : Option Section) → TellsKnown (due_finished cells h fine s)
  finished_known h fine None = tt
  finished_known h fine (Some s) = change_known (cell_at cells s.cell) (Ended fine None) (replay cells s.cell h) (published_known s.cell h)

  seen_known : (h : List Event) (x : Option Guard) → TellsKnown (due_look cells h x)
  seen_known h None = tt
  seen_known h (Some x) = tt

  clone_known : (h : List Event) (ws : List Wait) (x : Option Guard) → TellsKnown (due_clone cells h ws x)
  clone_known h ws None = tt
  clone_known h ws (Some x) = by (is_barred nature.Read (holding_with x.cell h ws))
    where
      by : (b : Bool) → TellsKnown (if b then answer.Borrowed else answer.ReadGuard)
      by true = tt
      by false = tt

  lent_known : (q : Kind) (y : Content) → IsKnown (phase_of y.phase) → TellsKnown (answer_lent q y)
  lent_known q y known = at_known Shown (is_accessible q y.phase) y known

  made_to_lend_known : (x : CellPlan) (is_open : Bool) (made : Option ℕ) (y : Content) → IsKnown (phase_of y.phase) → TellsKnown (answer_made_to_lend x.kind (tolerance_of x) is_open made y)
  made_to_lend_known x is_open made y known = by (asks_to_lend x.kind (tolerance_of x) y.phase && is_none made)
    where
      by : (b : Bool) → TellsKnown (if b then answer.Failed else answer_lent x.kind (content_to_lend x.kind (tolerance_of x) is_open made y))
      by true = tt
      by false = lent_known x.kind (content_to_lend x.kind (tolerance_of x) is_open made y) (change_known x (RanIfAsked is_open made) y known)

  due_known : (h : List Event) (p : ℕ) (a : Act) (ws : List Wait) (chosen : Bool) → TellsKnown (due_answer cells h (record { party = p; act = a }) ws chosen)
  due_known h p (act.Call c k) ws chosen = tried_known h p (attempt cells h (record { party = p; act = act.Call c k })) ws chosen
  due_known h p act.Again ws chosen = tried_known h p (attempt cells h (record { party = p; act = act.Again })) ws chosen
  due_known h p (act.Made v) ws chosen = section_known h v (innermost p (sections h))
  due_known h p (act.Finished left) ws chosen = finished_known h true (innermost p (sections h))
  due_known h p (act.FinishFailed left) ws chosen = finished_known h false (innermost p (sections h))
  due_known h p (act.GetMut c made left) ws chosen = made_to_lend_known (cell_at cells c) (accepts h) made (replay cells c h) (published_known c h)
  due_known h p (act.TryGetMut c left) ws chosen = lent_known (cell_at cells c).kind (replay cells c h) (published_known c h)
  due_known h p act.Exit ws chosen = tried_known h p (attempt cells h (record { party = p; act = act.Exit })) ws chosen
  due_known h p (act.Look g) ws chosen = seen_known h (numbered g (guards h))
  due_known h p (act.Clone g) ws chosen = clone_known h ws (numbered g (guards h))
  due_known h p a ws chosen = tt

  -- a legal line tells no other phase
  pub line_known : (h : List Event) (s : Step) (l : Line) → IsLegalLine cells h s l → TellsKnown l.answer
  line_known h s l legal = subst TellsKnown (sym legal.answered) (by (refusal cells h s))
    where
      at : (m : Moment) → TellsKnown (due_at cells m h s l.given legal.chosen)
      at First = due_known h s.party s.act (waits_given cells h s l.given (other_waits cells h s)) legal.chosen
      at Last = due_known h s.party s.act (other_waits cells h s) legal.chosen

      by : (r : Option Refusal) → TellsKnown (answer_of r (due_at cells legal.moment h s l.given legal.chosen))
      by (Some r) = tt
      by None = at legal.moment
