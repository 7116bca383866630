-- Runs that have made a history, and engines.
use Rattle.phase_schedule.proofs.Words.{[], ◌++◌, ◌+◌, ◌<◌, ◌∙◌, ◌∷◌, ◌≡◌, ◌≤◌, ap, AreFinals, arith, CanStep, cell_at, CellPlan, CellRow, common_steps, core, Ending, Ends, Event}
use Rattle.phase_schedule.proofs.Words.{final_of_row, Follows, Frame, get_or, HasMade, history, Holders, IsCell, IsStanding, kind_at, length, Line, List, LockerKind, NamesKnown}
use Rattle.phase_schedule.proofs.Words.{plans_of, Progress, Rows, seen_at, slice_get-get_or, Some, Standing, standing, standing_of, Step, subst, sym, TellsKnown, told}
use Rattle.phase_schedule.proofs.Words.{vec_capacity, ℕ}
use Rattle.phase_schedule.specs.Progress.{Steps}
use Rattle.std.specs.Prelude.{map}
use Rattle.phase_schedule.specs.declared.engine.Engine.TheInside.{Inside}
use Rattle.phase_schedule.specs.Inside.{frame_of}
use Rattle.phase_schedule.proofs.Finals.{finals_are, finals_known}
use Rattle.phase_schedule.proofs.Phases.{line_known}
use Rattle.phase_schedule.proofs.Records.{record_is}
use Rattle.phase_schedule.proofs.Rows.{cell_is, plans_are}
use Rattle.phase_schedule.proofs.Told.{event, told_count, told_more}

-- as much room
pub same_room : (a b : ℕ) → b ≡ a → a ≤ b
same_room a b e = omega (arith, e)

-- the frame of a run, read off its rows
abbrev frame_in : {L : Type 0} → Progress L → Frame
frame_in p = record { parties = length p.machine.rows.parties.items; cells = plans_of p.machine.rows; count = vec_capacity p.machine.rows.guards }

module _ {L : Type 0} {held : L → Holders} {place : L → LockerKind} where
  -- ---- a run so far

  frame_is : {f : Frame} {h : List Event} {p : Progress L} → HasMade held place f h p → f ≡ frame_in p
  frame_is {f = f} {h = h} {p = p} made =
      let cells = plans_are held place f.cells h p.machine.rows made.follows in
      λ i. record { parties = sym made.parties i; cells = sym cells i; count = sym made.room i }

  -- the line that was told last tells a phase that is known
  pub told_known : {f : Frame} {h : List Event} {s : Step} {l : Line} {p : Progress L} → HasMade held place f (event s l ∷ h) p → TellsKnown l.answer
  told_known {f = f} {h = h} {s = s} {l = l} made = line_known f.cells h s l made.follows.legal.0

  -- its end
  pub ends : {f : Frame} {h : List Event} {p : Progress L} → HasMade held place f h p → (e : Ending) → e.finals.items ≡ map (final_of_row held) p.machine.rows.cells.items → e.exits.items ≡ p.machine.rows.exit.turns.items → Ends f.cells h e
  ends {f = f} {h = h} {p = p} made e finals exits =
      let are : AreFinals e.finals.items f.cells h = finals_are held place f.cells h p.machine.rows made.follows e.finals.items finals in
      record { finals = are; exits = exits ∙ made.follows.rests.stands.exit.turns_are; known = finals_known f.cells h e.finals.items are }

  -- ---- the locker of a cell

  module _ {cells : List CellPlan} {h : List Event} {v : Rows L} (f : Follows held place cells h v) (c : ℕ) (row : CellRow L) (lt : c < length cells) (is : row ≡ get_or v.cells.items c row) where
    at : IsCell held place (seen_at c (standing cells h)) v.parks c row
    at = cell_is held place cells h v f c row (slice_get-get_or v.cells.items c row (subst (λ n. c < n) (sym f.planned) lt) ∙ ap (λ x. Some x) (sym is))

    pub holds : held row.seq.locker ≡ core cells c h
    holds = record_is cells h c (length v.cells.items) (place row.seq.locker) (held row.seq.locker) v.parks f.rests.stands.waits at.locked

    pub placed : place row.seq.locker ≡ kind_at (cell_at cells c).place
    placed = at.placed

  -- ---- an engine

  -- that has made nothing
  pub stands_new : {f : Frame} (e : Inside L) → HasMade held place f [] e.progress → e.steps.items ≡ [] → e.lines.items ≡ [] → f.count ≤ vec_capacity e.steps → f.count ≤ vec_capacity e.lines → IsStanding held place e
  stands_new e made steps lines step_room line_room =
      record {
        made = subst (λ h. HasMade held place (frame_in e.progress) h e.progress) (λ i. told [] (sym steps i) (sym lines i)) (subst (λ g. HasMade held place g [] e.progress) (frame_is made) made);
        told = ap length lines ∙ ap length (sym steps);
        step_room = subst (λ (g : Frame). g.count ≤ vec_capacity e.steps) (frame_is made) step_room;
        line_room = subst (λ (g : Frame). g.count ≤ vec_capacity e.lines) (frame_is made) line_room;
      }

  -- its next step
  pub can_step : {e : Inside L} {v : Standing} → standing_of held place e ≡ v → IsStanding held place e → {s : Step} → NamesKnown v.parties (length v.cells) s → length v.steps < v.count → CanStep held place (frame_of held place e) (history (standing_of held place e)) e.progress s
  can_step {e = e} is stands {s = s} known room =
      record {
        made = stands.made;
        known = subst (λ (x : Standing). NamesKnown x.parties (length x.cells) s) (sym is) known;
        room = subst (λ n. n < (standing_of held place e).count) (sym long) (subst (λ (x : Standing). length x.steps < x.count) (sym is) room);
      }
    where
      long : length (told [] e.steps.items e.lines.items) ≡ length e.steps.items
      long =
          let same : length e.lines.items ≡ length e.steps.items = stands.told in
          let all : length (told [] e.steps.items e.lines.items) ≡ 0 + length e.lines.items = told_count [] e.steps.items e.lines.items (omega (arith, same)) in
          omega (arith, same, all)

  -- and it was made
  pub did_step : {e : Inside L} {v : Standing} → standing_of held place e ≡ v → IsStanding held place e → (s : Step) → NamesKnown v.parties (length v.cells) s → length v.steps < v.count → {l : Line} {new : Progress L} → Steps held place e.progress s l new → HasMade held place (frame_of held place e) (event s l ∷ history (standing_of held place e)) new
  did_step {e = e} is stands s known room did = did (frame_of held place e) (history (standing_of held place e)) (can_step is stands known room)

  -- a step more
  pub stands_more : {e : Inside L} → IsStanding held place e → {s : Step} {l : Line} (more : Inside L) → HasMade held place (frame_of held place e) (event s l ∷ history (standing_of held place e)) more.progress → more.steps.items ≡ e.steps.items ++ s ∷ [] → more.lines.items ≡ e.lines.items ++ l ∷ []
      → vec_capacity more.steps ≡ vec_capacity e.steps → vec_capacity more.lines ≡ vec_capacity e.lines → IsStanding held place more
  stands_more {e = e} stands {s = s} {l = l} more made steps lines step_room line_room =
      record {
        made = subst (λ h. HasMade held place (frame_of held place more) h more.progress) (sym ((λ i. told [] (steps i) (lines i)) ∙ told_more [] e.steps.items e.lines.items s l stands.told)) (subst (λ g. HasMade held place g (event s l ∷ history (standing_of held place e)) more.progress) (frame_is made) made);
        told = let all : _ = stands.told in rw (steps, lines) (longer e.steps.items e.lines.items all);
        step_room = let old : _ = stands.step_room in let kept : _ = made.room in omega (arith, old, kept, step_room);
        line_room = let old : _ = stands.line_room in let kept : _ = made.room in omega (arith, old, kept, line_room);
      }
    where
      longer : (ss : List Step) (ls : List Line) → length ls ≡ length ss → length (ls ++ l ∷ []) ≡ length (ss ++ s ∷ [])
      longer ss ls all = grind (arith, common_steps, all)

  pub cells_stay : (e : Inside L) {h : List Event} {new : Progress L} → HasMade held place (frame_of held place e) h new → plans_of new.machine.rows ≡ plans_of e.progress.machine.rows
  cells_stay e {h = h} {new = new} made = plans_are held place (frame_of held place e).cells h new.machine.rows made.follows
