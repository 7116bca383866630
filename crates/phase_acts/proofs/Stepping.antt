-- From the rows of a history to those of the longer one.
use Rattle.phase_acts.proofs.Words.{◌+◌, ◌<◌, ◌∙◌, ◌∷◌, ◌≡◌, Act, Answer, ap, arith, cell_concerned, CellPlan, due_answer, Event, event, false, Given, Guard, guard_row, guarded}
use Rattle.phase_acts.proofs.Words.{HasStepped, Holders, IsAwake, IsLegalLine, IsNext, IsTrue, Kept, KeptGuards, KeptWith, length, Line, List, LockerKind, may_give_last, MayGive}
use Rattle.phase_acts.proofs.Words.{names_known_cell, None, numbered, other_waits, pushed_free, Pushes, ReadTicket, refl, Refusal, refusal, refused_stays, Rests, Rows, Some}
use Rattle.phase_acts.proofs.Words.{Standing, standing, Stands, Step, step_of, subst, sym, true, vec_capacity, waits, WriteTicket, ℕ}
use Rattle.phase_locker.specs.Natures.{read_ticket, write_ticket}
use Rattle.phase_locker.specs.declared.ways.Given.TheVariants as given
use Rattle.schedule_rules.specs.declared.line.Answer.TheVariants as answer
use Rattle.phase_moves.specs.declared.rows.GuardRow.TheVariants as guard
use Rattle.phase_acts.proofs.Exclusive.{exclusive}
use Rattle.phase_acts.proofs.Lines.{gave_freed, legal_last, legal_refused}

-- ---- what several moves in a row keep

module _ {L : Type 0} {a b c : Rows L} where
  kept_both : Kept a b → Kept b c → Kept a c
  kept_both x y = record { cells = y.cells ∙ x.cells; parties = y.parties ∙ x.parties; turns = y.turns ∙ x.turns }

  pub guards_both : KeptGuards a b → KeptGuards b c → KeptGuards a c
  guards_both x y = record { kept = kept_both x.kept y.kept; guards = y.guards ∙ x.guards }

  -- moves that leave the rows of guards, and one that pushes one
  pub guards_with : KeptGuards a b → KeptWith 1 b c → KeptWith 1 a c
  guards_with x y = record { kept = kept_both x.kept y.kept; guards = y.guards ∙ ap (λ (v : _). length v.items + 1) x.guards; room = y.room ∙ ap (λ (v : _). vec_capacity v) x.guards }

  -- a guard is taken, and then a row is pushed
  pub none_with : KeptWith 0 a b → KeptWith 1 b c → KeptWith 1 a c
  none_with x y = record { kept = kept_both x.kept y.kept; guards = let e = x.guards in let f = y.guards in omega (arith, e, f); room = y.room ∙ x.room }

-- their number
pub same_guards : {L : Type 0} {a b : Rows L} → KeptGuards a b → length b.guards.items ≡ length a.guards.items
same_guards x = ap (λ (v : _). length v.items) x.guards

-- there is room for a row still
pub guards_room : {L : Type 0} {a b : Rows L} → KeptGuards a b → length a.guards.items < vec_capacity a.guards → length b.guards.items < vec_capacity b.guards
guards_room x lt = subst (λ (v : _). length v.items < vec_capacity v) (sym x.guards) lt

-- ---- the row of the guard that a step opened is pushed

-- the guard opened last is found by its number
pub opened_found : (n : ℕ) (x : Guard) (m : Standing) → x.number ≡ n → numbered n (guarded x m).guards ≡ Some x
opened_found n x m e = grind (arith, e)

module _ {L : Type 0} {held : L → Holders} {place : L → LockerKind} {mid : Rows L} (new : Rows L) {n : ℕ} (count : length mid.guards.items ≡ n) (x : Guard) (q d : ℕ) (party : q ≡ x.party) (at : d ≡ x.cell) (m : Standing) (number : x.number ≡ n) (t : Stands held place n (guarded x m) mid) where
  shown : guard_row (Some x) ≡ guard_row (numbered (length mid.guards.items) (guarded x m).guards)
  shown = ap guard_row (sym (ap (λ i. numbered i (guarded x m).guards) count ∙ opened_found n x m number))

  -- of a read guard
  pub pushed_reader : x.writes ≡ false → (l : ReadTicket) → Pushes held place mid (guard.Read q d l) new → Rests held place (guarded x m) new
  pushed_reader reads l push = push (guarded x m) (subst (λ i. Stands held place i (guarded x m) mid) (sym count) t) ((λ i. guard.Read (party i) (at i) read_ticket) ∙ sym (row x reads) ∙ shown)
    where
      row : (x : Guard) → x.writes ≡ false → guard_row (Some x) ≡ guard.Read x.party x.cell read_ticket
      row x w = rw w refl

  -- of a write guard
  pub pushed_writer : x.writes ≡ true → (l : WriteTicket) → Pushes held place mid (guard.Write q d l) new → Rests held place (guarded x m) new
  pushed_writer writes l push = push (guarded x m) (subst (λ i. Stands held place i (guarded x m) mid) (sym count) t) ((λ i. guard.Write (party i) (at i) write_ticket) ∙ sym (row x writes) ∙ shown)
    where
      row : (x : Guard) → x.writes ≡ true → guard_row (Some x) ≡ guard.Write x.party x.cell write_ticket
      row x w = rw w refl

-- ---- a step

module _ {L : Type 0} {held : L → Holders} {place : L → LockerKind} {cells : List CellPlan} {h : List Event} {old : Rows L} {s : Step} (n : IsNext held place cells h old s) {new : Rows L} where
  -- it was made, with a legal line
  pub stepped : (l : Line) (m : Standing) → standing cells (record { step = s; line = l } ∷ h) ≡ m → Rests held place m new → KeptWith 1 old new → IsLegalLine cells h s l → HasStepped held place cells h old s l new
  stepped l m e rests k legal =
      let r : Rests held place (standing cells (record { step = s; line = l } ∷ h)) new = subst (λ x. Rests held place x new) (sym e) rests in
      record {
        follows =
            record {
              rests = r;
              legal = (legal, exclusive held place (length new.guards.items) cells (record { step = s; line = l } ∷ h) new r.stands, n.follows.legal);
              steps = (let a = n.follows.steps in let b = k.guards in omega (arith, a, b));
              planned = k.kept.cells ∙ n.follows.planned;
              placed = n.follows.placed;
              turns = (let a = n.follows.turns in let b = k.kept.turns in omega (arith, a, b));
            };
        kept = k;
      }

  -- there is room for a row after moves that leave the rows of guards
  pub still_room : KeptWith 0 old new → length new.guards.items < vec_capacity new.guards
  still_room k = let a = n.room in let b = k.guards in let c = k.room in omega (arith, a, b, c)

  -- nothing was done yet
  pub still_next : KeptWith 0 old new → Rests held place (standing cells h) new → IsNext held place cells h new s
  still_next k rests =
      record {
        follows =
            record {
              rests = rests;
              legal = n.follows.legal;
              steps = (let a = n.follows.steps in let b = k.guards in omega (arith, a, b));
              planned = k.kept.cells ∙ n.follows.planned;
              placed = n.follows.placed;
              turns = (let a = n.follows.turns in let b = k.kept.turns in omega (arith, a, b));
            };
        known =
            record {
              party = (let a = n.known.party in let b = k.kept.parties in omega (arith, a, b));
              cell = subst (λ i. IsTrue (names_known_cell i s.act)) (sym k.kept.cells) n.known.cell;
            };
        room = still_room k;
      }

  -- it is to be refused
  pub refused : (r : Refusal) (l : Line) → l ≡ record { answer = answer.Refused r; given = given.Nobody } → Pushes held place old guard.Free new → KeptWith 1 old new → refusal cells h s ≡ Some r → HasStepped held place cells h old s l new
  refused r l l_is push k some =
      let f = n.follows.rests in
      subst (λ x. HasStepped held place cells h old s x new) (sym l_is) (stepped _ (standing cells h) (refused_stays cells h s.party s.act r given.Nobody) (pushed_free held place _ (standing cells h) old new f.stands f.empty push) k (legal_refused cells h s r some))

  -- it was made on the rows after moves that did nothing yet
  pub stepped_on : KeptWith 0 old new → (l : Line) (last : Rows L) → HasStepped held place cells h new s l last → HasStepped held place cells h old s l last
  stepped_on k l last done = record { follows = done.follows; kept = none_with k done.kept }

-- ---- the step of a party that does not wait, which is not refused, and answers and gives this

module _ {L : Type 0} {held : L → Holders} {place : L → LockerKind} {cells : List CellPlan} {h : List Event} {old : Rows L} {p : ℕ} {act : Act} (is : IsAwake held place cells h old p act) (none : refusal cells h (step_of p act) ≡ None) (a : Answer) (d : Given)
    (due : due_answer cells h (step_of p act) (other_waits cells h (step_of p act)) false ≡ a) (line : Line) (line_is : line ≡ record { answer = a; given = d }) {new : Rows L} (kept : KeptWith 1 old new) where
  abbrev after : Given → Standing
  after b = standing cells (event p act (record { answer = a; given = b }) ∷ h)

  -- it leaves this open
  pub ended_so : (m : Standing) → after d ≡ m → Rests held place m new → may_give_last cells h (step_of p act) a d ≡ true → HasStepped held place cells h old (step_of p act) line new
  ended_so m eq rests gave = subst (λ l. HasStepped held place cells h old (step_of p act) l new) (sym line_is) (stepped is.next (record { answer = a; given = d }) m eq rests kept (legal_last cells h (step_of p act) a d none due gave))

  -- and no guard is opened by it
  module _ (hand : ℕ) (mid : Rows L) (push : Pushes held place mid guard.Free new) where
    pub ended_free : (m : Standing) → after d ≡ m → Stands held place hand m mid → numbered hand m.guards ≡ None → may_give_last cells h (step_of p act) a d ≡ true → HasStepped held place cells h old (step_of p act) line new
    ended_free m eq stands empty gave = ended_so m eq (pushed_free held place hand m mid new stands empty push) gave

    -- and what it gives may be given where nothing stands on its cell
    pub ended_giving : (m : Given → Standing) → ((b : Given) → after b ≡ m b) → Stands held place hand (m d) mid → numbered hand (m d).guards ≡ None → (c : ℕ) → cell_concerned cells h (step_of p act) ≡ Some c → MayGive c (m given.Nobody) d
        → waits cells (event p act (record { answer = a; given = given.Nobody }) ∷ h) ≡ other_waits cells h (step_of p act) → HasStepped held place cells h old (step_of p act) line new
    ended_giving m eq stands empty c concerned gave same = ended_free (m d) (eq d) stands empty (gave_freed cells h p act a c concerned d (subst (λ z. MayGive c z d) (sym (eq given.Nobody)) gave) same)
