-- One more read guard beside another.
use Rattle.phase_acts.proofs.Words.{◌+◌, ◌<◌, ◌==◌, ◌∙◌, ◌≡◌, ap, arith, Bool, cases_lt, CellPlan, clone_barred, clone_beside, cloned, Clones, ClonesAs, count, drains_on}
use Rattle.phase_acts.proofs.Words.{due_clone, Event, false, found_counts, Guard, guard_of, guards, HasStepped, Held, Holders, holding_with, HoldsBy, if◌then◌else◌, inl, inr}
use Rattle.phase_acts.proofs.Words.{is_barred, IsAwake, IsFull, IsOpenReader, KeptGuards, KeptWith, length, Line, List, LockerKind, MayClone, most_readers, nat_lt, no_reader, None}
use Rattle.phase_acts.proofs.Words.{numbered, Option, other_waits, Pushes, reads_cell, reads_here, reads_in, ReadTicket, refl, refusal, Rows, Seen, shares_read, shares_write, Some}
use Rattle.phase_acts.proofs.Words.{Standing, standing, Stands, step_of, subst, sym, true, waits, writes_in, ℕ}
use Rattle.phase_locker.specs.declared.ways.Given.TheVariants as given
use Rattle.schedule_rules.specs.declared.line.Answer.TheVariants as answer
use Rattle.schedule_rules.specs.declared.step.Act.TheVariants as act
use Rattle.phase_locker.specs.declared.tickets.LockNature.TheVariants as nature
use Rattle.phase_moves.specs.declared.rows.GuardRow.TheVariants as guard
use Rattle.phase_moves.proofs.Opening.{seen_reader}
use Rattle.phase_acts.proofs.Exclusive.{Excludes, excludes}
use Rattle.phase_acts.proofs.Holding.{Shows, found_of, has, has_one}
use Rattle.phase_acts.proofs.Lines.{others_all}
use Rattle.phase_acts.proofs.Stepping.{ended_free, ended_so, guards_with, pushed_reader, same_guards}

-- readers at their limit bar a reader
full_bars : (w d : Bool) (r : ℕ) → r ≡ most_readers → is_barred nature.Read (record { readers = r; written = w; drained = d }) ≡ true
full_bars w d r e = grind (arith, e)

-- one more reader is not barred beside another, where nothing writes and the limit is not reached
beside_reader : (w r : ℕ) (d : Bool) → w ≡ 0 → 0 < r → r < most_readers → is_barred nature.Read (record { readers = r; written = nat_lt 0 w; drained = d }) ≡ false
beside_reader w r true none some less = grind (arith, none, some, less)
beside_reader w r false none some less = grind (arith, none, some, less)

module _ {L : Type 0} {held : L → Holders} {place : L → LockerKind} {old : Rows L} {p g : ℕ} {cells : List CellPlan} {h : List Event} (is : IsAwake held place cells h old p (act.Clone g)) (r : Option Held) (by : HoldsBy held place old p g r) (y : Held) (e : r ≡ Some y) (w : y.writes ≡ false) where
  abbrev m : Standing
  m = standing cells h

  abbrev n : ℕ
  n = length old.guards.items

  abbrev f : Shows (standing cells h) (guard_of g p (guards h)) y
  f = has is g r by y e

  is_open_reader : IsOpenReader held place m old g f.x
  is_open_reader = record { rests = is.next.follows.rests; found = (found_of g p (guards h) f.x f.is).0; reads = sym f.writes ∙ w }

  pub may_clone : MayClone held place old g y.cell
  may_clone = record { m = m; x = f.x; is = is_open_reader; at = sym f.at }

  -- it reads its cell
  some_read : 0 < reads_in f.x.cell m
  some_read = found_counts (λ (z : Guard). z.number == g) (reads_cell f.x.cell) (guards h) f.x is_open_reader.found (reads_here f.x is_open_reader.reads)

  free : refusal cells h (step_of p (act.Clone g)) ≡ None
  free = has_one is g r by no_reader refl y e false w

  due_is : (b : Bool) → is_barred nature.Read (holding_with f.x.cell h (waits cells h)) ≡ b → due_clone cells h (other_waits cells h (step_of p (act.Clone g))) (numbered g (guards h)) ≡ (if b then answer.Borrowed else answer.ReadGuard)
  due_is b barred = ap (due_clone cells h (other_waits cells h (step_of p (act.Clone g)))) is_open_reader.found ∙ ap (λ ws. if is_barred nature.Read (holding_with f.x.cell h ws) then answer.Borrowed else answer.ReadGuard) (others_all cells h p is.awake (act.Clone g)) ∙ ap (λ c. if c then answer.Borrowed else answer.ReadGuard) barred

  module _ (mid new : Rows L) (result : Option ReadTicket) (clones : Clones held place old g y.cell result mid) (between : KeptGuards old mid) (last : KeptWith 1 mid new) (line : Line) where
    pub borrowed : result ≡ None → line ≡ record { answer = answer.Borrowed; given = given.Nobody } → Pushes held place mid guard.Free new → HasStepped held place cells h old (step_of p (act.Clone g)) line new
    borrowed none line_is push =
        let k : Stands held place n m mid × IsFull f.x.cell m = subst (λ o. ClonesAs held place old m f.x o mid) none (clones m f.x is_open_reader (sym f.at)) in
        ended_free is free answer.Borrowed given.Nobody (due_is true (full_bars _ _ _ k.1)) line line_is (guards_with between last) n mid push m (clone_barred cells h p is.awake g) k.0 is.next.follows.rests.empty refl

    pub cloned_beside : (t : ReadTicket) → result ≡ Some t → line ≡ record { answer = answer.ReadGuard; given = given.Nobody } → Pushes held place mid (guard.Read p y.cell t) new → HasStepped held place cells h old (step_of p (act.Clone g)) line new
    cloned_beside t some line_is push =
        let k : Stands held place n (cloned n f.x m) mid = subst (λ o. ClonesAs held place old m f.x o mid) some (clones m f.x is_open_reader (sym f.at)) in
        let after = (excludes held place n (cloned n f.x m) mid k f.x.cell).limit in
        let one_more : reads_in f.x.cell (cloned n f.x m) ≡ reads_in f.x.cell m + 1 = ap (λ (z : Seen). z.reads) (seen_reader n f.x.party f.x.cell m) in
        let none = unwritten (excludes held place n m old is.next.follows.rests.stands f.x.cell) in
        let reads = some_read in
        let free_to_read = beside_reader _ (reads_in f.x.cell m + count (shares_read f.x.cell) m.waits) (nat_lt 0 (count (drains_on f.x.cell) m.waits)) none (omega (arith, reads)) (omega (arith, after, one_more)) in
        ended_so is free answer.ReadGuard given.Nobody (due_is false free_to_read) line line_is (guards_with between last) (cloned n f.x m) (clone_beside cells h p is.awake g f.x f.is ∙ ap (λ i. cloned i f.x m) (sym is.next.follows.steps))
        (pushed_reader new (same_guards between) _ p y.cell (sym (found_of g p (guards h) f.x f.is).1) f.at m refl k refl t push) refl
      where
        unwritten : Excludes m f.x.cell → writes_in f.x.cell m + count (shares_write f.x.cell) m.waits ≡ 0
        unwritten before =
            elim (cases_lt 0 (writes_in f.x.cell m + count (shares_write f.x.cell) m.waits)) [
              | inl lt ↦ (let none = before.no_reader lt in let reads = some_read in absurd (omega (arith, none, reads)))
              | inr le ↦ omega (arith, le)
            ]
