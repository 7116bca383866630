-- What an attempt took is kept, or given back.
use Rattle.phase_acts.proofs.Words.{[], ◌==◌, ◌∙◌, ◌∷◌, ◌≡◌, Answer, answer_left, answer_settled, answer_tried, answered, ap, arith, Asked, Bool, Calls, cell_at, CellPlan, CellRow}
use Rattle.phase_acts.proofs.Words.{changes_asked, changes_at, Content, content_tried, downgraded, Downgrades, effect, false, free_party, get_or, Given, given_first, GivesDown}
use Rattle.phase_acts.proofs.Words.{GivesRead, GivesSettled, GivesWrite, Guard, Holders, if◌then◌else◌, is_declined, IsCell, IsReader, IsSettled, IsSettling, IsWriter, KeptGuards}
use Rattle.phase_acts.proofs.Words.{LeavesRead, LeavesWrite, left, left_empty, length, Line, List, LockerKind, MatchBool, MayDowngrade, MayGive, MayGiveDown, MayLeaveRead}
use Rattle.phase_acts.proofs.Words.{MayLeaveWrite, none_on, number, Phase, phase_asked, pushed_free, Pushes, read_at, reader, reads_on, ReadTicket, refl, Rests, Rows, seen_at}
use Rattle.phase_acts.proofs.Words.{settled, Skips, Standing, Stands, subst, sym, Taken, Target, tolerance_of, took, true, Turns, wait_removed, Want, without_wait, writer_asked}
use Rattle.phase_acts.proofs.Words.{writes_on, WriteTicket, ℕ}
use Rattle.phase_locker.specs.declared.ways.Given.TheVariants as given
use Rattle.phase_moves.specs.declared.rows.GuardRow.TheVariants as guard
use Rattle.phase_moves.specs.declared.rows.Taken.TheVariants as taken
use Rattle.phase_acts.proofs.Stepping.{pushed_reader, pushed_writer, same_guards}

-- what a call was asked leaves the value
value_asked : (x : CellPlan) (w : Want) (o : Bool) (y : Content) → (effect x (changes_asked x w o y) y).value ≡ y.value
value_asked x Turns o y = refl
value_asked x (Calls k) o y = by (is_declined x.kind (tolerance_of x) k o y.phase) refl
  where
    by : (b : Bool) → is_declined x.kind (tolerance_of x) k o y.phase ≡ b → (effect x (if b then Asked o k ∷ [] else []) y).value ≡ y.value
    by false e = refl
    by true e = rw e refl

-- given first, where nothing comes after
pub first_alone : (g : Given) → given_first g given.Nobody ≡ g
first_alone g = grind (arith)

-- itself
itself : (n : ℕ) → (n == n) ≡ true
itself n = grind arith

module _ {L : Type 0} (held : L → Holders) (place : L → LockerKind) (m : Standing) (old new : Rows L) (p : ℕ) (t : Target) (g : Given) (line : Line) where
  abbrev n : ℕ
  n = length old.guards.items

  -- what is published then
  published : ((answered p t.cell g (changes_at t.cell t.want m) m).content t.cell).value ≡ (content_tried t.cell t.want m).value
  published = let e = itself t.cell in rw e refl

  -- the step ends with what the code reads of the cell
  module _ (b : Taken) (q : Phase) (is : IsSettling held place m old p t b g) (q_is : q ≡ phase_asked t.cell t.want m) (value : ((took n p t.cell t.want g b m).content t.cell).value ≡ (content_tried t.cell t.want m).value) (plans : (took n p t.cell t.want g b m).plans ≡ m.plans)
      (row : CellRow L) (row_is : row ≡ get_or old.cells.items t.cell row) (a : Answer) (a_is : a ≡ answer_left row.plan.kind t.cell t.want (record { phase = number q; value = row.value })) where
    here : IsCell held place (seen_at t.cell (took n p t.cell t.want g b m)) old.parks t.cell row
    here = is.stands.cell t.cell row (read_at old.cells.items t.cell row is.cell row_is)

    answered_as : a ≡ answer_tried t.cell t.want m
    answered_as =
        a_is
        ∙ (λ i. answer_left (here.planned i).kind t.cell t.want (record { phase = number (q_is i); value = (here.valued ∙ value) i }))
        ∙ ap (λ (cs : List CellPlan). answer_left (cell_at cs t.cell).kind t.cell t.want (content_tried t.cell t.want m)) plans

    -- what the answer says of a guard
    says : (f : Answer → Bool) (z : Bool) → f a ≡ z → f (answer_tried t.cell t.want m) ≡ z
    says f z e = ap f (sym answered_as) ∙ e

    settled_as : (d : Given) → line ≡ record { answer = a; given = given_first g d } → Rests held place (settled n p t.cell t.want g d b m) new → GivesSettled n p t.cell t.want g d b m → answer_settled t.cell t.want b m ≡ answer_tried t.cell t.want m → IsSettled held place n m p t b g line new
    settled_as d line_is rests gave so = record { last = d; line = line_is ∙ (λ i. record { answer = (answered_as ∙ sym so) i; given = given_first g d }); rests = rests; gave = gave }

  -- nothing is given after
  alone : (a : Answer) → line ≡ record { answer = a; given = g } → line ≡ record { answer = a; given = given_first g given.Nobody }
  alone a e = e ∙ ap (λ d. record { answer = a; given = d }) (sym (first_alone g))

  -- ---- nothing was wanted

  module _ (q : Phase) (is : IsSettling held place m old p t (taken.Nothing q) g) (row : CellRow L) (row_is : row ≡ get_or old.cells.items t.cell row) (a : Answer) (a_is : a ≡ answer_left row.plan.kind t.cell t.want (record { phase = number q; value = row.value })) (line_is : line ≡ record { answer = a; given = g }) where
    settled_nothing : (w : Want) → t.want ≡ w → Rests held place (settled n p t.cell w g given.Nobody (taken.Nothing q) m) new → IsSettled held place n m p t (taken.Nothing q) g line new
    settled_nothing w e rests = settled_as (taken.Nothing q) q is is.told published refl row row_is a a_is given.Nobody (alone a line_is) (subst (λ v. Rests held place (settled n p t.cell v g given.Nobody (taken.Nothing q) m) new) (sym e) rests) refl refl

    stands_nothing : (w : Want) → t.want ≡ w → Stands held place n (took n p t.cell w g (taken.Nothing q) m) old
    stands_nothing w e = subst (λ v. Stands held place n (took n p t.cell v g (taken.Nothing q) m) old) e is.stands

    pub settles_call : (k : _) → t.want ≡ Calls k → Pushes held place old guard.Free new → IsSettled held place n m p t (taken.Nothing q) g line new
    settles_call k e push = settled_nothing (Calls k) e (pushed_free held place n (took n p t.cell (Calls k) g (taken.Nothing q) m) old new (stands_nothing (Calls k) e) is.empty push)

    pub settles_skip : t.want ≡ Turns → (mid : Rows L) → Skips held place old t.cell mid → Pushes held place mid guard.Free new → IsSettled held place n m p t (taken.Nothing q) g line new
    settles_skip e mid skips push = settled_nothing Turns e (pushed_free held place n (settled n p t.cell Turns g given.Nobody (taken.Nothing q) m) mid new (skips n (took n p t.cell Turns g (taken.Nothing q) m) (stands_nothing Turns e)) is.empty push)

  -- ---- a lock to read

  module _ (l : ReadTicket) (q : Phase) (is : IsSettling held place m old p t (taken.Read l q) g) where
    abbrev took_read : Standing
    took_read = took n p t.cell t.want g (taken.Read l q) m

    is_reader : IsReader held place n took_read old (reader n p t.cell) t.cell
    is_reader = record { stands = is.stands; found = (let i = itself n in rw i refl); at = refl; reads = refl }

    pub may_give_read : MayLeaveRead held place old t.cell
    may_give_read = record { hand = n; m = took_read; x = reader n p t.cell; is = is_reader }

    module _ (row : CellRow L) (row_is : row ≡ get_or old.cells.items t.cell row) (a : Answer) (a_is : a ≡ answer_left row.plan.kind t.cell t.want (record { phase = number q; value = row.value })) where
      read_settled : (r : Bool) → reads_on a ≡ r → (d : Given) → line ≡ record { answer = a; given = given_first g d } → Rests held place (if r then took_read else left (reader n p t.cell) d took_read) new → MatchBool r (d ≡ given.Nobody) (MayGive t.cell (left (reader n p t.cell) given.Nobody took_read) d) → IsSettled held place n m p t (taken.Read l q) g line new
      read_settled r reads d line_is rests gave =
          let e = says (taken.Read l q) q is is.told published refl row row_is a a_is reads_on r reads in
          settled_as (taken.Read l q) q is is.told published refl row row_is a a_is d line_is (subst (λ b. Rests held place (if b then took_read else left (reader n p t.cell) d took_read) new) (sym e) rests)
          (subst (λ b. MatchBool b (d ≡ given.Nobody) (MayGive t.cell (left (reader n p t.cell) given.Nobody took_read) d)) (sym e) gave) refl

      pub keeps_read : reads_on a ≡ true → line ≡ record { answer = a; given = g } → Pushes held place old (guard.Read p t.cell l) new → IsSettled held place n m p t (taken.Read l q) g line new
      keeps_read reads line_is push = read_settled true reads given.Nobody (alone a line_is) (pushed_reader new refl (reader n p t.cell) p t.cell refl refl _ refl is.stands refl l push) refl

      pub leaves_read : reads_on a ≡ false → (mid : Rows L) (d : Given) → LeavesRead held place old t.cell d mid → GivesRead held place old t.cell d → line ≡ record { answer = a; given = given_first g d } → Pushes held place mid guard.Free new → IsSettled held place n m p t (taken.Read l q) g line new
      leaves_read lacks mid d leaves gives line_is push =
          read_settled false lacks d line_is (pushed_free held place n (left (reader n p t.cell) d took_read) mid new (leaves n took_read (reader n p t.cell) is_reader) (left_empty held place n took_read old (reader n p t.cell) d is.stands is_reader.found) push) (gives n took_read (reader n p t.cell) is_reader)

  -- ---- the lock to write

  module _ (l : WriteTicket) (q : Phase) (is : IsSettling held place m old p t (taken.Write l q) g) where
    abbrev took_write : Standing
    took_write = took n p t.cell t.want g (taken.Write l q) m

    abbrev x : Guard
    x = writer_asked n p t.cell (changes_at t.cell t.want m)

    is_writer : IsWriter held place n took_write old x t.cell
    is_writer = record { stands = is.stands; found = (let i = itself n in rw i refl); at = refl; writes = refl }

    pub may_give_write : MayLeaveWrite held place old t.cell
    may_give_write = record { hand = n; m = took_write; x = x; is = is_writer }

    -- its party waits no longer, so there is a free row
    pub may_read_on : MayDowngrade held place old t.cell
    may_read_on =
        let lt = is.party in
        let rows = is.stands.sizes.rows in
        record { hand = n; m = took_write; x = x; is = is_writer; room = free_party p took_write.waits old.parks is.stands.waits.shows (none_on p t.cell g (without_wait p m.waits) (wait_removed p m.waits)) (omega (arith, lt, rows)) }

    module _ (row : CellRow L) (row_is : row ≡ get_or old.cells.items t.cell row) (a : Answer) (a_is : a ≡ answer_left row.plan.kind t.cell t.want (record { phase = number q; value = row.value })) where
      abbrev kept_as : Bool → Bool → Given → Standing
      kept_as w r d = if w then took_write else (if r then downgraded n x d took_write else left x d took_write)

      abbrev GivesKept : Bool → Bool → Given → Type 0
      GivesKept w r d = MatchBool w (d ≡ given.Nobody) (MatchBool r (MayGiveDown t.cell took_write d) (MayGive t.cell (left x given.Nobody took_write) d))

      write_settled : (w : Bool) → writes_on a ≡ w → (r : Bool) → reads_on a ≡ r → (d : Given) → line ≡ record { answer = a; given = given_first g d } → Rests held place (kept_as w r d) new → GivesKept w r d → IsSettled held place n m p t (taken.Write l q) g line new
      write_settled w writes r reads d line_is rests gave =
          let value = sym (value_asked (cell_at m.plans t.cell) t.want m.registry.is_open (m.content t.cell)) in
          let e = says (taken.Write l q) q is is.told value refl row row_is a a_is writes_on w writes in
          let f = says (taken.Write l q) q is is.told value refl row row_is a a_is reads_on r reads in
          settled_as (taken.Write l q) q is is.told value refl row row_is a a_is d line_is (subst (λ b. Rests held place (kept_as b (reads_on (answer_tried t.cell t.want m)) d) new) (sym e) (subst (λ b. Rests held place (kept_as w b d) new) (sym f) rests))
          (subst (λ b. GivesKept b (reads_on (answer_tried t.cell t.want m)) d) (sym e) (subst (λ b. GivesKept w b d) (sym f) gave)) refl

      pub keeps_write : writes_on a ≡ true → line ≡ record { answer = a; given = g } → Pushes held place old (guard.Write p t.cell l) new → IsSettled held place n m p t (taken.Write l q) g line new
      keeps_write writes line_is push = write_settled true writes _ refl given.Nobody (alone a line_is) (pushed_writer new refl x p t.cell refl refl _ refl is.stands refl l push) refl

      pub reads_write : writes_on a ≡ false → reads_on a ≡ true → (mid : Rows L) (d : Given) → Downgrades held place old t.cell d mid → GivesDown held place old t.cell d → KeptGuards old mid → line ≡ record { answer = a; given = given_first g d } → (i : ReadTicket) → Pushes held place mid (guard.Read p t.cell i) new → IsSettled held place n m p t (taken.Write l q) g line new
      reads_write lacks reads mid d downs gives between line_is i push =
          write_settled false lacks true reads d line_is
          (pushed_reader new (same_guards between) (reader n p t.cell) p t.cell refl refl (left x d took_write) refl (downs n n took_write x is_writer (omega arith) (left_empty held place n took_write old x d is.stands is_writer.found)) refl i push) (gives n took_write x is_writer)

      pub leaves_write : writes_on a ≡ false → reads_on a ≡ false → (mid : Rows L) (d : Given) → LeavesWrite held place old t.cell d mid → GivesWrite held place old t.cell d → line ≡ record { answer = a; given = given_first g d } → Pushes held place mid guard.Free new → IsSettled held place n m p t (taken.Write l q) g line new
      leaves_write lacks reads mid d leaves gives line_is push =
          write_settled false lacks false reads d line_is (pushed_free held place n (left x d took_write) mid new (leaves n took_write x is_writer) (left_empty held place n took_write old x d is.stands is_writer.found) push) (gives n took_write x is_writer)
