-- Tests of answers, and which answers of what is admitted pass them.
use Rattle.schedule_rules.proofs.Words.{ℕ, arith, List, ◌≡◌, Bool, true, refl, false, sym, None, ◌&&◌, length, not, ◌||◌, ◌==◌, if◌then◌else◌, Option, has, initialized, Phase}
use Rattle.schedule_rules.proofs.Words.{look_at, is_empty, LockNature, How, flags_refused, Tolerance, Call, Kind, Form, Answer, CellPlan, Place, Act, Want, Calls, Turns, cell_at}
use Rattle.schedule_rules.proofs.Words.{tolerance_at, is_owned, form_of, denies, is_accessible, runs_generator, asks, lock_wanted, Content, Event, accepts, is_turn, replay}
use Rattle.schedule_rules.proofs.Words.{refusal, answer_barred, answer_made_to_lend, answer_at, answer_lent, answer_admitted, turn_answer_admitted, answer_of_look, is_waiting}
use Rattle.schedule_rules.proofs.Words.{is_cyclic, is_closing, is_finalizing, is_access, is_skipped, is_missed, is_denied_to_lend, is_round, is_borrowed, is_running, want_denies}
use Rattle.schedule_rules.proofs.Words.{is_initializing}
use Rattle.schedule_rules.proofs.Answered.{IsShown, IsTold, admitted}

-- a test that no answer passes of a step that attempts nothing, but a clone that is barred, and one that is to lend a value which
-- may not be accessed, where the test is passed by that
pub record IsOfTries (t : Answer → Bool) (denies : Bool) : Type 0 where
  pub shown : IsShown (λ a. t a ≡ false)
  pub access : (p : Phase) → t (Answer.Access p) ≡ denies
  pub done : t Answer.Done ≡ false
  pub failed : t Answer.Failed ≡ false

-- one that no answer passes either of a step that is neither refused nor barred, nor begins a run, is told that it may not
-- access the value, or is a turn
pub record IsBeyond (t : Answer → Bool) : Type 0 where
  pub tries : IsOfTries t false
  pub err_guard : t Answer.ErrGuard ≡ false
  pub running : t Answer.Running ≡ false
  pub finalizing : (c : ℕ) → t (Answer.Finalizing c) ≡ false
  pub skipped : (c : ℕ) → t (Answer.Skipped c) ≡ false

pub told_of : (t : Answer → Bool) → IsOfTries t false → t Answer.ErrGuard ≡ false → IsTold (λ a. t a ≡ false)
told_of t is e = record { shown = is.shown; access = is.access; err_guard = e }

-- the answer says that the step is refused
abbrev pub is_refused : Answer → Bool
is_refused (Answer.Refused r) = true
is_refused _ = false

pub of_running : IsOfTries is_running false
of_running = record { shown = record { phase = λ p. refl; value = λ v. refl; read_guard = refl; write_guard = refl }; access = λ p. refl; done = refl; failed = refl }

pub of_access : IsOfTries is_access true
of_access = record { shown = record { phase = λ p. refl; value = λ v. refl; read_guard = refl; write_guard = refl }; access = λ p. refl; done = refl; failed = refl }

pub of_finalizing : (c : ℕ) → IsOfTries (is_finalizing c) false
of_finalizing c = record { shown = record { phase = λ p. refl; value = λ v. refl; read_guard = refl; write_guard = refl }; access = λ p. refl; done = refl; failed = refl }

pub of_skipped : (c : ℕ) → IsOfTries (is_skipped c) false
of_skipped c = record { shown = record { phase = λ p. refl; value = λ v. refl; read_guard = refl; write_guard = refl }; access = λ p. refl; done = refl; failed = refl }

-- those that look at the ways of being barred, and so on
pub of_waiting : IsBeyond is_waiting
of_waiting = record { tries = record { shown = record { phase = λ p. refl; value = λ v. refl; read_guard = refl; write_guard = refl }; access = λ p. refl; done = refl; failed = refl }; err_guard = refl; running = refl; finalizing = λ c. refl; skipped = λ c. refl }

pub of_missed : IsBeyond is_missed
of_missed = record { tries = record { shown = record { phase = λ p. refl; value = λ v. refl; read_guard = refl; write_guard = refl }; access = λ p. refl; done = refl; failed = refl }; err_guard = refl; running = refl; finalizing = λ c. refl; skipped = λ c. refl }

pub of_borrowed : IsBeyond is_borrowed
of_borrowed = record { tries = record { shown = record { phase = λ p. refl; value = λ v. refl; read_guard = refl; write_guard = refl }; access = λ p. refl; done = refl; failed = refl }; err_guard = refl; running = refl; finalizing = λ c. refl; skipped = λ c. refl }

pub of_refused : IsBeyond is_refused
of_refused = record { tries = record { shown = record { phase = λ p. refl; value = λ v. refl; read_guard = refl; write_guard = refl }; access = λ p. refl; done = refl; failed = refl }; err_guard = refl; running = refl; finalizing = λ c. refl; skipped = λ c. refl }

pub of_cyclic : IsBeyond is_cyclic
of_cyclic = record { tries = record { shown = record { phase = λ p. refl; value = λ v. refl; read_guard = refl; write_guard = refl }; access = λ p. refl; done = refl; failed = refl }; err_guard = refl; running = refl; finalizing = λ c. refl; skipped = λ c. refl }

pub of_round : (n : ℕ) → IsBeyond (is_round n)
of_round n = record { tries = record { shown = record { phase = λ p. refl; value = λ v. refl; read_guard = refl; write_guard = refl }; access = λ p. refl; done = refl; failed = refl }; err_guard = refl; running = refl; finalizing = λ c. refl; skipped = λ c. refl }

pub of_closing : IsBeyond is_closing
of_closing = record { tries = record { shown = record { phase = λ p. refl; value = λ v. refl; read_guard = refl; write_guard = refl }; access = λ p. refl; done = refl; failed = refl }; err_guard = refl; running = refl; finalizing = λ c. refl; skipped = λ c. refl }

pub no_more : (b : Bool) → (b && false) ≡ false
no_more b = grind arith

pub same_both : (b : Bool) → b ≡ (b && true)
same_both b = grind arith

pub nothing_else : (b : Bool) → (b || false) ≡ b
nothing_else b = grind arith

pub neither : (x y b d : Bool) → b ≡ false → d ≡ false → ((x && b) || (y && d)) ≡ false
neither x y b d e f = grind arith

pub unless_first : (x y u v : Bool) → u ≡ v → (x || ((y && false) || (u && true))) ≡ (x || v)
unless_first x y u v e = grind arith

-- what is barred alone, what is admitted alone, what is its own run alone, and what is not admitted
pub only_barred : (own kept barred x : Bool) → (if own then false else if not kept && barred then x else false) ≡ ((not own && (not kept && barred)) && x)
only_barred own kept barred x = grind arith

pub only_admitted : (own kept barred x : Bool) → (if own then false else if not kept && barred then false else x) ≡ ((not own && not (not own && (not kept && barred))) && x)
only_admitted own kept barred x = grind arith

pub only_own : (own kept barred x : Bool) → (if own then x else if not kept && barred then false else false) ≡ (own && x)
only_own own kept barred x = grind arith

pub not_admitted : (own kept barred : Bool) → (if own then true else if not kept && barred then true else false) ≡ not (not own && not (not own && (not kept && barred)))
not_admitted own kept barred = grind arith

pub none_kept : (x y z : Bool) → ((not x && (not true && y)) && z) ≡ false
none_kept x y z = grind arith

pub none_asked : (x y a g : Bool) → a ≡ false → (x && (y && (a && g))) ≡ false
none_asked x y a g f = grind arith

pub parts_of_look : (a b c d : Bool) → (a && (b && (c && d))) ≡ ((a && (b && c)) && d)
parts_of_look a b c d = grind arith

pub parts_of_borrowing : (n x y u : Bool) → (n && (x || ((y && true) || (u && false)))) ≡ ((n && y) || (n && x))
parts_of_borrowing n x y u = grind arith

-- which of what is barred waits, misses and borrows
pub barred_waits : (fast : Bool) (x : Place) (w : How) → is_waiting (answer_barred fast x w) ≡ (not fast && not (is_owned x))
barred_waits fast x w = grind arith

pub barred_misses : (fast : Bool) (x : Place) (w : How) → is_missed (answer_barred fast x w) ≡ fast
barred_misses fast x w = grind arith

pub barred_borrows : (fast : Bool) (x : Place) (w : How) → is_borrowed (answer_barred fast x w) ≡ (not fast && is_owned x)
barred_borrows fast x w = grind arith

-- a look took so many, or found none
pub look_rounds : (n : ℕ) (cs : List ℕ) → is_round n (answer_of_look (look_at cs)) ≡ (not (is_empty cs) && (length cs == n))
look_rounds n cs = grind arith

pub look_closes : (cs : List ℕ) → is_closing (answer_of_look (look_at cs)) ≡ is_empty cs
look_closes cs = grind arith

pub runs_at : (f : Form) (b : Bool) (z : Content) → is_running (answer_at f b z) ≡ false
runs_at f b z = grind arith

-- ---- what is admitted

module _ (q : Kind) (t : Tolerance) (c : ℕ) (o : Bool) (y : Content) where
  -- what it holds where a run is asked, and its generator runs
  abbrev content : Bool → Bool → Content
  content b g = if b && not g then record { phase = flags_refused; value = y.value } else y

  -- a call or a turn begins a run exactly where it asks for one, and its generator runs
  pub admitted_runs : (w : Want) → is_running (answer_admitted q t c o w y) ≡ (asks q t w y.phase && runs_generator q t o y.phase)
  admitted_runs (Calls k) = by (asks q t (Calls k) y.phase) (runs_generator q t o y.phase)
    where
      by : (b g : Bool) → is_running (if b && g then Answer.Running else answer_at (form_of q k) (is_accessible q (content b g).phase) (content b g)) ≡ (b && g)
      by b g = grind (arith, runs_at)
  admitted_runs Turns = elim (has y.phase initialized) as (λ b. is_running (turn_answer_admitted (if b then LockNature.Write else LockNature.None) c) ≡ false) [ true ↦ refl | false ↦ refl ]

  -- it is turned away exactly where it runs nothing, is a call that is told where the value may not be accessed, and it may
  -- not be at the phase that it leaves
  pub admitted_away : (w : Want) → is_access (answer_admitted q t c o w y)
      ≡ (not (asks q t w y.phase && runs_generator q t o y.phase) && (want_denies q w && not (is_accessible q (if asks q t w y.phase then flags_refused else y.phase))))
  admitted_away (Calls k) = by (asks q t (Calls k) y.phase) (runs_generator q t o y.phase)
    where
      by : (b g : Bool) → is_access (if b && g then Answer.Running else answer_at (form_of q k) (is_accessible q (content b g).phase) (content b g))
          ≡ (not (b && g) && (denies (form_of q k) && not (is_accessible q (if b then flags_refused else y.phase))))
      by b g = grind arith
  admitted_away Turns = elim (has y.phase initialized) as (λ b. is_access (turn_answer_admitted (if b then LockNature.Write else LockNature.None) c) ≡ false) [ true ↦ refl | false ↦ refl ]

  -- a turn finalizes exactly where the value is there
  pub admitted_finalizes : (d : ℕ) (w : Want) → is_finalizing d (answer_admitted q t c o w y) ≡ (is_turn w && ((c == d) && has y.phase initialized))
  admitted_finalizes d (Calls k) = admitted (λ a. is_finalizing d a ≡ false) (told_of (is_finalizing d) (of_finalizing d) refl) refl q t o k y
  admitted_finalizes d Turns = elim (has y.phase initialized) as (λ b. is_finalizing d (turn_answer_admitted (if b then LockNature.Write else LockNature.None) c) ≡ ((c == d) && b)) [ true ↦ same_both _ | false ↦ sym (no_more _) ]

  -- and is skipped exactly where it is not
  pub admitted_skips : (d : ℕ) (w : Want) → is_skipped d (answer_admitted q t c o w y) ≡ (is_turn w && ((c == d) && not (has y.phase initialized)))
  admitted_skips d (Calls k) = admitted (λ a. is_skipped d a ≡ false) (told_of (is_skipped d) (of_skipped d) refl) refl q t o k y
  admitted_skips d Turns = elim (has y.phase initialized) as (λ b. is_skipped d (turn_answer_admitted (if b then LockNature.Write else LockNature.None) c) ≡ ((c == d) && not b)) [ true ↦ sym (no_more _) | false ↦ same_both _ ]

  -- nothing that is admitted passes a test of what is not
  pub admitted_fails : (f : Answer → Bool) → IsBeyond f → (w : Want) → f (answer_admitted q t c o w y) ≡ false
  admitted_fails f is (Calls k) = admitted (λ a. f a ≡ false) (told_of f is.tries is.err_guard) is.running q t o k y
  admitted_fails f is Turns = elim (lock_wanted q t Turns y.phase) as (λ n. f (turn_answer_admitted n c) ≡ false) [ LockNature.None ↦ is.skipped c | _ ↦ is.finalizing c ]

-- a test fails on what is barred
pub fails_barred : (t : Answer → Bool) → t Answer.Missed ≡ false → t Answer.Borrowed ≡ false → ((w : How) → t (Answer.Waiting w) ≡ false) → (fast : Bool) (x : Place) (w : How) → t (answer_barred fast x w) ≡ false
fails_barred t m b k fast x w = grind (arith, k)

-- a call that does not initialize asks for no run
pub calls_not : (q : Kind) (t : Tolerance) (k : Call) (p : ℕ) → is_initializing k ≡ false → asks q t (Calls k) p ≡ false
calls_not q t k p e = grind arith

-- ---- a value that is lent

-- the answer of a step that is to lend a value says that it may not be accessed
abbrev pub is_unlent : List CellPlan → List Event → Act → Bool
is_unlent cells h (Act.GetMut c made left) = is_access (answer_made_to_lend (cell_at cells c).kind (tolerance_at cells c) (accepts h) made (replay cells c h))
is_unlent cells h (Act.TryGetMut c left) = is_access (answer_lent (cell_at cells c).kind (replay cells c h))
is_unlent cells h _ = false

-- where it is not refused, exactly where that is so
pub unlent_where_denied : (cells : List CellPlan) (h : List Event) (p : ℕ) (a : Act) → refusal cells h (record { party = p; act = a }) ≡ None → is_unlent cells h a ≡ is_denied_to_lend cells h a
unlent_where_denied cells h p a n = grind arith

module _ (t : Answer → Bool) {denies : Bool} (is : IsOfTries t denies) where
  -- of a value that is lent
  pub shows : (q : Kind) (y : Content) → t (answer_lent q y) ≡ (is_access (answer_lent q y) && denies)
  shows q y = grind arith

  -- and of one that a run makes first, where it is asked
  pub makes : (q : Kind) (u : Tolerance) (o : Bool) (made : Option ℕ) (y : Content) → t (answer_made_to_lend q u o made y) ≡ (is_access (answer_made_to_lend q u o made y) && denies)
  makes q u o made y = grind arith
