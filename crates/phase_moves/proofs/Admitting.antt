-- What an attempt took that is admitted is the answer that is due.
use Rattle.phase_moves.proofs.Words.{arith, ◌≡◌, ◌∙◌, ℕ, List, [], ◌∷◌, ap, sym, subst, refl, Bool, true, false, None, Some, not, ◌&&◌, if◌then◌else◌, MatchBool, ◌==◌, find, Option}
use Rattle.phase_moves.proofs.Words.{Phase, has, initialized, number, phase_of, Registry, Who, LockNature, LockResult, ReadTicket, WriteTicket, got, read_ticket, write_ticket}
use Rattle.phase_moves.proofs.Words.{Ask, Sought, Begun, Tolerance, asks_run, finalizes, run_sought, nature_of, nature_where, shall_init, begun_of, begun_write, runs}
use Rattle.phase_moves.proofs.Words.{section_by, is_run, unregistered, is_refused, Call, Answer, CellPlan, Want, Calls, Turns, answer_admitted, answer_at, begins_run}
use Rattle.phase_moves.proofs.Words.{turn_answer_admitted, asks, Content, content_asked, effect, form_of, tolerance_of, is_accessible, runs_generator, Section, generates_for}
use Rattle.phase_moves.proofs.Words.{is_turn, runs_in, registry_for, answer_taken, changes_asked, run_in, runner_of, taken_of}
use Rattle.phase_moves.proofs.Seeking.{gets_none, gets_read, gets_write, seeks_as, sought_as}
use Rattle.phase_moves.proofs.{Asked.IsAsked, Asked.asks_same, Asked.call_left, Asked.refuses_same, Attempts.stays_asked, Settling.begun_declined, Settling.begun_settled}

-- ---- the three answers of an attempt

pub judged_no : {X : Type 0} (i k b b' : Bool) (x y z : X) → i ≡ false → k ≡ false → b ≡ b' → (if i then x else if not k && b then y else z) ≡ (if b' then y else z)
judged_no i k b b' x y z e f g = grind (arith, e, f, g)

-- ---- a call of its own run

pub runs_same : (p c : ℕ) (ss : List Section) → runs p (runner_of (run_in c ss)) ≡ generates_for p (find (runs_in c) ss)
runs_same p c [] = refl
runs_same p c (s ∷ ss) = by (s.cell == c) refl (runs_same p c ss) where
  turn : (b : Bool) → runs p (if b then None else Some s.party) ≡ (if b then false else (s.party == p))
  turn true = refl
  turn false = refl

  by : (b : Bool) → (s.cell == c) ≡ b → runs p (runner_of (run_in c ss)) ≡ generates_for p (find (runs_in c) ss) → runs p (runner_of (run_in c (s ∷ ss))) ≡ generates_for p (find (runs_in c) (s ∷ ss))
  by true e rest = rw e (turn (is_turn s.want))
  by false e rest = rw e rest

-- ---- what an admitted attempt begins

-- no section is left to run
abbrev pub is_left : Begun → Bool
is_left (Begun.Nothing q) = true
is_left (Begun.Read t q) = true
is_left (Begun.Write t q) = true
is_left _ = false

-- what was begun fits what was sought
abbrev pub FitsSought : Sought → Begun → Type 0
FitsSought s (Begun.Nothing q) = gets_none s ≡ true
FitsSought s (Begun.Read t q) = gets_read s ≡ true
FitsSought s (Begun.Write t q) = gets_write s ≡ true
FitsSought s (Begun.Run x) = Unit {0}
FitsSought s (Begun.Final x) = Unit {0}
FitsSought s _ = ⊥

module _ (who : Who) (o : Option Registry) (q : Phase) where
  -- what is begun where a run is due or not, and the value is there or not
  abbrev pub run_or_not : Ask → Begun
  run_or_not ask = if is_refused ask.tol.leak o q then begun_declined ask.want else Begun.Run (section_by who ask.want (stays_asked o q) write_ticket)

  abbrev pub met_as : Ask → Sought → Bool → Bool → Begun
  met_as ask Sought.Init due there = if due then run_or_not ask else Begun.Nothing q
  met_as ask Sought.Read due there = if due then run_or_not ask else Begun.Read read_ticket q
  met_as ask Sought.Write due there = if due then run_or_not ask else Begun.Write write_ticket q
  met_as ask Sought.ReadOnly due there = Begun.Read read_ticket q
  met_as ask Sought.WriteOnly due there = Begun.Write write_ticket q
  met_as ask Sought.Finalize due there = if there then Begun.Final (section_by who ask.want q write_ticket) else Begun.Nothing q

  -- what an attempt begins that is admitted, once it is settled
  abbrev pub begun_met : Ask → Begun
  begun_met ask = begun_settled ask o q (begun_of who ask q (got (nature_of ask q) q))

  -- the same, where it asks for a run or not
  abbrev begun_with : Ask → Bool → LockResult ReadTicket WriteTicket → Begun
  begun_with ask run (LockResult.None z) = Begun.Nothing z
  begun_with ask run (LockResult.Read l) = Begun.Read l q
  begun_with ask run (LockResult.Write l) = if run then Begun.Run (section_by who ask.want unregistered l) else begun_write who ask.want q l

  got_is : (ask : Ask) (n : LockNature) → begun_of who ask q (got n q) ≡ begun_with ask (asks_run ask q) (got n q)
  got_is ask n = grind (arith)

  by_cases : (s : Sought) (f : Bool) (t : Tolerance) (due there : Bool) → begun_settled (record { want = s; fast = f; tol = t }) o q (begun_with (record { want = s; fast = f; tol = t }) (run_sought s && due) (got (nature_where s due there) q)) ≡ met_as (record { want = s; fast = f; tol = t }) s due there
  by_cases s f t due there = grind (arith)

  pub met_is : (ask : Ask) → begun_met ask ≡ met_as ask ask.want (shall_init ask.tol q) (has (number q) initialized)
  met_is ask = ap (begun_settled ask o q) (got_is ask (nature_of ask q)) ∙ by_cases ask.want ask.fast ask.tol (shall_init ask.tol q) (has (number q) initialized)

  -- it fits
  fits_declined : (r : Bool) (s : Sought) (x : _) → run_sought s ≡ true → FitsSought s (if r then begun_declined s else Begun.Run x)
  fits_declined true Sought.ReadOnly x e = absurd (cc)
  fits_declined true Sought.WriteOnly x e = absurd (cc)
  fits_declined true Sought.Finalize x e = absurd (cc)
  fits_declined false s x e = tt
  fits_declined true _ x e = refl

  pub met_fits : (ask : Ask) → FitsSought ask.want (begun_met ask)
  met_fits ask = subst (FitsSought ask.want) (sym (met_is ask)) (by ask.want refl (shall_init ask.tol q) (has (number q) initialized)) where
    run : (s : Sought) → ask.want ≡ s → run_sought s ≡ true → FitsSought s (run_or_not ask)
    run s e is = subst (λ z. FitsSought s (if is_refused ask.tol.leak o q then begun_declined z else Begun.Run (section_by who ask.want (stays_asked o q) write_ticket))) (sym e) (fits_declined (is_refused ask.tol.leak o q) s (section_by who ask.want (stays_asked o q) write_ticket) is)

    by : (s : Sought) → ask.want ≡ s → (due there : Bool) → FitsSought s (met_as ask s due there)
    by Sought.Init e true there = run Sought.Init e refl
    by Sought.Read e true there = run Sought.Read e refl
    by Sought.Write e true there = run Sought.Write e refl
    by Sought.Finalize e due true = tt
    by _ e _ _ = refl

  -- a call has its section run, or not
  abbrev pub RunsOr : Bool → Begun → Type 0
  RunsOr runs b = MatchBool runs (is_run b ≡ true) (is_left b ≡ true)

  runs_declined : (r : Bool) (s : Sought) (x : _) → run_sought s ≡ true → RunsOr (not r) (if r then begun_declined s else Begun.Run x)
  runs_declined r s x e = grind (arith, e)

  pub met_runs : (ask : Ask) → (ask.want ≡ Sought.Finalize → ⊥) → RunsOr (asks_run ask q && not (is_refused ask.tol.leak o q)) (begun_met ask)
  met_runs ask ne = subst (RunsOr (asks_run ask q && not (is_refused ask.tol.leak o q))) (sym (met_is ask)) (by ask.want refl (shall_init ask.tol q) refl (has (number q) initialized)) where
    by_want : (s : Sought) (due : Bool) (b : Begun) → ask.want ≡ s → shall_init ask.tol q ≡ due → RunsOr ((run_sought s && due) && not (is_refused ask.tol.leak o q)) b → RunsOr (asks_run ask q && not (is_refused ask.tol.leak o q)) b
    by_want s due b e f is = subst (λ z. RunsOr ((run_sought z && shall_init ask.tol q) && not (is_refused ask.tol.leak o q)) b) (sym e) (subst (λ z. RunsOr ((run_sought s && z) && not (is_refused ask.tol.leak o q)) b) (sym f) is)

    run : (s : Sought) → ask.want ≡ s → run_sought s ≡ true → RunsOr (not (is_refused ask.tol.leak o q)) (run_or_not ask)
    run s e is = subst (λ z. RunsOr (not (is_refused ask.tol.leak o q)) (if is_refused ask.tol.leak o q then begun_declined z else Begun.Run (section_by who ask.want (stays_asked o q) write_ticket))) (sym e) (runs_declined (is_refused ask.tol.leak o q) s (section_by who ask.want (stays_asked o q) write_ticket) is)

    by : (s : Sought) → ask.want ≡ s → (due : Bool) → shall_init ask.tol q ≡ due → (there : Bool) → RunsOr (asks_run ask q && not (is_refused ask.tol.leak o q)) (met_as ask s due there)
    by Sought.Init e false f there = by_want Sought.Init false (Begun.Nothing q) e f refl
    by Sought.Read e false f there = by_want Sought.Read false (Begun.Read read_ticket q) e f refl
    by Sought.Write e false f there = by_want Sought.Write false (Begun.Write write_ticket q) e f refl
    by Sought.ReadOnly e due f there = by_want Sought.ReadOnly due (Begun.Read read_ticket q) e f refl
    by Sought.WriteOnly e due f there = by_want Sought.WriteOnly due (Begun.Write write_ticket q) e f refl
    by Sought.Finalize e due f there = absurd (ne e)
    by b e true f there = by_want b true (run_or_not ask) e f (run b e refl)

-- ---- the answer of an attempt that is admitted

-- no call finalizes
pub calls_no_turn : (x : CellPlan) (k : Call) (ask : Ask) → IsAsked x (Calls k) ask → ask.want ≡ Sought.Finalize → ⊥
calls_no_turn x k ask is e = let f : seeks_as (form_of x.kind k) (Some Sought.Finalize) ≡ true = ap (λ s. seeks_as (form_of x.kind k) (Some s)) (sym e) ∙ ap (seeks_as (form_of x.kind k)) (sym is.sought) ∙ sought_as x.kind k in absurd (cc)

-- only a turn does
pub final_turns : (x : CellPlan) (w : Want) (ask : Ask) → IsAsked x w ask → finalizes ask.want ≡ true → w ≡ Turns
final_turns x (Calls k) ask is e = absurd (calls_no_turn x k ask is (sought_final ask.want e)) where
  sought_final : (s : Sought) → finalizes s ≡ true → s ≡ Sought.Finalize
  sought_final Sought.Finalize e = refl
  sought_final _ e = absurd (cc)
final_turns x Turns ask is e = refl

module _ (x : CellPlan) (c p : ℕ) (reg : Registry) (y : Content) where
  abbrev who : Who
  who = record { cell = c; party = p }

  abbrev o : Option Registry
  o = registry_for x.kind reg

  abbrev q : Phase
  q = phase_of y.phase

  -- what the cell holds then
  abbrev y_then : Want → Content
  y_then w = effect x (changes_asked x w reg.is_open y) y

  abbrev Due : Want → Begun → Type 0
  Due w b = answer_taken x.kind (record { cell = c; want = w }) (y_then w) (taken_of b) ≡ answer_admitted x.kind (tolerance_of x) c reg.is_open w y

  -- a call: its generator runs, or it is answered by what the cell holds then
  called_due : (k : Call) (b : Begun) (runs : Bool) → begins_run x.kind (tolerance_of x) reg.is_open k y.phase ≡ runs → RunsOr who o q runs b → Due (Calls k) b
  called_due k b true e is = running b is ∙ sym (ap (λ r. if r then Answer.Running else left_so) e) where
    left_so : Answer
    left_so = answer_at (form_of x.kind k) (is_accessible x.kind (content_asked x.kind (tolerance_of x) reg.is_open k y).phase) (content_asked x.kind (tolerance_of x) reg.is_open k y)

    running : (b : Begun) → is_run b ≡ true → answer_taken x.kind (record { cell = c; want = Calls k }) (y_then (Calls k)) (taken_of b) ≡ Answer.Running
    running (Begun.Run s) e = refl
    running _ e = absurd (cc)
  called_due k b false e is = left b is ∙ ap (λ (z : Content). answer_at (form_of x.kind k) (is_accessible x.kind z.phase) z) (call_left x k reg.is_open y) ∙ sym (ap (λ r. if r then Answer.Running else left_so) e) where
    left_so : Answer
    left_so = answer_at (form_of x.kind k) (is_accessible x.kind (content_asked x.kind (tolerance_of x) reg.is_open k y).phase) (content_asked x.kind (tolerance_of x) reg.is_open k y)

    left : (b : Begun) → is_left b ≡ true → answer_taken x.kind (record { cell = c; want = Calls k }) (y_then (Calls k)) (taken_of b) ≡ answer_at (form_of x.kind k) (is_accessible x.kind (y_then (Calls k)).phase) (y_then (Calls k))
    left (Begun.Nothing z) e = refl
    left (Begun.Read l z) e = refl
    left (Begun.Write l z) e = refl
    left _ e = absurd (cc)

  pub admitted_due : (w : Want) (ask : Ask) → IsAsked x w ask → Due w (begun_met who o q ask)
  admitted_due (Calls k) ask is = called_due k (begun_met who o q ask) (asks_run ask q && not (is_refused ask.tol.leak o q)) (sym begins) (met_runs who o q ask (calls_no_turn x k ask is)) where
    twice : (b : Bool) → not (not b) ≡ b
    twice true = refl
    twice false = refl

    begins : (asks_run ask q && not (is_refused ask.tol.leak o q)) ≡ begins_run x.kind (tolerance_of x) reg.is_open k y.phase
    begins =
        ap (λ (t : Tolerance). asks_run ask q && not (is_refused t.leak o q)) is.tol
        ∙ (λ i. asks_same x (Calls k) ask is q i && not (refuses_same x reg y.phase i))
        ∙ ap (λ b. asks x.kind (tolerance_of x) (Calls k) y.phase && b) (twice (runs_generator x.kind (tolerance_of x) reg.is_open y.phase))
  admitted_due Turns ask is =
      ap (λ b. answer_taken x.kind (record { cell = c; want = Turns }) (y_then Turns) (taken_of b)) (met_is who o q ask)
      ∙ ap (λ s. answer_taken x.kind (record { cell = c; want = Turns }) (y_then Turns) (taken_of (met_as who o q ask s (shall_init ask.tol q) (has y.phase initialized)))) final
      ∙ by (has y.phase initialized) where
        final : ask.want ≡ Sought.Finalize
        final = let sought = is.sought in cc

        by : (b : Bool) → answer_taken x.kind (record { cell = c; want = Turns }) (y_then Turns) (taken_of (met_as who o q ask Sought.Finalize (shall_init ask.tol q) b)) ≡ turn_answer_admitted (if b then LockNature.Write else LockNature.None) c
        by true = refl
        by false = refl
