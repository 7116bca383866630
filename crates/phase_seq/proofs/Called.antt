-- Calls on the cell of one party: the flags that stay matter only where a run is due, and a closure runs as a generator
-- that is called once.
use Rattle.std.proofs.Common.{◌≡◌, Bool, true, false, ◌&&◌, not, Option, Some, None, Result, Ok, Err, refl, subst}
use Rattle.std.specs.Prelude.{MatchBool, MatchOption, IsErr}
use Rattle.phase_bits.specs.declared.phase.Phase.{Phase}
use Rattle.phase_bits.specs.declared.holders.Holders.{Holders}
use Rattle.phase_seq.specs.declared.generator.InitFault.{InitFault}
use Rattle.phase_seq.specs.declared.once.OnceGenerator.{OnceGenerator}
use Rattle.phase_seq.specs.declared.init_error.InitError.{InitError}
use Rattle.phase_seq.specs.declared.init_error.InitError.TheVariants.{Borrowed}
use Rattle.phase_seq.specs.declared.tolerance.Tolerance.{Tolerance}
use Rattle.phase_seq.specs.declared.ask.Want.{Want}
use Rattle.phase_seq.specs.Asks.{asks_run, nature_of}
use Rattle.phase_locker.specs.Natures.{admitted}
use Rattle.phase_seq.specs.Direct.{Calls, HasRun, HasNone, Came, asking, is_barred_at, is_due_at, by_call}

where_due : (X Y : Type 0) (barred asks : Bool) (P : Option Phase → Type 0) (s s' : Option Phase) → (not barred && asks ≡ true → s ≡ s') → MatchBool barred X (MatchBool asks (P s) Y) → MatchBool barred X (MatchBool asks (P s') Y)
where_due X Y true asks P s s' e h = h
where_due X Y false true P s s' e h = subst P (e refl) h
where_due X Y false false P s s' e h = h

-- a call beside flags, which are these where a run is due, is a call beside these
pub beside : {V G A : Type 0} (attempts : G → Result V InitFault → G → Type 0) (say : Phase → Option V → A) (w : Want) (t : Tolerance) (s s' : Option Phase) (h : Holders) (g : G) (r : Result A InitError) (h' : Holders) (left : G)
    → (is_due_at w t h ≡ true → s ≡ s') → Calls attempts say w t s h g r h' left → Calls attempts say w t s' h g r h' left
beside attempts say w t s s' h g r h' left e calls =
    where_due _ _ (is_barred_at w t h) (asks_run (asking w t) h.phase) (λ (x : Option Phase). HasRun attempts say w x h g r h' left) s s' e calls

-- what comes of a generator comes of another one that promises no less
came_so : {V G F : Type 0} (att : G → Result V InitFault → G → Type 0) (by : F → Result V InitFault → F → Type 0) (g : G) (f : F) → ((r : Result V InitFault) (l : G) → att g r l → by f r f)
    → (s : Option Phase) (ran : Result (Option V) InitFault) (left : G) → Came att s g ran left → Came by s f ran f
came_so att by g f so None ran left c = (c.0, refl)
came_so att by g f so (Some s) (Ok None) left c = c
came_so att by g f so (Some s) (Ok (Some v)) left c = so (Ok v) left c
came_so att by g f so (Some s) (Err e) left c = so (Err e) left c

by_cases : (X X' Y Y' Z Z' : Type 0) (barred asks : Bool) → (X → X') → (Y → Y') → (Z → Z') → MatchBool barred X (MatchBool asks Y Z) → MatchBool barred X' (MatchBool asks Y' Z')
by_cases X X' Y Y' Z Z' true asks x y z h = x h
by_cases X X' Y Y' Z Z' false true x y z h = y h
by_cases X X' Y Y' Z Z' false false x y z h = z h

none_so : {G F A : Type 0} (answer : A) (kept : Holders) (g : G) (f : F) (r : A) (h' : Holders) (left : G) → HasNone answer kept g r h' left → HasNone answer kept f r h' f
none_so answer kept g f r h' left n = record { same = n.same; held = n.held; generator = refl }

-- a call by a generator is a call by another one that promises no less
pub calls_so : {V G F A : Type 0} (att : G → Result V InitFault → G → Type 0) (by : F → Result V InitFault → F → Type 0) (say : Phase → Option V → A) (w : Want) (t : Tolerance) (s : Option Phase) (h : Holders) (g : G) (f : F) (r : Result A InitError) (h' : Holders) (left : G)
    → ((r : Result V InitFault) (l : G) → att g r l → by f r f) → Calls att say w t s h g r h' left → Calls by say w t s h f r h' f
calls_so att by say w t s h g f r h' left so calls =
    by_cases _ _ _ _ _ _ (is_barred_at w t h) (asks_run (asking w t) h.phase)
    (none_so (Err Borrowed) h g f r h' left)
    (λ run. record { ran = run.ran; came = came_so att by g f so s run.ran left run.came; answer = run.answer; held = run.held })
    (none_so (Ok (say h.phase None)) (admitted h (nature_of (asking w t) h.phase)) g f r h' left)
    calls

-- what a generator gives that is called once
abbrev pub once_gives : {V F : Type 0} → (F → Result V InitFault → Type 0) → OnceGenerator F → Result V InitFault → OnceGenerator F → Type 0
once_gives post g r left = (left.function ≡ None) × MatchOption g.function (IsErr r) (λ f. post f r)

-- a call by a generator that is called once is a call by its function
pub once_so : {V F A : Type 0} (post : F → Result V InitFault → Type 0) (say : Phase → Option V → A) (w : Want) (t : Tolerance) (s : Option Phase) (h : Holders) (g : OnceGenerator F) (f : F) (r : Result A InitError) (h' : Holders) (left : OnceGenerator F)
    → g.function ≡ Some f → Calls (once_gives post) say w t s h g r h' left → Calls (by_call post) say w t s h f r h' f
once_so post say w t s h g f r h' left e calls =
    calls_so (once_gives post) (by_call post) say w t s h g f r h' left (λ q l p. subst (λ (o : Option _). MatchOption o (IsErr q) (λ x. post x q)) e p.1) calls
