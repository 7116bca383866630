-- What is asked of a cell is what the rules ask for it, and so is what a call that is declined leaves.
use Rattle.phase_moves.proofs.Words.{arith, ◌≡◌, ◌∙◌, ℕ, [], ◌∷◌, refl, sym, ap, Bool, true, false, not, ◌&&◌, None, Some, length-set, if◌then◌else◌, unwrap_or, Option, has}
use Rattle.phase_moves.proofs.Words.{initialized, number, phase_of, Phase, Registry, after_register, cells_of, Ask, Sought, Begun, Tolerance}
use Rattle.phase_moves.proofs.Words.{asks_run as seq_asks_run, run_sought, nature_of, nature_where, shall_init, wake_of, is_run, flags_refused}
use Rattle.phase_moves.proofs.Words.{after_asking, is_refused, Call, Kind, asking, is_finalizable, CellPlan, Want, Calls, Turns, form_of, tolerance_of, NoRun, phase_reached}
use Rattle.phase_moves.proofs.Words.{runs_generator, tries_registration, asks, initializes, is_fast, lock_asked, lock_wanted, run_asked, seeks, seeks_run, wakes_as, woken_as}
use Rattle.phase_moves.proofs.Words.{Content, Asked, content_asked, effect, is_declined, is_turn, registry_for, registry_begun, changes_asked, form_as, run_as, stays_in}
use Rattle.phase_moves.proofs.Words.{ask_of, is_quick}
use Rattle.phase_moves.proofs.Attempts.{declines, stays_asked, phase_told}

-- what is asked is what is sought, of a cell that puts up with this
pub record IsAsked (x : CellPlan) (w : Want) (ask : Ask) : Type 0 where
  pub sought : seeks x.kind w ≡ Some ask.want
  pub fast : ask.fast ≡ is_quick x w
  pub tol : ask.tol ≡ tolerance_of x

pub is_asked : (x : CellPlan) (w : Want) (ask : Ask) → ask_of x w ≡ Some ask → IsAsked x w ask
is_asked x w ask e = by (seeks x.kind w) refl e where
  by : (s : Option Sought) → seeks x.kind w ≡ s → asking s (is_quick x w) (tolerance_of x) ≡ Some ask → IsAsked x w ask
  by None f e = absurd (cc)
  by (Some s) f e =
      let is : record { want = s; fast = is_quick x w; tol = tolerance_of x } ≡ ask = cc in
      record { sought = f ∙ ap (λ (z : Ask). Some z.want) is; fast = sym (ap (λ (z : Ask). z.fast) is); tol = sym (ap (λ (z : Ask). z.tol) is) }

-- nothing is sought by what asks nothing
pub none_sought : (x : CellPlan) (w : Want) → ask_of x w ≡ None → seeks x.kind w ≡ None
none_sought x w e = (elim (seeks x.kind w) as (λ (s : Option Sought). asking s (is_quick x w) (tolerance_of x) ≡ None → s ≡ None) [ None ↦ λ e. refl | Some s ↦ λ e. absurd (cc) ]) e

module _ (x : CellPlan) (w : Want) (ask : Ask) (is : IsAsked x w ask) where
  -- a run is asked where the rules ask it
  pub asks_same : (p : Phase) → seq_asks_run ask p ≡ asks x.kind (tolerance_of x) w (number p)
  asks_same p = ap (λ t. run_sought ask.want && shall_init t p) is.tol ∙ sym (ap (λ s. run_asked (asking s (is_fast w) (tolerance_of x)) (number p)) is.sought)

  -- the lock that is wanted, and as what it is woken
  pub wanted_same : (q : ℕ) → nature_of ask (phase_of q) ≡ lock_wanted x.kind (tolerance_of x) w q
  wanted_same q = ap (λ t. nature_where ask.want (shall_init t (phase_of q)) (has q initialized)) is.tol ∙ sym (ap (λ s. lock_asked (asking s (is_fast w) (tolerance_of x)) q) is.sought)

  pub wakes_same : wake_of ask.want ≡ wakes_as x.kind w
  wakes_same = sym (ap woken_as is.sought)

  -- it asks for its own run
  pub own_same : (b : Bool) → (run_sought ask.want && b) ≡ (initializes x.kind w && b)
  own_same b = ap (λ s. seeks_run s && b) (sym is.sought)

  -- only a call asks a run
  pub run_calls : (p : Phase) → seq_asks_run ask p ≡ true → is_turn w ≡ false
  run_calls p e = grind (arith, e, is)

  -- what asks for a run has its section run as it seeks
  pub asked_as : (p : Phase) → seq_asks_run ask p ≡ true → ask.want ≡ run_as x.kind w
  asked_as p e = by w is.sought where
    runs : run_sought ask.want ≡ true
    runs = (elim (run_sought ask.want) as (λ a. (b : Bool) → (a && b) ≡ true → a ≡ true) [ true ↦ λ b e. refl | false ↦ λ b e. absurd (cc) ]) (shall_init ask.tol p) e

    by : (v : Want) → seeks x.kind v ≡ Some ask.want → ask.want ≡ run_as x.kind v
    by (Calls k) f = sym (ap (λ s. if seeks_run s then unwrap_or s Sought.Write else form_as (form_of x.kind k)) f ∙ ap (λ b. if b then ask.want else form_as (form_of x.kind k)) runs)
    by Turns f = cc

-- the flags that stay beside those of a section
pub stays_same : (x : CellPlan) (w : Want) (m : Registry) (p : ℕ) → is_turn w ≡ false → stays_asked (registry_for x.kind m) (phase_of p) ≡ stays_in x w m.is_open p
stays_same x w m p e = grind (arith, e)

-- whether it is declined
abbrev pub declined : CellPlan → Want → Bool → ℕ → Bool
declined x (Calls k) is_open p = is_declined x.kind (tolerance_of x) k is_open p
declined x Turns is_open p = false

pub refuses_same : (x : CellPlan) (m : Registry) (p : ℕ) → is_refused x.leak (registry_for x.kind m) (phase_of p) ≡ not (runs_generator x.kind (tolerance_of x) m.is_open p)
refuses_same x m p = grind (arith)

pub declines_same : (x : CellPlan) (w : Want) (ask : Ask) → IsAsked x w ask → (m : Registry) (p : ℕ) → declines ask (registry_for x.kind m) (phase_of p) ≡ declined x w m.is_open p
declines_same x (Calls k) ask is m p =
    ap (λ (t : Tolerance). seq_asks_run ask (phase_of p) && is_refused t.leak (registry_for x.kind m) (phase_of p)) is.tol ∙ (λ i. asks_same x (Calls k) ask is (phase_of p) i && refuses_same x m p i)
declines_same x Turns ask is m p = let sought = is.sought in let g : ask.want ≡ Sought.Finalize = cc in ap (λ s. (run_sought s && shall_init ask.tol (phase_of p)) && is_refused ask.tol.leak (registry_for x.kind m) (phase_of p)) g

-- what it leaves
pub asked_left : (x : CellPlan) (w : Want) (o : Bool) (y : Content) → effect x (changes_asked x w o y) y ≡ record { phase = if declined x w o y.phase then flags_refused else y.phase; value = y.value }
asked_left x (Calls k) o y = by (is_declined x.kind (tolerance_of x) k o y.phase) refl where
  by : (b : Bool) → is_declined x.kind (tolerance_of x) k o y.phase ≡ b → effect x (if b then Asked o k ∷ [] else []) y ≡ record { phase = if b then flags_refused else y.phase; value = y.value }
  by true e = ap (λ b. if b then record { phase = phase_reached x.kind o y.phase NoRun; value = y.value } else y) e
  by false e = refl
asked_left x Turns o y = refl

-- of a call, that is what it leaves as the rules say it
pub call_left : (x : CellPlan) (k : Call) (o : Bool) (y : Content) → effect x (changes_asked x (Calls k) o y) y ≡ content_asked x.kind (tolerance_of x) o k y
call_left x k o y = by (is_declined x.kind (tolerance_of x) k o y.phase) refl where
  by : (b : Bool) → is_declined x.kind (tolerance_of x) k o y.phase ≡ b → effect x (if b then Asked o k ∷ [] else []) y ≡ content_asked x.kind (tolerance_of x) o k y
  by true e = refl
  by false e = sym (ap (λ b. if b then record { phase = phase_reached x.kind o y.phase NoRun; value = y.value } else y) e)

-- the phase that it tells
pub told_same : (d : Bool) (p : ℕ) → phase_told d (phase_of p) ≡ phase_of (if d then flags_refused else p)
told_same d p = grind (arith)

-- ---- the registry

-- a call that begins no run leaves it
pub registry_still : (k : Kind) (c : ℕ) (p : Phase) (b : Begun) (m : Registry) → is_run b ≡ false → registry_begun k c p b m ≡ m
registry_still k c p b m e = elim (is_finalizable k) as (λ f. (if f then after_asking (is_run b) c p m else m) ≡ m) [ true ↦ ap (λ r. after_asking r c p m) e | false ↦ refl ]

-- a run registers its cell as the rules do
pub registry_run : (x : CellPlan) (c p : ℕ) (b : Begun) (m : Registry) → is_run b ≡ true → registry_begun x.kind c (phase_of p) b m ≡ (if tries_registration x.kind p then after_register c m else m)
registry_run x c p b m e = grind (arith, e)

-- it stays for as many cells
pub cells_stay : (c : ℕ) (b : Bool) (m : Registry) → cells_of (if b then after_register c m else m) ≡ cells_of m
cells_stay c b m = grind (arith, length-set m.known c true)
