-- The exit so far: what holds before each turn.
use Rattle.std.proofs.Common.{◌≡◌, ◌≢◌, ℕ, zero, suc, ◌+◌, ◌<◌, ◌≤◌, ◌==◌, Bool, true, false, cond, List, [], ◌∷◌, ◌++◌, length, refl, arith, ◌∙◌, ap, sym, subst, inl, inr, All, append_assoc}
use Rattle.std.specs.Prelude.{slice_get, Some, None, if◌then◌else◌}
use Rattle.std.proofs.Math.ListN.{set, get_or}
use Rattle.std.proofs.lemmas.List.{map-append, append-nil, length-append, length-map}
use Rattle.std.proofs.lemmas.Bool.{cases_eq, cases_lt}
use Rattle.std.proofs.lemmas.Option.{slice_get-get_or}
use Rattle.std.proofs.lemmas.List.Elements.{All-nil, All-cons, All-head, All-tail, All-push}
use Rattle.exit_registry.specs.declared.turns.Turn.{Turn}
use Rattle.exit_registry.specs.declared.turns.Turned.{Turned}
use Rattle.exit_registry.specs.Registry.{Registry, IsSound, is_known, first_of, rest_of, occurs, due}
use Rattle.exit_registry.specs.Turns.{Meanings}
use Rattle.exit_registry.specs.Exits.{closed, cells_of_turns, HasTurned, HasTurnedAt}
use Rattle.exit_registry.proofs.Soundness.{eq_self, apart, occurs-first, occurs-other, occurs-append, none_first}

-- ---- one object has its turn

-- a write leaves the other places
pub set_others : {X : Type 0} (c : ℕ) (xs : List X) (y : X) → (k : ℕ) → k ≢ c → slice_get (set xs c y) k ≡ slice_get xs k
set_others c [] y k n = refl
set_others zero (x ∷ xs) y zero n = absurd (n refl)
set_others zero (x ∷ xs) y (suc k) n = refl
set_others (suc c) (x ∷ xs) y zero n = refl
set_others (suc c) (x ∷ xs) y (suc k) n = set_others c xs y k (λ e. n (ap suc e))

-- a write is read back
set_here : {X : Type 0} (c : ℕ) (xs : List X) (y : X) → c < length xs → slice_get (set xs c y) c ≡ Some y
set_here c [] y l = absurd (omega arith)
set_here zero (x ∷ xs) y l = refl
set_here (suc c) (x ∷ xs) y l = set_here c xs y (omega arith)

-- an object that had its turn in its place
pub turned_at : {X : Type 0} (meanings : X → Meanings) (c : ℕ) (turn : Turn) (xs : List X) (d y : X) → c < length xs → HasTurned meanings turn (get_or xs c d) y → HasTurnedAt meanings (record { cell = c; turn = turn }) xs (set xs c y)
turned_at meanings c turn xs d y l h = record {
  before = get_or xs c d;
  after = y;
  was = slice_get-get_or xs c d l;
  is = set_here c xs y l;
  turned = h;
}

-- ---- lists of cells

-- the list without this cell
without : ℕ → List ℕ → List ℕ
without c [] = []
without c (d ∷ ds) = if d == c then without c ds else d ∷ without c ds

-- the cell and the others are the list
length-without : (c : ℕ) (cs : List ℕ) → length cs ≡ occurs c cs + length (without c cs)
unfolding without
length-without c [] = refl
length-without c (d ∷ ds) = elim (cases_eq d c) [
  | inl e ↦ rw (e, eq_self c) (omega (arith, length-without c ds))
  | inr n ↦ rw (apart d c n) (omega (arith, length-without c ds))
]

-- no cell comes more often without one
occurs-without : (x c : ℕ) (cs : List ℕ) → occurs x (without c cs) ≤ occurs x cs
unfolding without
occurs-without x c [] = omega arith
occurs-without x c (d ∷ ds) = elim (cases_eq d c) [
  | inl e ↦ rw (e, eq_self c) (omega (arith, occurs-without x c ds))
  | inr n ↦ rw (apart d c n) (omega (arith, occurs-without x c ds))
]

-- without the greatest number the others are below it
below-without : (n : ℕ) (cs : List ℕ) → All (λ c. c < suc n) cs → All (λ c. c < n) (without n cs)
unfolding without
below-without n [] h = All-nil (λ c. c < n)
below-without n (d ∷ ds) h =
    let first = All-head (λ c. c < suc n) d ds h in
    let rest = below-without n ds (All-tail (λ c. c < suc n) d ds h) in
    elim (cases_eq d n) [
      | inl e ↦ rw (e, eq_self n) rest
      | inr m ↦ rw (apart d n m) (All-cons (λ c. c < n) d (without n ds) (omega arith) rest)
    ]

-- different numbers below n are at most n
pub few_below : (n : ℕ) (cs : List ℕ) → ((c : ℕ) → occurs c cs ≤ 1) → All (λ c. c < n) cs → length cs ≤ n
few_below zero [] o h = omega arith
few_below zero (d ∷ ds) o h = absurd (let first = All-head (λ c. c < 0) d ds h in omega arith)
few_below (suc n) cs o h =
    let rest = few_below n (without n cs) (λ c. omega (arith, occurs-without c n cs, o c)) (below-without n cs h) in
    omega (arith, length-without n cs, o n, rest)

-- ---- the exit

-- from this registry and these objects on these turns were taken, and so the registry and the objects are now
pub record Exiting {X : Type 0} (meanings : X → Meanings) (first now : Registry) (old new : List X) (turns : List Turned) : Type 0 where
  pub order : cells_of_turns turns ++ due now ≡ due first
  pub known : now.known ≡ first.known
  pub turned : All (λ t. HasTurnedAt meanings t old new) turns
  pub others : (c : ℕ) → occurs c (cells_of_turns turns) ≡ 0 → slice_get new c ≡ slice_get old c
  pub once : (c : ℕ) → occurs c (cells_of_turns turns) ≤ 1
  pub apart : (c : ℕ) → 0 < occurs c (cells_of_turns turns) → occurs c (due now) ≡ 0
  pub size : length new ≡ length old

-- at first no turn was taken
pub exit_begins : {X : Type 0} (meanings : X → Meanings) (r : Registry) (xs : List X) (turns : List Turned) → turns ≡ [] → Exiting meanings r r xs xs turns
exit_begins meanings r xs turns e = rw e (record {
  order = refl;
  known = refl;
  turned = All-nil (λ t. HasTurnedAt meanings t xs xs);
  others = λ c h. refl;
  once = λ c. omega arith;
  apart = λ c h. absurd (omega arith);
  size = refl;
})

-- at most once
at_most_one : (b : Bool) (n : ℕ) → n ≤ cond {A = ℕ} b 1 0 → n ≤ 1
at_most_one true n h = h
at_most_one false n h = omega arith

-- what is due is the first and the rest
next_due : (c : ℕ) (ds es : List ℕ) → first_of ds ≡ Some c → es ≡ rest_of ds → ds ≡ c ∷ es
next_due c [] es h r = absurd (cc)
next_due c (d ∷ ds) es h r = let e : d ≡ c = cc in rw (e, r) refl

-- where there is no first nothing is due
nothing_due : (ds : List ℕ) → first_of ds ≡ None → ds ≡ []
nothing_due [] h = refl
nothing_due (d ∷ ds) h = absurd (cc)

-- what holds of all holds of those in front
all_front : (P : ℕ → Type 0) (xs ys : List ℕ) → All P (xs ++ ys) → All P xs
all_front P [] ys h = All-nil P
all_front P (x ∷ xs) ys h = All-cons P x xs (All-head P x (xs ++ ys) h) (all_front P xs ys (All-tail P x (xs ++ ys) h))

-- what holds of all holds of the last
all_last : (P : ℕ → Type 0) (xs : List ℕ) (y : ℕ) → All P (xs ++ y ∷ []) → P y
all_last P [] y h = All-head P y [] h
all_last P (x ∷ xs) y h = all_last P xs y (All-tail P x (xs ++ y ∷ []) h)

-- the object of another cell
still_turned : {X : Type 0} (meanings : X → Meanings) (t : Turned) (old now new : List X) → slice_get new t.cell ≡ slice_get now t.cell → HasTurnedAt meanings t old now → HasTurnedAt meanings t old new
still_turned meanings t old now new e h = record { before = h.before; after = h.after; was = h.was; is = e ∙ h.is; turned = h.turned }

-- the turns of other cells stand
others_turned : {X : Type 0} (meanings : X → Meanings) (c : ℕ) (old now new : List X) → ((k : ℕ) → k ≢ c → slice_get new k ≡ slice_get now k) → (ts : List Turned) → occurs c (cells_of_turns ts) ≡ 0 → All (λ t. HasTurnedAt meanings t old now) ts → All (λ t. HasTurnedAt meanings t old new) ts
others_turned meanings c old now new others [] none h = All-nil (λ t. HasTurnedAt meanings t old new)
others_turned meanings c old now new others (t ∷ ts) none h =
    let apart' = none_first c t.cell (cells_of_turns ts) none in
    All-cons (λ t. HasTurnedAt meanings t old new) t ts
    (still_turned meanings t old now new (others t.cell apart'.0) (All-head (λ t. HasTurnedAt meanings t old now) t ts h))
    (others_turned meanings c old now new others ts apart'.1 (All-tail (λ t. HasTurnedAt meanings t old now) t ts h))

-- a cell has its turn
module _ {X : Type 0} (meanings : X → Meanings) (first now next : Registry) (old objects new : List X) (turns : List Turned) (c : ℕ) (exiting : Exiting meanings first now old objects turns) (sound : IsSound now) (head : first_of (due now) ≡ Some c) (rest : due next ≡ rest_of (due now)) where
  -- the cell comes first
  due_now : due now ≡ c ∷ due next
  due_now = next_due c (due now) (due next) head rest

  -- each cell comes at most once
  due_once : (x : ℕ) → occurs x (due now) ≤ 1
  due_once x = at_most_one (is_known now x) (occurs x (due now)) (sound.once x)

  -- the cell had no turn yet
  fresh : occurs c (cells_of_turns turns) ≡ 0
  fresh = elim (cases_lt 0 (occurs c (cells_of_turns turns))) [
    | inl some ↦ absurd (let none = rw due_now at (exiting.apart c some) in omega (arith, none, occurs-first c (due next)))
    | inr none ↦ omega arith
  ]

  -- with it the order goes on
  order_now : (cells_of_turns turns ++ c ∷ []) ++ due next ≡ due first
  order_now = append_assoc (cells_of_turns turns) (c ∷ []) (due next) ∙ ap (λ (cs : List ℕ). cells_of_turns turns ++ cs) (sym due_now) ∙ exiting.order

  -- with it each cell had at most one turn
  once_now : (x : ℕ) → occurs x (cells_of_turns turns ++ c ∷ []) ≤ 1
  once_now x = elim (cases_eq c x) [
    | inl e ↦ subst (λ y. occurs y (cells_of_turns turns ++ c ∷ []) ≤ 1) e (omega (arith, occurs-append c (cells_of_turns turns) (c ∷ []), occurs-first c [], fresh))
    | inr n ↦ omega (arith, occurs-append x (cells_of_turns turns) (c ∷ []), occurs-other x c [] n, exiting.once x)
  ]

  -- it has an object
  pub turn_inside : All (λ d. d < length old) (due first) → c < length objects
  turn_inside below =
      let below' = rw (sym order_now) at below in
      let h : c < length old = all_last (λ d. d < length old) (cells_of_turns turns) c (all_front (λ d. d < length old) (cells_of_turns turns ++ c ∷ []) (due next) below') in
      omega (arith, h, exiting.size)

  -- the log has room for its turn
  pub log_room : (room : ℕ) → All (λ d. d < length old) (due first) → length old ≤ room → length turns < room
  log_room room below l =
      let below' = rw (sym order_now) at below in
      let few = few_below (length old) (cells_of_turns turns ++ c ∷ []) once_now (all_front (λ d. d < length old) (cells_of_turns turns ++ c ∷ []) (due next) below') in
      omega (arith, few, l, length-append (cells_of_turns turns) (c ∷ []), length-map turns (λ (t : Turned). t.cell))

  -- what had its turn does not come again
  apart_now : (x : ℕ) → 0 < occurs x (cells_of_turns turns ++ c ∷ []) → occurs x (due next) ≡ 0
  apart_now x h = elim (cases_eq c x) [
    | inl e ↦ subst (λ y. occurs y (due next) ≡ 0) e (let o = rw due_now at (due_once c) in omega (arith, o, occurs-first c (due next)))
    | inr n ↦
        let some : 0 < occurs x (cells_of_turns turns) = omega (arith, h, occurs-append x (cells_of_turns turns) (c ∷ []), occurs-other x c [] n) in
        let none = rw due_now at (exiting.apart x some) in
        omega (arith, none, occurs-other x c (due next) n)
  ]

  -- with its turn the exit has gone on
  pub exit_goes_on : (t : Turned) (log : List Turned) → t.cell ≡ c → next.known ≡ now.known → length new ≡ length objects → HasTurnedAt meanings t objects new → ((k : ℕ) → k ≢ c → slice_get new k ≡ slice_get objects k) → log ≡ turns ++ t ∷ [] → Exiting meanings first next old new log
  exit_goes_on t log here known size turned others e =
      let cells : cells_of_turns log ≡ cells_of_turns turns ++ c ∷ [] = rw (e, ← here) (map-append (λ (u : Turned). u.cell) turns (t ∷ [])) in
      let first_object : slice_get objects t.cell ≡ slice_get old t.cell = rw here (exiting.others c fresh) in
      record {
        order = rw cells order_now;
        known = known ∙ exiting.known;
        turned = rw e (All-push (λ u. HasTurnedAt meanings u old new) turns t
            (others_turned meanings c old objects new others turns fresh exiting.turned)
            (record { before = turned.before; after = turned.after; was = sym first_object ∙ turned.was; is = turned.is; turned = turned.turned }));
        others = λ x h.
            let none = rw cells at h in
            let n : x ≢ c = λ s. let here_none = subst (λ y. occurs y (cells_of_turns turns ++ c ∷ []) ≡ 0) s none in omega (arith, here_none, occurs-append c (cells_of_turns turns) (c ∷ []), occurs-first c []) in
            others x n ∙ exiting.others x (omega (arith, none, occurs-append x (cells_of_turns turns) (c ∷ [])));
        once = λ x. rw cells (once_now x);
        apart = λ x h. apart_now x (rw cells at h);
        size = size ∙ exiting.size;
      }

-- a closed registry is sound
pub sound-closed : (r : Registry) → IsSound r → IsSound (closed r)
sound-closed r s = record { once = λ c. omega arith; below = All-nil (λ c. c < length r.known); closed = λ e. refl; few = s.few }

-- all cells had their turns
module _ {X : Type 0} (meanings : X → Meanings) (first now : Registry) (old new : List X) (turns : List Turned) (exiting : Exiting meanings first now old new turns) (none : first_of (due now) ≡ None) where
  -- the log has all cells that were due at first
  pub all_turned : cells_of_turns turns ≡ due first
  all_turned = sym (append-nil (cells_of_turns turns)) ∙ ap (λ (cs : List ℕ). cells_of_turns turns ++ cs) (sym (nothing_due (due now) none)) ∙ exiting.order

  -- the registry is that of the beginning, closed
  pub closed_first : closed now ≡ closed first
  closed_first = ap (λ ks. let r : Registry = record { pending = []; left = []; known = ks; is_open = false } in r) exiting.known

  -- other objects are as they were
  pub others_stay : (c : ℕ) → occurs c (due first) ≡ 0 → slice_get new c ≡ slice_get old c
  others_stay c h = exiting.others c (rw all_turned h)
